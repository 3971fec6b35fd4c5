use Rattle.std.proofs.Common.{◌≡◌, List, [], drop, sym, ap, ◌∙◌, subst}
use Rattle.lua_meaning.specs.World.{given}
use Rattle.lua_meaning.specs.Control.{line_of}
use Rattle.lua_heap.specs.declared.value.Value.{Value}
use Rattle.lua_machine.specs.View.{EngineView}
use Rattle.lua_machine.specs.Ready.{IsServing}
use Rattle.lua_machine.specs.Does.{finishing, with_line}
use Rattle.lua_machine.specs.Printing.{texts_in}
use Rattle.lua_machine.proofs.Printed.{line_comes, rest_taken}
use Rattle.lua_machine.proofs.engine.Engine.print_line.Goals as goal

pub returns : goal.returns
returns c =
    let m = c.args.self.now in
    let r = subst IsServing (sym c.self.view_is) c.requires.ready in
    let line = c.in_ok-line.line.items in
    let is = subst (λ (y : EngineView). line ≡ line_of (texts_in y.heap.texts (drop y.extra_base y.extras))) c.self.view_is (c.in_ok-line.ensures ∙ ap (λ (vs : List Value). line_of (texts_in c.self.inside.heap.texts vs)) (rest_taken _ _ c.self.inside.extra_base c.deref.ensures.value)) in
    record {
      came = record {
        step = λ past. line_comes m line is past ∙ ap (finishing (given []) (with_line line past)) (sym c.self.view_is);
        kept = (record { frames = r.fit.frames; functions = r.fit.functions; chunks = r.fit.chunks }, c.clear.ensures.items);
      };
      few = tt;
    }
