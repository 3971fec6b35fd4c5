use Rattle.std.proofs.Common.{◌≡◌, length, map, sym, ap, ◌∙◌, subst}
use Rattle.lua_meaning.specs.Value.{first}
use Rattle.lua_heap.specs.Value.{value_view}
use Rattle.lua_machine.specs.declared.status.Status.TheVariants.{Goes}
use Rattle.lua_machine.specs.View.{EngineView}
use Rattle.lua_machine.specs.Made.{IsEngine}
use Rattle.lua_machine.specs.Ready.{WantsFit}
use Rattle.lua_machine.specs.Serving.{Delivers}
use Rattle.lua_machine.proofs.Leaving.{one_unless}
use Rattle.lua_machine.proofs.Resuming.{top_fits, delivers_one, delivers_all, on_ok}
use Rattle.lua_machine.proofs.engine.Engine.receive_args.Goals as goal

pub receive-requires : goal.receive-requires
receive-requires c =
    let went = c.resume.ensures in
    record {
      one = one_unless c.args.wants c.in_default.not-ToTail;
      fits = subst (λ (y : EngineView). WantsFit y.base (length y.values) c.args.wants) (sym went.are)
          (top_fits c.args.self.now c.requires.fit went.frames c.args.frame went.were c.args.wants c.requires.waits);
      made = c.first_arg-value.ensures.made;
    }

pub returns : goal.returns
returns c =
    let m = c.args.self.now in
    let is : IsEngine m = subst IsEngine c.self.view_is c.self.invariant in
    let went = c.resume.ensures in
    let value = subst (λ (y : EngineView). value_view y.heap.texts c.first_arg-value.result ≡ first (map (value_view y.heap.texts) y.args)) went.are c.first_arg-value.ensures.value in
    subst (Delivers Goes m) (sym c.receive.ensures)
    (delivers_one m c.resume.new.self is c.requires.fit c.args.frame c.args.wants c.requires.waits went c.first_arg-value.result (one_unless c.args.wants c.in_default.not-ToTail) value)

pub returns-in-ToTail : goal.returns-in-ToTail
returns-in-ToTail c =
    let m = c.args.self.now in
    let new = c.resume.new.self in
    let is : IsEngine m = subst IsEngine c.self.view_is c.self.invariant in
    let went = c.resume.ensures in
    on_ok c.keep_args.result (c.keep_args.new.self ≡ record new { tail = new.args }) (Delivers Goes m c.keep_args.new.self)
    (λ kept. subst (Delivers Goes m) (sym (kept ∙ ap (λ (y : EngineView). record new { tail = y.args }) went.are))
    (delivers_all m new is c.requires.fit c.args.frame c.args.wants c.requires.waits went (sym c.in-ToTail.is))) c.keep_args.ensures
