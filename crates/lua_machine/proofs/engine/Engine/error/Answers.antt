use Rattle.std.proofs.Common.{Some, ap, ◌∙◌}
use Rattle.lua_tree.specs.Tree.{Bytes}
use Rattle.lua_meaning.specs.Fault.{placed}
use Rattle.lua_machine.specs.View.{EngineView}
use Rattle.lua_machine.proofs.Doing.{later_at}
use Rattle.lua_machine.proofs.Raising.{raised_of}
use Rattle.lua_machine.proofs.engine.Engine.error.Goals as goal

pub invariant_of-self-2 : goal.invariant_of-self-2
invariant_of-self-2 c = later_at _ c.intern.new.self _ c.intern.ensures.extends c.self.invariant

pub returns : goal.returns
returns c =
    let m = c.args.self.now in
    let line = c.line-line.result in
    let text = c.args.text.now in
    let file = c.bytes.ensures ∙ c.file.ensures ∙ ap (λ (v : EngineView). v.proto.file) c.self.view_is in
    let there =
    c.in_ok-id.ensures.id
    ∙ ap (λ (b : Bytes). Some b) (c.as_slice.ensures.value ∙ c.in_ok-put_placed.ensures ∙ ap (λ (f : Bytes). placed (Some (record { file = f; line = line })) text) file) in
    raised_of _ m c.self.view_is c.self.invariant c.requires.ready c.intern.new.self c.in_ok-id.id line text there c.in_ok-id.ensures.made c.line-line.ensures c.intern.ensures.extends c.intern.ensures.store c.intern.ensures.functions
