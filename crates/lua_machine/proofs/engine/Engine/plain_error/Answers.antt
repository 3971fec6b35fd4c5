use Rattle.std.proofs.Common.{◌++◌, Some, ap, ◌∙◌}
use Rattle.lua_tree.specs.Tree.{Bytes}
use Rattle.lua_heap.specs.Native.{native_view}
use Rattle.lua_lib.specs.Texts.{cause_text}
use Rattle.lua_machine.proofs.Doing.{later_at}
use Rattle.lua_machine.proofs.Failing.{text_of}
use Rattle.lua_machine.proofs.engine.Engine.plain_error.Goals as goal

pub invariant_of-self-2 : goal.invariant_of-self-2
invariant_of-self-2 c = later_at _ c.intern.new.self _ c.intern.ensures.extends c.self.invariant

pub returns : goal.returns
returns c =
    let there =
    c.in_ok-id.ensures.id
    ∙ ap (λ (b : Bytes). Some b) (c.as_slice.ensures.value ∙ c.in_ok-put_text.ensures
    ∙ ap (λ (b : Bytes). b ++ cause_text (native_view c.args.native) c.args.cause.now) c.clear.ensures.items) in
    text_of _ c.args.self.now c.self.view_is c.self.invariant c.requires.fit c.intern.new.self c.in_ok-id.id _ there c.in_ok-id.ensures.made c.intern.ensures.extends c.intern.ensures.store c.intern.ensures.functions
