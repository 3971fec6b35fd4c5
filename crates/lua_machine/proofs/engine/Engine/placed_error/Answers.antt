use Rattle.std.proofs.Common.{◌++◌, Some, ap, ◌∙◌}
use Rattle.lua_tree.specs.Tree.{Bytes}
use Rattle.lua_meaning.specs.Fault.{Place}
use Rattle.lua_heap.specs.Native.{native_view}
use Rattle.lua_lib.specs.Texts.{placed_text}
use Rattle.lua_code.specs.View.{ProtoView}
use Rattle.lua_machine.specs.View.{line_of}
use Rattle.lua_machine.proofs.Doing.{later_at}
use Rattle.lua_machine.proofs.Failing.{text_of, place_is}
use Rattle.lua_machine.proofs.engine.Engine.placed_error.Goals as goal

pub invariant_of-self-2 : goal.invariant_of-self-2
invariant_of-self-2 c = later_at _ c.intern.new.self _ c.intern.ensures.extends c.self.invariant

pub returns : goal.returns
returns c =
    let m = c.args.self.now in
    let f = native_view c.args.native in
    let file = c.bytes.ensures ∙ c.file.ensures ∙ ap (λ (p : ProtoView). p.file) c.waiting_code-proto.ensures in
    let line = c.call_line-line.ensures ∙ ap (λ (p : ProtoView). line_of p c.args.frame.pc) c.waiting_code-proto.ensures in
    let there =
    c.in_ok-id.ensures.id
    ∙ ap (λ (b : Bytes). Some b) (c.as_slice.ensures.value ∙ c.in_ok-put_placed.ensures
    ∙ ap (λ (b : Bytes). b ++ placed_text f (record { file = c.bytes.result.now; line = c.call_line-line.result }) c.args.cause.now) c.clear.ensures.items
    ∙ ap (λ (p : Place). placed_text f p c.args.cause.now) (place_is m.chunks c.args.frame c.bytes.result.now c.call_line-line.result c.requires.caller.known file line)) in
    text_of _ m c.self.view_is c.self.invariant c.requires.fit c.intern.new.self c.in_ok-id.id _ there c.in_ok-id.ensures.made c.intern.ensures.extends c.intern.ensures.store c.intern.ensures.functions
