use Rattle.std.proofs.Common.{◌≡◌, ℕ, [], ◌∷◌, ◌++◌, ◌-◌, ◌<◌, List, length, get_or, sym, ap, ◌∙◌, subst}
use Rattle.std.specs.Prelude.{map, replicate}
use Rattle.lua_meaning.specs.Value as meant
use Rattle.lua_meaning.specs.Store.{Store}
use Rattle.lua_meaning.specs.Packing.{unpack_all}
use Rattle.lua_meaning.specs.MessageView.{message_view}
use Rattle.lua_heap.specs.declared.value.Value.TheVariants.{Nil}
use Rattle.lua_code.specs.View.{ProtoView}
use Rattle.lua_machine.specs.declared.chunk.Chunk.{Chunk}
use Rattle.lua_machine.specs.View.{proto_at}
use Rattle.lua_machine.specs.Made.{IsEngine}
use Rattle.lua_machine.specs.Ready.{IsReady}
use Rattle.lua_machine.specs.Starting.{Begins}
use Rattle.lua_operators.proofs.Callers.{AreEvents-later}
use Rattle.lua_machine.proofs.Starts.{first_engine, first_same, first_made, loaded_now, first_ready, first_begins, read_is}
use Rattle.lua_machine.proofs.engine.Engine.begin.Goals as goal

pub invariant_of-result : goal.invariant_of-result
invariant_of-result c =
    let chunk = c.in_ok-chunk.chunk in
    let before = c.load.new.heap in
    let heap = c.unpack_all.new.heap in
    let events = c.in_ok-events.events in
    let func = c.in-Some.func in
    let proto = c.index-protos-func.result in
    let n = c.size.result in
    let chunks : c.push.new.self.items ≡ chunk ∷ [] = c.in_ok-push.ensures.items ∙ ap (λ (cs : List Chunk). cs ++ chunk ∷ []) c.new-chunks.ensures.items in
    subst IsEngine (sym (first_same heap events chunk func proto c.args.ticks n c.in_ok-extras.extras.items _ _ _ _ _ _ _ chunks c.in_ok-values.ensures c.new-3.ensures.items c.new-4.ensures.items c.new-5.ensures.items c.new-6.ensures.items c.new-7.ensures.items))
    (first_made before heap events chunk n c.in_ok-extras.extras.items func proto c.args.ticks c.unpack_all.ensures.kept.extends (AreEvents-later c.new.new.heap before c.load.ensures.extends events c.in_ok-events.ensures.events) c.in_ok-chunk.ensures.made c.in_ok-extras.ensures.unpacked.made)

pub returns-clause-ready : goal.returns-clause-ready
returns-clause-ready c =
    let chunk = c.in_ok-chunk.chunk in
    let before = c.load.new.heap in
    let heap = c.unpack_all.new.heap in
    let events = c.in_ok-events.events in
    let func = c.in-Some.func in
    let proto = c.index-protos-func.result in
    let n = c.size.result in
    let chunks : c.push.new.self.items ≡ chunk ∷ [] = c.in_ok-push.ensures.items ∙ ap (λ (cs : List Chunk). cs ++ chunk ∷ []) c.new-chunks.ensures.items in
    let code = c.in_ok-chunk.ensures.code in
    let last = c.in-Some.ensures.number ∙ ap (λ (ps : List ProtoView). length ps - 1) (sym code) in
    let none = c.unpack_all.ensures.kept.functions ∙ c.load.ensures.functions ∙ c.in_ok-events.ensures.functions ∙ c.in_ok-heap.ensures.functions in
    let is : proto ≡ proto_at (chunk ∷ []) 0 func =
    c.index-protos-func.is ∙ ap (λ (ps : List ProtoView). get_or ps func proto) (c.protos.ensures.protos ∙ sym code)
    ∙ read_is chunk.code.now func proto (subst (λ (ps : List ProtoView). func < length ps) (sym code) c.in-Some.ensures.known) in
    subst IsReady (sym (first_same heap events chunk func proto c.args.ticks n c.in_ok-extras.extras.items _ _ _ _ _ _ _ chunks c.in_ok-values.ensures c.new-3.ensures.items c.new-4.ensures.items c.new-5.ensures.items c.new-6.ensures.items c.new-7.ensures.items))
    (first_ready heap events chunk n c.in_ok-extras.extras.items func c.args.ticks proto (loaded_now before heap chunk c.unpack_all.ensures.kept.extends c.in_ok-chunk.ensures.made c.in_ok-chunk.ensures.loaded) none last is (sym c.size.ensures))

pub returns-clause-begins : goal.returns-clause-begins
returns-clause-begins c =
    let chunk = c.in_ok-chunk.chunk in
    let before = c.load.new.heap in
    let heap = c.unpack_all.new.heap in
    let events = c.in_ok-events.events in
    let func = c.in-Some.func in
    let proto = c.index-protos-func.result in
    let n = c.size.result in
    let chunks : c.push.new.self.items ≡ chunk ∷ [] = c.in_ok-push.ensures.items ∙ ap (λ (cs : List Chunk). cs ++ chunk ∷ []) c.new-chunks.ensures.items in
    let code = c.in_ok-chunk.ensures.code in
    let last = c.in-Some.ensures.number ∙ ap (λ (ps : List ProtoView). length ps - 1) (sym code) in
    let none = c.unpack_all.ensures.kept.functions ∙ c.load.ensures.functions ∙ c.in_ok-events.ensures.functions ∙ c.in_ok-heap.ensures.functions in
    let store = c.load.ensures.store ∙ c.in_ok-events.ensures.store ∙ c.in_ok-heap.ensures.store in
    let is : proto ≡ proto_at (chunk ∷ []) 0 func =
    c.index-protos-func.is ∙ ap (λ (ps : List ProtoView). get_or ps func proto) (c.protos.ensures.protos ∙ sym code)
    ∙ read_is chunk.code.now func proto (subst (λ (ps : List ProtoView). func < length ps) (sym code) c.in-Some.ensures.known) in
    let messages = map message_view c.args.args.now in
    subst (Begins c.args.code.now messages c.args.state c.args.ticks) (sym (first_same heap events chunk func proto c.args.ticks n c.in_ok-extras.extras.items _ _ _ _ _ _ _ chunks c.in_ok-values.ensures c.new-3.ensures.items c.new-4.ensures.items c.new-5.ensures.items c.new-6.ensures.items c.new-7.ensures.items))
    (subst (λ (ps : List ProtoView). Begins ps messages c.args.state c.args.ticks (first_engine heap events chunk (replicate n Nil) c.in_ok-extras.extras.items func proto c.args.ticks)) code
    (first_begins heap events chunk n c.in_ok-extras.extras.items func c.args.ticks proto (loaded_now before heap chunk c.unpack_all.ensures.kept.extends c.in_ok-chunk.ensures.made c.in_ok-chunk.ensures.loaded) none last is _ _
    (c.in_ok-extras.ensures.unpacked.values ∙ ap (λ (s : Store). (unpack_all messages s).0) store)
    (c.in_ok-extras.ensures.unpacked.store ∙ ap (λ (s : Store). (unpack_all messages s).1) store)))
