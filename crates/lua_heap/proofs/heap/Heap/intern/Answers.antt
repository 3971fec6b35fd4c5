use Rattle.std.proofs.Common.{ap, ◌∙◌}
use Rattle.lua_heap.specs.Heap.{store_of}
use Rattle.lua_heap.proofs.TextsLemmas.{interned-prefix}
use Rattle.lua_heap.proofs.HeapLemmas.{IsHeap-with-texts, store_of-with-texts, Extends-texts}
use Rattle.lua_heap.proofs.heap.Heap.intern.Goals as goal

pub invariant_of-self-2 : goal.invariant_of-self-2
invariant_of-self-2 c =
    let grown = interned-prefix c.self.inside.texts c.args.bytes.now in
    IsHeap-with-texts _ c.self.invariant c.intern.new.self grown.0 (c.in_ok-intern.ensures.texts ∙ grown.1) c.in_ok-intern.ensures.once

pub returns-clause-store : goal.returns-clause-store
returns-clause-store c =
    let grown = interned-prefix c.self.inside.texts c.args.bytes.now in
    store_of-with-texts _ c.self.invariant c.intern.new.self grown.0 (c.in_ok-intern.ensures.texts ∙ grown.1) ∙ ap (λ h. store_of h) c.self.view_is

pub returns-clause-extends : goal.returns-clause-extends
returns-clause-extends c =
    let grown = interned-prefix c.self.inside.texts c.args.bytes.now in
    Extends-texts _ _ c.intern.new.self grown.0 c.self.view_is (c.in_ok-intern.ensures.texts ∙ grown.1)
