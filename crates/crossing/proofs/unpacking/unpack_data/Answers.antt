use Rattle.std.proofs.Common.{◌≡◌, subst, refl}
use Rattle.lua_meaning.specs.Store.{add_contents}
use Rattle.lua_heap.specs.Heap.{Becomes}
use Rattle.love_base.specs.Data.{Contents}
use Rattle.crossing.proofs.Keeping.{Keeps-same, Keeps-add_contents}
use Rattle.crossing.proofs.Unpacked.{unpacked-data}
use Rattle.crossing.proofs.unpacking.unpack_data.Goals as goal

pub returns-in_err-share-clause-kept : goal.returns-in_err-share-clause-kept
returns-in_err-share-clause-kept c = Keeps-same _ c.args.heap.now c.args.heap.now refl

pub returns-in_err-id-clause-kept : goal.returns-in_err-id-clause-kept
returns-in_err-id-clause-kept c = Keeps-same _ c.args.heap.now c.add_data.new.self (c.in_err-id.ensures.refused)

pub returns-clause-unpacked : goal.returns-clause-unpacked
returns-clause-unpacked c =
    let shared : c.in_ok-share.field-0 ≡ c.args.content.now = c.in_ok-share.ensures in
    unpacked-data c.args.heap.now c.add_data.new.self c.args.content.now c.in_ok-id.id c.in_ok-id.ensures.id c.in_ok-id.ensures.made
    (subst (λ (made : Contents). Becomes c.args.heap.now c.add_data.new.self (λ s. add_contents s made)) shared c.in_ok-id.ensures.store)

pub returns-clause-kept : goal.returns-clause-kept
returns-clause-kept c = Keeps-add_contents _ c.args.heap.now c.add_data.new.self c.in_ok-share.field-0 c.in_ok-id.ensures.store c.in_ok-id.ensures.extends
