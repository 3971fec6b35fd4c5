use Rattle.std.proofs.Common.{ℕ, List, subst}
use Rattle.std.specs.Prelude.{reverse}
use Rattle.lua_meaning.specs.MessageView.{message_view}
use Rattle.lua_meaning.specs.Packing.{pack_within}
use Rattle.lua_heap.specs.Value.{value_view}
use Rattle.lua_heap.specs.Heap.{store_of}
use Rattle.crossing.specs.Fault.{Answers}
use Rattle.crossing.proofs.packing.pack.Goals as goal

pub returns : goal.returns
returns c =
    subst (λ (inside : List ℕ). Answers message_view (pack_within 128 (store_of c.args.heap.now) (reverse inside) (value_view c.args.heap.now.texts c.args.value)) c.pack_within.result)
    c.new-inside.ensures.items c.pack_within.ensures.packed
