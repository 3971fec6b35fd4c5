-- Messages that became values of a heap, and what the heap keeps of what it had.
use Rattle.std.specs.Prelude.{◌≡◌, ℕ, List, map, take}
use Rattle.std.specs.List.{AllByRecursion}
use Rattle.lua_meaning.specs.Message.{Message}
use Rattle.lua_meaning.specs.Packing.{unpack, unpack_all}
use Rattle.lua_heap.specs.declared.value.Value.{Value}
use Rattle.lua_heap.specs.Value.{value_view}
use Rattle.lua_heap.specs.Heap.{HeapView, store_of, IsMade, Extends}

-- a value is what the definitions make of a message, and so is the heap's store
pub record IsUnpacked (m : Message) (before after : HeapView) (v : Value) : Type 0 where
  pub value : value_view after.texts v ≡ (unpack m (store_of before)).0
  pub store : store_of after ≡ (unpack m (store_of before)).1
  pub made : IsMade after v

-- the same of messages in their order
pub record AreUnpacked (ms : List Message) (before after : HeapView) (vs : List Value) : Type 0 where
  pub values : map (value_view after.texts) vs ≡ (unpack_all ms (store_of before)).0
  pub store : store_of after ≡ (unpack_all ms (store_of before)).1
  pub made : AllByRecursion (IsMade after) vs

-- the first tables, so many, stand as they were, and so do all cells and functions; what was made stays made
pub record Keeps (count : ℕ) (before after : HeapView) : Type 0 where
  pub tables : take count (store_of after).tables ≡ take count (store_of before).tables
  pub cells : (store_of after).cells ≡ (store_of before).cells
  pub functions : after.functions ≡ before.functions
  pub extends : Extends before after
