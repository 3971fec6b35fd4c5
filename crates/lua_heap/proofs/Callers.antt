-- What a crate above may use of a heap's growth: a value that was made stays made, and is the same value to the definitions.
pub use Rattle.lua_heap.proofs.HeapLemmas.{Extends-same, Extends-trans, IsMade-later, value_view-later}
