-- Binary operators on two numbers.
use Rattle.std.specs.Prelude.{◌≡◌, ℤ}
use Rattle.lua_tree.specs.Tree.{BinOp}
use Rattle.lua_meaning.specs.Value.{num}
use Rattle.lua_meaning.specs.Store.{Store}
use Rattle.lua_heap.specs.declared.value.Value.{Value}
use Rattle.lua_heap.specs.Value.{value_view}
use Rattle.lua_heap.specs.Heap.{HeapView, IsMade}
use Rattle.lua_code.specs.Doing.{gives, binary_doing}

-- an operator gives a value of two numbers, in any store; the value is a number or a flag
pub record GivesOfNumbers (op : BinOp) (x y : ℤ) (v : Value) : Type 0 where
  pub gives : (h : HeapView) (s : Store) → binary_doing op s (num x) (num y) ≡ gives (value_view h.texts v)
  pub made : (h : HeapView) → IsMade h v
