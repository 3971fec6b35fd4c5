-- Bytes as numbers of a heap.
use Rattle.std.proofs.Common.{◌≡◌, ℕ, pos, List, [], ◌∷◌, map, ap, refl, sym, ◌∙◌, subst}
use Rattle.lua_tree.specs.Tree.{Bytes}
use Rattle.lua_meaning.specs.Value as meant
use Rattle.lua_meaning.specs.Strings as meaning
use Rattle.lua_heap.specs.declared.value.Value.{Value}
use Rattle.lua_heap.specs.declared.value.Value.TheVariants.{Num}
use Rattle.lua_heap.specs.Value.{value_view}
use Rattle.lua_heap.specs.Heap.{HeapView}
use Rattle.lua_lib.specs.Causes.{AreMade}

abbrev values : List ℕ → List Value
values bytes = map (λ byte. Num (pos byte)) bytes

seen : (texts : List Bytes) (bytes : List ℕ) → map meaning.byte_value bytes ≡ map (value_view texts) (values bytes)
seen texts [] = refl
seen texts (b ∷ bs) = ap (λ (vs : List meant.Value). meaning.byte_value b ∷ vs) (seen texts bs)

made : (h : HeapView) (bytes : List ℕ) → AreMade h (values bytes)
made h [] = tt
made h (b ∷ bs) = (tt, made h bs)

pub byte_values-are : (texts : List Bytes) (bytes : List ℕ) (given : List Value) → given ≡ values bytes
    → map meaning.byte_value bytes ≡ map (value_view texts) given
byte_values-are texts bytes given is = seen texts bytes ∙ ap (λ (vs : List Value). map (value_view texts) vs) (sym is)

pub byte_values-made : (h : HeapView) (bytes : List ℕ) (given : List Value) → given ≡ values bytes → AreMade h given
byte_values-made h bytes given is = let P : List Value → Type 0 = λ vs. AreMade h vs in subst P (sym is) (made h bytes)
