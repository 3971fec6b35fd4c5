-- Values of a table at numbers that follow one another.
use Rattle.std.proofs.Common.{◌≡◌, ℕ, suc, ◌+◌, ◌-◌, ◌<◌, ◌≤◌, ℤ, pos, ◌+ℤ◌, List, [], ◌∷◌, ◌++◌, length, map, arith, ap, ◌∙◌, append_assoc, append-nil}
use Rattle.std.proofs.lemmas.Int.{ints}
use Rattle.std.proofs.lemmas.List.{map-append, length-append}
use Rattle.lua_tree.specs.Tree.{Bytes}
use Rattle.lua_meaning.specs.Value as meant
use Rattle.lua_meaning.specs.Store.{Store, raw_get}
use Rattle.lua_meaning.specs.Basic.{items_from}
use Rattle.lua_heap.specs.declared.value.Value.{Value}
use Rattle.lua_heap.specs.Value.{value_view}
use Rattle.lua_heap.specs.Heap.{HeapView, IsMade, Extends}
use Rattle.lua_heap.proofs.Callers.{IsMade-later}
use Rattle.lua_lib.specs.Causes.{AreMade}

-- ---- values that were made, one more at the end

pub AreMade-last : (h : HeapView) (vs : List Value) (v : Value) (new : List Value) → new ≡ vs ++ v ∷ [] → AreMade h vs → IsMade h v → AreMade h new
AreMade-last h vs v new is all own = rw is (last vs all)
  where
    last : (vs : List Value) → AreMade h vs → AreMade h (vs ++ v ∷ [])
    last [] all = (own, tt)
    last (w ∷ ws) all = (all.0, last ws all.1)

pub seen-last : (texts : List Bytes) (vs : List Value) (v : Value) (new : List Value) → new ≡ vs ++ v ∷ []
    → map (value_view texts) new ≡ map (value_view texts) vs ++ value_view texts v ∷ []
seen-last texts vs v new is = ap (map (value_view texts)) is ∙ map-append (value_view texts) vs (v ∷ [])

pub length-last : (vs : List Value) (v : Value) (new : List Value) → new ≡ vs ++ v ∷ [] → length new ≡ length vs + 1
length-last vs v new is = ap (λ (ws : List Value). length ws) is ∙ length-append vs (v ∷ [])

pub AreMade-later : (h k : HeapView) → Extends h k → (vs : List Value) → AreMade h vs → AreMade k vs
AreMade-later h k more [] made = tt
AreMade-later h k more (v ∷ vs) made = (IsMade-later h k more v made.0, AreMade-later h k more vs made.1)

-- ---- items

module _ (s : Store) (t : ℕ) (from : ℤ) where
  -- the values so far, and those from here on
  abbrev pub items_behind : List meant.Value → ℕ → ℕ → List meant.Value
  items_behind vs n count = vs ++ items_from s t (from +ℤ pos n) (count - n)

  pub items-start : (vs : List meant.Value) (count : ℕ) → vs ≡ [] → items_behind vs 0 count ≡ items_from s t from count
  items-start vs count none =
      let number : from +ℤ pos 0 ≡ from = omega (arith, ints) in
      let all : count - 0 ≡ count = omega arith in
      ap (λ (ws : List meant.Value). ws ++ items_from s t (from +ℤ pos 0) (count - 0)) none
      ∙ (ap (λ (z : ℤ). items_from s t z (count - 0)) number ∙ ap (λ (n : ℕ). items_from s t from n) all)

  pub items-next : (vs new : List meant.Value) (v : meant.Value) (n count : ℕ) → n < count → v ≡ raw_get s t (meant.num (from +ℤ pos n))
      → new ≡ vs ++ v ∷ [] → items_behind new (n + 1) count ≡ items_behind vs n count
  items-next vs new v n count within is grown =
      let left : suc (count - (n + 1)) ≡ count - n = omega arith in
      let more = count - (n + 1) in
      let number : from +ℤ pos (n + 1) ≡ (from +ℤ pos n) +ℤ pos 1 = omega (arith, ints) in
      ap (λ (ws : List meant.Value). ws ++ items_from s t (from +ℤ pos (n + 1)) more) grown
      ∙ (append_assoc vs (v ∷ []) (items_from s t (from +ℤ pos (n + 1)) more)
      ∙ (ap (λ (z : ℤ). vs ++ (v ∷ items_from s t z more)) number
      ∙ (ap (λ (w : meant.Value). vs ++ (w ∷ items_from s t ((from +ℤ pos n) +ℤ pos 1) more)) is
      ∙ ap (λ (m : ℕ). vs ++ items_from s t (from +ℤ pos n) m) left)))

  pub items-end : (vs : List meant.Value) (n count : ℕ) → count ≤ n → items_behind vs n count ≡ vs
  items-end vs n count past =
      let none : count - n ≡ 0 = omega arith in
      ap (λ (m : ℕ). vs ++ items_from s t (from +ℤ pos n) m) none ∙ append-nil vs
