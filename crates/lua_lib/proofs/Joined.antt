-- Texts of a table's values, put one behind the other.
use Rattle.std.proofs.Common.{◌≡◌, ℕ, zero, suc, ◌+◌, ◌-◌, ◌<◌, ◌≤◌, ℤ, pos, ◌+ℤ◌, List, [], ◌++◌, Option, None, Some, arith, ap, refl, sym, ◌∙◌, append_assoc, append-nil}
use Rattle.std.proofs.lemmas.Int.{ints}
use Rattle.lua_tree.specs.Tree.{Bytes}
use Rattle.lua_meaning.specs.Value.{Value, num}
use Rattle.lua_meaning.specs.Text.{as_text}
use Rattle.lua_meaning.specs.Store.{Store, raw_get}
use Rattle.lua_meaning.specs.Fault.{Fault as Error, says}
use Rattle.lua_meaning.specs.Arguments.{Lib, Answer, answers, faults, answer, ◌>>=◌, ◌>>>◌}
use Rattle.lua_meaning.specs.Tables.{joined, text_at, no_text}
use Rattle.lua_heap.specs.Heap.{HeapView, store_of}
use Rattle.lua_lib.specs.Runs.{Refuses}
use Rattle.lua_lib.specs.Joined.{item_text}
use Rattle.lua_lib.specs.Pieces.{put_before}

-- the text of a value, and that it has none
pub item-text : (s : Store) (t : ℕ) (i : ℤ) (v : Value) (text : Bytes) → v ≡ raw_get s t (num i) → as_text v ≡ Some text → item_text t i s ≡ answers text s
item-text s t i v text is seen = ap (λ w. text_at w i (as_text w) s) (sym is) ∙ ap (λ (o : Option Bytes). text_at v i o s) seen

pub item-no_text : (s : Store) (t : ℕ) (i n : ℤ) (v : Value) → n ≡ i → v ≡ raw_get s t (num i) → as_text v ≡ None → item_text t i s ≡ faults (says (no_text v n))
item-no_text s t i n v same is seen =
    ap (λ w. text_at w i (as_text w) s) (sym is) ∙ (ap (λ (o : Option Bytes). text_at v i o s) seen ∙ ap (λ (z : ℤ). faults (says (no_text v z))) (sym same))

module _ (between : Bytes) (t : ℕ) where
  -- what stands behind a value: nothing, or the text between and the next values
  abbrev pub joined_behind : ℤ → ℕ → Lib Bytes
  joined_behind i zero = answer []
  joined_behind i (suc more) = put_before between (joined between t i (suc more))

  empty-behind : (x : Answer Bytes) → x ≡ (x >>> λ text. put_before text (answer []))
  empty-behind (answers text s) = ap (λ (b : List ℕ). answers b s) (sym (append-nil text))
  empty-behind (faults e) = refl

  two-pieces : (x : Answer Bytes) (part : Lib Bytes)
      → (x >>> λ text. part >>= λ rest. answer (text ++ (between ++ rest))) ≡ (x >>> λ text. put_before text (put_before between part))
  two-pieces (answers text s) part = by (part s)
    where
      by : (y : Answer Bytes) → (y >>> λ rest. answer (text ++ (between ++ rest))) ≡ ((y >>> λ rest. answer (between ++ rest)) >>> λ rest. answer (text ++ rest))
      by (answers rest s) = refl
      by (faults e) = refl
  two-pieces (faults e) part = refl

  -- a value's text, and what stands behind it
  pub joined-one : (i : ℤ) (more : ℕ) (s : Store) → joined between t i (suc more) s ≡ (item_text t i s >>> λ text. put_before text (joined_behind (i +ℤ pos 1) more))
  joined-one i zero s = empty-behind (item_text t i s)
  joined-one i (suc more) s = two-pieces (item_text t i s) (joined between t (i +ℤ pos 1) (suc more))

  three-pieces : (made text new : Bytes) (y : Answer Bytes) → new ≡ (made ++ between) ++ text
      → (((y >>> λ rest. answer (text ++ rest)) >>> λ rest. answer (between ++ rest)) >>> λ rest. answer (made ++ rest)) ≡ (y >>> λ rest. answer (new ++ rest))
  three-pieces made text new (answers rest s) is =
      ap (λ (b : List ℕ). answers b s)
      (sym (append_assoc made between (text ++ rest)) ∙ (sym (append_assoc (made ++ between) text rest) ∙ ap (λ (b : List ℕ). b ++ rest) (sym is)))
  three-pieces made text new (faults e) is = refl

  one-piece : (made text new : Bytes) (y : Answer Bytes) → made ≡ [] → new ≡ made ++ text → (y >>> λ rest. answer (text ++ rest)) ≡ (y >>> λ rest. answer (new ++ rest))
  one-piece made text new y none is =
      let e : text ≡ new = sym (is ∙ ap (λ (b : List ℕ). b ++ text) none) in
      ap (λ (b : List ℕ). y >>> λ rest. answer (b ++ rest)) e

  module _ (from : ℤ) (s : Store) where
    -- the texts so far, and behind them those from here on
    abbrev pub joined_from : Bytes → ℕ → ℕ → Answer Bytes
    joined_from made n count = put_before made (joined_behind (from +ℤ pos n) (count - n)) s

    pub joined-first : (made text new : Bytes) (count : ℕ) → 0 < count → made ≡ [] → new ≡ made ++ text → item_text t (from +ℤ pos 0) s ≡ answers text s
        → joined between t from count s ≡ joined_from new 1 count
    joined-first made text new count some none is gives =
        let left : count ≡ suc (count - 1) = omega arith in
        let here : from ≡ from +ℤ pos 0 = omega (arith, ints) in
        let next : (from +ℤ pos 0) +ℤ pos 1 ≡ from +ℤ pos 1 = omega (arith, ints) in
        ap (λ (m : ℕ). joined between t from m s) left
        ∙ (ap (λ (z : ℤ). joined between t z (suc (count - 1)) s) here
        ∙ (joined-one (from +ℤ pos 0) (count - 1) s
        ∙ (ap (λ (r : Answer Bytes). r >>> λ text. put_before text (joined_behind ((from +ℤ pos 0) +ℤ pos 1) (count - 1))) gives
        ∙ (ap (λ (z : ℤ). put_before text (joined_behind z (count - 1)) s) next
        ∙ one-piece made text new (joined_behind (from +ℤ pos 1) (count - 1) s) none is))))

    pub joined-next : (made text mid new : Bytes) (n count : ℕ) → n < count → mid ≡ made ++ between → new ≡ mid ++ text → item_text t (from +ℤ pos n) s ≡ answers text s
        → joined_from made n count ≡ joined_from new (n + 1) count
    joined-next made text mid new n count within put is gives =
        let left : count - n ≡ suc (count - (n + 1)) = omega arith in
        let more = count - (n + 1) in
        let next : (from +ℤ pos n) +ℤ pos 1 ≡ from +ℤ pos (n + 1) = omega (arith, ints) in
        ap (λ (m : ℕ). put_before made (joined_behind (from +ℤ pos n) m) s) left
        ∙ (ap (λ (r : Answer Bytes). (r >>> λ rest. answer (between ++ rest)) >>> λ rest. answer (made ++ rest)) (joined-one (from +ℤ pos n) more s)
        ∙ (ap (λ (r : Answer Bytes). ((r >>> λ text. put_before text (joined_behind ((from +ℤ pos n) +ℤ pos 1) more)) >>> λ rest. answer (between ++ rest)) >>> λ rest. answer (made ++ rest)) gives
        ∙ (ap (λ (z : ℤ). ((put_before text (joined_behind z more) s) >>> λ rest. answer (between ++ rest)) >>> λ rest. answer (made ++ rest)) next
        ∙ three-pieces made text new (joined_behind (from +ℤ pos (n + 1)) more s) (is ∙ ap (λ (b : List ℕ). b ++ text) put))))

    pub joined-end : (made : Bytes) (n count : ℕ) → count ≤ n → joined_from made n count ≡ answers made s
    joined-end made n count past =
        let none : count - n ≡ 0 = omega arith in
        ap (λ (m : ℕ). put_before made (joined_behind (from +ℤ pos n) m) s) none ∙ ap (λ (b : List ℕ). answers b s) (append-nil made)

  -- a value that has no text
  pub first-refused : (h : HeapView) (from : ℤ) (count : ℕ) (e : Option Error) → 0 < count → Refuses h h (item_text t (from +ℤ pos 0)) e → Refuses h h (joined between t from count) e
  first-refused h from count None some refused = tt
  first-refused h from count (Some e) some refused =
      let s = store_of h in
      let left : count ≡ suc (count - 1) = omega arith in
      let here : from ≡ from +ℤ pos 0 = omega (arith, ints) in (
        ap (λ (m : ℕ). joined between t from m s) left
            ∙ (ap (λ (z : ℤ). joined between t z (suc (count - 1)) s) here
            ∙ (joined-one (from +ℤ pos 0) (count - 1) s
            ∙ ap (λ (r : Answer Bytes). r >>> λ text. put_before text (joined_behind ((from +ℤ pos 0) +ℤ pos 1) (count - 1))) refused.0)),
        refl,
      )

  pub next-refused : (h : HeapView) (from : ℤ) (made : Bytes) (n count : ℕ) (e : Option Error) → n < count
      → joined between t from count (store_of h) ≡ joined_from from (store_of h) made n count → Refuses h h (item_text t (from +ℤ pos n)) e → Refuses h h (joined between t from count) e
  next-refused h from made n count None within same refused = tt
  next-refused h from made n count (Some e) within same refused =
      let s = store_of h in
      let left : count - n ≡ suc (count - (n + 1)) = omega arith in
      let more = count - (n + 1) in (
        same
            ∙ (ap (λ (m : ℕ). put_before made (joined_behind (from +ℤ pos n) m) s) left
            ∙ (ap (λ (r : Answer Bytes). (r >>> λ rest. answer (between ++ rest)) >>> λ rest. answer (made ++ rest)) (joined-one (from +ℤ pos n) more s)
            ∙ ap (λ (r : Answer Bytes). ((r >>> λ text. put_before text (joined_behind ((from +ℤ pos n) +ℤ pos 1) more)) >>> λ rest. answer (between ++ rest)) >>> λ rest. answer (made ++ rest)) refused.0)),
        refl,
      )
