-- Values in order are what `sorted` gives of them.
use Rattle.std.proofs.Common.{◌≡◌, ◌≢◌, ℕ, ◌+◌, ◌<◌, ◌≤◌, ℤ, Bool, true, false, List, [], ◌∷◌, length, get_or, drop, map, arith, ap, refl, sym, ◌∙◌}
use Rattle.std.specs.Prelude.{if◌then◌else◌, ◌||◌, codes}
use Rattle.std.specs.List.{All}
use Rattle.std.specs.List.Sorted.{IsPermutation, IsSorted, IsSortedByKey}
use Rattle.std.specs.Ordering.{nat_cmp, int_cmp}
use Rattle.std.specs.Cmp.Lexicographic.{slice_cmp}
use Rattle.std.specs.declared.cmp.Ordering.{Ordering}
use Rattle.std.proofs.lemmas.List.{get_or-map, length-map, at_drop_more, at_drop_all}
use Rattle.std.proofs.lemmas.List.Elements.{All-nil, All-cons, All-head, All-tail, All-from_recursion, recursion_from_All}
use Rattle.std.proofs.lemmas.List.Sorted.{IsPermutation-map, All-permutation}
use Rattle.lua_tree.specs.Tree.{Bytes}
use Rattle.lua_meaning.specs.Value as meant
use Rattle.lua_meaning.specs.Fault.{says}
use Rattle.lua_meaning.specs.Arguments.{Lib, fault}
use Rattle.lua_meaning.specs.Tables.{are_numbers, are_texts, sorted, sort_items}
use Rattle.lua_heap.specs.declared.value.Value.{Value}
use Rattle.lua_heap.specs.declared.value.Value.TheVariants.{Nil, Bool as Flag, Num, Str, Table, Func, Native, Channel, Thread, Data}
use Rattle.lua_heap.specs.Value.{value_view}
use Rattle.lua_heap.specs.Heap.{HeapView, IsMade}
use Rattle.lua_lib.specs.Causes.{AreMade}
use Rattle.lua_lib.specs.Sorts.{number_of, bytes_of, set_in_order}
use Rattle.lua_lib.proofs.Sorting.{numbers-sorted, texts-sorted}

-- ---- values of one kind, from one on

module _ (texts : List Bytes) (vs : List Value) (n : ℕ) where
  abbrev numbers : List Value → Bool
  numbers ws = are_numbers (map (value_view texts) ws)

  abbrev strings : List Value → Bool
  strings ws = are_texts (map (value_view texts) ws)

  pub numbers-on : (v : Value) (z : ℤ) → n < length vs → v ≡ get_or vs n v → v ≡ Num z → numbers (drop n vs) ≡ numbers (drop (n + 1) vs)
  numbers-on v z within is number =
      at_drop_more numbers vs n v within ∙ ap (λ (w : Value). numbers (w ∷ drop (n + 1) vs)) (sym is ∙ number)

  pub numbers-off : (v : Value) → n < length vs → v ≡ get_or vs n v → ((z : ℤ) → v ≡ Num z → ⊥) → numbers (drop n vs) ≡ false
  numbers-off v within is other = at_drop_more numbers vs n v within ∙ (ap (λ (w : Value). numbers (w ∷ drop (n + 1) vs)) (sym is) ∙ by v other)
    where
      by : (v : Value) → ((z : ℤ) → v ≡ Num z → ⊥) → numbers (v ∷ drop (n + 1) vs) ≡ false
      by Nil other = refl
      by (Flag b) other = refl
      by (Num z) other = absurd (other z refl)
      by (Str id) other = refl
      by (Table id) other = refl
      by (Func id) other = refl
      by (Native f) other = refl
      by (Channel k) other = refl
      by (Thread k) other = refl
      by (Data id) other = refl

  pub numbers-end : length vs ≤ n → numbers (drop n vs) ≡ true
  numbers-end past = at_drop_all numbers vs n past

  pub strings-on : (v : Value) (id : ℕ) → n < length vs → v ≡ get_or vs n v → v ≡ Str id → strings (drop n vs) ≡ strings (drop (n + 1) vs)
  strings-on v id within is text =
      at_drop_more strings vs n v within ∙ ap (λ (w : Value). strings (w ∷ drop (n + 1) vs)) (sym is ∙ text)

  pub strings-off : (v : Value) → n < length vs → v ≡ get_or vs n v → ((id : ℕ) → v ≡ Str id → ⊥) → strings (drop n vs) ≡ false
  strings-off v within is other = at_drop_more strings vs n v within ∙ (ap (λ (w : Value). strings (w ∷ drop (n + 1) vs)) (sym is) ∙ by v other)
    where
      by : (v : Value) → ((id : ℕ) → v ≡ Str id → ⊥) → strings (v ∷ drop (n + 1) vs) ≡ false
      by Nil other = refl
      by (Flag b) other = refl
      by (Num z) other = refl
      by (Str id) other = absurd (other id refl)
      by (Table id) other = refl
      by (Func id) other = refl
      by (Native f) other = refl
      by (Channel k) other = refl
      by (Thread k) other = refl
      by (Data id) other = refl

  pub strings-end : length vs ≤ n → strings (drop n vs) ≡ true
  strings-end past = at_drop_all strings vs n past

-- ---- values that their keys make

-- keys in order are a list in order
keys-sorted : {X K : Type 0} → (key : X → K) (cmp : K → K → Ordering) (ys : List X) → IsSortedByKey key cmp ys → IsSorted cmp (map key ys)
keys-sorted key cmp [] up = λ k d from to. absurd (omega arith)
keys-sorted {X = X} key cmp (y ∷ ys) up = λ k d from to.
    let all : List X = y ∷ ys in
    let within : k + 1 < length all = omega (arith, length-map all key) in
    rw (get_or-map key all (k + 1) y d within, get_or-map key all k y d (omega arith)) (up k y from within)

module _ {K : Type 0} (texts : List Bytes) (key : Value → K) (value : K → meant.Value) where
  abbrev IsOfKey : Value → Type 0
  IsOfKey v = value_view texts v ≡ value (key v)

  keys-are : (vs : List Value) → All IsOfKey vs → map (value_view texts) vs ≡ map value (map key vs)
  keys-are [] all = refl
  keys-are (v ∷ vs) all =
      ap (λ (w : meant.Value). w ∷ map (value_view texts) vs) (All-head IsOfKey v vs all)
      ∙ ap (λ (ws : List meant.Value). value (key v) ∷ ws) (keys-are vs (All-tail IsOfKey v vs all))

module _ (texts : List Bytes) where
  all_numbers : (vs : List Value) → are_numbers (map (value_view texts) vs) ≡ true → All (IsOfKey texts number_of meant.num) vs
  all_numbers [] e = All-nil (IsOfKey texts number_of meant.num)
  all_numbers (Num z ∷ vs) e = All-cons (IsOfKey texts number_of meant.num) (Num z) vs refl (all_numbers vs e)
  all_numbers (Nil ∷ vs) e = cc
  all_numbers (Flag b ∷ vs) e = cc
  all_numbers (Str id ∷ vs) e = cc
  all_numbers (Table id ∷ vs) e = cc
  all_numbers (Func id ∷ vs) e = cc
  all_numbers (Native f ∷ vs) e = cc
  all_numbers (Channel k ∷ vs) e = cc
  all_numbers (Thread k ∷ vs) e = cc
  all_numbers (Data id ∷ vs) e = cc

  all_texts : (vs : List Value) → are_texts (map (value_view texts) vs) ≡ true → All (IsOfKey texts (bytes_of texts) meant.str) vs
  all_texts [] e = All-nil (IsOfKey texts (bytes_of texts) meant.str)
  all_texts (Str id ∷ vs) e = All-cons (IsOfKey texts (bytes_of texts) meant.str) (Str id) vs refl (all_texts vs e)
  all_texts (Nil ∷ vs) e = cc
  all_texts (Flag b ∷ vs) e = cc
  all_texts (Num z ∷ vs) e = cc
  all_texts (Table id ∷ vs) e = cc
  all_texts (Func id ∷ vs) e = cc
  all_texts (Native f ∷ vs) e = cc
  all_texts (Channel k ∷ vs) e = cc
  all_texts (Thread k ∷ vs) e = cc
  all_texts (Data id ∷ vs) e = cc

  module _ (xs ys : List Value) (same : IsPermutation xs ys) where
    pub numbers-arranged : are_numbers (map (value_view texts) xs) ≡ true → IsSortedByKey number_of int_cmp ys → map (value_view texts) ys ≡ sorted (map (value_view texts) xs)
    numbers-arranged numbers up =
        let all = all_numbers xs numbers in
        keys-are texts number_of meant.num ys (All-permutation (IsOfKey texts number_of meant.num) xs ys same all)
        ∙ (numbers-sorted (map number_of xs) (map number_of ys) (IsPermutation-map number_of xs ys same) (keys-sorted number_of int_cmp ys up)
        ∙ ap sorted (sym (keys-are texts number_of meant.num xs all)))

    pub texts-arranged : are_texts (map (value_view texts) xs) ≡ true → IsSortedByKey (bytes_of texts) (slice_cmp nat_cmp) ys
        → map (value_view texts) ys ≡ sorted (map (value_view texts) xs)
    texts-arranged strings up =
        let all = all_texts xs strings in
        keys-are texts (bytes_of texts) meant.str ys (All-permutation (IsOfKey texts (bytes_of texts) meant.str) xs ys same all)
        ∙ (texts-sorted (map (bytes_of texts) xs) (map (bytes_of texts) ys) (IsPermutation-map (bytes_of texts) xs ys same) (keys-sorted (bytes_of texts) (slice_cmp nat_cmp) ys up)
        ∙ ap sorted (sym (keys-are texts (bytes_of texts) meant.str xs all)))

-- values that were made, in another order
pub AreMade-permutation : (h : HeapView) (xs ys : List Value) → IsPermutation xs ys → AreMade h xs → AreMade h ys
AreMade-permutation h xs ys same made = recursion_from_All (IsMade h) ys (All-permutation (IsMade h) xs ys same (All-from_recursion (IsMade h) xs made))

-- ---- what a sort does

-- with items that are numbers or strings, and with others
abbrev by_kind : ℕ → List meant.Value → Bool → Lib (List meant.Value)
by_kind t vs alike = if alike then set_in_order t (sorted vs) else fault (says (codes "'sort' needs all numbers or all strings"))

pub sort-kind : (t : ℕ) (vs : List meant.Value) (p q : Bool) → are_numbers vs ≡ p → are_texts vs ≡ q → sort_items t vs ≡ by_kind t vs (p || q)
sort-kind t vs p q numbers strings = ap (λ (b : Bool). by_kind t vs (b || are_texts vs)) numbers ∙ ap (λ (b : Bool). by_kind t vs (p || b)) strings

pub sort-numbers : (t : ℕ) (vs : List meant.Value) → are_numbers vs ≡ true → sort_items t vs ≡ set_in_order t (sorted vs)
sort-numbers t vs numbers = sort-kind t vs true (are_texts vs) numbers refl

-- with a second argument that is nil, and with another one
abbrev pub by_second : ℕ → List meant.Value → Bool → Lib (List meant.Value)
by_second t vs absent = if absent then sort_items t vs else fault (says (codes "'sort' takes no function"))

pub is_nil-not : (texts : List Bytes) (v : Value) → v ≢ Nil → meant.is_nil (value_view texts v) ≡ false
is_nil-not texts Nil some = absurd (some refl)
is_nil-not texts (Flag b) some = refl
is_nil-not texts (Num z) some = refl
is_nil-not texts (Str id) some = refl
is_nil-not texts (Table id) some = refl
is_nil-not texts (Func id) some = refl
is_nil-not texts (Native f) some = refl
is_nil-not texts (Channel k) some = refl
is_nil-not texts (Thread k) some = refl
is_nil-not texts (Data id) some = refl
