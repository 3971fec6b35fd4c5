-- Walking the pairs of a heap's table is walking those of the definitions' table.
use Rattle.std.proofs.Common.{◌≡◌, ℕ, Bool, true, false, cond, List, [], ◌∷◌, length, Option, None, Some, Ok, Err, Result, Bor, refl, sym, ap, subst, ◌∙◌, slice_get, IfSome}
use Rattle.std.specs.Prelude.{IsSomeAnd, IsFalse}
use Rattle.std.specs.Bool.{Decides}
use Rattle.std.specs.Option.{option_copied, option_map, option_map_or}
use Rattle.lua_table.specs.Table.{Places, first, next_after, next as next_place, has_place, no_such_key}
use Rattle.lua_table.specs.declared.table.NoSuchKey.{NoSuchKey}
use Rattle.lua_tree.specs.Tree.{Bytes}
use Rattle.lua_meaning.specs.Value as meant
use Rattle.lua_meaning.specs.Basic.{walked_key}
use Rattle.lua_meaning.specs.Store.{Table, table_at}
use Rattle.lua_heap.specs.declared.entries.TableEntry.{TableEntry}
use Rattle.lua_heap.specs.declared.value.Value.{Value}
use Rattle.lua_heap.specs.declared.value.Value.TheVariants.{Nil, Bool as Flag, Num, Str, Table as TableValue, Func, Native, Channel, Thread, Data}
use Rattle.lua_heap.specs.Alike.{value_eq, alike, alike_same}
use Rattle.lua_heap.specs.Texts.{AreOnce}
use Rattle.lua_heap.specs.Value.{value_view, place_view, places_view, Counts, IsCounted, AreCounted}
use Rattle.lua_heap.specs.Heap.{HeapView, store_of, counts, IsMade, IsHeap, IsMadeEntry}
use Rattle.lua_heap.specs.Next.{walked, pair_view, next_view, IsMadePair, IsMadeNext}
use Rattle.lua_heap.proofs.ValueLemmas.{eq-view}
use Rattle.lua_heap.proofs.HeapLemmas.{all-at, table_at-view}

-- a key that was never set is refused
pub next_after-none : {K V : Type 0} (same : K → K → Bool) (places : Places K V) (key : K) → has_place same places key ≡ false
    → next_after same places key ≡ Err no_such_key
next_after-none same [] key e = refl
next_after-none same (place ∷ rest) key e = by (same key place.0) (next_after-none same rest key) e
  where
    by : (b : Bool) → (has_place same rest key ≡ false → next_after same rest key ≡ Err no_such_key) → cond b true (has_place same rest key) ≡ false
        → cond b (Ok (first rest)) (next_after same rest key) ≡ Err no_such_key
    by true later e = cc
    by false later e = later e

pub next-refused : {K V : Type 0} (same : K → K → Bool) (places : Places K V) (after : Option (Bor K)) (refused : NoSuchKey)
    → IsSomeAnd after (λ key. IsFalse (has_place same places key.now)) → Err refused ≡ next_place same places (option_copied after)
next-refused same places None refused h = absurd h
next-refused same places (Some key) refused h = sym (next_after-none same places key.now h)

first-view : (texts : List Bytes) (places : Places Value Value) → option_map (pair_view texts) (first places) ≡ first (places_view texts places)
first-view texts [] = refl
first-view texts (place ∷ rest) = by place.1 (first-view texts rest)
  where
    by : (o : Option Value) → option_map (pair_view texts) (first rest) ≡ first (places_view texts rest)
        → option_map (pair_view texts) (option_map_or (λ value. Some (place.0, value)) o (first rest))
        ≡ option_map_or (λ value. Some (value_view texts place.0, value)) (option_map (value_view texts) o) (first (places_view texts rest))
    by None e = e
    by (Some v) e = refl

module _ (texts : List Bytes) (once : AreOnce texts) (c : Counts) (size : c.texts ≡ length texts) (eq : Value → Value → Bool)
    (decides : (a b : Value) → Decides (eq a b) (a ≡ b)) where
  next_after-view : (places : Places Value Value) (key : Value) → AreCounted c places → IsCounted c key
      → next_view texts (next_after eq places key) ≡ next_after meant.same (places_view texts places) (value_view texts key)
  next_after-view [] key all own = refl
  next_after-view (place ∷ rest) key all own =
      rw (← eq-view texts once c size eq decides key place.0 own all.0.0) (by (eq key place.0) (next_after-view rest key all.1 own))
    where
      by : (b : Bool) → next_view texts (next_after eq rest key) ≡ next_after meant.same (places_view texts rest) (value_view texts key)
          → next_view texts (cond b (Ok (first rest)) (next_after eq rest key))
          ≡ cond b (Ok (first (places_view texts rest))) (next_after meant.same (places_view texts rest) (value_view texts key))
      by true e = ap (λ (o : Option (meant.Value × meant.Value)). Ok o) (first-view texts rest)
      by false e = e

  next-view : (places : Places Value Value) (key : Value) → AreCounted c places → IsCounted c key
      → next_view texts (next_place eq places (walked key)) ≡ next_place meant.same (places_view texts places) (walked_key (value_view texts key))
  next-view places Nil all own = ap (λ (o : Option (meant.Value × meant.Value)). Ok o) (first-view texts places)
  next-view places (Flag b) all own = next_after-view places (Flag b) all own
  next-view places (Num n) all own = next_after-view places (Num n) all own
  next-view places (Str id) all own = next_after-view places (Str id) all own
  next-view places (TableValue id) all own = next_after-view places (TableValue id) all own
  next-view places (Func id) all own = next_after-view places (Func id) all own
  next-view places (Native f) all own = next_after-view places (Native f) all own
  next-view places (Channel n) all own = next_after-view places (Channel n) all own
  next-view places (Thread n) all own = next_after-view places (Thread n) all own
  next-view places (Data id) all own = next_after-view places (Data id) all own

-- ---- what a table of counted values gives is counted

abbrev IsCountedPair : Counts → Option (Value × Value) → Type 0
IsCountedPair c pair = IfSome pair (λ p. IsCounted c p.0 × IsCounted c p.1)

module _ (c : Counts) where
  first-counted : (places : Places Value Value) → AreCounted c places → IsCountedPair c (first places)
  first-counted [] all = tt
  first-counted (place ∷ rest) all = by place.1 all.0.1 (first-counted rest all.1)
    where
      by : (o : Option Value) → IfSome o (λ v. IsCounted c v) → IsCountedPair c (first rest)
          → IsCountedPair c (option_map_or (λ value. Some (place.0, value)) o (first rest))
      by None own later = later
      by (Some v) own later = (all.0.0, own)

  abbrev IsCountedNext : Result (Option (Value × Value)) NoSuchKey → Type 0
  IsCountedNext (Ok pair) = IsCountedPair c pair
  IsCountedNext (Err refused) = Unit {0}

  next_after-counted : (eq : Value → Value → Bool) (places : Places Value Value) (key : Value) → AreCounted c places → IsCountedNext (next_after eq places key)
  next_after-counted eq [] key all = tt
  next_after-counted eq (place ∷ rest) key all = by (eq key place.0) (next_after-counted eq rest key all.1)
    where
      by : (b : Bool) → IsCountedNext (next_after eq rest key) → IsCountedNext (cond b (Ok (first rest)) (next_after eq rest key))
      by true later = first-counted rest all.1
      by false later = later

  next-counted : (eq : Value → Value → Bool) (places : Places Value Value) (key : Option Value) → AreCounted c places → IsCountedNext (next_place eq places key)
  next-counted eq places None all = first-counted places all
  next-counted eq places (Some key) all = next_after-counted eq places key all

-- ---- of a heap

decides : (a b : Value) → Decides (value_eq a b) (a ≡ b)
decides a b = (alike a b, λ e. let P : Value → Type 0 = λ v. value_eq a v ≡ true in subst P e (alike_same a))

pub next-of_heap : (h g : HeapView) → IsHeap h → h ≡ g → (i j : ℕ) → i ≡ j → (entry : TableEntry) → slice_get h.tables i ≡ Some entry → (key : Value) → IsMade g key
    → (found : Result (Option (Value × Value)) NoSuchKey) → found ≡ next_place value_eq entry.table (walked key)
    → next_view g.texts found ≡ next_place meant.same (table_at (store_of g) j).places (walked_key (value_view g.texts key))
next-of_heap h g is same i j at entry there key made found gives =
    let K : HeapView → Type 0 = λ k. IsMade k key in
    let own : IsMade h key = subst K (sym same) made in
    let all = (all-at (IsMadeEntry (counts h)) h.tables i entry is.tables there).0 in
    let P : HeapView → Type 0 = λ k. next_view k.texts found ≡ next_place meant.same (table_at (store_of k) j).places (walked_key (value_view k.texts key)) in
    let Q : ℕ → Type 0 = λ n. next_view h.texts found ≡ next_place meant.same (table_at (store_of h) n).places (walked_key (value_view h.texts key)) in
    subst P same (subst Q at (
    ap (next_view h.texts) gives
    ∙ next-view h.texts is.once (counts h) refl value_eq decides entry.table key all own
    ∙ ap (λ (t : Table). next_place meant.same t.places (walked_key (value_view h.texts key))) (sym (table_at-view h i entry there))))

pub next-made : (h g : HeapView) → IsHeap h → h ≡ g → (i : ℕ) (entry : TableEntry) → slice_get h.tables i ≡ Some entry → (key : Value)
    → (found : Result (Option (Value × Value)) NoSuchKey) → found ≡ next_place value_eq entry.table (walked key) → IsMadeNext g found
next-made h g is same i entry there key found gives =
    let all = (all-at (IsMadeEntry (counts h)) h.tables i entry is.tables there).0 in
    let P : Result (Option (Value × Value)) NoSuchKey → Type 0 = λ r. IsCountedNext (counts h) r in
    let Q : HeapView → Type 0 = λ k. IsMadeNext k found in
    subst Q same (by found (subst P (sym gives) (next-counted (counts h) value_eq entry.table (walked key) all)))
  where
    by : (r : Result (Option (Value × Value)) NoSuchKey) → IsCountedNext (counts h) r → IsMadeNext h r
    by (Ok None) made = tt
    by (Ok (Some p)) made = made
    by (Err refused) made = tt
