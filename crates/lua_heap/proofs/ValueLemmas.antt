-- Values of a heap are the same as the definitions say, and so are the places of its tables.
use Rattle.std.proofs.Common.{map, ◌≡◌, ℕ, zero, suc, ℤ, pos, negsuc, ◌<◌, ◌≤◌, Bool, true, false, cond, List, [], ◌∷◌, ◌++◌, length, Option, None, Some, refl, ap, subst, ◌∙◌, slice_get, arith, IfSome}
use Rattle.std.specs.Bool.{Decides}
use Rattle.std.specs.List.{AllByRecursion}
use Rattle.std.specs.Option.{option_map}
use Rattle.std.proofs.lemmas.Bool.Decides.{Decides-eqb, same_from_decides}
use Rattle.std.proofs.lemmas.Slice.Eq.{bytes_eq-Decides}
use Rattle.lua_table.specs.Table.{Places, get, set, clear_key, has_place}
use Rattle.lua_tree.specs.Tree.{Bytes}
use Rattle.lua_meaning.specs.Value as meant
use Rattle.lua_meaning.specs.Value.{same, same_number, same_flag}
use Rattle.lua_heap.specs.declared.value.Value.{Value}
use Rattle.lua_heap.specs.declared.value.Value.TheVariants.{Nil, Bool as Flag, Num, Str, Table, Func, Native, Channel, Thread, Data}
use Rattle.lua_heap.specs.Texts.{AreOnce}
use Rattle.lua_heap.specs.Value.{text_at, value_view, place_view, places_view, Counts, IsCounted, AreCounted}
use Rattle.lua_heap.proofs.NativeLemmas.{same_native-view, same_native-same}

-- ---- the text of an id

pub text_at-there : (texts : List Bytes) (id : ℕ) → id < length texts → slice_get texts id ≡ Some (text_at texts id)
text_at-there [] id within = absurd (omega arith)
text_at-there (text ∷ texts) zero within = refl
text_at-there (text ∷ texts) (suc id) within = text_at-there texts id (omega arith)

same_id : (texts : List Bytes) → AreOnce texts → (m n : ℕ) → m < length texts → n < length texts → text_at texts m ≡ text_at texts n → m ≡ n
same_id texts once m n p q e = once m n (text_at texts n) (text_at-there texts m p ∙ ap (λ t. Some t) e) (text_at-there texts n q)

same_number-is : (a b : ℤ) → same_number a b ≡ true → a ≡ b
same_number-is (pos a) (pos b) e = ap pos ((Decides-eqb a b).0 e)
same_number-is (pos a) (negsuc b) e = cc
same_number-is (negsuc a) (pos b) e = cc
same_number-is (negsuc a) (negsuc b) e = ap negsuc ((Decides-eqb a b).0 e)

same_number-same : (a : ℤ) → same_number a a ≡ true
same_number-same (pos a) = (Decides-eqb a a).1 refl
same_number-same (negsuc a) = (Decides-eqb a a).1 refl

same_flag-is : (a b : Bool) → same_flag a b ≡ true → a ≡ b
same_flag-is true true e = refl
same_flag-is true false e = cc
same_flag-is false true e = cc
same_flag-is false false e = refl

same_flag-same : (a : Bool) → same_flag a a ≡ true
same_flag-same true = refl
same_flag-same false = refl

-- ---- values

pub same_view-same : (texts : List Bytes) (v : Value) → same (value_view texts v) (value_view texts v) ≡ true
same_view-same texts Nil = refl
same_view-same texts (Flag b) = same_flag-same b
same_view-same texts (Num n) = same_number-same n
same_view-same texts (Str id) = (bytes_eq-Decides (text_at texts id) (text_at texts id)).1 refl
same_view-same texts (Table id) = (Decides-eqb id id).1 refl
same_view-same texts (Func id) = (Decides-eqb id id).1 refl
same_view-same texts (Native f) = same_native-same f
same_view-same texts (Channel n) = (Decides-eqb n n).1 refl
same_view-same texts (Thread n) = (Decides-eqb n n).1 refl
same_view-same texts (Data id) = (Decides-eqb id id).1 refl

module _ (texts : List Bytes) (once : AreOnce texts) (c : Counts) (size : c.texts ≡ length texts) where
  -- values that the definitions call the same are
  pub same_view-is : (a b : Value) → IsCounted c a → IsCounted c b → same (value_view texts a) (value_view texts b) ≡ true → a ≡ b
  same_view-is Nil Nil p q e = refl
  same_view-is (Flag a) (Flag b) p q e = ap (λ x. Flag x) (same_flag-is a b e)
  same_view-is (Num a) (Num b) p q e = ap (λ x. Num x) (same_number-is a b e)
  same_view-is (Str a) (Str b) p q e =
      let within_a : a < length texts = omega (arith, p, size) in
      let within_b : b < length texts = omega (arith, q, size) in
      ap (λ x. Str x) (same_id texts once a b within_a within_b ((bytes_eq-Decides (text_at texts a) (text_at texts b)).0 e))
  same_view-is (Table a) (Table b) p q e = ap (λ x. Table x) ((Decides-eqb a b).0 e)
  same_view-is (Func a) (Func b) p q e = ap (λ x. Func x) ((Decides-eqb a b).0 e)
  same_view-is (Native a) (Native b) p q e = ap (λ x. Native x) (same_native-view a b e)
  same_view-is (Channel a) (Channel b) p q e = ap (λ x. Channel x) ((Decides-eqb a b).0 e)
  same_view-is (Thread a) (Thread b) p q e = ap (λ x. Thread x) ((Decides-eqb a b).0 e)
  same_view-is (Data a) (Data b) p q e = ap (λ x. Data x) ((Decides-eqb a b).0 e)
  same_view-is a b p q e = cc

  module _ (eq : Value → Value → Bool) (decides : (a b : Value) → Decides (eq a b) (a ≡ b)) where
    pub eq-view : (a b : Value) → IsCounted c a → IsCounted c b → eq a b ≡ same (value_view texts a) (value_view texts b)
    eq-view a b p q =
        let P : Value → Type 0 = λ v. same (value_view texts a) (value_view texts v) ≡ true in
        same_from_decides (eq a b) (same (value_view texts a) (value_view texts b)) (decides a b)
        (same_view-is a b p q, λ e. subst P e (same_view-same texts a))

    pub get-view : (places : Places Value Value) (key : Value) → AreCounted c places → IsCounted c key
        → option_map (value_view texts) (get eq places key) ≡ get same (places_view texts places) (value_view texts key)
    get-view [] key all own = refl
    get-view (place ∷ rest) key all own =
        rw (← eq-view key place.0 own all.0.0) (by (eq key place.0) (get-view rest key all.1 own))
      where
        by : (b : Bool) → option_map (value_view texts) (get eq rest key) ≡ get same (places_view texts rest) (value_view texts key)
            → option_map (value_view texts) (cond b place.1 (get eq rest key)) ≡ cond b (option_map (value_view texts) place.1) (get same (places_view texts rest) (value_view texts key))
        by true e = refl
        by false e = e

    pub has_place-view : (places : Places Value Value) (key : Value) → AreCounted c places → IsCounted c key
        → has_place eq places key ≡ has_place same (places_view texts places) (value_view texts key)
    has_place-view [] key all own = refl
    has_place-view (place ∷ rest) key all own =
        rw (← eq-view key place.0 own all.0.0) (by (eq key place.0) (has_place-view rest key all.1 own))
      where
        by : (b : Bool) → has_place eq rest key ≡ has_place same (places_view texts rest) (value_view texts key)
            → cond b true (has_place eq rest key) ≡ cond b true (has_place same (places_view texts rest) (value_view texts key))
        by true e = refl
        by false e = e

    pub set-view : (places : Places Value Value) (key value : Value) → AreCounted c places → IsCounted c key
        → places_view texts (set eq places key value) ≡ set same (places_view texts places) (value_view texts key) (value_view texts value)
    set-view [] key value all own = refl
    set-view (place ∷ rest) key value all own =
        rw (← eq-view key place.0 own all.0.0) (by (eq key place.0) (set-view rest key value all.1 own))
      where
        by : (b : Bool) → places_view texts (set eq rest key value) ≡ set same (places_view texts rest) (value_view texts key) (value_view texts value)
            → places_view texts (cond b ((place.0, Some value) ∷ rest) (place ∷ set eq rest key value))
            ≡ cond b ((value_view texts place.0, Some (value_view texts value)) ∷ places_view texts rest)
            (place_view texts place ∷ set same (places_view texts rest) (value_view texts key) (value_view texts value))
        by true e = refl
        by false e = ap (λ ps. place_view texts place ∷ ps) e

    pub clear_key-view : (places : Places Value Value) (key : Value) → AreCounted c places → IsCounted c key
        → places_view texts (clear_key eq places key) ≡ clear_key same (places_view texts places) (value_view texts key)
    clear_key-view [] key all own = refl
    clear_key-view (place ∷ rest) key all own =
        rw (← eq-view key place.0 own all.0.0) (by (eq key place.0) (clear_key-view rest key all.1 own))
      where
        by : (b : Bool) → places_view texts (clear_key eq rest key) ≡ clear_key same (places_view texts rest) (value_view texts key)
            → places_view texts (cond b ((place.0, None) ∷ rest) (place ∷ clear_key eq rest key))
            ≡ cond b ((value_view texts place.0, None) ∷ places_view texts rest)
            (place_view texts place ∷ clear_key same (places_view texts rest) (value_view texts key))
        by true e = refl
        by false e = ap (λ ps. place_view texts place ∷ ps) e

module _ (c : Counts) (eq : Value → Value → Bool) where
  -- what a table of counted values gives is counted, and so it stays
  pub get-counted : (places : Places Value Value) (key : Value) → AreCounted c places → IfSome (get eq places key) (λ v. IsCounted c v)
  get-counted [] key all = tt
  get-counted (place ∷ rest) key all = by (eq key place.0) (get-counted rest key all.1)
    where
      by : (b : Bool) → IfSome (get eq rest key) (λ v. IsCounted c v) → IfSome (cond b place.1 (get eq rest key)) (λ v. IsCounted c v)
      by true later = all.0.1
      by false later = later

  pub set-counted : (places : Places Value Value) (key value : Value) → AreCounted c places → IsCounted c key → IsCounted c value → AreCounted c (set eq places key value)
  set-counted [] key value all own given = ((own, given), tt)
  set-counted (place ∷ rest) key value all own given = by (eq key place.0) (set-counted rest key value all.1 own given)
    where
      by : (b : Bool) → AreCounted c (set eq rest key value) → AreCounted c (cond b ((place.0, Some value) ∷ rest) (place ∷ set eq rest key value))
      by true later = ((all.0.0, given), all.1)
      by false later = (all.0, later)

  pub clear_key-counted : (places : Places Value Value) (key : Value) → AreCounted c places → AreCounted c (clear_key eq places key)
  clear_key-counted [] key all = tt
  clear_key-counted (place ∷ rest) key all = by (eq key place.0) (clear_key-counted rest key all.1)
    where
      by : (b : Bool) → AreCounted c (clear_key eq rest key) → AreCounted c (cond b ((place.0, None) ∷ rest) (place ∷ clear_key eq rest key))
      by true later = ((all.0.0, tt), all.1)
      by false later = (all.0, later)

-- ---- growing

pub record Fewer (c d : Counts) : Type 0 where
  pub texts : c.texts ≤ d.texts
  pub tables : c.tables ≤ d.tables
  pub functions : c.functions ≤ d.functions
  pub contents : c.contents ≤ d.contents

pub IsCounted-more : {c d : Counts} → Fewer c d → (v : Value) → IsCounted c v → IsCounted d v
IsCounted-more f Nil p = tt
IsCounted-more f (Flag b) p = tt
IsCounted-more f (Num n) p = tt
IsCounted-more f (Str id) p = let more = f.texts in omega arith
IsCounted-more f (Table id) p = let more = f.tables in omega arith
IsCounted-more f (Func id) p = let more = f.functions in omega arith
IsCounted-more f (Native g) p = tt
IsCounted-more f (Channel n) p = tt
IsCounted-more f (Thread n) p = tt
IsCounted-more f (Data id) p = let more = f.contents in omega arith

pub AreCounted-more : {c d : Counts} → Fewer c d → (places : Places Value Value) → AreCounted c places → AreCounted d places
AreCounted-more f [] all = tt
AreCounted-more {c} {d} f (place ∷ rest) all = ((IsCounted-more f place.0 all.0.0, some place.1 all.0.1), AreCounted-more f rest all.1)
  where
    some : (o : Option Value) → IfSome o (λ v. IsCounted c v) → IfSome o (λ v. IsCounted d v)
    some None p = tt
    some (Some v) p = IsCounted-more f v p

-- values keep their texts when there are more of them
text_at-longer : (texts more : List Bytes) (id : ℕ) → id < length texts → text_at (texts ++ more) id ≡ text_at texts id
text_at-longer [] more id within = absurd (omega arith)
text_at-longer (text ∷ texts) more zero within = refl
text_at-longer (text ∷ texts) more (suc id) within = text_at-longer texts more id (omega arith)

module _ (texts more : List Bytes) (c : Counts) (size : c.texts ≡ length texts) where
  pub value_view-longer : (v : Value) → IsCounted c v → value_view (texts ++ more) v ≡ value_view texts v
  value_view-longer Nil p = refl
  value_view-longer (Flag b) p = refl
  value_view-longer (Num n) p = refl
  value_view-longer (Str id) p =
      let within : id < length texts = omega (arith, p, size) in
      ap (λ t. meant.str t) (text_at-longer texts more id within)
  value_view-longer (Table id) p = refl
  value_view-longer (Func id) p = refl
  value_view-longer (Native f) p = refl
  value_view-longer (Channel n) p = refl
  value_view-longer (Thread n) p = refl
  value_view-longer (Data id) p = refl

  pub places_view-longer : (places : Places Value Value) → AreCounted c places → places_view (texts ++ more) places ≡ places_view texts places
  places_view-longer [] all = refl
  places_view-longer (place ∷ rest) all =
      let key = value_view-longer place.0 all.0.0 in
      let value = some place.1 all.0.1 in
      let later = places_view-longer rest all.1 in
      cc
    where
      some : (o : Option Value) → IfSome o (λ v. IsCounted c v) → option_map (value_view (texts ++ more)) o ≡ option_map (value_view texts) o
      some None p = refl
      some (Some v) p = ap (λ x. Some x) (value_view-longer v p)

  pub values_view-longer : (values : List Value) → AllByRecursion (IsCounted c) values → map (value_view (texts ++ more)) values ≡ map (value_view texts) values
  values_view-longer [] all = refl
  values_view-longer (v ∷ values) all =
      let own = value_view-longer v all.0 in
      let later = values_view-longer values all.1 in
      cc
