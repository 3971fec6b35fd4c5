-- What each step of packing comes to.
use Rattle.std.proofs.Common.{◌≡◌, ℕ, suc, ℤ, ◌+◌, ◌-◌, Bool, true, false, cond, ◌||◌, List, [], ◌∷◌, ◌++◌, length, take, map, Option, None, Some, Ok, Err, Result, refl, sym, ap, subst, ◌∙◌, IfSome, arith}
use Rattle.std.specs.Prelude.{reverse, nat_eq}
use Rattle.std.proofs.lemmas.List.{reverse-append, length-append}
use Rattle.std.specs.List.{list_any}
use Rattle.std.specs.Result.{IsErrAnd}
use Rattle.std.specs.Option.{option_map}
use Rattle.love_base.specs.Data.{Contents}
use Rattle.lua_table.specs.Table.{Places}
use Rattle.lua_tree.specs.Tree.{Bytes}
use Rattle.variant.specs.declared.message.Variant.{Variant}
use Rattle.variant.specs.declared.message.Variant.TheVariants as variant
use Rattle.lua_meaning.specs.Message.{Message, Pairs, no_pairs, pair_and}
use Rattle.lua_meaning.specs.MessageView.{message_view, pairs_of}
use Rattle.lua_meaning.specs.Native.{Native as Function}
use Rattle.lua_meaning.specs.Value as meant
use Rattle.lua_meaning.specs.Store.{Store, table_at, contents_at}
use Rattle.lua_meaning.specs.Packing as packing
use Rattle.lua_meaning.specs.Packing.{unless_fault, pack_key, pack_pair, pack_places, pack_within, pack_all, pack, holds, cycle, depth}
use Rattle.lua_heap.specs.declared.value.Value.{Value}
use Rattle.lua_heap.specs.Next.{pair_view}
use Rattle.lua_heap.specs.Value.{value_view, places_view, AreCounted, IsCounted}
use Rattle.lua_heap.specs.Heap.{HeapView, counts}
use Rattle.crossing.specs.declared.fault.PackFault.{PackFault}
use Rattle.crossing.specs.declared.fault.PackFault.TheVariants.{Kind, Cycle, Key, Depth, Memory}
use Rattle.crossing.specs.Fault.{Answers, type_of, fault_of}
use Rattle.crossing.specs.Pairs.{with_pair, pairs_in, places_of, message_pair, pairs_view, ArePairsMade}
use Rattle.crossing.proofs.Items.{map-more}
use Rattle.crossing.proofs.Within.{within-nil, within-flag, within-num, within-str, within-channel, within-datum, within-func, within-native, within-thread, within-pairs, within-cycle, within-depth}
use Rattle.crossing.proofs.Seen.{seen-Nil, seen-Bool, seen-Num, seen-Bytes, seen-Data, seen-Channel, seen-Table}

-- ---- answers

-- the definitions refuse, and the call gives that refusal
pub answers-refusal : {M V : Type 0} → (view : V → M) (meaning : Result M packing.PackFault) (refused : packing.PackFault)
    → meaning ≡ Err refused → Answers view meaning (Err (fault_of refused))
answers-refusal view meaning refused is = subst (λ r. Answers view r (Err (fault_of refused))) (sym is) (by refused)
  where
    by : (e : packing.PackFault) → Answers view (Err e) (Err (fault_of e))
    by (packing.kind v) = refl
    by packing.cycle = refl
    by (packing.key v) = refl
    by packing.depth = refl

by-refusal : {M V : Type 0} → (view : V → M) (meaning : Result M packing.PackFault) (refused : packing.PackFault) → meaning ≡ Err refused
    → (fault : PackFault) → fault ≡ fault_of refused → Answers view meaning (Err fault)
by-refusal view meaning refused is fault same = subst (λ f. Answers view meaning (Err f)) (sym same) (answers-refusal view meaning refused is)

-- what refuses a part refuses the whole
pub answers-part : {M N V W : Type 0} → (view : V → M) (whole_view : W → N) (part : Result M packing.PackFault) (whole : Result N packing.PackFault)
    → ((refused : packing.PackFault) → part ≡ Err refused → whole ≡ Err refused)
    → (fault : PackFault) → Answers view part (Err fault) → Answers whole_view whole (Err fault)
answers-part view whole_view part whole carries Memory a = tt
answers-part view whole_view (Ok m) whole carries (Kind t) a = absurd a
answers-part view whole_view (Ok m) whole carries Cycle a = absurd a
answers-part view whole_view (Ok m) whole carries (Key t) a = absurd a
answers-part view whole_view (Ok m) whole carries Depth a = absurd a
answers-part view whole_view (Err e) whole carries (Kind t) a = by-refusal whole_view whole e (carries e refl) (Kind t) a
answers-part view whole_view (Err e) whole carries Cycle a = by-refusal whole_view whole e (carries e refl) Cycle a
answers-part view whole_view (Err e) whole carries (Key t) a = by-refusal whole_view whole e (carries e refl) (Key t) a
answers-part view whole_view (Err e) whole carries Depth a = by-refusal whole_view whole e (carries e refl) Depth a

-- ---- what a value without tables is answered

module _ (left : ℕ) (s : Store) (inside : List ℕ) where
  pub nil_answers : Answers message_view (pack_within left s inside meant.nil) (Ok variant.Nil)
  nil_answers = within-nil left s inside ∙ ap (λ m. Ok m) (sym seen-Nil)

  pub flag_answers : (b : Bool) → Answers message_view (pack_within left s inside (meant.flag b)) (Ok (variant.Bool b))
  flag_answers b = within-flag left s inside b ∙ ap (λ m. Ok m) (sym (seen-Bool b))

  pub num_answers : (n : ℤ) → Answers message_view (pack_within left s inside (meant.num n)) (Ok (variant.Num n))
  num_answers n = within-num left s inside n ∙ ap (λ m. Ok m) (sym (seen-Num n))

  pub channel_answers : (c : ℕ) → Answers message_view (pack_within left s inside (meant.channel c)) (Ok (variant.Channel c))
  channel_answers c = within-channel left s inside c ∙ ap (λ m. Ok m) (sym (seen-Channel c))

  pub func_answers : (f : ℕ) → Answers {M = Message} {V = Variant} message_view (pack_within left s inside (meant.func f)) (Err (Kind (type_of (meant.func f))))
  func_answers f = answers-refusal message_view (pack_within left s inside (meant.func f)) (packing.kind (meant.func f)) (within-func left s inside f)

  pub native_answers : (f : Function) → Answers {M = Message} {V = Variant} message_view (pack_within left s inside (meant.native f)) (Err (Kind (type_of (meant.native f))))
  native_answers f = answers-refusal message_view (pack_within left s inside (meant.native f)) (packing.kind (meant.native f)) (within-native left s inside f)

  pub thread_answers : (t : ℕ) → Answers {M = Message} {V = Variant} message_view (pack_within left s inside (meant.thread t)) (Err (Kind (type_of (meant.thread t))))
  thread_answers t = answers-refusal message_view (pack_within left s inside (meant.thread t)) (packing.kind (meant.thread t)) (within-thread left s inside t)

-- ---- tables

-- the places of a table are packed as its pairs are
module _ (pack : meant.Value → Result Message packing.PackFault) (texts : List Bytes) where
  abbrev pub packed_of : List (Value × Value) → Result Pairs packing.PackFault
  packed_of pairs = pack_places pack (places_of (map (pair_view texts) pairs))

  pub packed-places : (places : Places Value Value) → pack_places pack (places_view texts places) ≡ packed_of (pairs_in places)
  packed-places [] = refl
  packed-places (place ∷ rest) = by place.1 (packed-places rest)
    where
      by : (o : Option Value) → pack_places pack (places_view texts rest) ≡ packed_of (pairs_in rest)
          → pack_pair pack (value_view texts place.0) (option_map (value_view texts) o) (pack_places pack (places_view texts rest)) ≡ packed_of (with_pair place.0 o (pairs_in rest))
      by None e = e
      by (Some v) e = ap (λ later. pack_pair pack (value_view texts place.0) (Some (value_view texts v)) later) e

pub pairs-made : (h : HeapView) (places : Places Value Value) → AreCounted (counts h) places → ArePairsMade h (pairs_in places)
pairs-made h [] all = tt
pairs-made h (place ∷ rest) all = by place.1 all.0.1 (pairs-made h rest all.1)
  where
    by : (o : Option Value) → IfSome o (λ v. IsCounted (counts h) v) → ArePairsMade h (pairs_in rest) → ArePairsMade h (with_pair place.0 o (pairs_in rest))
    by None own later = later
    by (Some v) own later = ((all.0.0, own), later)

-- a table whose pairs are packed
pub table-packed : (left : ℕ) (s : Store) (inside : List ℕ) (t : ℕ) (texts : List Bytes) (places : Places Value Value) → holds inside t ≡ false
    → places_view texts places ≡ (table_at s t).places
    → pack_within (suc left) s inside (meant.table t)
    ≡ unless_fault (packed_of (λ v. pack_within left s (t ∷ inside) v) texts (pairs_in places)) (λ pairs. Ok (Message.table pairs))
table-packed left s inside t texts places out are =
    within-pairs left s inside t out
    ∙ ap (λ ps. unless_fault (pack_places (λ v. pack_within left s (t ∷ inside) v) ps) (λ pairs. Ok (Message.table pairs))) (sym are)
    ∙ ap (λ r. unless_fault r (λ pairs. Ok (Message.table pairs))) (packed-places (λ v. pack_within left s (t ∷ inside) v) texts places)

-- ---- pairs, one after the other

-- pairs that are messages already, in front of others
abbrev pub prepend : List (Message × Message) → Result Pairs packing.PackFault → Result Pairs packing.PackFault
prepend [] later = later
prepend (pair ∷ pairs) later = unless_fault (prepend pairs later) (λ rest. Ok (pair_and pair.0 pair.1 rest))

prepend-Err : (pairs : List (Message × Message)) (e : packing.PackFault) → prepend pairs (Err e) ≡ Err e
prepend-Err [] e = refl
prepend-Err (pair ∷ pairs) e = ap (λ r. unless_fault r (λ rest. Ok (pair_and pair.0 pair.1 rest))) (prepend-Err pairs e)

prepend-all : (pairs : List (Message × Message)) → prepend pairs (Ok no_pairs) ≡ Ok (pairs_of pairs)
prepend-all [] = refl
prepend-all (pair ∷ pairs) = ap (λ r. unless_fault r (λ rest. Ok (pair_and pair.0 pair.1 rest))) (prepend-all pairs)

prepend-last : (pairs : List (Message × Message)) (key value : Message) (later : Result Pairs packing.PackFault)
    → prepend (pairs ++ (key, value) ∷ []) later ≡ prepend pairs (unless_fault later (λ rest. Ok (pair_and key value rest)))
prepend-last [] key value later = refl
prepend-last (pair ∷ pairs) key value later = ap (λ r. unless_fault r (λ rest. Ok (pair_and pair.0 pair.1 rest))) (prepend-last pairs key value later)

-- the pair in front of others
module _ (pack : meant.Value → Result Message packing.PackFault) (key value : meant.Value) (later : Result Pairs packing.PackFault) where
  pub pair-Ok : (k v : Message) → pack_key key ≡ Ok k → pack value ≡ Ok v → pack_pair pack key (Some value) later ≡ unless_fault later (λ rest. Ok (pair_and k v rest))
  pair-Ok k v key_is value_is =
      ap (λ r. unless_fault r (λ k. unless_fault (pack value) (λ v. unless_fault later (λ rest. Ok (pair_and k v rest))))) key_is
      ∙ ap (λ r. unless_fault r (λ v. unless_fault later (λ rest. Ok (pair_and k v rest)))) value_is

  pub pair-key : (e : packing.PackFault) → pack_key key ≡ Err e → pack_pair pack key (Some value) later ≡ Err e
  pair-key e is = ap (λ r. unless_fault r (λ k. unless_fault (pack value) (λ v. unless_fault later (λ rest. Ok (pair_and k v rest))))) is

  pub pair-value : (k : Message) (e : packing.PackFault) → pack_key key ≡ Ok k → pack value ≡ Err e → pack_pair pack key (Some value) later ≡ Err e
  pair-value k e key_is is =
      ap (λ r. unless_fault r (λ k. unless_fault (pack value) (λ v. unless_fault later (λ rest. Ok (pair_and k v rest))))) key_is
      ∙ ap (λ r. unless_fault r (λ v. unless_fault later (λ rest. Ok (pair_and k v rest)))) is

-- the pairs so far are packed, and the others are to come
pub record IsBegun (pack : meant.Value → Result Message packing.PackFault) (texts : List Bytes) (packed : List (Variant × Variant)) (left all : List (Value × Value)) : Type 0 where
  pub so_far : prepend (map message_pair packed) (packed_of pack texts left) ≡ packed_of pack texts all

module _ (pack : meant.Value → Result Message packing.PackFault) (texts : List Bytes) (packed : List (Variant × Variant)) (key value : Value) (left all : List (Value × Value))
    (begun : IsBegun pack texts packed ((key, value) ∷ left) all) where
  pub begun-more : (k v : Variant) → pack_key (value_view texts key) ≡ Ok (message_view k) → pack (value_view texts value) ≡ Ok (message_view v)
      → IsBegun pack texts (packed ++ (k, v) ∷ []) left all
  begun-more k v key_is value_is =
      record {
        so_far =
            ap (λ ms. prepend ms (packed_of pack texts left)) (map-more message_pair packed (k, v))
            ∙ prepend-last (map message_pair packed) (message_view k) (message_view v) (packed_of pack texts left)
            ∙ ap (λ r. prepend (map message_pair packed) r) (sym (pair-Ok pack (value_view texts key) (value_view texts value) (packed_of pack texts left) (message_view k) (message_view v) key_is value_is))
            ∙ begun.so_far;
      }

  refused-by : (e : packing.PackFault) → packed_of pack texts ((key, value) ∷ left) ≡ Err e → packed_of pack texts all ≡ Err e
  refused-by e is = sym begun.so_far ∙ ap (λ r. prepend (map message_pair packed) r) is ∙ prepend-Err (map message_pair packed) e

  pub key-refused : (fault : PackFault) → Answers message_view (pack_key (value_view texts key)) (Err fault) → Answers pairs_view (packed_of pack texts all) (Err fault)
  key-refused fault a =
      answers-part message_view pairs_view (pack_key (value_view texts key)) (packed_of pack texts all)
      (λ e is. refused-by e (pair-key pack (value_view texts key) (value_view texts value) (packed_of pack texts left) e is)) fault a

  pub value-refused : (k : Message) → pack_key (value_view texts key) ≡ Ok k → (fault : PackFault) → Answers message_view (pack (value_view texts value)) (Err fault)
      → Answers pairs_view (packed_of pack texts all) (Err fault)
  value-refused k key_is fault a =
      answers-part message_view pairs_view (pack (value_view texts value)) (packed_of pack texts all)
      (λ e is. refused-by e (pair-value pack (value_view texts key) (value_view texts value) (packed_of pack texts left) k e key_is is)) fault a

pub begun-all : (pack : meant.Value → Result Message packing.PackFault) (texts : List Bytes) (packed : List (Variant × Variant)) (all : List (Value × Value))
    → IsBegun pack texts packed [] all → packed_of pack texts all ≡ Ok (pairs_view packed)
begun-all pack texts packed all begun = sym begun.so_far ∙ prepend-all (map message_pair packed)

-- ---- values, one after the other

-- messages in front of others
abbrev pub ahead : List Message → Result (List Message) packing.PackFault → Result (List Message) packing.PackFault
ahead [] later = later
ahead (m ∷ ms) later = unless_fault (ahead ms later) (λ rest. Ok (m ∷ rest))

ahead-Err : (ms : List Message) (e : packing.PackFault) → ahead ms (Err e) ≡ Err e
ahead-Err [] e = refl
ahead-Err (m ∷ ms) e = ap (λ r. unless_fault r (λ rest. Ok (m ∷ rest))) (ahead-Err ms e)

ahead-all : (ms : List Message) → ahead ms (Ok []) ≡ Ok ms
ahead-all [] = refl
ahead-all (m ∷ ms) = ap (λ r. unless_fault r (λ rest. Ok (m ∷ rest))) (ahead-all ms)

ahead-last : (ms : List Message) (m : Message) (later : Result (List Message) packing.PackFault) → ahead (ms ++ m ∷ []) later ≡ ahead ms (unless_fault later (λ rest. Ok (m ∷ rest)))
ahead-last [] m later = refl
ahead-last (n ∷ ms) m later = ap (λ r. unless_fault r (λ rest. Ok (n ∷ rest))) (ahead-last ms m later)

-- the messages so far are packed, and the other values are to come
pub record AreBegun (s : Store) (texts : List Bytes) (packed : List Variant) (left all : List Value) : Type 0 where
  pub so_far : ahead (map message_view packed) (pack_all s (map (value_view texts) left)) ≡ pack_all s (map (value_view texts) all)

module _ (s : Store) (texts : List Bytes) (packed : List Variant) (v : Value) (left all : List Value) (begun : AreBegun s texts packed (v ∷ left) all) where
  pub begun-next : (m : Variant) → pack s (value_view texts v) ≡ Ok (message_view m) → AreBegun s texts (packed ++ m ∷ []) left all
  begun-next m is =
      record {
        so_far =
            ap (λ ms. ahead ms (pack_all s (map (value_view texts) left))) (map-more message_view packed m)
            ∙ ahead-last (map message_view packed) (message_view m) (pack_all s (map (value_view texts) left))
            ∙ ap (λ r. ahead (map message_view packed) r) (sym (ap (λ r. unless_fault r (λ m. unless_fault (pack_all s (map (value_view texts) left)) (λ ms. Ok (m ∷ ms)))) is))
            ∙ begun.so_far;
      }

  pub next-refused : (fault : PackFault) → Answers message_view (pack s (value_view texts v)) (Err fault) → Answers (map message_view) (pack_all s (map (value_view texts) all)) (Err fault)
  next-refused fault a =
      answers-part message_view (map message_view) (pack s (value_view texts v)) (pack_all s (map (value_view texts) all))
      (λ e is. sym begun.so_far ∙ ap (λ r. ahead (map message_view packed) r) (ap (λ r. unless_fault r (λ m. unless_fault (pack_all s (map (value_view texts) left)) (λ ms. Ok (m ∷ ms)))) is)
      ∙ ahead-Err (map message_view packed) e) fault a

pub all-begun : (s : Store) (texts : List Bytes) (packed : List Variant) (all : List Value) → AreBegun s texts packed [] all → pack_all s (map (value_view texts) all) ≡ Ok (map message_view packed)
all-begun s texts packed all begun = sym begun.so_far ∙ ahead-all (map message_view packed)

-- ---- a table

pub cycle_answers : (left : ℕ) (s : Store) (inside : List ℕ) (t : ℕ) → holds inside t ≡ true → Answers {M = Message} {V = Variant} message_view (pack_within left s inside (meant.table t)) (Err Cycle)
cycle_answers left s inside t there = answers-refusal message_view (pack_within left s inside (meant.table t)) cycle (within-cycle left s inside t there)

pub depth_answers : (s : Store) (inside : List ℕ) (t : ℕ) → holds inside t ≡ false → Answers {M = Message} {V = Variant} message_view (pack_within 0 s inside (meant.table t)) (Err Depth)
depth_answers s inside t out = answers-refusal message_view (pack_within 0 s inside (meant.table t)) depth (within-depth s inside t out)

module _ (left : ℕ) (s : Store) (inside : List ℕ) (t : ℕ) (texts : List Bytes) (places : Places Value Value) (out : holds inside t ≡ false) (are : places_view texts places ≡ (table_at s t).places) where
  pub pairs_refused : (fault : PackFault) → Answers pairs_view (packed_of (λ v. pack_within left s (t ∷ inside) v) texts (pairs_in places)) (Err fault)
      → Answers {M = Message} {V = Variant} message_view (pack_within (suc left) s inside (meant.table t)) (Err fault)
  pairs_refused fault a =
      answers-part pairs_view message_view (packed_of (λ v. pack_within left s (t ∷ inside) v) texts (pairs_in places)) (pack_within (suc left) s inside (meant.table t))
      (λ e is. table-packed left s inside t texts places out are ∙ ap (λ r. unless_fault r (λ pairs. Ok (Message.table pairs))) is) fault a

  pub table_answers : (packed : List (Variant × Variant)) → Answers pairs_view (packed_of (λ v. pack_within left s (t ∷ inside) v) texts (pairs_in places)) (Ok packed)
      → Answers message_view (pack_within (suc left) s inside (meant.table t)) (Ok (variant.Table packed))
  table_answers packed a =
      table-packed left s inside t texts places out are ∙ ap (λ r. unless_fault r (λ pairs. Ok (Message.table pairs))) a ∙ ap (λ m. Ok m) (sym (seen-Table packed))

-- the tables that a value lies in, the last one in front
holds-append : (xs ys : List ℕ) (n : ℕ) → holds (xs ++ ys) n ≡ cond (holds xs n) true (holds ys n)
holds-append [] ys n = refl
holds-append (x ∷ xs) ys n = by (nat_eq x n) (holds-append xs ys n)
  where
    by : (b : Bool) → holds (xs ++ ys) n ≡ cond (holds xs n) true (holds ys n) → cond b true (holds (xs ++ ys) n) ≡ cond (cond b true (holds xs n)) true (holds ys n)
    by true e = refl
    by false e = e

pub holds-reverse : (xs : List ℕ) (n : ℕ) → holds (reverse xs) n ≡ holds xs n
holds-reverse [] n = refl
holds-reverse (x ∷ xs) n =
    ap (λ ys. holds ys n) (reverse-append (x ∷ []) xs) ∙ holds-append (reverse xs) (x ∷ []) n ∙ ap (λ b. cond b true (holds (x ∷ []) n)) (holds-reverse xs n)
    ∙ last (holds xs n) (nat_eq x n)
  where
    last : (a b : Bool) → cond a true (cond b true false) ≡ cond b true a
    last true true = refl
    last true false = refl
    last false true = refl
    last false false = refl

pub reverse-last : (xs : List ℕ) (x : ℕ) → reverse (xs ++ x ∷ []) ≡ x ∷ reverse xs
reverse-last xs x = reverse-append xs (x ∷ [])

-- what is said of a value is said of an equal one
pub at_value : (left : ℕ) (s : Store) (inside : List ℕ) (texts : List Bytes) (v w : Value) (r : Result Variant PackFault) → v ≡ w
    → Answers message_view (pack_within left s inside (value_view texts w)) r → Answers message_view (pack_within left s inside (value_view texts v)) r
at_value left s inside texts v w r same a = subst (λ x. Answers message_view (pack_within left s inside (value_view texts x)) r) (sym same) a

pub at_text : (left : ℕ) (s : Store) (inside : List ℕ) (text : Bytes) (r : Result Variant PackFault) → Answers message_view (Ok (Message.str text)) r
    → Answers message_view (pack_within left s inside (meant.str text)) r
at_text left s inside text r a = subst (λ x. Answers message_view x r) (sym (within-str left s inside text)) a

pub at_data : (left : ℕ) (s : Store) (inside : List ℕ) (d : ℕ) (r : Result Variant PackFault) → Answers message_view (Ok (Message.datum (contents_at s d))) r
    → Answers message_view (pack_within left s inside (meant.datum d)) r
at_data left s inside d r a = subst (λ x. Answers message_view x r) (sym (within-datum left s inside d)) a

-- ---- the stack of open tables

-- a table is in the stack exactly where `contains` finds it
pub stack-holds : (xs ys : List ℕ) (n : ℕ) (found is : Bool) → ys ≡ xs → found ≡ list_any (λ m. nat_eq m n) ys → found ≡ is → holds (reverse xs) n ≡ is
stack-holds xs ys n found is same by_call decided = holds-reverse xs n ∙ any xs ∙ ap (λ ms. list_any (λ m. nat_eq m n) ms) (sym same) ∙ sym by_call ∙ decided
  where
    any : (ms : List ℕ) → holds ms n ≡ list_any (λ m. nat_eq m n) ms
    any [] = refl
    any (m ∷ ms) = by (nat_eq m n) (any ms)
      where
        by : (b : Bool) → holds ms n ≡ list_any (λ m. nat_eq m n) ms → cond b true (holds ms n) ≡ (b || list_any (λ m. nat_eq m n) ms)
        by true e = refl
        by false e = e

-- a table on the stack, and what its pairs come to
module _ (left less : ℕ) (s : Store) (below stack : List ℕ) (t : ℕ) (texts : List Bytes) (places : Places Value Value) (pairs : List (Value × Value))
    (is_less : left ≡ suc less) (pushed : stack ≡ below ++ t ∷ []) (out : holds (reverse below) t ≡ false) (are : places_view texts places ≡ (table_at s t).places) (listed : pairs ≡ pairs_in places) where
  at_pairs : (r : Result (List (Variant × Variant)) PackFault) → Answers pairs_view (packed_of (λ v. pack_within less s (reverse stack) v) texts pairs) r
      → Answers pairs_view (packed_of (λ v. pack_within less s (t ∷ reverse below) v) texts (pairs_in places)) r
  at_pairs r a =
      subst (λ ps. Answers pairs_view (packed_of (λ v. pack_within less s (t ∷ reverse below) v) texts ps) r) listed
      (subst (λ (inside : List ℕ). Answers pairs_view (packed_of (λ v. pack_within less s inside v) texts pairs) r) (ap reverse pushed ∙ reverse-last below t) a)

  pub opened_refused : (fault : PackFault) → Answers pairs_view (packed_of (λ v. pack_within less s (reverse stack) v) texts pairs) (Err fault)
      → Answers {M = Message} {V = Variant} message_view (pack_within left s (reverse below) (meant.table t)) (Err fault)
  opened_refused fault a =
      subst (λ n. Answers {M = Message} {V = Variant} message_view (pack_within n s (reverse below) (meant.table t)) (Err fault)) (sym is_less)
      (pairs_refused less s (reverse below) t texts places out are fault (at_pairs (Err fault) a))

  pub opened_answers : (packed : List (Variant × Variant)) → Answers pairs_view (packed_of (λ v. pack_within less s (reverse stack) v) texts pairs) (Ok packed)
      → Answers message_view (pack_within left s (reverse below) (meant.table t)) (Ok (variant.Table packed))
  opened_answers packed a =
      subst (λ n. Answers message_view (pack_within n s (reverse below) (meant.table t)) (Ok (variant.Table packed))) (sym is_less)
      (table_answers less s (reverse below) t texts places out are packed (at_pairs (Ok packed) a))

-- a refusal that is handed on is the one that came
pub handed_on : {M V : Type 0} → (view : V → M) (meaning : Result M packing.PackFault) (fault : PackFault) (r : Result V PackFault)
    → Answers view meaning (Err fault) → IsErrAnd r (λ f. f ≡ fault) → Answers view meaning r
handed_on view meaning fault (Ok v) a is = absurd is
handed_on view meaning fault (Err f) a is = subst (λ e. Answers view meaning (Err e)) (sym is) a

-- what was pushed is popped
pub popped : {X : Type 0} → (below stack : List X) (x : X) (n : ℕ) → stack ≡ below ++ x ∷ [] → n ≡ length stack → take (n - 1) stack ≡ below
popped {X} below stack x n pushed size =
    let whole : length stack ≡ length below + 1 = ap length pushed ∙ length-append below (x ∷ []) in
    let less : n - 1 ≡ length below = omega (arith, size, whole) in
    ap (λ m. take m stack) less ∙ ap (λ (xs : List X). take (length below) xs) pushed ∙ front below
  where
    front : (ys : List X) → take (length ys) (ys ++ x ∷ []) ≡ ys
    front [] = refl
    front (y ∷ ys) = ap (λ zs. y ∷ zs) (front ys)
