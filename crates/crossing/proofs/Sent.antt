-- Messages that a state packs.
use Rattle.std.proofs.Common.{◌≡◌, ℕ, zero, suc, ℤ, pos, negsuc, Bool, true, false, cond, List, [], ◌∷◌, None, Some, Ok, Err, Result, refl, sym, ap, subst}
use Rattle.std.specs.Prelude.{⊤, bytes_eq}
use Rattle.std.specs.List.{AllByRecursion, IsDistinct}
use Rattle.std.specs.Map.{keys_of}
use Rattle.std.proofs.lemmas.Bool.Decides.{Decides-eqb}
use Rattle.std.proofs.lemmas.Slice.Eq.{bytes_eq-Decides}
use Rattle.lua_table.specs.Table.{Places}
use Rattle.lua_meaning.specs.Message.{Message, Pairs, no_pairs, pair_and}
use Rattle.lua_meaning.specs.Value as meant
use Rattle.lua_meaning.specs.Value.{Value, same, same_number, same_flag, is_nil}
use Rattle.lua_meaning.specs.Store.{Store, table_at, contents_at}
use Rattle.lua_meaning.specs.Packing.{PackFault, unless_fault, pack_key, pack_pair, pack_places, pack_within, holds}
use Rattle.crossing.specs.Laws.{IsValued, IsTidyTable, IsTidy}

-- ---- small facts

same_Ok : {A E : Type 0} → (a b : A) → ◌≡◌ {A = Result A E} (Ok a) (Ok b) → a ≡ b
same_Ok a b e = cc

no_Ok : {A E : Type 0} → (e : E) (a : A) → Err e ≡ Ok a → ⊥
no_Ok e a is = absurd (cc is)

-- what came of a fault or of what goes on
record GoesOn {A B E : Type 0} (r : Result A E) (next : A → Result B E) (b : B) : Type 0 where
  found : A
  first : r ≡ Ok found
  then : next found ≡ Ok b

goes_on : {A B E : Type 0} → (r : Result A E) (next : A → Result B E) (b : B) → unless_fault r next ≡ Ok b → GoesOn r next b
goes_on (Ok a) next b e = record { found = a; first = refl; then = e }
goes_on (Err fault) next b e = absurd (no_Ok fault b e)

-- ---- messages that a state packs

abbrev pub IsKey : Message → Type 0
IsKey (Message.flag b) = ⊤
IsKey (Message.num n) = ⊤
IsKey (Message.str bytes) = ⊤
IsKey m = ⊥

abbrev pub IsValue : Message → Type 0
IsValue Message.nil = ⊥
IsValue m = ⊤

-- the value that a key is
abbrev pub key_value : Message → Value
key_value (Message.flag b) = meant.flag b
key_value (Message.num n) = meant.num n
key_value (Message.str bytes) = meant.str bytes
key_value m = meant.nil

-- no later key is this one
abbrev pub IsApart : Value → Pairs → Type 0
IsApart key no_pairs = ⊤
IsApart key (pair_and k v rest) = (same (key_value k) key ≡ false) × IsApart key rest

abbrev pub AreApart : Pairs → Type 0
AreApart no_pairs = ⊤
AreApart (pair_and k v rest) = IsApart (key_value k) rest × AreApart rest

abbrev mutual
  pub IsSent : ℕ → Message → Type 0
  IsSent left Message.nil = ⊤
  IsSent left (Message.flag b) = ⊤
  IsSent left (Message.num n) = ⊤
  IsSent left (Message.str bytes) = ⊤
  IsSent left (Message.datum made) = ⊤
  IsSent left (Message.channel c) = ⊤
  IsSent zero (Message.table pairs) = ⊥
  IsSent (suc left) (Message.table pairs) = AreSent left pairs × AreApart pairs

  pub AreSent : ℕ → Pairs → Type 0
  AreSent left no_pairs = ⊤
  AreSent left (pair_and k v rest) = IsKey k × (IsValue v × (IsSent left v × AreSent left rest))

-- ---- keys

same_number-is : (a b : ℤ) → same_number a b ≡ true → a ≡ b
same_number-is (pos a) (pos b) e = ap pos ((Decides-eqb a b).0 e)
same_number-is (pos a) (negsuc b) e = cc
same_number-is (negsuc a) (pos b) e = cc
same_number-is (negsuc a) (negsuc b) e = ap negsuc ((Decides-eqb a b).0 e)

same_number-same : (a : ℤ) → same_number a a ≡ true
same_number-same (pos a) = (Decides-eqb a a).1 refl
same_number-same (negsuc a) = (Decides-eqb a a).1 refl

-- a test that tells what is equal goes both ways
both_ways : {X : Type 0} → (test : X → X → Bool) → ((a b : X) → test a b ≡ true → a ≡ b) → ((a : X) → test a a ≡ true) → (a b : X) → test a b ≡ false → test b a ≡ false
both_ways {X} test is itself a b e = by (test b a) refl
  where
    by : (c : Bool) → test b a ≡ c → test b a ≡ false
    by true t = let P : X → Type 0 = λ x. test a x ≡ false in let f : test a a ≡ false = subst P (is b a t) e in let g = itself a in absurd (cc (f, g))
    by false t = t

flag_both : (a b : Bool) → same_flag a b ≡ false → same_flag b a ≡ false
flag_both true true e = cc
flag_both true false e = refl
flag_both false true e = refl
flag_both false false e = cc

number_both : (a b : ℤ) → same_number a b ≡ false → same_number b a ≡ false
number_both a b e = both_ways same_number same_number-is same_number-same a b e

bytes_both : (a b : List ℕ) → bytes_eq a b ≡ false → bytes_eq b a ≡ false
bytes_both a b e = both_ways bytes_eq (λ a b. (bytes_eq-Decides a b).0) (λ a. (bytes_eq-Decides a a).1 refl) a b e

-- keys of messages that are told apart one way are told apart the other way
apart-both : (j k : Message) → IsKey j → IsKey k → same (key_value j) (key_value k) ≡ false → same (key_value k) (key_value j) ≡ false
apart-both (Message.flag a) (Message.flag b) p q e = flag_both a b e
apart-both (Message.num a) (Message.num b) p q e = number_both a b e
apart-both (Message.str a) (Message.str b) p q e = bytes_both a b e
apart-both (Message.flag a) (Message.num b) p q e = refl
apart-both (Message.flag a) (Message.str b) p q e = refl
apart-both (Message.num a) (Message.flag b) p q e = refl
apart-both (Message.num a) (Message.str b) p q e = refl
apart-both (Message.str a) (Message.flag b) p q e = refl
apart-both (Message.str a) (Message.num b) p q e = refl
apart-both Message.nil k p q e = absurd p
apart-both (Message.datum made) k p q e = absurd p
apart-both (Message.channel c) k p q e = absurd p
apart-both (Message.table pairs) k p q e = absurd p
apart-both j Message.nil p q e = absurd q
apart-both j (Message.datum made) p q e = absurd q
apart-both j (Message.channel c) p q e = absurd q
apart-both j (Message.table pairs) p q e = absurd q

-- a key that is packed
record IsPackedKey (key : Value) (k : Message) : Type 0 where
  kind : IsKey k
  value : key_value k ≡ key

packed_key : (key : Value) (k : Message) → pack_key key ≡ Ok k → IsPackedKey key k
packed_key (meant.flag b) k e = subst (λ m. IsPackedKey (meant.flag b) m) (same_Ok (Message.flag b) k e) (record { kind = tt; value = refl })
packed_key (meant.num n) k e = subst (λ m. IsPackedKey (meant.num n) m) (same_Ok (Message.num n) k e) (record { kind = tt; value = refl })
packed_key (meant.str s) k e = subst (λ m. IsPackedKey (meant.str s) m) (same_Ok (Message.str s) k e) (record { kind = tt; value = refl })
packed_key meant.nil k e = absurd (no_Ok _ k e)
packed_key (meant.table t) k e = absurd (no_Ok _ k e)
packed_key (meant.func f) k e = absurd (no_Ok _ k e)
packed_key (meant.native f) k e = absurd (no_Ok _ k e)
packed_key (meant.channel c) k e = absurd (no_Ok _ k e)
packed_key (meant.thread t) k e = absurd (no_Ok _ k e)
packed_key (meant.datum d) k e = absurd (no_Ok _ k e)

pub packs_key : (k : Message) → IsKey k → pack_key (key_value k) ≡ Ok k
packs_key (Message.flag b) p = refl
packs_key (Message.num n) p = refl
packs_key (Message.str bytes) p = refl
packs_key Message.nil p = absurd p
packs_key (Message.datum made) p = absurd p
packs_key (Message.channel c) p = absurd p
packs_key (Message.table pairs) p = absurd p

-- ---- the pairs of a table that is packed

-- what is known of a pair's parts
record IsPackedPair (each : Value → Result Message PackFault) (key v : Value) (later : Result Pairs PackFault) (pairs : Pairs) : Type 0 where
  k : Message
  m : Message
  rest : Pairs
  key_is : pack_key key ≡ Ok k
  value_is : each v ≡ Ok m
  rest_is : later ≡ Ok rest
  whole : pair_and k m rest ≡ pairs

packed_pair : (each : Value → Result Message PackFault) (key v : Value) (later : Result Pairs PackFault) (pairs : Pairs)
    → pack_pair each key (Some v) later ≡ Ok pairs → IsPackedPair each key v later pairs
packed_pair each key v later pairs e =
    let one = goes_on (pack_key key) _ pairs e in
    let two = goes_on (each v) _ pairs one.then in
    let three = goes_on later _ pairs two.then in
    record {
      k = one.found;
      m = two.found;
      rest = three.found;
      key_is = one.first;
      value_is = two.first;
      rest_is = three.first;
      whole = same_Ok (pair_and one.found two.found three.found) pairs three.then;
    }

module _ (each : Value → Result Message PackFault) where
  -- a key that is apart from those of a table is apart from those of its message
  places-apart : (k : Message) → IsKey k → (places : Places Value Value) (pairs : Pairs) → AllByRecursion (λ other. same (key_value k) other ≡ false) (keys_of places)
      → pack_places each places ≡ Ok pairs → IsApart (key_value k) pairs
  places-apart k kind [] pairs all e = subst (λ ps. IsApart (key_value k) ps) (same_Ok no_pairs pairs e) tt
  places-apart k kind ((key, None) ∷ rest) pairs all e = places-apart k kind rest pairs all.1 e
  places-apart k kind ((key, Some v) ∷ rest) pairs all e =
      let one = packed_pair each key v (pack_places each rest) pairs e in
      let is = packed_key key one.k one.key_is in
      let P : Value → Type 0 = λ w. same (key_value k) w ≡ false in
      subst (λ ps. IsApart (key_value k) ps) one.whole
      (apart-both k one.k kind is.kind (subst P (sym is.value) all.0), places-apart k kind rest one.rest all.1 one.rest_is)

  module _ (left : ℕ) (sent : (v : Value) (m : Message) → each v ≡ Ok m → IsSent left m) (stays : (v : Value) (m : Message) → is_nil v ≡ false → each v ≡ Ok m → IsValue m) where
    places-sent : (places : Places Value Value) (pairs : Pairs) → AllByRecursion IsValued places → pack_places each places ≡ Ok pairs → AreSent left pairs
    places-sent [] pairs valued e = subst (λ ps. AreSent left ps) (same_Ok no_pairs pairs e) tt
    places-sent ((key, None) ∷ rest) pairs valued e = places-sent rest pairs valued.1 e
    places-sent ((key, Some v) ∷ rest) pairs valued e =
        let one = packed_pair each key v (pack_places each rest) pairs e in
        let is = packed_key key one.k one.key_is in
        subst (λ ps. AreSent left ps) one.whole
        (is.kind, (stays v one.m valued.0 one.value_is, (sent v one.m one.value_is, places-sent rest one.rest valued.1 one.rest_is)))

  are-apart : (places : Places Value Value) (pairs : Pairs) → IsDistinct same (keys_of places) → pack_places each places ≡ Ok pairs → AreApart pairs
  unfolding IsDistinct
  are-apart [] pairs distinct e = subst (λ ps. AreApart ps) (same_Ok no_pairs pairs e) tt
  are-apart ((key, None) ∷ rest) pairs distinct e = are-apart rest pairs distinct.1 e
  are-apart ((key, Some v) ∷ rest) pairs distinct e =
      let one = packed_pair each key v (pack_places each rest) pairs e in
      let is = packed_key key one.k one.key_is in
      let P : Value → Type 0 = λ w. AllByRecursion (λ other. same w other ≡ false) (keys_of rest) in
      subst (λ ps. AreApart ps) one.whole
      (places-apart one.k is.kind rest one.rest (subst P (sym is.value) distinct.0) one.rest_is, are-apart rest one.rest distinct.1 one.rest_is)

-- ---- what a state packs is a message that it packs again

value-stays : (left : ℕ) (s : Store) (inside : List ℕ) (v : Value) (m : Message) → is_nil v ≡ false → pack_within left s inside v ≡ Ok m → IsValue m
value-stays left s inside v Message.nil kept e = absurd (by left v kept e)
  where
    by : (left : ℕ) (v : Value) → is_nil v ≡ false → pack_within left s inside v ≡ Ok Message.nil → ⊥
    by left meant.nil kept e = absurd (cc kept)
    by zero (meant.flag b) kept e = absurd (cc e)
    by zero (meant.num n) kept e = absurd (cc e)
    by zero (meant.str t) kept e = absurd (cc e)
    by zero (meant.func f) kept e = absurd (cc e)
    by zero (meant.native f) kept e = absurd (cc e)
    by zero (meant.channel c) kept e = absurd (cc e)
    by zero (meant.thread t) kept e = absurd (cc e)
    by zero (meant.datum d) kept e = absurd (cc e)
    by zero (meant.table t) kept e = no_depth (holds inside t) e
      where
        no_depth : (b : Bool) → cond b (Err PackFault.cycle) (Err PackFault.depth) ≡ Ok Message.nil → ⊥
        no_depth true e = no_Ok _ _ e
        no_depth false e = no_Ok _ _ e
    by (suc left) (meant.flag b) kept e = absurd (cc e)
    by (suc left) (meant.num n) kept e = absurd (cc e)
    by (suc left) (meant.str t) kept e = absurd (cc e)
    by (suc left) (meant.func f) kept e = absurd (cc e)
    by (suc left) (meant.native f) kept e = absurd (cc e)
    by (suc left) (meant.channel c) kept e = absurd (cc e)
    by (suc left) (meant.thread t) kept e = absurd (cc e)
    by (suc left) (meant.datum d) kept e = absurd (cc e)
    by (suc left) (meant.table t) kept e = no_table_nil (holds inside t) (pack_places (λ v. pack_within left s (t ∷ inside) v) (table_at s t).places) e
      where
        no_table_nil : (b : Bool) (r : Result Pairs PackFault) → cond b (Err PackFault.cycle) (unless_fault r (λ pairs. Ok (Message.table pairs))) ≡ Ok Message.nil → ⊥
        no_table_nil true r e = no_Ok _ _ e
        no_table_nil false (Ok ps) e = absurd (cc e)
        no_table_nil false (Err fault) e = no_Ok _ _ e
value-stays left s inside v (Message.flag b) kept e = tt
value-stays left s inside v (Message.num n) kept e = tt
value-stays left s inside v (Message.str t) kept e = tt
value-stays left s inside v (Message.datum made) kept e = tt
value-stays left s inside v (Message.channel c) kept e = tt
value-stays left s inside v (Message.table pairs) kept e = tt

plain : (left : ℕ) (made m : Message) → IsSent left made → ◌≡◌ {A = Result Message PackFault} (Ok made) (Ok m) → IsSent left m
plain left made m is e = subst (λ x. IsSent left x) (same_Ok made m e) is

table-sent : (left : ℕ) (s : Store) (inside : List ℕ) (t : ℕ) (m : Message) → IsTidyTable (table_at s t).places
    → ((v : Value) (m : Message) → pack_within left s (t ∷ inside) v ≡ Ok m → IsSent left m) → pack_within (suc left) s inside (meant.table t) ≡ Ok m → IsSent (suc left) m
table-sent left s inside t m tidy sent e = by (holds inside t) (pack_places (λ v. pack_within left s (t ∷ inside) v) (table_at s t).places) refl e
  where
    by : (b : Bool) (r : Result Pairs PackFault) → pack_places (λ v. pack_within left s (t ∷ inside) v) (table_at s t).places ≡ r
        → cond b (Err PackFault.cycle) (unless_fault r (λ pairs. Ok (Message.table pairs))) ≡ Ok m → IsSent (suc left) m
    by true r is e = absurd (no_Ok _ m e)
    by false (Err fault) is e = absurd (no_Ok _ m e)
    by false (Ok ps) is e =
        plain (suc left) (Message.table ps) m (
          places-sent (λ v. pack_within left s (t ∷ inside) v) left sent (λ v m kept is. value-stays left s (t ∷ inside) v m kept is) (table_at s t).places ps tidy.valued is,
          are-apart (λ v. pack_within left s (t ∷ inside) v) (table_at s t).places ps tidy.distinct is,
        ) e

pub packed-sent : (left : ℕ) (s : Store) (inside : List ℕ) (v : Value) (m : Message) → IsTidy s → pack_within left s inside v ≡ Ok m → IsSent left m
packed-sent zero s inside meant.nil m tidy e = plain 0 Message.nil m tt e
packed-sent zero s inside (meant.flag b) m tidy e = plain 0 (Message.flag b) m tt e
packed-sent zero s inside (meant.num n) m tidy e = plain 0 (Message.num n) m tt e
packed-sent zero s inside (meant.str t) m tidy e = plain 0 (Message.str t) m tt e
packed-sent zero s inside (meant.func f) m tidy e = absurd (no_Ok _ m e)
packed-sent zero s inside (meant.native f) m tidy e = absurd (no_Ok _ m e)
packed-sent zero s inside (meant.channel c) m tidy e = plain 0 (Message.channel c) m tt e
packed-sent zero s inside (meant.thread t) m tidy e = absurd (no_Ok _ m e)
packed-sent zero s inside (meant.datum d) m tidy e = plain 0 (Message.datum (contents_at s d)) m tt e
packed-sent zero s inside (meant.table t) m tidy e = absurd (by (holds inside t) e)
  where
    by : (b : Bool) → cond b (Err PackFault.cycle) (Err PackFault.depth) ≡ Ok m → ⊥
    by true e = no_Ok _ m e
    by false e = no_Ok _ m e
packed-sent (suc left) s inside meant.nil m tidy e = plain (suc left) Message.nil m tt e
packed-sent (suc left) s inside (meant.flag b) m tidy e = plain (suc left) (Message.flag b) m tt e
packed-sent (suc left) s inside (meant.num n) m tidy e = plain (suc left) (Message.num n) m tt e
packed-sent (suc left) s inside (meant.str t) m tidy e = plain (suc left) (Message.str t) m tt e
packed-sent (suc left) s inside (meant.func f) m tidy e = absurd (no_Ok _ m e)
packed-sent (suc left) s inside (meant.native f) m tidy e = absurd (no_Ok _ m e)
packed-sent (suc left) s inside (meant.channel c) m tidy e = plain (suc left) (Message.channel c) m tt e
packed-sent (suc left) s inside (meant.thread t) m tidy e = absurd (no_Ok _ m e)
packed-sent (suc left) s inside (meant.datum d) m tidy e = plain (suc left) (Message.datum (contents_at s d)) m tt e
packed-sent (suc left) s inside (meant.table t) m tidy e = table-sent left s inside t m (tidy t) (λ v m is. packed-sent left s (t ∷ inside) v m tidy is) e
