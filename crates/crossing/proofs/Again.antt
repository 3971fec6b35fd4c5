-- What was unpacked packs to the same message.
use Rattle.std.proofs.Common.{◌≡◌, ℕ, zero, suc, ◌+◌, ◌<◌, ◌≤◌, Bool, true, false, cond, List, [], ◌∷◌, ◌++◌, length, Option, None, Some, Ok, refl, sym, ap, subst, ◌∙◌, slice_get, append-nil, append_assoc, arith}
use Rattle.std.specs.Prelude.{⊤, unwrap_or, slice_set, nat_eq}
use Rattle.std.proofs.lemmas.List.{length-append, length-set}
use Rattle.std.proofs.lemmas.Bool.Decides.{Decides-eqb}
use Rattle.love_base.specs.Data.{Contents}
use Rattle.lua_table.specs.Table.{Places, has_place, set}
use Rattle.lua_meaning.specs.Message.{Message, Pairs, no_pairs, pair_and}
use Rattle.lua_meaning.specs.Value as meant
use Rattle.lua_meaning.specs.Value.{Value, same, is_nil}
use Rattle.lua_meaning.specs.Store.{Store, Table, table_at, contents_at, no_table, no_contents, add_table, add_contents, raw_set, set_table, with_value}
use Rattle.lua_meaning.specs.Packing.{unless_fault, pack_places, pack_within, holds, unpack, unpack_pair, unpack_pairs}
use Rattle.crossing.specs.Laws.{PacksAgain}
use Rattle.crossing.proofs.Tests.{else_second}
use Rattle.crossing.proofs.Within.{within-nil, within-flag, within-num, within-str, within-channel, within-datum}
use Rattle.crossing.proofs.Sent.{IsKey, IsValue, key_value, IsApart, AreApart, IsSent, AreSent, packs_key, packed-sent}

-- ---- what stands in a store later on

-- the tables of some places, and all Data, stand in a later store as they were
record Stands (P : ℕ → Type 0) (a b : Store) : Type 0 where
  tables : length a.tables ≤ length b.tables
  contents : length a.contents ≤ length b.contents
  table : (i : ℕ) → P i → i < length a.tables → table_at b i ≡ table_at a i
  content : (i : ℕ) → i < length a.contents → contents_at b i ≡ contents_at a i

stands-same : (P : ℕ → Type 0) (a : Store) → Stands P a a
stands-same P a = record { tables = omega arith; contents = omega arith; table = λ i p within. refl; content = λ i within. refl }

stands-fewer : (P Q : ℕ → Type 0) (a b : Store) → ((i : ℕ) → Q i → P i) → Stands P a b → Stands Q a b
stands-fewer P Q a b fewer s = record { tables = s.tables; contents = s.contents; table = λ i q within. s.table i (fewer i q) within; content = s.content }

stands-trans : (P : ℕ → Type 0) (a b c : Store) → Stands P a b → Stands P b c → Stands P a c
stands-trans P a b c s t =
    let more = s.tables in
    let more_contents = s.contents in
    record {
      tables = let n = t.tables in omega (arith, more, n);
      contents = let n = t.contents in omega (arith, more_contents, n);
      table = λ i p within. let later : i < length b.tables = omega (arith, more, within) in t.table i p later ∙ s.table i p within;
      content = λ i within. let later : i < length b.contents = omega (arith, more_contents, within) in t.content i later ∙ s.content i within;
    }

at-before : {X : Type 0} → (xs ys : List X) (i : ℕ) (d : X) → i < length xs → unwrap_or (slice_get (xs ++ ys) i) d ≡ unwrap_or (slice_get xs i) d
at-before [] ys i d within = absurd (omega arith)
at-before (x ∷ xs) ys zero d within = refl
at-before (x ∷ xs) ys (suc i) d within = at-before xs ys i d (omega arith)

at-last : {X : Type 0} → (xs : List X) (x d : X) → unwrap_or (slice_get (xs ++ x ∷ []) (length xs)) d ≡ x
at-last [] x d = refl
at-last (y ∷ xs) x d = at-last xs x d

at-set : {X : Type 0} → (xs : List X) (i : ℕ) (x d : X) → i < length xs → unwrap_or (slice_get (slice_set xs i x) i) d ≡ x
at-set [] i x d within = absurd (omega arith)
at-set (y ∷ xs) zero x d within = refl
at-set (y ∷ xs) (suc i) x d within = at-set xs i x d (omega arith)

at-other : {X : Type 0} → (xs : List X) (i j : ℕ) (x d : X) → (i ≡ j → ⊥) → unwrap_or (slice_get (slice_set xs j x) i) d ≡ unwrap_or (slice_get xs i) d
at-other [] i j x d apart = refl
at-other (y ∷ xs) zero zero x d apart = absurd (apart refl)
at-other (y ∷ xs) (suc i) zero x d apart = refl
at-other (y ∷ xs) zero (suc j) x d apart = refl
at-other (y ∷ xs) (suc i) (suc j) x d apart = at-other xs i j x d (λ e. apart (ap (λ n. suc n) e))

stands-add_contents : (P : ℕ → Type 0) (s : Store) (made : Contents) → Stands P s (add_contents s made)
stands-add_contents P s made =
    let size : length (add_contents s made).contents ≡ length s.contents + 1 = length-append s.contents (made ∷ []) in
    record {
      tables = omega arith;
      contents = omega (arith, size);
      table = λ i p within. refl;
      content = λ i within. at-before s.contents (made ∷ []) i no_contents within;
    }

stands-set : (s : Store) (t : ℕ) (table : Table) → Stands (λ i. i ≡ t → ⊥) s (set_table s t table)
stands-set s t table =
    let size : length (set_table s t table).tables ≡ length s.tables = length-set s.tables t table in
    record {
      tables = omega (arith, size);
      contents = omega arith;
      table = λ i p within. at-other s.tables i t table no_table p;
      content = λ i within. refl;
    }

-- ---- a key that a table hasn't had

set-new : (places : Places Value Value) (key v : Value) → has_place same places key ≡ false → set same places key v ≡ places ++ (key, Some v) ∷ []
set-new [] key v e = refl
set-new (place ∷ rest) key v e = by (same key place.0) (set-new rest key v) e
  where
    by : (b : Bool) → (has_place same rest key ≡ false → set same rest key v ≡ rest ++ (key, Some v) ∷ []) → cond b true (has_place same rest key) ≡ false
        → cond b ((place.0, Some v) ∷ rest) (place ∷ set same rest key v) ≡ place ∷ (rest ++ (key, Some v) ∷ [])
    by true later e = cc
    by false later e = ap (λ ps. place ∷ ps) (later e)

has-more : (places : Places Value Value) (key other v : Value) → has_place same places other ≡ false → same other key ≡ false → has_place same (places ++ (key, Some v) ∷ []) other ≡ false
has-more [] key other v e apart = else_second (same other key) true false apart
has-more (place ∷ rest) key other v e apart = by (same other place.0) (λ f. has-more rest key other v f apart) e
  where
    by : (b : Bool) → (has_place same rest other ≡ false → has_place same (rest ++ (key, Some v) ∷ []) other ≡ false) → cond b true (has_place same rest other) ≡ false
        → cond b true (has_place same (rest ++ (key, Some v) ∷ []) other) ≡ false
    by true later e = e
    by false later e = later e

-- a table has none of these keys
abbrev AreNew : Places Value Value → Pairs → Type 0
AreNew places no_pairs = ⊤
AreNew places (pair_and k v rest) = (has_place same places (key_value k) ≡ false) × AreNew places rest

new-more : (places : Places Value Value) (key v : Value) (pairs : Pairs) → AreNew places pairs → IsApart key pairs → AreNew (places ++ (key, Some v) ∷ []) pairs
new-more places key v no_pairs new apart = tt
new-more places key v (pair_and k m rest) new apart = (has-more places key (key_value k) v new.0 apart.0, new-more places key v rest new.1 apart.1)

all-new : (pairs : Pairs) → AreNew [] pairs
all-new no_pairs = tt
all-new (pair_and k v rest) = (refl, all-new rest)

-- ---- one pair

unpacks-pair : (k : Message) → IsKey k → (t : ℕ) (s : Store) (value : Store → Value × Store)
    → unpack_pair t (unpack k s) value ≡ raw_set (value s).1 t (key_value k) (value s).0
unpacks-pair (Message.flag b) p t s value = refl
unpacks-pair (Message.num n) p t s value = refl
unpacks-pair (Message.str bytes) p t s value = refl
unpacks-pair Message.nil p t s value = absurd p
unpacks-pair (Message.datum made) p t s value = absurd p
unpacks-pair (Message.channel c) p t s value = absurd p
unpacks-pair (Message.table pairs) p t s value = absurd p

value-is : (m : Message) (s : Store) → IsValue m → is_nil (unpack m s).0 ≡ false
value-is Message.nil s p = absurd p
value-is (Message.flag b) s p = refl
value-is (Message.num n) s p = refl
value-is (Message.str bytes) s p = refl
value-is (Message.datum made) s p = refl
value-is (Message.channel c) s p = refl
value-is (Message.table pairs) s p = refl

-- a table that gets a value for a new key
sets-new : (s : Store) (t : ℕ) (key v : Value) (done : Places Value Value) (meta : Option ℕ) → t < length s.tables → table_at s t ≡ record { places = done; meta = meta }
    → has_place same done key ≡ false → is_nil v ≡ false → table_at (raw_set s t key v) t ≡ record { places = done ++ (key, Some v) ∷ []; meta = meta }
sets-new s t key v done meta within here new valued =
    let Made : Places Value Value → Option ℕ → Table = λ ps m. record { places = ps; meta = m } in
    at-set s.tables t _ no_table within
    ∙ ap (λ (x : Table). Made (with_value x.places key v) x.meta) here
    ∙ ap (λ ps. Made ps meta) (else_second (is_nil v) _ _ valued ∙ set-new done key v new)

-- ---- unpacked and packed again

-- a message as a value in a store, packed in a later one
record IsBack (left : ℕ) (m : Message) (s : Store) : Type 0 where
  stands : Stands (λ i. ⊤) s (unpack m s).1
  packs : (later : Store) → Stands (λ i. length s.tables ≤ i) (unpack m s).1 later → (inside : List ℕ)
      → ((n : ℕ) → length s.tables ≤ n → holds inside n ≡ false) → pack_within left later inside (unpack m s).0 ≡ Ok m

record AreBack (left : ℕ) (pairs : Pairs) (t : ℕ) (s : Store) (done : Places Value Value) (meta : Option ℕ) : Type 0 where
  new : Places Value Value
  stands : Stands (λ i. i ≡ t → ⊥) s (unpack_pairs pairs t s)
  here : table_at (unpack_pairs pairs t s) t ≡ record { places = done ++ new; meta = meta }
  packs : (later : Store) → Stands (λ i. t < i) (unpack_pairs pairs t s) later → (inside : List ℕ)
      → ((n : ℕ) → t < n → holds inside n ≡ false) → pack_places (λ v. pack_within left later inside v) new ≡ Ok pairs

plain-back : (left : ℕ) (m : Message) (s : Store) (v : Value) → unpack m s ≡ (v, s) → ((later : Store) (inside : List ℕ) → pack_within left later inside v ≡ Ok m) → IsBack left m s
plain-back left m s v is packs =
    record {
      stands = subst (λ (r : Value × Store). Stands (λ i. ⊤) s r.1) (sym is) (stands-same (λ i. ⊤) s);
      packs = λ later stays inside out. ap (λ (r : Value × Store). pack_within left later inside r.0) is ∙ packs later inside;
    }

datum-back : (left : ℕ) (made : Contents) (s : Store) → IsBack left (Message.datum made) s
datum-back left made s =
    let size : length (add_contents s made).contents ≡ length s.contents + 1 = length-append s.contents (made ∷ []) in
    record {
      stands = stands-add_contents (λ i. ⊤) s made;
      packs = λ later stays inside out. within-datum left later inside (length s.contents)
          ∙ ap (λ c. Ok (Message.datum c)) (stays.content (length s.contents) (omega (arith, size)) ∙ at-last s.contents made no_contents);
    }

-- a table, by what its pairs come to
table-back : (left : ℕ) (pairs : Pairs) (s : Store) → AreBack left pairs (length s.tables) (add_table s) [] None → IsBack (suc left) (Message.table pairs) s
table-back left pairs s back =
    let t = length s.tables in
    let size : length (add_table s).tables ≡ t + 1 = length-append s.tables (no_table ∷ []) in
    let grown = back.stands.tables in
    record {
      stands =
          record {
            tables = omega (arith, size, grown);
            contents = back.stands.contents;
            table = λ i p within.
                let apart : i ≡ t → ⊥ = λ e. absurd (omega (arith, e, within)) in
                let more : i < length (add_table s).tables = omega (arith, size, within) in
                back.stands.table i apart more ∙ at-before s.tables (no_table ∷ []) i no_table within;
            content = back.stands.content;
          };
      packs = λ later stays inside out.
          let within : t < length (unpack_pairs pairs t (add_table s)).tables = omega (arith, size, grown) in
          let own : t ≤ t = omega arith in
          let places : (table_at later t).places ≡ back.new = ap (λ (x : Table). x.places) (stays.table t own within ∙ back.here) in
          let fewer : (i : ℕ) → t < i → t ≤ i = λ i more. omega (arith, more) in
          let deeper : (n : ℕ) → t < n → holds (t ∷ inside) n ≡ false = λ n more. deeper_out n more inside out in
          else_second (holds inside t) _ _ (out t own)
          ∙ ap (λ r. unless_fault r (λ pairs. Ok (Message.table pairs)))
          (ap (λ ps. pack_places (λ v. pack_within left later (t ∷ inside) v) ps) places
          ∙ back.packs later (stands-fewer (λ i. t ≤ i) (λ i. t < i) (unpack_pairs pairs t (add_table s)) later fewer stays) (t ∷ inside) deeper);
    }
  where
    apart_eq : (m n : ℕ) → m < n → nat_eq m n ≡ false
    apart_eq m n less = by (nat_eq m n) refl
      where
        by : (b : Bool) → nat_eq m n ≡ b → nat_eq m n ≡ false
        by true e = let is : m ≡ n = (Decides-eqb m n).0 e in absurd (omega (arith, is, less))
        by false e = e

    deeper_out : (n : ℕ) → length s.tables < n → (inside : List ℕ) → ((n : ℕ) → length s.tables ≤ n → holds inside n ≡ false) → holds (length s.tables ∷ inside) n ≡ false
    deeper_out n more inside out = else_second (nat_eq (length s.tables) n) true (holds inside n) (apart_eq (length s.tables) n more) ∙ out n (omega (arith, more))

-- a pair in front of others
pair-back : (left : ℕ) (k v : Message) (rest : Pairs) (t : ℕ) (s : Store) (done : Places Value Value) (meta : Option ℕ)
    → IsKey k → IsValue v → t < length s.tables → table_at s t ≡ record { places = done; meta = meta } → has_place same done (key_value k) ≡ false
    → IsBack left v s
    → AreBack left rest t (raw_set (unpack v s).1 t (key_value k) (unpack v s).0) (done ++ (key_value k, Some (unpack v s).0) ∷ []) meta
    → AreBack left (pair_and k v rest) t s done meta
pair-back left k v rest t s done meta key valued within here new first others =
    let s1 = (unpack v s).1 in
    let w = (unpack v s).0 in
    let s2 = raw_set s1 t (key_value k) w in
    let is : unpack_pairs (pair_and k v rest) t s ≡ unpack_pairs rest t s2 = ap (λ x. unpack_pairs rest t x) (unpacks-pair k key t s (λ s. unpack v s)) in
    let but : ℕ → Type 0 = λ i. i ≡ t → ⊥ in
    let past : ℕ → Type 0 = λ i. length s.tables ≤ i in
    let set_stands = stands-set s1 t (record { places = with_value (table_at s1 t).places (key_value k) w; meta = (table_at s1 t).meta }) in
    let to_end : Stands but s (unpack_pairs rest t s2) =
    stands-trans but s s2 (unpack_pairs rest t s2) (stands-trans but s s1 s2 (stands-fewer (λ i. ⊤) but s s1 (λ i p. tt) first.stands) set_stands) others.stands in
    let not_own : (i : ℕ) → length s.tables ≤ i → i ≡ t → ⊥ = λ i more e. absurd (omega (arith, more, e, within)) in
    let behind : (i : ℕ) → length s.tables ≤ i → t < i = λ i more. omega (arith, more, within) in
    record {
      new = (key_value k, Some w) ∷ others.new;
      stands = subst (λ x. Stands but s x) (sym is) to_end;
      here = ap (λ x. table_at x t) is ∙ others.here
          ∙ ap (λ ps. let made : Table = record { places = ps; meta = meta } in made) (append_assoc done ((key_value k, Some w) ∷ []) others.new);
      packs = λ later stays inside out.
          let stays' : Stands (λ i. t < i) (unpack_pairs rest t s2) later = subst (λ x. Stands (λ i. t < i) x later) is stays in
          let from_value : Stands past s1 later =
          stands-trans past s1 s2 later (stands-fewer but past s1 s2 not_own set_stands)
          (stands-trans past s2 (unpack_pairs rest t s2) later (stands-fewer but past s2 (unpack_pairs rest t s2) not_own others.stands)
          (stands-fewer (λ i. t < i) past (unpack_pairs rest t s2) later behind stays')) in
          let value_packs : pack_within left later inside w ≡ Ok v = first.packs later from_value inside (λ n more. out n (behind n more)) in
          let rest_packs = others.packs later stays' inside out in
          ap (λ r. unless_fault r (λ k. unless_fault (pack_within left later inside w) (λ v. unless_fault (pack_places (λ v. pack_within left later inside v) others.new) (λ rest. Ok (pair_and k v rest))))) (packs_key k key)
          ∙ ap (λ r. unless_fault r (λ v. unless_fault (pack_places (λ v. pack_within left later inside v) others.new) (λ rest. Ok (pair_and k v rest)))) value_packs
          ∙ ap (λ r. unless_fault r (λ rest. Ok (pair_and k v rest))) rest_packs;
    }

mutual
  back : (left : ℕ) (m : Message) → IsSent left m → (s : Store) → IsBack left m s
  back left Message.nil sent s = plain-back left Message.nil s meant.nil refl (λ later inside. within-nil left later inside)
  back left (Message.flag b) sent s = plain-back left (Message.flag b) s (meant.flag b) refl (λ later inside. within-flag left later inside b)
  back left (Message.num n) sent s = plain-back left (Message.num n) s (meant.num n) refl (λ later inside. within-num left later inside n)
  back left (Message.str text) sent s = plain-back left (Message.str text) s (meant.str text) refl (λ later inside. within-str left later inside text)
  back left (Message.channel c) sent s = plain-back left (Message.channel c) s (meant.channel c) refl (λ later inside. within-channel left later inside c)
  back left (Message.datum made) sent s = datum-back left made s
  back zero (Message.table pairs) sent s = absurd sent
  back (suc left) (Message.table pairs) sent s =
      let size : length (add_table s).tables ≡ length s.tables + 1 = length-append s.tables (no_table ∷ []) in
      table-back left pairs s
      (pairs-back left pairs sent.0 sent.1 (length s.tables) (add_table s) [] None (omega (arith, size)) (at-last s.tables no_table no_table) (all-new pairs))

  pairs-back : (left : ℕ) (pairs : Pairs) → AreSent left pairs → AreApart pairs → (t : ℕ) (s : Store) (done : Places Value Value) (meta : Option ℕ)
      → t < length s.tables → table_at s t ≡ record { places = done; meta = meta } → AreNew done pairs → AreBack left pairs t s done meta
  pairs-back left no_pairs sent apart t s done meta within here new =
      record {
        new = [];
        stands = stands-same (λ i. i ≡ t → ⊥) s;
        here = here ∙ ap (λ ps. let made : Table = record { places = ps; meta = meta } in made) (sym (append-nil done));
        packs = λ later stays inside out. refl;
      }
  pairs-back left (pair_and k v rest) sent apart t s done meta within here new =
      let first = back left v sent.1.1.0 s in
      let s1 = (unpack v s).1 in
      let w = (unpack v s).0 in
      let more = first.stands.tables in
      let within1 : t < length s1.tables = omega (arith, more, within) in
      let here1 : table_at s1 t ≡ record { places = done; meta = meta } = first.stands.table t tt within ∙ here in
      let size : length (raw_set s1 t (key_value k) w).tables ≡ length s1.tables = length-set s1.tables t _ in
      pair-back left k v rest t s done meta sent.0 sent.1.0 within here new.0 first
      (pairs-back left rest sent.1.1.1 apart.1 t (raw_set s1 t (key_value k) w) (done ++ (key_value k, Some w) ∷ []) meta (omega (arith, size, within1))
      (sets-new s1 t (key_value k) w done meta within1 here1 new.0 (value-is v s sent.1.0)) (new-more done (key_value k) w rest new.1 apart.0))

pub packs_again : PacksAgain
packs_again s into v m tidy e =
    (back 128 m (packed-sent 128 s [] v m tidy e) into).packs (unpack m into).1 (stands-same (λ i. length into.tables ≤ i) (unpack m into).1) [] (λ n more. refl)
