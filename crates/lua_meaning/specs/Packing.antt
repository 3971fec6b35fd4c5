-- Values as messages, and messages as values (LÖVE wiki, `Channel:push` and `Channel:pop`).
use Rattle.std.specs.Prelude.{ℕ, zero, suc, Bool, true, false, List, [], ◌∷◌, ◌++◌, length, Option, Some, None, Result, Ok, Err, if◌then◌else◌, nat_eq, codes}
use Rattle.lua_table.specs.Table.{Places}
use Rattle.lua_tree.specs.Tree.{Bytes}
use Rattle.lua_meaning.specs.Message.{Message, Pairs, no_pairs, pair_and}
use Rattle.lua_meaning.specs.Value.{Value, nil, flag, num, str, table, func, native, channel, thread, datum}
use Rattle.lua_meaning.specs.Text.{type_name}
use Rattle.lua_meaning.specs.Store.{Store, table_at, contents_at, raw_set, add_table, add_contents}

-- why a value can't be sent: it is a function or a Thread; it is a table inside itself; a table has a key that isn't a
-- boolean, a number or a string; tables nest too deep
pub data PackFault : Type 0 where
  kind : Value → PackFault
  cycle : PackFault
  key : Value → PackFault
  depth : PackFault

-- the type that the error names
abbrev pub sent_type : Value → Bytes
sent_type (thread t) = codes "Thread"
sent_type v = type_name v

abbrev pub pack_text : PackFault → Bytes
pack_text (kind v) = codes "cannot send a " ++ (sent_type v ++ codes " value")
pack_text cycle = codes "cannot send a table that holds itself"
pack_text (key v) = codes "cannot send a table with a " ++ (sent_type v ++ codes " key")
pack_text depth = codes "cannot send tables nested over 128 deep"

abbrev pub holds : List ℕ → ℕ → Bool
holds [] n = false
holds (m ∷ ms) n = if nat_eq m n then true else holds ms n

-- goes on where there is no fault
abbrev pub unless_fault : {A B E : Type 0} → Result A E → (A → Result B E) → Result B E
unless_fault (Ok a) next = next a
unless_fault (Err e) next = Err e

-- a key as a message
abbrev pub pack_key : Value → Result Message PackFault
pack_key (flag b) = Ok (Message.flag b)
pack_key (num n) = Ok (Message.num n)
pack_key (str s) = Ok (Message.str s)
pack_key v = Err (key v)

-- the pair at a place, where it has a value, in front of the others
abbrev pub pack_pair : (pack : Value → Result Message PackFault) (k : Value) → Option Value →
    Result Pairs PackFault → Result Pairs PackFault
pack_pair pack k None rest = rest
pack_pair pack k (Some v) rest =
    unless_fault (pack_key k) (λ k. unless_fault (pack v) (λ v. unless_fault rest (λ rest. Ok
    (pair_and k v rest))))

-- the pairs of a table in the order of `next`, each by its key and then its value
abbrev pub pack_places : (pack : Value → Result Message PackFault) → Places Value Value →
    Result Pairs PackFault
pack_places pack [] = Ok no_pairs
pack_places pack (place ∷ rest) = pack_pair pack place.0 place.1 (pack_places pack rest)

-- a value as a message, where tables may nest so deep, inside some tables. A table is tested for a cycle, then for its
-- depth, then its pairs are packed
abbrev pub pack_within : ℕ → Store → (inside : List ℕ) → Value → Result Message PackFault
pack_within left s inside nil = Ok Message.nil
pack_within left s inside (flag b) = Ok (Message.flag b)
pack_within left s inside (num n) = Ok (Message.num n)
pack_within left s inside (str bytes) = Ok (Message.str bytes)
pack_within zero s inside (table t) = if holds inside t then Err cycle else Err depth
pack_within (suc left) s inside (table t) =
    if holds inside t then Err cycle
    else unless_fault (pack_places (λ v. pack_within left s (t ∷ inside) v) (table_at s t).places)
    (λ pairs. Ok (Message.table pairs))
pack_within left s inside (func f) = Err (kind (func f))
pack_within left s inside (native f) = Err (kind (native f))
pack_within left s inside (channel c) = Ok (Message.channel c)
pack_within left s inside (thread t) = Err (kind (thread t))
pack_within left s inside (datum d) = Ok (Message.datum (contents_at s d))

-- a value as a message: copied whole, without metatables
abbrev pub pack : Store → Value → Result Message PackFault
pack s v = pack_within 128 s [] v

-- values as messages; the first fault counts
abbrev pub pack_all : Store → List Value → Result (List Message) PackFault
pack_all s [] = Ok []
pack_all s (v ∷ vs) =
    unless_fault (pack s v) (λ m. unless_fault (pack_all s vs) (λ ms. Ok (m ∷ ms)))

-- a table gets the pair of what a key and a value came to; a pair whose key is nil is passed over, its value unmade
abbrev pub unpack_pair : ℕ → (key : Value × Store) → (value : Store → Value × Store) → Store
unpack_pair t (nil, s) value = s
unpack_pair t (k, s) value = let v : Value × Store = value s in raw_set v.1 t k v.0

abbrev mutual
  -- a message as a value: fresh tables without metatables, and new Data. A table is made before its pairs, each key
  -- before its value
  pub unpack : Message → Store → Value × Store
  unpack Message.nil s = (nil, s)
  unpack (Message.flag b) s = (flag b, s)
  unpack (Message.num n) s = (num n, s)
  unpack (Message.str bytes) s = (str bytes, s)
  unpack (Message.datum made) s = (datum (length s.contents), add_contents s made)
  unpack (Message.channel c) s = (channel c, s)
  unpack (Message.table pairs) s =
      (table (length s.tables), unpack_pairs pairs (length s.tables) (add_table s))

  pub unpack_pairs : Pairs → ℕ → Store → Store
  unpack_pairs no_pairs t s = s
  unpack_pairs (pair_and k v rest) t s =
      unpack_pairs rest t (unpack_pair t (unpack k s) (λ s. unpack v s))

-- messages as values, in order
abbrev pub unpack_all : List Message → Store → List Value × Store
unpack_all [] s = ([], s)
unpack_all (m ∷ ms) s =
    let v : Value × Store = unpack m s in
    let vs : List Value × Store = unpack_all ms v.1 in
    (v.0 ∷ vs.0, vs.1)
