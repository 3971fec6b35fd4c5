-- Packing a value, kind by kind.
use Rattle.std.proofs.Common.{◌≡◌, ℕ, zero, suc, ℤ, Bool, true, false, List, ◌∷◌, Ok, Err, Result, refl}
use Rattle.lua_tree.specs.Tree.{Bytes}
use Rattle.lua_meaning.specs.Message.{Message}
use Rattle.lua_meaning.specs.Native.{Native as Function}
use Rattle.lua_meaning.specs.Value as meant
use Rattle.lua_meaning.specs.Store.{Store, table_at, contents_at}
use Rattle.lua_meaning.specs.Packing as packing
use Rattle.lua_meaning.specs.Packing.{unless_fault, pack_places, pack_within, holds, cycle, depth}
use Rattle.crossing.proofs.Tests.{then_first, else_second}

-- ---- values without tables

pub within-nil : (left : ℕ) (s : Store) (inside : List ℕ) → pack_within left s inside meant.nil ≡ Ok Message.nil
within-nil zero s inside = refl
within-nil (suc left) s inside = refl

pub within-flag : (left : ℕ) (s : Store) (inside : List ℕ) (b : Bool) → pack_within left s inside (meant.flag b) ≡ Ok (Message.flag b)
within-flag zero s inside b = refl
within-flag (suc left) s inside b = refl

pub within-num : (left : ℕ) (s : Store) (inside : List ℕ) (n : ℤ) → pack_within left s inside (meant.num n) ≡ Ok (Message.num n)
within-num zero s inside n = refl
within-num (suc left) s inside n = refl

pub within-str : (left : ℕ) (s : Store) (inside : List ℕ) (text : Bytes) → pack_within left s inside (meant.str text) ≡ Ok (Message.str text)
within-str zero s inside text = refl
within-str (suc left) s inside text = refl

pub within-func : (left : ℕ) (s : Store) (inside : List ℕ) (f : ℕ) → pack_within left s inside (meant.func f) ≡ Err (packing.kind (meant.func f))
within-func zero s inside f = refl
within-func (suc left) s inside f = refl

pub within-native : (left : ℕ) (s : Store) (inside : List ℕ) (f : Function) → pack_within left s inside (meant.native f) ≡ Err (packing.kind (meant.native f))
within-native zero s inside f = refl
within-native (suc left) s inside f = refl

pub within-channel : (left : ℕ) (s : Store) (inside : List ℕ) (c : ℕ) → pack_within left s inside (meant.channel c) ≡ Ok (Message.channel c)
within-channel zero s inside c = refl
within-channel (suc left) s inside c = refl

pub within-thread : (left : ℕ) (s : Store) (inside : List ℕ) (t : ℕ) → pack_within left s inside (meant.thread t) ≡ Err (packing.kind (meant.thread t))
within-thread zero s inside t = refl
within-thread (suc left) s inside t = refl

pub within-datum : (left : ℕ) (s : Store) (inside : List ℕ) (d : ℕ) → pack_within left s inside (meant.datum d) ≡ Ok (Message.datum (contents_at s d))
within-datum zero s inside d = refl
within-datum (suc left) s inside d = refl

-- ---- tables

abbrev pub pairs_within : ℕ → Store → List ℕ → ℕ → Result Message packing.PackFault
pairs_within left s inside t =
    unless_fault (pack_places (λ v. pack_within left s (t ∷ inside) v) (table_at s t).places) (λ pairs. Ok (Message.table pairs))

pub within-cycle : (left : ℕ) (s : Store) (inside : List ℕ) (t : ℕ) → holds inside t ≡ true → pack_within left s inside (meant.table t) ≡ Err cycle
within-cycle zero s inside t there = then_first (holds inside t) (Err cycle) (Err depth) there
within-cycle (suc left) s inside t there = then_first (holds inside t) (Err cycle) (pairs_within left s inside t) there

pub within-depth : (s : Store) (inside : List ℕ) (t : ℕ) → holds inside t ≡ false → pack_within 0 s inside (meant.table t) ≡ Err depth
within-depth s inside t out = else_second (holds inside t) (Err cycle) (Err depth) out

pub within-pairs : (left : ℕ) (s : Store) (inside : List ℕ) (t : ℕ) → holds inside t ≡ false → pack_within (suc left) s inside (meant.table t) ≡ pairs_within left s inside t
within-pairs left s inside t out = else_second (holds inside t) (Err cycle) (pairs_within left s inside t) out
