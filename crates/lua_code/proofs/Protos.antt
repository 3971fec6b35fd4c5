-- A prototype to which something is added.
use Rattle.std.proofs.Common.{◌≡◌, ℕ, zero, suc, ◌+◌, ◌≤◌, List, [], ◌∷◌, ◌++◌, length, set, sym, subst, arith}
use Rattle.std.specs.Prelude.{max}
use Rattle.std.specs.List.{AllByRecursion}
use Rattle.std.proofs.lemmas.List.{length-append, length-set}
use Rattle.lua_code.specs.declared.instr.Instr.{Instr}
use Rattle.lua_code.specs.declared.instr.Instr.TheVariants.{Const, SetCellConst, SetItemConst, SetNewConst, SetNewNamed, SetNewNamedConst, BinaryConst, GetNamed, GetGlobal, SetFieldConst, SetNamed, SetNamedConst, SetGlobal, SetGlobalConst}
use Rattle.lua_code.specs.declared.instr.Site.{Site}
use Rattle.lua_code.specs.View.{ProtoView}
use Rattle.lua_code.specs.Within.{slots_of, AreKnown, IsWithin, IsProto}

pub known_more : (m n : ℕ) (x : Instr) → m ≤ n → AreKnown m x → AreKnown n x
known_more m n (Const to k) le h = omega (arith, le, h)
known_more m n (SetCellConst cell k) le h = omega (arith, le, h)
known_more m n (SetItemConst table number k) le h = omega (arith, le, h)
known_more m n (SetNewConst table key k) le h = omega (arith, le, h)
known_more m n (SetNewNamed table name from) le h = omega (arith, le, h)
known_more m n (SetNewNamedConst table name k) le h = (omega (arith, le, h.0), omega (arith, le, h.1))
known_more m n (BinaryConst op to left k) le h = omega (arith, le, h)
known_more m n (GetNamed to base name) le h = omega (arith, le, h)
known_more m n (GetGlobal to name) le h = omega (arith, le, h)
known_more m n (SetFieldConst base key k) le h = omega (arith, le, h)
known_more m n (SetNamed base name from) le h = omega (arith, le, h)
known_more m n (SetNamedConst base name k) le h = (omega (arith, le, h.0), omega (arith, le, h.1))
known_more m n (SetGlobal name from) le h = omega (arith, le, h)
known_more m n (SetGlobalConst name k) le h = (omega (arith, le, h.0), omega (arith, le, h.1))
known_more m n x le h = tt

abbrev AreWithin : ℕ → ℕ → List Instr → Type 0
AreWithin size count xs = AllByRecursion (IsWithin size count) xs

within_more : (size count more_size more_count : ℕ) (xs : List Instr) → size ≤ more_size → count ≤ more_count → AreWithin size count xs → AreWithin more_size more_count xs
within_more size count more_size more_count [] a b all = tt
within_more size count more_size more_count (x ∷ xs) a b all = (
  record { slots = omega (arith, a, all.0.slots); constants = known_more count more_count x b all.0.constants },
  within_more size count more_size more_count xs a b all.1,
)

within_last : (size count : ℕ) (xs : List Instr) (x : Instr) → AreWithin size count xs → IsWithin size count x → AreWithin size count (xs ++ x ∷ [])
within_last size count [] x all own = (own, tt)
within_last size count (y ∷ xs) x all own = (all.0, within_last size count xs x all.1 own)

within_set : (size count : ℕ) (xs : List Instr) (n : ℕ) (x : Instr) → AreWithin size count xs → IsWithin size count x → AreWithin size count (set xs n x)
within_set size count [] n x all own = tt
within_set size count (y ∷ xs) zero x all own = (own, all.1)
within_set size count (y ∷ xs) (suc n) x all own = (all.0, within_set size count xs n x all.1 own)

pub appended : (p : ProtoView) (x : Instr) (s : Site) → IsProto p → AreKnown (length p.constants) x → IsProto (record p { size = max p.size (slots_of x); instrs = p.instrs ++ x ∷ []; sites = p.sites ++ s ∷ [] })
appended p x s is known =
    let a : length (p.instrs ++ x ∷ []) ≡ length p.instrs + 1 = length-append p.instrs (x ∷ []) in
    let b : length (p.sites ++ s ∷ []) ≡ length p.sites + 1 = length-append p.sites (s ∷ []) in
    let e = is.sites in
    let f = is.params in
    record {
      params = omega (arith, f);
      sites = omega (arith, a, b, e);
      within = within_last (max p.size (slots_of x)) (length p.constants) p.instrs x
          (within_more p.size (length p.constants) _ _ p.instrs (omega arith) (omega arith) is.within)
          (record { slots = omega arith; constants = known });
    }

pub replaced : (p : ProtoView) (n : ℕ) (x : Instr) → IsProto p → AreKnown (length p.constants) x → IsProto (record p { size = max p.size (slots_of x); instrs = set p.instrs n x })
replaced p n x is known =
    let a : length (set p.instrs n x) ≡ length p.instrs = length-set p.instrs n x in
    let e = is.sites in
    let f = is.params in
    record {
      params = omega (arith, f);
      sites = omega (arith, a, e);
      within = within_set (max p.size (slots_of x)) (length p.constants) p.instrs n x
          (within_more p.size (length p.constants) _ _ p.instrs (omega arith) (omega arith) is.within)
          (record { slots = omega arith; constants = known });
    }

-- the same, where the parts are known by equations
pub appended_as : (p : ProtoView) (x : Instr) (s : Site) (size : ℕ) (instrs : List Instr) (sites : List Site) → IsProto p → AreKnown (length p.constants) x → size ≡ max p.size (slots_of x) → instrs ≡ p.instrs ++ x ∷ [] → sites ≡ p.sites ++ s ∷ [] → IsProto (record p { size = size; instrs = instrs; sites = sites })
appended_as p x s size instrs sites is known a b c =
    subst (λ n. IsProto (record p { size = n; instrs = instrs; sites = sites })) (sym a)
    (subst (λ xs. IsProto (record p { size = max p.size (slots_of x); instrs = xs; sites = sites })) (sym b)
    (subst (λ ss. IsProto (record p { size = max p.size (slots_of x); instrs = p.instrs ++ x ∷ []; sites = ss })) (sym c)
    (appended p x s is known)))

pub replaced_as : (p : ProtoView) (n : ℕ) (x : Instr) (size : ℕ) → IsProto p → AreKnown (length p.constants) x → size ≡ max p.size (slots_of x) → IsProto (record p { size = size; instrs = set p.instrs n x })
replaced_as p n x size is known a =
    subst (λ m. IsProto (record p { size = m; instrs = set p.instrs n x })) (sym a) (replaced p n x is known)
