-- Digits, and a number times a power of ten.
use Rattle.std.proofs.Common.{◌≡◌, ◌≢◌, ℕ, zero, suc, ◌+◌, ◌*◌, ◌/◌, ◌%◌, ◌^◌, ◌≤◌, ◌<◌, inl, inr, ℤ, pos, negsuc, ◌+ℤ◌, ◌*ℤ◌, neg_ℤ, unsigned_abs, Bool, true, false, not, cond, nat_eq, nat_lt, nat_le, Some, None, List, [], ◌∷◌, length, arith, ap, refl, sym, ◌∙◌, mul-le-mul_right}
use Rattle.std.proofs.Math.Nat.{one-le-pow, eq_of_mul-eq-mul_right, pow-le-pow_right, le-mul_of_pos_right}
use Rattle.std.proofs.lemmas.Bool.{cases_lt, not-true, not_from_false, ne_eqb, eq-eqb, eqb-true, eqb-false, lt-ltb, le-ltb, ltb-true, leb-true, le-leb, and_from, and_parts, cond-true, cond-false}
use Rattle.std.proofs.lemmas.Nat.{pow-add, mod-mul-add, div-mul-add, div-add-mod'}
use Rattle.std.proofs.lemmas.Int.{ints}
use Rattle.std.specs.Char.{digit_value}
use Rattle.std.specs.Str.Parse.{AllDigits, digits_value}
use Rattle.lua_value.specs.Num.{IsNum}
use Rattle.lua_value.specs.Numeral.{raising, lowering}
use Rattle.lua_value.proofs.Scaling.{natural-of_product, shifted-gt}
use Rattle.lua_meaning.specs.Number.{kept, are_digits, are_some_digits, digits_number, scaled}

-- ---- numbers of the range

pub kept-num : (z : ℤ) → IsNum z → kept z ≡ Some z
kept-num z h = cond-true (nat_le (unsigned_abs z) 99999999999999) (Some z) None (le-leb (unsigned_abs z) 99999999999999 h)

pub kept-only : (y z : ℤ) → kept y ≡ Some z → (y ≡ z) × IsNum z
kept-only y z e = from (nat_le (unsigned_abs y) 99999999999999) refl e
  where
    from : (b : Bool) → nat_le (unsigned_abs y) 99999999999999 ≡ b → cond b (Some y) None ≡ Some z → (y ≡ z) × IsNum z
    from true p e = let same : y ≡ z = cc in (same, rw (← same) (leb-true (unsigned_abs y) 99999999999999 p))
    from false p e = cc

-- ---- digits

are_digits-all : (base : ℕ) (ds : List ℕ) → AllDigits base ds → are_digits base ds ≡ true
are_digits-all base [] h = refl
are_digits-all base (c ∷ cs) h =
    and_from (nat_lt (digit_value c) base) (are_digits base cs) (lt-ltb (digit_value c) base h.0) (are_digits-all base cs h.1)

all-are_digits : (base : ℕ) (ds : List ℕ) → are_digits base ds ≡ true → AllDigits base ds
all-are_digits base [] e = tt
all-are_digits base (c ∷ cs) e =
    let parts = and_parts (nat_lt (digit_value c) base) (are_digits base cs) e in
    (ltb-true (digit_value c) base parts.0, all-are_digits base cs parts.1)

pub are_some-true : (base : ℕ) (ds : List ℕ) → 0 < length ds → AllDigits base ds → are_some_digits base ds ≡ true
are_some-true base ds some all =
    and_from (not (nat_eq (length ds) 0)) (are_digits base ds)
    (not_from_false (nat_eq (length ds) 0) (ne_eqb (length ds) 0 (λ e. omega arith))) (are_digits-all base ds all)

pub are_some-parts : (base : ℕ) (ds : List ℕ) → are_some_digits base ds ≡ true → (0 < length ds) × AllDigits base ds
are_some-parts base ds e =
    let parts = and_parts (not (nat_eq (length ds) 0)) (are_digits base ds) e in
    let none : length ds ≢ 0 = eqb-false (length ds) 0 (not-true (nat_eq (length ds) 0) parts.0) in
    (omega arith, all-are_digits base ds parts.1)

pub digits_number-some : (base : ℕ) (ds : List ℕ) → 0 < length ds → AllDigits base ds → digits_number base ds ≡ Some (pos (digits_value base ds))
digits_number-some base ds some all =
    cond-true (are_some_digits base ds) (Some (pos (digits_value base ds))) None (are_some-true base ds some all)

pub digits_number-only : (base : ℕ) (ds : List ℕ) (z : ℤ) → digits_number base ds ≡ Some z →
    (0 < length ds) × AllDigits base ds × (z ≡ pos (digits_value base ds))
digits_number-only base ds z e = from (are_some_digits base ds) refl e
  where
    from : (b : Bool) → are_some_digits base ds ≡ b → cond b (Some (pos (digits_value base ds))) None ≡ Some z →
        (0 < length ds) × AllDigits base ds × (z ≡ pos (digits_value base ds))
    from true p e = let parts = are_some-parts base ds p in (parts.0, parts.1, cc)
    from false p e = cc

-- ---- powers of ten

-- n * 10 ^ a = v * 10 ^ b, with both powers moved by as much
shifted : (n v a b l r : ℕ) → a + r ≡ b + l → n * 10 ^ a ≡ v * 10 ^ b → n * 10 ^ l ≡ v * 10 ^ r
shifted n v a b l r e h =
    let same : l + b ≡ a + r = omega arith in
    let powers : 10 ^ l * 10 ^ b ≡ 10 ^ a * 10 ^ r = sym (pow-add 10 l b) ∙ (ap (λ (k : ℕ). 10 ^ k) same ∙ pow-add 10 a r) in
    let left : n * (10 ^ l * 10 ^ b) ≡ n * (10 ^ a * 10 ^ r) = ap (λ (x : ℕ). n * x) powers in
    let right : n * 10 ^ a * 10 ^ r ≡ v * 10 ^ b * 10 ^ r = ap (λ (x : ℕ). x * 10 ^ r) h in
    eq_of_mul-eq-mul_right (10 ^ b) (one-le-pow b 10 (omega arith)) (n * 10 ^ l) (v * 10 ^ r) (omega arith)

-- an exponent that a point behind f digits lowers
moved : (d e : ℤ) (f : ℕ) → d ≡ e +ℤ neg_ℤ (pos f) → f + lowering e + raising d ≡ raising e + lowering d
moved (pos r) (pos k) f h = omega (arith, ints)
moved (pos r) (negsuc k) f h = omega (arith, ints)
moved (negsuc l) (pos k) f h = omega (arith, ints)
moved (negsuc l) (negsuc k) f h = omega (arith, ints)

scaled_natural : (count value : ℕ) (d : ℤ) (n : ℕ) → value < 10 ^ count → n * 10 ^ lowering d ≡ value * 10 ^ raising d →
    n ≤ 99999999999999 → scaled count value d ≡ Some (pos n)
scaled_natural count zero d n below e small =
    let k = lowering d in
    let some : 1 ≤ 10 ^ k = one-le-pow k 10 (omega arith) in
    let nothing : n ≡ 0 = omega (arith, le-mul_of_pos_right {m = 10 ^ k} n some) in
    ap (λ (x : ℕ). Some (pos x)) (sym nothing)
scaled_natural count (suc m) (pos k) n below e small =
    let is : n ≡ suc m * 10 ^ k = omega arith in
    let few : k ≤ 14 = elim (cases_lt 14 k) [ inl far ↦ absurd (omega (arith, shifted-gt (suc m) k (omega arith) (omega arith))) | inr near ↦ near ] in
    cond-false (nat_lt 14 k) None (kept (pos (suc m * 10 ^ k))) (le-ltb 14 k few)
    ∙ (kept-num (pos (suc m * 10 ^ k)) (omega arith) ∙ ap (λ (x : ℕ). Some (pos x)) (sym is))
scaled_natural count (suc m) (negsuc k) n below e small =
    let some : 0 < 10 ^ suc k = one-le-pow (suc k) 10 (omega arith) in
    let is : suc m ≡ n * 10 ^ suc k + 0 = omega arith in
    let positive : 1 ≤ n = positive_of n is in
    let least : 10 ^ suc k ≤ n * 10 ^ suc k = omega (arith, mul-le-mul_right (10 ^ suc k) positive) in
    let many : suc k ≤ count = elim (cases_lt count (suc k)) [
      | inl short ↦ absurd (omega (arith, pow-le-pow_right {n = 10} (omega arith) {i = count} {j = suc k} (omega arith)))
      | inr long ↦ long
    ] in
    let rest : suc m % 10 ^ suc k ≡ 0 = ap (λ (x : ℕ). x % 10 ^ suc k) is ∙ mod-mul-add n (10 ^ suc k) 0 some in
    let whole : suc m / 10 ^ suc k ≡ n = ap (λ (x : ℕ). x / 10 ^ suc k) is ∙ div-mul-add n (10 ^ suc k) 0 some in
    let quotient = kept (pos (suc m / 10 ^ suc k)) in
    cond-false (nat_lt count (suc k)) None (cond (nat_eq (suc m % 10 ^ suc k) 0) quotient None) (le-ltb count (suc k) many)
    ∙ (cond-true (nat_eq (suc m % 10 ^ suc k) 0) quotient None (eq-eqb (suc m % 10 ^ suc k) 0 rest)
    ∙ (ap (λ (x : ℕ). kept (pos x)) whole ∙ kept-num (pos n) small))
  where
    positive_of : (n : ℕ) → suc m ≡ n * 10 ^ suc k + 0 → 1 ≤ n
    positive_of zero is = absurd (omega arith)
    positive_of (suc n) is = omega arith

scaled_back : (count value : ℕ) (d z : ℤ) → scaled count value d ≡ Some z →
    (z *ℤ pos (10 ^ lowering d) ≡ pos (value * 10 ^ raising d)) × IsNum z
scaled_back count zero d z e =
    let same : pos 0 ≡ z = cc in
    rw (← same) (ap (λ (x : ℕ). pos x) (omega arith), omega arith)
scaled_back count (suc m) (pos k) z e = from (nat_lt 14 k) e
  where
    from : (b : Bool) → cond b None (kept (pos (suc m * 10 ^ k))) ≡ Some z →
        (z *ℤ pos (10 ^ 0) ≡ pos (suc m * 10 ^ k)) × IsNum z
    from true e = cc
    from false e =
        let is = kept-only (pos (suc m * 10 ^ k)) z e in
        (rw (← is.0) (ap (λ (x : ℕ). pos x) (omega arith)), is.1)
scaled_back count (suc m) (negsuc k) z e = from (nat_lt count (suc k)) (nat_eq (suc m % 10 ^ suc k) 0) refl e
  where
    from : (b c : Bool) → nat_eq (suc m % 10 ^ suc k) 0 ≡ c →
        cond b None (cond c (kept (pos (suc m / 10 ^ suc k))) None) ≡ Some z →
        (z *ℤ pos (10 ^ suc k) ≡ pos (suc m * 10 ^ 0)) × IsNum z
    from true c p e = cc
    from false false p e = cc
    from false true p e =
        let is = kept-only (pos (suc m / 10 ^ suc k)) z e in
        let rest : suc m % 10 ^ suc k ≡ 0 = eqb-true (suc m % 10 ^ suc k) 0 p in
        (rw (← is.0) (ap (λ (x : ℕ). pos x) (omega (arith, div-add-mod' (suc m) (10 ^ suc k)))), is.1)

-- ---- a mantissa with f digits behind its point, and an exponent

pub scaled-some : (count value f : ℕ) (e z : ℤ) → value < 10 ^ count →
    z *ℤ pos (10 ^ (f + lowering e)) ≡ pos (value * 10 ^ raising e) → IsNum z →
    scaled count value (e +ℤ neg_ℤ (pos f)) ≡ Some z
scaled-some count value f e z below h num =
    let d = e +ℤ neg_ℤ (pos f) in
    let n = natural-of_product z (10 ^ (f + lowering e)) (value * 10 ^ raising e) (one-le-pow (f + lowering e) 10 (omega arith)) h in
    let small : n.0 ≤ 99999999999999 = rw n.1 at num in
    scaled_natural count value d n.0 below
    (shifted n.0 value (f + lowering e) (raising e) (lowering d) (raising d) (moved d e f refl) n.2) small
    ∙ ap (λ (x : ℤ). Some x) (sym n.1)

pub scaled-only : (count value f : ℕ) (e z : ℤ) → scaled count value (e +ℤ neg_ℤ (pos f)) ≡ Some z →
    (z *ℤ pos (10 ^ (f + lowering e)) ≡ pos (value * 10 ^ raising e)) × IsNum z
scaled-only count value f e z h =
    let d = e +ℤ neg_ℤ (pos f) in
    let back = scaled_back count value d z h in
    let n = natural-of_product z (10 ^ lowering d) (value * 10 ^ raising d) (one-le-pow (lowering d) 10 (omega arith)) back.0 in
    let turned : lowering d + raising e ≡ raising d + (f + lowering e) = omega (arith, moved d e f refl) in
    (rw n.1 (ap (λ (x : ℕ). pos x) (shifted n.0 value (lowering d) (raising d) (f + lowering e) (raising e) turned n.2)), back.1)
