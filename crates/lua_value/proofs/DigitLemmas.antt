-- Digits of a text, and the number that they write.
use Rattle.std.proofs.Common.{◌≡◌, ℕ, zero, suc, ◌+◌, ◌*◌, ◌-◌, ◌^◌, ◌≤◌, ◌<◌, Bool, true, false, cond, inl, inr, min, List, [], ◌∷◌, ◌++◌, length, take, drop, get_or, arith, ap, refl, ◌∙◌, add-one, one-add, pow-suc}
use Rattle.std.proofs.Math.Nat.{pow-zero, sub-zero, zero-sub, suc-sub-suc, one-le-pow, le-mul_of_pos_right, min-eq_left, min-eq_right}
use Rattle.std.proofs.lemmas.Bool.{cases_lt}
use Rattle.std.proofs.Math.Seq.{drop-nil, take-nil}
use Rattle.std.specs.Char.{digit_value, is_ascii_digit}
use Rattle.std.specs.List.{prefix_len}
use Rattle.lua_value.specs.Place.{BeginsWithNoDigit}
use Rattle.std.specs.Str.Parse.{AllDigits, digits_value, digits_value_after}
use Rattle.std.proofs.lemmas.Grind.{common_steps}

-- ---- which bytes are digits

-- each of the digits is one
pub AllDigits-at : (base : ℕ) (ds : List ℕ) (i : ℕ) → AllDigits base ds → i < length ds → digit_value (get_or ds i 0) < base
AllDigits-at base [] i all h = absurd (omega arith)
AllDigits-at base (c ∷ cs) zero all h = all.0
AllDigits-at base (c ∷ cs) (suc i) all h = AllDigits-at base cs i all.1 (omega arith)

pub AllDigits-take : (base n : ℕ) (ds : List ℕ) → AllDigits base ds → AllDigits base (take n ds)
AllDigits-take base zero ds all = tt
AllDigits-take base (suc n) [] all = tt
AllDigits-take base (suc n) (c ∷ cs) all = (all.0, AllDigits-take base n cs all.1)

pub AllDigits-drop : (base n : ℕ) (ds : List ℕ) → AllDigits base ds → AllDigits base (drop n ds)
AllDigits-drop base zero ds all = all
AllDigits-drop base (suc n) [] all = tt
AllDigits-drop base (suc n) (c ∷ cs) all = AllDigits-drop base n cs all.1

pub AllDigits-append : (base : ℕ) (xs ys : List ℕ) → AllDigits base xs → AllDigits base ys → AllDigits base (xs ++ ys)
AllDigits-append base [] ys p q = q
AllDigits-append base (x ∷ xs) ys p q = (p.0, AllDigits-append base xs ys p.1 q)

digit_value-of_digit : (c : ℕ) → is_ascii_digit c ≡ true → digit_value c < 10
digit_value-of_digit c h = grind (arith, common_steps)

-- the bytes that stand at the front as decimal digits are digits
AllDigits-prefix : (ds : List ℕ) → AllDigits 10 (take (prefix_len is_ascii_digit ds) ds)
AllDigits-prefix [] = tt
AllDigits-prefix (c ∷ cs) = from (is_ascii_digit c) refl (AllDigits-prefix cs)
  where
    from : (b : Bool) → is_ascii_digit c ≡ b → AllDigits 10 (take (prefix_len is_ascii_digit cs) cs) →
        AllDigits 10 (take (cond b (1 + prefix_len is_ascii_digit cs) 0) (c ∷ cs))
    from true e all = rw one-add (digit_value-of_digit c e, all)
    from false e all = tt

is_digit-of_value : (c : ℕ) → is_ascii_digit c ≡ false → ¬ (digit_value c < 10)
is_digit-of_value c h below = grind (arith, common_steps)

behind_prefix : (ds : List ℕ) → BeginsWithNoDigit (drop (prefix_len is_ascii_digit ds) ds)
behind_prefix [] = tt
behind_prefix (c ∷ cs) = from (is_ascii_digit c) refl (behind_prefix cs)
  where
    from : (b : Bool) → is_ascii_digit c ≡ b → BeginsWithNoDigit (drop (prefix_len is_ascii_digit cs) cs) →
        BeginsWithNoDigit (drop (cond b (1 + prefix_len is_ascii_digit cs) 0) (c ∷ cs))
    from true e rest = rw one-add rest
    from false e rest = is_digit-of_value c e

pub AllDigits-counted : (n : ℕ) (ds : List ℕ) → n ≡ prefix_len is_ascii_digit ds → AllDigits 10 (take n ds)
AllDigits-counted n ds e = rw e (AllDigits-prefix ds)

-- and no digit follows them
pub BeginsWithNoDigit-counted : (n : ℕ) (ds : List ℕ) → n ≡ prefix_len is_ascii_digit ds → BeginsWithNoDigit (drop n ds)
BeginsWithNoDigit-counted n ds e = rw e (behind_prefix ds)

-- ---- the number

-- one digit more
pub digits_value_after-more : (base n : ℕ) (ds : List ℕ) (i : ℕ) → i < length ds →
    digits_value_after base n (take (i + 1) ds) ≡ digits_value_after base n (take i ds) * base + digit_value (get_or ds i 0)
digits_value_after-more base n [] i h = absurd (omega arith)
digits_value_after-more base n (c ∷ cs) zero h = refl
digits_value_after-more base n (c ∷ cs) (suc i) h = rw add-one (rw add-one at (digits_value_after-more base (n * base + digit_value c) cs i (omega arith)))

-- digits that follow those of n
pub digits_value_after_is : (base n : ℕ) (ds : List ℕ) → digits_value_after base n ds ≡ n * base ^ length ds + digits_value base ds
digits_value_after_is base n [] = rw pow-zero (omega arith)
digits_value_after_is base n (c ∷ cs) =
    digits_value_after_is base (n * base + digit_value c) cs
    ∙ rw (digits_value_after_is base (0 * base + digit_value c) cs, pow-suc) (regroup n base (digit_value c) (base ^ length cs) (digits_value base cs))
  where
    regroup : (n b d p v : ℕ) → (n * b + d) * p + v ≡ n * (p * b) + ((0 * b + d) * p + v)
    regroup n b d p v = omega arith

pub digits_value_after-append : (base n : ℕ) (xs ys : List ℕ) → digits_value_after base n (xs ++ ys) ≡ digits_value_after base (digits_value_after base n xs) ys
digits_value_after-append base n [] ys = refl
digits_value_after-append base n (x ∷ xs) ys = digits_value_after-append base (n * base + digit_value x) xs ys

-- two lists of digits, one behind the other
pub digits_value-append : (base : ℕ) (xs ys : List ℕ) → digits_value base (xs ++ ys) ≡ digits_value base xs * base ^ length ys + digits_value base ys
digits_value-append base xs ys = digits_value_after-append base 0 xs ys ∙ digits_value_after_is base (digits_value base xs) ys

-- ---- digits cut at a place

take-append : (p : ℕ) (xs ys : List ℕ) → take p (xs ++ ys) ≡ take p xs ++ take (p - length xs) ys
take-append p [] ys = rw (sub-zero, take-nil p) refl
take-append zero (x ∷ xs) ys = rw zero-sub refl
take-append (suc p) (x ∷ xs) ys = rw suc-sub-suc (ap (λ l. x ∷ l) (take-append p xs ys))

drop-append : (p : ℕ) (xs ys : List ℕ) → drop p (xs ++ ys) ≡ drop p xs ++ drop (p - length xs) ys
drop-append p [] ys = rw (sub-zero, drop-nil p) refl
drop-append zero (x ∷ xs) ys = rw zero-sub refl
drop-append (suc p) (x ∷ xs) ys = rw suc-sub-suc (drop-append p xs ys)

-- behind the place, all digits of two lists are zeros where those of each are
pub zeros_behind : (p : ℕ) (xs ys : List ℕ) → digits_value 10 (drop p xs) ≡ 0 → digits_value 10 (drop (p - length xs) ys) ≡ 0 →
    digits_value 10 (drop p (xs ++ ys)) ≡ 0
zeros_behind p xs ys h k = rw (drop-append p xs ys, digits_value-append 10 (drop p xs) (drop (p - length xs) ys), h, k) (omega arith)

pub zeros_first : (p : ℕ) (xs ys : List ℕ) → digits_value 10 (drop p (xs ++ ys)) ≡ 0 → digits_value 10 (drop p xs) ≡ 0
zeros_first p xs ys h =
    let tail = drop (p - length xs) ys in
    omega (
      arith,
      rw (drop-append p xs ys, digits_value-append 10 (drop p xs) tail) at h,
      le-mul_of_pos_right {m = 10 ^ length tail} (digits_value 10 (drop p xs)) (one-le-pow (length tail) 10 (omega arith)),
    )

pub zeros_second : (p : ℕ) (xs ys : List ℕ) → digits_value 10 (drop p (xs ++ ys)) ≡ 0 → digits_value 10 (drop (p - length xs) ys) ≡ 0
zeros_second p xs ys h = omega (arith, rw (drop-append p xs ys, digits_value-append 10 (drop p xs) (drop (p - length xs) ys)) at h)

-- the number before the place, read from one list and then the other, each kept at most m
pub read_before : (p m : ℕ) (xs ys : List ℕ) (first second : ℕ) → first ≡ min (digits_value_after 10 0 (take p xs)) m →
    second ≡ min (digits_value_after 10 first (take (p - length xs) ys)) m → second ≡ min (digits_value 10 (take p (xs ++ ys))) m
read_before p m xs ys first second h k =
    rw (k, h, take-append p xs ys, digits_value_after-append 10 0 (take p xs) (take (p - length xs) ys))
    (min-digits (digits_value 10 (take p xs)) m (take (p - length xs) ys))
  where
    min-digits : (n m : ℕ) (ds : List ℕ) → min (digits_value_after 10 (min n m) ds) m ≡ min (digits_value_after 10 n ds) m
    min-digits n m ds = elim (cases_lt m n) [
      | inr within ↦ rw (min-eq_left {n = n} {m = m} within) refl
      | inl above ↦
          let digits = 10 ^ length ds in
          let some : 1 ≤ digits = one-le-pow (length ds) 10 (omega arith) in
          rw (min-eq_right {n = m} {m = n} (omega arith), digits_value_after_is 10 m ds, digits_value_after_is 10 n ds)
          (omega (arith, le-mul_of_pos_right {m = digits} m some, le-mul_of_pos_right {m = digits} n some))
    ]
