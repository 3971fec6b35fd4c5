-- A text is the text of at most one numeral.
use Rattle.std.proofs.Common.{◌≡◌, ◌≢◌, ℕ, ◌<◌, ◌⊎◌, inl, inr, ℤ, Option, Some, None, Result, Ok, Err, MatchOption, List, [], ◌∷◌, ◌++◌, length, ok_or, arith, ap, refl, sym, ◌∙◌}
use Rattle.std.specs.Char.{digit_value}
use Rattle.std.specs.Str.Parse.{AllDigits}
use Rattle.lua_value.specs.Num.{IsNum}
use Rattle.lua_value.specs.Sign.{Sign, sign_text}
use Rattle.lua_value.specs.Sign.Sign.{unsigned, plus, minus}
use Rattle.lua_value.specs.Numeral.{Numeral, Exponent, fraction_digits, fraction_text, exponent_text, exponent_value, numeral_text, IsOptionalExponent, IsWellFormed, HasValue, IsScaled, IsNumeral, IsNumeralAnswer, IsHexadecimalAnswer}
use Rattle.lua_value.specs.Numeral.Numeral.{hexadecimal, decimal}
use Rattle.lua_value.specs.Place.{BeginsWithNoDigit, EndsMantissa, HasNoSign}
use Rattle.lua_value.specs.declared.numeral.NumeralFault.{NumeralFault}
use Rattle.lua_value.specs.declared.numeral.NumeralFault.TheVariants.{Malformed, NotWhole}

-- ---- digits, a point and what follows

same_head : {c d : ℕ} {xs ys : List ℕ} → c ∷ xs ≡ d ∷ ys → c ≡ d
same_head e = cc

same_tail : {c d : ℕ} {xs ys : List ℕ} → c ∷ xs ≡ d ∷ ys → xs ≡ ys
same_tail e = cc

-- digits end at the first byte that is none
digits_unique : (xs ys r s : List ℕ) → AllDigits 10 xs → AllDigits 10 ys → BeginsWithNoDigit r → BeginsWithNoDigit s →
    xs ++ r ≡ ys ++ s → (xs ≡ ys) × (r ≡ s)
digits_unique [] [] r s p q m n e = (refl, e)
digits_unique [] (y ∷ ys) r s p q m n e = absurd ((rw e at m) q.0)
digits_unique (x ∷ xs) [] r s p q m n e = absurd ((rw (← e) at n) p.0)
digits_unique (x ∷ xs) (y ∷ ys) r s p q m n e =
    let rest = digits_unique xs ys r s p.1 q.1 m n (same_tail e) in
    let first : x ≡ y = same_head e in
    (rw (first, rest.0) refl, rest.1)

begins_point : (fraction : Option (List ℕ)) (r : List ℕ) → EndsMantissa fraction r → BeginsWithNoDigit (fraction_text fraction ++ r)
begins_point None r ends = ends.0
begins_point (Some ds) r ends = λ h. omega arith

-- so do the two parts of a mantissa
mantissa_unique : (xs ys : List ℕ) (f g : Option (List ℕ)) (r s : List ℕ) → AllDigits 10 xs → AllDigits 10 ys →
    AllDigits 10 (fraction_digits f) → AllDigits 10 (fraction_digits g) → EndsMantissa f r → EndsMantissa g s →
    xs ++ (fraction_text f ++ r) ≡ ys ++ (fraction_text g ++ s) → (xs ≡ ys) × (f ≡ g) × (r ≡ s)
mantissa_unique xs ys f g r s p q fp gq m n e =
    let whole = digits_unique xs ys _ _ p q (begins_point f r m) (begins_point g s n) e in
    let behind = fractions f g fp gq m n whole.1 in
    (whole.0, behind.0, behind.1)
  where
    fractions : (f g : Option (List ℕ)) → AllDigits 10 (fraction_digits f) → AllDigits 10 (fraction_digits g) →
        EndsMantissa f r → EndsMantissa g s → fraction_text f ++ r ≡ fraction_text g ++ s → (f ≡ g) × (r ≡ s)
    fractions None None fp gq m n e = (refl, e)
    fractions None (Some b) fp gq m n e = absurd ((rw e at (m.1 refl)) refl)
    fractions (Some a) None fp gq m n e = absurd ((rw (← e) at (n.1 refl)) refl)
    fractions (Some a) (Some b) fp gq m n e =
        let digits = digits_unique a b r s fp gq m.0 n.0 (same_tail e) in
        (ap (λ l. Some l) digits.0, digits.1)

-- ---- the exponent

letter_begins : (letter : ℕ) (rest : List ℕ) → (letter ≡ 101) ⊎ (letter ≡ 69) → BeginsWithNoDigit (letter ∷ rest) × (letter ≢ 46)
letter_begins letter rest (inl e) = rw e (λ h. omega arith, λ h. omega arith)
letter_begins letter rest (inr e) = rw e (λ h. omega arith, λ h. omega arith)

-- an exponent may follow every mantissa
pub exponent_ends : (e : Option Exponent) (f : Option (List ℕ)) → IsOptionalExponent e → EndsMantissa f (exponent_text e)
exponent_ends None f h = (tt, λ _. tt)
exponent_ends (Some e) f h = let first = letter_begins e.letter [] h.0 in (first.0, λ _. first.1)

pub digits_have_no_sign : (xs : List ℕ) → AllDigits 10 xs → HasNoSign xs
digits_have_no_sign [] all c cs e = cc
digits_have_no_sign (x ∷ xs) all c cs e =
    let below : digit_value c < 10 = rw (same_head e) at all.0 in
    (λ h. no_digit_at 43 (λ k. omega arith) (rw h at below), λ h. no_digit_at 45 (λ k. omega arith) (rw h at below))
  where
    no_digit_at : (d : ℕ) → ¬ (digit_value d < 10) → digit_value d < 10 → ⊥
    no_digit_at d h k = h k

pub apart_signs : ◌≡◌ {A = ℕ} 43 45 → ⊥
apart_signs h = omega arith

pub signs_unique : (s t : Sign) (xs ys : List ℕ) → HasNoSign xs → HasNoSign ys → sign_text s ++ xs ≡ sign_text t ++ ys → (s ≡ t) × (xs ≡ ys)
signs_unique unsigned unsigned xs ys p q e = (refl, e)
signs_unique unsigned plus xs ys p q e = absurd ((p 43 ys e).0 refl)
signs_unique unsigned minus xs ys p q e = absurd ((p 45 ys e).1 refl)
signs_unique plus unsigned xs ys p q e = absurd ((q 43 xs (sym e)).0 refl)
signs_unique plus plus xs ys p q e = (refl, same_tail e)
signs_unique plus minus xs ys p q e = absurd (apart_signs (same_head e))
signs_unique minus unsigned xs ys p q e = absurd ((q 45 xs (sym e)).1 refl)
signs_unique minus plus xs ys p q e = absurd (apart_signs (sym (same_head e)))
signs_unique minus minus xs ys p q e = (refl, same_tail e)

pub exponent_unique : (d e : Option Exponent) → IsOptionalExponent d → IsOptionalExponent e → exponent_text d ≡ exponent_text e → d ≡ e
exponent_unique None None p q h = refl
exponent_unique None (Some e) p q h = cc
exponent_unique (Some d) None p q h = cc
exponent_unique (Some d) (Some e) p q h =
    let rest = signs_unique d.sign e.sign d.digits e.digits (digits_have_no_sign d.digits p.2) (digits_have_no_sign e.digits q.2) (same_tail h) in
    let letter : d.letter ≡ e.letter = same_head h in
    λ i. Some (record { letter = letter i; sign = rest.0 i; digits = rest.1 i })

-- ---- numerals

-- behind `0x` stands no decimal numeral
module _ (letter : ℕ) (digits : List ℕ) (is_x : (letter ≡ 120) ⊎ (letter ≡ 88)) where
  no_digit : (digit_value letter < 10 → ⊥) × (letter ≢ 46) × (letter ≢ 101) × (letter ≢ 69)
  no_digit = elim is_x [
    | inl e ↦ rw e (λ h. omega arith, λ h. omega arith, λ h. omega arith, λ h. omega arith)
    | inr e ↦ rw e (λ h. omega arith, λ h. omega arith, λ h. omega arith, λ h. omega arith)
  ]

  no_exponent_text : (e : Option Exponent) → IsOptionalExponent e → exponent_text e ≡ letter ∷ digits → ⊥
  no_exponent_text None h p = cc
  no_exponent_text (Some e) h p = elim h.0 [ inl q ↦ no_digit.2 (sym (same_head p) ∙ q) | inr q ↦ no_digit.3 (sym (same_head p) ∙ q) ]

  pub hexadecimal_only : (t : Numeral) → IsWellFormed t → numeral_text t ≡ 48 ∷ (letter ∷ digits) → t ≡ hexadecimal letter digits
  hexadecimal_only (hexadecimal l ds) h e =
      let rest : l ∷ ds ≡ letter ∷ digits = same_tail e in
      let first : l ≡ letter = same_head rest in
      let behind : ds ≡ digits = same_tail rest in
      rw (first, behind) refl
  hexadecimal_only (decimal whole fraction exponent) h e =
      absurd (no_exponent_text exponent h.3
      (mantissa_unique whole (48 ∷ []) fraction None (exponent_text exponent) (letter ∷ digits) h.0 (omega arith, tt) h.1 tt
      (exponent_ends exponent fraction h.3) (no_digit.0, λ _. no_digit.1) e).2)

  -- the answer for a text with `0x`
  pub hexadecimal_answer : (text : List ℕ) (r : Result ℤ NumeralFault) → text ≡ 48 ∷ (letter ∷ digits) →
      IsHexadecimalAnswer digits r → IsNumeralAnswer text r
  hexadecimal_answer text (Ok z) e answer =
      ((hexadecimal letter digits, (is_x, answer.0, answer.1), sym e, answer.2), answer.3)
  hexadecimal_answer text (Err Malformed) e answer = λ (t, formed, spelled).
      let formed' : IsWellFormed (hexadecimal letter digits) = rw (hexadecimal_only t formed (spelled ∙ e)) at formed in
      answer formed'.1 formed'.2
  hexadecimal_answer text (Err NotWhole) e answer = (
    (hexadecimal letter digits, (is_x, answer.0, answer.1), sym e),
    λ z (t, formed, spelled, value) num.
        let value' : HasValue (hexadecimal letter digits) z = rw (hexadecimal_only t formed (spelled ∙ e)) at value in
        answer.2 (rw value' at num),
  )

-- a text that is cut into the parts of a mantissa and what follows them
module _ (text whole : List ℕ) (fraction : Option (List ℕ)) (tail : List ℕ)
    (whole_digits : AllDigits 10 whole) (behind_digits : AllDigits 10 (fraction_digits fraction)) (ends : EndsMantissa fraction tail)
    (parts : text ≡ whole ++ (fraction_text fraction ++ tail))
    (no_hexadecimal : (letter : ℕ) (digits : List ℕ) → (letter ≡ 120) ⊎ (letter ≡ 88) → text ≢ 48 ∷ (letter ∷ digits)) where
  -- each numeral with this text has these parts
  pub decimal_only : (t : Numeral) → IsWellFormed t → numeral_text t ≡ text →
      (e : Option Exponent) × (t ≡ decimal whole fraction e) × IsOptionalExponent e × (exponent_text e ≡ tail)
      × (0 < length (whole ++ fraction_digits fraction))
  decimal_only (hexadecimal letter digits) h e = absurd (no_hexadecimal letter digits h.0 (sym e))
  decimal_only (decimal w f x) h e =
      let same = mantissa_unique w whole f fraction (exponent_text x) tail h.0 whole_digits h.1 behind_digits (exponent_ends x f h.3) ends (e ∙ parts) in
      (x, rw (same.0, same.1) refl, h.3, same.2, rw (← same.0, ← same.1) h.2)

  pub no_numeral_without_digits : length (whole ++ fraction_digits fraction) ≡ 0 → ¬ IsNumeral text
  no_numeral_without_digits none (t, formed, spelled) = omega (arith, (decimal_only t formed spelled).4)

  pub no_numeral_without_exponent : ((e : Option Exponent) → IsOptionalExponent e → exponent_text e ≢ tail) → ¬ IsNumeral text
  no_numeral_without_exponent none (t, formed, spelled) =
      let only = decimal_only t formed spelled in
      none only.0 only.2 only.3

  -- the answer where an exponent follows
  pub decimal_answer : (e : Option Exponent) → IsOptionalExponent e → exponent_text e ≡ tail →
      0 < length (whole ++ fraction_digits fraction) → (r : Option ℤ) →
      MatchOption r ((z : ℤ) → IsScaled whole (fraction_digits fraction) (exponent_value e) z → ¬ IsNum z)
      (λ z. IsScaled whole (fraction_digits fraction) (exponent_value e) z × IsNum z) →
      IsNumeralAnswer text (ok_or r NotWhole)
  decimal_answer e formed spelled some (Some z) answer =
      ((decimal whole fraction e, (whole_digits, behind_digits, some, formed), rw (parts, spelled) refl, answer.0), answer.1)
  decimal_answer e formed spelled some None answer = (
    (decimal whole fraction e, (whole_digits, behind_digits, some, formed), rw (parts, spelled) refl),
    λ z (t, t_formed, t_spelled, value) num.
        let only = decimal_only t t_formed t_spelled in
        let same : only.0 ≡ e = exponent_unique only.0 e only.2 formed (only.3 ∙ sym spelled) in
        let value' : HasValue (decimal whole fraction e) z = rw (only.1, same) at value in
        answer z value' num,
  )
