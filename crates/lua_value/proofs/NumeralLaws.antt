-- A text has at most one value, and so one answer.
use Rattle.std.proofs.Common.{◌≡◌, ℕ, ◌+◌, ◌^◌, ◌≤◌, ◌<◌, ◌↔◌, ℤ, pos, Option, None, Result, Ok, Err, List, length, arith, refl, sym, ap, ◌∙◌, append-nil}
use Rattle.std.proofs.Math.Nat.{one-le-pow, eq_of_mul-eq-mul_right, pow-le-pow_right}
use Rattle.std.proofs.lemmas.Int.Digits.{digits_value-lt}
use Rattle.std.specs.Str.Parse.{AllDigits, digits_value}
use Rattle.lua_value.specs.Num.{IsNum}
use Rattle.lua_value.specs.Numeral.{Numeral, Exponent, fraction_digits, exponent_text, exponent_value, lowering, numeral_text, IsWellFormed, HasValue, IsNumeral, Denotes, IsNumeralAnswer}
use Rattle.lua_value.specs.Numeral.Numeral.{hexadecimal, decimal}
use Rattle.lua_value.specs.declared.numeral.NumeralFault.{NumeralFault}
use Rattle.lua_value.specs.declared.numeral.NumeralFault.TheVariants.{Malformed, NotWhole}
use Rattle.lua_value.proofs.Scaling.{natural-of_product}
use Rattle.lua_value.proofs.Reading.{hexadecimal_only, decimal_only, exponent_unique, exponent_ends}

-- ---- one numeral, one value

decimal-hexadecimal : (whole : List ℕ) (f : Option (List ℕ)) (e : Option Exponent) (letter : ℕ) (digits : List ℕ) →
    decimal whole f e ≡ hexadecimal letter digits → ⊥
decimal-hexadecimal whole f e letter digits h = cc

numeral_unique : (s t : Numeral) → IsWellFormed s → IsWellFormed t → numeral_text t ≡ numeral_text s → t ≡ s
numeral_unique (hexadecimal letter digits) t p q same = hexadecimal_only letter digits p.0 t q same
numeral_unique (decimal whole f e) t p q same =
    let only = decimal_only (numeral_text (decimal whole f e)) whole f (exponent_text e) p.0 p.1 (exponent_ends e f p.3) refl
    (λ letter digits is_x h. decimal-hexadecimal whole f e letter digits (hexadecimal_only letter digits is_x (decimal whole f e) p h))
    t q same in
    only.1 ∙ ap (λ x. decimal whole f x) (exponent_unique only.0 e only.2 p.3 only.3)

value_unique : (t : Numeral) (y z : ℤ) → HasValue t y → HasValue t z → y ≡ z
value_unique (hexadecimal letter digits) y z p q = p ∙ sym q
value_unique (decimal whole f e) y z p q =
    let places = length (fraction_digits f) + lowering (exponent_value e) in
    let some : 0 < 10 ^ places = one-le-pow places 10 (omega arith) in
    let m = natural-of_product y _ _ some p in
    let n = natural-of_product z _ _ some q in
    m.1 ∙ ap (λ k. pos k) (eq_of_mul-eq-mul_right (10 ^ places) some m.0 n.0 (m.2 ∙ sym n.2)) ∙ sym n.1

pub Denotes-unique : (text : List ℕ) (y z : ℤ) → Denotes text y → Denotes text z → y ≡ z
Denotes-unique text y z (s, s_formed, s_text, s_value) (t, t_formed, t_text, t_value) =
    let same : t ≡ s = numeral_unique s t s_formed t_formed (t_text ∙ sym s_text) in
    value_unique s y z s_value (rw same at t_value)

-- ---- one answer

pub IsNumeralAnswer-ok : (text : List ℕ) (r : Result ℤ NumeralFault) → IsNumeralAnswer text r → (z : ℤ) → (r ≡ Ok z) ↔ (Denotes text z × IsNum z)
IsNumeralAnswer-ok text (Ok y) h z = (λ e. let same : y ≡ z = cc in rw (← same) h, λ d. ap (λ v. Ok v) (Denotes-unique text y z h.0 d.0))
IsNumeralAnswer-ok text (Err Malformed) h z = (λ e. cc, λ ((t, formed, spelled, value), num). absurd (h (t, formed, spelled)))
IsNumeralAnswer-ok text (Err NotWhole) h z = (λ e. cc, λ d. absurd (h.1 z d.0 d.1))

pub IsNumeralAnswer-malformed : (text : List ℕ) (r : Result ℤ NumeralFault) → IsNumeralAnswer text r → (r ≡ Err Malformed) ↔ ¬ IsNumeral text
IsNumeralAnswer-malformed text (Ok y) ((t, formed, spelled, value), num) = (λ e. cc, λ none. absurd (none (t, formed, spelled)))
IsNumeralAnswer-malformed text (Err Malformed) h = (λ e. h, λ none. refl)
IsNumeralAnswer-malformed text (Err NotWhole) h = (λ e. cc, λ none. absurd (none h.0))

pub IsNumeralAnswer-not_whole : (text : List ℕ) (r : Result ℤ NumeralFault) → IsNumeralAnswer text r →
    (r ≡ Err NotWhole) ↔ (IsNumeral text × ((z : ℤ) → Denotes text z → ¬ IsNum z))
IsNumeralAnswer-not_whole text (Ok y) h = (λ e. cc, λ none. absurd (none.1 y h.0 h.1))
IsNumeralAnswer-not_whole text (Err Malformed) h = (λ e. cc, λ none. absurd (h none.0))
IsNumeralAnswer-not_whole text (Err NotWhole) h = (λ e. h, λ none. refl)

-- ---- digits alone

-- decimal digits denote the number that they write
pub Denotes-digits : (digits : List ℕ) → 0 < length digits → AllDigits 10 digits → Denotes digits (pos (digits_value 10 digits))
Denotes-digits digits some all =
    (decimal digits None None, (all, tt, rw append-nil some, tt), append-nil digits, rw append-nil refl)

pub IsNumeralAnswer-digits : (digits : List ℕ) (r : Result ℤ NumeralFault) → IsNumeralAnswer digits r → 0 < length digits → length digits ≤ 14 →
    AllDigits 10 digits → r ≡ Ok (pos (digits_value 10 digits))
IsNumeralAnswer-digits digits r h some few all =
    let below : digits_value 10 digits < 10 ^ length digits = digits_value-lt 10 digits all in
    let least : 10 ^ length digits ≤ 10 ^ 14 = pow-le-pow_right {n = 10} (omega arith) few in
    (IsNumeralAnswer-ok digits r h (pos (digits_value 10 digits))).1 (Denotes-digits digits some all, omega arith)
