-- Exponents: their texts, and how far they move a point.
use Rattle.std.proofs.Common.{◌≡◌, ◌≢◌, ℕ, zero, suc, ◌+◌, ◌-◌, ◌^◌, ◌<◌, ◌⊎◌, unwrap_or, MatchOption, Bor, pos, Option, Some, None, List, ◌∷◌, ◌++◌, length, min, arith, refl, sym, ◌∙◌, ap}
use Rattle.std.specs.Str.Parse.{AllDigits, digits_value}
use Rattle.lua_value.specs.Sign.{Sign, sign_text, signed}
use Rattle.lua_value.specs.Sign.Sign.{unsigned, plus, minus}
use Rattle.lua_value.specs.Numeral.{Exponent, IsOptionalExponent, exponent_text, exponent_value}
use Rattle.lua_value.specs.Place.{moved_point}

-- where a point stands that an exponent moves, of which the size is known as far as the greatest word
abbrev pub moved_by : Sign → ℕ → ℕ → ℕ
moved_by unsigned whole size = min (whole + size) (2 ^ 64 - 1)
moved_by plus whole size = min (whole + size) (2 ^ 64 - 1)
moved_by minus whole size = whole - size

moved_point-signed : (s : Sign) (whole d : ℕ) → whole < 2 ^ 64 → moved_point whole (signed s (pos d)) ≡ moved_by s whole (min d (2 ^ 64 - 1))
moved_point-signed unsigned whole d h = omega arith
moved_point-signed plus whole d h = omega arith
moved_point-signed minus whole zero h = omega arith
moved_point-signed minus whole (suc d) h = omega arith

-- a number behind an optional `+`
pub plus_or_none : (text behind : Bor (List ℕ)) (o : Option (Bor (List ℕ))) → behind ≡ unwrap_or o text →
    MatchOption o ((c : ℕ) (rest : List ℕ) → text.now ≡ c ∷ rest → c ≢ 43) (λ rest. text.now ≡ 43 ∷ rest.now) →
    (s : Sign) × (text.now ≡ sign_text s ++ behind.now)
    × ((whole n : ℕ) → moved_by s whole n ≡ min (whole + n) (2 ^ 64 - 1))
plus_or_none text behind None e h = (unsigned, ap (λ (b : Bor (List ℕ)). b.now) (sym e), λ _ _. refl)
plus_or_none text behind (Some rest) e parts = (plus, parts ∙ rw e refl, λ _ _. refl)

-- an exponent from its parts, and where it moves the point
pub exponent_of : (s : Sign) (text behind digits : List ℕ) (letter whole size point : ℕ) → whole < 2 ^ 64 →
    text ≡ letter ∷ behind → (letter ≡ 101) ⊎ (letter ≡ 69) → behind ≡ sign_text s ++ digits →
    (0 < length digits) × AllDigits 10 digits × (size ≡ min (digits_value 10 digits) (2 ^ 64 - 1)) →
    point ≡ moved_by s whole size →
    (e : Option Exponent) × IsOptionalExponent e × (exponent_text e ≡ text) × (point ≡ moved_point whole (exponent_value e))
exponent_of s text behind digits letter whole size point h parts is_letter rest known at = (
  Some (record { letter = letter; sign = s; digits = digits }),
  (is_letter, known.0, known.1),
  rw (parts, rest) refl,
  rw (at, known.2) (sym (moved_point-signed s whole (digits_value 10 digits) h)),
)
