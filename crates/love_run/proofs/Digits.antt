-- Texts of UTF-8, and of decimal digits.
use Rattle.std.proofs.Common.{◌≡◌, ◌<◌, ℕ, ℤ, pos, Bool, true, false, List, [], ◌∷◌, Result, Ok, Err, arith, sym, refl, length, ◌≤◌, Some, lt-ltb, le-leb}
use Rattle.std.specs.Str.{all_ascii_digits, IsUtf8, is_utf8}
use Rattle.std.proofs.lemmas.Str.{IsUtf8-from_is_utf8, is_utf8-from_IsUtf8}
use Rattle.std.specs.Str.Parse.{AllDigits, digits_value}
use Rattle.std.proofs.lemmas.Str.{digit_value_digit}
use Rattle.std.proofs.lemmas.Str.Parse.{tells_all_ascii_digits}
use Rattle.love_run.specs.Command.{number_in}

-- bytes that are digits by the test are digits to base ten
pub all_digits : (text : List ℕ) → all_ascii_digits text ≡ true → AllDigits 10 text
all_digits [] are = tt
all_digits (byte ∷ text) are =
    let parts = tells_all_ascii_digits.parts byte text are in
    (omega (arith, digit_value_digit byte parts.0), all_digits text parts.1)

pub is_text : (bytes : List ℕ) → IsUtf8 bytes → true ≡ is_utf8 bytes
is_text bytes is = sym (is_utf8-from_IsUtf8 bytes is)

pub is_no_text : (bytes : List ℕ) → (IsUtf8 bytes → ⊥) → false ≡ is_utf8 bytes
is_no_text bytes not = go (is_utf8 bytes) refl
  where
    go : (b : Bool) → is_utf8 bytes ≡ b → false ≡ is_utf8 bytes
    go true is = absurd (not (IsUtf8-from_is_utf8 bytes is))
    go false is = sym is

-- a numeral of one to ten digits gives their value
pub read_digits : {E : Type 0} (read : Result ℤ E) (number : ℤ) (text : List ℕ) → (0 < length text → length text ≤ 14 → AllDigits 10 text → read ≡ Ok (pos (digits_value 10 text))) → read ≡ Ok number → 0 < length text → length text ≤ 10 → all_ascii_digits text ≡ true → number ≡ pos (digits_value 10 text)
read_digits read number text gives is some few all =
    let given = gives some (omega arith) (all_digits text all) in
    cc

pub number_read : (text : List ℕ) → 0 < length text → length text ≤ 10 → all_ascii_digits text ≡ true → Some (digits_value 10 text) ≡ number_in text
number_read text some few all = rw (all, lt-ltb 0 (length text) some, le-leb (length text) 10 few) refl

-- so it is never refused
pub read_never_fails : {E : Type 0} (read : Result ℤ E) (fault : E) (text : List ℕ) → (0 < length text → length text ≤ 14 → AllDigits 10 text → read ≡ Ok (pos (digits_value 10 text))) → read ≡ Err fault → 0 < length text → length text ≤ 10 → all_ascii_digits text ≡ true → ⊥
read_never_fails read fault text gives is some few all =
    let given = gives some (omega arith) (all_digits text all) in
    cc
