-- Runs at the front of a text, and what numerals, words and brackets begin with.
use Rattle.std.proofs.Common.{◌≡◌, ℕ, suc, ◌+◌, ◌<◌, ◌≤◌, Bool, true, false, cond, eqb, List, [], ◌∷◌, ◌++◌, length, take, drop, Option, Some, None, refl, sym, ap, ◌∙◌, subst, inl, inr, arith, append_assoc, one-add}
use Rattle.std.specs.Prelude.{◌||◌, ◌&&◌, ◌==◌}
use Rattle.std.specs.List.{prefix_len, AllByRecursion}
use Rattle.std.specs.Char.{digit_value, is_ascii_digit}
use Rattle.std.specs.Str.Parse.{AllDigits}
use Rattle.std.proofs.lemmas.Bool.{eqb-true}
use Rattle.std.proofs.lemmas.Bool.Decides.{nat_tests}
use Rattle.std.proofs.lemmas.List.{length-append}
use Rattle.std.proofs.Math.Seq.{drop-append_seam}
use Rattle.std.specs.Prelude.{MatchOption, ⊤}
use Rattle.std.proofs.Common.{◌⊎◌}
use Rattle.lua_value.specs.Sign.{Sign}
use Rattle.lua_value.specs.Sign.Sign.{unsigned, plus, minus}
use Rattle.lua_value.specs.Sign.{sign_text}
use Rattle.lua_value.specs.Numeral.{Exponent, fraction_digits, fraction_text, exponent_text, IsExponent, IsNumeral}
use Rattle.lua_value.specs.Numeral.Numeral.{hexadecimal, decimal}
use Rattle.lua_token.specs.Bytes.{is_letter, is_name_byte, is_of, first_is}
use Rattle.lua_token.specs.Run.{starts_number, mark_length, number_length}
use Rattle.lua_token.specs.Long.{level}
use Rattle.lua_token.specs.declared.bytes.Class.TheVariants.{InName, DigitOrDot}

-- ---- runs

-- a text of such bytes is within the run at its place
pub within : (p : ℕ → Bool) (text after : List ℕ) → AllByRecursion (λ b. p b ≡ true) text → length text ≤ prefix_len p (text ++ after)
within p [] after all = omega arith
within p (b ∷ text) after all = let others = within p text after all.1 in rw all.0 (omega (arith, others))

-- and it is the run, where another byte follows
pub exactly : (p : ℕ → Bool) (text after : List ℕ) → AllByRecursion (λ b. p b ≡ true) text → first_is p after ≡ false → prefix_len p (text ++ after) ≡ length text
exactly p [] [] all stop = refl
exactly p [] (c ∷ after) all stop = rw stop refl
exactly p (b ∷ text) after all stop = let others = exactly p text after all.1 stop in rw all.0 (omega (arith, others))

pub all_front : (p : ℕ → Bool) (text : List ℕ) → AllByRecursion (λ b. p b ≡ true) (take (prefix_len p text) text)
all_front p [] = tt
all_front p (b ∷ text) = from (p b) refl (all_front p text)
  where
    from : (t : Bool) → p b ≡ t → AllByRecursion (λ b. p b ≡ true) (take (prefix_len p text) text) → AllByRecursion (λ b. p b ≡ true) (take (cond t (1 + prefix_len p text) 0) (b ∷ text))
    from true e others = rw one-add (e, others)
    from false e others = tt

pub first_take : (p : ℕ → Bool) (n : ℕ) (text : List ℕ) → 0 < n → first_is p (take n text) ≡ first_is p text
first_take p (suc n) [] some = refl
first_take p (suc n) (b ∷ text) some = refl
first_take p Rattle.std.proofs.Common.zero text some = absurd (omega (arith, some))

pub first_append : (p : ℕ → Bool) (text after : List ℕ) → 0 < length text → first_is p (text ++ after) ≡ first_is p text
first_append p [] after some = absurd (omega (arith, some))
first_append p (b ∷ text) after some = refl

-- ---- long brackets

opens : (p q : Bool) (m n : ℕ) → cond (p && q) (Some m) None ≡ Some n → p ≡ true
opens true q m n e = refl
opens false q m n e = absurd cc

pub level_first : (bracket b n : ℕ) (text : List ℕ) → level bracket (b ∷ text) ≡ Some n → b ≡ bracket
unfolding level
level_first bracket b n text e = eqb-true b bracket (opens (eqb b bracket) _ _ n e)

pub level_some : (bracket n : ℕ) (text : List ℕ) → level bracket text ≡ Some n → 0 < length text
unfolding level
level_some bracket n [] e = absurd cc
level_some bracket n (b ∷ text) e = omega arith

-- ---- words and numbers

letter_from : (b : ℕ) → is_letter b ≡ true → 65 ≤ b
letter_from b e = grind (arith, nat_tests)

digit_to : (b : ℕ) → is_ascii_digit b ≡ true → b ≤ 57
digit_to b e = grind (arith, nat_tests)

starts_low : (b : ℕ) (p q : Bool) → (is_ascii_digit b ≡ p) → (eqb b 46 ≡ q) → (r : Bool) → (p || (q && r)) ≡ true → b ≤ 57
starts_low b true q dig dot r e = digit_to b dig
starts_low b false true dig dot r e = omega (arith, eqb-true b 46 dot)
starts_low b false false dig dot r e = absurd cc

pub no_word_number : (b : ℕ) (text : List ℕ) → is_letter b ≡ true → starts_number (b ∷ text) ≡ true → ⊥
no_word_number b text letter number =
    let high = letter_from b letter in
    let low = starts_low b (is_ascii_digit b) (eqb b 46) refl refl (first_is is_ascii_digit text) number in
    omega (arith, high, low)

digit_is : (b : ℕ) → digit_value b < 10 → is_ascii_digit b ≡ true
digit_is b h = grind (arith, nat_tests)

hex_is : (b : ℕ) → digit_value b < 16 → is_name_byte b ≡ true
hex_is b h = grind (arith, nat_tests)

or_true : (p q : Bool) → p ≡ true → (p || q) ≡ true
or_true true q e = refl
or_true false q e = absurd cc

or_right : (p q : Bool) → q ≡ true → (p || q) ≡ true
or_right true q e = refl
or_right false q e = e

all_hex : (digits : List ℕ) → AllDigits 16 digits → AllByRecursion (λ b. is_of InName b ≡ true) digits
all_hex [] all = tt
all_hex (b ∷ digits) all = (hex_is b all.0, all_hex digits all.1)

all_digits : (digits : List ℕ) → AllDigits 10 digits → AllByRecursion (λ b. is_of DigitOrDot b ≡ true) digits
all_digits [] all = tt
all_digits (b ∷ digits) all = (or_true (is_ascii_digit b) (b == 46) (digit_is b all.0), all_digits digits all.1)

all_names : (digits : List ℕ) → AllDigits 10 digits → AllByRecursion (λ b. is_of InName b ≡ true) digits
all_names [] all = tt
all_names (b ∷ digits) all = (or_right (is_letter b) (is_ascii_digit b) (digit_is b all.0), all_names digits all.1)

all_append : (P : ℕ → Type 0) (xs ys : List ℕ) → AllByRecursion P xs → AllByRecursion P ys → AllByRecursion P (xs ++ ys)
all_append P [] ys p q = q
all_append P (x ∷ xs) ys p q = (p.0, all_append P xs ys p.1 q)

-- the digits and the point of a decimal numeral
all_head : (whole : List ℕ) (fraction : Option (List ℕ)) → AllDigits 10 whole → AllDigits 10 (fraction_digits fraction) → AllByRecursion (λ b. is_of DigitOrDot b ≡ true) (whole ++ fraction_text fraction)
all_head whole None p q = all_append (λ b. is_of DigitOrDot b ≡ true) whole [] (all_digits whole p) tt
all_head whole (Some digits) p q = all_append (λ b. is_of DigitOrDot b ≡ true) whole (46 ∷ digits) (all_digits whole p) (refl, all_digits digits q)

decimal_starts : (whole : List ℕ) (fraction : Option (List ℕ)) (others : List ℕ) → AllDigits 10 whole → AllDigits 10 (fraction_digits fraction) → 0 < length (whole ++ fraction_digits fraction) → starts_number (whole ++ (fraction_text fraction ++ others)) ≡ true
decimal_starts (b ∷ whole) fraction others p q some = or_true (is_ascii_digit b) _ (digit_is b p.0)
decimal_starts [] None others p q some = absurd (omega (arith, some))
decimal_starts [] (Some []) others p q some = absurd (omega (arith, some))
decimal_starts [] (Some (b ∷ digits)) others p q some = digit_is b q.0

pub numeral_starts : (text after : List ℕ) → IsNumeral text → starts_number (text ++ after) ≡ true
numeral_starts text after (hexadecimal letter digits, formed, spelled) = subst (λ (t : List ℕ). starts_number (t ++ after) ≡ true) spelled refl
numeral_starts text after (decimal whole fraction exponent, formed, spelled) =
    let regrouped : (whole ++ (fraction_text fraction ++ exponent_text exponent)) ++ after ≡ whole ++ (fraction_text fraction ++ (exponent_text exponent ++ after)) = simp append_assoc in
    subst (λ (t : List ℕ). starts_number (t ++ after) ≡ true) spelled (subst (λ (t : List ℕ). starts_number t ≡ true) (sym regrouped) (decimal_starts whole fraction (exponent_text exponent ++ after) formed.0 formed.1 formed.2))

-- ---- a numeral is within its run

hexadecimal_within : (letter : ℕ) (digits after : List ℕ) → (letter ≡ 120) → AllDigits 16 digits → 2 + length digits ≤ number_length (48 ∷ (letter ∷ (digits ++ after)))
unfolding number_length mark_length
hexadecimal_within letter digits after is_x all = let run = within (is_of InName) digits after (all_hex digits all) in rw is_x (omega (arith, run))

hexadecimal_within' : (letter : ℕ) (digits after : List ℕ) → (letter ≡ 88) → AllDigits 16 digits → 2 + length digits ≤ number_length (48 ∷ (letter ∷ (digits ++ after)))
unfolding number_length mark_length
hexadecimal_within' letter digits after is_x all = let run = within (is_of InName) digits after (all_hex digits all) in rw is_x (omega (arith, run))

-- what follows the digits and the point of a decimal numeral
tail_length : List ℕ → ℕ
tail_length text = mark_length text + prefix_len (is_of InName) (drop (mark_length text) text)

split_run : (head others : List ℕ) → AllByRecursion (λ b. is_of DigitOrDot b ≡ true) head → first_is (is_of DigitOrDot) others ≡ false → number_length (head ++ others) ≡ length head + tail_length others
unfolding number_length tail_length
split_run head others all stop =
    let digits = exactly (is_of DigitOrDot) head others all stop in
    let here : drop (length head) (head ++ others) ≡ others = drop-append_seam head others in
    rw (digits, here, drop_more (length head) (mark_length others) (head ++ others) others here) (omega arith)
  where
    drop_more : (n m : ℕ) (text rest : List ℕ) → drop n text ≡ rest → drop (n + m) text ≡ drop m rest
    drop_more n m text rest e = sym (Rattle.std.proofs.lemmas.List.drop-drop m n text) ∙ ap (drop m) e

no_sign : (b : ℕ) → is_ascii_digit b ≡ true → (b == 43 || b == 45) ≡ false
no_sign b e = grind (arith, nat_tests)

-- an exponent's letter
is_mark : (letter : ℕ) → (letter ≡ 101) ⊎ (letter ≡ 69) → (letter == 101 || letter == 69) ≡ true
is_mark letter (inl e) = rw e refl
is_mark letter (inr e) = rw e refl

mark_is_no_digit : (letter : ℕ) → (letter ≡ 101) ⊎ (letter ≡ 69) → (is_ascii_digit letter || letter == 46) ≡ false
mark_is_no_digit letter (inl e) = rw e refl
mark_is_no_digit letter (inr e) = rw e refl

unsigned_tail : (letter : ℕ) (digits after : List ℕ) → (letter == 101 || letter == 69) ≡ true → 0 < length digits → AllDigits 10 digits → 1 + length digits ≤ tail_length (letter ∷ (digits ++ after))
unfolding tail_length mark_length
unsigned_tail letter [] after mark some all = absurd (omega (arith, some))
unsigned_tail letter (b ∷ digits) after mark some all =
    let run = within (is_of InName) (b ∷ digits) after (all_names (b ∷ digits) all) in
    rw (mark, no_sign b (digit_is b all.0)) (omega (arith, run))

signed_tail : (letter sign : ℕ) (digits after : List ℕ) → (letter == 101 || letter == 69) ≡ true → (sign == 43 || sign == 45) ≡ true → AllDigits 10 digits → 2 + length digits ≤ tail_length (letter ∷ (sign ∷ (digits ++ after)))
unfolding tail_length mark_length
signed_tail letter sign digits after mark is_sign all =
    let run = within (is_of InName) digits after (all_names digits all) in
    rw (mark, is_sign) (omega (arith, run))

exponent_tail : (sign : Sign) (letter : ℕ) (digits after : List ℕ) → (letter ≡ 101) ⊎ (letter ≡ 69) → 0 < length digits → AllDigits 10 digits → length (letter ∷ (sign_text sign ++ digits)) ≤ tail_length (letter ∷ ((sign_text sign ++ digits) ++ after))
exponent_tail unsigned letter digits after mark some all = let h = unsigned_tail letter digits after (is_mark letter mark) some all in omega (arith, h)
exponent_tail plus letter digits after mark some all = let h = signed_tail letter 43 digits after (is_mark letter mark) refl all in omega (arith, h)
exponent_tail minus letter digits after mark some all = let h = signed_tail letter 45 digits after (is_mark letter mark) refl all in omega (arith, h)

digits_within : (text : List ℕ) → prefix_len (is_of DigitOrDot) text ≤ number_length text
unfolding number_length
digits_within text = omega arith

decimal_within : (head : List ℕ) (exponent : Option Exponent) (after : List ℕ) → AllByRecursion (λ b. is_of DigitOrDot b ≡ true) head → MatchOption exponent ⊤ IsExponent
    → length (head ++ exponent_text exponent) ≤ number_length (head ++ (exponent_text exponent ++ after))
decimal_within head None after all formed =
    let run = within (is_of DigitOrDot) head after all in
    let more = digits_within (head ++ after) in
    omega (arith, run, more, length-append head [])
decimal_within head (Some e) after all formed =
    let others = exponent_text (Some e) ++ after in
    let split = split_run head others all (mark_is_no_digit e.letter formed.0) in
    let tail = exponent_tail e.sign e.letter e.digits after formed.0 formed.1 formed.2 in
    omega (arith, split, tail, length-append head (exponent_text (Some e)))

-- what is read as one number takes every numeral that stands at its place
pub numeral_within : (text after : List ℕ) → IsNumeral text → length text ≤ number_length (text ++ after)
numeral_within text after (hexadecimal letter digits, (inl is_x, some, all), spelled) =
    subst (λ (t : List ℕ). length t ≤ number_length (t ++ after)) spelled (let h = hexadecimal_within letter digits after is_x all in omega (arith, h))
numeral_within text after (hexadecimal letter digits, (inr is_x, some, all), spelled) =
    subst (λ (t : List ℕ). length t ≤ number_length (t ++ after)) spelled (let h = hexadecimal_within' letter digits after is_x all in omega (arith, h))
numeral_within text after (decimal whole fraction exponent, formed, spelled) =
    let head = whole ++ fraction_text fraction in
    let tail = exponent_text exponent in
    let inner : whole ++ (fraction_text fraction ++ tail) ≡ head ++ tail = simp append_assoc in
    let outer : (whole ++ (fraction_text fraction ++ tail)) ++ after ≡ head ++ (tail ++ after) = simp append_assoc in
    let h = decimal_within head exponent after (all_head whole fraction formed.0 formed.1) formed.3 in
    subst (λ (t : List ℕ). length t ≤ number_length (t ++ after)) spelled (rw (inner, append_assoc head tail after) h)
