-- `read` gives the number that a text is read as.
use Rattle.std.proofs.Common.{◌≡◌, ℕ, ◌<◌, ◌⊎◌, inl, inr, ◌↔◌, ℤ, pos, negsuc, zero, suc, ◌+ℤ◌, neg_ℤ, unsigned_abs, Bool, true, false, cond, ◌||◌, nat_eq, Option, Some, None, List, [], ◌∷◌, ◌++◌, length, arith, ap, refl, sym, ◌∙◌, subst, append-nil, append_assoc}
use Rattle.std.proofs.lemmas.Bool.{ne_eqb, eqb-true, and_parts, or_cases, or_from, cond-true, cond-false, false_from_ne_true}
use Rattle.std.proofs.lemmas.Int.Digits.{digits_value-lt}
use Rattle.std.proofs.lemmas.Str.Parse.{digit_from_value}
use Rattle.std.specs.Char.{digit_value}
use Rattle.std.specs.Option.{option_and_then}
use Rattle.std.specs.Str.Parse.{AllDigits, digits_value}
use Rattle.lua_value.specs.Num.{IsNum}
use Rattle.lua_value.specs.Sign.{Sign, sign_text, signed}
use Rattle.lua_value.specs.Sign.Sign.{unsigned, plus, minus}
use Rattle.lua_value.specs.Numeral.{Numeral, Exponent, fraction_digits, fraction_text, exponent_text, exponent_value, numeral_text, IsOptionalExponent, IsWellFormed, HasValue, Denotes}
use Rattle.lua_value.specs.Numeral.Numeral.{hexadecimal, decimal}
use Rattle.lua_value.specs.NumberText.{ReadsAs}
use Rattle.lua_value.proofs.DigitLemmas.{AllDigits-append}
use Rattle.lua_value.proofs.Reading.{digits_have_no_sign, hexadecimal_only}
use Rattle.lua_value.proofs.Words.{word_of, Denotes-no_sign}
use Rattle.lua_meaning.specs.Number.{kept, are_some_digits, digits_number, is_exponent_letter, is_point, before, behind, with_sign, scaled, decimal_number, mantissa_number, exponent_number, decimal_numeral, begins_hexadecimal, behind_two, numeral, trimmed, read}
use Rattle.lua_lib.proofs.Cuts.{and_then_some, NonePass, NonePass-append, before-append, behind-append, before-whole, cut_at, trimmed-word, trimmed_within, with_sign-signed, with_sign-only}
use Rattle.lua_lib.proofs.Scales.{kept-num, kept-only, are_some-true, are_some-parts, digits_number-some, digits_number-only, scaled-some, scaled-only}

-- ---- which bytes cut a numeral

digit_is_no_letter : (c : ℕ) → digit_value c < 10 → is_exponent_letter c ≡ false
digit_is_no_letter c h =
    let range = digit_from_value c h in
    or_from (nat_eq c 101) (nat_eq c 69) (ne_eqb c 101 (λ e. omega (arith, range))) (ne_eqb c 69 (λ e. omega (arith, range)))

digit_is_no_point : (c : ℕ) → digit_value c < 10 → is_point c ≡ false
digit_is_no_point c h = let range = digit_from_value c h in ne_eqb c 46 (λ e. omega (arith, range))

digits_do_not_pass : (test : ℕ → Bool) → ((c : ℕ) → digit_value c < 10 → test c ≡ false) → (ds : List ℕ) → AllDigits 10 ds → NonePass test ds
digits_do_not_pass test each [] all = tt
digits_do_not_pass test each (c ∷ cs) all = (each c all.0, digits_do_not_pass test each cs all.1)

fraction_has_no_letter : (f : Option (List ℕ)) → AllDigits 10 (fraction_digits f) → NonePass is_exponent_letter (fraction_text f)
fraction_has_no_letter None all = tt
fraction_has_no_letter (Some ds) all = (refl, digits_do_not_pass is_exponent_letter digit_is_no_letter ds all)

letter_passes : (c : ℕ) → (c ≡ 101) ⊎ (c ≡ 69) → is_exponent_letter c ≡ true
letter_passes c (inl e) = rw e refl
letter_passes c (inr e) = rw e refl

letter_is : (c : ℕ) → is_exponent_letter c ≡ true → (c ≡ 101) ⊎ (c ≡ 69)
letter_is c e = elim (or_cases (nat_eq c 101) (nat_eq c 69) e) [ inl p ↦ inl (eqb-true c 101 p) | inr p ↦ inr (eqb-true c 69 p) ]

-- ---- the exponent of a numeral

exponent_cut : (e : Option Exponent) → IsOptionalExponent e →
    (before is_exponent_letter (exponent_text e) ≡ []) × (exponent_number (behind is_exponent_letter (exponent_text e)) ≡ Some (exponent_value e))
exponent_cut None h = (refl, refl)
exponent_cut (Some e) (letter, some, all) =
    let rest = sign_text e.sign ++ e.digits in
    let passes = letter_passes e.letter letter in (
      cond-true (is_exponent_letter e.letter) [] (e.letter ∷ before is_exponent_letter rest) passes,
      ap exponent_number (cond-true (is_exponent_letter e.letter) (Some rest) (behind is_exponent_letter rest) passes)
          ∙ with_sign-signed (digits_number 10) e.sign e.digits (pos (digits_value 10 e.digits)) (digits_have_no_sign e.digits all)
          (digits_number-some 10 e.digits some all),
    )

-- what an exponent's text behind its letter says
exponent_of : (c : ℕ) (rest : List ℕ) (ev : ℤ) → is_exponent_letter c ≡ true → with_sign (digits_number 10) rest ≡ Some ev →
    (e : Option Exponent) × IsOptionalExponent e × (exponent_text e ≡ c ∷ rest) × (exponent_value e ≡ ev)
exponent_of c rest ev passes e =
    let found = with_sign-only (digits_number 10) rest ev e in
    let digits = digits_number-only 10 found.1 found.2 found.4 in (
      Some (record { letter = c; sign = found.0; digits = found.1 }),
      (letter_is c passes, digits.0, digits.1),
      ap (λ (l : List ℕ). c ∷ l) (sym found.3),
      ap (signed found.0) (sym digits.2) ∙ sym found.5,
    )

exponent_read : (text : List ℕ) (ev : ℤ) → exponent_number (behind is_exponent_letter text) ≡ Some ev →
    (e : Option Exponent) × IsOptionalExponent e × (text ≡ before is_exponent_letter text ++ exponent_text e) × (exponent_value e ≡ ev)
exponent_read text ev h = from (behind is_exponent_letter text) refl h
  where
    from : (o : Option (List ℕ)) → behind is_exponent_letter text ≡ o → exponent_number o ≡ Some ev →
        (e : Option Exponent) × IsOptionalExponent e × (text ≡ before is_exponent_letter text ++ exponent_text e) × (exponent_value e ≡ ev)
    from None p h = (None, tt, sym (append-nil (before is_exponent_letter text) ∙ before-whole is_exponent_letter text p), cc)
    from (Some rest) p h =
        let cut = cut_at is_exponent_letter text rest p in
        let e = exponent_of cut.0 rest ev cut.1 h in
        (e.0, e.1, cut.2 ∙ ap (λ (l : List ℕ). before is_exponent_letter text ++ l) (sym e.2), e.3)

-- ---- the mantissa of a numeral

mantissa_cut : (whole : List ℕ) (f : Option (List ℕ)) → AllDigits 10 whole →
    (before is_point (whole ++ fraction_text f) ≡ whole) × (behind is_point (whole ++ fraction_text f) ≡ f)
mantissa_cut whole f all =
    let none = digits_do_not_pass is_point digit_is_no_point whole all in
    (before-append is_point whole (fraction_text f) none ∙ rest f, behind-append is_point whole (fraction_text f) none ∙ fraction f)
  where
    rest : (f : Option (List ℕ)) → whole ++ before is_point (fraction_text f) ≡ whole
    rest None = append-nil whole
    rest (Some ds) = append-nil whole

    fraction : (f : Option (List ℕ)) → behind is_point (fraction_text f) ≡ f
    fraction None = refl
    fraction (Some ds) = refl

mantissa_of : (mantissa : List ℕ) → mantissa ≡ before is_point mantissa ++ fraction_text (behind is_point mantissa)
mantissa_of mantissa = from (behind is_point mantissa) refl
  where
    from : (f : Option (List ℕ)) → behind is_point mantissa ≡ f → mantissa ≡ before is_point mantissa ++ fraction_text f
    from None p = sym (append-nil (before is_point mantissa) ∙ before-whole is_point mantissa p)
    from (Some ds) p =
        let cut = cut_at is_point mantissa ds p in
        cut.2 ∙ ap (λ (k : ℕ). before is_point mantissa ++ (k ∷ ds)) (eqb-true cut.0 46 cut.1)

mantissa_number-fraction : (whole : List ℕ) (f : Option (List ℕ)) (e : ℤ) → mantissa_number whole f e ≡ decimal_number whole (fraction_digits f) e
mantissa_number-fraction whole None e = refl
mantissa_number-fraction whole (Some ds) e = refl

AllDigits-parts : (xs ys : List ℕ) → AllDigits 10 (xs ++ ys) → AllDigits 10 xs × AllDigits 10 ys
AllDigits-parts [] ys all = (tt, all)
AllDigits-parts (x ∷ xs) ys all = let rest = AllDigits-parts xs ys all.1 in ((all.0, rest.0), rest.1)

decimal_number-only : (whole fr : List ℕ) (e z : ℤ) → decimal_number whole fr e ≡ Some z →
    (0 < length (whole ++ fr)) × AllDigits 10 whole × AllDigits 10 fr
    × (scaled (length (whole ++ fr)) (digits_value 10 (whole ++ fr)) (e +ℤ neg_ℤ (pos (length fr))) ≡ Some z)
decimal_number-only whole fr e z h = from (are_some_digits 10 (whole ++ fr)) refl h
  where
    from : (b : Bool) → are_some_digits 10 (whole ++ fr) ≡ b →
        cond b (scaled (length (whole ++ fr)) (digits_value 10 (whole ++ fr)) (e +ℤ neg_ℤ (pos (length fr)))) None ≡ Some z →
        (0 < length (whole ++ fr)) × AllDigits 10 whole × AllDigits 10 fr
        × (scaled (length (whole ++ fr)) (digits_value 10 (whole ++ fr)) (e +ℤ neg_ℤ (pos (length fr))) ≡ Some z)
    from true p h =
        let some = are_some-parts 10 (whole ++ fr) p in
        let parts = AllDigits-parts whole fr some.1 in
        (some.0, parts.0, parts.1, h)
    from false p h = cc

-- ---- numerals

hexadecimal_shape : (text : List ℕ) → begins_hexadecimal text ≡ true →
    (letter : ℕ) × (digits : List ℕ) × ((letter ≡ 120) ⊎ (letter ≡ 88)) × (text ≡ 48 ∷ (letter ∷ digits))
hexadecimal_shape [] e = cc
hexadecimal_shape (a ∷ []) e = cc
hexadecimal_shape (a ∷ b ∷ cs) e =
    let parts = and_parts (nat_eq a 48) (nat_eq b 120 || nat_eq b 88) e in
    (b, cs, letter (or_cases (nat_eq b 120) (nat_eq b 88) parts.1), ap (λ (k : ℕ). k ∷ b ∷ cs) (eqb-true a 48 parts.0))
  where
    letter : (nat_eq b 120 ≡ true) ⊎ (nat_eq b 88 ≡ true) → (b ≡ 120) ⊎ (b ≡ 88)
    letter (inl p) = inl (eqb-true b 120 p)
    letter (inr p) = inr (eqb-true b 88 p)

begins-hexadecimal : (letter : ℕ) (digits : List ℕ) → (letter ≡ 120) ⊎ (letter ≡ 88) → begins_hexadecimal (48 ∷ (letter ∷ digits)) ≡ true
begins-hexadecimal letter digits (inl e) = rw e refl
begins-hexadecimal letter digits (inr e) = rw e refl

decimal_begins : (whole : List ℕ) (f : Option (List ℕ)) (e : Option Exponent) → IsWellFormed (decimal whole f e) →
    begins_hexadecimal (numeral_text (decimal whole f e)) ≡ false
decimal_begins whole f e formed = false_from_ne_true (begins_hexadecimal (numeral_text (decimal whole f e))) (λ h. other h)
  where
    other : begins_hexadecimal (numeral_text (decimal whole f e)) ≡ true → ⊥
    other h =
        let shape = hexadecimal_shape (numeral_text (decimal whole f e)) h in
        let same : decimal whole f e ≡ hexadecimal shape.0 shape.1 =
        hexadecimal_only shape.0 shape.1 shape.2 (decimal whole f e) formed shape.3 in
        cc

decimal_numeral-text : (whole : List ℕ) (f : Option (List ℕ)) (e : Option Exponent) (z : ℤ) → IsWellFormed (decimal whole f e) →
    HasValue (decimal whole f e) z → IsNum z → decimal_numeral (numeral_text (decimal whole f e)) ≡ Some z
decimal_numeral-text whole f e z (whole_all, fraction_all, some, exponent) value num =
    let mantissa = whole ++ fraction_text f in
    let tail = exponent_text e in
    let fr = fraction_digits f in
    let regrouped : whole ++ (fraction_text f ++ tail) ≡ mantissa ++ tail = sym (append_assoc whole (fraction_text f) tail) in
    let no_letter = NonePass-append is_exponent_letter whole (fraction_text f)
    (digits_do_not_pass is_exponent_letter digit_is_no_letter whole whole_all) (fraction_has_no_letter f fraction_all) in
    let cut = exponent_cut e exponent in
    let front : before is_exponent_letter (mantissa ++ tail) ≡ mantissa =
    before-append is_exponent_letter mantissa tail no_letter ∙ (ap (λ (l : List ℕ). mantissa ++ l) cut.0 ∙ append-nil mantissa) in
    let back : exponent_number (behind is_exponent_letter (mantissa ++ tail)) ≡ Some (exponent_value e) =
    ap exponent_number (behind-append is_exponent_letter mantissa tail no_letter) ∙ cut.1 in
    let parts = mantissa_cut whole f whole_all in
    let all = AllDigits-append 10 whole fr whole_all fraction_all in
    rw (regrouped, front, back, parts.0, parts.1)
    (mantissa_number-fraction whole f (exponent_value e)
    ∙ (cond-true (are_some_digits 10 (whole ++ fr)) (scaled (length (whole ++ fr)) (digits_value 10 (whole ++ fr)) (exponent_value e +ℤ neg_ℤ (pos (length fr)))) None
    (are_some-true 10 (whole ++ fr) some all)
    ∙ scaled-some (length (whole ++ fr)) (digits_value 10 (whole ++ fr)) (length fr) (exponent_value e) z
    (digits_value-lt 10 (whole ++ fr) all) value num))

numeral-text : (t : Numeral) (z : ℤ) → IsWellFormed t → HasValue t z → IsNum z → numeral (numeral_text t) ≡ Some z
numeral-text (hexadecimal letter digits) z formed value num =
    cond-true (begins_hexadecimal (48 ∷ (letter ∷ digits))) _ _ (begins-hexadecimal letter digits formed.0)
    ∙ (ap (option_and_then kept) (digits_number-some 16 digits formed.1 formed.2) ∙ (ap kept (sym value) ∙ kept-num z num))
numeral-text (decimal whole f e) z formed value num =
    cond-false (begins_hexadecimal (numeral_text (decimal whole f e))) _ _ (decimal_begins whole f e formed)
    ∙ decimal_numeral-text whole f e z formed value num

numeral-denotes : (text : List ℕ) (z : ℤ) → Denotes text z → IsNum z → numeral text ≡ Some z
numeral-denotes text z (t, formed, spelled, value) num = ap numeral (sym spelled) ∙ numeral-text t z formed value num

decimal-only : (text : List ℕ) (z : ℤ) → decimal_numeral text ≡ Some z → Denotes text z × IsNum z
decimal-only text z h =
    let mantissa = before is_exponent_letter text in
    let whole = before is_point mantissa in
    let f = behind is_point mantissa in
    let found = and_then_some (mantissa_number whole f) (exponent_number (behind is_exponent_letter text)) z h in
    let exponent = exponent_read text found.0 found.1 in
    let digits = decimal_number-only whole (fraction_digits f) found.0 z (sym (mantissa_number-fraction whole f found.0) ∙ found.2) in
    let value = scaled-only (length (whole ++ fraction_digits f)) (digits_value 10 (whole ++ fraction_digits f)) (length (fraction_digits f)) found.0 z digits.3 in
    let spelled : whole ++ (fraction_text f ++ exponent_text exponent.0) ≡ text =
    sym (append_assoc whole (fraction_text f) (exponent_text exponent.0))
    ∙ (ap (λ (l : List ℕ). l ++ exponent_text exponent.0) (sym (mantissa_of mantissa)) ∙ sym exponent.2) in (
      (
        decimal whole f exponent.0,
        (digits.1, digits.2, digits.0, exponent.1),
        spelled,
        rw exponent.3 value.0,
      ),
      value.1,
    )

numeral-only : (text : List ℕ) (z : ℤ) → numeral text ≡ Some z → Denotes text z × IsNum z
numeral-only text z h = from (begins_hexadecimal text) refl h
  where
    from : (b : Bool) → begins_hexadecimal text ≡ b →
        cond b (option_and_then kept (digits_number 16 (behind_two text))) (decimal_numeral text) ≡ Some z → Denotes text z × IsNum z
    from true p h =
        let shape = hexadecimal_shape text p in
        let found = and_then_some kept (digits_number 16 (behind_two text)) z h in
        let same : behind_two text ≡ shape.1 = ap behind_two shape.3 in
        let digits = digits_number-only 16 (behind_two text) found.0 found.1 in
        let some : 0 < length shape.1 = subst (λ (l : List ℕ). 0 < length l) same digits.0 in
        let all : AllDigits 16 shape.1 = subst (λ (l : List ℕ). AllDigits 16 l) same digits.1 in
        let value : found.0 ≡ pos (digits_value 16 shape.1) = digits.2 ∙ ap (λ (l : List ℕ). pos (digits_value 16 l)) same in
        let number = kept-only found.0 z found.2 in
        ((hexadecimal shape.0 shape.1, (shape.2, some, all), sym shape.3, sym number.0 ∙ value), number.1)
    from false p h = decimal-only text z h

-- ---- texts

unsigned_abs-signed : (s : Sign) (z : ℤ) → unsigned_abs (signed s z) ≡ unsigned_abs z
unsigned_abs-signed unsigned z = refl
unsigned_abs-signed plus z = refl
unsigned_abs-signed minus (pos zero) = refl
unsigned_abs-signed minus (pos (suc n)) = refl
unsigned_abs-signed minus (negsuc n) = refl

pub read-some : (text : List ℕ) (z : ℤ) → ReadsAs text z → IsNum z → read text ≡ Some z
read-some text z reads num =
    let word = word_of text z reads in
    let d = word.2 in
    let signed_num : IsNum (signed d.0 d.2) = rw d.5 at num in
    let size_num : IsNum d.2 = rw (unsigned_abs-signed d.0 d.2) at signed_num in
    ap (with_sign numeral) (trimmed-word text word.0 word.1 ∙ d.3)
    ∙ (with_sign-signed numeral d.0 d.1 d.2 (Denotes-no_sign d.1 d.2 d.4) (numeral-denotes d.1 d.2 d.4 size_num)
    ∙ ap (λ (n : ℤ). Some n) (sym d.5))

pub read-only : (text : List ℕ) (z : ℤ) → read text ≡ Some z → ReadsAs text z × IsNum z
read-only text z h =
    let found = with_sign-only numeral (trimmed text) z h in
    let number = numeral-only found.1 found.2 found.4 in
    let within = trimmed_within text in
    let signed_num : IsNum (signed found.0 found.2) = rw (unsigned_abs-signed found.0 found.2) number.1 in (
      (within.0, trimmed text, within.1, within.2, within.3, within.4, (found.0, found.1, found.2, found.3, number.0, found.5)),
      rw found.5 signed_num,
    )

-- what lua_value's `read` answers is what `read` gives
pub read-answer : (text : List ℕ) (r : Option ℤ) → ((z : ℤ) → (r ≡ Some z) ↔ (ReadsAs text z × IsNum z)) →
    ((r ≡ None) ↔ ((z : ℤ) → ReadsAs text z → ¬ IsNum z)) → r ≡ read text
read-answer text (Some z) some none = let reads = (some z).0 refl in sym (read-some text z reads.0 reads.1)
read-answer text None some none = from (read text) refl
  where
    from : (o : Option ℤ) → read text ≡ o → None ≡ o
    from None e = refl
    from (Some z) e = let reads = read-only text z e in absurd (none.0 refl z reads.0 reads.1)
