-- A text is read as at most one number.
use Rattle.std.proofs.Common.{◌≡◌, ◌≢◌, ℕ, zero, suc, ◌≤◌, ◌<◌, ◌⊎◌, inl, inr, ◌↔◌, ℤ, pos, negsuc, unsigned_abs, Bool, true, false, not, Option, Some, None, MatchOption, List, [], ◌∷◌, ◌++◌, length, arith, ap, refl, sym, ◌∙◌, subst, length-append}
use Rattle.std.proofs.lemmas.Bool.{false≢true}
use Rattle.std.proofs.lemmas.Grind.{common_steps}
use Rattle.std.proofs.lemmas.List.Elements.{All-nil, All-cons, All-head, All-tail, All-append}
use Rattle.std.specs.List.{AllPass}
use Rattle.std.specs.Char.{digit_value}
use Rattle.std.specs.Str.Parse.{AllDigits}
use Rattle.lua_value.specs.Num.{IsNum}
use Rattle.lua_value.specs.Sign.{Sign, sign_text, signed}
use Rattle.lua_value.specs.Sign.Sign.{unsigned, plus, minus}
use Rattle.lua_value.specs.Numeral.{Numeral, Exponent, fraction_digits, fraction_text, exponent_text, numeral_text, IsOptionalExponent, IsWellFormed, Denotes}
use Rattle.lua_value.specs.Numeral.Numeral.{hexadecimal, decimal}
use Rattle.lua_value.specs.NumberText.{is_blank, is_no_blank, DenotesSigned, ReadsAs}
use Rattle.lua_value.specs.Place.{FailsAtFirst, HasNoSign, IsWordOf}
use Rattle.lua_value.proofs.Reading.{digits_have_no_sign, signs_unique, apart_signs}
use Rattle.lua_value.proofs.NumeralLaws.{Denotes-unique}

-- ---- two parts, by a test

module _ (test : ℕ → Bool) where
  -- what passes the test ends at the first byte that fails it
  pub fronts_unique : (xs ys r s : List ℕ) → AllPass test xs → AllPass test ys → FailsAtFirst test r → FailsAtFirst test s →
      xs ++ r ≡ ys ++ s → (xs ≡ ys) × (r ≡ s)
  fronts_unique [] [] r s p q m n e = (refl, e)
  fronts_unique [] (y ∷ ys) r s p q m n e = absurd (false≢true (sym (rw e at m) ∙ All-head (λ c. test c ≡ true) y ys q))
  fronts_unique (x ∷ xs) [] r s p q m n e = absurd (false≢true (sym (rw (← e) at n) ∙ All-head (λ c. test c ≡ true) x xs p))
  fronts_unique (x ∷ xs) (y ∷ ys) r s p q m n e =
      let first : x ≡ y = cc in
      let behind : xs ++ r ≡ ys ++ s = cc in
      let rest = fronts_unique xs ys r s (All-tail (λ c. test c ≡ true) x xs p) (All-tail (λ c. test c ≡ true) y ys q) m n behind in
      (rw (first, rest.0) refl, rest.1)

  -- where all bytes pass, nothing stands behind those that pass
  pub nothing_behind : (xs r : List ℕ) → AllPass test (xs ++ r) → FailsAtFirst test r → r ≡ []
  nothing_behind [] [] p m = refl
  nothing_behind [] (c ∷ cs) p m = absurd (false≢true (sym m ∙ All-head (λ c. test c ≡ true) c cs p))
  nothing_behind (x ∷ xs) r p m = nothing_behind xs r (All-tail (λ c. test c ≡ true) x (xs ++ r) p) m

-- ---- a numeral has no blank, and begins with no sign

digit_is_no_blank : (c : ℕ) → digit_value c < 36 → is_no_blank c ≡ true
digit_is_no_blank c h = grind (arith, common_steps)

digits_have_no_blank : (base : ℕ) (ds : List ℕ) → base ≤ 36 → AllDigits base ds → AllPass is_no_blank ds
digits_have_no_blank base [] h all = All-nil (λ c. is_no_blank c ≡ true)
digits_have_no_blank base (c ∷ cs) h all =
    All-cons (λ c. is_no_blank c ≡ true) c cs (digit_is_no_blank c (omega (arith, all.0))) (digits_have_no_blank base cs h all.1)

letter_is_no_blank : (c d e : ℕ) → is_no_blank d ≡ true → is_no_blank e ≡ true → (c ≡ d) ⊎ (c ≡ e) → is_no_blank c ≡ true
letter_is_no_blank c d e p q (inl h) = rw h p
letter_is_no_blank c d e p q (inr h) = rw h q

sign_has_no_blank : (s : Sign) → AllPass is_no_blank (sign_text s)
sign_has_no_blank unsigned = All-nil (λ c. is_no_blank c ≡ true)
sign_has_no_blank plus = All-cons (λ c. is_no_blank c ≡ true) 43 [] refl (All-nil (λ c. is_no_blank c ≡ true))
sign_has_no_blank minus = All-cons (λ c. is_no_blank c ≡ true) 45 [] refl (All-nil (λ c. is_no_blank c ≡ true))

fraction_has_no_blank : (f : Option (List ℕ)) → AllDigits 10 (fraction_digits f) → AllPass is_no_blank (fraction_text f)
fraction_has_no_blank None all = All-nil (λ c. is_no_blank c ≡ true)
fraction_has_no_blank (Some ds) all = All-cons (λ c. is_no_blank c ≡ true) 46 ds refl (digits_have_no_blank 10 ds (omega arith) all)

exponent_has_no_blank : (e : Option Exponent) → IsOptionalExponent e → AllPass is_no_blank (exponent_text e)
exponent_has_no_blank None h = All-nil (λ c. is_no_blank c ≡ true)
exponent_has_no_blank (Some e) h =
    All-cons (λ c. is_no_blank c ≡ true) e.letter (sign_text e.sign ++ e.digits) (letter_is_no_blank e.letter 101 69 refl refl h.0)
    (All-append (λ c. is_no_blank c ≡ true) (sign_text e.sign) e.digits (sign_has_no_blank e.sign) (digits_have_no_blank 10 e.digits (omega arith) h.2))

numeral_has_no_blank : (t : Numeral) → IsWellFormed t → AllPass is_no_blank (numeral_text t)
numeral_has_no_blank (hexadecimal letter digits) h =
    All-cons (λ c. is_no_blank c ≡ true) 48 (letter ∷ digits) refl
    (All-cons (λ c. is_no_blank c ≡ true) letter digits (letter_is_no_blank letter 120 88 refl refl h.0) (digits_have_no_blank 16 digits (omega arith) h.2))
numeral_has_no_blank (decimal whole f e) h =
    All-append (λ c. is_no_blank c ≡ true) whole (fraction_text f ++ exponent_text e) (digits_have_no_blank 10 whole (omega arith) h.0)
    (All-append (λ c. is_no_blank c ≡ true) (fraction_text f) (exponent_text e) (fraction_has_no_blank f h.1) (exponent_has_no_blank e h.3))

-- the first byte of a numeral is a digit or a point
begins : (t : Numeral) → IsWellFormed t → (c : ℕ) × (cs : List ℕ) × (numeral_text t ≡ c ∷ cs) × (c ≢ 43) × (c ≢ 45)
begins (hexadecimal letter digits) h = (48, letter ∷ digits, refl, λ k. omega arith, λ k. omega arith)
begins (decimal [] None e) h = absurd (omega (arith, h.2))
begins (decimal [] (Some ds) e) h = (46, ds ++ exponent_text e, refl, λ k. omega arith, λ k. omega arith)
begins (decimal (c ∷ whole) f e) h =
    let sign = digits_have_no_sign (c ∷ whole) h.0 c whole refl in
    (c, whole ++ (fraction_text f ++ exponent_text e), refl, sign.0, sign.1)

pub Denotes-no_sign : (text : List ℕ) (z : ℤ) → Denotes text z → HasNoSign text
Denotes-no_sign text z (t, formed, spelled, value) c cs e =
    let first = begins t formed in
    let same : first.0 ≡ c = same_first (sym first.2 ∙ spelled ∙ e) in
    (rw same at first.3, rw same at first.4)
  where
    same_first : {a b : ℕ} {xs ys : List ℕ} → a ∷ xs ≡ b ∷ ys → a ≡ b
    same_first h = cc

-- ---- signs

pub sign_only : (s t : Sign) (xs ys : List ℕ) → (s ≡ unsigned → HasNoSign xs) → HasNoSign ys → sign_text s ++ xs ≡ sign_text t ++ ys → (s ≡ t) × (xs ≡ ys)
sign_only unsigned t xs ys p q e = signs_unique unsigned t xs ys (p refl) q e
sign_only plus unsigned xs ys p q e = absurd ((q 43 xs (sym e)).0 refl)
sign_only plus plus xs ys p q e = (refl, cc)
sign_only plus minus xs ys p q e = absurd (apart_signs cc)
sign_only minus unsigned xs ys p q e = absurd ((q 45 xs (sym e)).1 refl)
sign_only minus plus xs ys p q e = absurd (apart_signs cc)
sign_only minus minus xs ys p q e = (refl, cc)

unsigned_abs-signed : (s : Sign) (z : ℤ) → unsigned_abs (signed s z) ≡ unsigned_abs z
unsigned_abs-signed unsigned z = refl
unsigned_abs-signed plus z = refl
unsigned_abs-signed minus (pos zero) = refl
unsigned_abs-signed minus (pos (suc n)) = refl
unsigned_abs-signed minus (negsuc n) = refl

-- what a word denotes, once its sign is cut off
module _ (word xs : List ℕ) (s : Sign) (parts : word ≡ sign_text s ++ xs) (whole : s ≡ unsigned → HasNoSign xs) where
  pub signed-num : (z : ℤ) → Denotes xs z → IsNum z → DenotesSigned word (signed s z) × IsNum (signed s z)
  signed-num z value num = ((s, xs, z, parts, value, refl), rw unsigned_abs-signed num)

  pub signed-none : (n : ℤ) → DenotesSigned word n → IsNum n → (z : ℤ) × Denotes xs z × IsNum z
  signed-none n (t, ys, z, word_is, value, is) num =
      let same = sign_only s t xs ys whole (Denotes-no_sign ys z value) (sym parts ∙ word_is) in
      let signed_num : IsNum (signed t z) = rw is at num in
      (z, rw (← same.1) at value, rw (unsigned_abs-signed t z) at signed_num)

pub DenotesSigned-unique : (word : List ℕ) (m n : ℤ) → DenotesSigned word m → DenotesSigned word n → m ≡ n
DenotesSigned-unique word m n (s, xs, y, xs_is, xs_value, m_is) (t, ys, z, ys_is, ys_value, n_is) =
    let same = sign_only s t xs ys (λ _. Denotes-no_sign xs y xs_value) (Denotes-no_sign ys z ys_value) (sym xs_is ∙ ys_is) in
    let sizes : y ≡ z = Denotes-unique ys y z (rw same.1 at xs_value) ys_value in
    m_is ∙ rw (same.0, sizes) refl ∙ sym n_is

-- ---- words

blank_ends_word : (xs : List ℕ) → AllPass is_blank xs → FailsAtFirst is_no_blank xs
blank_ends_word [] h = tt
blank_ends_word (c ∷ cs) h = ap not (All-head (λ x. is_blank x ≡ true) c cs h)

word_ends_blanks : (xs ys : List ℕ) → AllPass is_no_blank xs → 0 < length xs → FailsAtFirst is_blank (xs ++ ys)
word_ends_blanks [] ys h some = absurd (omega arith)
word_ends_blanks (c ∷ cs) ys h some = not_true (is_blank c) (All-head (λ x. is_no_blank x ≡ true) c cs h)
  where
    not_true : (b : Bool) → not b ≡ true → b ≡ false
    not_true true e = absurd (false≢true e)
    not_true false e = refl

word_unique : (text v w : List ℕ) → IsWordOf text v → IsWordOf text w → v ≡ w
word_unique text v w (b, a, b_blank, a_blank, v_word, v_first, v_is) (d, c, d_blank, c_blank, w_word, w_first, w_is) =
    let cut = fronts_unique is_blank b d (v ++ a) (w ++ c) b_blank d_blank v_first w_first (sym v_is ∙ w_is) in
    (fronts_unique is_no_blank v w a c v_word w_word (blank_ends_word a a_blank) (blank_ends_word c c_blank) cut.1).0

-- nothing stands behind a word and the blanks that follow it
pub word_is_last : (text blanks rest word behind more last w : List ℕ) → AllPass is_blank blanks → FailsAtFirst is_blank rest →
    text ≡ blanks ++ rest → AllPass is_no_blank word → FailsAtFirst is_no_blank behind → rest ≡ word ++ behind →
    FailsAtFirst is_blank last → behind ≡ more ++ last → IsWordOf text w → last ≡ []
word_is_last text blanks rest word behind more last w p m e q n f k g (b, a, b_blank, a_blank, w_word, w_first, w_is) =
    let cut = fronts_unique is_blank b blanks (w ++ a) rest b_blank p w_first m (sym w_is ∙ e) in
    let after = fronts_unique is_no_blank w word a behind w_word q (blank_ends_word a a_blank) n (cut.1 ∙ f) in
    nothing_behind is_blank more last (subst (λ l. AllPass is_blank l) (after.1 ∙ g) a_blank) k

-- a text that is read as a number has a word that denotes it
pub word_of : (text : List ℕ) (n : ℤ) → ReadsAs text n → (w : List ℕ) × IsWordOf text w × DenotesSigned w n
word_of text n (before, word, after, before_blank, after_blank, text_is, (s, numeral, z, word_is, (t, formed, spelled, value), n_is)) =
    let no_blank : AllPass is_no_blank word =
    subst (λ l. AllPass is_no_blank l) (sym (word_is ∙ ap (λ x. sign_text s ++ x) (sym spelled)))
    (All-append (λ c. is_no_blank c ≡ true) (sign_text s) (numeral_text t) (sign_has_no_blank s) (numeral_has_no_blank t formed)) in
    let first = begins t formed in
    let some : 0 < length word =
    omega (arith, ap length word_is, length-append (sign_text s) numeral, ap length (sym spelled ∙ first.2)) in (
      word,
      (before, after, before_blank, after_blank, no_blank, word_ends_blanks word after no_blank some, text_is),
      (s, numeral, z, word_is, (t, formed, spelled, value), n_is),
    )

pub ReadsAs-unique : (text : List ℕ) (m n : ℤ) → ReadsAs text m → ReadsAs text n → m ≡ n
ReadsAs-unique text m n p q =
    let v = word_of text m p in
    let w = word_of text n q in
    let same : v.0 ≡ w.0 = word_unique text v.0 w.0 v.1 w.1 in
    DenotesSigned-unique w.0 m n (rw same at v.2) w.2

-- the answer for a text, from the answer for its word
pub read_word : (text w : List ℕ) (r : Option ℤ) → IsWordOf text w →
    MatchOption r ((n : ℤ) → DenotesSigned w n → ¬ IsNum n) (λ n. DenotesSigned w n × IsNum n) →
    MatchOption r ((n : ℤ) → ReadsAs text n → ¬ IsNum n) (λ n. ReadsAs text n × IsNum n)
read_word text w None h answer = λ n reads num.
    let v = word_of text n reads in
    let same : v.0 ≡ w = word_unique text v.0 w v.1 h in
    answer n (rw same at v.2) num
read_word text w (Some n) (before, after, before_blank, after_blank, word, first, text_is) answer =
    ((before, w, after, before_blank, after_blank, text_is, answer.0), answer.1)

pub read_some : (text : List ℕ) (r : Option ℤ) → MatchOption r ((n : ℤ) → ReadsAs text n → ¬ IsNum n) (λ n. ReadsAs text n × IsNum n) →
    (z : ℤ) → (r ≡ Some z) ↔ (ReadsAs text z × IsNum z)
read_some text None h z = (λ e. cc, λ d. absurd (h z d.0 d.1))
read_some text (Some y) h z = (λ e. let same : y ≡ z = cc in rw (← same) h, λ d. ap (λ v. Some v) (ReadsAs-unique text y z h.0 d.0))

pub read_none : (text : List ℕ) (r : Option ℤ) → MatchOption r ((n : ℤ) → ReadsAs text n → ¬ IsNum n) (λ n. ReadsAs text n × IsNum n) →
    (r ≡ None) ↔ ((z : ℤ) → ReadsAs text z → ¬ IsNum z)
read_none text None h = (λ _. h, λ _. refl)
read_none text (Some y) h = (λ e. cc, λ none. absurd (none y h.0 h.1))
