-- Newlines in parts of a text.
use Rattle.std.proofs.Common.{◌≡◌, ℕ, ◌+◌, ◌≤◌, Bool, true, false, cond, List, [], ◌∷◌, length, take, drop, get_or, Some, None, refl, sym, ap, ◌∙◌, subst, arith}
use Rattle.std.specs.Prelude.{◌==◌, ◌||◌, ◌&&◌}
use Rattle.std.specs.List.{AllByRecursion, prefix_len}
use Rattle.std.proofs.lemmas.Bool.{eqb-true}
use Rattle.std.proofs.lemmas.Bool.Decides.{nat_tests}
use Rattle.std.proofs.lemmas.List.{drop-drop, length-take}
use Rattle.std.proofs.lemmas.List.Sums.{sum_by-append, sum_by-cons, count_by-le-length}
use Rattle.std.proofs.Math.Seq.{take-add}
use Rattle.lua_token.specs.Bytes.{is_of, first_is, newlines}
use Rattle.lua_token.specs.Run.{mark_length, number_length}
use Rattle.lua_token.specs.Long.{level}
use Rattle.lua_token.specs.Quoted.{character_at}
use Rattle.lua_token.specs.Place.{begins}
use Rattle.lua_token.specs.declared.bytes.Class.{Class}
use Rattle.lua_token.specs.declared.bytes.Class.TheVariants.{InName, Digit, DigitOrDot, Equals, InLine}
use Rattle.lua_token.specs.declared.quoted.Character.TheVariants.{Closing}
use Rattle.lua_token.specs.declared.start.Start.TheVariants as starts
use Rattle.lua_token.proofs.BeginsLemmas.{tells}
use Rattle.lua_token.proofs.Fronts.{all_front}

-- ---- parts

-- the newlines of two parts
pub newlines_add : (a b : ℕ) (text : List ℕ) → newlines (take (a + b) text) ≡ newlines (take a text) + newlines (take b (drop a text))
newlines_add a b text = ap newlines (take-add a b text) ∙ sum_by-append (λ (b : ℕ). cond (b == 10) 1 0) (take a text) (take b (drop a text))

-- there are no more of them than bytes
pub newlines_bound : (n : ℕ) (text : List ℕ) → newlines (take n text) ≤ n
newlines_bound n text = omega (arith, count_by-le-length (λ (b : ℕ). b == 10) (take n text), length-take n text)

-- a part that has none, and what follows it
pub behind_none : (a b : ℕ) (text : List ℕ) → newlines (take a text) ≡ 0 → newlines (take (a + b) text) ≡ newlines (take b (drop a text))
behind_none a b text none = omega (arith, newlines_add a b text, none)

-- what is behind it has none
pub before_none : (a b : ℕ) (text : List ℕ) → newlines (take b (drop a text)) ≡ 0 → newlines (take (a + b) text) ≡ newlines (take a text)
before_none a b text none = omega (arith, newlines_add a b text, none)

-- ---- single bytes

one_newline : (b : ℕ) (text : List ℕ) → newlines (take 1 (b ∷ text)) ≡ cond (b == 10) 1 0
one_newline b text = sum_by-cons (λ (b : ℕ). cond (b == 10) 1 0) b [] ∙ (omega arith)

-- the first byte is no newline
pub first_none : (text : List ℕ) → (get_or text 0 0 == 10) ≡ false → newlines (take 1 text) ≡ 0
first_none [] differs = refl
first_none (b ∷ text) differs = one_newline b text ∙ ap (λ (t : Bool). cond t 1 0) differs

-- ---- runs

-- bytes none of which is a newline
none_in : (p : ℕ → Bool) → p 10 ≡ false → (text : List ℕ) → AllByRecursion (λ b. p b ≡ true) text → newlines text ≡ 0
none_in p differs [] all = refl
none_in p differs (b ∷ text) all = sum_by-cons (λ (b : ℕ). cond (b == 10) 1 0) b text ∙ from (b == 10) refl (none_in p differs text all.1)
  where
    from : (t : Bool) → (b == 10) ≡ t → newlines text ≡ 0 → cond t 1 0 + newlines text ≡ 0
    from true e others = absurd (let h : p 10 ≡ true = subst (λ (c : ℕ). p c ≡ true) (eqb-true b 10 e) all.0 in let k : true ≡ false = sym h ∙ differs in cc)
    from false e others = omega (arith, others)

no_class : (class : Class) → is_of class 10 ≡ false
no_class InName = refl
no_class Digit = refl
no_class DigitOrDot = refl
no_class Equals = refl
no_class InLine = refl

-- a run of one class has none
pub run_in_line : (class : Class) (text : List ℕ) → newlines (take (prefix_len (is_of class) text) text) ≡ 0
run_in_line class text = none_in (is_of class) (no_class class) (take (prefix_len (is_of class) text) text) (all_front (is_of class) text)

no_letter : (b : ℕ) → (b == 101 || b == 69) ≡ true → (b == 10) ≡ false
no_letter b e = grind (arith, nat_tests)

no_sign : (b : ℕ) → (b == 43 || b == 45) ≡ true → (b == 10) ≡ false
no_sign b e = grind (arith, nat_tests)

first_of : (p : ℕ → Bool) (text : List ℕ) → ((b : ℕ) → p b ≡ true → (b == 10) ≡ false) → first_is p text ≡ true → newlines (take 1 text) ≡ 0
first_of p [] differs e = refl
first_of p (b ∷ text) differs e = first_none (b ∷ text) (differs b e)

mark_in_line : (text : List ℕ) → newlines (take (mark_length text) text) ≡ 0
unfolding mark_length
mark_in_line [] = refl
mark_in_line (b ∷ text) = from (b == 101 || b == 69) (first_is (λ c. c == 43 || c == 45) text) refl refl
  where
    from : (p q : Bool) → (b == 101 || b == 69) ≡ p → first_is (λ c. c == 43 || c == 45) text ≡ q → newlines (take (cond p (cond q 2 1) 0) (b ∷ text)) ≡ 0
    from false q e f = refl
    from true false e f = first_none (b ∷ text) (no_letter b e)
    from true true e f = behind_none 1 1 (b ∷ text) (first_none (b ∷ text) (no_letter b e)) ∙ first_of (λ c. c == 43 || c == 45) text no_sign f

-- a number's run has none
pub number_in_line : (text : List ℕ) → newlines (take (number_length text) text) ≡ 0
unfolding number_length
number_in_line text =
    let digits = prefix_len (is_of DigitOrDot) text in
    let mark = mark_length (drop digits text) in
    let head = behind_none digits mark text (run_in_line DigitOrDot text) ∙ mark_in_line (drop digits text) in
    behind_none (digits + mark) (prefix_len (is_of InName) (drop (digits + mark) text)) text head ∙ run_in_line InName (drop (digits + mark) text)

-- ---- long brackets

opened : (p q : Bool) (m n : ℕ) → cond (p && q) (Some m) None ≡ Some n → (p ≡ true) × (q ≡ true) × (m ≡ n)
opened true true m n e = (refl, refl, cc)
opened true false m n e = absurd cc
opened false q m n e = absurd cc

equal_none : (bracket : ℕ) → (bracket == 10) ≡ false → (b : ℕ) → (b == bracket) ≡ true → (b == 10) ≡ false
equal_none bracket differs b e = rw (eqb-true b bracket e) differs

-- a long bracket has none
bracket_in_line : (bracket n : ℕ) (text : List ℕ) → (bracket == 10) ≡ false → level bracket text ≡ Some n → newlines (take (n + 2) text) ≡ 0
unfolding level
bracket_in_line bracket n [] differs e = absurd cc
bracket_in_line bracket n (b ∷ text) differs e =
    let k = prefix_len (is_of Equals) text in
    let parts = opened (b == bracket) (first_is (λ c. c == bracket) (drop k text)) k n e in
    let inner : newlines (take (k + 1) text) ≡ 0 = behind_none k 1 text (run_in_line Equals text) ∙ first_of (λ c. c == bracket) (drop k text) (equal_none bracket differs) parts.1 in
    let all : newlines (take (1 + (k + 1)) (b ∷ text)) ≡ 0 = behind_none 1 (k + 1) (b ∷ text) (first_none (b ∷ text) (equal_none bracket differs b parts.0)) ∙ inner in
    let size : 1 + (k + 1) ≡ n + 2 = omega (arith, parts.2) in
    subst (λ (m : ℕ). newlines (take m (b ∷ text)) ≡ 0) size all

-- a long string has those of its body
pub long_newlines : (n m : ℕ) (text : List ℕ) → level 91 text ≡ Some n → level 93 (drop m (drop (n + 2) text)) ≡ Some n
    → newlines (take (n + 2 + m + (n + 2)) text) ≡ newlines (take m (drop (n + 2) text))
long_newlines n m text opens closes =
    let close : newlines (take (n + 2) (drop (n + 2 + m) text)) ≡ 0 = subst (λ (rest : List ℕ). newlines (take (n + 2) rest) ≡ 0) (drop-drop m (n + 2) text) (bracket_in_line 93 n (drop m (drop (n + 2) text)) refl closes) in
    before_none (n + 2 + m) (n + 2) text close ∙ behind_none (n + 2) m text (bracket_in_line 91 n text refl opens)

-- ---- what begins at a place

-- the dashes of a comment
pub dashes_in_line : (text : List ℕ) → begins text ≡ starts.Comment → newlines (take 2 text) ≡ 0
dashes_in_line [] e = refl
dashes_in_line (b ∷ text) e =
    let dashes = both (b == 45) (first_is (λ c. c == 45) text) (tells (b ∷ text) starts.Comment e).3 in
    behind_none 1 1 (b ∷ text) (first_none (b ∷ text) (equal_none 45 refl b dashes.0)) ∙ first_of (λ c. c == 45) text (equal_none 45 refl) dashes.1
  where
    both : (p q : Bool) → (p && q) ≡ true → (p ≡ true) × (q ≡ true)
    both true true e = (refl, refl)
    both true false e = absurd cc
    both false q e = absurd cc

-- the bracket of a long string
pub long_opens : (text : List ℕ) (n : ℕ) → begins text ≡ starts.Long n → level 91 text ≡ Some n
long_opens [] n e = absurd (let h = tells [] (starts.Long n) e in cc)
long_opens (b ∷ text) n e = (tells (b ∷ text) (starts.Long n) e).4

no_quote : (b : ℕ) → (b == 34 || b == 39) ≡ true → (b == 10) ≡ false
no_quote b e = grind (arith, nat_tests)

-- the quote of a quoted string
pub quote_is_none : (text : List ℕ) → begins text ≡ starts.Quote → (get_or text 0 0 == 10) ≡ false
quote_is_none [] e = refl
quote_is_none (b ∷ text) e = no_quote b (tells (b ∷ text) starts.Quote e).2

-- the quote that closes it
pub closing_in_line : (quote : ℕ) (text : List ℕ) → (quote == 10) ≡ false → character_at quote text ≡ Closing → newlines (take 1 text) ≡ 0
unfolding character_at
closing_in_line quote [] differs e = refl
closing_in_line quote (b ∷ text) differs e = first_none (b ∷ text) (from (b == 10) refl)
  where
    from : (t : Bool) → (b == 10) ≡ t → (b == 10) ≡ false
    from false is = is
    from true is = absurd (let same = eqb-true b 10 is in let h = subst (λ (c : ℕ). character_at quote (c ∷ text) ≡ Closing) same e in let swapped : (10 == quote) ≡ false = grind (arith, nat_tests, differs) in cc)
