-- What is known of a text from what begins at its front.
use Rattle.std.proofs.Common.{◌≡◌, ℕ, ◌+◌, ◌<◌, ◌≤◌, Bool, true, false, cond, List, [], ◌∷◌, length, Option, Some, None, refl, sym, subst, arith}
use Rattle.std.specs.Prelude.{◌||◌, ◌&&◌, ◌==◌}
use Rattle.std.specs.List.{prefix_len}
use Rattle.std.specs.Char.{is_ascii_digit}
use Rattle.lua_value.specs.NumberText.{is_blank}
use Rattle.lua_token.specs.Bytes.{is_letter, is_of, first_is}
use Rattle.lua_token.specs.Run.{starts_number, number_length}
use Rattle.lua_token.specs.Long.{level}
use Rattle.lua_token.specs.Place.{begins, long_or_symbol}
use Rattle.lua_token.specs.declared.bytes.Class.TheVariants.{InName, DigitOrDot}
use Rattle.lua_token.specs.declared.start.Start.{Start}
use Rattle.lua_token.specs.declared.start.Start.TheVariants as starts

chain : Bool → Bool → Bool → Bool → Bool → Option ℕ → Start
chain blank letter number quote dashes n =
    cond blank starts.Blank (cond letter starts.Word (cond number starts.Digits (cond quote starts.Quote (cond dashes starts.Comment (long_or_symbol n)))))

-- which tests failed, and which one passed
abbrev pub Told : Start → Bool → Bool → Bool → Bool → Option ℕ → Type 0
Told starts.Nothing letter number quote dashes n = ⊥
Told starts.Blank letter number quote dashes n = Unit {0}
Told starts.Word letter number quote dashes n = letter ≡ true
Told starts.Digits letter number quote dashes n = (letter ≡ false) × (number ≡ true)
Told starts.Quote letter number quote dashes n = (letter ≡ false) × (number ≡ false) × (quote ≡ true)
Told starts.Comment letter number quote dashes n = (letter ≡ false) × (number ≡ false) × (quote ≡ false) × (dashes ≡ true)
Told (starts.Long k) letter number quote dashes n = (letter ≡ false) × (number ≡ false) × (quote ≡ false) × (dashes ≡ false) × (n ≡ Some k)
Told starts.Symbol letter number quote dashes n = (letter ≡ false) × (number ≡ false) × (quote ≡ false) × (dashes ≡ false) × (n ≡ None)

told : (b l d q c : Bool) (n : Option ℕ) → Told (chain b l d q c n) l d q c n
unfolding chain
told true l d q c n = tt
told false true d q c n = refl
told false false true q c n = (refl, refl)
told false false false true c n = (refl, refl, refl)
told false false false false true n = (refl, refl, refl, refl)
told false false false false false (Some k) = (refl, refl, refl, refl, refl)
told false false false false false None = (refl, refl, refl, refl, refl)

abbrev pub is_quote : ℕ → Bool
is_quote b = b == 34 || b == 39

-- what begins at the front, by the tests
abbrev pub Tells : List ℕ → Start → Type 0
Tells [] x = x ≡ starts.Nothing
Tells (b ∷ text) x = Told x (is_letter b) (starts_number (b ∷ text)) (is_quote b) (b == 45 && first_is (λ c. c == 45) text) (level 91 (b ∷ text))

pub tells : (text : List ℕ) (x : Start) → begins text ≡ x → Tells text x
unfolding begins chain
tells [] x e = sym e
tells (b ∷ text) x e = subst (Tells (b ∷ text)) e (told (is_blank b) (is_letter b) (starts_number (b ∷ text)) (is_quote b) (b == 45 && first_is (λ c. c == 45) text) (level 91 (b ∷ text)))

passes_first : (p q : Bool) (m : ℕ) → p ≡ true → 0 < cond (p || q) (1 + m) 0
passes_first true q m e = omega arith
passes_first false q m e = absurd cc

pub word_is_some : (text : List ℕ) → begins text ≡ starts.Word → 0 < prefix_len (is_of InName) text
word_is_some [] e = absurd (let h = tells [] starts.Word e in cc)
word_is_some (b ∷ text) e = passes_first (is_letter b) (is_ascii_digit b) (prefix_len (is_of InName) text) (tells (b ∷ text) starts.Word e)

digit_or_dot : (p q r : Bool) (m : ℕ) → (p || (q && r)) ≡ true → 0 < cond (p || q) (1 + m) 0
digit_or_dot true q r m e = omega arith
digit_or_dot false true r m e = omega arith
digit_or_dot false false r m e = absurd cc

pub number_is_some : (text : List ℕ) → begins text ≡ starts.Digits → 0 < number_length text
unfolding number_length
number_is_some [] e = absurd (let h = tells [] starts.Digits e in cc)
number_is_some (b ∷ text) e =
    let h = digit_or_dot (is_ascii_digit b) (b == 46) (first_is is_ascii_digit text) (prefix_len (is_of DigitOrDot) text) (tells (b ∷ text) starts.Digits e).1 in
    omega (arith, h)

both : (p q : Bool) → (p && q) ≡ true → q ≡ true
both true q e = e
both false q e = absurd cc

dash_follows : (text : List ℕ) → first_is (λ c. c == 45) text ≡ true → 1 ≤ length text
dash_follows [] e = absurd cc
dash_follows (b ∷ text) e = omega arith

pub comment_is_two : (text : List ℕ) → begins text ≡ starts.Comment → 2 ≤ length text
comment_is_two [] e = absurd (let h = tells [] starts.Comment e in cc)
comment_is_two (b ∷ text) e = let h = dash_follows text (both (b == 45) _ (tells (b ∷ text) starts.Comment e).3) in omega (arith, h)

pub is_something : (text : List ℕ) → begins text ≡ starts.Nothing → 0 < length text → ⊥
is_something [] e some = absurd (omega (arith, some))
is_something (b ∷ text) e some = tells (b ∷ text) starts.Nothing e
