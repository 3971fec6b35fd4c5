-- How a text is taken apart from left to right: what may follow the parts of a numeral, where its
-- point comes to stand, and which word stands between blanks.
use Rattle.std.specs.Prelude.{◌≡◌, ◌≢◌, ℕ, ℤ, ◌+◌, ◌-◌, ◌^◌, ◌<◌, min, Bool, false, List, [], ◌∷◌, ◌++◌, Option, None, ⊤}
use Rattle.std.specs.Char.{digit_value}
use Rattle.std.specs.List.{AllPass}
use Rattle.lua_value.specs.NumberText.{is_blank, is_no_blank}
use Rattle.lua_value.specs.Numeral.{raising, lowering}

-- the text doesn't begin with a decimal digit
abbrev pub BeginsWithNoDigit : List ℕ → Type 0
BeginsWithNoDigit [] = ⊤
BeginsWithNoDigit (c ∷ cs) = ¬ (digit_value c < 10)

-- the text doesn't begin with this byte
abbrev pub BeginsWithout : ℕ → List ℕ → Type 0
BeginsWithout b [] = ⊤
BeginsWithout b (c ∷ cs) = c ≢ b

-- the text may follow a whole mantissa: no digit begins it, and no point where none stands before
-- it
abbrev pub EndsMantissa : Option (List ℕ) → List ℕ → Type 0
EndsMantissa fraction text = BeginsWithNoDigit text × (fraction ≡ None → BeginsWithout 46 text)

-- the text doesn't begin with a sign
abbrev pub HasNoSign : List ℕ → Type 0
HasNoSign text = (c : ℕ) (cs : List ℕ) → text ≡ c ∷ cs → (c ≢ 43) × (c ≢ 45)

-- the text is empty, or its first byte fails the test
abbrev pub FailsAtFirst : (ℕ → Bool) → List ℕ → Type 0
FailsAtFirst test [] = ⊤
FailsAtFirst test (c ∷ cs) = test c ≡ false

-- the word has no blank, and stands in the text with nothing but blanks around it
abbrev pub IsWordOf : List ℕ → List ℕ → Type 0
IsWordOf text word =
    (before : List ℕ) × (after : List ℕ) × AllPass is_blank before × AllPass is_blank after
    × AllPass is_no_blank word × FailsAtFirst is_blank (word ++ after)
    × (text ≡ before ++ (word ++ after))

-- how many digits stand before the point once the exponent e has moved it, behind as many before it
-- was moved: none where it moves past the first one, and never more than the greatest word
abbrev pub moved_point : ℕ → ℤ → ℕ
moved_point whole e = min (whole + raising e - lowering e) (2 ^ 64 - 1)
