-- The spellings of tokens, each in front of what follows it, and the longest one at a place (Lua
-- 5.1 manual §2.1).
use Rattle.std.specs.Prelude.{◌≡◌, ◌≢◌, ℕ, ◌≤◌, true, List, ◌∷◌, ◌++◌, length, Some, ◌==◌, ◌||◌, ◌⊎◌}
use Rattle.std.specs.List.{AllByRecursion}
use Rattle.lua_value.specs.Num.{IsNum}
use Rattle.lua_value.specs.Numeral.{Denotes}
use Rattle.lua_token.specs.Bytes.{is_letter, is_name_byte, first_is}
use Rattle.lua_token.specs.Spelling.{spelling, keywords}
use Rattle.lua_token.specs.Long.{level, LongAt}
use Rattle.lua_token.specs.Quoted.{Characters}
use Rattle.lua_token.specs.declared.kind.Kind.{Kind}
use Rattle.lua_token.specs.declared.kind.Kind.TheVariants.{Name, Number, Str}

-- letters, digits and underscores, the first no digit
abbrev pub IsWord : List ℕ → Type 0
IsWord text = (first_is is_letter text ≡ true) × AllByRecursion (λ b. is_name_byte b ≡ true) text

-- a quote, characters, and that quote again
abbrev pub IsQuoted : List ℕ → List ℕ → Type 0
IsQuoted text after =
    (quote : ℕ) × (bytes : List ℕ) × (body : List ℕ) × ((quote == 34 || quote == 39) ≡ true)
    × (text ≡ quote ∷ body) × Characters quote (body ++ after) bytes (quote ∷ after)

-- a long bracket, a body, and the first closing bracket of that level
abbrev pub IsLongString : List ℕ → List ℕ → Type 0
IsLongString text after =
    (n : ℕ) × (level 91 (text ++ after) ≡ Some n) × LongAt n (text ++ after) (Some (length text))

-- a text is a spelling of this kind in front of what follows it
abbrev pub Spells : Kind → List ℕ → List ℕ → Type 0
Spells Name text after = IsWord text × AllByRecursion (λ k. spelling k ≢ text) keywords
Spells (Number z) text after = Denotes text z × IsNum z
Spells Str text after = IsQuoted text after ⊎ IsLongString text after
Spells kind text after = text ≡ spelling kind

-- it is one, and no longer spelling of any kind stands at its place
pub record IsLongestSpelling (kind : Kind) (text after : List ℕ) : Type 0 where
  pub spelled : Spells kind text after
  pub longest : (other : Kind) (longer rest : List ℕ)
      → Spells other longer rest → longer ++ rest ≡ text ++ after
      → length longer ≤ length text
