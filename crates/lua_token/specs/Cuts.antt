-- The tokens of a source, and its first fault.
use Rattle.std.specs.Prelude.{◌≡◌, ℕ, ◌+◌, ◌≤◌, List, [], ◌∷◌, drop, take, length, Ok, Err}
use Rattle.lua_token.specs.Bytes.{newlines}
use Rattle.lua_token.specs.Place.{StandsAt}
use Rattle.lua_token.specs.declared.token.Token.{Token}
use Rattle.lua_token.specs.declared.fault.LexFault.{LexFault}
use Rattle.lua_token.specs.declared.step.Step.{Step}
use Rattle.lua_token.specs.declared.step.Step.TheVariants.{Skip, Found}

-- the line of a place: one more than the newlines before it
abbrev pub line_of : List ℕ → ℕ → ℕ
line_of source place = 1 + newlines (take place source)

-- the token stands in the source where it says: its spelling, its kind and its line
pub record StandsIn (source : List ℕ) (t : Token) : Type 0 where
  pub found : StandsAt (drop t.start source) (Ok (Found t.kind t.length))
  pub within : t.start + t.length ≤ length source
  pub line : t.line ≡ line_of source t.start

-- from one place up to another these tokens stand in order, and only blanks and comments between
-- them
pub data Between (source : List ℕ) : ℕ → List Token → ℕ → Type 0 where
  nothing : {place : ℕ} → Between source place [] place
  then_blank : {place end : ℕ} {ts : List Token} (n : ℕ)
      → StandsAt (drop place source) (Ok (Skip n))
      → Between source (place + n) ts end → Between source place ts end
  then_token : {place end : ℕ} {ts : List Token} (t : Token) → t.start ≡ place → StandsIn source t
      → Between source (place + t.length) ts end → Between source place (t ∷ ts) end

-- the source is cut into these tokens
abbrev pub Cuts : List ℕ → List Token → Type 0
Cuts source ts = Between source 0 ts (length source)

-- this fault, behind some tokens, is the first place that is no blank, comment or token
abbrev pub Faults : List ℕ → LexFault → Type 0
Faults source fault = (ts : List Token) × (place : ℕ) × Between source 0 ts place
    × StandsAt (drop place source) (Err fault.what) × (fault.line ≡ line_of source place)

-- the tokens that a step adds
abbrev pub tokens_of : Step → ℕ → ℕ → List Token
tokens_of (Skip n) place line = []
tokens_of (Found kind n) place line =
    record { kind = kind; start = place; length = n; line = line } ∷ []
