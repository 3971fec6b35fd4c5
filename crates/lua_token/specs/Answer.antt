-- What the tokens of a source are: its list, or its first fault.
use Rattle.std.specs.Prelude.{◌≡◌, ℕ, ◌<◌, ◌≤◌, List, length, Result, Ok, Err, ◌⊎◌}
use Rattle.std.specs.Global.{Vec}
use Rattle.lua_token.specs.Cuts.{Cuts, Faults}
use Rattle.lua_token.specs.declared.token.Token.{Token}
use Rattle.lua_token.specs.declared.fault.LexFault.{LexFault}
use Rattle.lua_token.specs.declared.fault.LexWhat.TheVariants.{TooLong, Memory}

-- the greatest length of a source
abbrev pub max_length : ℕ
max_length = 16777216

abbrev pub too_long : LexFault
too_long = record { line = 1; what = TooLong }

abbrev pub no_memory : LexFault
no_memory = record { line = 0; what = Memory }

-- The answer for a source: its tokens; or that it is too long, and else its first fault.
abbrev pub IsTokensAnswer : List ℕ → Result (List Token) LexFault → Type 0
IsTokensAnswer source (Ok ts) = (length source ≤ max_length) × Cuts source ts
IsTokensAnswer source (Err fault) =
    ((max_length < length source) × (fault ≡ too_long))
    ⊎ ((length source ≤ max_length) × Faults source fault)

-- What was returned is the answer, unless memory ran out.
abbrev pub IsOutcome : List ℕ → Result (Vec Token) LexFault → Type 0
IsOutcome source (Ok tokens) = IsTokensAnswer source (Ok tokens.items)
IsOutcome source (Err fault) = (fault ≡ no_memory) ⊎ IsTokensAnswer source (Err fault)

-- What was returned is this answer, unless memory ran out.
abbrev pub Gives : Result (Vec Token) LexFault → Result (List Token) LexFault → Type 0
Gives (Ok tokens) answer = answer ≡ Ok tokens.items
Gives (Err fault) answer = (fault ≡ no_memory) ⊎ (answer ≡ Err fault)
