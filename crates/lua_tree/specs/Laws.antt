-- The laws of the grammar.
use Rattle.std.specs.Prelude.{◌≡◌, List}
use Rattle.lua_tree.specs.Tree.{Block}
use Rattle.lua_tree.specs.Words.{Tok}
use Rattle.lua_tree.specs.Grammar.{Spells}
use Rattle.lua_tree.specs.Reading.{Limits, Answer, ReadsChunk}
use Rattle.lua_tree.specs.Faults.{IsExact, Agree}

-- a list of tokens spells at most one chunk
abbrev pub OneChunk : Type 0
OneChunk = (ts : List Tok) (b c : Block) → Spells b ts → Spells c ts → b ≡ c

-- what reading answers is exact, whatever the limits
abbrev pub ReadingIsExact : Type 0
ReadingIsExact =
    (limit : Limits) (ts : List Tok) (r : Answer Block) → ReadsChunk limit ts r → IsExact limit ts r

-- at most one answer is exact
abbrev pub OneAnswer : Type 0
OneAnswer =
    (limit : Limits) (ts : List Tok) (r r2 : Answer Block) →
    IsExact
    limit
    ts
    r
    →
    IsExact
    limit
    ts
    r2
    →
    Agree
    r
    r2
