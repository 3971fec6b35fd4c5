-- What the answer for a list of tokens is: the chunk that they spell, or the first fault (Lua 5.1 manual §2.2 to §2.5, §8).
use Rattle.std.specs.Prelude.{ℕ, ◌≡◌, ◌<◌, ◌≤◌, List, [], ◌∷◌, ◌++◌}
use Rattle.lua_tree.specs.Tree.{Block}
use Rattle.lua_tree.specs.Words as w
use Rattle.lua_tree.specs.Words.{Word, key, Tok, tok}
use Rattle.lua_tree.specs.Grammar.{Spells}
use Rattle.lua_tree.specs.Attributes.{Limit, locals, most_chunk}
use Rattle.lua_tree.specs.Reading.{Limits, Fault, unexpected, over, fault_number, Answer, got, stuck}

-- some chunk's tokens begin so
abbrev pub Begins : List Tok → Type 0
Begins ts = (more : List Tok) × (b : Block) × Spells b (ts ++ more)

-- every chunk whose tokens begin so, up to and including this token, is such
abbrev pub Every : List Tok → Tok → (Block → Type 0) → Type 0
Every pre t P = (more : List Tok) (b : Block) → Spells b (pre ++ t ∷ more) → P b

-- the words at which a limit can be passed: for locals a name, for the others any
abbrev pub Tells : Limit → Word → Type 0
Tells locals (w.name x) = Unit {0}
Tells locals v = ⊥
Tells x v = Unit {0}

-- A fault stands at the first token of the rest, or at the end: no chunk goes on with that token, or the tokens before it
-- are none where it is the end; or every chunk that begins with the tokens up to and including it passes a limit.
abbrev pub At : Limits → Fault → List Tok → List Tok → Type 0
At limit unexpected pre [] = (b : Block) → Spells b pre → ⊥
At limit unexpected pre (t ∷ rest) = Begins (pre ++ t ∷ []) → ⊥
At limit (over x) pre [] = ⊥
At limit (over x) pre (tok v s ∷ rest) =
    Tells x v × Every pre (tok v s) (λ b. limit x < most_chunk x b)

-- no fault stands at any of these tokens
abbrev pub Clear : Limits → List Tok → Type 0
Clear limit pre =
    (p : List Tok) (t : Tok) (q : List Tok) → pre ≡ p ++ t ∷
    q
    →
    (x : Fault)
    →
    At
    limit
    x
    p
    (t ∷ q)
    →
    ⊥

-- a fault's number, and that no fault of a lower number stands there
abbrev pub number_of : Fault → ℕ
number_of unexpected = 2
number_of (over x) = fault_number x

abbrev pub NoneLower : Limits → Fault → List Tok → List Tok → Type 0
NoneLower limit x pre rest = (y : Fault) → number_of y < number_of x → At limit y pre rest → ⊥

-- The exact answer: the chunk is spelled and keeps the limits; or the fault is the first one of the tokens, and of those
-- at its token the one with the lowest number.
abbrev pub IsExact : Limits → List Tok → Answer Block → Type 0
IsExact limit ts (got b rest) = Spells b ts × (rest ≡ []) × ((x : Limit) → most_chunk x b ≤ limit x)
IsExact limit ts (stuck x rest) =
    (pre : List Tok) × (ts ≡ pre ++ rest) × Clear limit pre × At limit x pre rest × NoneLower limit x pre rest

-- two answers are the same
abbrev pub Agree : Answer Block → Answer Block → Type 0
Agree (got b us) (got c vs) = b ≡ c
Agree (got b us) (stuck y vs) = ⊥
Agree (stuck x us) (got c vs) = ⊥
Agree (stuck x us) (stuck y vs) = (x ≡ y) × (us ≡ vs)
