-- How operators bind (Lua 5.1 manual §2.5.6), shown on rows: these words behind `return` spell this expression, and no other.
use Rattle.std.specs.Prelude.{ℤ, ◌≡◌, List, [], ◌∷◌}
use Rattle.lua_tree.specs.Tree.{Bytes, not_, negate, equal, concat, sub, pow, Expr, number, name, unary, binary, no_exprs, expr_and, Block, no_stats, stat_and, return_stat}
use Rattle.lua_tree.specs.Words as w
use Rattle.lua_tree.specs.Words.{Word, key, Tok, tok, nowhere}
use Rattle.lua_tree.specs.Grammar.{Spells}

-- words on one line
abbrev pub on_one_line : List Word → List Tok
on_one_line [] = []
on_one_line (v ∷ vs) = tok v nowhere ∷ on_one_line vs

-- the chunk that returns this value
abbrev pub returning : Expr → Block
returning e = stat_and (return_stat 1 (expr_and e no_exprs)) no_stats

abbrev pub OnlySpells : List Word → Expr → Type 0
OnlySpells vs e =
    Spells (returning e) (on_one_line (key w.return_ ∷ vs)) × ((b : Block) → Spells b (on_one_line (key w.return_ ∷ vs)) → b ≡ returning e)

-- `x^-y^z` is `x^(-(y^z))`: the exponent may begin with a unary operator, which binds looser than the `^` behind it
abbrev pub PowerOfMinus : Type 0
PowerOfMinus =
    (x y z : ℤ) → OnlySpells
    (w.number x ∷ w.op pow ∷ w.op sub ∷ w.number y ∷ w.op pow ∷ w.number z ∷ [])
    (binary 1 pow (number 1 x) (unary 1 negate (binary 1 pow (number 1 y) (number 1 z))))

-- `-x^z` is `-(x^z)`
abbrev pub MinusOfPower : Type 0
MinusOfPower =
    (x z : ℤ) → OnlySpells
    (w.op sub ∷ w.number x ∷ w.op pow ∷ w.number z ∷ [])
    (unary 1 negate (binary 1 pow (number 1 x) (number 1 z)))

-- `a..b..c` is `a..(b..c)`
abbrev pub ConcatToTheRight : Type 0
ConcatToTheRight =
    (a b c : Bytes) → OnlySpells (w.name a ∷ w.op concat ∷ w.name b ∷ w.op concat ∷ w.name c ∷ [])
    (binary 1 concat (name 1 a) (binary 1 concat (name 1 b) (name 1 c)))

-- `a-b-c` is `(a-b)-c`
abbrev pub MinusToTheLeft : Type 0
MinusToTheLeft =
    (a b c : Bytes) → OnlySpells (w.name a ∷ w.op sub ∷ w.name b ∷ w.op sub ∷ w.name c ∷ [])
    (binary 1 sub (binary 1 sub (name 1 a) (name 1 b)) (name 1 c))

-- `not a == b` is `(not a) == b`
abbrev pub NotBindsTighter : Type 0
NotBindsTighter = (a b : Bytes) → OnlySpells (key w.not_ ∷ w.name a ∷ w.op equal ∷ w.name b ∷ [])
    (binary 1 equal (unary 1 not_ (name 1 a)) (name 1 b))
