-- Rows on what is counted: trees that the sources spell, and the most that is counted in them.
use Rattle.std.specs.Prelude.{ℕ, zero, suc, ◌≡◌, ℤ, false, [], ◌∷◌}
use Rattle.lua_tree.specs.Tree.{Bytes, add, Expr, number, name, function, paren, binary, no_exprs, expr_and, func, Block, no_stats, stat_and, return_stat, local, do_block, break_stat, while_loop, if_stat, Arms, no_else, arm_and}
use Rattle.lua_tree.specs.Attributes.{breaks, nodes, locals, most_chunk}

-- the chunk that returns this value
abbrev pub returns : Expr → Block
returns e = stat_and (return_stat 1 (expr_and e no_exprs)) no_stats

-- `z`, behind so many times `z+`: each `+` takes what stands before it as its left operand
abbrev pub sum : ℕ → ℤ → Expr
sum zero z = number 1 z
sum (suc n) z = binary 1 add (sum n z) (number 1 z)

-- `z` in so many parentheses
abbrev pub in_parens : ℕ → ℤ → Expr
in_parens zero z = number 1 z
in_parens (suc n) z = paren 1 (in_parens n z)

-- so many times `local a`
abbrev pub locals_of : ℕ → Bytes → Block
locals_of zero a = no_stats
locals_of (suc n) a = stat_and (local 1 (a ∷ []) no_exprs) (locals_of n a)

-- so many times `do`, with as many `end`
abbrev pub blocks_of : ℕ → Block
blocks_of zero = no_stats
blocks_of (suc n) = stat_and (do_block 1 (blocks_of n)) no_stats

-- an `if` with so many further arms
abbrev pub arms_of : ℕ → Bytes → Arms
arms_of zero a = no_else
arms_of (suc n) a = arm_and (name 1 a) no_stats (arms_of n a)

-- 199 times `1+` and `1` nest 200 deep, and 200 times nest 201 deep
abbrev pub Sums : Type 0
Sums =
    (z : ℤ) → (most_chunk nodes (returns (sum 199 z)) ≡ 200)
    × (most_chunk nodes (returns (sum 200 z)) ≡ 201)

-- 200 parentheses around `1` nest 201 deep
abbrev pub Parens : Type 0
Parens =
    (z : ℤ) → (most_chunk nodes (returns (in_parens 199 z)) ≡ 200)
    × (most_chunk nodes (returns (in_parens 200 z)) ≡ 201)

-- a hidden local counts too
abbrev pub Locals : Type 0
Locals =
    (a : Bytes) → (most_chunk locals (locals_of 200 a) ≡ 200)
    × (most_chunk locals (locals_of 201 a) ≡ 201)

-- a block is a node, the chunk's own is none
abbrev pub Blocks : Type 0
Blocks = (most_chunk nodes (blocks_of 200) ≡ 200) × (most_chunk nodes (blocks_of 201) ≡ 201)

-- `elseif` nests no deeper
abbrev pub Arms300 : Type 0
Arms300 = (a : Bytes) → most_chunk nodes (stat_and (if_stat 1 (arms_of 300 a)) no_stats) ≡ 1

-- the locals of a block end with it; those of a function are its own
abbrev pub Ends : Type 0
Ends = (a : Bytes) → (most_chunk locals (stat_and (do_block 1 (locals_of 3 a)) (locals_of 2 a)) ≡ 3)
    × (most_chunk locals (stat_and (local 1 (a ∷ []) no_exprs) (returns (function 1 (func 1 (a ∷ []) false (locals_of 2 a))))) ≡ 3)

-- a `break` outside of a loop, and inside of one
abbrev pub Breaks : Type 0
Breaks =
    (a : Bytes) → (most_chunk breaks (stat_and (break_stat 1) no_stats) ≡ 1)
    × (most_chunk breaks (stat_and (while_loop 1 (name 1 a) (stat_and (break_stat 1) no_stats)) no_stats) ≡ 0)
