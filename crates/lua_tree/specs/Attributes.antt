-- What the limits of a source count, as attributes of its tree (Lua 5.1 manual §2.4 to §2.6): each is one recursion, that
-- of `most`, with what the limit counts at each place.
use Rattle.std.specs.Prelude.{ℕ, zero, suc, ◌+◌, max, length, Bool, true, false, List}
use Rattle.lua_tree.specs.Tree.{Bytes, Expr, nil, true_, false_, number, str, dots, function, name, index, call, method, table, unary, binary, paren, Exprs, no_exprs, expr_and, Fields, no_fields, item_and, keyed_and, Func, func, Block, no_stats, stat_and, Stat, assign, local, call_stat, do_block, while_loop, repeat_loop, if_stat, num_for, num_for_by, gen_for, function_stat, local_function, return_stat, break_stat, Arms, no_else, else_block, arm_and}

-- what is limited: a `break` outside of the loops of its function, a `...` outside of the functions that have one, how
-- deep blocks and expressions nest, the locals of one function in scope at once, an ambiguous call
pub data Limit : Type 0 where
  breaks : Limit
  varargs : Limit
  nodes : Limit
  locals : Limit
  calls : Limit

-- What is counted at a place, given what surrounds it: 1 where no loop of the function does, 1 where the function has no
-- `...`, how many blocks and expressions there are on the way from the chunk, how many locals are in scope.
abbrev pub Counts : Type 0
Counts = Limit → ℕ

-- at the chunk
abbrev pub at_chunk : Counts
at_chunk breaks = 1
at_chunk x = 0

-- at a node that is an expression or a block: one node more
abbrev pub node : Limit → ℕ → ℕ
node nodes n = suc n
node x n = 0

-- inside of it
abbrev pub under : Limit → ℕ → ℕ
under nodes n = suc n
under x n = n

-- inside a loop's block, where the loop has so many names
abbrev pub looped : Limit → ℕ → ℕ → ℕ
looped breaks k n = 0
looped varargs k n = n
looped nodes k n = suc n
looped locals k n = n + k
looped calls k n = n

-- behind names that become locals
abbrev pub named : Limit → ℕ → ℕ → ℕ
named locals k n = n + k
named x k n = n

-- inside a function's block: no loop surrounds it, and its locals are its parameters
abbrev pub inside : Limit → List Bytes → Bool → ℕ → ℕ
inside breaks params has_dots n = 1
inside varargs params true n = 0
inside varargs params false n = 1
inside nodes params has_dots n = suc n
inside locals params has_dots n = length params
inside calls params has_dots n = n

-- at a `break`, at a `...`, at a call of this line, at the end of a block
abbrev pub at_break : Limit → ℕ → ℕ
at_break breaks n = n
at_break x n = 0

abbrev pub at_dots : Limit → ℕ → ℕ
at_dots varargs n = n
at_dots x n = 0

abbrev pub at_call : Limit → ℕ → ℕ
at_call calls zero = 1
at_call calls (suc line) = 0
at_call x line = 0

abbrev pub at_end : Limit → ℕ → ℕ
at_end locals n = n
at_end x n = 0

-- how many locals a statement adds behind itself
abbrev pub declared : Stat → ℕ
declared (local line names values) = length names
declared (local_function line x f) = 1
declared st = 0

-- the most that is counted in a part of a tree, given what is counted where it stands
abbrev mutual
  pub most : Limit → ℕ → Expr → ℕ
  most x n (nil line) = node x n
  most x n (true_ line) = node x n
  most x n (false_ line) = node x n
  most x n (number line z) = node x n
  most x n (str line bytes) = node x n
  most x n (dots line) = max (node x n) (at_dots x n)
  most x n (function line f) = max (node x n) (most_func x (under x n) f)
  most x n (name line bytes) = node x n
  most x n (index line a e) = max (node x n) (max (most x (under x n) a) (most x (under x n) e))
  most x n (call line a es) =
      max (max (node x n) (at_call x line))
      (max (most x (under x n) a) (most_exprs x (under x n) es))
  most x n (method line a m es) =
      max (max (node x n) (at_call x line))
      (max (most x (under x n) a) (most_exprs x (under x n) es))
  most x n (table line fs) = max (node x n) (most_fields x (under x n) fs)
  most x n (unary line o e) = max (node x n) (most x (under x n) e)
  most x n (binary line o a b) = max (node x n) (max (most x (under x n) a) (most x (under x n) b))
  most x n (paren line e) = max (node x n) (most x (under x n) e)

  pub most_exprs : Limit → ℕ → Exprs → ℕ
  most_exprs x n no_exprs = 0
  most_exprs x n (expr_and e es) = max (most x n e) (most_exprs x n es)

  pub most_fields : Limit → ℕ → Fields → ℕ
  most_fields x n no_fields = 0
  most_fields x n (item_and e fs) = max (most x n e) (most_fields x n fs)
  most_fields x n (keyed_and k e fs) = max (max (most x n k) (most x n e)) (most_fields x n fs)

  pub most_func : Limit → ℕ → Func → ℕ
  most_func x n (func line params has_dots b) =
      max (node x n) (most_block x (inside x params has_dots n) b)

  pub most_block : Limit → ℕ → Block → ℕ
  most_block x n no_stats = at_end x n
  most_block x n (stat_and st b) = max (most_stat x n st) (most_block x (named x (declared st) n) b)

  pub most_stat : Limit → ℕ → Stat → ℕ
  most_stat x n (assign line es vs) = max (most_exprs x n es) (most_exprs x n vs)
  most_stat x n (local line names es) = most_exprs x n es
  most_stat x n (call_stat line e) = most x n e
  most_stat x n (do_block line b) = max (node x n) (most_block x (under x n) b)
  most_stat x n (while_loop line e b) =
      max (most x n e) (max (node x n) (most_block x (looped x 0 n) b))
  most_stat x n (repeat_loop line b e) =
      max (max (node x n) (most_block x (looped x 0 n) b)) (most x n e)
  most_stat x n (if_stat line rest) = most_arms x n rest
  most_stat x n (num_for line i a b c) =
      max (max (most x n a) (most x n b)) (max (node x n) (most_block x (looped x 1 n) c))
  most_stat x n (num_for_by line i a b e c) =
      max (max (max (most x n a) (most x n b)) (most x n e))
      (max (node x n) (most_block x (looped x 1 n) c))
  most_stat x n (gen_for line names es c) =
      max (most_exprs x n es) (max (node x n) (most_block x (looped x (length names) n) c))
  most_stat x n (function_stat line e f) = max (most x n e) (most_func x n f)
  most_stat x n (local_function line i f) = most_func x n f
  most_stat x n (return_stat line es) = most_exprs x n es
  most_stat x n (break_stat line) = at_break x n

  pub most_arms : Limit → ℕ → Arms → ℕ
  most_arms x n no_else = 0
  most_arms x n (else_block b) = max (node x n) (most_block x (under x n) b)
  most_arms x n (arm_and e b rest) =
      max (max (most x n e) (max (node x n) (most_block x (under x n) b))) (most_arms x n rest)

-- how many nodes there are, at most, on a way down an expression
abbrev pub height : Expr → ℕ
height e = most nodes 0 e

-- the most that is counted in a chunk
abbrev pub most_chunk : Limit → Block → ℕ
most_chunk x b = most_block x (at_chunk x) b
