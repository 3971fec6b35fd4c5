-- One node more around a part adds one to its nodes, and nothing to what else is counted.
use Rattle.std.proofs.Common.{ℕ, suc, ◌+◌, ◌≤◌, ◌≡◌, max, arith}
use Rattle.lua_tree.specs.Tree.{Expr, nil, true_, false_, number, str, dots, function, name, index, call, method, table, unary, binary, paren, Exprs, no_exprs, expr_and, Fields, no_fields, item_and, keyed_and, Func, func, Block, no_stats, stat_and, Stat, assign, local, call_stat, do_block, while_loop, repeat_loop, if_stat, num_for, num_for_by, gen_for, function_stat, local_function, return_stat, break_stat, Arms, no_else, else_block, arm_and}
use Rattle.lua_tree.specs.Attributes.{Limit, breaks, varargs, nodes, locals, calls, Counts, under, node, at_end, named, declared, most, most_exprs, most_fields, most_func, most_block, most_stat, most_arms, height}
use Rattle.lua_tree.specs.Reading.{deep}

mutual
  -- the nodes of an expression inside n others
  pub raised : (n : ℕ) (e : Expr) → most nodes n e ≡ n + most nodes 0 e
  raised n (nil l) = omega arith
  raised n (true_ l) = omega arith
  raised n (false_ l) = omega arith
  raised n (number l z) = omega arith
  raised n (str l x) = omega arith
  raised n (dots l) = omega arith
  raised n (function l f) = let a = raised_func (suc n) f in let b = raised_func 1 f in omega (arith, a, b)
  raised n (name l x) = omega arith
  raised n (index l a e) = let x = raised (suc n) a in let y = raised 1 a in let z = raised (suc n) e in let v = raised 1 e in omega (arith, x, y, z, v)
  raised n (call l a es) = let x = raised (suc n) a in let y = raised 1 a in let z = raised_exprs (suc n) es in let v = raised_exprs 1 es in omega (arith, x, y, z, v)
  raised n (method l a m es) = let x = raised (suc n) a in let y = raised 1 a in let z = raised_exprs (suc n) es in let v = raised_exprs 1 es in omega (arith, x, y, z, v)
  raised n (table l fs) = let z = raised_fields (suc n) fs in let v = raised_fields 1 fs in omega (arith, z, v)
  raised n (unary l o e) = let x = raised (suc n) e in let y = raised 1 e in omega (arith, x, y)
  raised n (binary l o a e) = let x = raised (suc n) a in let y = raised 1 a in let z = raised (suc n) e in let v = raised 1 e in omega (arith, x, y, z, v)
  raised n (paren l e) = let x = raised (suc n) e in let y = raised 1 e in omega (arith, x, y)

  pub raised_exprs : (n : ℕ) (es : Exprs) → max n (most_exprs nodes n es) ≡ n + most_exprs nodes 0 es
  raised_exprs n no_exprs = omega arith
  raised_exprs n (expr_and e es) = let x = raised n e in let y = raised_exprs n es in omega (arith, x, y)

  pub raised_fields : (n : ℕ) (fs : Fields) → max n (most_fields nodes n fs) ≡ n + most_fields nodes 0 fs
  raised_fields n no_fields = omega arith
  raised_fields n (item_and e fs) = let x = raised n e in let y = raised_fields n fs in omega (arith, x, y)
  raised_fields n (keyed_and k e fs) = let z = raised n k in let x = raised n e in let y = raised_fields n fs in omega (arith, x, y, z)

  pub raised_func : (n : ℕ) (f : Func) → most_func nodes n f ≡ n + most_func nodes 0 f
  raised_func n (func l ps d b) = let x = raised_block (suc n) b in let y = raised_block 1 b in omega (arith, x, y)

  pub raised_block : (n : ℕ) (b : Block) → max n (most_block nodes n b) ≡ n + most_block nodes 0 b
  raised_block n no_stats = omega arith
  raised_block n (stat_and st b) = let x = raised_stat n st in let y = raised_block n b in omega (arith, x, y)

  pub raised_stat : (n : ℕ) (st : Stat) → max n (most_stat nodes n st) ≡ n + most_stat nodes 0 st
  raised_stat n (assign l es vs) = let x = raised_exprs n es in let y = raised_exprs n vs in omega (arith, x, y)
  raised_stat n (local l xs es) = raised_exprs n es
  raised_stat n (call_stat l e) = let x = raised n e in omega (arith, x)
  raised_stat n (do_block l b) = let x = raised_block (suc n) b in let y = raised_block 1 b in omega (arith, x, y)
  raised_stat n (while_loop l e b) = let x = raised_block (suc n) b in let y = raised_block 1 b in let z = raised n e in omega (arith, x, y, z)
  raised_stat n (repeat_loop l b e) = let x = raised_block (suc n) b in let y = raised_block 1 b in let z = raised n e in omega (arith, x, y, z)
  raised_stat n (if_stat l xs) = raised_arms n xs
  raised_stat n (num_for l i a e b) = let x = raised_block (suc n) b in let y = raised_block 1 b in let z = raised n e in let v = raised n a in omega (arith, x, y, z, v)
  raised_stat n (num_for_by l i a e s b) = let x = raised_block (suc n) b in let y = raised_block 1 b in let z = raised n e in let v = raised n a in let q = raised n s in omega (arith, x, y, z, v, q)
  raised_stat n (gen_for l xs es b) = let x = raised_block (suc n) b in let y = raised_block 1 b in let z = raised_exprs n es in omega (arith, x, y, z)
  raised_stat n (function_stat l e f) = let x = raised n e in let y = raised_func n f in omega (arith, x, y)
  raised_stat n (local_function l i f) = let y = raised_func n f in omega (arith, y)
  raised_stat n (return_stat l es) = raised_exprs n es
  raised_stat n (break_stat l) = omega arith

  pub raised_arms : (n : ℕ) (xs : Arms) → max n (most_arms nodes n xs) ≡ n + most_arms nodes 0 xs
  raised_arms n no_else = omega arith
  raised_arms n (else_block b) = let x = raised_block (suc n) b in let y = raised_block 1 b in omega (arith, x, y)
  raised_arms n (arm_and e b xs) = let x = raised_block (suc n) b in let y = raised_block 1 b in let z = raised n e in let v = raised_arms n xs in omega (arith, x, y, z, v)

-- the left operand of an operator, or what a suffix follows, is pushed one down
pub pushed : (x : Limit) (c : Counts) (a : Expr)
    → max (most x (c x) a) (deep (suc (c nodes) + height a) x) ≡ most x (under x (c x)) a
pushed breaks c a = omega arith
pushed varargs c a = omega arith
pushed nodes c a = let x = raised (c nodes) a in let y = raised (suc (c nodes)) a in omega (arith, x, y)
pushed locals c a = omega arith
pushed calls c a = omega arith

pub one_high : (e : Expr) → 1 ≤ height e
one_high (nil l) = omega arith
one_high (true_ l) = omega arith
one_high (false_ l) = omega arith
one_high (number l z) = omega arith
one_high (str l x) = omega arith
one_high (dots l) = omega arith
one_high (function l f) = omega arith
one_high (name l x) = omega arith
one_high (index l a e) = omega arith
one_high (call l a es) = omega arith
one_high (method l a m es) = omega arith
one_high (table l fs) = omega arith
one_high (unary l o e) = omega arith
one_high (binary l o a e) = omega arith
one_high (paren l e) = omega arith

-- the node itself is counted
pub node_in : (x : Limit) (n : ℕ) (e : Expr) → node x n ≤ most x n e
node_in x n (nil l) = omega arith
node_in x n (true_ l) = omega arith
node_in x n (false_ l) = omega arith
node_in x n (number l z) = omega arith
node_in x n (str l b) = omega arith
node_in x n (dots l) = omega arith
node_in x n (function l f) = omega arith
node_in x n (name l b) = omega arith
node_in x n (index l a e) = omega arith
node_in x n (call l a es) = omega arith
node_in x n (method l a m es) = omega arith
node_in x n (table l fs) = omega arith
node_in x n (unary l o e) = omega arith
node_in x n (binary l o a e) = omega arith
node_in x n (paren l e) = omega arith

-- names only add locals
pub named_up : (x : Limit) (k n : ℕ) → at_end x n ≤ at_end x (named x k n)
named_up breaks k n = omega arith
named_up varargs k n = omega arith
named_up nodes k n = omega arith
named_up locals k n = omega arith
named_up calls k n = omega arith

-- the locals in scope where a block begins are counted in it
pub scope_in : (x : Limit) (n : ℕ) (b : Block) → at_end x n ≤ most_block x n b
scope_in x n no_stats = omega arith
scope_in x n (stat_and st b) = let h = scope_in x (named x (declared st) n) b in let i = named_up x (declared st) n in omega (arith, h, i)
