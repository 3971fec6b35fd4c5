-- How high each node is, by what is inside of it.
use Rattle.std.proofs.Common.{ℕ, suc, ◌+◌, ◌≤◌, ◌≡◌, max, Bool, List, arith}
use Rattle.lua_tree.specs.Tree.{Bytes, UnOp, BinOp, Expr, function, index, call, method, table, unary, binary, paren, str, Exprs, no_exprs, expr_and, Fields, item_and, keyed_and, Func, func, Block, no_stats, stat_and, Stat, assign, do_block, while_loop, repeat_loop, num_for, num_for_by, gen_for, function_stat, local_function, Arms, else_block, arm_and}
use Rattle.lua_tree.specs.Attributes.{nodes, most, most_exprs, most_fields, most_func, most_block, most_stat, most_arms, height}
use Rattle.lua_tree.proofs.Heights.{raised, raised_exprs, raised_fields, raised_func, raised_block}

pub tall_function : (l : ℕ) (f : Func) → height (function l f) ≡ suc (most_func nodes 0 f)
tall_function l f = let a = raised_func 1 f in omega (arith, a)

pub tall_index : (l : ℕ) (a e : Expr) → height (index l a e) ≡ suc (max (height a) (height e))
tall_index l a e = let x = raised 1 a in let y = raised 1 e in omega (arith, x, y)

pub tall_call : (l : ℕ) (a : Expr) (es : Exprs) → height (call l a es) ≡ suc (max (height a) (most_exprs nodes 0 es))
tall_call l a es = let x = raised 1 a in let y = raised_exprs 1 es in omega (arith, x, y)

pub tall_method : (l : ℕ) (a : Expr) (m : Bytes) (es : Exprs) → height (method l a m es) ≡ suc (max (height a) (most_exprs nodes 0 es))
tall_method l a m es = let x = raised 1 a in let y = raised_exprs 1 es in omega (arith, x, y)

pub tall_table : (l : ℕ) (fs : Fields) → height (table l fs) ≡ suc (most_fields nodes 0 fs)
tall_table l fs = let x = raised_fields 1 fs in omega (arith, x)

pub tall_unary : (l : ℕ) (o : UnOp) (e : Expr) → height (unary l o e) ≡ suc (height e)
tall_unary l o e = let x = raised 1 e in omega (arith, x)

pub tall_binary : (l : ℕ) (o : BinOp) (a e : Expr) → height (binary l o a e) ≡ suc (max (height a) (height e))
tall_binary l o a e = let x = raised 1 a in let y = raised 1 e in omega (arith, x, y)

pub tall_paren : (l : ℕ) (e : Expr) → height (paren l e) ≡ suc (height e)
tall_paren l e = let x = raised 1 e in omega (arith, x)

pub tall_func : (l : ℕ) (ps : List Bytes) (d : Bool) (b : Block) → most_func nodes 0 (func l ps d b) ≡ suc (most_block nodes 0 b)
tall_func l ps d b = let x = raised_block 1 b in omega (arith, x)

pub tall_do : (l : ℕ) (b : Block) → most_stat nodes 0 (do_block l b) ≡ suc (most_block nodes 0 b)
tall_do l b = let x = raised_block 1 b in omega (arith, x)

pub tall_while : (l : ℕ) (e : Expr) (b : Block) → most_stat nodes 0 (while_loop l e b) ≡ max (height e) (suc (most_block nodes 0 b))
tall_while l e b = let x = raised_block 1 b in omega (arith, x)

pub tall_repeat : (l : ℕ) (b : Block) (e : Expr) → most_stat nodes 0 (repeat_loop l b e) ≡ max (height e) (suc (most_block nodes 0 b))
tall_repeat l b e = let x = raised_block 1 b in omega (arith, x)

pub tall_num_for : (l : ℕ) (i : Bytes) (a b : Expr) (c : Block) → most_stat nodes 0 (num_for l i a b c) ≡ max (max (height a) (height b)) (suc (most_block nodes 0 c))
tall_num_for l i a b c = let x = raised_block 1 c in omega (arith, x)

pub tall_num_for_by : (l : ℕ) (i : Bytes) (a b e : Expr) (c : Block) → most_stat nodes 0 (num_for_by l i a b e c) ≡ max (max (max (height a) (height b)) (height e)) (suc (most_block nodes 0 c))
tall_num_for_by l i a b e c = let x = raised_block 1 c in omega (arith, x)

pub tall_gen_for : (l : ℕ) (xs : List Bytes) (es : Exprs) (c : Block) → most_stat nodes 0 (gen_for l xs es c) ≡ max (most_exprs nodes 0 es) (suc (most_block nodes 0 c))
tall_gen_for l xs es c = let x = raised_block 1 c in omega (arith, x)

pub tall_arm : (e : Expr) (b : Block) (rest : Arms) → most_arms nodes 0 (arm_and e b rest) ≡ max (max (height e) (suc (most_block nodes 0 b))) (most_arms nodes 0 rest)
tall_arm e b rest = let x = raised_block 1 b in omega (arith, x)

pub tall_else : (b : Block) → most_arms nodes 0 (else_block b) ≡ suc (most_block nodes 0 b)
tall_else b = let x = raised_block 1 b in omega (arith, x)
