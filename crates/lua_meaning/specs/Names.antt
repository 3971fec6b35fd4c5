-- Which names a part of a program uses from outside itself (manual §2.6), and so which locals live in cells.
use Rattle.std.specs.Prelude.{Bool, true, false, not, ◌&&◌, List, [], ◌∷◌, ◌++◌, bytes_eq, if◌then◌else◌, filter}
use Rattle.lua_tree.specs.Tree.{Bytes, Expr, nil, true_, false_, number, str, dots, function, name, index, call, method, table, unary, binary, paren, Exprs, no_exprs, expr_and, Fields, no_fields, item_and, keyed_and, Func, func, Block, no_stats, stat_and, Stat, assign, local, call_stat, do_block, while_loop, repeat_loop, if_stat, num_for, num_for_by, gen_for, function_stat, local_function, return_stat, break_stat, Arms, no_else, else_block, arm_and}

-- whether a name is among some names
abbrev pub is_among : List Bytes → Bytes → Bool
is_among [] x = false
is_among (y ∷ ys) x = if bytes_eq y x then true else is_among ys x

-- the names that aren't among some names
abbrev pub without : List Bytes → List Bytes → List Bytes
without xs names = filter (λ name. not (is_among xs name)) names

-- each name once, at its first place
abbrev pub distinct : List Bytes → List Bytes
distinct [] = []
distinct (x ∷ xs) = x ∷ without (x ∷ []) (distinct xs)

-- The names that a node uses and doesn't declare itself: where `here` is true all of them, and else those that functions
-- inside it use. In a block a local is in scope from the statement behind its own on, in the test of `repeat` too; a
-- `local function` in its own function; a loop's variables in its block; parameters in their function's body.
abbrev mutual
  pub expr_names : (here : Bool) → Expr → List Bytes
  expr_names here (nil line) = []
  expr_names here (true_ line) = []
  expr_names here (false_ line) = []
  expr_names here (number line n) = []
  expr_names here (str line s) = []
  expr_names here (dots line) = []
  expr_names here (function line f) = func_names f
  expr_names here (name line x) = if here then x ∷ [] else []
  expr_names here (index line e k) = expr_names here e ++ expr_names here k
  expr_names here (call line e es) = expr_names here e ++ exprs_names here es
  expr_names here (method line e x es) = expr_names here e ++ exprs_names here es
  expr_names here (table line fs) = fields_names here fs
  expr_names here (unary line op e) = expr_names here e
  expr_names here (binary line op a b) = expr_names here a ++ expr_names here b
  expr_names here (paren line e) = expr_names here e

  pub exprs_names : (here : Bool) → Exprs → List Bytes
  exprs_names here no_exprs = []
  exprs_names here (expr_and e es) = expr_names here e ++ exprs_names here es

  pub fields_names : (here : Bool) → Fields → List Bytes
  fields_names here no_fields = []
  fields_names here (item_and e fs) = expr_names here e ++ fields_names here fs
  fields_names here (keyed_and k e fs) =
      (expr_names here k ++ expr_names here e) ++ fields_names here fs

  -- the names that a function uses from outside, each once
  pub func_names : Func → List Bytes
  func_names (func line params varargs body) = distinct (without params (block_names true body []))

  -- the names of a block and of what follows it in its scope
  pub block_names : (here : Bool) → Block → (after : List Bytes) → List Bytes
  block_names here no_stats after = after
  block_names here (stat_and s b) after = stat_names here s (block_names here b after)

  -- the names of a statement and of what follows it in its block
  pub stat_names : (here : Bool) → Stat → (later : List Bytes) → List Bytes
  stat_names here (assign line targets es) later =
      (exprs_names here targets ++ exprs_names here es) ++ later
  stat_names here (local line xs es) later = exprs_names here es ++ without xs later
  stat_names here (call_stat line e) later = expr_names here e ++ later
  stat_names here (do_block line b) later = block_names here b [] ++ later
  stat_names here (while_loop line e b) later =
      (expr_names here e ++ block_names here b []) ++ later
  stat_names here (repeat_loop line b e) later = block_names here b (expr_names here e) ++ later
  stat_names here (if_stat line arms) later = arms_names here arms ++ later
  stat_names here (num_for line x a b body) later =
      (expr_names here a ++ (expr_names here b ++ without (x ∷ [])
      (block_names here body []))) ++ later
  stat_names here (num_for_by line x a b c body) later =
      (expr_names here a ++ (expr_names here b ++ (expr_names here c ++ without (x ∷ [])
      (block_names here body [])))) ++ later
  stat_names here (gen_for line xs es body) later =
      (exprs_names here es ++ without xs (block_names here body [])) ++ later
  stat_names here (function_stat line target f) later =
      (expr_names here target ++ func_names f) ++ later
  stat_names here (local_function line x f) later = without (x ∷ []) (func_names f ++ later)
  stat_names here (return_stat line es) later = exprs_names here es ++ later
  stat_names here (break_stat line) later = later

  pub arms_names : (here : Bool) → Arms → List Bytes
  arms_names here no_else = []
  arms_names here (else_block b) = block_names here b []
  arms_names here (arm_and e b arms) =
      (expr_names here e ++ block_names here b []) ++ arms_names here arms

-- the names that functions inside a block use from outside it
abbrev pub captured_in : Block → List Bytes
captured_in b = block_names false b []

-- whether a local is captured: a function in its scope names it, and none of the locals behind it in its list hides it
abbrev pub is_captured : (behind captured : List Bytes) → Bytes → Bool
is_captured behind captured x = is_among captured x && not (is_among behind x)
