-- Which functions of a tree use too many locals of the functions around them. Such a local is one in scope where the
-- function stands, and a function uses those that a function inside it uses (manual §2.6).
use Rattle.std.specs.Prelude.{◌≡◌, ℕ, List, [], ◌∷◌, ◌++◌, length, filter, Option, Some, None, nat_lt, if◌then◌else◌, ⊤}
use Rattle.lua_tree.specs.Tree.{Bytes, Expr, nil, true_, false_, number, str, dots, function, name, index, call, method, table, unary, binary, paren, Exprs, no_exprs, expr_and, Fields, no_fields, item_and, keyed_and, Func, func, Block, no_stats, stat_and, Stat, assign, local, call_stat, do_block, while_loop, repeat_loop, if_stat, num_for, num_for_by, gen_for, function_stat, local_function, return_stat, break_stat, Arms, no_else, else_block, arm_and}
use Rattle.lua_meaning.specs.Names.{is_among, func_names}
use Rattle.lua_upvalues.specs.declared.fault.UpvalueFault.{UpvalueFault}
use Rattle.lua_upvalues.specs.declared.fault.UpvalueFault.TheVariants.{TooMany, Memory}

-- the most locals of the functions around it that a function may use
abbrev pub most_upvalues : ℕ
most_upvalues = 255

-- those of some names that are locals in scope
abbrev pub upvalues : (locals names : List Bytes) → List Bytes
upvalues locals names = filter (is_among locals) names

-- the first of two
abbrev pub first_of : Option ℕ → Option ℕ → Option ℕ
first_of None b = b
first_of (Some line) b = Some line

-- the locals in scope behind a statement, and at a block's end
abbrev pub locals_behind : Stat → (locals : List Bytes) → List Bytes
locals_behind (local line xs es) locals = locals ++ xs
locals_behind (local_function line x f) locals = locals ++ x ∷ []
locals_behind s locals = locals

abbrev pub locals_at_end : Block → (locals : List Bytes) → List Bytes
locals_at_end no_stats locals = locals
locals_at_end (stat_and s b) locals = locals_at_end b (locals_behind s locals)

-- the line of the first function that uses too many, in the order of the source
abbrev mutual
  pub expr_fault : Expr → (locals : List Bytes) → Option ℕ
  expr_fault (nil line) locals = None
  expr_fault (true_ line) locals = None
  expr_fault (false_ line) locals = None
  expr_fault (number line n) locals = None
  expr_fault (str line s) locals = None
  expr_fault (dots line) locals = None
  expr_fault (function line f) locals = func_fault f locals
  expr_fault (name line x) locals = None
  expr_fault (index line e k) locals = first_of (expr_fault e locals) (expr_fault k locals)
  expr_fault (call line e es) locals = first_of (expr_fault e locals) (exprs_fault es locals)
  expr_fault (method line e x es) locals = first_of (expr_fault e locals) (exprs_fault es locals)
  expr_fault (table line fs) locals = fields_fault fs locals
  expr_fault (unary line op e) locals = expr_fault e locals
  expr_fault (binary line op a b) locals = first_of (expr_fault a locals) (expr_fault b locals)
  expr_fault (paren line e) locals = expr_fault e locals

  pub exprs_fault : Exprs → (locals : List Bytes) → Option ℕ
  exprs_fault no_exprs locals = None
  exprs_fault (expr_and e es) locals = first_of (expr_fault e locals) (exprs_fault es locals)

  pub fields_fault : Fields → (locals : List Bytes) → Option ℕ
  fields_fault no_fields locals = None
  fields_fault (item_and e fs) locals = first_of (expr_fault e locals) (fields_fault fs locals)
  fields_fault (keyed_and k e fs) locals =
      first_of (first_of (expr_fault k locals) (expr_fault e locals)) (fields_fault fs locals)

  -- a function stands in front of those inside it
  pub func_fault : Func → (locals : List Bytes) → Option ℕ
  func_fault (func line params varargs body) locals =
      if nat_lt most_upvalues (length (upvalues locals (func_names (func line params varargs body))))
      then Some line else block_fault body (locals ++ params)

  pub block_fault : Block → (locals : List Bytes) → Option ℕ
  block_fault no_stats locals = None
  block_fault (stat_and s b) locals =
      first_of (stat_fault s locals) (block_fault b (locals_behind s locals))

  pub stat_fault : Stat → (locals : List Bytes) → Option ℕ
  stat_fault (assign line ts es) locals = first_of (exprs_fault ts locals) (exprs_fault es locals)
  stat_fault (local line xs es) locals = exprs_fault es locals
  stat_fault (call_stat line e) locals = expr_fault e locals
  stat_fault (do_block line b) locals = block_fault b locals
  stat_fault (while_loop line e b) locals = first_of (expr_fault e locals) (block_fault b locals)
  stat_fault (repeat_loop line b e) locals =
      first_of (block_fault b locals) (expr_fault e (locals_at_end b locals))
  stat_fault (if_stat line arms) locals = arms_fault arms locals
  stat_fault (num_for line x a b body) locals =
      first_of (first_of (expr_fault a locals) (expr_fault b locals))
      (block_fault body (locals ++ x ∷ []))
  stat_fault (num_for_by line x a b c body) locals =
      first_of (first_of (first_of (expr_fault a locals) (expr_fault b locals)) (expr_fault c locals))
      (block_fault body (locals ++ x ∷ []))
  stat_fault (gen_for line xs es body) locals =
      first_of (exprs_fault es locals) (block_fault body (locals ++ xs))
  stat_fault (function_stat line e f) locals = first_of (expr_fault e locals) (func_fault f locals)
  stat_fault (local_function line x f) locals = func_fault f (locals ++ x ∷ [])
  stat_fault (return_stat line es) locals = exprs_fault es locals
  stat_fault (break_stat line) locals = None

  pub arms_fault : Arms → (locals : List Bytes) → Option ℕ
  arms_fault no_else locals = None
  arms_fault (else_block b) locals = block_fault b locals
  arms_fault (arm_and e b arms) locals =
      first_of (first_of (expr_fault e locals) (block_fault b locals)) (arms_fault arms locals)

abbrev pub option_fault : Option Expr → (locals : List Bytes) → Option ℕ
option_fault None locals = None
option_fault (Some e) locals = expr_fault e locals

-- what a walk that stops gives where that is to be found
abbrev pub IsFault : Option ℕ → UpvalueFault → Type 0
IsFault found (TooMany line) = found ≡ Some line
IsFault found Memory = ⊤
