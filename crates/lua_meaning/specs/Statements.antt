-- What statements do (manual §2.4). Each takes a tick before anything of it is done.
use Rattle.std.specs.Prelude.{ℕ, ℤ, pos, false, List, [], ◌∷◌, ◌++◌, drop, Option, Some, None, if◌then◌else◌, codes}
use Rattle.lua_tree.specs.Tree.{Bytes, Expr, name, index, Exprs, no_exprs, expr_and, Block, no_stats, stat_and, Stat, assign, local, call_stat, do_block, while_loop, repeat_loop, if_stat, num_for, num_for_by, gen_for, function_stat, local_function, return_stat, break_stat, Arms, no_else, else_block, arm_and}
use Rattle.lua_meaning.specs.Value.{Value, first, is_true}
use Rattle.lua_meaning.specs.Text.{as_number}
use Rattle.lua_meaning.specs.Names.{block_names, func_names}
use Rattle.lua_meaning.specs.World.{Act, ◌>>=◌, ◌>>◌, give, one, tick}
use Rattle.lua_meaning.specs.Locals.{Env, Slot, Flow, normal, broken, returned, find, set_local, declare, in_scope, go_on, make_function}
use Rattle.lua_meaning.specs.Calls.{Later, Here, fault_at, while_turn, repeat_turn, count_turn, each_turn}
use Rattle.lua_meaning.specs.Operators.{set_field}
use Rattle.lua_meaning.specs.Expressions.{eval, evals, globals}
use Rattle.lua_meaning.specs.Arguments.{argument}

-- what an assignment assigns to: a local, or a field of a value, at a line
pub data Target : Type 0 where
  local_target : Bytes → Target
  field_target : (line : ℕ) → (base key : Value) → Target
  no_target : Target

abbrev pub name_target : ℕ → Bytes → Option Slot → Target
name_target line x (Some slot) = local_target x
name_target line x None = field_target line globals (Value.str x)

-- the parts of a target are evaluated; another expression is none
abbrev pub target : Later → Here → Expr → Env → Act Target
target again here (name line x) env = give (name_target line x (find x env))
target again here (index line e k) env = do
  base ← one (eval again here e env)
  key ← one (eval again here k env)
  give (field_target line base key)
target again here e env = give no_target

abbrev pub targets : Later → Here → Exprs → Env → Act (List Target)
targets again here no_exprs env = give []
targets again here (expr_and e es) env = do
  t ← target again here e env
  ts ← targets again here es env
  give (t ∷ ts)

-- a target gets a value
abbrev pub assign_to : Later → Here → Target → Value → Env → Act Env
assign_to again here (local_target x) v env = set_local x v env
assign_to again here (field_target line base key) v env =
    set_field again here line base key v >> give env
assign_to again here no_target v env = give env

-- targets get their values, the last one first (manual §2.4.3)
abbrev pub assign_all : Later → Here → List Target → List Value → Env → Act Env
assign_all again here [] vs env = give env
assign_all again here (t ∷ ts) vs env =
    assign_all again here ts (drop 1 vs) env >>= λ env. assign_to again here t (first vs) env

abbrev pub wants_number : Here → ℕ → Bytes → Option ℤ → Act ℤ
wants_number here line text None = fault_at here line text
wants_number here line text (Some n) = give n

-- the numbers of a numeric `for`, tested in this order
abbrev pub for_numbers : Later → Here → ℕ → Env → Bytes → Block → (start limit step : Value) →
    Act Flow
for_numbers again here line env x b start limit step = do
  n ← wants_number here line (codes "'for' initial value must be a number") (as_number start)
  m ← wants_number here line (codes "'for' limit must be a number") (as_number limit)
  k ← wants_number here line (codes "'for' step must be a number") (as_number step)
  again (count_turn here env x b n m k)

-- `again` is the meaning with a tick less; `after` are the names that functions use in what follows a block in its
-- scope, and `later` those that they use in what follows a statement in its block
abbrev mutual
  pub exec : Later → Here → (later : List Bytes) → Stat → Env → Act Flow
  exec again here later (assign line ts es) env = do
    parts ← targets again here ts env
    vs ← evals again here es env
    env ← assign_all again here parts vs env
    give (normal env)
  exec again here later (local line xs es) env = do
    vs ← evals again here es env
    env ← declare xs later vs env
    give (normal env)
  exec again here later (call_stat line e) env = eval again here e env >> give (normal env)
  exec again here later (do_block line b) env = in_scope env (block again here [] b env)
  exec again here later (while_loop line e b) env = again (while_turn here env e b)
  exec again here later (repeat_loop line b e) env = again (repeat_turn here env b e)
  exec again here later (if_stat line arms) env = choose again here arms env
  exec again here later (num_for line x e1 e2 b) env = do
    start ← one (eval again here e1 env)
    limit ← one (eval again here e2 env)
    for_numbers again here line env x b start limit (Value.num (pos 1))
  exec again here later (num_for_by line x e1 e2 e3 b) env = do
    start ← one (eval again here e1 env)
    limit ← one (eval again here e2 env)
    step ← one (eval again here e3 env)
    for_numbers again here line env x b start limit step
  exec again here later (gen_for line xs es b) env = do
    vs ← evals again here es env
    again (each_turn here env line xs b (argument 0 vs) (argument 1 vs) (argument 2 vs))
  exec again here later (function_stat line e f) env = do
    part ← target again here e env
    v ← make_function here.file f env
    env ← assign_to again here part v env
    give (normal env)
  exec again here later (local_function line x f) env = do
    env ← declare (x ∷ []) (func_names f ++ later) [] env
    v ← make_function here.file f env
    env ← set_local x v env
    give (normal env)
  exec again here later (return_stat line es) env = do
    vs ← evals again here es env
    give (returned vs)
  exec again here later (break_stat line) env = give (broken env)

  -- the first arm whose test is true
  pub choose : Later → Here → Arms → Env → Act Flow
  choose again here no_else env = give (normal env)
  choose again here (else_block b) env = in_scope env (block again here [] b env)
  choose again here (arm_and e b arms) env = do
    v ← one (eval again here e env)
    if is_true v then in_scope env (block again here [] b env) else choose again here arms env

  -- statements in order, each after its tick
  pub block : Later → Here → (after : List Bytes) → Block → Env → Act Flow
  block again here after no_stats env = give (normal env)
  block again here after (stat_and s b) env = do
    tick
    flow ← exec again here (block_names false b after) s env
    go_on flow (λ env. block again here after b env)
