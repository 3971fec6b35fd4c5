-- Expressions and statements are lawful.
use Rattle.std.proofs.Common.{ℕ, ◌+◌, List, [], ◌∷◌, length, Option, Some, None, arith, ℤ}
use Rattle.lua_tree.specs.Tree.{Bytes, Expr, Exprs, no_exprs, expr_and, Fields, no_fields, item_and, keyed_and, Block, no_stats, stat_and, Stat, Arms, no_else, else_block, arm_and}
use Rattle.lua_meaning.specs.Value.{Value, is_true}
use Rattle.lua_meaning.specs.Store.{add_table}
use Rattle.lua_meaning.specs.Tables.{set_items}
use Rattle.lua_meaning.specs.Locals.{Env, Slot}
use Rattle.lua_meaning.specs.Calls.{Here, Later}
use Rattle.lua_meaning.specs.Expressions.{name_value, join, item_values, eval, evals, fill}
use Rattle.lua_meaning.specs.Statements.{Target, local_target, field_target, no_target, target, targets, assign_to, assign_all, wants_number, for_numbers, exec, choose, block}
use Rattle.lua_meaning.proofs.Lawful.{Lawful, chain, costs, free, followed, behind, either, gives_lawful, looks, changes, ticked, ones, singles, acts}
use Rattle.lua_meaning.proofs.Calling.{Paid, slot_lawful, set_local_lawful, declare_lawful, in_scope_lawful, go_on_lawful, make_function_lawful, fault_lawful, call_at_lawful, unary_lawful, operate_lawful, field_lawful, set_raw_lawful, set_field_lawful}

module _ (again : Later) (h : Paid again) (here : Here) where
  name_lawful : (line : ℕ) (x : Bytes) (s : Option Slot) → Lawful 0 (name_value again here line x s)
  name_lawful line x None = search (field_lawful again h)
  name_lawful line x (Some s) = slot_lawful s

  mutual
    pub eval_lawful : (e : Expr) (env : Env) → Lawful 0 (eval again here e env)
    eval_lawful (Expr.nil line) env = gives_lawful _
    eval_lawful (Expr.true_ line) env = gives_lawful _
    eval_lawful (Expr.false_ line) env = gives_lawful _
    eval_lawful (Expr.number line n) env = gives_lawful _
    eval_lawful (Expr.str line s) env = gives_lawful _
    eval_lawful (Expr.dots line) env = gives_lawful _
    eval_lawful (Expr.function line f) env = singles 0 (make_function_lawful here.file f env)
    eval_lawful (Expr.name line x) env = search (singles, name_lawful)
    eval_lawful (Expr.index line e k) env =
        followed 0 (ones 0 (eval_lawful e env)) (λ base. followed 0 (ones 0 (eval_lawful k env))
        (λ key. singles 0 (field_lawful again h here line base key)))
    eval_lawful (Expr.call line e es) env =
        followed 0 (ones 0 (eval_lawful e env)) (λ f. followed 0 (evals_lawful es env)
        (λ args. call_at_lawful again h here line f args))
    eval_lawful (Expr.method line e x es) env =
        followed 0 (ones 0 (eval_lawful e env)) (λ object. followed 0
        (field_lawful again h here line object (Value.str x)) (λ f. followed 0
        (evals_lawful es env) (λ args. call_at_lawful again h here line f (object ∷ args))))
    eval_lawful (Expr.table line fs) env =
        followed 0 (looks (λ s. length s.tables)) (λ t. behind 0 (changes add_table) (behind 0
        (fill_lawful line t 1 fs env) (gives_lawful (Value.table t ∷ []))))
    eval_lawful (Expr.unary line op e) env =
        followed 0 (ones 0 (eval_lawful e env)) (λ v. singles 0
        (unary_lawful again h here line op v))
    eval_lawful (Expr.binary line op a b) env =
        singles 0 (operate_lawful again h here line op _ _ (ones 0 (eval_lawful a env)) (ones 0
        (eval_lawful b env)))
    eval_lawful (Expr.paren line e) env = singles 0 (ones 0 (eval_lawful e env))

    pub evals_lawful : (es : Exprs) (env : Env) → Lawful 0 (evals again here es env)
    evals_lawful no_exprs env = gives_lawful _
    evals_lawful (expr_and e es) env =
        followed 0 (eval_lawful e env) (λ vs. followed 0 (evals_lawful es env) (λ ws. gives_lawful
        (join es vs ws)))

    fill_lawful : (line t n : ℕ) (fs : Fields) (env : Env) →
        Lawful 0 (fill again here line t n fs env)
    fill_lawful line t n no_fields env = gives_lawful _
    fill_lawful line t n (item_and e fs) env =
        followed 0 (eval_lawful e env) (λ vs. behind 0 (changes (λ s. set_items t n
        (item_values fs vs) s)) (fill_lawful line t (n + 1) fs env))
    fill_lawful line t n (keyed_and k e fs) env =
        followed 0 (ones 0 (eval_lawful k env)) (λ key. followed 0 (ones 0 (eval_lawful e env))
        (λ v. behind 0 (set_raw_lawful again h here line t key v)
        (fill_lawful line t n fs env)))

  target_lawful : (e : Expr) (env : Env) → Lawful 0 (target again here e env)
  target_lawful (Expr.name line x) env = gives_lawful _
  target_lawful (Expr.index line e k) env = search (acts, eval_lawful)
  target_lawful e env = gives_lawful _

  targets_lawful : (es : Exprs) (env : Env) → Lawful 0 (targets again here es env)
  targets_lawful no_exprs env = gives_lawful _
  targets_lawful (expr_and e es) env =
      followed 0 (target_lawful e env) (λ t. followed 0 (targets_lawful es env) (λ ts. gives_lawful
      (t ∷ ts)))

  assign_to_lawful : (t : Target) (v : Value) (env : Env) → Lawful 0 (assign_to again here t v env)
  assign_to_lawful (local_target x) v env = set_local_lawful x v env
  assign_to_lawful (field_target line base key) v env = search (acts, set_field_lawful again h)
  assign_to_lawful no_target v env = gives_lawful _

  assign_all_lawful : (ts : List Target) (vs : List Value) (env : Env) →
      Lawful 0 (assign_all again here ts vs env)
  assign_all_lawful [] vs env = gives_lawful _
  assign_all_lawful (t ∷ ts) vs env =
      followed 0 (assign_all_lawful ts _ env) (λ env. assign_to_lawful t _ env)

  wants_lawful : (line : ℕ) (text : Bytes) (n : Option ℤ) → Lawful 0 (wants_number here line text n)
  wants_lawful line text None = fault_lawful here line text
  wants_lawful line text (Some n) = gives_lawful _

  for_lawful : (line : ℕ) (env : Env) (x : Bytes) (b : Block) (start limit step : Value) →
      Lawful 2 (for_numbers again here line env x b start limit step)
  for_lawful line env x b start limit step = search (followed, wants_lawful, h)

  mutual
    pub exec_lawful : (later : List Bytes) (s : Stat) (env : Env) →
        Lawful 2 (exec again here later s env)
    exec_lawful later (Stat.assign line ts es) env =
        free (search (acts, targets_lawful, evals_lawful, assign_all_lawful))
    exec_lawful later (Stat.local line xs es) env =
        free (search (acts, evals_lawful, declare_lawful))
    exec_lawful later (Stat.call_stat line e) env = free (search (acts, eval_lawful))
    exec_lawful later (Stat.do_block line b) env =
        free (in_scope_lawful 0 env _ (block_lawful [] b env))
    exec_lawful later (Stat.while_loop line e b) env = h _
    exec_lawful later (Stat.repeat_loop line b e) env = h _
    exec_lawful later (Stat.if_stat line arms) env = free (choose_lawful arms env)
    exec_lawful later (Stat.num_for line x e1 e2 b) env = search (acts, eval_lawful, for_lawful)
    exec_lawful later (Stat.num_for_by line x e1 e2 e3 b) env = search
        (acts, eval_lawful, for_lawful)
    exec_lawful later (Stat.gen_for line xs es b) env = search (acts, evals_lawful, h)
    exec_lawful later (Stat.function_stat line e f) env =
        free (search (acts, target_lawful, make_function_lawful, assign_to_lawful))
    exec_lawful later (Stat.local_function line x f) env =
        free (search (acts, declare_lawful, make_function_lawful, set_local_lawful))
    exec_lawful later (Stat.return_stat line es) env = free (search (acts, evals_lawful))
    exec_lawful later (Stat.break_stat line) env = free (gives_lawful _)

    choose_lawful : (arms : Arms) (env : Env) → Lawful 0 (choose again here arms env)
    choose_lawful no_else env = gives_lawful _
    choose_lawful (else_block b) env = in_scope_lawful 0 env _ (block_lawful [] b env)
    choose_lawful (arm_and e b arms) env =
        followed 0 (ones 0 (eval_lawful e env)) (λ v. either 0 (is_true v) (in_scope_lawful 0 env _
        (block_lawful [] b env)) (choose_lawful arms env))

    pub block_lawful : (after : List Bytes) (b : Block) (env : Env) →
        Lawful 0 (block again here after b env)
    block_lawful after no_stats env = gives_lawful _
    block_lawful after (stat_and s b) env =
        ticked 0 (costs (2 + 0) 2 (omega arith) (chain 2 0 (exec_lawful _ s env)
        (λ flow. go_on_lawful flow _ (λ env. block_lawful after b env))))
