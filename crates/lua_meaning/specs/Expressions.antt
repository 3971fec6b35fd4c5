-- What expressions give (manual §2.5). Operands, arguments, items of lists and fields go from left to right.
use Rattle.std.specs.Prelude.{ℕ, ◌+◌, true, false, List, [], ◌∷◌, length, Option, Some, None, ⊤}
use Rattle.lua_tree.specs.Tree.{Bytes, Expr, nil, true_, false_, number, str, dots, function, name, index, call, method, table, unary, binary, paren, Exprs, no_exprs, expr_and, Fields, no_fields, item_and, keyed_and}
use Rattle.lua_meaning.specs.Value.{Value, first}
use Rattle.lua_meaning.specs.Store.{globals_place, add_table}
use Rattle.lua_meaning.specs.World.{Act, ◌>>=◌, ◌>>◌, give, look, change, one, single}
use Rattle.lua_meaning.specs.Tables.{set_items}
use Rattle.lua_meaning.specs.Locals.{Env, Slot, find, slot_value, make_function}
use Rattle.lua_meaning.specs.Calls.{Later, Here, call_at}
use Rattle.lua_meaning.specs.Operators.{operate, unary_value, field, set_raw}

-- the table of globals, in which a name that is no local is a field
abbrev pub globals : Value
globals = Value.table globals_place

abbrev pub name_value : Later → Here → ℕ → Bytes → Option Slot → Act Value
name_value again here line x (Some slot) = slot_value slot
name_value again here line x None = field again here line globals (Value.str x)

-- the values of an expression in front of others: all of them where it is the last one, and else one
abbrev pub join : (others : Exprs) → List Value → List Value → List Value
join no_exprs vs ws = vs
join (expr_and e es) vs ws = first vs ∷ ws

-- the values of an item of a table: all of them where no field is behind it, and else one
abbrev pub item_values : (others : Fields) → List Value → List Value
item_values no_fields vs = vs
item_values _ vs = first vs ∷ []

-- `again` is the meaning with a tick less
abbrev mutual
  -- the values of an expression: a call and `...` give any number, every other one gives one
  pub eval : Later → Here → Expr → Env → Act (List Value)
  eval again here (nil line) env = give (Value.nil ∷ [])
  eval again here (true_ line) env = give (Value.flag true ∷ [])
  eval again here (false_ line) env = give (Value.flag false ∷ [])
  eval again here (number line n) env = give (Value.num n ∷ [])
  eval again here (str line s) env = give (Value.str s ∷ [])
  eval again here (dots line) env = give here.extra
  eval again here (function line f) env = single (make_function here.file f env)
  eval again here (name line x) env = single (name_value again here line x (find x env))
  eval again here (index line e k) env = do
    base ← one (eval again here e env)
    key ← one (eval again here k env)
    single (field again here line base key)
  eval again here (call line e es) env = do
    f ← one (eval again here e env)
    args ← evals again here es env
    call_at again here line f args
  eval again here (method line e x es) env = do
    object ← one (eval again here e env)
    f ← field again here line object (Value.str x)
    args ← evals again here es env
    call_at again here line f (object ∷ args)
  eval again here (table line fs) env = do
    t ← look (λ s. length s.tables)
    change add_table
    fill again here line t 1 fs env
    give (Value.table t ∷ [])
  eval again here (unary line op e) env = do
    v ← one (eval again here e env)
    single (unary_value again here line op v)
  eval again here (binary line op a b) env =
      single (operate again here line op (one (eval again here a env)) (one
      (eval again here b env)))
  eval again here (paren line e) env = single (one (eval again here e env))

  -- the values of a list: the last expression gives all of its, the others one
  pub evals : Later → Here → Exprs → Env → Act (List Value)
  evals again here no_exprs env = give []
  evals again here (expr_and e es) env = do
    vs ← eval again here e env
    ws ← evals again here es env
    give (join es vs ws)

  -- a new table gets its fields (manual §2.5.7); n is the position of the next item
  pub fill : Later → Here → (line t n : ℕ) → Fields → Env → Act ⊤
  fill again here line t n no_fields env = give tt
  fill again here line t n (item_and e fs) env = do
    vs ← eval again here e env
    change (λ s. set_items t n (item_values fs vs) s)
    fill again here line t (n + 1) fs env
  fill again here line t n (keyed_and k e fs) env = do
    key ← one (eval again here k env)
    v ← one (eval again here e env)
    set_raw again here line t key v
    fill again here line t n fs env
