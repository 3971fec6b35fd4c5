-- The syntax tree of Lua 5.1 (manual §2.3 to §2.5), as definitions speak of it: without where it lies in memory, one data
-- type for each kind of list. Each expression, statement and function has its line, from 1 on. A name and a string are
-- the list of their bytes, a number is the whole number that it stands for.
--
-- How the types of the crate are seen: a `List<Expr>` is an `Exprs`, a `List<Field>` is a `Fields`, a `Block` is the
-- list of its statements, an `Expr` or a `Stat` is one node that has its line in front. An `If` is seen with its list
-- of arms and its `else` in one chain, as the grammar has them. A numeric `for` is seen as `num_for`, and as
-- `num_for_by` where it has a step. A `Chunk` is its block.
use Rattle.std.specs.Prelude.{ℕ, ℤ, Bool, List}

-- a name or a string: its bytes
abbrev pub Bytes : Type 0
Bytes = List ℕ

-- the unary operators (manual §2.5.1, §2.5.3, §2.5.5)
pub data UnOp : Type 0 where
  not_ : UnOp
  length_of : UnOp
  negate : UnOp

-- the binary operators (manual §2.5.1 to §2.5.4)
pub data BinOp : Type 0 where
  or_ : BinOp
  and_ : BinOp
  less : BinOp
  greater : BinOp
  less_equal : BinOp
  greater_equal : BinOp
  not_equal : BinOp
  equal : BinOp
  concat : BinOp
  add : BinOp
  sub : BinOp
  mul : BinOp
  div : BinOp
  mod_ : BinOp
  pow : BinOp

mutual
  -- expressions (manual §2.5): `a.b` is the index of `a` by the string `b`, and a method call `a:b(..)` has its name
  pub data Expr : Type 0 where
    nil : (line : ℕ) → Expr
    true_ : (line : ℕ) → Expr
    false_ : (line : ℕ) → Expr
    number : (line : ℕ) → ℤ → Expr
    str : (line : ℕ) → Bytes → Expr
    dots : (line : ℕ) → Expr
    function : (line : ℕ) → Func → Expr
    name : (line : ℕ) → Bytes → Expr
    index : (line : ℕ) → (table key : Expr) → Expr
    call : (line : ℕ) → (callee : Expr) → Exprs → Expr
    method : (line : ℕ) → (object : Expr) → (method_name : Bytes) → Exprs → Expr
    table : (line : ℕ) → Fields → Expr
    unary : (line : ℕ) → UnOp → Expr → Expr
    binary : (line : ℕ) → BinOp → (left right : Expr) → Expr
    paren : (line : ℕ) → Expr → Expr

  -- lists of expressions
  pub data Exprs : Type 0 where
    no_exprs : Exprs
    expr_and : Expr → Exprs → Exprs

  -- the fields of a table (manual §2.5.7): a value alone, or a key and its value; `{x = e}` has the string `x` as its key
  pub data Fields : Type 0 where
    no_fields : Fields
    item_and : Expr → Fields → Fields
    keyed_and : (key value : Expr) → Fields → Fields

  -- a function (manual §2.5.9): the names of its parameters, whether `...` follows them, and its body
  pub data Func : Type 0 where
    func : (line : ℕ) → (params : List Bytes) → (dots : Bool) → (body : Block) → Func

  -- blocks: lists of statements (manual §2.4.1)
  pub data Block : Type 0 where
    no_stats : Block
    stat_and : Stat → Block → Block

  -- statements (manual §2.4)
  pub data Stat : Type 0 where
    assign : (line : ℕ) → (targets values : Exprs) → Stat
    local : (line : ℕ) → (names : List Bytes) → (values : Exprs) → Stat
    call_stat : (line : ℕ) → Expr → Stat
    do_block : (line : ℕ) → Block → Stat
    while_loop : (line : ℕ) → (test : Expr) → Block → Stat
    repeat_loop : (line : ℕ) → Block → (test : Expr) → Stat
    if_stat : (line : ℕ) → Arms → Stat
    num_for : (line : ℕ) → Bytes → (start limit : Expr) → Block → Stat
    num_for_by : (line : ℕ) → Bytes → (start limit step : Expr) → Block → Stat
    gen_for : (line : ℕ) → (names : List Bytes) → Exprs → Block → Stat
    function_stat : (line : ℕ) → (target : Expr) → Func → Stat
    local_function : (line : ℕ) → Bytes → Func → Stat
    return_stat : (line : ℕ) → Exprs → Stat
    break_stat : (line : ℕ) → Stat

  -- the arms of an `if` (manual §2.4.4): a test and its block, then the next arm, and at the end an `else` or none
  pub data Arms : Type 0 where
    no_else : Arms
    else_block : Block → Arms
    arm_and : (test : Expr) → Block → Arms → Arms
