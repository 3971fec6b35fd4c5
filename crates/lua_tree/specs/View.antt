-- The syntax tree that a value of the code stands for.
use Rattle.std.specs.Prelude.{ℕ, List, [], ◌∷◌, map, Option, Some, None}
use Rattle.lua_tree.specs.declared.tree.BinOp.{BinOp}
use Rattle.lua_tree.specs.declared.tree.BinOp.TheVariants as binary
use Rattle.lua_tree.specs.declared.tree.UnOp.{UnOp}
use Rattle.lua_tree.specs.declared.tree.UnOp.TheVariants as unary
use Rattle.lua_tree.specs.declared.tree.Expr.{Expr, fold-Expr}
use Rattle.lua_tree.specs.declared.tree.ExprKind.{ExprKind, fold-ExprKind}
use Rattle.lua_tree.specs.declared.tree.ExprKind.TheOpen.{ExprKind-F, Field-F, StatKind-F, Arm-F, Block-F, Expr-F, Func-F, Stat-F}
use Rattle.lua_tree.specs.declared.tree.Field.{Field, fold-Field}
use Rattle.lua_tree.specs.declared.tree.Func.{Func, fold-Func}
use Rattle.lua_tree.specs.declared.tree.Arm.{Arm, fold-Arm}
use Rattle.lua_tree.specs.declared.tree.Block.{Block, fold-Block}
use Rattle.lua_tree.specs.declared.tree.Stat.{Stat, fold-Stat}
use Rattle.lua_tree.specs.declared.tree.StatKind.{StatKind}
use Rattle.lua_tree.specs.Tree as t

-- operators
abbrev pub unary_view : UnOp → t.UnOp
unary_view unary.Not = t.not_
unary_view unary.Length = t.length_of
unary_view unary.Minus = t.negate

abbrev pub binary_view : BinOp → t.BinOp
binary_view binary.Or = t.or_
binary_view binary.And = t.and_
binary_view binary.Less = t.less
binary_view binary.Greater = t.greater
binary_view binary.LessEqual = t.less_equal
binary_view binary.GreaterEqual = t.greater_equal
binary_view binary.NotEqual = t.not_equal
binary_view binary.Equal = t.equal
binary_view binary.Concat = t.concat
binary_view binary.Add = t.add
binary_view binary.Sub = t.sub
binary_view binary.Mul = t.mul
binary_view binary.Div = t.div
binary_view binary.Mod = t.mod_
binary_view binary.Pow = t.pow

-- Lists of parts that are seen already. A field and an arm are seen as what they put in front of those behind them.
abbrev pub exprs_of : List t.Expr → t.Exprs
exprs_of [] = t.no_exprs
exprs_of (e ∷ es) = t.expr_and e (exprs_of es)

abbrev pub fields_of : List (t.Fields → t.Fields) → t.Fields
fields_of [] = t.no_fields
fields_of (f ∷ fs) = f (fields_of fs)

abbrev pub block_of : List t.Stat → t.Block
block_of [] = t.no_stats
block_of (s ∷ ss) = t.stat_and s (block_of ss)

abbrev pub arms_of : List (t.Arms → t.Arms) → t.Arms → t.Arms
arms_of [] last = last
arms_of (a ∷ rest) last = a (arms_of rest last)

abbrev pub else_of : Option t.Block → t.Arms
else_of None = t.no_else
else_of (Some b) = t.else_block b

abbrev pub num_for_of : List ℕ → t.Expr → t.Expr → Option t.Expr → t.Block → ℕ → t.Stat
num_for_of x a b None body line = t.num_for line x a b body
num_for_of x a b (Some c) body line = t.num_for_by line x a b c body

-- One layer of each type, whose parts are seen already. What an expression or a statement is waits for its line.
abbrev pub Layers : ((A B C D E F G H : Type 0) → Type 0) → Type 0
Layers L = L (ℕ → t.Expr) (t.Fields → t.Fields) (ℕ → t.Stat) (t.Arms → t.Arms) t.Block t.Expr t.Func t.Stat

abbrev pub expr_kind_step : Layers ExprKind-F → ℕ → t.Expr
expr_kind_step ExprKind-F.Nil line = t.nil line
expr_kind_step ExprKind-F.True line = t.true_ line
expr_kind_step ExprKind-F.False line = t.false_ line
expr_kind_step (ExprKind-F.Number n) line = t.number line n
expr_kind_step (ExprKind-F.Str s) line = t.str line s
expr_kind_step ExprKind-F.Dots line = t.dots line
expr_kind_step (ExprKind-F.ExprKind::Function f) line = t.function line f
expr_kind_step (ExprKind-F.Name x) line = t.name line x
expr_kind_step (ExprKind-F.Index a b) line = t.index line a.value b.value
expr_kind_step (ExprKind-F.ExprKind::Call f args) line = t.call line f.value (exprs_of args)
expr_kind_step (ExprKind-F.Method o x args) line = t.method line o.value x (exprs_of args)
expr_kind_step (ExprKind-F.Table fs) line = t.table line (fields_of fs)
expr_kind_step (ExprKind-F.Unary op e) line = t.unary line (unary_view op) e.value
expr_kind_step (ExprKind-F.Binary op a b) line = t.binary line (binary_view op) a.value b.value
expr_kind_step (ExprKind-F.Paren e) line = t.paren line e.value

abbrev pub field_step : Layers Field-F → t.Fields → t.Fields
field_step (Field-F.Item e) rest = t.item_and e rest
field_step (Field-F.Keyed a b) rest = t.keyed_and a b rest

abbrev pub stat_kind_step : Layers StatKind-F → ℕ → t.Stat
stat_kind_step (StatKind-F.Assign xs es) line = t.assign line (exprs_of xs) (exprs_of es)
stat_kind_step (StatKind-F.Local xs es) line = t.local line xs (exprs_of es)
stat_kind_step (StatKind-F.StatKind::Call e) line = t.call_stat line e
stat_kind_step (StatKind-F.Do b) line = t.do_block line b
stat_kind_step (StatKind-F.While e b) line = t.while_loop line e b
stat_kind_step (StatKind-F.Repeat b e) line = t.repeat_loop line b e
stat_kind_step (StatKind-F.If arms last) line = t.if_stat line (arms_of arms (else_of last))
stat_kind_step (StatKind-F.NumFor x a b c body) line = num_for_of x a b c body line
stat_kind_step (StatKind-F.GenFor xs es b) line = t.gen_for line xs (exprs_of es) b
stat_kind_step (StatKind-F.StatKind::Function e f) line = t.function_stat line e f
stat_kind_step (StatKind-F.LocalFunction x f) line = t.local_function line x f
stat_kind_step (StatKind-F.Return es) line = t.return_stat line (exprs_of es)
stat_kind_step StatKind-F.Break line = t.break_stat line

abbrev pub arm_step : Layers Arm-F → t.Arms → t.Arms
arm_step a rest = t.arm_and a.test a.block rest

abbrev pub block_step : Layers Block-F → t.Block
block_step b = block_of b.stats

abbrev pub expr_step : Layers Expr-F → t.Expr
expr_step e = e.what e.line

abbrev pub func_step : Layers Func-F → t.Func
func_step f = t.func f.line f.params f.dots f.body

abbrev pub stat_step : Layers Stat-F → t.Stat
stat_step s = s.what s.line

-- the tree of a value of each type
abbrev pub expr_view : Expr → t.Expr
expr_view = fold-Expr (ℕ → t.Expr) (t.Fields → t.Fields) (ℕ → t.Stat) (t.Arms → t.Arms) t.Block t.Expr t.Func t.Stat expr_kind_step field_step stat_kind_step arm_step block_step expr_step func_step stat_step

abbrev pub expr_kind_view : ExprKind → ℕ → t.Expr
expr_kind_view = fold-ExprKind (ℕ → t.Expr) (t.Fields → t.Fields) (ℕ → t.Stat) (t.Arms → t.Arms) t.Block t.Expr t.Func t.Stat expr_kind_step field_step stat_kind_step arm_step block_step expr_step func_step stat_step

abbrev pub field_view : Field → t.Fields → t.Fields
field_view = fold-Field (ℕ → t.Expr) (t.Fields → t.Fields) (ℕ → t.Stat) (t.Arms → t.Arms) t.Block t.Expr t.Func t.Stat expr_kind_step field_step stat_kind_step arm_step block_step expr_step func_step stat_step

abbrev pub func_view : Func → t.Func
func_view = fold-Func (ℕ → t.Expr) (t.Fields → t.Fields) (ℕ → t.Stat) (t.Arms → t.Arms) t.Block t.Expr t.Func t.Stat expr_kind_step field_step stat_kind_step arm_step block_step expr_step func_step stat_step

abbrev pub arm_view : Arm → t.Arms → t.Arms
arm_view = fold-Arm (ℕ → t.Expr) (t.Fields → t.Fields) (ℕ → t.Stat) (t.Arms → t.Arms) t.Block t.Expr t.Func t.Stat expr_kind_step field_step stat_kind_step arm_step block_step expr_step func_step stat_step

abbrev pub block_view : Block → t.Block
block_view = fold-Block (ℕ → t.Expr) (t.Fields → t.Fields) (ℕ → t.Stat) (t.Arms → t.Arms) t.Block t.Expr t.Func t.Stat expr_kind_step field_step stat_kind_step arm_step block_step expr_step func_step stat_step

abbrev pub stat_view : Stat → t.Stat
stat_view = fold-Stat (ℕ → t.Expr) (t.Fields → t.Fields) (ℕ → t.Stat) (t.Arms → t.Arms) t.Block t.Expr t.Func t.Stat expr_kind_step field_step stat_kind_step arm_step block_step expr_step func_step stat_step

-- lists of them
abbrev pub exprs_view : List Expr → t.Exprs
exprs_view es = exprs_of (map expr_view es)

abbrev pub fields_view : List Field → t.Fields
fields_view fs = fields_of (map field_view fs)
