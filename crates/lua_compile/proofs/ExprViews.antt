-- What expressions are seen as.
use Rattle.std.proofs.Common.{ℕ, ℤ, List, Global, ◌≡◌, rules, ap, ◌∙◌, map}
use Rattle.std.specs.declared.boxed.Box.{Box}
use Rattle.lua_tree.specs.Tree as t
use Rattle.lua_tree.specs.Tree.{Bytes}
use Rattle.lua_tree.specs.declared.tree.Expr.{Expr}
use Rattle.lua_tree.specs.declared.tree.Expr as expr_type
use Rattle.lua_tree.specs.declared.tree.ExprKind.{ExprKind}
use Rattle.lua_tree.specs.declared.tree.ExprKind as kind
use Rattle.lua_tree.specs.declared.tree.ExprKind.TheVariants as what
use Rattle.lua_tree.specs.declared.tree.ExprKind.TheFolds.{fold_out-Expr}
use Rattle.lua_tree.specs.declared.tree.Field.{Field}
use Rattle.lua_tree.specs.declared.tree.Func.{Func}
use Rattle.lua_tree.specs.declared.tree.BinOp.{BinOp}
use Rattle.lua_tree.specs.declared.tree.UnOp.{UnOp}
use Rattle.lua_tree.specs.View.{expr_kind_step, field_step, stat_kind_step, arm_step, block_step, expr_step, func_step, stat_step, expr_view, expr_kind_view, func_view, field_view, exprs_of, fields_of, unary_view, binary_view}

expr_opened : (e : Expr) → expr_view e ≡ expr_kind_view e.what e.line
expr_opened = fold_out-Expr (ℕ → t.Expr) (t.Fields → t.Fields) (ℕ → t.Stat) (t.Arms → t.Arms) t.Block t.Expr t.Func t.Stat expr_kind_step field_step stat_kind_step arm_step block_step expr_step func_step stat_step

-- an expression is seen as what its kind is
seen : (x : Expr) (k : ExprKind) (e : t.Expr) → x.what ≡ k → expr_kind_view k x.line ≡ e → expr_view x ≡ e
seen x k e h v = expr_opened x ∙ ap (λ k. expr_kind_view k x.line) h ∙ v

nil_kind : (l : ℕ) → expr_kind_view what.Nil l ≡ t.nil l
nil_kind l = search (rules, kind.the_lemmas)

true_kind : (l : ℕ) → expr_kind_view what.True l ≡ t.true_ l
true_kind l = search (rules, kind.the_lemmas)

false_kind : (l : ℕ) → expr_kind_view what.False l ≡ t.false_ l
false_kind l = search (rules, kind.the_lemmas)

number_kind : (l : ℕ) (n : ℤ) → expr_kind_view (what.Number n) l ≡ t.number l n
number_kind l n = search (rules, kind.the_lemmas)

str_kind : (l : ℕ) (s : Bytes) → expr_kind_view (what.Str s) l ≡ t.str l s
str_kind l s = search (rules, kind.the_lemmas)

dots_kind : (l : ℕ) → expr_kind_view what.Dots l ≡ t.dots l
dots_kind l = search (rules, kind.the_lemmas)

function_kind : (l : ℕ) (f : Func) → expr_kind_view (what.Function f) l ≡ t.function l (func_view f)
function_kind l f = search (rules, kind.the_lemmas, expr_type.the_lemmas)

name_kind : (l : ℕ) (s : Bytes) → expr_kind_view (what.Name s) l ≡ t.name l s
name_kind l s = search (rules, kind.the_lemmas)

index_kind : (l : ℕ) (a b : Box Expr Global) → expr_kind_view (what.Index a b) l ≡ t.index l (expr_view a.value) (expr_view b.value)
index_kind l a b = search (rules, kind.the_lemmas, expr_type.the_lemmas)

call_kind : (l : ℕ) (a : Box Expr Global) (es : List Expr) → expr_kind_view (what.Call a es) l ≡ t.call l (expr_view a.value) (exprs_of (map expr_view es))
call_kind l a es = search (rules, kind.the_lemmas, expr_type.the_lemmas)

method_kind : (l : ℕ) (a : Box Expr Global) (x : Bytes) (es : List Expr) → expr_kind_view (what.Method a x es) l ≡ t.method l (expr_view a.value) x (exprs_of (map expr_view es))
method_kind l a x es = search (rules, kind.the_lemmas, expr_type.the_lemmas)

table_kind : (l : ℕ) (fs : List Field) → expr_kind_view (what.Table fs) l ≡ t.table l (fields_of (map field_view fs))
table_kind l fs = search (rules, kind.the_lemmas, expr_type.the_lemmas)

unary_kind : (l : ℕ) (op : UnOp) (a : Box Expr Global) → expr_kind_view (what.Unary op a) l ≡ t.unary l (unary_view op) (expr_view a.value)
unary_kind l op a = search (rules, kind.the_lemmas, expr_type.the_lemmas)

binary_kind : (l : ℕ) (op : BinOp) (a b : Box Expr Global) → expr_kind_view (what.Binary op a b) l ≡ t.binary l (binary_view op) (expr_view a.value) (expr_view b.value)
binary_kind l op a b = search (rules, kind.the_lemmas, expr_type.the_lemmas)

paren_kind : (l : ℕ) (a : Box Expr Global) → expr_kind_view (what.Paren a) l ≡ t.paren l (expr_view a.value)
paren_kind l a = search (rules, kind.the_lemmas, expr_type.the_lemmas)

module _ (x : Expr) where
  pub nil_seen : x.what ≡ what.Nil → expr_view x ≡ t.nil x.line
  nil_seen h = seen x what.Nil _ h (nil_kind x.line)

  pub true_seen : x.what ≡ what.True → expr_view x ≡ t.true_ x.line
  true_seen h = seen x what.True _ h (true_kind x.line)

  pub false_seen : x.what ≡ what.False → expr_view x ≡ t.false_ x.line
  false_seen h = seen x what.False _ h (false_kind x.line)

  pub number_seen : (n : ℤ) → x.what ≡ what.Number n → expr_view x ≡ t.number x.line n
  number_seen n h = seen x (what.Number n) _ h (number_kind x.line n)

  pub str_seen : (s : Bytes) → x.what ≡ what.Str s → expr_view x ≡ t.str x.line s
  str_seen s h = seen x (what.Str s) _ h (str_kind x.line s)

  pub dots_seen : x.what ≡ what.Dots → expr_view x ≡ t.dots x.line
  dots_seen h = seen x what.Dots _ h (dots_kind x.line)

  pub function_seen : (f : Func) → x.what ≡ what.Function f → expr_view x ≡ t.function x.line (func_view f)
  function_seen f h = seen x (what.Function f) _ h (function_kind x.line f)

  pub name_seen : (s : Bytes) → x.what ≡ what.Name s → expr_view x ≡ t.name x.line s
  name_seen s h = seen x (what.Name s) _ h (name_kind x.line s)

  pub index_seen : (a b : Box Expr Global) → x.what ≡ what.Index a b → expr_view x ≡ t.index x.line (expr_view a.value) (expr_view b.value)
  index_seen a b h = seen x (what.Index a b) _ h (index_kind x.line a b)

  pub call_seen : (a : Box Expr Global) (es : List Expr) → x.what ≡ what.Call a es → expr_view x ≡ t.call x.line (expr_view a.value) (exprs_of (map expr_view es))
  call_seen a es h = seen x (what.Call a es) _ h (call_kind x.line a es)

  pub method_seen : (a : Box Expr Global) (s : Bytes) (es : List Expr) → x.what ≡ what.Method a s es → expr_view x ≡ t.method x.line (expr_view a.value) s (exprs_of (map expr_view es))
  method_seen a s es h = seen x (what.Method a s es) _ h (method_kind x.line a s es)

  pub table_seen : (fs : List Field) → x.what ≡ what.Table fs → expr_view x ≡ t.table x.line (fields_of (map field_view fs))
  table_seen fs h = seen x (what.Table fs) _ h (table_kind x.line fs)

  pub unary_seen : (op : UnOp) (a : Box Expr Global) → x.what ≡ what.Unary op a → expr_view x ≡ t.unary x.line (unary_view op) (expr_view a.value)
  unary_seen op a h = seen x (what.Unary op a) _ h (unary_kind x.line op a)

  pub binary_seen : (op : BinOp) (a b : Box Expr Global) → x.what ≡ what.Binary op a b → expr_view x ≡ t.binary x.line (binary_view op) (expr_view a.value) (expr_view b.value)
  binary_seen op a b h = seen x (what.Binary op a b) _ h (binary_kind x.line op a b)

  pub paren_seen : (a : Box Expr Global) → x.what ≡ what.Paren a → expr_view x ≡ t.paren x.line (expr_view a.value)
  paren_seen a h = seen x (what.Paren a) _ h (paren_kind x.line a)
