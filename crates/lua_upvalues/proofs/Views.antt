-- What statements are seen as.
use Rattle.std.proofs.Common.{ℕ, List, ◌≡◌, ap, sym, ◌∙◌, map, Option, Some, None}
use Rattle.lua_tree.specs.Tree as t
use Rattle.lua_tree.specs.Tree.{Bytes}
use Rattle.lua_tree.specs.declared.tree.Stat.{Stat}
use Rattle.lua_tree.specs.declared.tree.ExprKind.TheFolds.{fold_out-Stat, fold-roll-StatKind}
use Rattle.lua_tree.specs.declared.tree.StatKind.{StatKind, fold-StatKind}
use Rattle.lua_tree.specs.declared.tree.StatKind.TheVariants as variant
use Rattle.lua_tree.specs.declared.tree.ExprKind.TheOpen.{StatKind-F}
use Rattle.lua_tree.specs.declared.tree.Expr.{Expr}
use Rattle.lua_tree.specs.declared.tree.Func.{Func}
use Rattle.lua_tree.specs.declared.tree.Arm.{Arm}
use Rattle.lua_tree.specs.declared.tree.Block.{Block}
use Rattle.lua_tree.specs.View.{expr_kind_step, field_step, stat_kind_step, arm_step, block_step, expr_step, func_step, stat_step, expr_view, func_view, arm_view, block_view, stat_view, exprs_of, arms_of, else_of, num_for_of}
use Rattle.lua_upvalues.specs.Parts.{block_option, expr_option}

abbrev pub stat_kind_view : StatKind → ℕ → t.Stat
stat_kind_view = fold-StatKind (ℕ → t.Expr) (t.Fields → t.Fields) (ℕ → t.Stat) (t.Arms → t.Arms) t.Block t.Expr t.Func t.Stat expr_kind_step field_step stat_kind_step arm_step block_step expr_step func_step stat_step

stat_opened : (s : Stat) → stat_view s ≡ stat_kind_view s.what s.line
stat_opened = fold_out-Stat (ℕ → t.Expr) (t.Fields → t.Fields) (ℕ → t.Stat) (t.Arms → t.Arms) t.Block t.Expr t.Func t.Stat expr_kind_step field_step stat_kind_step arm_step block_step expr_step func_step stat_step

generic_kind : (xs : List Bytes) (es : List Expr) (b : Block) (line : ℕ) → stat_kind_view (variant.GenFor xs es b) line ≡ t.gen_for line xs (exprs_of (map expr_view es)) (block_view b)
generic_kind xs es b line = ap (λ k. stat_kind_view k line) (sym (variant.rolls-GenFor xs es b)) ∙ ap (λ f. f line) (fold-roll-StatKind (ℕ → t.Expr) (t.Fields → t.Fields) (ℕ → t.Stat) (t.Arms → t.Arms) t.Block t.Expr t.Func t.Stat expr_kind_step field_step stat_kind_step arm_step block_step expr_step func_step stat_step (StatKind-F.GenFor xs es b))

pub generic_seen : (s : Stat) (xs : List Bytes) (es : List Expr) (b : Block) → s.what ≡ variant.GenFor xs es b → stat_view s ≡ t.gen_for s.line xs (exprs_of (map expr_view es)) (block_view b)
generic_seen s xs es b h = stat_opened s ∙ ap (λ k. stat_kind_view k s.line) h ∙ generic_kind xs es b s.line

function_kind : (e : Expr) (f : Func) (line : ℕ) → stat_kind_view (variant.Function e f) line ≡ t.function_stat line (expr_view e) (func_view f)
function_kind e f line = ap (λ k. stat_kind_view k line) (sym (variant.rolls-Function e f)) ∙ ap (λ g. g line) (fold-roll-StatKind (ℕ → t.Expr) (t.Fields → t.Fields) (ℕ → t.Stat) (t.Arms → t.Arms) t.Block t.Expr t.Func t.Stat expr_kind_step field_step stat_kind_step arm_step block_step expr_step func_step stat_step (StatKind-F.StatKind::Function e f))

pub function_seen : (s : Stat) (e : Expr) (f : Func) → s.what ≡ variant.Function e f → stat_view s ≡ t.function_stat s.line (expr_view e) (func_view f)
function_seen s e f h = stat_opened s ∙ ap (λ k. stat_kind_view k s.line) h ∙ function_kind e f s.line

if_kind : (arms : List Arm) (last : Option Block) (line : ℕ) → stat_kind_view (variant.If arms last) line ≡ t.if_stat line (arms_of (map arm_view arms) (else_of (block_option last)))
if_kind arms None line = ap (λ k. stat_kind_view k line) (sym (variant.rolls-If arms None)) ∙ ap (λ g. g line) (fold-roll-StatKind (ℕ → t.Expr) (t.Fields → t.Fields) (ℕ → t.Stat) (t.Arms → t.Arms) t.Block t.Expr t.Func t.Stat expr_kind_step field_step stat_kind_step arm_step block_step expr_step func_step stat_step (StatKind-F.If arms None))
if_kind arms (Some b) line = ap (λ k. stat_kind_view k line) (sym (variant.rolls-If arms (Some b))) ∙ ap (λ g. g line) (fold-roll-StatKind (ℕ → t.Expr) (t.Fields → t.Fields) (ℕ → t.Stat) (t.Arms → t.Arms) t.Block t.Expr t.Func t.Stat expr_kind_step field_step stat_kind_step arm_step block_step expr_step func_step stat_step (StatKind-F.If arms (Some b)))

pub if_seen : (s : Stat) (arms : List Arm) (last : Option Block) → s.what ≡ variant.If arms last → stat_view s ≡ t.if_stat s.line (arms_of (map arm_view arms) (else_of (block_option last)))
if_seen s arms last h = stat_opened s ∙ ap (λ k. stat_kind_view k s.line) h ∙ if_kind arms last s.line

numeric_kind : (x : Bytes) (a b : Expr) (c : Option Expr) (body : Block) (line : ℕ) → stat_kind_view (variant.NumFor x a b c body) line ≡ num_for_of x (expr_view a) (expr_view b) (expr_option c) (block_view body) line
numeric_kind x a b None body line = ap (λ k. stat_kind_view k line) (sym (variant.rolls-NumFor x a b None body)) ∙ ap (λ g. g line) (fold-roll-StatKind (ℕ → t.Expr) (t.Fields → t.Fields) (ℕ → t.Stat) (t.Arms → t.Arms) t.Block t.Expr t.Func t.Stat expr_kind_step field_step stat_kind_step arm_step block_step expr_step func_step stat_step (StatKind-F.NumFor x a b None body))
numeric_kind x a b (Some c) body line = ap (λ k. stat_kind_view k line) (sym (variant.rolls-NumFor x a b (Some c) body)) ∙ ap (λ g. g line) (fold-roll-StatKind (ℕ → t.Expr) (t.Fields → t.Fields) (ℕ → t.Stat) (t.Arms → t.Arms) t.Block t.Expr t.Func t.Stat expr_kind_step field_step stat_kind_step arm_step block_step expr_step func_step stat_step (StatKind-F.NumFor x a b (Some c) body))

pub numeric_seen : (s : Stat) (x : Bytes) (a b : Expr) (c : Option Expr) (body : Block) → s.what ≡ variant.NumFor x a b c body → stat_view s ≡ num_for_of x (expr_view a) (expr_view b) (expr_option c) (block_view body) s.line
numeric_seen s x a b c body h = stat_opened s ∙ ap (λ k. stat_kind_view k s.line) h ∙ numeric_kind x a b c body s.line

repeat_kind : (b : Block) (e : Expr) (line : ℕ) → stat_kind_view (variant.Repeat b e) line ≡ t.repeat_loop line (block_view b) (expr_view e)
repeat_kind b e line = ap (λ k. stat_kind_view k line) (sym (variant.rolls-Repeat b e)) ∙ ap (λ g. g line) (fold-roll-StatKind (ℕ → t.Expr) (t.Fields → t.Fields) (ℕ → t.Stat) (t.Arms → t.Arms) t.Block t.Expr t.Func t.Stat expr_kind_step field_step stat_kind_step arm_step block_step expr_step func_step stat_step (StatKind-F.Repeat b e))

pub repeat_seen : (s : Stat) (b : Block) (e : Expr) → s.what ≡ variant.Repeat b e → stat_view s ≡ t.repeat_loop s.line (block_view b) (expr_view e)
repeat_seen s b e h = stat_opened s ∙ ap (λ k. stat_kind_view k s.line) h ∙ repeat_kind b e s.line
