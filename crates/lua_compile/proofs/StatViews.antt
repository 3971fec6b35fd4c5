-- What statements are seen as that `Views` leaves out.
use Rattle.std.proofs.Common.{ℕ, List, [], ◌≡◌, ap, sym, subst, ◌∙◌, map}
use Rattle.lua_tree.specs.Tree as t
use Rattle.lua_tree.specs.Tree.{Bytes}
use Rattle.lua_tree.specs.declared.tree.Stat.{Stat}
use Rattle.lua_tree.specs.declared.tree.ExprKind.TheFolds.{fold_out-Stat, fold_out-Block, fold_out-Arm, fold-roll-StatKind}
use Rattle.lua_tree.specs.declared.tree.StatKind.TheVariants as variant
use Rattle.lua_tree.specs.declared.tree.ExprKind.TheOpen.{StatKind-F}
use Rattle.lua_tree.specs.declared.tree.Expr.{Expr}
use Rattle.lua_tree.specs.declared.tree.Func.{Func}
use Rattle.lua_tree.specs.declared.tree.Block.{Block}
use Rattle.lua_tree.specs.declared.tree.Arm.{Arm}
use Rattle.lua_tree.specs.declared.tree.ExprKind.TheViews.{out-Arm, out-Block}
use Rattle.lua_tree.specs.View.{expr_kind_step, field_step, stat_kind_step, arm_step, block_step, expr_step, func_step, stat_step, expr_view, func_view, block_view, stat_view, arm_view, exprs_of, block_of}
use Rattle.std.specs.Prelude.{Result, Ok, Err, OnOk}
use Rattle.lua_code.specs.Instr as i
use Rattle.lua_code.specs.Scope.{Scope}
use Rattle.lua_code.specs.Code.{stat_code, scope_behind}
use Rattle.lua_compile.specs.Locals.{TakesBlock, TakesStat}
use Rattle.lua_assembler.specs.Writing.{Written, Adds}
use Rattle.lua_compile.proofs.Scoping.{BlockFrom, block_ends}
use Rattle.lua_upvalues.proofs.Callers.{stat_kind_view}

stat_opened : (s : Stat) → stat_view s ≡ stat_kind_view s.what s.line
stat_opened = fold_out-Stat (ℕ → t.Expr) (t.Fields → t.Fields) (ℕ → t.Stat) (t.Arms → t.Arms) t.Block t.Expr t.Func t.Stat expr_kind_step field_step stat_kind_step arm_step block_step expr_step func_step stat_step

assign_kind : (xs es : List Expr) (line : ℕ) → stat_kind_view (variant.Assign xs es) line ≡ t.assign line (exprs_of (map expr_view xs)) (exprs_of (map expr_view es))
assign_kind xs es line = ap (λ k. stat_kind_view k line) (sym (variant.rolls-Assign xs es)) ∙ ap (λ g. g line) (fold-roll-StatKind (ℕ → t.Expr) (t.Fields → t.Fields) (ℕ → t.Stat) (t.Arms → t.Arms) t.Block t.Expr t.Func t.Stat expr_kind_step field_step stat_kind_step arm_step block_step expr_step func_step stat_step (StatKind-F.Assign xs es))

pub assign_seen : (s : Stat) (xs es : List Expr) → s.what ≡ variant.Assign xs es → stat_view s ≡ t.assign s.line (exprs_of (map expr_view xs)) (exprs_of (map expr_view es))
assign_seen s xs es h = stat_opened s ∙ ap (λ k. stat_kind_view k s.line) h ∙ assign_kind xs es s.line

local_kind : (xs : List Bytes) (es : List Expr) (line : ℕ) → stat_kind_view (variant.Local xs es) line ≡ t.local line xs (exprs_of (map expr_view es))
local_kind xs es line = ap (λ k. stat_kind_view k line) (sym (variant.rolls-Local xs es)) ∙ ap (λ g. g line) (fold-roll-StatKind (ℕ → t.Expr) (t.Fields → t.Fields) (ℕ → t.Stat) (t.Arms → t.Arms) t.Block t.Expr t.Func t.Stat expr_kind_step field_step stat_kind_step arm_step block_step expr_step func_step stat_step (StatKind-F.Local xs es))

pub local_seen : (s : Stat) (xs : List Bytes) (es : List Expr) → s.what ≡ variant.Local xs es → stat_view s ≡ t.local s.line xs (exprs_of (map expr_view es))
local_seen s xs es h = stat_opened s ∙ ap (λ k. stat_kind_view k s.line) h ∙ local_kind xs es s.line

call_kind : (e : Expr) (line : ℕ) → stat_kind_view (variant.Call e) line ≡ t.call_stat line (expr_view e)
call_kind e line = ap (λ k. stat_kind_view k line) (sym (variant.rolls-Call e)) ∙ ap (λ g. g line) (fold-roll-StatKind (ℕ → t.Expr) (t.Fields → t.Fields) (ℕ → t.Stat) (t.Arms → t.Arms) t.Block t.Expr t.Func t.Stat expr_kind_step field_step stat_kind_step arm_step block_step expr_step func_step stat_step (StatKind-F.StatKind::Call e))

pub call_seen : (s : Stat) (e : Expr) → s.what ≡ variant.Call e → stat_view s ≡ t.call_stat s.line (expr_view e)
call_seen s e h = stat_opened s ∙ ap (λ k. stat_kind_view k s.line) h ∙ call_kind e s.line

do_kind : (b : Block) (line : ℕ) → stat_kind_view (variant.Do b) line ≡ t.do_block line (block_view b)
do_kind b line = ap (λ k. stat_kind_view k line) (sym (variant.rolls-Do b)) ∙ ap (λ g. g line) (fold-roll-StatKind (ℕ → t.Expr) (t.Fields → t.Fields) (ℕ → t.Stat) (t.Arms → t.Arms) t.Block t.Expr t.Func t.Stat expr_kind_step field_step stat_kind_step arm_step block_step expr_step func_step stat_step (StatKind-F.Do b))

pub do_seen : (s : Stat) (b : Block) → s.what ≡ variant.Do b → stat_view s ≡ t.do_block s.line (block_view b)
do_seen s b h = stat_opened s ∙ ap (λ k. stat_kind_view k s.line) h ∙ do_kind b s.line

while_kind : (e : Expr) (b : Block) (line : ℕ) → stat_kind_view (variant.While e b) line ≡ t.while_loop line (expr_view e) (block_view b)
while_kind e b line = ap (λ k. stat_kind_view k line) (sym (variant.rolls-While e b)) ∙ ap (λ g. g line) (fold-roll-StatKind (ℕ → t.Expr) (t.Fields → t.Fields) (ℕ → t.Stat) (t.Arms → t.Arms) t.Block t.Expr t.Func t.Stat expr_kind_step field_step stat_kind_step arm_step block_step expr_step func_step stat_step (StatKind-F.While e b))

pub while_seen : (s : Stat) (e : Expr) (b : Block) → s.what ≡ variant.While e b → stat_view s ≡ t.while_loop s.line (expr_view e) (block_view b)
while_seen s e b h = stat_opened s ∙ ap (λ k. stat_kind_view k s.line) h ∙ while_kind e b s.line

repeat_kind : (b : Block) (e : Expr) (line : ℕ) → stat_kind_view (variant.Repeat b e) line ≡ t.repeat_loop line (block_view b) (expr_view e)
repeat_kind b e line = ap (λ k. stat_kind_view k line) (sym (variant.rolls-Repeat b e)) ∙ ap (λ g. g line) (fold-roll-StatKind (ℕ → t.Expr) (t.Fields → t.Fields) (ℕ → t.Stat) (t.Arms → t.Arms) t.Block t.Expr t.Func t.Stat expr_kind_step field_step stat_kind_step arm_step block_step expr_step func_step stat_step (StatKind-F.Repeat b e))

pub repeat_seen : (s : Stat) (b : Block) (e : Expr) → s.what ≡ variant.Repeat b e → stat_view s ≡ t.repeat_loop s.line (block_view b) (expr_view e)
repeat_seen s b e h = stat_opened s ∙ ap (λ k. stat_kind_view k s.line) h ∙ repeat_kind b e s.line

local_function_kind : (x : Bytes) (f : Func) (line : ℕ) → stat_kind_view (variant.LocalFunction x f) line ≡ t.local_function line x (func_view f)
local_function_kind x f line = ap (λ k. stat_kind_view k line) (sym (variant.rolls-LocalFunction x f)) ∙ ap (λ g. g line) (fold-roll-StatKind (ℕ → t.Expr) (t.Fields → t.Fields) (ℕ → t.Stat) (t.Arms → t.Arms) t.Block t.Expr t.Func t.Stat expr_kind_step field_step stat_kind_step arm_step block_step expr_step func_step stat_step (StatKind-F.LocalFunction x f))

pub local_function_seen : (s : Stat) (x : Bytes) (f : Func) → s.what ≡ variant.LocalFunction x f → stat_view s ≡ t.local_function s.line x (func_view f)
local_function_seen s x f h = stat_opened s ∙ ap (λ k. stat_kind_view k s.line) h ∙ local_function_kind x f s.line

return_kind : (es : List Expr) (line : ℕ) → stat_kind_view (variant.Return es) line ≡ t.return_stat line (exprs_of (map expr_view es))
return_kind es line = ap (λ k. stat_kind_view k line) (sym (variant.rolls-Return es)) ∙ ap (λ g. g line) (fold-roll-StatKind (ℕ → t.Expr) (t.Fields → t.Fields) (ℕ → t.Stat) (t.Arms → t.Arms) t.Block t.Expr t.Func t.Stat expr_kind_step field_step stat_kind_step arm_step block_step expr_step func_step stat_step (StatKind-F.Return es))

pub return_seen : (s : Stat) (es : List Expr) → s.what ≡ variant.Return es → stat_view s ≡ t.return_stat s.line (exprs_of (map expr_view es))
return_seen s es h = stat_opened s ∙ ap (λ k. stat_kind_view k s.line) h ∙ return_kind es s.line

break_kind : (line : ℕ) → stat_kind_view variant.Break line ≡ t.break_stat line
break_kind line = ap (λ k. stat_kind_view k line) (sym variant.rolls-Break) ∙ ap (λ g. g line) (fold-roll-StatKind (ℕ → t.Expr) (t.Fields → t.Fields) (ℕ → t.Stat) (t.Arms → t.Arms) t.Block t.Expr t.Func t.Stat expr_kind_step field_step stat_kind_step arm_step block_step expr_step func_step stat_step StatKind-F.Break)

pub break_seen : (s : Stat) → s.what ≡ variant.Break → stat_view s ≡ t.break_stat s.line
break_seen s h = stat_opened s ∙ ap (λ k. stat_kind_view k s.line) h ∙ break_kind s.line

pub block_opened : (b : Block) → block_view b ≡ block_of (map stat_view (out-Block b).stats)
block_opened = fold_out-Block (ℕ → t.Expr) (t.Fields → t.Fields) (ℕ → t.Stat) (t.Arms → t.Arms) t.Block t.Expr t.Func t.Stat expr_kind_step field_step stat_kind_step arm_step block_step expr_step func_step stat_step

pub arm_opened : (a : Arm) → arm_view a ≡ (λ (rest : t.Arms). t.arm_and (expr_view (out-Arm a).test) (block_view (out-Arm a).block) rest)
arm_opened = fold_out-Arm (ℕ → t.Expr) (t.Fields → t.Fields) (ℕ → t.Stat) (t.Arms → t.Arms) t.Block t.Expr t.Func t.Stat expr_kind_step field_step stat_kind_step arm_step block_step expr_step func_step stat_step

-- a block whose statements are all there
pub stats_put : (b : Block) (ss : List Stat) (exit : ℕ) (file : Bytes) (inner now : Scope) (old new : Written) → ss ≡ (out-Block b).stats → BlockFrom 0 ss exit file inner now old new → TakesBlock (block_view b) exit file inner now old new
stats_put b ss exit file inner now old new e h =
    subst (λ (v : t.Block). TakesBlock v exit file inner now old new) (ap (λ ys. block_of (map stat_view ys)) e ∙ sym (block_opened b))
    (block_ends ss exit file inner now old new h)

pub on_both : {T E P Q R : Type 0} (r : Result T E) → (P → Q → R) → OnOk r P → OnOk r Q → OnOk r R
on_both (Ok x) f p q = f p q
on_both (Err e) f p q = tt

-- a statement without locals
pub takes_plain : (s : Stat) (v : t.Stat) (exit : ℕ) (file : Bytes) (inner outer : Scope) (old new : Written) → stat_view s ≡ v
    → ((later : List Bytes) (scope : Scope) → scope_behind v later scope ≡ scope)
    → ((later : List Bytes) (scope : Scope) → stat_code v [] exit file scope ≡ stat_code v later exit file scope)
    → outer ≡ inner → Adds (stat_code v [] exit file inner) old new → TakesStat (stat_view s) exit file inner outer old new
takes_plain s v exit file inner outer old new seen same code o a =
    subst (λ (w : t.Stat). TakesStat w exit file inner outer old new) (sym seen)
    (λ later before e.
    let there : inner ≡ before = e ∙ same later before in
    (o ∙ there, subst (λ (l : List i.Instr). Adds l old new) (ap (λ (sc : Scope). stat_code v [] exit file sc) there ∙ code later before) a))

-- one with locals
pub takes_seen : (s : Stat) (v : t.Stat) (exit : ℕ) (file : Bytes) (inner outer : Scope) (old new : Written) → stat_view s ≡ v → TakesStat v exit file inner outer old new → TakesStat (stat_view s) exit file inner outer old new
takes_seen s v exit file inner outer old new seen h = subst (λ (w : t.Stat). TakesStat w exit file inner outer old new) (sym seen) h
