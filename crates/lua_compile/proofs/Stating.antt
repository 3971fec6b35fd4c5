-- Statements, part by part.
use Rattle.std.proofs.Common.{◌≡◌, ℕ, suc, ◌+◌, ◌-◌, Bool, true, false, List, [], ◌∷◌, ◌++◌, length, refl, ap, subst, ◌∙◌, arith}
use Rattle.std.specs.Prelude.{Option, Some, None}
use Rattle.lua_tree.specs.Tree as t
use Rattle.lua_tree.specs.Tree.{Bytes, Expr, Exprs, Func, Stat, expr_and, no_exprs}
use Rattle.lua_meaning.specs.Value as values
use Rattle.lua_meaning.specs.Names.{func_names, is_captured}
use Rattle.lua_code.specs.Instr as i
use Rattle.lua_code.specs.Instr.{slot}
use Rattle.lua_code.specs.Scope.{Scope, named, kind_of, slot_count, declared, declare_code, seat_of, cell_names, cell_places}
use Rattle.lua_code.specs.Code.{expr_code, exprs_code, first_code, func_code, stat_code, targets_code, target_code, target_count, fitted, count, tailed, store, stores, width, widths, own_slot, in_place, local_code}
use Rattle.lua_assembler.specs.Writing.{Written, Adds}
use Rattle.lua_compile.specs.Locals.{TakesLocals, TakesStat}
use Rattle.lua_assembler.proofs.Adding.{both_added, one_in_front, three_added, four_added}

-- a statement without locals
pub plain : (code : Scope → List i.Instr) (inner outer : Scope) (old new : Written) → outer ≡ inner → Adds (code inner) old new → (before : Scope) → inner ≡ before → (outer ≡ before) × Adds (code before) old new
plain code inner outer old new o a before e = (o ∙ e, subst (λ (sc : Scope). Adds (code sc) old new) e a)

local_added : (line : ℕ) (names : List Bytes) (es : Exprs) (file : Bytes) (inner outer : Scope) (wanted : ℕ) (w0 w1 w2 w3 : Written)
    → TakesLocals (length names) inner outer w0 w1
    → wanted ≡ length names
    → Adds (fitted (slot_count outer) wanted (count es) (tailed es)) w1 w2
    → Adds (exprs_code es file outer (slot_count outer)) w2 w3
    → TakesStat (t.local line names es) 0 file inner outer w0 w3
local_added line names es file inner outer wanted w0 w1 w2 w3 tl ew a2 a3 later before e =
    let taken = tl names later before refl e in
    let fit : Adds (fitted (slot_count outer) (length names) (count es) (tailed es)) w1 w2 = subst (λ (n : ℕ). Adds (fitted (slot_count outer) n (count es) (tailed es)) w1 w2) ew a2 in (
      taken.0,
      subst (λ (sc : Scope). Adds (exprs_code es file sc (slot_count sc) ++ (fitted (slot_count sc) (length names) (count es) (tailed es) ++ declare_code names later before)) w0 w3) taken.0
          (three_added (exprs_code es file outer (slot_count outer)) (fitted (slot_count outer) (length names) (count es) (tailed es)) (declare_code names later before) w0 w1 w2 w3 taken.1 fit a3),
    )

function_stat_added : (line : ℕ) (e : Expr) (f : Func) (file : Bytes) (scope : Scope) (from above : ℕ) (w0 w1 w2 w3 : Written)
    → from ≡ slot_count scope + width e → above ≡ suc from
    → Adds (store e above scope (slot (slot_count scope)) (slot (slot_count scope + 1)) (slot from)) w0 w1
    → Adds (i.close from (func_code f file (cell_names scope (func_names f))) (cell_places scope (func_names f)) ∷ []) w1 w2
    → Adds (target_code e file scope (slot_count scope)) w2 w3
    → Adds (stat_code (t.function_stat line e f) [] 0 file scope) w0 w3
function_stat_added line e f file scope from above w0 w1 w2 w3 ef ea a1 a2 a3 =
    let at : ℕ = slot_count scope in
    let up : above ≡ from + 1 = omega (arith, ea) in
    subst (λ (n : ℕ). Adds (target_code e file scope at ++ i.close n (func_code f file (cell_names scope (func_names f))) (cell_places scope (func_names f)) ∷ store e (n + 1) scope (slot at) (slot (at + 1)) (slot n)) w0 w3) ef
    (both_added (target_code e file scope at) (i.close from (func_code f file (cell_names scope (func_names f))) (cell_places scope (func_names f)) ∷ store e (from + 1) scope (slot at) (slot (at + 1)) (slot from)) w0 w2 w3
    (one_in_front (i.close from (func_code f file (cell_names scope (func_names f))) (cell_places scope (func_names f))) (store e (from + 1) scope (slot at) (slot (at + 1)) (slot from)) w0 w1 w2
    (subst (λ (n : ℕ). Adds (store e n scope (slot at) (slot (at + 1)) (slot from)) w0 w1) up a1) a2) a3)

one_slot : (x : Bytes) (captured : Bool) (scope : Scope) → slot_count (named x (kind_of captured) ∷ scope) ≡ suc (slot_count scope)
one_slot x true scope = refl
one_slot x false scope = refl

-- a local function that has a scope around it, which the function itself is in
abbrev local_function_with : (x : Bytes) → Func → (file : Bytes) → (captured : List Bytes) → (before inner : Scope) → (at : ℕ) → List i.Instr
local_function_with x f file captured before inner at =
    i.load at (i.constant values.nil) ∷ (declare_code (x ∷ []) captured before
    ++ i.close at (func_code f file (cell_names inner (func_names f))) (cell_places inner (func_names f))
    ∷ local_code (seat_of inner x) at)

local_function_added : (line : ℕ) (x : Bytes) (f : Func) (file : Bytes) (inner outer : Scope) (at : ℕ) (w0 w1 w2 w3 w4 : Written)
    → at ≡ slot_count inner - 1
    → Adds (local_code (seat_of inner x) at) w0 w1
    → Adds (i.close at (func_code f file (cell_names inner (func_names f))) (cell_places inner (func_names f)) ∷ []) w1 w2
    → TakesLocals 1 inner outer w2 w3
    → Adds (i.load at (i.constant values.nil) ∷ []) w3 w4
    → TakesStat (t.local_function line x f) 0 file inner outer w0 w4
local_function_added line x f file inner outer at w0 w1 w2 w3 w4 ea a1 a2 tl a4 later before e =
    let captured : List Bytes = func_names f ++ later in
    let taken = tl (x ∷ []) captured before refl e in
    let slots : slot_count inner ≡ suc (slot_count before) = ap slot_count e ∙ one_slot x (is_captured [] captured x) before in
    let there : at ≡ slot_count before = omega (arith, ea, slots) in
    let made : Adds (local_function_with x f file captured before inner at) w0 w4 =
    one_in_front (i.load at (i.constant values.nil)) (declare_code (x ∷ []) captured before ++ i.close at (func_code f file (cell_names inner (func_names f))) (cell_places inner (func_names f)) ∷ local_code (seat_of inner x) at) w0 w3 w4
    (both_added (declare_code (x ∷ []) captured before) (i.close at (func_code f file (cell_names inner (func_names f))) (cell_places inner (func_names f)) ∷ local_code (seat_of inner x) at) w0 w2 w3
    (one_in_front (i.close at (func_code f file (cell_names inner (func_names f))) (cell_places inner (func_names f))) (local_code (seat_of inner x) at) w0 w1 w2 a1 a2) taken.1) a4 in (
      taken.0,
      subst (λ (n : ℕ). Adds (local_function_with x f file captured before (declared (x ∷ []) captured before) n) w0 w4) there
          (subst (λ (sc : Scope). Adds (local_function_with x f file captured before sc at) w0 w4) e made),
    )

-- ---- assignments

assign_added : (line : ℕ) (ts es : Exprs) (file : Bytes) (scope : Scope) (from above wanted : ℕ) (w0 w1 w2 w3 w4 : Written)
    → None ≡ own_slot ts es scope
    → from ≡ slot_count scope + widths ts → above ≡ from + wanted → wanted ≡ target_count ts
    → Adds (stores ts above scope (slot_count scope) from) w0 w1
    → Adds (fitted from wanted (count es) (tailed es)) w1 w2
    → Adds (exprs_code es file scope from) w2 w3
    → ((h : ℕ) → from ≡ h + widths ts → Adds (targets_code ts file scope h) w3 w4)
    → Adds (stat_code (t.assign line ts es) [] 0 file scope) w0 w4
assign_added line ts es file scope from above wanted w0 w1 w2 w3 w4 eo ef ea ew a1 a2 a3 a4 =
    let at : ℕ = slot_count scope in
    let up : above ≡ from + target_count ts = omega (arith, ea, ew) in
    let apart : ℕ → List i.Instr = λ (n : ℕ). targets_code ts file scope at ++ (exprs_code es file scope n ++ (fitted n (target_count ts) (count es) (tailed es) ++ stores ts (n + target_count ts) scope at n)) in
    subst (λ (o : Option ℕ). Adds (in_place o (first_code es file scope at) (apart (at + widths ts))) w0 w4) eo
    (subst (λ (n : ℕ). Adds (apart n) w0 w4) ef
    (four_added (targets_code ts file scope at) (exprs_code es file scope from) (fitted from (target_count ts) (count es) (tailed es)) (stores ts (from + target_count ts) scope at from) w0 w1 w2 w3 w4
    (subst (λ (n : ℕ). Adds (stores ts n scope at from) w0 w1) up a1)
    (subst (λ (n : ℕ). Adds (fitted from n (count es) (tailed es)) w1 w2) ew a2)
    a3 (a4 at ef)))

pub in_place_added : (line : ℕ) (ts : Exprs) (e : Expr) (rest : Exprs) (file : Bytes) (scope : Scope) (to : ℕ) (w0 w1 : Written)
    → Some to ≡ own_slot ts (expr_and e rest) scope
    → Adds (expr_code e file scope (slot_count scope) to) w0 w1
    → Adds (stat_code (t.assign line ts (expr_and e rest)) [] 0 file scope) w0 w1
in_place_added line ts e rest file scope to w0 w1 eo a =
    let at : ℕ = slot_count scope in
    let from : ℕ = at + widths ts in
    subst (λ (o : Option ℕ). Adds (in_place o (first_code (expr_and e rest) file scope at) (targets_code ts file scope at ++ (exprs_code (expr_and e rest) file scope from ++ (fitted from (target_count ts) (count (expr_and e rest)) (tailed (expr_and e rest)) ++ stores ts (from + target_count ts) scope at from)))) w0 w1) eo a

return_added : (line : ℕ) (es : Exprs) (file : Bytes) (scope : Scope) (w0 w1 w2 : Written)
    → Adds (i.leave (slot_count scope) (count es) (tailed es) ∷ []) w0 w1 → Adds (exprs_code es file scope (slot_count scope)) w1 w2
    → Adds (stat_code (t.return_stat line es) [] 0 file scope) w0 w2
return_added line es file scope w0 w1 w2 a1 a2 = both_added (exprs_code es file scope (slot_count scope)) (i.leave (slot_count scope) (count es) (tailed es) ∷ []) w0 w1 w2 a1 a2

-- ---- the same, as the functions have it

pub local_put : (line : ℕ) (names : List Bytes) (es : Exprs) (file : Bytes) (inner outer : Scope) (number at wanted given : ℕ) (many : Bool) (w0 w1 w2 w3 : Written)
    → number ≡ length names → TakesLocals number inner outer w0 w1
    → at ≡ slot_count outer → wanted ≡ length names → given ≡ count es → many ≡ tailed es
    → Adds (fitted at wanted given many) w1 w2
    → Adds (exprs_code es file outer at) w2 w3
    → TakesStat (t.local line names es) 0 file inner outer w0 w3
local_put line names es file inner outer number at wanted given many w0 w1 w2 w3 en tl ea ew eg em a2 a3 =
    local_added line names es file inner outer wanted w0 w1 w2 w3
    (subst (λ (n : ℕ). TakesLocals n inner outer w0 w1) en tl) ew
    (subst (λ (x : ℕ). Adds (fitted x wanted (count es) (tailed es)) w1 w2) ea (subst (λ (b : Bool). Adds (fitted at wanted (count es) b) w1 w2) em (subst (λ (x : ℕ). Adds (fitted at wanted x many) w1 w2) eg a2)))
    (subst (λ (x : ℕ). Adds (exprs_code es file outer x) w2 w3) ea a3)

pub function_stat_put : (line : ℕ) (e : Expr) (f : Func) (file : Bytes) (scope : Scope) (at from above : ℕ) (w0 w1 w2 w3 : Written)
    → at ≡ slot_count scope → from ≡ at + width e → above ≡ suc from
    → Adds (store e above scope (slot at) (slot (at + 1)) (slot from)) w0 w1
    → Adds (i.close from (func_code f file (cell_names scope (func_names f))) (cell_places scope (func_names f)) ∷ []) w1 w2
    → Adds (target_code e file scope at) w2 w3
    → Adds (stat_code (t.function_stat line e f) [] 0 file scope) w0 w3
function_stat_put line e f file scope at from above w0 w1 w2 w3 et ef ea a1 a2 a3 =
    function_stat_added line e f file scope from above w0 w1 w2 w3 (omega (arith, et, ef)) ea
    (subst (λ (x : ℕ). Adds (store e above scope (slot x) (slot (x + 1)) (slot from)) w0 w1) et a1) a2
    (subst (λ (x : ℕ). Adds (target_code e file scope x) w2 w3) et a3)

pub local_function_put : (line : ℕ) (x : Bytes) (f : Func) (file : Bytes) (inner outer : Scope) (slots at : ℕ) (w0 w1 w2 w3 w4 : Written)
    → slots ≡ slot_count inner → at ≡ slots - 1
    → Adds (local_code (seat_of inner x) at) w0 w1
    → Adds (i.close at (func_code f file (cell_names inner (func_names f))) (cell_places inner (func_names f)) ∷ []) w1 w2
    → TakesLocals 1 inner outer w2 w3
    → Adds (i.load at (i.constant values.nil) ∷ []) w3 w4
    → TakesStat (t.local_function line x f) 0 file inner outer w0 w4
local_function_put line x f file inner outer slots at w0 w1 w2 w3 w4 es ea a1 a2 tl a4 =
    local_function_added line x f file inner outer at w0 w1 w2 w3 w4 (omega (arith, es, ea)) a1 a2 tl a4

pub assign_put : (line : ℕ) (ts es : Exprs) (file : Bytes) (scope : Scope) (at from above wanted given number : ℕ) (many : Bool) (w0 w1 w2 w3 w4 : Written)
    → None ≡ own_slot ts es scope
    → at ≡ slot_count scope → from ≡ at + widths ts → number ≡ target_count ts → above ≡ from + number → wanted ≡ number → given ≡ count es → many ≡ tailed es
    → Adds (stores ts above scope at from) w0 w1
    → Adds (fitted from wanted given many) w1 w2
    → Adds (exprs_code es file scope from) w2 w3
    → ((h : ℕ) → from ≡ h + widths ts → Adds (targets_code ts file scope h) w3 w4)
    → Adds (stat_code (t.assign line ts es) [] 0 file scope) w0 w4
assign_put line ts es file scope at from above wanted given number many w0 w1 w2 w3 w4 eo et ef en ea ew eg em a1 a2 a3 a4 =
    assign_added line ts es file scope from above wanted w0 w1 w2 w3 w4 eo (omega (arith, et, ef)) (omega (arith, ea, ew)) (omega (arith, ew, en))
    (subst (λ (x : ℕ). Adds (stores ts above scope x from) w0 w1) et a1)
    (subst (λ (b : Bool). Adds (fitted from wanted (count es) b) w1 w2) em (subst (λ (x : ℕ). Adds (fitted from wanted x many) w1 w2) eg a2))
    a3 a4

pub return_put : (line : ℕ) (es : Exprs) (file : Bytes) (scope : Scope) (h given : ℕ) (many : Bool) (w0 w1 w2 : Written)
    → h ≡ slot_count scope → given ≡ count es → many ≡ tailed es
    → Adds (i.leave h given many ∷ []) w0 w1 → Adds (exprs_code es file scope h) w1 w2
    → Adds (stat_code (t.return_stat line es) [] 0 file scope) w0 w2
return_put line es file scope h given many w0 w1 w2 eh eg em a1 a2 =
    return_added line es file scope w0 w1 w2
    (subst (λ (x : ℕ). Adds (i.leave x (count es) (tailed es) ∷ []) w0 w1) eh (subst (λ (b : Bool). Adds (i.leave h (count es) b ∷ []) w0 w1) em (subst (λ (x : ℕ). Adds (i.leave h x many ∷ []) w0 w1) eg a1)))
    (subst (λ (x : ℕ). Adds (exprs_code es file scope x) w1 w2) eh a2)

pub call_put : (line : ℕ) (e : Expr) (file : Bytes) (scope : Scope) (h : ℕ) (old new : Written) → h ≡ slot_count scope → Adds (expr_code e file scope h h) old new → Adds (stat_code (t.call_stat line e) [] 0 file scope) old new
call_put line e file scope h old new eh a = subst (λ (n : ℕ). Adds (expr_code e file scope n n) old new) eh a
