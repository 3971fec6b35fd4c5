-- Parts of targets and their values.
use Rattle.std.proofs.Common.{◌≡◌, ℕ, zero, suc, ◌+◌, ◌-◌, ◌<◌, List, [], ◌∷◌, ◌++◌, length, drop, take, map, get_or, refl, sym, ap, subst, ◌∙◌, arith}
use Rattle.std.specs.Prelude.{Option, Some, None, true, false}
use Rattle.lua_tree.specs.Tree.{Bytes}
use Rattle.lua_tree.specs.declared.tree.Expr.{Expr}
use Rattle.lua_tree.specs.View.{expr_view, exprs_of}
use Rattle.lua_code.specs.Instr as i
use Rattle.lua_code.specs.Instr.{slot}
use Rattle.lua_code.specs.Scope.{Scope}
use Rattle.lua_code.specs.Code.{width, widths, target_code, targets_code, target_count, store, stores, slot_place, ready_slot, own_slot}
use Rattle.lua_assembler.specs.Places.{is_there}
use Rattle.lua_assembler.specs.Writing.{Written, Adds}
use Rattle.lua_assembler.proofs.Adding.{both_added, nothing_added}
use Rattle.lua_assembler.proofs.Remaining.{Remains, remains_less, remains_as}
use Rattle.lua_compile.proofs.Scoping.{here_on}

pub widths_step : (es : List Expr) (at : ℕ) (e : Expr) → at < length es → e ≡ get_or es at e → widths (exprs_of (map expr_view (drop at es))) ≡ width (expr_view e) + widths (exprs_of (map expr_view (drop (suc at) es)))
widths_step es at e l g = ap (λ ys. widths (exprs_of (map expr_view ys))) (here_on es at e l g)

pub widths_none : (es : List Expr) → widths (exprs_of (map expr_view (drop (length es) es))) ≡ 0
widths_none [] = refl
widths_none (e ∷ es) = widths_none es

pub widths_taken : (es : List Expr) (at : ℕ) (e : Expr) → at < length es → e ≡ get_or es at e → widths (exprs_of (map expr_view (take (suc at) es))) ≡ widths (exprs_of (map expr_view (take at es))) + width (expr_view e)
widths_taken [] at e l g = absurd (let z : ⊥ = omega (arith, l) in z)
widths_taken (y ∷ ys) zero e l g = let s : width (expr_view y) ≡ width (expr_view e) = ap (λ z. width (expr_view z)) (sym g) in omega (arith, s)
widths_taken (y ∷ ys) (suc at) e l g = let h = widths_taken ys at e (omega (arith, l)) g in omega (arith, h)

pub widths_all : (es : List Expr) → widths (exprs_of (map expr_view (take (length es) es))) ≡ widths (exprs_of (map expr_view es))
widths_all [] = refl
widths_all (e ∷ es) = ap (λ n. width (expr_view e) + n) (widths_all es)

pub counted : (es : List Expr) → target_count (exprs_of (map expr_view es)) ≡ length es
counted [] = refl
counted (e ∷ es) = ap suc (counted es)

-- ---- the parts of targets

-- those from a place on are there
abbrev pub TargetsFrom : (at : ℕ) → List Expr → (file : Bytes) → Scope → (end now : ℕ) → (old new : Written) → Type 0
TargetsFrom at es file scope end now old new =
    (h : ℕ) → end ≡ h + widths (exprs_of (map expr_view es)) →
    (now ≡ h + widths (exprs_of (map expr_view (take at es)))) × Adds (targets_code (exprs_of (map expr_view (drop at es))) file scope now) old new

no_targets : (es : List Expr) (file : Bytes) (scope : Scope) (h : ℕ) → targets_code (exprs_of (map expr_view (drop (length es) es))) file scope h ≡ []
no_targets [] file scope h = refl
no_targets (e ∷ es) file scope h = no_targets es file scope h

pub targets_begin : (es : List Expr) (file : Bytes) (scope : Scope) (end : ℕ) (w : Written) → TargetsFrom (length es) es file scope end end w w
targets_begin es file scope end w h e =
    (e ∙ ap (λ n. h + n) (sym (widths_all es)), subst (λ (l : List i.Instr). Adds l w w) (sym (no_targets es file scope end)) (nothing_added w))

pub targets_step : (es : List Expr) (at : ℕ) (e : Expr) (file : Bytes) (scope : Scope) (end now next : ℕ) (old mid new : Written) → at < length es → e ≡ get_or es at e
    → next ≡ now - width (expr_view e) → TargetsFrom (suc at) es file scope end now old mid → Adds (target_code (expr_view e) file scope next) mid new
    → TargetsFrom at es file scope end next old new
targets_step es at e file scope end now next old mid new l g n t a h d =
    let from = t h d in
    let taken = widths_taken es at e l g in
    let there : next ≡ h + widths (exprs_of (map expr_view (take at es))) = omega (arith, n, from.0, taken) in
    let back : now ≡ next + width (expr_view e) = omega (arith, n, from.0, taken) in
    let rest : Adds (targets_code (exprs_of (map expr_view (drop (suc at) es))) file scope (next + width (expr_view e))) old mid = subst (λ (k : ℕ). Adds (targets_code (exprs_of (map expr_view (drop (suc at) es))) file scope k) old mid) back from.1 in
    let whole : Adds (target_code (expr_view e) file scope next ++ targets_code (exprs_of (map expr_view (drop (suc at) es))) file scope (next + width (expr_view e))) old new = both_added (target_code (expr_view e) file scope next) (targets_code (exprs_of (map expr_view (drop (suc at) es))) file scope (next + width (expr_view e))) old mid new rest a in
    (there, subst (λ (ys : List Expr). Adds (targets_code (exprs_of (map expr_view ys)) file scope next) old new) (sym (here_on es at e l g)) whole)

pub targets_end : (es : List Expr) (file : Bytes) (scope : Scope) (end now : ℕ) (old new : Written) → TargetsFrom 0 es file scope end now old new
    → (h : ℕ) → end ≡ h + widths (exprs_of (map expr_view es)) → Adds (targets_code (exprs_of (map expr_view es)) file scope h) old new
targets_end es file scope end now old new t h d =
    let from = t h d in
    let there : now ≡ h = omega (arith, from.0) in
    subst (λ (k : ℕ). Adds (targets_code (exprs_of (map expr_view es)) file scope k) old new) there from.1

-- ---- their values

pub stores_step : (es : List Expr) (n : ℕ) (e : Expr) (above : ℕ) (scope : Scope) (at from : ℕ) (code : List i.Instr) (old mid new : Written) → n < length es → e ≡ get_or es n e
    → Remains code (stores (exprs_of (map expr_view (drop n es))) above scope at from) old mid → Adds (store (expr_view e) above scope (slot at) (slot (at + 1)) (slot from)) mid new
    → Remains code (stores (exprs_of (map expr_view (drop (suc n) es))) above scope (at + width (expr_view e)) (suc from)) old new
stores_step es n e above scope at from code old mid new l g r a =
    remains_less code (stores (exprs_of (map expr_view (drop (suc n) es))) above scope (at + width (expr_view e)) (suc from)) (store (expr_view e) above scope (slot at) (slot (at + 1)) (slot from)) old mid new
    (remains_as code (stores (exprs_of (map expr_view (drop n es))) above scope at from) (stores (exprs_of (map expr_view (drop (suc n) es))) above scope (at + width (expr_view e)) (suc from) ++ store (expr_view e) above scope (slot at) (slot (at + 1)) (slot from)) old mid (ap (λ ys. stores (exprs_of (map expr_view ys)) above scope at from) (here_on es n e l g)) r)
    a

pub stores_none : (es : List Expr) (above : ℕ) (scope : Scope) (at from : ℕ) → stores (exprs_of (map expr_view (drop (length es) es))) above scope at from ≡ []
stores_none [] above scope at from = refl
stores_none (e ∷ es) above scope at from = stores_none es above scope at from

-- ---- one value to one local's slot

some_place : (o : Option ℕ) → is_there o ≡ true → Some (slot_place o 0) ≡ o
some_place None h = absurd (let z : ⊥ = cc in z)
some_place (Some n) h = refl

none_there : (o : Option ℕ) → is_there o ≡ false → None ≡ o
none_there None h = refl
none_there (Some n) h = absurd (let z : ⊥ = cc in z)

pub own_there : (ts es : List Expr) (t : Expr) (scope : Scope) → length ts ≡ 1 → length es ≡ 1 → t ≡ get_or ts 0 t → is_there (ready_slot (expr_view t) scope) ≡ true → Some (slot_place (ready_slot (expr_view t) scope) 0) ≡ own_slot (exprs_of (map expr_view ts)) (exprs_of (map expr_view es)) scope
own_there [] es t scope m n g h = absurd (let z : ⊥ = omega (arith, m) in z)
own_there (x ∷ []) [] t scope m n g h = absurd (let z : ⊥ = omega (arith, n) in z)
own_there (x ∷ []) (e ∷ []) t scope m n g h = some_place (ready_slot (expr_view t) scope) h ∙ ap (λ y. ready_slot (expr_view y) scope) g
own_there (x ∷ []) (e ∷ (f ∷ es)) t scope m n g h = absurd (let z : ⊥ = omega (arith, n) in z)
own_there (x ∷ (y ∷ ts)) es t scope m n g h = absurd (let z : ⊥ = omega (arith, m) in z)

pub own_not_there : (ts es : List Expr) (t : Expr) (scope : Scope) → length ts ≡ 1 → length es ≡ 1 → t ≡ get_or ts 0 t → is_there (ready_slot (expr_view t) scope) ≡ false → None ≡ own_slot (exprs_of (map expr_view ts)) (exprs_of (map expr_view es)) scope
own_not_there [] es t scope m n g h = absurd (let z : ⊥ = omega (arith, m) in z)
own_not_there (x ∷ []) [] t scope m n g h = absurd (let z : ⊥ = omega (arith, n) in z)
own_not_there (x ∷ []) (e ∷ []) t scope m n g h = none_there (ready_slot (expr_view t) scope) h ∙ ap (λ y. ready_slot (expr_view y) scope) g
own_not_there (x ∷ []) (e ∷ (f ∷ es)) t scope m n g h = absurd (let z : ⊥ = omega (arith, n) in z)
own_not_there (x ∷ (y ∷ ts)) es t scope m n g h = absurd (let z : ⊥ = omega (arith, m) in z)

pub own_many : (ts es : List Expr) (scope : Scope) → (length ts ≡ 1 → length es ≡ 1 → ⊥) → None ≡ own_slot (exprs_of (map expr_view ts)) (exprs_of (map expr_view es)) scope
own_many [] es scope h = refl
own_many (x ∷ []) [] scope h = refl
own_many (x ∷ []) (e ∷ []) scope h = absurd (h refl refl)
own_many (x ∷ []) (e ∷ (f ∷ es)) scope h = refl
own_many (x ∷ (y ∷ ts)) es scope h = refl
