-- A list's code is that of its expressions, put down from the last one on.
use Rattle.std.proofs.Common.{◌≡◌, ℕ, zero, suc, ◌+◌, ◌-◌, ◌≤◌, ◌<◌, Bool, true, false, eqb, List, drop, [], ◌∷◌, length, map, get_or, refl, ap, sym, subst, ◌∙◌, arith}
use Rattle.std.proofs.lemmas.Bool.{eqb-true, eqb-false}
use Rattle.std.specs.Prelude.{◌++◌}
use Rattle.lua_tree.specs.declared.tree.Expr.{Expr}
use Rattle.lua_tree.specs.View.{expr_view, exprs_of}
use Rattle.lua_tree.specs.Tree.{Bytes}
use Rattle.lua_code.specs.Scope.{Scope}
use Rattle.lua_code.specs.Code.{expr_code, tail_code, exprs_code}
use Rattle.lua_compile.specs.Lists.{one_or_all}
use Rattle.lua_assembler.specs.Writing.{Written, Adds}
use Rattle.lua_assembler.proofs.Adding.{adds_as, both_added}

-- a list's code from a place on
pub list_step : (es : List Expr) (at h : ℕ) (x : Expr) (last : Bool) (file : Bytes) (scope : Scope) → (last ≡ true → suc at ≡ length es) → (last ≡ false → suc at < length es) → at < length es → x ≡ get_or es at x
    → exprs_code (exprs_of (map expr_view (drop at es))) file scope h ≡ one_or_all last (expr_view x) (expr_code (expr_view x) file scope h h) (tail_code (expr_view x) file scope h) ++ exprs_code (exprs_of (map expr_view (drop (suc at) es))) file scope (suc h)
list_step [] at h x last file scope t f l g = absurd (let z : ⊥ = omega (arith, l) in z)
list_step (y ∷ []) zero h x true file scope t f l g = subst (λ y. exprs_code (exprs_of (map expr_view (y ∷ []))) file scope h ≡ one_or_all true (expr_view x) (expr_code (expr_view x) file scope h h) (tail_code (expr_view x) file scope h) ++ []) g refl
list_step (y ∷ []) zero h x false file scope t f l g = absurd (let z : ⊥ = omega (arith, f refl) in z)
list_step (y ∷ []) (suc at) h x last file scope t f l g = absurd (let z : ⊥ = omega (arith, l) in z)
list_step (y ∷ (z ∷ zs)) zero h x true file scope t f l g = absurd (let z : ⊥ = omega (arith, t refl) in z)
list_step (y ∷ (z ∷ zs)) zero h x false file scope t f l g = subst (λ y. exprs_code (exprs_of (map expr_view (y ∷ (z ∷ zs)))) file scope h ≡ one_or_all false (expr_view x) (expr_code (expr_view x) file scope h h) (tail_code (expr_view x) file scope h) ++ exprs_code (exprs_of (map expr_view (z ∷ zs))) file scope (suc h)) g refl
list_step (y ∷ (z ∷ zs)) (suc at) h x last file scope t f l g = list_step (z ∷ zs) at h x last file scope (λ e. omega (arith, t e)) (λ e. omega (arith, f e)) (omega (arith, l)) g

-- an expression of a list in front of those behind it
pub list_adds : (es : List Expr) (n at h : ℕ) (x : Expr) (last : Bool) (file : Bytes) (scope : Scope) (w0 w1 w2 : Written) → n ≡ suc at → n ≤ length es → (last ≡ true → n ≡ length es) → (last ≡ false → n < length es) → x ≡ get_or es at x
    → Adds (exprs_code (exprs_of (map expr_view (drop n es))) file scope (h + n)) w0 w1
    → Adds (one_or_all last (expr_view x) (expr_code (expr_view x) file scope (h + at) (h + at)) (tail_code (expr_view x) file scope (h + at))) w1 w2
    → Adds (exprs_code (exprs_of (map expr_view (drop at es))) file scope (h + at)) w0 w2
list_adds es n at h x last file scope w0 w1 w2 e le t f g a b =
    let i : h + n ≡ suc (h + at) = omega (arith, e) in
    let behind : Adds (exprs_code (exprs_of (map expr_view (drop (suc at) es))) file scope (suc (h + at))) w0 w1
    = adds_as _ _ w0 w1 (ap (λ k. exprs_code (exprs_of (map expr_view (drop k es))) file scope (h + n)) e ∙ ap (λ k. exprs_code (exprs_of (map expr_view (drop (suc at) es))) file scope k) i) a in
    adds_as _ _ w0 w2 (sym (list_step es at (h + at) x last file scope (λ q. sym e ∙ t q) (λ q. let r = f q in omega (arith, e, r)) (omega (arith, e, le)) g))
    (both_added _ _ w0 w1 w2 behind b)

-- the same where the place counts down, and the expression's slot is known apart
pub list_next : (es : List Expr) (n slot h : ℕ) (x : Expr) (file : Bytes) (scope : Scope) (w0 w1 w2 : Written) → 0 < n → n ≤ length es → x ≡ get_or es (n - 1) x → slot ≡ h + (n - 1)
    → Adds (exprs_code (exprs_of (map expr_view (drop n es))) file scope (h + n)) w0 w1
    → Adds (one_or_all (eqb n (length es)) (expr_view x) (expr_code (expr_view x) file scope slot slot) (tail_code (expr_view x) file scope slot)) w1 w2
    → Adds (exprs_code (exprs_of (map expr_view (drop (n - 1) es))) file scope (h + (n - 1))) w0 w2
list_next es n slot h x file scope w0 w1 w2 z le g s a b =
    let e : n ≡ suc (n - 1) = omega (arith, z) in
    let here : Adds (one_or_all (eqb n (length es)) (expr_view x) (expr_code (expr_view x) file scope (h + (n - 1)) (h + (n - 1))) (tail_code (expr_view x) file scope (h + (n - 1)))) w1 w2
    = subst (λ k. Adds (one_or_all (eqb n (length es)) (expr_view x) (expr_code (expr_view x) file scope k k) (tail_code (expr_view x) file scope k)) w1 w2) s b in
    list_adds es n (n - 1) h x (eqb n (length es)) file scope w0 w1 w2 e le (λ q. eqb-true n (length es) q) (λ q. let ne : n ≡ length es → ⊥ = eqb-false n (length es) q in omega (arith, le, ne)) g a here

-- the whole list, once its first expression is there
pub list_whole : (es : List Expr) (at h : ℕ) (file : Bytes) (scope : Scope) (w0 w1 : Written) → at ≤ 0
    → Adds (exprs_code (exprs_of (map expr_view (drop at es))) file scope (h + at)) w0 w1
    → Adds (exprs_code (exprs_of (map expr_view es)) file scope h) w0 w1
list_whole es at h file scope w0 w1 z a =
    let e : at ≡ 0 = omega (arith, z) in
    let k : h + at ≡ h = omega (arith, z) in
    adds_as _ _ w0 w1 (
    ap (λ n. exprs_code (exprs_of (map expr_view (drop n es))) file scope (h + at)) e
    ∙ ap (λ n. exprs_code (exprs_of (map expr_view es)) file scope n) k) a
