-- The last expression of a list.
use Rattle.std.proofs.Common.{◌≡◌, ℕ, zero, suc, Bool, true, false, List, [], ◌∷◌, length, map, get_or, ap, sym, arith}
use Rattle.std.specs.Prelude.{if◌then◌else◌}
use Rattle.lua_tree.specs.declared.tree.Expr.{Expr}
use Rattle.lua_tree.specs.View.{expr_view, exprs_of}
use Rattle.lua_code.specs.Code.{is_many, tailed, count}

pub tailed_at : (es : List Expr) (n : ℕ) (x : Expr) → length es ≡ suc n → x ≡ get_or es n x → tailed (exprs_of (map expr_view es)) ≡ is_many (expr_view x)
tailed_at [] n x e h = absurd (let z : ⊥ = omega (arith, e) in z)
tailed_at (y ∷ []) zero x e h = ap (λ y. is_many (expr_view y)) (sym h)
tailed_at (y ∷ []) (suc n) x e h = absurd (let z : ⊥ = omega (arith, e) in z)
tailed_at (y ∷ (z ∷ zs)) zero x e h = absurd (let z : ⊥ = omega (arith, e) in z)
tailed_at (y ∷ (z ∷ zs)) (suc n) x e h = tailed_at (z ∷ zs) n x (omega (arith, e)) h

one_more : (b : Bool) (n k : ℕ) → k ≡ (if b then n else suc n) → suc k ≡ (if b then suc n else suc (suc n))
one_more true n k h = ap suc h
one_more false n k h = ap suc h

pub count_at : (es : List Expr) (n : ℕ) (x : Expr) → length es ≡ suc n → x ≡ get_or es n x → count (exprs_of (map expr_view es)) ≡ (if is_many (expr_view x) then n else suc n)
count_at [] n x e h = absurd (let z : ⊥ = omega (arith, e) in z)
count_at (y ∷ []) zero x e h = ap (λ y. if is_many (expr_view y) then 0 else 1) (sym h)
count_at (y ∷ []) (suc n) x e h = absurd (let z : ⊥ = omega (arith, e) in z)
count_at (y ∷ (z ∷ zs)) zero x e h = absurd (let z : ⊥ = omega (arith, e) in z)
count_at (y ∷ (z ∷ zs)) (suc n) x e h = one_more (is_many (expr_view x)) n (count (exprs_of (map expr_view (z ∷ zs)))) (count_at (z ∷ zs) n x (omega (arith, e)) h)
