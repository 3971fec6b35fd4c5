-- Lists that are read with a default.
use Rattle.std.proofs.Common.{◌≡◌, ◌∙◌, ℕ, zero, suc, ◌==◌, Bool, true, false, cond, List, [], ◌∷◌, ◌++◌, get_or, refl, sym, ap, subst, arith}
use Rattle.lua_state.specs.Kept.{times}
use Rattle.lua_state.specs.Solo.{left_from}
use Rattle.lua_state.proofs.Growing.{test-yes, test-no}

-- the default behind the end is read as before
pub get_or-default : {A : Type 0} → (xs : List A) (d : A) (k : ℕ) → get_or (xs ++ d ∷ []) k d ≡ get_or xs k d
get_or-default [] d zero = refl
get_or-default [] d (suc k) = refl
get_or-default (x ∷ xs) d zero = refl
get_or-default (x ∷ xs) d (suc k) = get_or-default xs d k

-- ---- how often a number stands in a list

count-here : (n : ℕ) (xs : List ℕ) → times n (n ∷ xs) ≡ suc (times n xs)
count-here n xs = rw (test-yes n n refl) refl

count-else : (n x : ℕ) (xs : List ℕ) → (x ≡ n → ⊥) → times n (x ∷ xs) ≡ times n xs
count-else n x xs ne = rw (test-no x n ne) refl

pub times-push : (n : ℕ) (xs : List ℕ) → times n (xs ++ n ∷ []) ≡ suc (times n xs)
times-push n [] = count-here n []
times-push n (x ∷ xs) = elim (x == n) as (λ b. cond b (suc (times n (xs ++ n ∷ []))) (times n (xs ++ n ∷ [])) ≡ suc (cond b (suc (times n xs)) (times n xs))) [
  | true ↦ ap suc (times-push n xs)
  | false ↦ times-push n xs
]

pub times-other : (n m : ℕ) (xs : List ℕ) → (m ≡ n → ⊥) → times n (xs ++ m ∷ []) ≡ times n xs
times-other n m [] ne = count-else n m [] ne
times-other n m (x ∷ xs) ne = elim (x == n) as (λ b. cond b (suc (times n (xs ++ m ∷ []))) (times n (xs ++ m ∷ [])) ≡ cond b (suc (times n xs)) (times n xs)) [
  | true ↦ ap suc (times-other n m xs ne)
  | false ↦ times-other n m xs ne
]

pub times-left : (n : ℕ) (xs : List ℕ) → times n (left_from n xs) ≡ 0
times-left n [] = refl
times-left n (x ∷ xs) = on (times-left n xs) (x == n) refl
  where
    on : times n (left_from n xs) ≡ 0 → (b : Bool) → (x == n) ≡ b → times n (cond b (left_from n xs) (x ∷ left_from n xs)) ≡ 0
    on rest true e = rest
    on rest false e = rw e rest

is_same : (x n : ℕ) → (x == n) ≡ true → x ≡ n
is_same x n e = grind arith

pub times-left_other : (n m : ℕ) (xs : List ℕ) → (m ≡ n → ⊥) → times n (left_from m xs) ≡ times n xs
times-left_other n m [] ne = refl
times-left_other n m (x ∷ xs) ne = on (times-left_other n m xs ne) (x == m) refl
  where
    on : times n (left_from m xs) ≡ times n xs → (b : Bool) → (x == m) ≡ b → times n (cond b (left_from m xs) (x ∷ left_from m xs)) ≡ times n (x ∷ xs)
    on rest true e = rest ∙ sym (count-else n x xs (λ same. ne (sym (is_same x m e) ∙ same)))
    on rest false e = ap (λ (k : ℕ). cond (x == n) (suc k) k) rest

some_here : (n x : ℕ) (xs : List ℕ) → times n (x ∷ xs) ≡ 0 → (x == n) ≡ true → ⊥
some_here n x xs none e = no (subst (λ (b : Bool). cond b (suc (times n xs)) (times n xs) ≡ 0) e none)
  where
    no : suc (times n xs) ≡ 0 → ⊥
    no z = omega arith

none_rest : (n x : ℕ) (xs : List ℕ) → times n (x ∷ xs) ≡ 0 → (x == n) ≡ false → times n xs ≡ 0
none_rest n x xs none e = subst (λ (b : Bool). cond b (suc (times n xs)) (times n xs) ≡ 0) e none

-- the last one is left, where it stands nowhere else
last_left : (n : ℕ) (ys : List ℕ) → times n ys ≡ 0 → left_from n (ys ++ n ∷ []) ≡ ys
last_left n [] none = rw (test-yes n n refl) refl
last_left n (y ∷ ys) none = on (λ less. last_left n ys less) (y == n) refl
  where
    on : (times n ys ≡ 0 → left_from n (ys ++ n ∷ []) ≡ ys) → (b : Bool) → (y == n) ≡ b → cond b (left_from n (ys ++ n ∷ [])) (y ∷ left_from n (ys ++ n ∷ [])) ≡ y ∷ ys
    on rest true e = absurd (some_here n y ys none e)
    on rest false e = ap (λ (zs : List ℕ). y ∷ zs) (rest (none_rest n y ys none e))

pub left_from-last : (n : ℕ) (xs : List ℕ) → times n (xs ++ n ∷ []) ≡ 1 → left_from n (xs ++ n ∷ []) ≡ xs
left_from-last n xs once = last_left n xs (let more = times-push n xs in omega arith)
