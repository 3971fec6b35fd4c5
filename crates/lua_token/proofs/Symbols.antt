-- The symbol that is found at the front stands there.
use Rattle.std.proofs.Common.{◌≡◌, ℕ, suc, ◌<◌, ◌≤◌, Bool, true, false, cond, List, [], ◌∷◌, length, take, Some, refl, sym, ap, subst, arith}
use Rattle.std.specs.Prelude.{find, nat_eq, IfSome}
use Rattle.std.specs.List.{starts_with, AllByRecursion}
use Rattle.std.specs.Cmp.Lexicographic.{pointwise}
use Rattle.std.proofs.lemmas.List.{length-take}
use Rattle.std.proofs.lemmas.Slice.Eq.{bytes_eq-Decides}
use Rattle.lua_token.specs.Bytes.{newlines}
use Rattle.lua_token.specs.Spelling.{spelling, keywords, symbols, keyword_of, symbol_at}
use Rattle.lua_token.specs.declared.kind.Kind.{Kind}

pointwise_length : (xs ys : List ℕ) → pointwise nat_eq xs ys ≡ true → length xs ≡ length ys
pointwise_length [] [] e = refl
pointwise_length [] (y ∷ ys) e = absurd cc
pointwise_length (x ∷ xs) [] e = absurd cc
pointwise_length (x ∷ xs) (y ∷ ys) e = ap suc (pointwise_length xs ys (second (nat_eq x y) _ e))
  where
    second : (p q : Bool) → Rattle.std.specs.Prelude.◌&&◌ p q ≡ true → q ≡ true
    second true q e = e
    second false q e = absurd cc

pointwise_same : (xs ys : List ℕ) → pointwise nat_eq xs ys ≡ true → xs ≡ ys
pointwise_same xs ys e = (bytes_eq-Decides xs ys).0 e

front_length : (text front : List ℕ) → starts_with nat_eq text front ≡ true → length front ≤ length text
front_length text front e = let h = pointwise_length front (take (length front) text) e in omega (arith, h, length-take (length front) text)

-- a symbol at the front: it has bytes, the text has them, and they stand there
abbrev Fits : List ℕ → Kind → Type 0
Fits text k =
    (0 < length (spelling k)) × (length (spelling k) ≤ length text)
    × (spelling k ≡ take (length (spelling k)) text) × (newlines (spelling k) ≡ 0)

found_fits : (text : List ℕ) (ks : List Kind) → AllByRecursion (λ k. 0 < length (spelling k)) ks → AllByRecursion (λ k. newlines (spelling k) ≡ 0) ks → IfSome (find (λ k. starts_with nat_eq text (spelling k)) ks) (Fits text)
found_fits text [] some none = tt
found_fits text (k ∷ ks) some none = go (starts_with nat_eq text (spelling k)) refl (found_fits text ks some.1 none.1)
  where
    go : (b : Bool) → starts_with nat_eq text (spelling k) ≡ b → IfSome (find (λ k. starts_with nat_eq text (spelling k)) ks) (Fits text) → IfSome (cond b (Some k) (find (λ k. starts_with nat_eq text (spelling k)) ks)) (Fits text)
    go true e later = (some.0, front_length text (spelling k) e, pointwise_same (spelling k) (take (length (spelling k)) text) e, none.0)
    go false e later = later

pub all_some : AllByRecursion (λ k. 0 < length (spelling k)) symbols
unfolding spelling
all_some = omega arith

all_in_line : AllByRecursion (λ k. newlines (spelling k) ≡ 0) symbols
unfolding spelling
all_in_line = (refl, (refl, (refl, (refl, (refl, (refl, (refl, (refl, (refl, (refl, (refl, (refl, (refl, (refl, (refl, (refl, (refl, (refl, (refl, (refl, (refl, (refl, (refl, (refl, (refl, (refl, tt))))))))))))))))))))))))))

pub symbol_fits : (text : List ℕ) → IfSome (symbol_at text) (Fits text)
unfolding symbol_at
symbol_fits text = found_fits text symbols all_some all_in_line

pub kind_fits : (text : List ℕ) (k : Kind) → Some k ≡ symbol_at text → (0 < length (spelling k)) × (length (spelling k) ≤ length text)
kind_fits text k e = let h = subst (λ o. IfSome o (Fits text)) (sym e) (symbol_fits text) in (h.0, h.1)

-- it passes no newline
pub symbol_in_line : (text : List ℕ) (k : Kind) → Some k ≡ symbol_at text → newlines (take (length (spelling k)) text) ≡ 0
symbol_in_line text k e = let h = subst (λ o. IfSome o (Fits text)) (sym e) (symbol_fits text) in subst (λ (front : List ℕ). newlines front ≡ 0) h.2 h.3

-- a keyword that is found has bytes
keyword_found : (word : List ℕ) (ks : List Kind) → AllByRecursion (λ k. 0 < length (spelling k)) ks → IfSome (find (λ k. pointwise nat_eq (spelling k) word) ks) (λ k. 0 < length (spelling k))
keyword_found word [] some = tt
keyword_found word (k ∷ ks) some = go (pointwise nat_eq (spelling k) word) (keyword_found word ks some.1)
  where
    go : (b : Bool) → IfSome (find (λ k. pointwise nat_eq (spelling k) word) ks) (λ k. 0 < length (spelling k)) → IfSome (cond b (Some k) (find (λ k. pointwise nat_eq (spelling k) word) ks)) (λ k. 0 < length (spelling k))
    go true later = some.0
    go false later = later

all_keywords_some : AllByRecursion (λ k. 0 < length (spelling k)) keywords
unfolding spelling
all_keywords_some = omega arith

pub keyword_is_some : (word : List ℕ) (k : Kind) → Some k ≡ keyword_of word → 0 < length (spelling k)
unfolding keyword_of
keyword_is_some word k e = subst (λ o. IfSome o (λ k. 0 < length (spelling k))) (sym e) (keyword_found word keywords all_keywords_some)
