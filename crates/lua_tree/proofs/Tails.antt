-- What follows an expression is none of its own operators and suffixes.
use Rattle.std.proofs.Common.{ℕ, ◌≤◌, ◌<◌, ◌≡◌, ◌+◌, ◌⊎◌, inl, inr, refl, arith, List, ◌∷◌}
use Rattle.lua_tree.specs.Tree.{BinOp, or_, and_, less, greater, less_equal, greater_equal, not_equal, equal, concat, add, sub, mul, div, mod_, pow, Expr}
use Rattle.lua_tree.specs.Words as w
use Rattle.lua_tree.specs.Words.{Word, key, Tok, tok, word_of}
use Rattle.lua_tree.specs.Grammar.{level, left_level, right_level, unary_level, NotOpen, Exp, nil_exp, true_exp, false_exp, number_exp, str_exp, dots_exp, function_exp, prefix_exp, table_exp, binary_exp, unary_exp, Prefix, var_prefix, call_prefix, paren_prefix, name_var, index_var, dot_var, plain_call, method_call}
use Rattle.lua_tree.proofs.Follow.{NotFrom, NotSuffix, Stops, Tail}

-- ---- levels

-- the three kinds of operators: left associative ones, `..` and `^`
abbrev IsLeft : BinOp → Type 0
IsLeft o = (left_level o ≡ level o) × (right_level o ≡ level o + 1) × (level o ≤ 6) × ((level o ≤ 3) ⊎ (5 ≤ level o))

abbrev IsConcat : BinOp → Type 0
IsConcat o = (left_level o ≡ 5) × (level o ≡ 4) × (right_level o ≡ 4)

abbrev IsPow : BinOp → Type 0
IsPow o = (left_level o ≡ 9) × (level o ≡ 8) × (right_level o ≡ 7)

abbrev Kind : BinOp → Type 0
Kind o = IsLeft o ⊎ (IsConcat o ⊎ IsPow o)

kind : (o : BinOp) → Kind o
kind or_ = inl (refl, refl, omega arith, inl (omega arith))
kind and_ = inl (refl, refl, omega arith, inl (omega arith))
kind less = inl (refl, refl, omega arith, inl (omega arith))
kind greater = inl (refl, refl, omega arith, inl (omega arith))
kind less_equal = inl (refl, refl, omega arith, inl (omega arith))
kind greater_equal = inl (refl, refl, omega arith, inl (omega arith))
kind not_equal = inl (refl, refl, omega arith, inl (omega arith))
kind equal = inl (refl, refl, omega arith, inl (omega arith))
kind concat = inr (inl (refl, refl, refl))
kind add = inl (refl, refl, omega arith, inr (omega arith))
kind sub = inl (refl, refl, omega arith, inr (omega arith))
kind mul = inl (refl, refl, omega arith, inr (omega arith))
kind div = inl (refl, refl, omega arith, inr (omega arith))
kind mod_ = inl (refl, refl, omega arith, inr (omega arith))
kind pow = inr (inr (refl, refl, refl))

-- an operand on the left is at least as tight
pub left_from : (o : BinOp) → level o ≤ left_level o
left_from o = elim (kind o) as (λ k. level o ≤ left_level o) [
  | inl h ↦ omega (arith, h.0)
  | inr h ↦ elim h as (λ k. level o ≤ left_level o) [ inl c ↦ omega (arith, c.0, c.1) | inr c ↦ omega (arith, c.0, c.1) ]
]

-- the operator takes in no right end of an expression of this level
abbrev Loose : BinOp → ℕ → Type 0
Loose o q = ((o2 : BinOp) → q ≤ level o2 → level o < right_level o2) × (q ≤ 7 → level o < 7)

-- ... as the left operand's operator and a later one
loose_left : (o : BinOp) → Loose o (left_level o)
loose_left o = (λ o2 h. grind (arith, h, kind o, kind o2), λ h. grind (arith, h, kind o))

loose_right : (o : BinOp) (q : ℕ) (o2 : BinOp) → Loose o q → q ≤ level o2 → Loose o (right_level o2)
loose_right o q o2 l h = (λ o3 g. loose_third o q o2 o3 l h g (kind o2) (kind o3), λ g. loose_unary o q o2 l h g (kind o2))
  where
    loose_unary : (o : BinOp) (q : ℕ) (o2 : BinOp) → Loose o q → q ≤ level o2 → right_level o2 ≤ 7 → Kind o2 → level o < 7
    loose_unary o q o2 l h g (inl k) = let x = l.1 in x (omega (arith, h, k.2))
    loose_unary o q o2 l h g (inr (inl k)) = let x = l.1 in x (omega (arith, h, k.1))
    loose_unary o q o2 l h g (inr (inr k)) = let x = l.0 o2 h in omega (arith, x, k.2)

    loose_third : (o : BinOp) (q : ℕ) (o2 o3 : BinOp) → Loose o q → q ≤ level o2 → right_level o2 ≤ level o3 → Kind o2 → Kind o3
        → level o < right_level o3
    loose_third o q o2 o3 l h g (inl k) k3 = l.0 o3 (omega (arith, h, g, k.1))
    loose_third o q o2 o3 l h g (inr (inl k)) k3 = l.0 o3 (omega (arith, h, g, k.1, k.2))
    loose_third o q o2 o3 l h g (inr (inr k)) (inl k3) = absurd (omega (arith, g, k.2, k3.2))
    loose_third o q o2 o3 l h g (inr (inr k)) (inr (inl k3)) = absurd (omega (arith, g, k.2, k3.1))
    loose_third o q o2 o3 l h g (inr (inr k)) (inr (inr k3)) = let x = l.0 o2 h in omega (arith, x, k.2, k3.2)

-- ---- what follows

-- what follows an expression of this level doesn't go on with it
abbrev pub Apart : ℕ → Word → Type 0
Apart q (w.op o) = Loose o q
Apart q v = Stops v

apart_right : (q : ℕ) (o : BinOp) (v : Word) → q ≤ level o → Apart q v → Apart (right_level o) v
apart_right q o (w.op o2) h a = loose_right o2 q o a h
apart_right q o v h a = a

apart_unary : (q : ℕ) (v : Word) → q ≤ unary_level → Apart q v → Apart unary_level v
apart_unary q (w.op o) h a = (λ o2 g. let x = a.0 in x o2 (omega (arith, h, g)), λ g. let x = a.1 in x h)
apart_unary q v h a = a

not_right : (q : ℕ) (o : BinOp) (v : Word) → q ≤ level o → Apart q v → NotFrom (right_level o) v
not_right q o (w.op o2) h a = a.0 o h
not_right q o v h a = tt

not_unary : (q : ℕ) (v : Word) → q ≤ unary_level → Apart q v → NotFrom unary_level v
not_unary q (w.op o) h a = let x = a.1 in x h
not_unary q v h a = tt

not_suffix : (q : ℕ) (v : Word) → NotOpen v → Apart q v → NotSuffix v
not_suffix q (key w.open_bracket) o a = a
not_suffix q (key w.dot) o a = a
not_suffix q (key w.colon) o a = a
not_suffix q (key w.open_paren) o a = o
not_suffix q (key w.open_brace) o a = a
not_suffix q (w.str x) o a = a
not_suffix q v o a = tt

-- what stops an expression is apart from one of any level
pub stops_apart : (q : ℕ) (v : Word) → Stops v → Apart q v
stops_apart q (w.op o) h = absurd h
stops_apart q v h = h

-- a prefix expression takes in nothing where no suffix follows
pub prefix_tail : (v : Word) (e : Expr) (ts us : List Tok) → Prefix e ts us → NotSuffix v → Tail e v
prefix_tail v e ts us (var_prefix (name_var)) h = h
prefix_tail v e ts us (var_prefix (index_var d f)) h = h
prefix_tail v e ts us (var_prefix (dot_var d)) h = h
prefix_tail v e ts us (call_prefix (plain_call d f)) h = h
prefix_tail v e ts us (call_prefix (method_call d f)) h = h
prefix_tail v e ts us (paren_prefix d) h = h

-- the last operand of an expression takes in nothing of what is apart from it
pub tail : (q : ℕ) (e : Expr) (ts us : List Tok) → Exp q e ts us → Apart q (word_of us) → Tail e (word_of us)
tail q e ts us nil_exp a = tt
tail q e ts us true_exp a = tt
tail q e ts us false_exp a = tt
tail q e ts us number_exp a = tt
tail q e ts us str_exp a = tt
tail q e ts us dots_exp a = tt
tail q e ts us (function_exp d) a = tt
tail q e ts us (prefix_exp d o) a = prefix_tail (word_of us) e ts us d (not_suffix q (word_of us) o a)
tail q e ts us (table_exp d) a = tt
tail q e ts us (binary_exp {o = o} {b = b} {m = m} h d f) a =
    (not_right q o (word_of us) h a, tail (right_level o) b m us f (apart_right q o (word_of us) h a))
tail q e ts us (unary_exp {e = f} {m = m} h u d) a =
    (not_unary q (word_of us) h a, tail unary_level f m us d (apart_unary q (word_of us) h a))

pub tail_left : (o : BinOp) (a : Expr) (s : w.Spot) (ts us : List Tok) → Exp (left_level o) a ts (tok (w.op o) s ∷ us)
    → Tail a (w.op o)
tail_left o a s ts us d = tail (left_level o) a ts (tok (w.op o) s ∷ us) d (loose_left o)
