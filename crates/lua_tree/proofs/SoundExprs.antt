-- What the rules of expressions read is spelled, and what is made unavoidable is what is counted.
use Rattle.std.proofs.Common.{ℕ, suc, ◌+◌, ◌≤◌, ◌<◌, ◌≡◌, refl, sym, ap, ◌∙◌, subst, max, T, leb, leb→le, cond, List, [], ◌∷◌, Bool, true, false, arith}
use Rattle.lua_tree.specs.Tree.{Bytes, UnOp, not_, length_of, negate, BinOp, or_, and_, less, greater, less_equal, greater_equal, not_equal, equal, concat, add, sub, mul, div, mod_, pow, Expr, str, name, unary, binary, item_and, keyed_and}
use Rattle.lua_tree.specs.Words as w
use Rattle.lua_tree.specs.Words.{Word, key, Spot, Tok, tok, word_of, spot_of}
use Rattle.lua_tree.specs.Grammar.{level, unary_level, left_level, right_level, NotOpen, IsUnary, Exp, nil_exp, true_exp, false_exp, number_exp, str_exp, dots_exp, function_exp, prefix_exp, table_exp, binary_exp, unary_exp, Prefix, var_prefix, call_prefix, paren_prefix, name_var, index_var, dot_var, plain_call, method_call, Args, no_args, list_args, table_args, str_args, ExpList, one_exp, exp_and, FieldList, no_field, item_field, keyed_field, named_field, no_more, separated}
use Rattle.lua_tree.specs.Attributes.{Limit, nodes, Counts, under, node, at_call, most, most_exprs, height}
use Rattle.lua_tree.specs.Reading as r
use Rattle.lua_tree.specs.Reading.{an_expr, an_args, some_exprs, some_fields, Place, in_expr, Shape, a_var, a_call, a_paren, shape, unfinished, Needs, Prog, give, take, then, deep, opening, held, down, called, first_of, more_of, prefix_of, suffixes_of, args_of, paren_args_of, more_exprs_of, fields_of, name_field_of, more_fields_of, program}
use Rattle.lua_tree.proofs.Follow.{NotFrom, NotSuffix}
use Rattle.lua_tree.proofs.Heights.{pushed, node_in, one_high}
use Rattle.lua_tree.proofs.Counting.{one_deep, two_deep, dots_need, node_under, node_below, pushed_held, opened, deep_opening, node_opening, end_none}
use Rattle.lua_tree.proofs.Posts.{Post, wp}

-- ---- levels

right_low : (o : BinOp) → right_level o ≤ unary_level
right_low or_ = omega arith
right_low and_ = omega arith
right_low less = omega arith
right_low greater = omega arith
right_low less_equal = omega arith
right_low greater_equal = omega arith
right_low not_equal = omega arith
right_low equal = omega arith
right_low concat = omega arith
right_low add = omega arith
right_low sub = omega arith
right_low mul = omega arith
right_low div = omega arith
right_low mod_ = omega arith
right_low pow = omega arith

left_near : (o : BinOp) → left_level o ≤ suc (level o)
left_near or_ = omega arith
left_near and_ = omega arith
left_near less = omega arith
left_near greater = omega arith
left_near less_equal = omega arith
left_near greater_equal = omega arith
left_near not_equal = omega arith
left_near equal = omega arith
left_near concat = omega arith
left_near add = omega arith
left_near sub = omega arith
left_near mul = omega arith
left_near div = omega arith
left_near mod_ = omega arith
left_near pow = omega arith

stops_unary : (o : BinOp) → level o < unary_level → left_level o ≤ unary_level
stops_unary o h = let i = left_near o in omega (arith, i, h)

stops_right : (o o2 : BinOp) → level o2 < right_level o → left_level o2 ≤ level o
stops_right concat concat h = omega (arith, h)
stops_right pow o2 h = let i = left_near o2 in omega (arith, i, h)
stops_right o concat h = omega (arith, h)
stops_right o pow h = omega (arith, h)
stops_right o o2 h = omega (arith, h)

pub not_open : (v : Word) → NotSuffix v → NotOpen v
not_open (key w.open_paren) h = h
not_open v h = tt

in_expr_held : (x : Limit) (sh : Shape) (c : Counts) (e : Expr) → most x (held (unfinished in_expr sh) c x) e ≡ most x (c x) e
in_expr_held x a_var c e = refl
in_expr_held x a_call c e = refl
in_expr_held x a_paren c e = refl

-- ---- exp

pub s_expr : (p : ℕ) (c : Counts) (ts : List Tok) → wp an_expr (program (r.expr p c)) ts (Post an_expr (r.expr p c) ts)
s_expr p c ts = λ a us l h e vs m k q. (k.0 ts (h.0 p q) h.1, k.1, λ x. let y = h.2 x in let z = k.2 x in omega (arith, y, z))

picked : (p n : ℕ) (A B : Prog an_expr) (ts : List Tok) (P : Expr → List Tok → Needs → Type 0) → (p ≤ n → wp an_expr A ts P)
    → (n < p → wp an_expr B ts P) → wp an_expr (cond (leb p n) A B) ts P
picked p n A B ts P f g = pick p n A B ts P f g (leb p n) refl
  where
    pick : (p n : ℕ) (A B : Prog an_expr) (ts : List Tok) (P : Expr → List Tok → Needs → Type 0) → (p ≤ n → wp an_expr A ts P)
        → (n < p → wp an_expr B ts P) → (b : Bool) → leb p n ≡ b → wp an_expr (cond b A B) ts P
    pick p n A B ts P f g true e = f (leb→le p n (subst T (sym e) tt))
    pick p n A B ts P f g false e = g (less_of p n e)
      where
        less_of : (p n : ℕ) → leb p n ≡ false → n < p
        less_of p n e = grind (arith, e)

binary_more : (p : ℕ) (c : Counts) (a : Expr) (o : BinOp) (at : Spot) (ts : List Tok) → p ≤ level o
    → wp an_expr (take (deep (suc (c nodes) + height a)) (then (r.expr (right_level o) (down c)) (λ b. then (r.more p c (binary at.line o a b)) give))) (tok (w.op o) at ∷ ts) (Post an_expr (r.more p c a) (tok (w.op o) at ∷ ts))
binary_more p c a o at ts le = λ b us l h e vs m k.
    let g = h (right_low o) in (
      λ ts0 ea ra. k.0 ts0 (binary_exp le (ra o refl) g.0) (λ o2 i. binary_exp (stops_right o o2 (subst (NotFrom (right_level o)) i g.1)) (ra o refl) g.0),
      k.1,
      λ x. let y = pushed x c a in let z = g.2 x in let v = k.2 x in let u = node_below x (c x) a in omega (arith, y, z, v, u),
    )

pub s_more : (p : ℕ) (c : Counts) (a : Expr) (ts : List Tok)
    → wp an_expr (program (r.more p c a)) ts (Post an_expr (r.more p c a) ts)
s_more p c a (tok (w.op o) at ∷ ts) =
    picked p (level o) (take (deep (suc (c nodes) + height a)) (then (r.expr (right_level o) (down c)) (λ b. then (r.more p c (binary at.line o a b)) give))) (give a) (tok (w.op o) at ∷ ts) (Post an_expr (r.more p c a) (tok (w.op o) at ∷ ts))
    (binary_more p c a o at ts) (λ lt. (λ ts0 e f. e, lt, λ x. omega arith))
s_more p c a [] = (λ ts0 e f. e, tt, λ x. omega arith)
s_more p c a (tok v at ∷ ts) = (λ ts0 e f. e, tt, λ x. omega arith)

from_prefix : (c : Counts) (ts : List Tok) → wp an_expr (then (r.prefix in_expr c) give) ts (Post an_expr (r.first c) ts)
from_prefix c ts = λ e us l h. (λ q i. prefix_exp h.0 (not_open (word_of us) h.1), λ o i. prefix_exp h.0 (not_open (word_of us) h.1), λ x. let y = h.2 x in let z = in_expr_held x (shape e) c e in omega (arith, y, z))

from_unary : (c : Counts) (o : UnOp) (v : Word) (at : Spot) (ts : List Tok) → IsUnary o v
    → wp an_expr (take (deep (c nodes + 2)) (then (r.expr unary_level (down c)) (λ e. give (unary at.line o e)))) (tok v at ∷ ts) (Post an_expr (r.first c) (tok v at ∷ ts))
from_unary c o v at ts u = λ e us l h.
    let g = h (omega arith) in (
      λ q i. unary_exp i u g.0,
      λ o2 i. unary_exp (stops_unary o2 (subst (NotFrom unary_level) i g.1)) u g.0,
      λ x. let y = two_deep x c in let z = g.2 x in let a = node_under x (c x) in let b = node_in x (under x (c x)) e in omega (arith, y, z, a, b),
    )

pub s_first : (c : Counts) (ts : List Tok) → wp an_expr (program (r.first c)) ts (Post an_expr (r.first c) ts)
s_first c [] = from_prefix c []
s_first c (tok (key w.nil_) at ∷ ts) = (λ q i. nil_exp, λ o i. nil_exp, λ x. let y = one_deep x c in omega (arith, y))
s_first c (tok (key w.true_) at ∷ ts) = (λ q i. true_exp, λ o i. true_exp, λ x. let y = one_deep x c in omega (arith, y))
s_first c (tok (key w.false_) at ∷ ts) = (λ q i. false_exp, λ o i. false_exp, λ x. let y = one_deep x c in omega (arith, y))
s_first c (tok (w.number z) at ∷ ts) = (λ q i. number_exp, λ o i. number_exp, λ x. let y = one_deep x c in omega (arith, y))
s_first c (tok (w.str b) at ∷ ts) = (λ q i. str_exp, λ o i. str_exp, λ x. let y = one_deep x c in omega (arith, y))
s_first c (tok (key w.dots) at ∷ ts) = (λ q i. dots_exp, λ o i. dots_exp, λ x. let y = dots_need x c in omega (arith, y))
s_first c (tok (key w.function_) at ∷ ts) = λ f us l h.
    (λ q i. function_exp h.0, λ o i. function_exp h.0, λ x. let y = two_deep x c in let z = h.1 x in let a = node_under x (c x) in let b = end_none x in omega (arith, y, z, a, b))
s_first c (tok (key w.not_) at ∷ ts) = from_unary c not_ (key w.not_) at ts tt
s_first c (tok (key w.hash) at ∷ ts) = from_unary c length_of (key w.hash) at ts tt
s_first c (tok (w.op sub) at ∷ ts) = from_unary c negate (w.op sub) at ts tt
s_first c (tok (key w.open_brace) at ∷ ts) = λ fs us l h. (λ q i. table_exp h.1, λ o i. table_exp h.1, λ x. let y = one_deep x c in let z = h.2 x in omega (arith, y, z))
s_first c (tok v at ∷ ts) = from_prefix c (tok v at ∷ ts)

-- ---- prefixexp

pub s_prefix : (k : Place) (c : Counts) (ts : List Tok) → wp an_expr (program (r.prefix k c)) ts (Post an_expr (r.prefix k c) ts)
s_prefix k c [] = tt
s_prefix k c (tok (w.name b) at ∷ ts) = λ e us l h. (h.0 (tok (w.name b) at ∷ ts) (var_prefix name_var), h.1, λ x. let y = one_deep x c in let z = h.2 x in omega (arith, y, z))
s_prefix k c (tok (key w.open_paren) at ∷ ts) = λ e us l h at2 vs q a ws m g.
    let i = h (omega arith) in
    let u = held (unfinished k a_paren) c in (
      g.0 (tok (key w.open_paren) at ∷ ts) (paren_prefix (subst (Exp 0 e ts) q i.0)),
      g.1,
      λ x. let y = two_deep x u in let z = i.2 x in let v = g.2 x in let n = node_under x (u x) in let o = node_in x (under x (u x)) e in omega (arith, y, z, v, n, o),
    )
s_prefix k c (tok v at ∷ ts) = tt

-- sums up a call: what its callee, its opening token and its arguments make unavoidable
regroup : (a d r e m : ℕ) → d ≤ r → max a (max d (max (max r e) m)) ≡ max (max a r) (max e m)
regroup a d r e m h = omega (arith, h)

summed : (w e m n at u : ℕ) → w ≡ max at u → n ≤ u → max w (max e m) ≡ max (max (max n at) (max u e)) m
summed w e m n at u h i = omega (arith, h, i)

call_sum : (a d r e m n at u l t : ℕ) → d ≤ r → max a r ≡ max at u → l ≡ max r e → n ≤ u → max (max (max n at) (max u e)) m ≡ t
    → max a (max d (max l m)) ≡ t
call_sum a d r e m n at u l t h i j k g = ap (λ l. max a (max d (max l m))) j ∙ (regroup a d r e m h ∙ (summed (max a r) e m n at u i k ∙ g))

s_called : (k : Place) (c : Counts) (a : Expr) (ts : List Tok) → wp an_expr (called k c a) ts (Post an_expr (r.suffixes k c a) ts)
s_called k c a ts = λ v us l h e vs m g.
    let u = held (unfinished k a_call) c in
    let o = one_high a in
    let i = h.1 (omega (arith, o)) in (
      λ ts0 pa. g.0 ts0 (call_prefix (plain_call pa h.0)),
      g.1,
      λ x. let s = call_sum (most x (held (unfinished k (shape a)) c x) a) 0 (opening (suc (u nodes) + height a) v.0 x) (most_exprs x (under x (u x)) v.1) (m x) (node x (u x)) (at_call x v.0) (most x (under x (u x)) a) (l x) (most x (held (unfinished k (shape e)) c x) e)
          (omega arith) (opened x (unfinished k (shape a)) (unfinished k a_call) c a v.0) (i x) (node_below x (u x) a) (g.2 x) in omega (arith, s),
    )

pub s_suffixes : (k : Place) (c : Counts) (a : Expr) (ts : List Tok)
    → wp an_expr (program (r.suffixes k c a)) ts (Post an_expr (r.suffixes k c a) ts)
s_suffixes k c a [] = (λ ts0 e. e, tt, λ x. omega arith)
s_suffixes k c a (tok (key w.open_bracket) at ∷ ts) = λ e us l h at2 vs q f ws m g.
    let i = h (omega arith) in (
      λ ts0 pa. g.0 ts0 (var_prefix (index_var pa (subst (Exp 0 e ts) q i.0))),
      g.1,
      λ x. let y = pushed_held x (unfinished k (shape a)) c a in let z = i.2 x in let v = g.2 x in let n = node_below x (c x) a in omega (arith, y, z, v, n),
    )
s_suffixes k c a (tok (key w.dot) at ∷ ts) = λ b at2 us q e vs m g. (
  λ ts0 pa. g.0 ts0 (var_prefix (dot_var (subst (λ ts. Prefix a ts0 (tok (key w.dot) at ∷ ts)) q pa))),
  g.1,
  λ x. let y = pushed_held x (unfinished k (shape a)) c a in let v = g.2 x in let n = node_below x (c x) a in let o = node_in x (under x (c x)) a in omega (arith, y, v, n, o),
)
s_suffixes k c a (tok (key w.colon) at ∷ ts) = λ b at2 us q v vs l h e ws m g.
    let u = held (unfinished k a_call) c in
    let o = one_high a in
    let i = h.1 (omega (arith, o)) in (
      λ ts0 pa. g.0 ts0 (call_prefix (method_call (subst (λ ts. Prefix a ts0 (tok (key w.colon) at ∷ ts)) q pa) h.0)),
      g.1,
      λ x. let s = call_sum (most x (held (unfinished k (shape a)) c x) a) (deep (suc (u nodes) + height a) x) (opening (suc (u nodes) + height a) v.0 x) (most_exprs x (under x (u x)) v.1) (m x) (node x (u x)) (at_call x v.0) (most x (under x (u x)) a) (l x) (most x (held (unfinished k (shape e)) c x) e)
          (deep_opening x (suc (u nodes) + height a) v.0) (opened x (unfinished k (shape a)) (unfinished k a_call) c a v.0) (i x) (node_below x (u x) a) (g.2 x) in omega (arith, s),
    )
s_suffixes k c a (tok (key w.open_paren) at ∷ ts) = s_called k c a (tok (key w.open_paren) at ∷ ts)
s_suffixes k c a (tok (key w.open_brace) at ∷ ts) = s_called k c a (tok (key w.open_brace) at ∷ ts)
s_suffixes k c a (tok (w.str b) at ∷ ts) = s_called k c a (tok (w.str b) at ∷ ts)
s_suffixes k c a (tok v at ∷ ts) = (λ ts0 e. e, tt, λ x. omega arith)

pub s_args : (n : ℕ) (c : Counts) (ts : List Tok) → wp an_args (program (r.args n c)) ts (Post an_args (r.args n c) ts)
s_args n c [] = tt
s_args n c (tok (key w.open_paren) at ∷ ts) = λ v us l h. (
  subst (λ line. Args line v.1 (tok (key w.open_paren) at ∷ ts) us) (sym h.0) (h.1 at refl),
  λ le x. let y = h.2 x in let z = ap (λ line. r.opening n line x) h.0 in omega (arith, y, z),
)
s_args n c (tok (key w.open_brace) at ∷ ts) = λ fs us l h. (table_args h.1, λ le x. let y = h.2 x in let z = node_opening x c n at.line le in omega (arith, y, z))
s_args n c (tok (w.str b) at ∷ ts) = (str_args, λ le x. let z = node_opening x c n at.line le in omega (arith, z))
s_args n c (tok v at ∷ ts) = tt

from_list : (line : ℕ) (c : Counts) (ts : List Tok)
    → wp an_args (then (r.exprs c) (λ es. r.expect w.close_paren r.free (λ s. give (line, es)))) ts (Post an_args (r.paren_args line c) ts)
from_list line c ts = λ es us l h at2 vs q. (refl, λ at e. list_args (subst (ExpList es ts) q h.0), λ x. let y = h.1 x in omega (arith, y))

pub s_paren_args : (line : ℕ) (c : Counts) (ts : List Tok)
    → wp an_args (program (r.paren_args line c)) ts (Post an_args (r.paren_args line c) ts)
s_paren_args line c [] = from_list line c []
s_paren_args line c (tok (key w.close_paren) at ∷ ts) = (refl, λ at2 e. no_args, λ x. omega arith)
s_paren_args line c (tok v at ∷ ts) = from_list line c (tok v at ∷ ts)

-- ---- explist

pub s_exprs : (c : Counts) (ts : List Tok) → wp some_exprs (program (r.exprs c)) ts (Post some_exprs (r.exprs c) ts)
s_exprs c ts = λ e us l h es vs m k. let g = h (omega arith) in (k.0 e ts g.0, λ x. let y = g.2 x in let z = k.1 x in omega (arith, y, z))

pub s_more_exprs : (c : Counts) (ts : List Tok)
    → wp some_exprs (program (r.more_exprs c)) ts (Post some_exprs (r.more_exprs c) ts)
s_more_exprs c [] = (λ e ts0 d. one_exp d, λ x. omega arith)
s_more_exprs c (tok (key w.comma) at ∷ ts) = λ es us l h. (λ e ts0 d. exp_and d h.0, λ x. let y = h.1 x in omega (arith, y))
s_more_exprs c (tok v at ∷ ts) = (λ e ts0 d. one_exp d, λ x. omega arith)

-- ---- fields

from_item : (c : Counts) (ts : List Tok)
    → wp some_fields (then (r.expr 0 c) (λ e. then (r.more_fields c) (λ fs. give (item_and e fs)))) ts (Post some_fields (r.fields c) ts)
from_item c ts = λ e us l h fs vs m k. let g = h (omega arith) in (k.0, item_field g.0 k.1, λ x. let y = g.2 x in let z = k.2 x in omega (arith, y, z))

pub s_fields : (c : Counts) (ts : List Tok) → wp some_fields (program (r.fields c)) ts (Post some_fields (r.fields c) ts)
s_fields c [] = from_item c []
s_fields c (tok (key w.close_brace) at ∷ ts) = (at, no_field, λ x. omega arith)
s_fields c (tok (key w.open_bracket) at ∷ ts) = λ k us l h at2 vs q at3 ws q2 e us2 m g fs us3 n i.
    let a = h (omega arith) in
    let b = g (omega arith) in (
      i.0,
      keyed_field (subst (λ vs. Exp 0 k ts (tok (key w.close_bracket) at2 ∷ vs)) q2 (subst (Exp 0 k ts) q a.0)) b.0 i.1,
      λ x. let y = a.2 x in let z = b.2 x in let v = i.2 x in let u = one_deep x c in let o = node_in x (c x) k in omega (arith, y, z, v, u, o),
    )
s_fields c (tok (w.name b) at ∷ ts) = λ fs us l h. (h.0, h.1 at refl, λ x. let y = h.2 x in let u = one_deep x c in omega (arith, y, u))
s_fields c (tok v at ∷ ts) = from_item c (tok v at ∷ ts)

pub s_more_fields : (c : Counts) (ts : List Tok)
    → wp some_fields (program (r.more_fields c)) ts (Post some_fields (r.more_fields c) ts)
s_more_fields c [] = tt
s_more_fields c (tok (key w.comma) at ∷ ts) = λ fs us l h. (h.0, separated tt h.1, λ x. let y = h.2 x in omega (arith, y))
s_more_fields c (tok (key w.semicolon) at ∷ ts) = λ fs us l h. (h.0, separated tt h.1, λ x. let y = h.2 x in omega (arith, y))
s_more_fields c (tok (key w.close_brace) at ∷ ts) = (at, no_more, λ x. omega arith)
s_more_fields c (tok v at ∷ ts) = tt

-- a field that begins with a name and is an expression
from_name : (line : ℕ) (b : Bytes) (c : Counts) (ts : List Tok)
    → wp some_fields (then (r.suffixes in_expr c (name line b)) (λ a. then (r.more 0 c a) (λ e. then (r.more_fields c) (λ fs. give (item_and e fs))))) ts (Post some_fields (r.name_field line b c) ts)
from_name line b c ts = λ a us l h e vs m k fs ws n i. (
  i.0,
  λ at q.
      let p = h.0 (tok (w.name b) at ∷ ts) (subst (λ line. Prefix (name line b) (tok (w.name b) at ∷ ts) ts) (sym q) (var_prefix name_var)) in
      item_field (k.0 (tok (w.name b) at ∷ ts) (prefix_exp p (not_open (word_of us) h.1)) (λ o i. prefix_exp p (not_open (word_of us) h.1))) i.1,
  λ x. let y = h.2 x in let z = in_expr_held x (shape a) c a in let u = k.2 x in let v = i.2 x in omega (arith, y, z, u, v),
)

pub s_name_field : (line : ℕ) (b : Bytes) (c : Counts) (ts : List Tok)
    → wp some_fields (program (r.name_field line b c)) ts (Post some_fields (r.name_field line b c) ts)
s_name_field line b c [] = from_name line b c []
s_name_field line b c (tok (key w.assign) at ∷ ts) = λ e us l h fs vs m k.
    let g = h (omega arith) in (
      k.0,
      λ at2 q. subst (λ line. FieldList (keyed_and (str line b) e fs) (tok (w.name b) at2 ∷ tok (key w.assign) at ∷ ts) (tok (key w.close_brace) k.0 ∷ vs)) (sym q) (named_field g.0 k.1),
      λ x. let y = g.2 x in let z = k.2 x in omega (arith, y, z),
    )
s_name_field line b c (tok v at ∷ ts) = from_name line b c (tok v at ∷ ts)
