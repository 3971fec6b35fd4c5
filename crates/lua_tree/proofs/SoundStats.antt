-- What the rules of statements read is spelled, and what is made unavoidable is what is counted.
use Rattle.std.proofs.Common.{ℕ, suc, ◌+◌, ◌≤◌, ◌≡◌, refl, sym, ap, ◌∙◌, subst, max, length, length-append, List, [], ◌∷◌, ◌++◌, Bool, true, arith}
use Rattle.lua_tree.specs.Tree.{Bytes, Expr, Exprs, no_exprs, expr_and, func, no_stats, assign, local, call_stat, num_for, num_for_by, gen_for, function_stat, local_function, return_stat, Arms}
use Rattle.lua_tree.specs.Words as w
use Rattle.lua_tree.specs.Words.{Word, key, Spot, Tok, tok, word_of, spot_of}
use Rattle.lua_tree.specs.Grammar.{first_line, NameList, one_name, name_and, Params, no_params, only_dots, only_names, names_dots, NamePath, one_path, dot_path, plain_name, method_name, no_semi, a_semi, Exp, Prefix, var_prefix, call_prefix, paren_prefix, Var, name_var, index_var, dot_var, Call, plain_call, method_call, ExpList, one_exp, exp_and, Body, body, Stats, no_stat, a_stat, last_stat, StatOf, assign_of, call_of, do_of, while_of, repeat_of, if_of, num_for_of, num_for_by_of, gen_for_of, function_of, local_function_of, local_of, local_with_of, LastOf, return_of, return_with_of, break_of, VarList, one_var, var_and, ArmsOf, arm_of, elseif_of, else_of, end_of}
use Rattle.lua_tree.specs.Attributes.{Limit, breaks, varargs, nodes, locals, calls, Counts, under, named, node, at_end, declared, most, most_exprs, most_block, most_arms}
use Rattle.lua_tree.specs.Reading as r
use Rattle.lua_tree.specs.Reading.{some_exprs, some_targets, a_func, a_block, a_stat, some_arms, some_names, some_params, a_target, a_semi, leading, targeted, Shape, a_var, a_call, a_paren, shape, unfinished, Needs, Prog, give, take, then, expect, expect_name, free, deep, many, held, down, in_loop, in_body, behind, with_last, with_stat, prefix_stat_of, target_of, program}
use Rattle.lua_tree.proofs.Heights.{pushed, node_in}
use Rattle.lua_tree.proofs.Counting.{one_deep, break_need, many_is, many_more, end_up, end_of_named, end_of_looped, end_under, end_at, end_inside, node_below, end_none}
use Rattle.lua_tree.proofs.Comes.{both}
use Rattle.lua_tree.proofs.Posts.{Post, wp}
use Rattle.lua_tree.proofs.SoundExprs.{not_open}

-- ---- names and parameters

pub s_params : (n : ℕ) (ts : List Tok) → wp some_params (program (r.params n)) ts (Post some_params (r.params n) ts)
s_params n [] = λ v us l h. (h.0, λ x. let y = h.2 x in omega (arith, y))
s_params n (tok (key w.close_paren) at ∷ ts) = (no_params, λ x. let y = end_at x (n + 0) n (omega arith) in omega (arith, y))
s_params n (tok v at ∷ ts) = λ v us l h. (h.0, λ x. let y = h.2 x in omega (arith, y))

step_names : (x : Limit) (n k : ℕ) (l m : ℕ) → max (at_end x (suc n)) l ≡ at_end x (suc n + k)
    → max (at_end x n) (max (many (suc n) x) l) ≡ at_end x (n + suc k)
step_names x n k l m h = let y = many_is x (suc n) in let z = end_up x n (suc n) (omega arith) in let v = end_at x (suc n + k) (n + suc k) (omega arith) in omega (arith, h, y, z, v)

pub s_next_param : (n : ℕ) (ts : List Tok) → wp some_params (program (r.next_param n)) ts (Post some_params (r.next_param n) ts)
s_next_param n [] = tt
s_next_param n (tok (key w.dots) at ∷ ts) = λ at2 us q. (
  subst (λ ts. Params [] true (tok (key w.dots) at ∷ ts) us) (sym q) only_dots,
  λ b at3 at4. subst (λ ts. Params (b ∷ []) true (tok (w.name b) at3 ∷ tok (key w.comma) at4 ∷ tok (key w.dots) at ∷ ts) us) (sym q) (names_dots one_name),
  λ x. let y = end_at x (n + 0) n (omega arith) in omega (arith, y),
)
s_next_param n (tok (w.name b) at ∷ ts) = λ v us l h.
    (h.0 b at, λ b2 at3 at4. name_before b b2 v.0 v.1 at at3 at4 ts us (h.0 b at), λ x. let y = step_names x n (length v.0) (l x) 0 (h.1 x) in omega (arith, y))
  where
    name_before : (b b2 : Bytes) (xs : List Bytes) (d : Bool) (at at3 at4 : Spot) (ts us : List Tok)
        → Params (b ∷ xs) d (tok (w.name b) at ∷ ts) us
        → Params (b2 ∷ b ∷ xs) d (tok (w.name b2) at3 ∷ tok (key w.comma) at4 ∷ tok (w.name b) at ∷ ts) us
    name_before b b2 xs d at at3 at4 ts us (only_names h) = only_names (name_and h)
    name_before b b2 xs d at at3 at4 ts us (names_dots h) = names_dots (name_and h)
s_next_param n (tok v at ∷ ts) = tt

pub s_more_params : (n : ℕ) (ts : List Tok)
    → wp some_params (program (r.more_params n)) ts (Post some_params (r.more_params n) ts)
s_more_params n [] = tt
s_more_params n (tok (key w.comma) at ∷ ts) = λ v us l h. (λ b at2. h.1 b at2 at, λ x. let y = h.2 x in omega (arith, y))
s_more_params n (tok (key w.close_paren) at ∷ ts) = (λ b at2. only_names one_name, λ x. let y = end_at x (n + 0) n (omega arith) in omega (arith, y))
s_more_params n (tok v at ∷ ts) = tt

pub s_more_names : (n : ℕ) (ts : List Tok) → wp some_names (program (r.more_names n)) ts (Post some_names (r.more_names n) ts)
s_more_names n [] = (λ b at. one_name, λ x. let y = end_at x (n + 0) n (omega arith) in omega (arith, y))
s_more_names n (tok (key w.comma) at ∷ ts) = λ b at2 us q xs vs l h. (
  λ b2 at3. subst (λ ts. NameList (b2 ∷ b ∷ xs) (tok (w.name b2) at3 ∷ tok (key w.comma) at ∷ ts) vs) (sym q) (name_and (h.0 b at2)),
  λ x. let y = step_names x n (length xs) (l x) 0 (h.1 x) in omega (arith, y),
)
s_more_names n (tok v at ∷ ts) = (λ b at. one_name, λ x. let y = end_at x (n + 0) n (omega arith) in omega (arith, y))

pub s_func_name : (c : Counts) (a : Expr) (ts : List Tok)
    → wp a_target (program (r.func_name c a)) ts (Post a_target (r.func_name c a) ts)
s_func_name c a [] = (λ ts0 h. plain_name h, λ x. let y = end_none x in omega (arith, y))
s_func_name c a (tok (key w.dot) at ∷ ts) = λ b at2 us q v vs l h. (
  λ ts0 p. h.0 ts0 (dot_path (subst (λ ts. NamePath a ts0 (tok (key w.dot) at ∷ ts)) q p)),
  λ x. let y = h.1 x in let z = pushed x c a in let n = node_below x (c x) a in let o = node_in x (under x (c x)) a in omega (arith, y, z, n, o),
)
s_func_name c a (tok (key w.colon) at ∷ ts) = λ b at2 us q. (
  λ ts0 p. method_name (subst (λ ts. NamePath a ts0 (tok (key w.colon) at ∷ ts)) q p),
  λ x. let z = pushed x c a in let n = node_below x (c x) a in let o = node_in x (under x (c x)) a in let y = many_is x 1 in omega (arith, z, n, o, y),
)
s_func_name c a (tok v at ∷ ts) = (λ ts0 h. plain_name h, λ x. let y = end_none x in omega (arith, y))

-- ---- function bodies

pub s_func_body : (line : ℕ) (hidden : List Bytes) (c : Counts) (ts : List Tok)
    → wp a_func (program (r.func_body line hidden c)) ts (Post a_func (r.func_body line hidden c) ts)
s_func_body line hidden c ts = λ at us q v vs l h b ws m g at2 xs q2. (
  subst (λ ts. Body line hidden (func line (hidden ++ v.0) v.1 b) ts xs) (sym q) (body h.0 (subst (Stats b vs) q2 g.0)),
  λ x.
      let y = h.1 x in
      let z = g.1 x in
      let i = end_inside x (hidden ++ v.0) v.1 (c x) in
      let j = end_at x (length (hidden ++ v.0)) (length hidden + length v.0) (length-append hidden v.0) in
      omega (arith, y, z, i, j),
)

-- ---- blocks

pub s_semi : (ts : List Tok) → wp a_semi (program r.semi) ts (Post a_semi r.semi ts)
s_semi [] = (no_semi, λ x. refl)
s_semi (tok (key w.semicolon) at ∷ ts) = (a_semi, λ x. omega arith)
s_semi (tok v at ∷ ts) = (no_semi, λ x. refl)

pub s_chunk : (ts : List Tok) → wp a_block (program r.chunk) ts (Post a_block r.chunk ts)
s_chunk ts = λ b us l h q. (subst (Stats b ts) q h.0, refl, λ x. let y = h.1 x in omega (arith, y))

from_stat : (c : Counts) (ts : List Tok) → wp a_block (with_stat c) ts (Post a_block (r.block c) ts)
from_stat c ts = λ st us l h u vs l2 s b ws l3 g. (a_stat h.0 s.0 g.0, λ x. let y = h.1 x in let z = s.1 x in let v = g.1 x in omega (arith, y, z, v))

from_last : (c : Counts) (ts : List Tok) → wp a_block (with_last c) ts (Post a_block (r.block c) ts)
from_last c ts = λ st us l h u vs l2 s. (
  last_stat h.0 s.0,
  λ x. let y = h.2 x in let z = s.1 x in let e = end_of_named x (declared st) (c x) in let d = h.1 in let v = end_at x (c x + declared st) (c x) (omega (arith, d)) in omega (arith, y, z, e, v),
)

nothing : (c : Counts) (ts : List Tok) → wp a_block (give no_stats) ts (Post a_block (r.block c) ts)
nothing c ts = (no_stat, λ x. omega arith)

pub s_block : (c : Counts) (ts : List Tok) → wp a_block (program (r.block c)) ts (Post a_block (r.block c) ts)
s_block c [] = nothing c []
s_block c (tok (key w.return_) at ∷ ts) = from_last c (tok (key w.return_) at ∷ ts)
s_block c (tok (key w.break_) at ∷ ts) = from_last c (tok (key w.break_) at ∷ ts)
s_block c (tok (key w.do_) at ∷ ts) = from_stat c (tok (key w.do_) at ∷ ts)
s_block c (tok (key w.while_) at ∷ ts) = from_stat c (tok (key w.while_) at ∷ ts)
s_block c (tok (key w.repeat_) at ∷ ts) = from_stat c (tok (key w.repeat_) at ∷ ts)
s_block c (tok (key w.if_) at ∷ ts) = from_stat c (tok (key w.if_) at ∷ ts)
s_block c (tok (key w.for_) at ∷ ts) = from_stat c (tok (key w.for_) at ∷ ts)
s_block c (tok (key w.function_) at ∷ ts) = from_stat c (tok (key w.function_) at ∷ ts)
s_block c (tok (key w.local_) at ∷ ts) = from_stat c (tok (key w.local_) at ∷ ts)
s_block c (tok (w.name b) at ∷ ts) = from_stat c (tok (w.name b) at ∷ ts)
s_block c (tok (key w.open_paren) at ∷ ts) = from_stat c (tok (key w.open_paren) at ∷ ts)
s_block c (tok v at ∷ ts) = nothing c (tok v at ∷ ts)

pub s_loop_block : (k : ℕ) (c : Counts) (ts : List Tok)
    → wp a_block (program (r.loop_block k c)) ts (Post a_block (r.loop_block k c) ts)
s_loop_block k c ts = λ at us q b vs l h at2 ws q2. (at, us, at2, q, subst (Stats b us) q2 h.0, λ x. let y = h.1 x in omega (arith, y))

-- ---- statements

none_named : (x : Limit) (n : ℕ) → at_end x (named x 0 n) ≡ at_end x n
none_named x n = end_of_named x 0 n ∙ end_at x (n + 0) n (omega arith)

lead_stat : (c : Counts) (ts : List Tok)
    → wp a_stat (then (r.prefix leading c) (λ e. then (r.prefix_stat (first_line ts) c e) give)) ts (Post a_stat (r.stat c) ts)
lead_stat c ts = λ e us l h st vs m g. (g.0 ts (not_open (word_of us) h.1) h.0 refl, λ x. let y = h.2 x in let z = g.1 x in omega (arith, y, z))

pub s_stat : (c : Counts) (ts : List Tok) → wp a_stat (program (r.stat c)) ts (Post a_stat (r.stat c) ts)
s_stat c [] = lead_stat c []
s_stat c (tok (key w.do_) at ∷ ts) = λ b us l h at2 vs q.
    (do_of (subst (Stats b ts) q h.0), λ x. let y = h.1 x in let d = one_deep x c in let e = end_under x (c x) in let n = none_named x (c x) in omega (arith, y, d, e, n))
s_stat c (tok (key w.while_) at ∷ ts) = λ e us l h b vs m g.
    let i = h (omega arith) in (
      while_of (subst (Exp 0 e ts) g.3 i.0) g.4,
      λ x. let y = i.2 x in let z = g.5 x in let d = one_deep x c in let n = none_named x (c x) in let o = end_of_looped x 0 (c x) in let p = end_at x (c x + 0) (c x) (omega arith) in omega (arith, y, z, d, n, o, p),
    )
s_stat c (tok (key w.repeat_) at ∷ ts) = λ b us l h at2 vs q e ws m g.
    let i = g (omega arith) in (
      repeat_of (subst (Stats b ts) q h.0) i.0,
      λ x. let y = h.1 x in let z = i.2 x in let d = one_deep x c in let n = none_named x (c x) in let o = end_of_looped x 0 (c x) in let p = end_at x (c x + 0) (c x) (omega arith) in omega (arith, y, z, d, n, o, p),
    )
s_stat c (tok (key w.if_) at ∷ ts) = λ xs us l h.
    (if_of h.0, λ x. let y = h.1 x in let d = one_deep x c in let n = none_named x (c x) in let a = arms_node x (c x) xs ts us h.0 in omega (arith, y, d, n, a))
  where
    arms_node : (x : Limit) (n : ℕ) (xs : Arms) (ts us : List Tok) → ArmsOf xs ts us → node x n ≤ most_arms x n xs
    arms_node x n xs ts us (arm_of {e = e} d s m) = let y = node_in x n e in omega (arith, y)
s_stat c (tok (key w.for_) at ∷ ts) = λ b at2 us q st vs l h. (
  subst (λ ts. StatOf st (tok (key w.for_) at ∷ ts) vs) (sym q) (h.0 at at2 refl),
  λ x. let y = h.1 x in let d = one_deep x c in let m = many_more x c in let e = end_up x (c x) (suc (c x)) (omega arith) in omega (arith, y, d, m, e),
)
s_stat c (tok (key w.function_) at ∷ ts) = λ b at2 us q t vs l h f ws m g. (
  subst (λ ts. StatOf (function_stat at.line t.0 f) (tok (key w.function_) at ∷ ts) ws) (sym q) (function_of (h.0 (tok (w.name b) at2 ∷ us) one_path) g.0),
  λ x. let y = h.1 x in let z = g.1 x in let d = one_deep x c in let n = none_named x (c x) in omega (arith, y, z, d, n),
)
s_stat c (tok (key w.local_) at ∷ ts) = λ st us l h. (h.0 at refl, λ x. let y = h.1 x in omega (arith, y))
s_stat c (tok v at ∷ ts) = lead_stat c (tok v at ∷ ts)

-- ---- statements that begin with a prefix expression

abbrev IsShape : Shape → Shape → Type 0
IsShape a_var a_var = Unit {0}
IsShape a_call a_call = Unit {0}
IsShape a_paren a_paren = Unit {0}
IsShape a b = ⊥

var_of : (e : Expr) (ts us : List Tok) → Prefix e ts us → shape e ≡ a_var → Var e ts us
var_of e ts us (var_prefix v) q = v
var_of e ts us (call_prefix (plain_call p h)) q = absurd (subst (IsShape a_call) q tt)
var_of e ts us (call_prefix (method_call p h)) q = absurd (subst (IsShape a_call) q tt)
var_of e ts us (paren_prefix h) q = absurd (subst (IsShape a_paren) q tt)

call_in : (e : Expr) (ts us : List Tok) → Prefix e ts us → shape e ≡ a_call → Call e ts us
call_in e ts us (call_prefix h) q = h
call_in e ts us (var_prefix name_var) q = absurd (subst (IsShape a_var) q tt)
call_in e ts us (var_prefix (index_var p h)) q = absurd (subst (IsShape a_var) q tt)
call_in e ts us (var_prefix (dot_var p)) q = absurd (subst (IsShape a_var) q tt)
call_in e ts us (paren_prefix h) q = absurd (subst (IsShape a_paren) q tt)

by_shape : (line : ℕ) (c : Counts) (e : Expr) (ts : List Tok) (sh : Shape) → shape e ≡ sh
    → wp a_stat (prefix_stat_of line c e sh) ts (Post a_stat (r.prefix_stat line c e) ts)
by_shape line c e ts a_var q = λ es us l h at vs q2 xs ws m g. (
  λ ts0 no p lq. subst (λ line. StatOf (assign line (expr_and e es) xs) ts0 ws) (sym lq) (assign_of (subst (VarList (expr_and e es) ts0) q2 (h.0 e ts0 (var_of e ts0 ts p q))) g.0),
  λ x. let y = h.1 x in let z = g.1 x in let n = none_named x (c x) in let k = ap (λ sh. most x (held (unfinished leading sh) c x) e) q in omega (arith, y, z, n, k),
)
by_shape line c e ts a_call q = (
  λ ts0 no p lq. subst (λ line. StatOf (call_stat line e) ts0 ts) (sym lq) (call_of (call_in e ts0 ts p q) no),
  λ x. let n = none_named x (c x) in let k = ap (λ sh. most x (held (unfinished leading sh) c x) e) q in omega (arith, n, k),
)
by_shape line c e ts a_paren q = tt

pub s_prefix_stat : (line : ℕ) (c : Counts) (e : Expr) (ts : List Tok)
    → wp a_stat (program (r.prefix_stat line c e)) ts (Post a_stat (r.prefix_stat line c e) ts)
s_prefix_stat line c e ts = by_shape line c e ts (shape e) refl

target_by : (c : Counts) (at : Spot) (ts : List Tok) (e : Expr) (us : List Tok) (l : Needs) → Prefix e ts us
    → ((x : Limit) → l x ≡ most x (held (unfinished targeted (shape e)) c x) e) → (sh : Shape) → shape e ≡ sh
    → wp some_targets (target_of c e sh) us (λ es vs m. Post some_targets (r.more_targets c) (tok (key w.comma) at ∷ ts) es vs (both free (both l m)))
target_by c at ts e us l p i a_var q = λ es vs m g. (
  λ e0 ts0 v. var_and v (g.0 e ts (var_of e ts us p q)),
  λ x. let y = i x in let z = g.1 x in let k = ap (λ sh. most x (held (unfinished targeted sh) c x) e) q in omega (arith, y, z, k),
)
target_by c at ts e us l p i a_call q = tt
target_by c at ts e us l p i a_paren q = tt

pub s_more_targets : (c : Counts) (ts : List Tok)
    → wp some_targets (program (r.more_targets c)) ts (Post some_targets (r.more_targets c) ts)
s_more_targets c [] = (λ e ts0 v. one_var v, λ x. omega arith)
s_more_targets c (tok (key w.comma) at ∷ ts) = λ e us l h. target_by c at ts e us l h.0 h.2 (shape e) refl
s_more_targets c (tok v at ∷ ts) = (λ e ts0 v. one_var v, λ x. omega arith)

-- ---- loops

end_locals : (x : Limit) (c : Counts) (k : ℕ) → at_end x (suc (c locals) + k) ≡ at_end x (suc (c x) + k)
end_locals breaks c k = refl
end_locals varargs c k = refl
end_locals nodes c k = refl
end_locals locals c k = refl
end_locals calls c k = refl

names_end : (x : Limit) (c : Counts) (k l : ℕ) → max (at_end x (suc (c locals))) l ≡ at_end x (suc (c locals) + k)
    → max (at_end x (suc (c x))) l ≡ at_end x (c x + suc k)
names_end x c k l h =
    let y = end_locals x c k in
    let z = end_locals x c 0 in
    let a = end_at x (suc (c locals) + 0) (suc (c locals)) (omega arith) in
    let b = end_at x (suc (c x) + 0) (suc (c x)) (omega arith) in
    let d = end_at x (suc (c x) + k) (c x + suc k) (omega arith) in
    omega (arith, h, y, z, a, b, d)

regroup : (e1 nd l es nn : ℕ) → max (max e1 nd) (max l (max es nn)) ≡ max (max es nd) (max (max e1 l) nn)
regroup e1 nd l es nn = omega arith

loop_sum : (es nd mb en e1 l nn : ℕ) → max (max e1 l) nn ≡ mb → en ≤ e1
    → max (max es nd) (max (max e1 l) nn) ≡ max (max es (max nd mb)) en
loop_sum es nd mb en e1 l nn h i = omega (arith, h, i)

gen_sum : (e1 nd l es nn k mb en m : ℕ) → max e1 l ≡ k → max k nn ≡ mb → en ≤ e1 → m ≡ es
    → max (max e1 nd) (max l (max m nn)) ≡ max (max es (max nd mb)) en
gen_sum e1 nd l es nn k mb en m h i j q = ap (λ m. max (max e1 nd) (max l (max m nn))) q ∙ (regroup e1 nd l es nn ∙ loop_sum es nd mb en e1 l nn (ap (λ k. max k nn) h ∙ i) j)

from_names : (line : ℕ) (b : Bytes) (c : Counts) (ts : List Tok)
    → wp a_stat (then (r.more_names (suc (c locals))) (λ xs. expect w.in_ free (λ s. then (r.exprs c) (λ es. then (r.loop_block (length (b ∷ xs)) c) (λ d. give (gen_for line (b ∷ xs) es d)))))) ts (Post a_stat (r.for_rest line b c) ts)
from_names line b c ts = λ xs us l h at2 vs q es ws m g d ys n i. (
  λ at3 at4 lq. subst (λ line. StatOf (gen_for line (b ∷ xs) es d) (tok (key w.for_) at3 ∷ tok (w.name b) at4 ∷ ts) ys) (sym lq) (gen_for_of (subst (NameList (b ∷ xs) (tok (w.name b) at4 ∷ ts)) q (h.0 b at4)) (subst (ExpList es vs) i.3 g.0) i.4),
  λ x.
      let p = none_named x (c x) in
      let u = end_up x (c x) (suc (c x)) (omega arith) in
      let s = gen_sum (at_end x (suc (c x))) (node x (c x)) (l x) (most_exprs x (c x) es) (n x) (at_end x (c x + suc (length xs))) (most_block x (in_loop (suc (length xs)) c x) d) (at_end x (named x 0 (c x))) (m x)
      (names_end x c (length xs) (l x) (h.1 x)) (ap (λ k. max k (n x)) (sym (end_of_looped x (suc (length xs)) (c x))) ∙ i.5 x) (omega (arith, p, u)) (g.1 x) in
      omega (arith, s),
)

pub s_for_rest : (line : ℕ) (b : Bytes) (c : Counts) (ts : List Tok)
    → wp a_stat (program (r.for_rest line b c)) ts (Post a_stat (r.for_rest line b c) ts)
s_for_rest line b c [] = from_names line b c []
s_for_rest line b c (tok (key w.assign) at ∷ ts) = λ a us l h at2 vs q e ws m g st xs n i.
    let j = h (omega arith) in
    let k = g (omega arith) in
    (λ at3 at4 lq. i.0 at3 at4 at at2 ts vs lq (subst (Exp 0 a ts) q j.0) k.0, λ x. let y = j.2 x in let z = k.2 x in let v = i.1 x in omega (arith, y, z, v))
s_for_rest line b c (tok v at ∷ ts) = from_names line b c (tok v at ∷ ts)

looped_end : (x : Limit) (c : Counts) → at_end x (in_loop 1 c x) ≡ at_end x (suc (c x))
looped_end x c = end_of_looped x 1 (c x) ∙ end_at x (c x + 1) (suc (c x)) (omega arith)

from_block : (line : ℕ) (b : Bytes) (a e : Expr) (c : Counts) (ts : List Tok)
    → wp a_stat (then (r.loop_block 1 c) (λ d. give (num_for line b a e d))) ts (Post a_stat (r.num_for_rest line b a e c) ts)
from_block line b a e c ts = λ d vs m g. (
  λ at at2 at3 at4 mm nn lq ea ee. subst (λ line. StatOf (num_for line b a e d) (tok (key w.for_) at ∷ tok (w.name b) at2 ∷ tok (key w.assign) at3 ∷ mm) vs) (sym lq) (num_for_of ea (subst (Exp 0 e nn) g.3 ee) g.4),
  λ x. let y = g.5 x in let o = looped_end x c in let p = none_named x (c x) in let u = end_up x (c x) (suc (c x)) (omega arith) in omega (arith, y, o, p, u),
)

pub s_num_for_rest : (line : ℕ) (b : Bytes) (a e : Expr) (c : Counts) (ts : List Tok)
    → wp a_stat (program (r.num_for_rest line b a e c)) ts (Post a_stat (r.num_for_rest line b a e c) ts)
s_num_for_rest line b a e c [] = from_block line b a e c []
s_num_for_rest line b a e c (tok (key w.comma) at ∷ ts) = λ s us l h d vs m g.
    let j = h (omega arith) in (
      λ at2 at3 at4 at5 mm nn lq ea ee. subst (λ line. StatOf (num_for_by line b a e s d) (tok (key w.for_) at2 ∷ tok (w.name b) at3 ∷ tok (key w.assign) at4 ∷ mm) vs) (sym lq) (num_for_by_of ea ee (subst (Exp 0 s ts) g.3 j.0) g.4),
      λ x. let y = g.5 x in let z = j.2 x in let o = looped_end x c in let p = none_named x (c x) in let u = end_up x (c x) (suc (c x)) (omega arith) in omega (arith, y, z, o, p, u),
    )
s_num_for_rest line b a e c (tok v at ∷ ts) = from_block line b a e c (tok v at ∷ ts)

-- ---- local, and the last statement

from_local : (line : ℕ) (c : Counts) (ts : List Tok)
    → wp a_stat (expect_name (many (suc (c locals))) (λ b s. then (r.more_names (suc (c locals))) (λ xs. then (r.init c) (λ es. give (local line (b ∷ xs) es))))) ts (Post a_stat (r.local_rest line c) ts)
from_local line c ts = λ b at us q xs vs l h es ws m g. (
  λ at2 lq. subst (λ line. StatOf (local line (b ∷ xs) es) (tok (key w.local_) at2 ∷ ts) ws) (sym lq) (g.0 at2 (b ∷ xs) ts (subst (λ ts. NameList (b ∷ xs) ts vs) (sym q) (h.0 b at))),
  λ x.
      let y = names_end x c (length xs) (l x) (h.1 x) in
      let z = g.1 x in
      let k = many_more x c in
      let e = end_of_named x (suc (length xs)) (c x) in
      let u = end_up x (c x) (suc (c x)) (omega arith) in
      omega (arith, y, z, k, e, u),
)

pub s_local_rest : (line : ℕ) (c : Counts) (ts : List Tok)
    → wp a_stat (program (r.local_rest line c)) ts (Post a_stat (r.local_rest line c) ts)
s_local_rest line c [] = from_local line c []
s_local_rest line c (tok (key w.function_) at ∷ ts) = λ b at2 us q f vs l h. (
  λ at3 lq. subst (λ line. StatOf (local_function line b f) (tok (key w.local_) at3 ∷ tok (key w.function_) at ∷ ts) vs) (sym lq) (subst (λ ts. StatOf (local_function at3.line b f) (tok (key w.local_) at3 ∷ tok (key w.function_) at ∷ ts) vs) (sym q) (local_function_of h.0)),
  λ x.
      let y = h.1 x in
      let d = one_deep x c in
      let k = many_more x c in
      let e = end_of_named x 1 (c x) in
      let i = end_at x (c x + 1) (suc (c x)) (omega arith) in
      let u = end_up x (c x) (suc (c x)) (omega arith) in
      let o = end_none x in
      omega (arith, y, d, k, e, i, u, o),
)
s_local_rest line c (tok v at ∷ ts) = from_local line c (tok v at ∷ ts)

list_node : (x : Limit) (n : ℕ) (es : Exprs) (ts us : List Tok) → ExpList es ts us → node x n ≤ most_exprs x n es
list_node x n es ts us (one_exp {e = e} h) = let y = node_in x n e in omega (arith, y)
list_node x n es ts us (exp_and {e = e} h i) = let y = node_in x n e in omega (arith, y)

pub s_init : (c : Counts) (ts : List Tok) → wp some_exprs (program (r.init c)) ts (Post some_exprs (r.init c) ts)
s_init c [] = (λ at xs m n. local_of n, λ x. omega arith)
s_init c (tok (key w.assign) at ∷ ts) = λ es us l h.
    (λ at2 xs m n. local_with_of n h.0, λ x. let y = h.1 x in let d = one_deep x c in let n = list_node x (c x) es ts us h.0 in omega (arith, y, d, n))
s_init c (tok v at ∷ ts) = (λ at xs m n. local_of n, λ x. omega arith)

pub s_last : (c : Counts) (ts : List Tok) → wp a_stat (program (r.last c)) ts (Post a_stat (r.last c) ts)
s_last c [] = tt
s_last c (tok (key w.return_) at ∷ ts) = λ st us l h. (h.0 at refl, h.1, λ x. let y = h.2 x in omega (arith, y))
s_last c (tok (key w.break_) at ∷ ts) = (break_of, refl, λ x. let y = break_need x c in omega (arith, y))
s_last c (tok v at ∷ ts) = tt

alone : (line : ℕ) (c : Counts) (ts : List Tok)
    → wp a_stat (give (return_stat line no_exprs)) ts (Post a_stat (r.return_rest line c) ts)
alone line c ts = (λ at lq. subst (λ line. LastOf (return_stat line no_exprs) (tok (key w.return_) at ∷ ts) ts) (sym lq) return_of, refl, λ x. refl)

with_values : (line : ℕ) (c : Counts) (ts : List Tok)
    → wp a_stat (then (r.exprs c) (λ es. give (return_stat line es))) ts (Post a_stat (r.return_rest line c) ts)
with_values line c ts = λ es us l h. (λ at lq. subst (λ line. LastOf (return_stat line es) (tok (key w.return_) at ∷ ts) us) (sym lq) (return_with_of h.0), refl, λ x. let y = h.1 x in omega (arith, y))

pub s_return_rest : (line : ℕ) (c : Counts) (ts : List Tok)
    → wp a_stat (program (r.return_rest line c)) ts (Post a_stat (r.return_rest line c) ts)
s_return_rest line c [] = alone line c []
s_return_rest line c (tok (key w.end_) at ∷ ts) = alone line c (tok (key w.end_) at ∷ ts)
s_return_rest line c (tok (key w.else_) at ∷ ts) = alone line c (tok (key w.else_) at ∷ ts)
s_return_rest line c (tok (key w.elseif) at ∷ ts) = alone line c (tok (key w.elseif) at ∷ ts)
s_return_rest line c (tok (key w.until) at ∷ ts) = alone line c (tok (key w.until) at ∷ ts)
s_return_rest line c (tok (key w.semicolon) at ∷ ts) = alone line c (tok (key w.semicolon) at ∷ ts)
s_return_rest line c (tok w.the_end at ∷ ts) = alone line c (tok w.the_end at ∷ ts)
s_return_rest line c (tok v at ∷ ts) = with_values line c (tok v at ∷ ts)

-- ---- if

pub s_arms : (c : Counts) (ts : List Tok) → wp some_arms (program (r.arms c)) ts (Post some_arms (r.arms c) ts)
s_arms c ts = λ e us l h at vs q b ws m g xs ys n i.
    let j = h (omega arith) in (
      arm_of (subst (Exp 0 e ts) q j.0) g.0 i.0,
      λ x. let y = j.2 x in let z = g.1 x in let v = i.1 x in let o = node_in x (c x) e in let u = end_under x (c x) in omega (arith, y, z, v, o, u),
    )

pub s_more_arms : (c : Counts) (ts : List Tok) → wp some_arms (program (r.more_arms c)) ts (Post some_arms (r.more_arms c) ts)
s_more_arms c [] = tt
s_more_arms c (tok (key w.elseif) at ∷ ts) = λ xs us l h. (elseif_of h.0, λ x. let y = h.1 x in omega (arith, y))
s_more_arms c (tok (key w.else_) at ∷ ts) = λ b us l h at2 vs q. (else_of (subst (Stats b ts) q h.0), λ x. let y = h.1 x in let u = end_under x (c x) in omega (arith, y, u))
s_more_arms c (tok (key w.end_) at ∷ ts) = (end_of, λ x. omega arith)
s_more_arms c (tok v at ∷ ts) = tt
