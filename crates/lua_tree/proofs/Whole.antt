-- What is spelled is read: one induction on what is spelled.
use Rattle.std.proofs.Common.{ℕ, suc, ◌≤◌, arith, le_refl, length, Bool, true, false, List, [], ◌∷◌, ◌++◌}
use Rattle.lua_tree.specs.Tree.{Bytes, UnOp, not_, length_of, negate, BinOp, sub, Expr, str, name, index, unary, binary, Exprs, no_exprs, Fields, item_and, func, Block, no_stats, stat_and, Stat, local, call_stat, gen_for, return_stat, Arms}
use Rattle.lua_tree.specs.Words as w
use Rattle.lua_tree.specs.Words.{Word, Key, key, Spot, Tok, tok, word_of, spot_of}
use Rattle.lua_tree.specs.Grammar as g
use Rattle.lua_tree.specs.Grammar.{level, unary_level, right_level, left_level, call_line, first_line, NotOpen, IsUnary, NameList, Params, NamePath, FuncName, Semi, Exp, Prefix, Var, Call, Args, ExpList, FieldList, MoreFields, Body, Stats, StatOf, LastOf, VarList, ArmsOf, MoreArms, Spells}
use Rattle.lua_tree.specs.Attributes
use Rattle.lua_tree.specs.Attributes.{Counts}
use Rattle.lua_tree.specs.Reading
use Rattle.lua_tree.specs.Reading.{Value, Rule, Prog, give, then, expect, expect_name, program, free, an_expr, an_args, some_exprs, some_fields, a_func, a_block, a_stat, some_arms, some_names, some_params, a_target, a_semi, Place, in_expr, leading, targeted, down}
use Rattle.lua_tree.proofs.Comes.{Comes, gives, takes, looks, thens, is_last, Does, Leads}
use Rattle.lua_tree.proofs.Follow.{NotSuffix, Stops, NotComma, Tail, EndsBlock, StartsStat, FollowsStat}
use Rattle.lua_tree.proofs.WholeIs.{ChunkDoes}
use Rattle.lua_tree.proofs.Tails.{left_from, stops_apart, tail, tail_left}
use Rattle.lua_tree.proofs.Steps.{does_give, does_take, does_look, does_expect, does_expect_name, does_then, does_last, leb_true, more_gives, suffixes_give, stops_from}
use Rattle.lua_tree.proofs.Starts.{StartsPrefix, prefix_starts, var_starts, call_starts, StartsExp, exp_starts, list_starts, stat_starts, StartsBlock, block_starts, semi_follows, FollowsLast, semi_last, last_follows, arms_end, follows_stop, follows_comma, call_suffix, FollowsField, fields_follow, field_stops}

-- ---- names

names_end : (n : ℕ) (us : List Tok) → NotComma (word_of us) → Does some_names (program (Reading.more_names n)) us [] us
names_end n [] h = does_look does_give
names_end n (tok (key w.comma) s ∷ us) h = absurd h
names_end n (tok v s ∷ us) h = does_look does_give

names_more : (n : ℕ) (s : Spot) (xs : List Bytes) (ts us : List Tok) → NameList xs ts us → NotComma (word_of us)
    → Does some_names (program (Reading.more_names n)) (tok (key w.comma) s ∷ ts) xs us
names_more n s xs ts us g.one_name h = does_look (does_take (does_expect_name (does_then (names_end (suc n) us h) does_give)))
names_more n s xs ts us (g.name_and {xs = ys} {s' = s2} {m = m} d) h =
    does_look (does_take (does_expect_name (does_then (names_more (suc n) s2 ys m us d h) does_give)))

-- names, and then the rest of a program that begins with one
names_lead : {s : Reading.Sort} (n : ℕ) (need : Reading.Needs) (xs : List Bytes) (ts us : List Tok) (P : List Bytes → Prog s)
    → NameList xs ts us → NotComma (word_of us)
    → Leads s (expect_name need (λ x at. then (Reading.more_names n) (λ ys. P (x ∷ ys)))) ts (P xs) us
names_lead n need xs ts us P g.one_name h = λ a vs d. does_expect_name (does_then (names_end n us h) d)
names_lead n need xs ts us P (g.name_and {xs = ys} {s' = s2} {m = m} e) h = λ a vs d. does_expect_name (does_then (names_more n s2 ys m us e h) d)

-- ---- parameters

params_next : (xs : List Bytes) (has_dots : Bool) (ts us vs : List Tok) → NameList xs ts us
    → ((n : ℕ) → Does some_params (program (Reading.more_params n)) us ([], has_dots) vs) → (n : ℕ) → Does some_params (program (Reading.next_param n)) ts (xs, has_dots) vs
params_next xs has_dots ts us vs g.one_name h n = does_look (does_take (does_then (h (suc n)) does_give))
params_next xs has_dots ts us vs (g.name_and {xs = ys} {m = m} d) h n =
    does_look (does_take (does_then (does_look (does_take (does_last (params_next ys has_dots m us vs d h (suc n))))) does_give))

params_names : (n : ℕ) (r : List Bytes × Bool) (xs : List Bytes) (ts us vs : List Tok) → NameList xs ts us
    → Does some_params (program (Reading.next_param n)) ts r vs → Does some_params (program (Reading.params n)) ts r vs
params_names n r xs ts us vs g.one_name d = does_look (does_last d)
params_names n r xs ts us vs (g.name_and e) d = does_look (does_last d)

params_do : (n : ℕ) (xs : List Bytes) (has_dots : Bool) (ts us : List Tok) → Params xs has_dots ts us
    → Does some_params (program (Reading.params n)) ts (xs, has_dots) us
params_do n xs has_dots ts us g.no_params = does_look (does_take does_give)
params_do n xs has_dots ts us g.only_dots = does_look (does_last (does_look (does_take (does_expect does_give))))
params_do n xs has_dots ts us (g.only_names {s = s} d) =
    params_names n (xs, false) xs ts (tok (key w.close_paren) s ∷ us) us d
    (params_next xs false ts (tok (key w.close_paren) s ∷ us) us d (λ k. does_look (does_take does_give)) n)
params_do n xs has_dots ts us (g.names_dots {s = s} {s' = s2} {s2 = s3} d) =
    params_names n (xs, true) xs ts (tok (key w.comma) s ∷ tok (key w.dots) s2 ∷ tok (key w.close_paren) s3 ∷ us) us d
    (params_next xs true ts (tok (key w.comma) s ∷ tok (key w.dots) s2 ∷ tok (key w.close_paren) s3 ∷ us) us d
    (λ k. does_look (does_take (does_last (does_look (does_take (does_expect does_give)))))) n)

-- ---- the name of a function

path_on : {s : Reading.Sort} (c : Counts) (b : Expr) (x : Bytes) (at at2 : Spot) (us : List Tok) (P : Expr × List Bytes → Prog s) (v : Value s) (vs : List Tok)
    → Does s (then (Reading.func_name c (index at.line b (str at2.line x))) P) us v vs
    → Does s (then (Reading.func_name c b) P) (tok (key w.dot) at ∷ tok (w.name x) at2 ∷ us) v vs
path_on c b x at at2 us P v vs (l, thens {l = k} {m = m} d f) = does_then (does_look (does_take (does_expect_name (does_last (k, d))))) (m, f)

path_leads : {s : Reading.Sort} (need : Reading.Needs) (c : Counts) (a : Expr) (ts us : List Tok) (P : Expr × List Bytes → Prog s)
    → NamePath a ts us
    → Leads s (expect_name need (λ x at. then (Reading.func_name c (name at.line x)) P)) ts (then (Reading.func_name c a) P) us
path_leads need c a ts us P g.one_path = λ v vs d. does_expect_name d
path_leads need c a ts us P (g.dot_path {a = b} {x = x} {s = at} {s' = at2} e) = λ v vs d.
    path_leads need c b ts (tok (key w.dot) at ∷ tok (w.name x) at2 ∷ us) P e v vs (path_on c b x at at2 us P v vs d)

-- behind a path no `.` and no `:` follows but those of a function's name
name_leads : {s : Reading.Sort} (need : Reading.Needs) (c : Counts) (a : Expr) (hidden : List Bytes) {at : Spot} (ts us : List Tok) (P : Expr × List Bytes → Prog s)
    → FuncName a hidden ts (tok (key w.open_paren) at ∷ us)
    → Leads s (expect_name need (λ x at. then (Reading.func_name c (name at.line x)) P)) ts (P (a, hidden)) (tok (key w.open_paren) at ∷ us)
name_leads need c a hidden ts us P (g.plain_name d) = λ v vs e. path_leads need c a ts _ P d v vs (does_then (does_look does_give) e)
name_leads need c a hidden ts us P (g.method_name {a = b} {x = x} {s = s} {s' = s2} d) = λ v vs e.
    path_leads need c b ts (tok (key w.colon) s ∷ tok (w.name x) s2 ∷ _) P d v vs (does_then (does_look (does_take (does_expect_name does_give))) e)

-- ---- expressions

-- an operand that is read goes on as an expression
operand : {e : Expr} {ts us : List Tok} {p : ℕ} {c : Counts} → Does an_expr (program (Reading.first c)) ts e us
    → Leads an_expr (program (Reading.expr p c)) ts (program (Reading.more p c e)) us
operand d = λ a vs f. does_then d (does_last f)

exp_done : (e : Expr) (ts us : List Tok) (c : Counts) → Stops (word_of us)
    → Leads an_expr (program (Reading.expr 0 c)) ts (program (Reading.more 0 c e)) us
    → Does an_expr (program (Reading.expr 0 c)) ts e us
exp_done e ts us c h f = f e us (more_gives 0 c e us (stops_from 0 (word_of us) h))

-- ... where the rule leads on, given that its last operand takes in nothing
exp_from : (e : Expr) (ts us : List Tok) (c : Counts) → Exp 0 e ts us → Stops (word_of us)
    → (Tail e (word_of us) → Leads an_expr (program (Reading.expr 0 c)) ts (program (Reading.more 0 c e)) us) → Does an_expr (program (Reading.expr 0 c)) ts e us
exp_from e ts us c d h f = exp_done e ts us c h (f (tail 0 e ts us d (stops_apart 0 (word_of us) h)))

tail_suffix : (v : Word) (e : Expr) (ts us : List Tok) → Prefix e ts us → Tail e v → NotSuffix v
tail_suffix v e ts us (g.var_prefix g.name_var) h = h
tail_suffix v e ts us (g.var_prefix (g.index_var d f)) h = h
tail_suffix v e ts us (g.var_prefix (g.dot_var d)) h = h
tail_suffix v e ts us (g.call_prefix (g.plain_call d f)) h = h
tail_suffix v e ts us (g.call_prefix (g.method_call d f)) h = h
tail_suffix v e ts us (g.paren_prefix d) h = h

first_prefix : (c : Counts) (e : Expr) (ts us : List Tok) → StartsPrefix (word_of ts)
    → Does an_expr (program (Reading.prefix in_expr c)) ts e us → Does an_expr (program (Reading.first c)) ts e us
first_prefix c e [] us h d = absurd h
first_prefix c e (tok (w.name x) s ∷ ts) us h d = does_look (does_last d)
first_prefix c e (tok (key w.open_paren) s ∷ ts) us h d = does_look (does_last d)
first_prefix c e (tok v s ∷ ts) us h d = absurd h

first_unary : (c : Counts) (o : UnOp) (v : Word) (s : Spot) (e : Expr) (m us : List Tok) → IsUnary o v
    → Does an_expr (program (Reading.expr unary_level (down c))) m e us
    → Does an_expr (program (Reading.first c)) (tok v s ∷ m) (unary s.line o e) us
first_unary c not_ (key w.not_) s e m us h d = does_look (does_take (does_then d does_give))
first_unary c not_ v s e m us h d = absurd h
first_unary c length_of (key w.hash) s e m us h d = does_look (does_take (does_then d does_give))
first_unary c length_of v s e m us h d = absurd h
first_unary c negate (w.op sub) s e m us h d = does_look (does_take (does_then d does_give))
first_unary c negate v s e m us h d = absurd h

more_binary : (p : ℕ) (c : Counts) (o : BinOp) (a b : Expr) (s : Spot) (m us : List Tok) (v : Expr) (vs : List Tok) → p ≤ level o
    → Does an_expr (program (Reading.expr (right_level o) (down c))) m b us
    → Does an_expr (program (Reading.more p c (binary s.line o a b))) us v vs → Does an_expr (program (Reading.more p c a)) (tok (w.op o) s ∷ m) v vs
more_binary p c o a b s m us v vs h d f = does_look (rw (leb_true p (level o) h) (does_take (does_then d (does_last f))))

-- a call's arguments open as one of its suffixes
args_open : (k : Place) (c : Counts) (a v : Expr) (l : ℕ) (es : Exprs) (m us vs : List Tok) → Args l es m us
    → Does an_expr (Reading.called k c a) m v vs
    → Does an_expr (program (Reading.suffixes k c a)) m v vs
args_open k c a v l es m us vs g.no_args d = does_look d
args_open k c a v l es m us vs (g.list_args e) d = does_look d
args_open k c a v l es m us vs (g.table_args e) d = does_look d
args_open k c a v l es m us vs g.str_args d = does_look d

paren_list : (l : ℕ) (c : Counts) (es : Exprs) (s : Spot) (m us : List Tok) → StartsExp (word_of m)
    → Does some_exprs (program (Reading.exprs c)) m es (tok (key w.close_paren) s ∷ us)
    → Does an_args (program (Reading.paren_args l c)) m (l, es) us
paren_list l c es s [] us h d = absurd h
paren_list l c es s (tok (key w.close_paren) s2 ∷ m) us h d = absurd h
paren_list l c es s (tok v s2 ∷ m) us h d = does_look (does_then d (does_expect does_give))

exprs_end : (c : Counts) (us : List Tok) → NotComma (word_of us) → Does some_exprs (program (Reading.more_exprs c)) us no_exprs us
exprs_end c [] h = does_look does_give
exprs_end c (tok (key w.comma) s ∷ us) h = absurd h
exprs_end c (tok v s ∷ us) h = does_look does_give

-- ---- fields

separate : (c : Counts) (v : Word) (s : Spot) (fs : Fields) (m us : List Tok) → g.IsSeparator v
    → Does some_fields (program (Reading.fields c)) m fs us
    → Does some_fields (program (Reading.more_fields c)) (tok v s ∷ m) fs us
separate c (key w.comma) s fs m us h d = does_look (does_take (does_last d))
separate c (key w.semicolon) s fs m us h d = does_look (does_take (does_last d))
separate c v s fs m us h d = absurd h

abbrev NotAssign : Word → Type 0
NotAssign (key w.assign) = ⊥
NotAssign v = Unit {0}

field_word : (v : Word) → FollowsField v → NotAssign v
field_word (key w.assign) h = h
field_word v h = tt

-- an expression that is a name alone, so far, doesn't have `=` behind it, where none follows the expression
not_assigned : (c : Counts) (x : Bytes) (at : Spot) (ts us vs : List Tok) (a e : Expr) (l m : Reading.Needs)
    → Comes an_expr (program (Reading.suffixes in_expr c (name at.line x))) ts a us l
    → Comes an_expr (program (Reading.more 0 c a)) us e vs m → FollowsField (word_of vs) → NotAssign (word_of ts)
not_assigned c x at [] us vs a e l m d f h = tt
not_assigned c x at (tok (key w.assign) s ∷ ts) us vs a e l m (looks gives) (looks gives) h = h
not_assigned c x at (tok v s ∷ ts) us vs a e l m d f h = tt

named_item : (line : ℕ) (x : Bytes) (c : Counts) (ts us : List Tok) (fs : Fields) → NotAssign (word_of ts)
    → Does some_fields (then (Reading.suffixes in_expr c (name line x)) (λ a. then (Reading.more 0 c a) (λ e. then (Reading.more_fields c) (λ gs. give (item_and e gs))))) ts fs us
    → Does some_fields (program (Reading.name_field line x c)) ts fs us
named_item line x c [] us fs h d = does_look d
named_item line x c (tok (key w.assign) s ∷ ts) us fs h d = absurd h
named_item line x c (tok v s ∷ ts) us fs h d = does_look d

-- an expression that begins with a name is read behind the name as a field
name_item : (c : Counts) (x : Bytes) (s : Spot) (ts m us : List Tok) (e : Expr) (fs : Fields) → FollowsField (word_of m)
    → Does an_expr (program (Reading.expr 0 c)) (tok (w.name x) s ∷ ts) e m → Does some_fields (program (Reading.more_fields c)) m fs us
    → Does some_fields (program (Reading.fields c)) (tok (w.name x) s ∷ ts) (item_and e fs) us
name_item c x s ts m us e fs h (l, thens (looks (thens (looks (takes (thens {a = a} {us = n} {l = k} d gives))) gives)) (thens {l = k2} f gives)) rest =
    does_look (does_take (does_last (named_item s.line x c ts us (item_and e fs) (not_assigned c x s ts n m a e k k2 d f h)
    (does_then (k, d) (does_then (k2, f) (does_then rest does_give))))))

item : (c : Counts) (ts m us : List Tok) (e : Expr) (fs : Fields) → StartsExp (word_of ts) → FollowsField (word_of m)
    → Does an_expr (program (Reading.expr 0 c)) ts e m → Does some_fields (program (Reading.more_fields c)) m fs us
    → Does some_fields (program (Reading.fields c)) ts (item_and e fs) us
item c [] m us e fs h f d rest = absurd h
item c (tok (key w.close_brace) s ∷ ts) m us e fs h f d rest = absurd h
item c (tok (key w.open_bracket) s ∷ ts) m us e fs h f d rest = absurd h
item c (tok (w.name x) s ∷ ts) m us e fs h f d rest = name_item c x s ts m us e fs f d rest
item c (tok v s ∷ ts) m us e fs h f d rest = does_look (does_then d (does_then rest does_give))

-- ---- functions and statements

body_given : (l : ℕ) (hidden xs : List Bytes) (has_dots : Bool) (b : Block) (s s2 : Spot) (m n us : List Tok) (c : Counts)
    → Params xs has_dots m n
    → Does a_block (program (Reading.block (Reading.in_body (hidden ++ xs) has_dots c))) n b (tok (key w.end_) s2 ∷ us)
    → Does a_func (program (Reading.func_body l hidden c)) (tok (key w.open_paren) s ∷ m) (func l (hidden ++ xs) has_dots b) us
body_given l hidden xs has_dots b s s2 m n us c p d =
    does_expect (does_then (params_do (length hidden) xs has_dots m n p) (does_then d (does_expect does_give)))

block_ends : (c : Counts) (us : List Tok) → EndsBlock (word_of us) → Does a_block (program (Reading.block c)) us no_stats us
block_ends c [] h = does_look does_give
block_ends c (tok (key w.end_) s ∷ us) h = does_look does_give
block_ends c (tok (key w.else_) s ∷ us) h = does_look does_give
block_ends c (tok (key w.elseif) s ∷ us) h = does_look does_give
block_ends c (tok (key w.until) s ∷ us) h = does_look does_give
block_ends c (tok w.the_end s ∷ us) h = does_look does_give
block_ends c (tok v s ∷ us) h = absurd h

block_goes_on : (c : Counts) (b : Block) (ts us : List Tok) → StartsStat (word_of ts) → Does a_block (Reading.with_stat c) ts b us
    → Does a_block (program (Reading.block c)) ts b us
block_goes_on c b [] us h d = absurd h
block_goes_on c b (tok (w.name x) s ∷ ts) us h d = does_look d
block_goes_on c b (tok (key w.open_paren) s ∷ ts) us h d = does_look d
block_goes_on c b (tok (key w.do_) s ∷ ts) us h d = does_look d
block_goes_on c b (tok (key w.while_) s ∷ ts) us h d = does_look d
block_goes_on c b (tok (key w.repeat_) s ∷ ts) us h d = does_look d
block_goes_on c b (tok (key w.if_) s ∷ ts) us h d = does_look d
block_goes_on c b (tok (key w.for_) s ∷ ts) us h d = does_look d
block_goes_on c b (tok (key w.function_) s ∷ ts) us h d = does_look d
block_goes_on c b (tok (key w.local_) s ∷ ts) us h d = does_look d
block_goes_on c b (tok v s ∷ ts) us h d = absurd h

-- [';']: none where the next word is none
semi_do : (m n : List Tok) → Semi m n → StartsBlock (word_of n) → Does a_semi (program Reading.semi) m tt n
semi_do m n g.no_semi h = none m h
  where
    none : (m : List Tok) → StartsBlock (word_of m) → Does a_semi (program Reading.semi) m tt m
    none [] h = does_look does_give
    none (tok (key w.semicolon) s ∷ m) h = absurd h
    none (tok v s ∷ m) h = does_look does_give
semi_do m n g.a_semi h = does_look (does_take does_give)

return_alone : (l : ℕ) (c : Counts) (us : List Tok) → FollowsLast (word_of us)
    → Does a_stat (program (Reading.return_rest l c)) us (return_stat l no_exprs) us
return_alone l c [] h = does_look does_give
return_alone l c (tok (key w.end_) s ∷ us) h = does_look does_give
return_alone l c (tok (key w.else_) s ∷ us) h = does_look does_give
return_alone l c (tok (key w.elseif) s ∷ us) h = does_look does_give
return_alone l c (tok (key w.until) s ∷ us) h = does_look does_give
return_alone l c (tok (key w.semicolon) s ∷ us) h = does_look does_give
return_alone l c (tok w.the_end s ∷ us) h = does_look does_give
return_alone l c (tok v s ∷ us) h = absurd h

return_with : (l : ℕ) (c : Counts) (es : Exprs) (ts us : List Tok) → StartsExp (word_of ts)
    → Does some_exprs (program (Reading.exprs c)) ts es us
    → Does a_stat (program (Reading.return_rest l c)) ts (return_stat l es) us
return_with l c es [] us h d = absurd h
return_with l c es (tok (key w.end_) s ∷ ts) us h d = absurd h
return_with l c es (tok (key w.else_) s ∷ ts) us h d = absurd h
return_with l c es (tok (key w.elseif) s ∷ ts) us h d = absurd h
return_with l c es (tok (key w.until) s ∷ ts) us h d = absurd h
return_with l c es (tok (key w.semicolon) s ∷ ts) us h d = absurd h
return_with l c es (tok w.the_end s ∷ ts) us h d = absurd h
return_with l c es (tok v s ∷ ts) us h d = does_look (does_then d does_give)

-- a statement that begins with a prefix expression
prefix_first : (c : Counts) (st : Stat) (ts us : List Tok) → StartsPrefix (word_of ts)
    → Does a_stat (then (Reading.prefix leading c) (λ e. then (Reading.prefix_stat (first_line ts) c e) give)) ts st us → Does a_stat (program (Reading.stat c)) ts st us
prefix_first c st [] us h d = absurd h
prefix_first c st (tok (w.name x) s ∷ ts) us h d = does_look d
prefix_first c st (tok (key w.open_paren) s ∷ ts) us h d = does_look d
prefix_first c st (tok v s ∷ ts) us h d = absurd h

var_stat : (l : ℕ) (c : Counts) (e : Expr) (st : Stat) (ts us ms ns : List Tok) → Var e ts us
    → Does a_stat (Reading.prefix_stat_of l c e Reading.a_var) ms st ns
    → Does a_stat (program (Reading.prefix_stat l c e)) ms st ns
var_stat l c e st ts us ms ns g.name_var d = d
var_stat l c e st ts us ms ns (g.index_var f h) d = d
var_stat l c e st ts us ms ns (g.dot_var f) d = d

var_target : (c : Counts) (e : Expr) (es : Exprs) (ts us ms ns : List Tok) → Var e ts us
    → Does Reading.some_targets (Reading.target_of c e Reading.a_var) ms es ns
    → Does Reading.some_targets (Reading.target_of c e (Reading.shape e)) ms es ns
var_target c e es ts us ms ns g.name_var d = d
var_target c e es ts us ms ns (g.index_var f h) d = d
var_target c e es ts us ms ns (g.dot_var f) d = d

call_alone : (l : ℕ) (c : Counts) (e : Expr) (ts us ms : List Tok) → Call e ts us
    → Does a_stat (program (Reading.prefix_stat l c e)) ms (call_stat l e) ms
call_alone l c e ts us ms (g.plain_call d f) = does_give
call_alone l c e ts us ms (g.method_call d f) = does_give

targets_end : (c : Counts) (s : Spot) (us : List Tok)
    → Does Reading.some_targets (program (Reading.more_targets c)) (tok (key w.assign) s ∷ us) no_exprs (tok (key w.assign) s ∷ us)
targets_end c s us = does_look does_give

-- the names of a loop
loop_names : (l : ℕ) (c : Counts) (xs : List Bytes) (es : Exprs) (b : Block) (s s2 s3 : Spot) (m n q us : List Tok)
    → NameList xs m (tok (key w.in_) s ∷ n)
    → Does some_exprs (program (Reading.exprs c)) n es (tok (key w.do_) s2 ∷ q) → Does a_block (program (Reading.block (Reading.in_loop (length xs) c))) q b (tok (key w.end_) s3 ∷ us)
    → Does a_stat (expect_name (Reading.many (suc (c Attributes.locals))) (λ x at. then (Reading.for_rest l x c) give)) m (gen_for l xs es b) us
loop_names l c xs es b s s2 s3 m n q us g.one_name d f =
    does_expect_name (does_last (does_look (does_then (names_end _ _ tt) (does_expect (does_then d (does_then (does_expect (does_then f (does_expect does_give))) does_give))))))
loop_names l c xs es b s s2 s3 m n q us (g.name_and {xs = ys} {s' = s4} {m = r} h) d f =
    does_expect_name (does_last (does_look (does_then (names_more _ s4 ys r _ h tt) (does_expect (does_then d (does_then (does_expect (does_then f (does_expect does_give))) does_give))))))

-- the names of a local statement
local_names : (l : ℕ) (c : Counts) (xs : List Bytes) (es : Exprs) (m n us : List Tok) → NameList xs m n → NotComma (word_of n)
    → Does some_exprs (program (Reading.init c)) n es us
    → Does a_stat (program (Reading.local_rest l c)) m (local l xs es) us
local_names l c xs es m n us g.one_name h d = does_look (does_expect_name (does_then (names_end _ _ h) (does_then d does_give)))
local_names l c xs es m n us (g.name_and {xs = ys} {s' = s2} {m = r} f) h d = does_look (does_expect_name (does_then (names_more _ s2 ys r n f h) (does_then d does_give)))

abbrev NoInit : Word → Type 0
NoInit (key w.assign) = ⊥
NoInit v = Unit {0}

follows_no_init : (v : Word) → FollowsStat v → NoInit v
follows_no_init (key w.assign) h = h
follows_no_init v h = tt

no_init : (c : Counts) (us : List Tok) → NoInit (word_of us) → Does some_exprs (program (Reading.init c)) us no_exprs us
no_init c [] h = does_look does_give
no_init c (tok (key w.assign) s ∷ us) h = absurd h
no_init c (tok v s ∷ us) h = does_look does_give

-- ---- the induction

mutual
  exp_leads : (q : ℕ) (e : Expr) (ts us : List Tok) (p : ℕ) (c : Counts) → Exp q e ts us → p ≤ q → Tail e (word_of us)
      → Leads an_expr (program (Reading.expr p c)) ts (program (Reading.more p c e)) us
  exp_leads q e ts us p c g.nil_exp h t = operand (does_look (does_take does_give))
  exp_leads q e ts us p c g.true_exp h t = operand (does_look (does_take does_give))
  exp_leads q e ts us p c g.false_exp h t = operand (does_look (does_take does_give))
  exp_leads q e ts us p c g.number_exp h t = operand (does_look (does_take does_give))
  exp_leads q e ts us p c g.str_exp h t = operand (does_look (does_take does_give))
  exp_leads q e ts us p c g.dots_exp h t = operand (does_look (does_take does_give))
  exp_leads q e ts us p c (g.function_exp (g.body {hidden = hidden} {xs = xs} {d = has_dots} {b = b} {s = s} {s' = s2} {m = m} {n = n} ps d)) h t =
      operand (does_look (does_take (does_then
      (body_given _ hidden xs has_dots b s s2 m n us (down c) ps (stats_do b n (tok (key w.end_) s2 ∷ us) (Reading.in_body (hidden ++ xs) has_dots (down c)) d tt)) does_give)))
  exp_leads q e ts us p c (g.prefix_exp d o) h t =
      operand (first_prefix c e ts us (prefix_starts e ts us d) (prefix_leads e ts us in_expr c d e us (suffixes_give in_expr c e us (tail_suffix (word_of us) e ts us d t))))
  exp_leads q e ts us p c (g.table_exp {fs = fs} {s' = s2} {m = m} d) h t = operand (does_look (does_take (does_then (fields_do fs m s2 us (down c) d) does_give)))
  exp_leads q e ts us p c (g.binary_exp {o = o} {a = a} {b = b} {s = s} {m = m} l d f) h t = λ v vs r.
      exp_leads (left_level o) a ts (tok (w.op o) s ∷ m) p c d (let x = left_from o in omega (arith, x, l, h)) (tail_left o a s ts m d) v vs
      (more_binary p c o a b s m us v vs (omega (arith, l, h))
      (exp_leads (right_level o) b m us (right_level o) (down c) f (le_refl (right_level o)) t.1 b us (more_gives (right_level o) (down c) b us t.0)) r)
  exp_leads q e ts us p c (g.unary_exp {o = o} {v = v} {e = f} {s = s} {m = m} l u d) h t =
      operand (first_unary c o v s f m us u (exp_leads unary_level f m us unary_level (down c) d (le_refl unary_level) t.1 f us (more_gives unary_level (down c) f us t.0)))

  prefix_leads : (e : Expr) (ts us : List Tok) (k : Place) (c : Counts) → Prefix e ts us
      → Leads an_expr (program (Reading.prefix k c)) ts (program (Reading.suffixes k c e)) us
  prefix_leads e ts us k c (g.var_prefix d) = var_leads e ts us k c d
  prefix_leads e ts us k c (g.call_prefix d) = call_leads e ts us k c d
  prefix_leads e ts us k c (g.paren_prefix {e = f} {s' = s2} {m = m} d) = λ v vs r.
      let c2 = down (Reading.held (Reading.unfinished k Reading.a_paren) c) in
      does_look (does_take (does_then (exp_from f m (tok (key w.close_paren) s2 ∷ us) c2 d tt (exp_leads 0 f m (tok (key w.close_paren) s2 ∷ us) 0 c2 d (le_refl 0))) (does_expect (does_last r))))

  var_leads : (e : Expr) (ts us : List Tok) (k : Place) (c : Counts) → Var e ts us
      → Leads an_expr (program (Reading.prefix k c)) ts (program (Reading.suffixes k c e)) us
  var_leads e ts us k c g.name_var = λ v vs r. does_look (does_take (does_last r))
  var_leads e ts us k c (g.index_var {a = a} {e = f} {s = s} {s' = s2} {m = m} d x) = λ v vs r.
      prefix_leads a ts (tok (key w.open_bracket) s ∷ m) k c d v vs
      (does_look (does_take (does_then
      (exp_from f m (tok (key w.close_bracket) s2 ∷ us) (down c) x tt (exp_leads 0 f m (tok (key w.close_bracket) s2 ∷ us) 0 (down c) x (le_refl 0)))
      (does_expect (does_last r)))))
  var_leads e ts us k c (g.dot_var {a = a} {x = x} {s = s} {s' = s2} d) = λ v vs r.
      prefix_leads a ts (tok (key w.dot) s ∷ tok (w.name x) s2 ∷ us) k c d v vs (does_look (does_take (does_expect_name (does_last r))))

  call_leads : (e : Expr) (ts us : List Tok) (k : Place) (c : Counts) → Call e ts us
      → Leads an_expr (program (Reading.prefix k c)) ts (program (Reading.suffixes k c e)) us
  call_leads e ts us k c (g.plain_call {a = a} {l = l} {es = es} {m = m} d x) = λ v vs r.
      prefix_leads a ts m k c d v vs (args_open k c a v l es m us vs x (does_then (args_do l es m us _ _ x) (does_last r)))
  call_leads e ts us k c (g.method_call {a = a} {x = x} {l = l} {es = es} {s = s} {s' = s2} {m = m} d y) = λ v vs r.
      prefix_leads a ts (tok (key w.colon) s ∷ tok (w.name x) s2 ∷ m) k c d v vs
      (does_look (does_take (does_expect_name (does_then (args_do l es m us _ _ y) (does_last r)))))

  args_do : (l : ℕ) (es : Exprs) (m us : List Tok) (n : ℕ) (c : Counts) → Args l es m us
      → Does an_args (program (Reading.args n c)) m (l, es) us
  args_do l es m us n c g.no_args = does_look (does_take (does_last (does_look (does_take does_give))))
  args_do l es m us n c (g.list_args {s = s} {s' = s2} {m = r} d) =
      does_look (does_take (does_last (paren_list (call_line s) c es s2 r us (list_starts es r _ d) (exprs_do es r (tok (key w.close_paren) s2 ∷ us) c d tt tt))))
  args_do l es m us n c (g.table_args {fs = fs} {s' = s2} {m = r} d) = does_look (does_take (does_then (fields_do fs r s2 us (down c) d) does_give))
  args_do l es m us n c g.str_args = does_look (does_take does_give)

  exprs_do : (es : Exprs) (ts us : List Tok) (c : Counts) → ExpList es ts us → Stops (word_of us) → NotComma (word_of us)
      → Does some_exprs (program (Reading.exprs c)) ts es us
  exprs_do es ts us c (g.one_exp {e = e} d) h n =
      does_then (exp_from e ts us c d h (exp_leads 0 e ts us 0 c d (le_refl 0))) (does_then (exprs_end c us n) does_give)
  exprs_do es ts us c (g.exp_and {e = e} {es = fs} {s = s} {m = m} d f) h n =
      does_then (exp_from e ts (tok (key w.comma) s ∷ m) c d tt (exp_leads 0 e ts (tok (key w.comma) s ∷ m) 0 c d (le_refl 0)))
      (does_then (does_look (does_take (does_last (exprs_do fs m us c f h n)))) does_give)

  fields_do : (fs : Fields) (m : List Tok) (at : Spot) (us : List Tok) (c : Counts)
      → FieldList fs m (tok (key w.close_brace) at ∷ us) → Does some_fields (program (Reading.fields c)) m fs us
  fields_do fs m at us c g.no_field = does_look (does_take does_give)
  fields_do fs m at us c (g.item_field {e = e} {fs = gs} {m = n} d f) =
      let follows = fields_follow gs n (tok (key w.close_brace) at ∷ us) f tt in
      let stops = field_stops (word_of n) follows in
      item c m n us e gs (exp_starts 0 e m n d) follows (exp_from e m n c d stops (exp_leads 0 e m n 0 c d (le_refl 0))) (more_fields_do gs n at us c f)
  fields_do fs m at us c (g.keyed_field {k = k} {e = e} {fs = gs} {s' = s2} {s2 = s3} {m = r} {n = n} {q = q} d x f) =
      let stops = field_stops (word_of q) (fields_follow gs q (tok (key w.close_brace) at ∷ us) f tt) in
      does_look (does_take (does_then
      (exp_from k r (tok (key w.close_bracket) s2 ∷ tok (key w.assign) s3 ∷ n) c d tt (exp_leads 0 k r (tok (key w.close_bracket) s2 ∷ tok (key w.assign) s3 ∷ n) 0 c d (le_refl 0)))
      (does_expect (does_expect (does_then
      (exp_from e n q c x stops (exp_leads 0 e n q 0 c x (le_refl 0)))
      (does_then (more_fields_do gs q at us c f) does_give))))))
  fields_do fs m at us c (g.named_field {e = e} {fs = gs} {m = r} {n = n} x f) =
      let stops = field_stops (word_of n) (fields_follow gs n (tok (key w.close_brace) at ∷ us) f tt) in
      does_look (does_take (does_last (does_look (does_take (does_then
      (exp_from e r n c x stops (exp_leads 0 e r n 0 c x (le_refl 0)))
      (does_then (more_fields_do gs n at us c f) does_give))))))

  more_fields_do : (fs : Fields) (m : List Tok) (at : Spot) (us : List Tok) (c : Counts)
      → MoreFields fs m (tok (key w.close_brace) at ∷ us) → Does some_fields (program (Reading.more_fields c)) m fs us
  more_fields_do fs m at us c g.no_more = does_look (does_take does_give)
  more_fields_do fs m at us c (g.separated {v = v} {s = s} {m = n} i d) = separate c v s fs n us i (fields_do fs n at us c d)

  stats_do : (b : Block) (ts us : List Tok) (c : Counts) → Stats b ts us → EndsBlock (word_of us)
      → Does a_block (program (Reading.block c)) ts b us
  stats_do b ts us c g.no_stat h = block_ends c us h
  stats_do b ts us c (g.a_stat {st = st} {b = b2} {m = m} {n = n} d s f) h =
      let starts = block_starts b2 n us f h in
      block_goes_on c b ts us (stat_starts st ts m d)
      (does_then (stat_do st ts m c d (semi_follows m n s starts)) (does_then (semi_do m n s starts) (does_then (stats_do b2 n us (Reading.behind st c) f h) does_give)))
  stats_do b ts us c (g.last_stat {st = st} {m = m} d s) h = last_do st ts m us c d s h

  targets_do : (es : Exprs) (m : List Tok) (at at2 : Spot) (us : List Tok) (c : Counts)
      → VarList es m (tok (key w.assign) at2 ∷ us)
      → Does Reading.some_targets (program (Reading.more_targets c)) (tok (key w.comma) at ∷ m) es (tok (key w.assign) at2 ∷ us)
  targets_do es m at at2 us c (g.one_var {e = e} d) =
      does_look (does_take (does_then (var_leads e m (tok (key w.assign) at2 ∷ us) targeted c d e _ (suffixes_give targeted c e (tok (key w.assign) at2 ∷ us) tt))
      (var_target c e _ m _ _ _ d (does_then (targets_end c at2 us) does_give))))
  targets_do es m at at2 us c (g.var_and {e = e} {es = fs} {s = s} {m = n} d f) =
      does_look (does_take (does_then (var_leads e m (tok (key w.comma) s ∷ n) targeted c d e _ (suffixes_give targeted c e (tok (key w.comma) s ∷ n) tt))
      (var_target c e _ m _ _ _ d (does_then (targets_do fs n s at2 us c f) does_give))))

  stat_do : (st : Stat) (ts us : List Tok) (c : Counts) → StatOf st ts us → FollowsStat (word_of us)
      → Does a_stat (program (Reading.stat c)) ts st us
  stat_do st ts us c (g.assign_of {vs = vs} {s = at} {m = m} (g.one_var {e = e} d) f) h =
      prefix_first c _ ts us (var_starts e ts _ d)
      (does_then (var_leads e ts (tok (key w.assign) at ∷ m) leading c d e _ (suffixes_give leading c e (tok (key w.assign) at ∷ m) tt))
      (does_last (var_stat (first_line ts) c e _ ts _ _ _ d
      (does_then (targets_end c at m) (does_expect (does_then (exprs_do vs m us c f (follows_stop (word_of us) h) (follows_comma (word_of us) h)) does_give))))))
  stat_do st ts us c (g.assign_of {vs = vs} {s = at} {m = m} (g.var_and {e = e} {es = fs} {s = s} {m = n} d x) f) h =
      prefix_first c _ ts us (var_starts e ts _ d)
      (does_then (var_leads e ts (tok (key w.comma) s ∷ n) leading c d e _ (suffixes_give leading c e (tok (key w.comma) s ∷ n) tt))
      (does_last (var_stat (first_line ts) c e _ ts _ _ _ d
      (does_then (targets_do fs n s at m c x) (does_expect (does_then (exprs_do vs m us c f (follows_stop (word_of us) h) (follows_comma (word_of us) h)) does_give))))))
  stat_do st ts us c (g.call_of {e = e} d o) h =
      prefix_first c _ ts us (call_starts e ts us d)
      (does_then (call_leads e ts us leading c d e us (suffixes_give leading c e us (call_suffix (word_of us) h o))) (does_last (call_alone _ c e ts us us d)))
  stat_do st ts us c (g.do_of {b = b} {s' = s2} {m = m} d) h = does_look (does_take (does_then (stats_do b m (tok (key w.end_) s2 ∷ us) (down c) d tt) (does_expect does_give)))
  stat_do st ts us c (g.while_of {e = e} {b = b} {s' = s2} {s2 = s3} {m = m} {n = n} d f) h =
      does_look (does_take (does_then (exp_from e m (tok (key w.do_) s2 ∷ n) c d tt (exp_leads 0 e m (tok (key w.do_) s2 ∷ n) 0 c d (le_refl 0)))
      (does_then (does_expect (does_then (stats_do b n (tok (key w.end_) s3 ∷ us) (Reading.in_loop 0 c) f tt) (does_expect does_give))) does_give)))
  stat_do st ts us c (g.repeat_of {b = b} {e = e} {s' = s2} {m = m} {n = n} d f) h =
      does_look (does_take (does_then (stats_do b m (tok (key w.until) s2 ∷ n) (Reading.in_loop 0 c) d tt)
      (does_expect (does_then (exp_from e n us c f (follows_stop (word_of us) h) (exp_leads 0 e n us 0 c f (le_refl 0))) does_give))))
  stat_do st ts us c (g.if_of {rest = rest} {m = m} d) h = does_look (does_take (does_then (arms_do rest m us c d) does_give))
  stat_do st ts us c (g.num_for_of {a = a} {b = b} {c = body} {s3 = s3} {s4 = s4} {s5 = s5} {m = m} {n = n} {q = q} d f x) h =
      does_look (does_take (does_expect_name (does_last (does_look (does_take (does_then (exp_from a m (tok (key w.comma) s3 ∷ n) c d tt (exp_leads 0 a m (tok (key w.comma) s3 ∷ n) 0 c d (le_refl 0)))
      (does_expect (does_then (exp_from b n (tok (key w.do_) s4 ∷ q) c f tt (exp_leads 0 b n (tok (key w.do_) s4 ∷ q) 0 c f (le_refl 0)))
      (does_last (does_look (does_then (does_expect (does_then (stats_do body q (tok (key w.end_) s5 ∷ us) (Reading.in_loop 1 c) x tt) (does_expect does_give))) does_give)))))))))))
  stat_do st ts us c (g.num_for_by_of {a = a} {b = b} {e = e} {c = body} {s3 = s3} {s4 = s4} {s5 = s5} {s6 = s6} {m = m} {n = n} {q = q} {r = r} d f x y) h =
      does_look (does_take (does_expect_name (does_last (does_look (does_take (does_then (exp_from a m (tok (key w.comma) s3 ∷ n) c d tt (exp_leads 0 a m (tok (key w.comma) s3 ∷ n) 0 c d (le_refl 0)))
      (does_expect (does_then (exp_from b n (tok (key w.comma) s4 ∷ q) c f tt (exp_leads 0 b n (tok (key w.comma) s4 ∷ q) 0 c f (le_refl 0)))
      (does_last (does_look (does_take (does_then (exp_from e q (tok (key w.do_) s5 ∷ r) c x tt (exp_leads 0 e q (tok (key w.do_) s5 ∷ r) 0 c x (le_refl 0)))
      (does_then (does_expect (does_then (stats_do body r (tok (key w.end_) s6 ∷ us) (Reading.in_loop 1 c) y tt) (does_expect does_give))) does_give)))))))))))))
  stat_do st ts us c (g.gen_for_of {xs = xs} {es = es} {c = body} {s = s} {s' = s2} {s2 = s3} {s3 = s4} {m = m} {n = n} {q = q} d f x) h =
      does_look (does_take (loop_names s.line c xs es body s2 s3 s4 m n q us d (exprs_do es n (tok (key w.do_) s3 ∷ q) c f tt tt) (stats_do body q (tok (key w.end_) s4 ∷ us) (Reading.in_loop (length xs) c) x tt)))
  stat_do st ts us c (g.function_of {e = e} {hidden = hidden} {s = s} {m = m} d (g.body {xs = xs} {d = has_dots} {b = b} {s = s2} {s' = s3} {m = m2} {n = n2} ps x)) h =
      does_look (does_take (name_leads _ c e hidden m _ _ d _ us
      (does_then (body_given s.line hidden xs has_dots b s2 s3 m2 n2 us c ps (stats_do b n2 (tok (key w.end_) s3 ∷ us) (Reading.in_body (hidden ++ xs) has_dots c) x tt)) does_give)))
  stat_do st ts us c (g.local_function_of {s' = s} (g.body {hidden = hidden} {xs = xs} {d = has_dots} {b = b} {s = s2} {s' = s3} {m = m2} {n = n2} ps x)) h =
      does_look (does_take (does_last (does_look (does_take (does_expect_name
      (does_then (body_given s.line hidden xs has_dots b s2 s3 m2 n2 us c ps (stats_do b n2 (tok (key w.end_) s3 ∷ us) (Reading.in_body (hidden ++ xs) has_dots c) x tt)) does_give))))))
  stat_do st ts us c (g.local_of {xs = xs} {s = s} {m = m} d) h =
      does_look (does_take (does_last (local_names s.line c xs no_exprs m us us d (follows_comma (word_of us) h) (no_init c us (follows_no_init (word_of us) h)))))
  stat_do st ts us c (g.local_with_of {xs = xs} {es = es} {s = s} {s' = s2} {m = m} {n = n} d f) h =
      does_look (does_take (does_last (local_names s.line c xs es m (tok (key w.assign) s2 ∷ n) us d tt
      (does_look (does_take (does_last (exprs_do es n us c f (follows_stop (word_of us) h) (follows_comma (word_of us) h))))))))

  last_do : (st : Stat) (ts m us : List Tok) (c : Counts) → LastOf st ts m → Semi m us → EndsBlock (word_of us)
      → Does a_block (program (Reading.block c)) ts (stat_and st no_stats) us
  last_do st ts m us c (g.return_of {s = at}) s h =
      does_look (does_then (does_look (does_take (does_last (return_alone at.line c m (semi_last m us s h))))) (does_then (semi_do m us s (block_starts no_stats us us g.no_stat h)) does_give))
  last_do st ts m us c (g.return_with_of {es = es} {s = at} {m = n} d) s h =
      let follows = last_follows (word_of m) (semi_last m us s h) in
      does_look (does_then (does_look (does_take (does_last
      (return_with at.line c es n m (list_starts es n m d) (exprs_do es n m c d (follows_stop (word_of m) follows) (follows_comma (word_of m) follows))))))
      (does_then (semi_do m us s (block_starts no_stats us us g.no_stat h)) does_give))
  last_do st ts m us c g.break_of s h =
      does_look (does_then (does_look (does_take does_give)) (does_then (semi_do m us s (block_starts no_stats us us g.no_stat h)) does_give))

  arms_do : (rest : Arms) (m us : List Tok) (c : Counts) → ArmsOf rest m us → Does some_arms (program (Reading.arms c)) m rest us
  arms_do rest m us c (g.arm_of {e = e} {b = b} {rest = others} {s = s} {m = n} {n = q} d f r) =
      does_then (exp_from e m (tok (key w.then_) s ∷ n) c d tt (exp_leads 0 e m (tok (key w.then_) s ∷ n) 0 c d (le_refl 0)))
      (does_expect (does_then (stats_do b n q (down c) f (arms_end others q us r)) (does_then (more_arms_do others q us c r) does_give)))

  more_arms_do : (rest : Arms) (m us : List Tok) (c : Counts) → MoreArms rest m us
      → Does some_arms (program (Reading.more_arms c)) m rest us
  more_arms_do rest m us c (g.elseif_of {m = n} d) = does_look (does_take (does_last (arms_do rest n us c d)))
  more_arms_do rest m us c (g.else_of {b = b} {s' = s2} {m = n} d) = does_look (does_take (does_then (stats_do b n (tok (key w.end_) s2 ∷ us) (down c) d tt) (does_expect does_give)))
  more_arms_do rest m us c g.end_of = does_look (does_take does_give)

-- a spelled chunk is read
pub chunk_does : ChunkDoes
chunk_does b ts d = does_then (stats_do b ts [] Attributes.at_chunk d tt) (free, is_last)
