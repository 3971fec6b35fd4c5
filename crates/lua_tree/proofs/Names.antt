-- Locals are counted at names alone.
use Rattle.std.proofs.Common.{ℕ, ◌<◌, ◌≡◌, ◌⊎◌, inl, inr, refl, sym, ◌∙◌, List, ◌∷◌, Bool, true, false, arith, leb, cond}
use Rattle.lua_tree.specs.Tree.{Bytes, sub, Expr}
use Rattle.lua_tree.specs.Words as w
use Rattle.lua_tree.specs.Words.{Word, Key, key, Spot, Tok, tok, word_in, word_of, spot_of}
use Rattle.lua_tree.specs.Grammar.{level}
use Rattle.lua_tree.specs.Attributes.{locals, Counts}
use Rattle.lua_tree.specs.Reading as r
use Rattle.lua_tree.specs.Reading.{Sort, Value, Rule, Needs, Limits, Prog, Shape, a_var, a_call, a_paren, give, fail, take, look, expect, expect_name, at_last, then, shape, program, Fault, over, Answer, stuck, Reads, an_expr, some_targets, a_stat}
use Rattle.lua_tree.proofs.Alive.{is_name}

-- a token that is no name makes no local unavoidable
abbrev pub Plain : Bool → Needs → Type 0
Plain b n = (b ≡ true) ⊎ (n locals ≡ 0)

abbrev pub named : (s : Sort) → Prog s → Bool → Type 0
named s (give a) b = Unit {0}
named s fail b = Unit {0}
named s (take n p) b = Plain b n × ((d : Bool) → named s p d)
named s (look f) b = (v : Word) (at : Spot) → named s (f v at) (is_name v)
named s (expect k n f) b = (n locals ≡ 0) × ((at : Spot) (d : Bool) → named s (f at) d)
named s (expect_name n f) b = (x : Bytes) (at : Spot) (d : Bool) → named s (f x at) d
named s (at_last a) b = Unit {0}
named s (then {q = q} r f) b = (a : Value q) (d : Bool) → named s (f a) d

named_cond : (x : Bool) (s : Sort) (p q : Prog s) (b : Bool) → named s p b → named s q b → named s (cond x p q) b
named_cond true s p q b h i = h
named_cond false s p q b h i = i

named_first : (c : Counts) (v : Word) (at : Spot) → named an_expr (r.first_of c v at) (is_name v)
named_first c (key w.nil_) at = (inr refl, λ d. tt)
named_first c (key w.true_) at = (inr refl, λ d. tt)
named_first c (key w.false_) at = (inr refl, λ d. tt)
named_first c (w.number z) at = (inr refl, λ d. tt)
named_first c (w.str x) at = (inr refl, λ d. tt)
named_first c (key w.dots) at = (inr refl, λ d. tt)
named_first c (key w.function_) at = (inr refl, λ d a e. tt)
named_first c (key w.not_) at = (inr refl, λ d a e. tt)
named_first c (key w.hash) at = (inr refl, λ d a e. tt)
named_first c (w.op sub) at = (inr refl, λ d a e. tt)
named_first c (key w.open_brace) at = (inr refl, λ d a e. tt)
named_first c v at = λ a d. tt

named_more : (p : ℕ) (c : Counts) (a : Expr) (v : Word) (at : Spot) → named an_expr (r.more_of p c a v at) (is_name v)
named_more p c a (w.op o) at = named_cond (leb p (level o)) an_expr _ _ false (inr refl, λ d b e x f. tt) tt
named_more p c a v at = tt

named_prefix : (k : r.Place) (c : Counts) (v : Word) (at : Spot) → named an_expr (r.prefix_of k c v at) (is_name v)
named_prefix k c (w.name x) at = (inl refl, λ d a e. tt)
named_prefix k c (key w.open_paren) at = (inr refl, λ d a e. (refl, λ at2 f b g. tt))
named_prefix k c v at = tt

named_suffixes : (k : r.Place) (c : Counts) (a : Expr) (v : Word) (at : Spot)
    → named an_expr (r.suffixes_of k c a v at) (is_name v)
named_suffixes k c a (key w.open_bracket) at = (inr refl, λ d e f. (refl, λ at2 g b h. tt))
named_suffixes k c a (key w.dot) at = (inr refl, λ d x at2 e b f. tt)
named_suffixes k c a (key w.colon) at = (inr refl, λ d x at2 e b f v g. tt)
named_suffixes k c a (key w.open_paren) at = λ v d e f. tt
named_suffixes k c a (key w.open_brace) at = λ v d e f. tt
named_suffixes k c a (w.str x) at = λ v d e f. tt
named_suffixes k c a v at = tt

named_args : (n : ℕ) (c : Counts) (v : Word) (at : Spot) → named r.an_args (r.args_of n c v at) (is_name v)
named_args n c (key w.open_paren) at = (inr refl, λ d a e. tt)
named_args n c (key w.open_brace) at = (inr refl, λ d a e. tt)
named_args n c (w.str x) at = (inr refl, λ d. tt)
named_args n c v at = tt

named_paren_args : (l : ℕ) (c : Counts) (v : Word) (at : Spot) → named r.an_args (r.paren_args_of l c v at) (is_name v)
named_paren_args l c (key w.close_paren) at = (inr refl, λ d. tt)
named_paren_args l c v at = λ es d. (refl, λ at2 e. tt)

named_more_exprs : (c : Counts) (v : Word) (at : Spot) → named r.some_exprs (r.more_exprs_of c v at) (is_name v)
named_more_exprs c (key w.comma) at = (inr refl, λ d a e. tt)
named_more_exprs c v at = tt

named_fields : (c : Counts) (v : Word) (at : Spot) → named r.some_fields (r.fields_of c v at) (is_name v)
named_fields c (key w.close_brace) at = (inr refl, λ d. tt)
named_fields c (key w.open_bracket) at = (inr refl, λ d k e. (refl, λ at2 f. (refl, λ at3 g b h fs i. tt)))
named_fields c (w.name x) at = (inl refl, λ d a e. tt)
named_fields c v at = λ e d fs f. tt

named_name_field : (l : ℕ) (x : Bytes) (c : Counts) (v : Word) (at : Spot)
    → named r.some_fields (r.name_field_of l x c v at) (is_name v)
named_name_field l x c (key w.assign) at = (inr refl, λ d e f fs g. tt)
named_name_field l x c v at = λ a d e f fs g. tt

named_more_fields : (c : Counts) (v : Word) (at : Spot) → named r.some_fields (r.more_fields_of c v at) (is_name v)
named_more_fields c (key w.comma) at = (inr refl, λ d a e. tt)
named_more_fields c (key w.semicolon) at = (inr refl, λ d a e. tt)
named_more_fields c (key w.close_brace) at = (inr refl, λ d. tt)
named_more_fields c v at = tt

named_params : (n : ℕ) (v : Word) (at : Spot) → named r.some_params (r.params_of n v at) (is_name v)
named_params n (key w.close_paren) at = (inr refl, λ d. tt)
named_params n v at = λ a d. tt

named_next_param : (n : ℕ) (v : Word) (at : Spot) → named r.some_params (r.next_param_of n v at) (is_name v)
named_next_param n (key w.dots) at = (inr refl, λ d. (refl, λ at2 e. tt))
named_next_param n (w.name x) at = (inl refl, λ d a e. tt)
named_next_param n v at = tt

named_more_params : (n : ℕ) (v : Word) (at : Spot) → named r.some_params (r.more_params_of n v at) (is_name v)
named_more_params n (key w.comma) at = (inr refl, λ d a e. tt)
named_more_params n (key w.close_paren) at = (inr refl, λ d. tt)
named_more_params n v at = tt

named_more_names : (n : ℕ) (v : Word) (at : Spot) → named r.some_names (r.more_names_of n v at) (is_name v)
named_more_names n (key w.comma) at = (inr refl, λ d x at2 e a f. tt)
named_more_names n v at = tt

named_block : (c : Counts) (v : Word) (at : Spot) → named r.a_block (r.block_of c v at) (is_name v)
named_block c (key w.return_) at = λ a d b e. tt
named_block c (key w.break_) at = λ a d b e. tt
named_block c (key w.do_) at = λ a d b e x f. tt
named_block c (key w.while_) at = λ a d b e x f. tt
named_block c (key w.repeat_) at = λ a d b e x f. tt
named_block c (key w.if_) at = λ a d b e x f. tt
named_block c (key w.for_) at = λ a d b e x f. tt
named_block c (key w.function_) at = λ a d b e x f. tt
named_block c (key w.local_) at = λ a d b e x f. tt
named_block c (w.name x) at = λ a d b e x f. tt
named_block c (key w.open_paren) at = λ a d b e x f. tt
named_block c v at = tt

named_semi : (v : Word) (at : Spot) → named r.a_semi (r.semi_of v at) (is_name v)
named_semi (key w.semicolon) at = (inr refl, λ d. tt)
named_semi v at = tt

named_stat : (c : Counts) (v : Word) (at : Spot) → named a_stat (r.stat_of c v at) (is_name v)
named_stat c (key w.do_) at = (inr refl, λ d b e. (refl, λ at2 f. tt))
named_stat c (key w.while_) at = (inr refl, λ d a e b f. tt)
named_stat c (key w.repeat_) at = (inr refl, λ d b e. (refl, λ at2 f a g. tt))
named_stat c (key w.if_) at = (inr refl, λ d a e. tt)
named_stat c (key w.for_) at = (inr refl, λ d x at2 e a f. tt)
named_stat c (key w.function_) at = (inr refl, λ d x at2 e t f b g. tt)
named_stat c (key w.local_) at = (inr refl, λ d a e. tt)
named_stat c v at = λ e d a f. tt

named_prefix_stat : (l : ℕ) (c : Counts) (e : Expr) (sh : Shape) (b : Bool) → named a_stat (r.prefix_stat_of l c e sh) b
named_prefix_stat l c e a_var b = λ es d. (refl, λ at f vs g. tt)
named_prefix_stat l c e a_call b = tt
named_prefix_stat l c e a_paren b = tt

named_target : (c : Counts) (e : Expr) (sh : Shape) (b : Bool) → named some_targets (r.target_of c e sh) b
named_target c e a_var b = λ es d. tt
named_target c e a_call b = tt
named_target c e a_paren b = tt

named_more_targets : (c : Counts) (v : Word) (at : Spot) → named some_targets (r.more_targets_of c v at) (is_name v)
named_more_targets c (key w.comma) at = (inr refl, λ d e f. named_target c e (shape e) f)
named_more_targets c v at = tt

named_for_rest : (l : ℕ) (x : Bytes) (c : Counts) (v : Word) (at : Spot) → named a_stat (r.for_rest_of l x c v at) (is_name v)
named_for_rest l x c (key w.assign) at = (inr refl, λ d a e. (refl, λ at2 f b g y h. tt))
named_for_rest l x c v at = λ xs d. (refl, λ at2 e es f b g. tt)

named_num_for_rest : (l : ℕ) (x : Bytes) (a b : Expr) (c : Counts) (v : Word) (at : Spot)
    → named a_stat (r.num_for_rest_of l x a b c v at) (is_name v)
named_num_for_rest l x a b c (key w.comma) at = (inr refl, λ d e f y g. tt)
named_num_for_rest l x a b c v at = λ y d. tt

named_local_rest : (l : ℕ) (c : Counts) (v : Word) (at : Spot) → named a_stat (r.local_rest_of l c v at) (is_name v)
named_local_rest l c (key w.function_) at = (inr refl, λ d x at2 e f g. tt)
named_local_rest l c v at = λ x at2 d xs e es f. tt

named_last : (c : Counts) (v : Word) (at : Spot) → named a_stat (r.last_of c v at) (is_name v)
named_last c (key w.return_) at = (inr refl, λ d a e. tt)
named_last c (key w.break_) at = (inr refl, λ d. tt)
named_last c v at = tt

named_return_rest : (l : ℕ) (c : Counts) (v : Word) (at : Spot) → named a_stat (r.return_rest_of l c v at) (is_name v)
named_return_rest l c (key w.end_) at = tt
named_return_rest l c (key w.else_) at = tt
named_return_rest l c (key w.elseif) at = tt
named_return_rest l c (key w.until) at = tt
named_return_rest l c (key w.semicolon) at = tt
named_return_rest l c w.the_end at = tt
named_return_rest l c v at = λ es d. tt

named_init : (c : Counts) (v : Word) (at : Spot) → named r.some_exprs (r.init_of c v at) (is_name v)
named_init c (key w.assign) at = (inr refl, λ d a e. tt)
named_init c v at = tt

named_more_arms : (c : Counts) (v : Word) (at : Spot) → named r.some_arms (r.more_arms_of c v at) (is_name v)
named_more_arms c (key w.elseif) at = (inr refl, λ d a e. tt)
named_more_arms c (key w.else_) at = (inr refl, λ d b e. (refl, λ at2 f. tt))
named_more_arms c (key w.end_) at = (inr refl, λ d. tt)
named_more_arms c v at = tt

named_func_name : (c : Counts) (a : Expr) (v : Word) (at : Spot) → named r.a_target (r.func_name_of c a v at) (is_name v)
named_func_name c a (key w.dot) at = (inr refl, λ d x at2 e b f. tt)
named_func_name c a (key w.colon) at = (inr refl, λ d x at2 e. tt)
named_func_name c a v at = tt

all_named : (s : Sort) (q : Rule s) (b : Bool) → named s (program q) b
all_named s (r.expr p c) b = λ a d e f. tt
all_named s (r.more p c a) b = named_more p c a
all_named s (r.first c) b = named_first c
all_named s (r.prefix k c) b = named_prefix k c
all_named s (r.suffixes k c a) b = named_suffixes k c a
all_named s (r.args n c) b = named_args n c
all_named s (r.paren_args l c) b = named_paren_args l c
all_named s (r.exprs c) b = λ e d es f. tt
all_named s (r.more_exprs c) b = named_more_exprs c
all_named s (r.fields c) b = named_fields c
all_named s (r.more_fields c) b = named_more_fields c
all_named s (r.name_field l x c) b = named_name_field l x c
all_named s (r.func_body l hidden c) b = (refl, λ at d v e x f. (refl, λ at2 g. tt))
all_named s (r.params n) b = named_params n
all_named s (r.next_param n) b = named_next_param n
all_named s (r.more_params n) b = named_more_params n
all_named s (r.more_names n) b = named_more_names n
all_named s r.chunk b = λ a d. tt
all_named s (r.block c) b = named_block c
all_named s r.semi b = named_semi
all_named s (r.loop_block k c) b = (refl, λ at d x e. (refl, λ at2 f. tt))
all_named s (r.stat c) b = named_stat c
all_named s (r.prefix_stat l c e) b = named_prefix_stat l c e (shape e) b
all_named s (r.for_rest l x c) b = named_for_rest l x c
all_named s (r.num_for_rest l x a e c) b = named_num_for_rest l x a e c
all_named s (r.local_rest l c) b = named_local_rest l c
all_named s (r.last c) b = named_last c
all_named s (r.return_rest l c) b = named_return_rest l c
all_named s (r.more_targets c) b = named_more_targets c
all_named s (r.init c) b = named_init c
all_named s (r.arms c) b = λ e d. (refl, λ at f x g xs h. tt)
all_named s (r.more_arms c) b = named_more_arms c
all_named s (r.func_name c a) b = named_func_name c a

-- ---- where the limit of locals is passed a name stands

over_plain : (limit : Limits) (n : Needs) (b : Bool) → limit locals < n locals → Plain b n → b ≡ true
over_plain limit n b h (inl e) = e
over_plain limit n b h (inr z) = absurd (omega (arith, h, z))

pub passed_at_name : (limit : Limits) (s : Sort) (p : Prog s) (ts : List Tok) (t : Tok) (us : List Tok) (b : Bool)
    → Reads limit s p ts (stuck (over locals) (t ∷ us)) → named s p b → b ≡ is_name (word_of ts) → is_name (word_in t) ≡ true
passed_at_name limit s p ts t us b (r.takes {p = q} {ts = vs} k d) h e = let x = h.1 in passed_at_name limit s q vs t us (is_name (word_of vs)) d (x (is_name (word_of vs))) refl
passed_at_name limit s p ts t us b (r.passes {n = n} g) h e = sym e ∙ over_plain limit n b g.0 h.0
passed_at_name limit s p ts t us b (r.looks {f = f} d) h e = passed_at_name limit s (f (word_of ts) (spot_of ts)) ts t us (is_name (word_of ts)) d (h (word_of ts) (spot_of ts)) refl
passed_at_name limit s p ts t us b (r.expects {n = n} {f = f} {at = at} d) h e =
    passed_at_name limit s (take n (f at)) ts t us (is_name (word_of ts)) d (inr h.0, let x = h.1 in x at) refl
passed_at_name limit s p ts t us b (r.expects_name {n = n} {f = f} {x = x} {at = at} d) h e =
    passed_at_name limit s (take n (f x at)) ts t us true d (inl refl, h x at) refl
passed_at_name limit s p ts t us b (r.thens {f = f} {a = a} {us = vs} d d2) h e =
    passed_at_name limit s (f a) vs t us (is_name (word_of vs)) d2 (h a (is_name (word_of vs))) refl
passed_at_name limit s p ts t us b (r.stops {q = q} {r = rule} d) h e = passed_at_name limit q (program rule) ts t us (is_name (word_of ts)) d (all_named q rule (is_name (word_of ts))) refl

pub chunk_passed_at_name : (limit : Limits) (ts : List Tok) (t : Tok) (us : List Tok)
    → Reads limit r.a_block (program r.chunk) ts (stuck (over locals) (t ∷ us)) → is_name (word_in t) ≡ true
chunk_passed_at_name limit ts t us d = passed_at_name limit r.a_block (program r.chunk) ts t us (is_name (word_of ts)) d (all_named r.a_block r.chunk (is_name (word_of ts))) refl
