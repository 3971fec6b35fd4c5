-- Steps of expressions: numbers, constants, operators and lists of expressions.
use Rattle.std.proofs.Common.{◌≡◌, ℕ, ℤ, suc, ◌+◌, ◌<◌, ◌≤◌, max, List, [], ◌∷◌, ◌++◌, Option, Some, None, Result, Bool, true, false, Global, cond, leb, drop, refl, sym, ap, ◌∙◌, subst, arith, rules}
use Rattle.std.specs.Prelude.{slice_get}
use Rattle.std.specs.declared.boxed.Box.{Box}
use Rattle.std.proofs.lemmas.Bool.{false≢true}
use Rattle.std.proofs.lemmas.Option.{none-some, same_Some}
use Rattle.lua_token.specs.declared.kind.Kind.{Kind}
use Rattle.lua_token.specs.declared.kind.Kind.TheVariants as kinds
use Rattle.lua_token.specs.declared.token.Token.{Token}
use Rattle.lua_tree.specs.declared.source.Read.{Read}
use Rattle.lua_tree.specs.declared.source.Source.{Source}
use Rattle.lua_tree.specs.declared.stop.Stop.{Stop}
use Rattle.lua_tree.specs.declared.tree.BinOp.{BinOp}
use Rattle.lua_tree.specs.declared.tree.UnOp.{UnOp}
use Rattle.lua_tree.specs.declared.tree.UnOp.TheVariants as unary_ops
use Rattle.lua_tree.specs.declared.tree.Expr.{Expr}
use Rattle.lua_tree.specs.declared.tree.Expr as expr_of
use Rattle.lua_tree.specs.declared.tree.ExprKind.{ExprKind}
use Rattle.lua_tree.specs.declared.tree.ExprKind as kind
use Rattle.lua_tree.specs.declared.tree.ExprKind.TheVariants as kinds_of
use Rattle.lua_tree.specs.declared.stop.Fault.TheVariants as faults
use Rattle.lua_tree.specs.Tree as t
use Rattle.lua_tree.specs.Words as w
use Rattle.lua_tree.specs.Words.{Word, Spot, Tok, tok, key, word_of, spot_of}
use Rattle.lua_tree.specs.Grammar.{level, right_level, unary_level}
use Rattle.lua_tree.specs.Attributes.{Counts, height, nodes}
use Rattle.lua_tree.specs.Reading.{Sort, Prog, Value, give, take, look, then, deep, down, an_expr, some_exprs, expr, more, more_of, more_exprs, more_exprs_of, exprs, first, first_of, prefix, prefix_of, in_expr, program, Answer, got, stuck, unexpected, over, Reads, gives, fails, thens, stops}
use Rattle.lua_tree.specs.Spelled.{Spelled, IsWord, kind_at, kind_of, word_of_kind, number_of_kind, spot_behind}
use Rattle.lua_tree.specs.Begins.{ConstantAt, NoOperatorAt, UnaryAt, is_number, unary_kind}
use Rattle.lua_tree.specs.View.{binary_view, unary_view, expr_kind_view, expr_view, exprs_view}
use Rattle.lua_tree.specs.Answer.{Answers, as_part, expr_tall, exprs_tall, fault_of, limits, line_of}
use Rattle.lua_tree.proofs.Places.{here, past, before_at}
use Rattle.lua_tree.proofs.Taking.{just, keeps_deep, keeps_free, look_at, passed_at, passes_deep, take_at}
use Rattle.lua_tree.proofs.Marks.{IsKey, Stands, key_stands, kind_token}
use Rattle.lua_tree.proofs.Descent.{ended}
use Rattle.lua_tree.proofs.KindWords.{WordFor, word_for}
use Rattle.lua_tree.proofs.Lists.{exprs_end, exprs_last, exprs_onto, exprs_tall_last, part_of_part}
use Rattle.lua_tree.proofs.Others.{look_as}
use Rattle.lua_tree.proofs.Steps.{leb_false, leb_true}
use Rattle.lua_tree.proofs.Tall.{tall_binary, tall_unary}
use Rattle.lua_tree.proofs.Views.{view_false, view_nil, view_true}

-- a token is this number
number_found : (o : Option Kind) (z : ℤ) → Some z ≡ number_of_kind o → o ≡ Some (kinds.Number z)
number_found None z e = absurd (none-some z (sym e))
number_found (Some (kinds.Number y)) z e = ap (λ (v : ℤ). Some (kinds.Number v)) (same_Some y z (sym e))
number_found (Some k) z e = absurd (none-some z (sym e))

-- one of its kind is one
pub not_none : (o : Option Kind) → is_number o ≡ true → None ≡ number_of_kind o → ⊥
not_none None is e = false≢true is
not_none (Some (kinds.Number y)) is e = none-some y e
not_none (Some k) is e = false≢true is

-- a token of its kind is some number
pub number_there : (o : Option Kind) → is_number o ≡ true → (z : ℤ) × (Some z ≡ number_of_kind o)
number_there None is = absurd (false≢true is)
number_there (Some (kinds.Number y)) is = (y, refl)
number_there (Some k) is = absurd (false≢true is)

-- where a number stands, it is the word
pub number_stands : {bytes : List ℕ} {before : ℕ} {ts : List Token} {words : List Tok} → Spelled bytes before ts words → (at : ℕ) (z : ℤ) → Some z ≡ number_of_kind (kind_at ts at)
    → Stands ts words at (w.number z)
number_stands {bytes = bytes} {before = before} {ts = ts} {words = words} spelled at z e =
    let u = kind_token ts at (kinds.Number z) (number_found (kind_at ts at) z e) in
    let h = here spelled at u.0 u.1 in
    let spot = spot_behind (before_at ts at before) u.0 in
    let is = subst (λ (j : Kind). IsWord bytes u.0 j h.word) u.2 h.is_word in
    record { spot = spot; is = subst (λ (v : Word). drop at words ≡ tok v spot ∷ drop (suc at) words) is h.stands; line = ap line_of (sym u.1) }

-- ---- constants

pub constant_read : (source : Source) (words : List Tok) → Spelled source.bytes.now 1 source.tokens.now words → (c : Counts) (at next : ℕ) (what : ExprKind) (e : t.Expr)
    → ConstantAt source at what → suc (c nodes) ≤ 200 → e ≡ expr_kind_view what (line_of (slice_get source.tokens.now at)) → next ≡ at + 1
    → Reads limits an_expr (look (first_of c)) (drop at words) (got e (drop next words))
constant_read source words sp c at next kinds_of.Nil e is n view to =
    let h = key_stands sp at kinds.Nil tt is in
    look_at h.is (take_at h.is (keeps_deep _ n) (ended at next words (ap t.nil h.line ∙ (sym (view_nil _) ∙ sym view)) (sym to)))
constant_read source words sp c at next kinds_of.True e is n view to =
    let h = key_stands sp at kinds.True tt is in
    look_at h.is (take_at h.is (keeps_deep _ n) (ended at next words (ap t.true_ h.line ∙ (sym (view_true _) ∙ sym view)) (sym to)))
constant_read source words sp c at next kinds_of.False e is n view to =
    let h = key_stands sp at kinds.False tt is in
    look_at h.is (take_at h.is (keeps_deep _ n) (ended at next words (ap t.false_ h.line ∙ (sym (view_false _) ∙ sym view)) (sym to)))
constant_read source words sp c at next what e is n view to = absurd is

pub constant_deep : (source : Source) (words : List Tok) → Spelled source.bytes.now 1 source.tokens.now words → (c : Counts) (at : ℕ) (what : ExprKind)
    → ConstantAt source at what → 200 < suc (c nodes) → Reads limits an_expr (look (first_of c)) (drop at words) (stuck (over nodes) (drop at words))
constant_deep source words sp c at kinds_of.Nil is n =
    let h = key_stands sp at kinds.Nil tt is in look_at h.is (passed_at h.is (passes_deep _ n))
constant_deep source words sp c at kinds_of.True is n =
    let h = key_stands sp at kinds.True tt is in look_at h.is (passed_at h.is (passes_deep _ n))
constant_deep source words sp c at kinds_of.False is n =
    let h = key_stands sp at kinds.False tt is in look_at h.is (passed_at h.is (passes_deep _ n))
constant_deep source words sp c at what is n = absurd is

-- ---- operators

abbrev is_operator : Word → Bool
is_operator (w.op o) = true
is_operator v = false

operator_key : (k : Kind) → is_operator (word_of_kind k) ≡ true → IsKey k
operator_key kinds.Name e = absurd (false≢true e)
operator_key (kinds.Number z) e = absurd (false≢true e)
operator_key kinds.Str e = absurd (false≢true e)
operator_key k e = tt

-- where the token of an operator stands, it is the word
pub operator_stands : {bytes : List ℕ} {before : ℕ} {ts : List Token} {words : List Tok} → Spelled bytes before ts words → (at : ℕ) (k : Kind) (o : t.BinOp)
    → kind_at ts at ≡ Some k → word_of_kind k ≡ w.op o → Stands ts words at (w.op o)
operator_stands {ts = ts} {words = words} sp at k o e is =
    subst (λ (v : Word). Stands ts words at v) is (key_stands sp at k (operator_key k (ap is_operator is)) e)

-- what an operator of this level or a tighter one goes on with
pub more_binary : (p : ℕ) (c : Counts) (a : t.Expr) (o : t.BinOp) (s : Spot) {ts : List Tok} {r : Answer t.Expr} → p ≤ level o
    → Reads limits an_expr (take (deep (suc (c nodes) + height a)) (then (expr (right_level o) (down c)) (λ b. then (more p c (t.binary s.line o a b)) give))) ts r
    → Reads limits an_expr (more_of p c a (w.op o) s) ts r
more_binary p c a o s {ts = ts} {r = r} h d =
    subst (λ (b : Bool). Reads limits an_expr (cond b (take (deep (suc (c nodes) + height a)) (then (expr (right_level o) (down c)) (λ b. then (more p c (t.binary s.line o a b)) give))) (give a)) ts r) (sym (leb_true p (level o) h)) d

-- an operator's word is that of its token
word_operator : (o : Option Kind) (v : Word) → WordFor o v → (b : t.BinOp) → v ≡ w.op b → (k : Kind) × (o ≡ Some k) × (word_of_kind k ≡ w.op b)
word_operator None v e b is = absurd (false≢true (ap is_operator (sym e ∙ is)))
word_operator (Some kinds.Name) v e b is = absurd (false≢true (ap is_operator (sym e.1 ∙ is)))
word_operator (Some (kinds.Number z)) v e b is = absurd (false≢true (ap is_operator (sym e ∙ is)))
word_operator (Some kinds.Str) v e b is = absurd (false≢true (ap is_operator (sym e.1 ∙ is)))
word_operator (Some k) v e b is = (k, refl, sym e ∙ is)

-- what no such operator goes on with
more_by : (p : ℕ) (c : Counts) (a : t.Expr) (s : Spot) (v : Word) → ((b : t.BinOp) → v ≡ w.op b → level b < p) → more_of p c a v s ≡ give a
more_by p c a s (w.op o) h =
    ap (λ (b : Bool). cond b (take (deep (suc (c nodes) + height a)) (then (expr (right_level o) (down c)) (λ e. then (more p c (t.binary s.line o a e)) give))) (give a)) (leb_false p (level o) (h o refl))
more_by p c a s v h = refl

pub no_more : {bytes : List ℕ} {before : ℕ} {ts : List Token} {words : List Tok} → Spelled bytes before ts words → (at p : ℕ) (c : Counts) (a : t.Expr)
    → ((k : Kind) (b : t.BinOp) → kind_at ts at ≡ Some k → word_of_kind k ≡ w.op b → level b < p)
    → Reads limits an_expr (look (more_of p c a)) (drop at words) (got a (drop at words))
no_more {ts = ts} sp at p c a h =
    look_as (more_by p c a _ _ (λ b is. let k = word_operator (kind_at ts at) _ (word_for sp at) b is in h k.0 b k.1 k.2)) gives

-- ---- unary operators

unary_key : (op : UnOp) → IsKey (unary_kind op)
unary_key unary_ops.Not = tt
unary_key unary_ops.Length = tt
unary_key unary_ops.Minus = tt

unary_first : (c : Counts) (op : UnOp) (s : Spot)
    → first_of c (word_of_kind (unary_kind op)) s ≡ take (deep (c nodes + 2)) (then (expr unary_level (down c)) (λ e. give (t.unary s.line (unary_view op) e)))
unary_first c unary_ops.Not s = refl
unary_first c unary_ops.Length s = refl
unary_first c unary_ops.Minus s = refl

-- an operand that begins with a unary operator
pub record Unary (ts : List Token) (words : List Tok) (at : ℕ) (op : UnOp) (c : Counts) : Type 0 where
  pub stands : Stands ts words at (word_of_kind (unary_kind op))
  pub begins : (r : Answer t.Expr)
      → Reads limits an_expr (take (deep (c nodes + 2)) (then (expr unary_level (down c)) (λ e. give (t.unary stands.spot.line (unary_view op) e)))) (drop at words) r
      → Reads limits an_expr (look (first_of c)) (drop at words) r

pub unary_stands : {bytes : List ℕ} {before : ℕ} {ts : List Token} {words : List Tok} → Spelled bytes before ts words → (c : Counts) (at : ℕ) (op : UnOp)
    → kind_at ts at ≡ Some (unary_kind op) → Unary ts words at op c
unary_stands {words = words} sp c at op e =
    let h = key_stands sp at (unary_kind op) (unary_key op) e in
    record { stands = h; begins = λ r d. look_at h.is (subst (λ (p : Prog an_expr). Reads limits an_expr p (drop at words) r) (sym (unary_first c op h.spot)) d) }

-- ---- lists of expressions

-- what stands in front of what was read goes on to one more
pub one_more_expr : {p : Prog some_exprs} {ts : List Tok} (es : List Expr) (e : Expr) (r : Answer t.Exprs)
    → Reads limits some_exprs p ts (as_part (exprs_onto es) (as_part (t.expr_and (expr_view e)) r)) → Reads limits some_exprs p ts (as_part (exprs_onto (es ++ e ∷ [])) r)
one_more_expr {p = p} {ts = ts} es e r d =
    subst (λ (o : Answer t.Exprs). Reads limits some_exprs p ts o) (part_of_part (exprs_onto es) (t.expr_and (expr_view e)) r ∙ ap (λ (f : t.Exprs → t.Exprs). as_part f r) (λ i b. sym (exprs_last es e b) i)) d

-- the first of them
pub one_expr : {p : Prog some_exprs} {ts : List Tok} (e : Expr) (r : Answer t.Exprs)
    → Reads limits some_exprs p ts (as_part (t.expr_and (expr_view e)) r) → Reads limits some_exprs p ts (as_part (exprs_onto (e ∷ [])) r)
one_expr {p = p} {ts = ts} e (got es us) d = d
one_expr {p = p} {ts = ts} e (stuck x us) d = d

-- a part that is put as it is
pub as_it_is : {s : Sort} {p : Prog s} {ts : List Tok} (r : Answer (Value s)) → Reads limits s p ts r → Reads limits s p ts (as_part (λ (whole : Value s). whole) r)
as_it_is (got a us) d = d
as_it_is (stuck x us) d = d

pub as_it_was : {s : Sort} {p : Prog s} {ts : List Tok} (r : Answer (Value s)) → Reads limits s p ts (as_part (λ (whole : Value s). whole) r) → Reads limits s p ts r
as_it_was (got a us) d = d
as_it_was (stuck x us) d = d

-- ---- how expressions are seen, and how high they are

pub view_unary : (l : ℕ) (op : UnOp) (e : Box Expr Global) → expr_view (record { line = l; what = kinds_of.Unary op e }) ≡ t.unary l (unary_view op) (expr_view e.value)
view_unary l op e = search (rules, kind.the_lemmas, expr_of.the_lemmas)

pub view_binary : (l : ℕ) (op : BinOp) (a b : Box Expr Global) → expr_view (record { line = l; what = kinds_of.Binary op a b }) ≡ t.binary l (binary_view op) (expr_view a.value) (expr_view b.value)
view_binary l op a b = search (rules, kind.the_lemmas, expr_of.the_lemmas)

pub high_unary : (l n : ℕ) (op : UnOp) (b : Box Expr Global) (e : Expr) → b.value ≡ e → n ≡ expr_tall e → 1 + n ≡ expr_tall (record { line = l; what = kinds_of.Unary op b })
high_unary l n op b e is h =
    let v = ap height (view_unary l op b) in let x = ap expr_tall is in let y = tall_unary l (unary_view op) (expr_view b.value) in omega (arith, v, x, y, h)

pub high_binary : (l n m : ℕ) (op : BinOp) (a b : Box Expr Global) (d e : Expr) → a.value ≡ d → b.value ≡ e → n ≡ expr_tall d → m ≡ expr_tall e
    → 1 + max n m ≡ expr_tall (record { line = l; what = kinds_of.Binary op a b })
high_binary l n m op a b d e is of h i =
    let v = ap height (view_binary l op a b) in let x = ap expr_tall is in let z = ap expr_tall of in
    let y = tall_binary l (binary_view op) (expr_view a.value) (expr_view b.value) in omega (arith, v, x, y, z, h, i)

-- the first expression of a list, and one more
pub first_expr : {p : Prog some_exprs} {ts : List Tok} (us vs : List Expr) (e : Expr) (r : Answer t.Exprs) → us ≡ vs ++ e ∷ [] → vs ≡ []
    → Reads limits some_exprs p ts (as_part (t.expr_and (expr_view e)) r) → Reads limits some_exprs p ts (as_part (exprs_onto us) r)
first_expr {p = p} {ts = ts} us vs e r is none d =
    subst (λ (xs : List Expr). Reads limits some_exprs p ts (as_part (exprs_onto xs) r)) (sym (is ∙ ap (λ (xs : List Expr). xs ++ e ∷ []) none)) (one_expr e r d)

pub first_expr_high : (us vs : List Expr) (e : Expr) (n : ℕ) → us ≡ vs ++ e ∷ [] → vs ≡ [] → n ≡ expr_tall e → n ≡ exprs_tall us
first_expr_high us vs e n is none h =
    let same : us ≡ e ∷ [] = is ∙ ap (λ (xs : List Expr). xs ++ e ∷ []) none in
    let x = ap exprs_tall same in omega (arith, x, h)

pub longer_exprs : {p : Prog some_exprs} {ts : List Tok} (us es : List Expr) (e : Expr) (r : Answer t.Exprs) → us ≡ es ++ e ∷ []
    → Reads limits some_exprs p ts (as_part (exprs_onto es) (as_part (t.expr_and (expr_view e)) r)) → Reads limits some_exprs p ts (as_part (exprs_onto us) r)
longer_exprs {p = p} {ts = ts} us es e r is d = subst (λ (xs : List Expr). Reads limits some_exprs p ts (as_part (exprs_onto xs) r)) (sym is) (one_more_expr es e r d)

pub longer_exprs_high : (us es : List Expr) (e : Expr) (k n m : ℕ) → us ≡ es ++ e ∷ [] → k ≡ max n m → n ≡ exprs_tall es → m ≡ expr_tall e → k ≡ exprs_tall us
longer_exprs_high us es e k n m is g h i =
    let x = ap exprs_tall is in let y = exprs_tall_last es e in omega (arith, x, y, g, h, i)

-- the list of what was read
pub exprs_are : {p : Prog some_exprs} {ts rest : List Tok} (us es : List Expr) → us ≡ es → Reads limits some_exprs p ts (got (exprs_onto es t.no_exprs) rest)
    → Reads limits some_exprs p ts (got (exprs_view us) rest)
exprs_are {p = p} {ts = ts} {rest = rest} us es is d =
    subst (λ (xs : t.Exprs). Reads limits some_exprs p ts (got xs rest)) (exprs_end es ∙ ap exprs_view (sym is)) d

-- an expression of another level and with other counts, which are the same
pub at_level : (p q : ℕ) (c d : Counts) (at : ℕ) (words : List Tok) (result : Result (Read Expr) Stop) → p ≡ q → c ≡ d
    → Answers expr_view (program (expr p c)) at result words → Answers expr_view (program (expr q d)) at result words
at_level p q c d at words result e f h =
    subst (λ (n : ℕ). Answers expr_view (program (expr n d)) at result words) e (subst (λ (x : Counts). Answers expr_view (program (expr p x)) at result words) f h)

pub unary_is : (l m : ℕ) (op : UnOp) (b : Box Expr Global) (e : Expr) → b.value ≡ e → l ≡ m
    → t.unary m (unary_view op) (expr_view e) ≡ expr_view (record { line = l; what = kinds_of.Unary op b })
unary_is l m op b e is line =
    ap (λ (n : ℕ). t.unary n (unary_view op) (expr_view e)) (sym line) ∙ ap (λ (d : Expr). t.unary l (unary_view op) (expr_view d)) (sym is) ∙ sym (view_unary l op b)

pub binary_is : (l m : ℕ) (op : BinOp) (a b : Box Expr Global) (d e : Expr) → a.value ≡ d → b.value ≡ e → l ≡ m
    → expr_view (record { line = l; what = kinds_of.Binary op a b }) ≡ t.binary m (binary_view op) (expr_view d) (expr_view e)
binary_is l m op a b d e is of line =
    view_binary l op a b ∙ ap (λ (x : Expr). t.binary l (binary_view op) (expr_view x) (expr_view b.value)) is
    ∙ ap (λ (x : Expr). t.binary l (binary_view op) (expr_view d) (expr_view x)) of ∙ ap (λ (n : ℕ). t.binary n (binary_view op) (expr_view d) (expr_view e)) line

-- how high they are, of what lies in boxes
pub tall_at_unary : (l : ℕ) (op : UnOp) (b : Box Expr Global) (e : Expr) → b.value ≡ e → expr_tall (record { line = l; what = kinds_of.Unary op b }) ≡ suc (expr_tall e)
tall_at_unary l op b e is = let h = high_unary l (expr_tall e) op b e is refl in omega (arith, h)

pub tall_at_binary : (l : ℕ) (op : BinOp) (a b : Box Expr Global) (d e : Expr) → a.value ≡ d → b.value ≡ e
    → expr_tall (record { line = l; what = kinds_of.Binary op a b }) ≡ suc (max (expr_tall d) (expr_tall e))
tall_at_binary l op a b d e is of = let h = high_binary l (expr_tall d) (expr_tall e) op a b d e is of refl refl in omega (arith, h)

-- ---- operands

-- what begins no operand but a prefix expression
pub first_goes : (c : Counts) (s : Spot) (k : Kind) (v : Word) → WordFor (Some k) v → (k ≡ kinds.Function → ⊥) → (k ≡ kinds.OpenBrace → ⊥) → (k ≡ kinds.Not → ⊥) → (k ≡ kinds.Hash → ⊥) → (k ≡ kinds.Minus → ⊥)
    → (k ≡ kinds.Dots → ⊥) → (k ≡ kinds.Str → ⊥) → (k ≡ kinds.Nil → ⊥) → (k ≡ kinds.True → ⊥) → (k ≡ kinds.False → ⊥) → ((z : ℤ) → k ≡ kinds.Number z → ⊥)
    → first_of c v s ≡ then (prefix in_expr c) give
first_goes c s kinds.Function v e f b n h m d x i t u z = absurd (f refl)
first_goes c s kinds.OpenBrace v e f b n h m d x i t u z = absurd (b refl)
first_goes c s kinds.Not v e f b n h m d x i t u z = absurd (n refl)
first_goes c s kinds.Hash v e f b n h m d x i t u z = absurd (h refl)
first_goes c s kinds.Minus v e f b n h m d x i t u z = absurd (m refl)
first_goes c s kinds.Dots v e f b n h m d x i t u z = absurd (d refl)
first_goes c s kinds.Str v e f b n h m d x i t u z = absurd (x refl)
first_goes c s kinds.Nil v e f b n h m d x i t u z = absurd (i refl)
first_goes c s kinds.True v e f b n h m d x i t u z = absurd (t refl)
first_goes c s kinds.False v e f b n h m d x i t u z = absurd (u refl)
first_goes c s (kinds.Number y) v e f b n h m d x i t u z = absurd (z y refl)
first_goes c s kinds.Name v e f b n h m d x i t u z = ap (λ (v : Word). first_of c v s) e.1
first_goes c s k v e f b n h m d x i t u z = ap (λ (v : Word). first_of c v s) e

-- the end begins none
pub first_ends : {bytes : List ℕ} {before : ℕ} {ts : List Token} {words : List Tok} → Spelled bytes before ts words → (c : Counts) (at : ℕ) → None ≡ kind_at ts at
    → Reads limits an_expr (look (first_of c)) (drop at words) (stuck unexpected (drop at words))
first_ends {ts = ts} {words = words} sp c at e =
    let end = subst (λ (o : Option Kind). WordFor o (word_of (drop at words))) (sym e) (word_for sp at) in
    look_as (ap (λ (v : Word). first_of c v (spot_of (drop at words))) end) (stops (look_as (ap (λ (v : Word). prefix_of in_expr c v (spot_of (drop at words))) end) fails))

-- another token begins a prefix expression
pub first_prefix : {bytes : List ℕ} {before : ℕ} {ts : List Token} {words : List Tok} → Spelled bytes before ts words → (c : Counts) (at : ℕ) (k : Kind) → Some k ≡ kind_at ts at
    → ((s : Spot) (v : Word) → WordFor (Some k) v → first_of c v s ≡ then (prefix in_expr c) give)
    → (r : Answer t.Expr) → Reads limits an_expr (program (prefix in_expr c)) (drop at words) r → Reads limits an_expr (look (first_of c)) (drop at words) r
first_prefix {words = words} sp c at k e goes r d =
    look_as (goes _ _ (subst (λ (o : Option Kind). WordFor o (word_of (drop at words))) (sym e) (word_for sp at))) (just d)
