-- Steps of prefix expressions: their beginnings, indices and calls.
use Rattle.std.proofs.Common.{◌≡◌, ℕ, zero, suc, ◌+◌, ◌-◌, ◌<◌, ◌≤◌, max, Bool, Option, None, ◌⊎◌, inl, inr, true, false, List, [], ◌∷◌, Result, Ok, Err, Some, Global, drop, take, length, refl, sym, ap, ◌∙◌, subst, rules, arith}
use Rattle.std.specs.Prelude.{slice_get, nat_lt, IfOk, IfErr, All, get_or}
use Rattle.std.specs.declared.boxed.Box.{Box}
use Rattle.std.proofs.lemmas.Option.{slice_get_within, get_or_from_slice_get}
use Rattle.std.proofs.lemmas.List.Elements.{All-get_or}
use Rattle.lua_token.specs.Cuts.{StandsIn}
use Rattle.lua_token.specs.declared.kind.Kind.{Kind}
use Rattle.lua_token.specs.declared.kind.Kind.TheVariants as kinds
use Rattle.lua_token.specs.declared.token.Token.{Token}
use Rattle.lua_tree.specs.declared.source.Read.{Read}
use Rattle.lua_tree.specs.declared.source.Source.{Source}
use Rattle.lua_tree.specs.declared.scope.Scope.{Scope}
use Rattle.lua_tree.specs.declared.stop.Stop.{Stop}
use Rattle.lua_tree.specs.declared.stop.Stop.TheVariants as stops
use Rattle.lua_tree.specs.declared.stop.Fault.TheVariants as faults
use Rattle.lua_tree.specs.declared.tree.Expr.{Expr}
use Rattle.lua_tree.specs.declared.tree.Expr as expr_type
use Rattle.lua_tree.specs.declared.tree.ExprKind as kind
use Rattle.lua_tree.specs.declared.tree.ExprKind.TheVariants as what
use Rattle.lua_tree.specs.declared.tree.Field.{Field}
use Rattle.lua_tree.specs.Tree as t
use Rattle.lua_tree.specs.Words as w
use Rattle.lua_tree.specs.Words.{Word, Key, key, Spot, Tok, tok, word_of, spot_of}
use Rattle.lua_tree.specs.Grammar.{call_line, line_or_none}
use Rattle.lua_tree.specs.Attributes.{Limit, breaks, varargs, nodes, locals, calls, Counts, at_call, height, most_exprs, most_fields}
use Rattle.lua_tree.specs.Reading as r
use Rattle.lua_tree.specs.Reading.{Sort, Value, Rule, Prog, give, fail, take as takes_token, look, expect, expect_name, then, Place, Answer, got, stuck, unexpected, over, fault_number, Keeps, Passes as PassesLimit, Reads, Fault, gives, fails, no_name, thens, stops as stops_in, opening, deep, free, down, held, unfinished, a_call, a_paren, expr, exprs, fields, prefix, suffixes, suffixes_of, called, args, args_of, paren_args, program, an_expr, an_args}
use Rattle.lua_tree.specs.Spelled.{Spelled, kind_at, kind_of, spot_behind, IsWord}
use Rattle.lua_tree.specs.View.{expr_view, exprs_view, fields_view}
use Rattle.lua_tree.specs.Begins.{begins_suffix, opens_arguments}
use Rattle.lua_tree.specs.Answer.{limits, Answers, Parts, as_part, answer_of, fault_of, counts, line_of, IsCut, Moves, NameAt, NoNameAt, MemberAt, NoMemberAt, StringAt, StoppedAt, args_view, NamedAt, expr_tall, exprs_tall, fields_tall}
use Rattle.lua_tree.proofs.Places.{here, before_at}
use Rattle.lua_tree.proofs.Taking.{just, keeps_free, keeps_deep, passes_deep, look_at, take_at, passed_at, expect_at, name_at}
use Rattle.lua_tree.proofs.Marks.{Stands, key_stands, kind_token, name_stands, no_key, no_name_there, str_stands}
use Rattle.lua_tree.proofs.Others.{look_as, prefix_other, paren_args_other}
use Rattle.lua_tree.proofs.KindWords.{WordFor, word_for}
use Rattle.std.proofs.lemmas.Bool.{false≢true}
use Rattle.lua_tree.proofs.Descent.{given, gave, next, moved}
use Rattle.lua_tree.proofs.Tall.{tall_call, tall_index, tall_method, tall_paren, tall_table}
use Rattle.lua_tree.proofs.Heights.{one_high}
use Rattle.lua_tree.proofs.Views.{view_str}
use Rattle.lua_token.proofs.Values.{one_value}
use Rattle.lua_token.specs.Value.{HasValue}
use Rattle.std.proofs.lemmas.Option.{same_Some}

-- ---- how nodes are seen, and how high they are

pub view_paren : (l : ℕ) (b : Box Expr Global) → expr_view (record { line = l; what = what.Paren b }) ≡ t.paren l (expr_view b.value)
view_paren l b = search (rules, kind.the_lemmas, expr_type.the_lemmas)

pub view_index : (l : ℕ) (a b : Box Expr Global) → expr_view (record { line = l; what = what.Index a b }) ≡ t.index l (expr_view a.value) (expr_view b.value)
view_index l a b = search (rules, kind.the_lemmas, expr_type.the_lemmas)

pub view_call : (l : ℕ) (a : Box Expr Global) (es : List Expr) → expr_view (record { line = l; what = what.Call a es }) ≡ t.call l (expr_view a.value) (exprs_view es)
view_call l a es = search (rules, kind.the_lemmas, expr_type.the_lemmas)

pub view_method : (l : ℕ) (a : Box Expr Global) (x : List ℕ) (es : List Expr) → expr_view (record { line = l; what = what.Method a x es }) ≡ t.method l (expr_view a.value) x (exprs_view es)
view_method l a x es = search (rules, kind.the_lemmas, expr_type.the_lemmas)

pub view_braces : (l : ℕ) (fs : List Field) → expr_view (record { line = l; what = what.Table fs }) ≡ t.table l (fields_view fs)
view_braces l fs = search (rules, kind.the_lemmas, expr_type.the_lemmas)

pub view_string : (l : ℕ) (x : List ℕ) → expr_view (record { line = l; what = what.Str x }) ≡ t.str l x
view_string l x = search (rules, kind.the_lemmas, expr_type.the_lemmas)

pub high_paren : (l n : ℕ) (b : Box Expr Global) (e : Expr) → b.value ≡ e → n ≡ expr_tall e → 1 + n ≡ expr_tall (record { line = l; what = what.Paren b })
high_paren l n b e v h = let x = ap height (view_paren l b) in let y = tall_paren l (expr_view b.value) in let z = ap expr_tall v in omega (arith, x, y, z, h)

pub tall_at_index : (l : ℕ) (a b : Box Expr Global) (d e : Expr) → a.value ≡ d → b.value ≡ e → expr_tall (record { line = l; what = what.Index a b }) ≡ suc (max (expr_tall d) (expr_tall e))
tall_at_index l a b d e v u =
    let x = ap height (view_index l a b) in let y = tall_index l (expr_view a.value) (expr_view b.value) in
    let z = ap expr_tall v in let q = ap expr_tall u in omega (arith, x, y, z, q)

pub tall_at_call : (l : ℕ) (a : Box Expr Global) (d : Expr) (es : List Expr) → a.value ≡ d → expr_tall (record { line = l; what = what.Call a es }) ≡ suc (max (expr_tall d) (exprs_tall es))
tall_at_call l a d es v =
    let x = ap height (view_call l a es) in let y = tall_call l (expr_view a.value) (exprs_view es) in
    let z = ap expr_tall v in omega (arith, x, y, z)

pub tall_at_method : (l : ℕ) (a : Box Expr Global) (d : Expr) (name : List ℕ) (es : List Expr) → a.value ≡ d → expr_tall (record { line = l; what = what.Method a name es }) ≡ suc (max (expr_tall d) (exprs_tall es))
tall_at_method l a d name es v =
    let x = ap height (view_method l a name es) in let y = tall_method l (expr_view a.value) name (exprs_view es) in
    let z = ap expr_tall v in omega (arith, x, y, z)

-- one table, or one string, as the arguments
pub high_only_table : (l n : ℕ) (fs : List Field) (es : List Expr) → es ≡ record { line = l; what = what.Table fs } ∷ [] → n ≡ fields_tall fs → 1 + n ≡ exprs_tall es
high_only_table l n fs es e h =
    let x = ap exprs_tall e in let y = ap height (view_braces l fs) in let z = tall_table l (fields_view fs) in omega (arith, x, y, z, h)

pub high_only : (e : Expr) (es : List Expr) (l : ℕ) (x : List ℕ) → es ≡ e ∷ [] → expr_view e ≡ t.str l x → 1 ≡ exprs_tall es
high_only e es l x same v = let y = ap exprs_tall same in let z = ap height v in omega (arith, y, z)

-- an index whose key is the string of a name
pub high_member : (l m n : ℕ) (x : List ℕ) (a b : Box Expr Global) (d : Expr) → a.value ≡ d → b.value ≡ record { line = m; what = what.Str x } → n ≡ expr_tall d → 1 + n ≡ expr_tall (record { line = l; what = what.Index a b })
high_member l m n x a b d v u h =
    let y = ap height (view_index l a b) in let z = tall_index l (expr_view a.value) (expr_view b.value) in
    let p = ap expr_tall v in let q = ap expr_tall u in let k = ap height (view_string m x) in let i = one_high (expr_view d) in omega (arith, y, z, p, q, k, i, h)

-- ---- the line of a token

-- a token's line is a line of the source
pub token_line : (source : Source) → IsCut source → (at : ℕ) (u : Token) → slice_get source.tokens.now at ≡ Some u → 1 ≤ line_of (slice_get source.tokens.now at)
token_line source cut at u e =
    let ts = source.tokens.now in
    let stands : StandsIn source.bytes.now u = subst (λ (t : Token). StandsIn source.bytes.now t) (get_or_from_slice_get ts at u u e) (All-get_or (StandsIn source.bytes.now) ts at u (slice_get_within ts at u e) cut) in
    let line = stands.line in
    let same = ap line_of e in omega (arith, line, same)

-- ---- a part of a rule

-- a part, and what is read behind it
pub behind_part : {T U : Type 0} {s : Sort} (p : Prog s) (after : T → Prog s) (view : U → Value s) (at : ℕ) (words : List Tok) (read : Read T) (result : Result (Read U) Stop)
    → Parts after (λ e whole. whole) p at (Ok read) words → Answers view (after read.node) read.at result words → Answers view p at result words
behind_part p after view at words read (Ok behind) part d = part (got (view behind.node) (drop behind.at words)) d
behind_part p after view at words read (Err (stops.At f place)) part d = part (stuck (fault_of f) (drop place words)) d
behind_part p after view at words read (Err stops.Memory) part d = tt

-- why a part stopped is why the whole does
pub stopped_part : {T U : Type 0} {s q : Sort} (p : Prog s) (after : T → Prog q) (put : T → Value q → Value s) (view : U → Value s) (at : ℕ) (words : List Tok) (stop : Stop)
    → Parts after put p at (Err stop) words → Answers view p at (Err stop) words
stopped_part p after put view at words (stops.At f place) d = d
stopped_part p after put view at words stops.Memory d = tt

-- the same program at the same place
pub as_prog : {s : Sort} {p q : Prog s} {ts us : List Tok} {r : Answer (Value s)} → p ≡ q → ts ≡ us → Reads limits s p ts r → Reads limits s q us r
as_prog {s = s} {q = q} {ts = ts} {r = r} e f d = subst (λ (xs : List Tok). Reads limits s q xs r) f (subst (λ (x : Prog s). Reads limits s x ts r) e d)

-- behind a token
pub behind_token : (at later : ℕ) (words : List Tok) → later ≡ at + 1 → drop later words ≡ drop (suc at) words
behind_token at later words e = let same : later ≡ suc at = omega (arith, e) in ap (λ (k : ℕ). drop k words) same

-- what is read behind an expression that is seen so
pub suffixes_behind : {ts us : List Tok} {r : Answer t.Expr} (k : Place) (c : Counts) {a b : t.Expr} → a ≡ b → ts ≡ us → Reads limits an_expr (program (suffixes k c a)) ts r → Reads limits an_expr (program (suffixes k c b)) us r
suffixes_behind k c e f d = as_prog (ap (λ (x : t.Expr). program (suffixes k c x)) e) f d

-- ---- a name

pub name_parts : (source : Source) {words : List Tok} (sp : Spelled source.bytes.now 1 source.tokens.now words) (k : Place) (scope : Scope) (at : ℕ) (result : Result (Read Expr) Stop)
    → (kind_at source.tokens.now at ≡ Some kinds.OpenParen → ⊥)
    → IfOk result (λ read. NameAt source at read.node) → IfOk result (λ read. read.at ≡ at + 1) → IfErr result (NoNameAt source at scope.depth)
    → IfOk result (Moves source.tokens.now at scope.depth expr_tall)
    → Parts (λ (e : Expr). program (suffixes k (counts scope) (expr_view e))) (λ e whole. whole) (program (prefix k (counts scope))) at result words
name_parts source {words = words} sp k scope at (Ok read) none n behind err m = λ r d.
    let u = n.0 in
    let h = name_stands sp at u _ n.1 n.2 refl in
    let tall = ap height n.3 in
    let low : suc scope.depth ≤ 200 = omega (arith, m.low, m.high, tall) in
    let x = take u.length (drop u.start source.bytes.now) in
    let same : expr_view read.node ≡ t.name h.spot.line x = n.3 ∙ ap (λ (l : ℕ). t.name l x) (sym (h.line ∙ ap line_of n.1)) in
    look_at h.is (take_at h.is (keeps_deep _ low) (given {f = λ whole. whole} r (suffixes_behind k (counts scope) same (behind_token at read.at words behind) d)))
name_parts source {words = words} sp k scope at (Err (stops.At faults.Unexpected place)) none n behind err m =
    subst (λ (z : ℕ). Reads limits an_expr (program (prefix k (counts scope))) (drop at words) (stuck unexpected (drop z words))) (sym err.0)
    (look_as (prefix_other k (counts scope) _ _ (no_name_there sp at err.1) (no_key sp at kinds.OpenParen (key w.open_paren) refl none)) fails)
name_parts source {words = words} sp k scope at (Err (stops.At faults.TooDeep place)) none n behind err m =
    let u = kind_token source.tokens.now at kinds.Name err.1 in
    let h = name_stands sp at u.0 _ u.1 u.2 refl in
    subst (λ (z : ℕ). Reads limits an_expr (program (prefix k (counts scope))) (drop at words) (stuck (over nodes) (drop z words))) (sym err.0)
    (look_at h.is (passed_at h.is (passes_deep _ (omega (arith, err.2)))))
name_parts source sp k scope at (Err (stops.At faults.BreakOutside place)) none n behind err m = absurd err
name_parts source sp k scope at (Err (stops.At faults.VarargOutside place)) none n behind err m = absurd err
name_parts source sp k scope at (Err (stops.At faults.TooManyLocals place)) none n behind err m = absurd err
name_parts source sp k scope at (Err (stops.At faults.AmbiguousCall place)) none n behind err m = absurd err
name_parts source sp k scope at (Err stops.Memory) none n behind err m = tt

-- ---- an index by a name

pub member_parts : (source : Source) {words : List Tok} (sp : Spelled source.bytes.now 1 source.tokens.now words) (k : Place) (scope : Scope) (base : Read Expr) (result : Result (Read Expr) Stop)
    → kind_at source.tokens.now base.at ≡ Some kinds.Dot → base.height ≡ expr_tall base.node
    → IfOk result (λ read. MemberAt source base read.node) → IfOk result (λ read. read.at ≡ base.at + 2) → IfErr result (NoMemberAt source base scope.depth)
    → IfOk result (Moves source.tokens.now base.at scope.depth expr_tall)
    → Parts (λ (e : Expr). program (suffixes k (counts scope) (expr_view e))) (λ e whole. whole) (program (suffixes k (counts scope) (expr_view base.node))) base.at result words
member_parts source {words = words} sp k scope base (Ok read) dot tall n behind err m = λ r d.
    let u = n.0 in
    let h = key_stands sp base.at kinds.Dot tt dot in
    let i = name_stands sp (base.at + 1) u _ n.1 n.2 refl in
    let x = take u.length (drop u.start source.bytes.now) in
    let high = ap height n.3 in
    let whole = tall_index (line_of (slice_get source.tokens.now base.at)) (expr_view base.node) (t.str u.line x) in
    let low : suc scope.depth + height (expr_view base.node) ≤ 200 = omega (arith, m.low, m.high, high, whole) in
    let same : expr_view read.node ≡ t.index h.spot.line (expr_view base.node) (t.str i.spot.line x) =
    n.3 ∙ (ap (λ (l : ℕ). t.index l (expr_view base.node) (t.str u.line x)) (sym h.line) ∙ ap (λ (l : ℕ). t.index h.spot.line (expr_view base.node) (t.str l x)) (sym (i.line ∙ ap line_of n.1))) in
    let place : read.at ≡ base.at + 1 + 1 = omega (arith, behind) in
    look_at h.is (take_at h.is (keeps_deep _ low)
    (next base.at words (name_at i.is keeps_free (given {f = λ whole. whole} r (suffixes_behind k (counts scope) same (behind_token (base.at + 1) read.at words place) d)))))
member_parts source {words = words} sp k scope base (Err (stops.At faults.TooDeep place)) dot tall n behind err m =
    let h = key_stands sp base.at kinds.Dot tt dot in
    let high : 200 < suc scope.depth + height (expr_view base.node) = omega (arith, err.1, tall) in
    subst (λ (z : ℕ). Reads limits an_expr (program (suffixes k (counts scope) (expr_view base.node))) (drop base.at words) (stuck (over nodes) (drop z words))) (sym err.0)
    (look_at h.is (passed_at h.is (passes_deep _ high)))
member_parts source {words = words} sp k scope base (Err (stops.At faults.Unexpected place)) dot tall n behind err m =
    let h = key_stands sp base.at kinds.Dot tt dot in
    let low : suc scope.depth + height (expr_view base.node) ≤ 200 = omega (arith, err.2, tall) in
    subst (λ (z : ℕ). Reads limits an_expr (program (suffixes k (counts scope) (expr_view base.node))) (drop base.at words) (stuck unexpected (drop z words))) (sym err.0)
    (look_at h.is (take_at h.is (keeps_deep _ low) (next base.at words (no_name (no_name_there sp (base.at + 1) err.1)))))
member_parts source sp k scope base (Err (stops.At faults.BreakOutside place)) dot tall n behind err m = absurd err
member_parts source sp k scope base (Err (stops.At faults.VarargOutside place)) dot tall n behind err m = absurd err
member_parts source sp k scope base (Err (stops.At faults.TooManyLocals place)) dot tall n behind err m = absurd err
member_parts source sp k scope base (Err (stops.At faults.AmbiguousCall place)) dot tall n behind err m = absurd err
member_parts source sp k scope base (Err stops.Memory) dot tall n behind err m = tt

-- ---- arguments

-- a token that opens arguments keeps the limits
pub keeps_opening : (n line : ℕ) → n ≤ 200 → 1 ≤ line → Keeps limits (opening n line)
keeps_opening n zero h p x = absurd (omega (arith, p))
keeps_opening n (suc l) h p breaks = omega arith
keeps_opening n (suc l) h p varargs = omega arith
keeps_opening n (suc l) h p nodes = h
keeps_opening n (suc l) h p locals = omega arith
keeps_opening n (suc l) h p calls = omega arith

-- it makes nodes too deep
lower_opening : (n line : ℕ) (y : Limit) → fault_number y < fault_number nodes → opening n line y ≤ limits y
lower_opening n line breaks l = omega arith
lower_opening n line varargs l = omega arith
lower_opening n line nodes l = absurd (omega (arith, l))
lower_opening n line locals l = absurd (omega (arith, l))
lower_opening n line calls l = absurd (omega (arith, l))

pub deep_opening : (n line : ℕ) → 200 < n → PassesLimit limits (opening n line) nodes
deep_opening n line h = (h, lower_opening n line)

-- it opens an ambiguous call
below_calls : (n : ℕ) → n ≤ 200 → (y : Limit) → fault_number y < fault_number calls → opening n 0 y ≤ limits y
below_calls n h breaks l = omega arith
below_calls n h varargs l = omega arith
below_calls n h nodes l = h
below_calls n h locals l = omega arith
below_calls n h calls l = absurd (omega (arith, l))

pub ambiguous : (n : ℕ) → n ≤ 200 → PassesLimit limits (opening n 0) calls
ambiguous n h = (omega arith, below_calls n h)

one_string : {l m : ℕ} {x : List ℕ} (e : Expr) (es : List Expr) → l ≡ m → es ≡ e ∷ [] → expr_view e ≡ t.str m x
    → ◌≡◌ {A = Value an_args} (l, t.expr_and (t.str l x) t.no_exprs) (m, exprs_view es)
one_string {m = m} {x = x} e es i s v =
    ap (λ (k : ℕ). (k, t.expr_and (t.str k x) t.no_exprs)) i ∙ (ap (λ (y : t.Expr). (m, t.expr_and y t.no_exprs)) (sym v) ∙ ap (λ (ys : List Expr). (m, exprs_view ys)) (sym s))

pub string_args : (source : Source) {words : List Tok} (sp : Spelled source.bytes.now 1 source.tokens.now words) → IsCut source → (n : ℕ) (c : Counts) (at next : ℕ) (x : List ℕ) (e : Expr) (es : List Expr)
    → n ≤ 200 → kind_at source.tokens.now at ≡ Some kinds.Str → StringAt source at x → expr_view e ≡ t.str (line_of (slice_get source.tokens.now at)) x → es ≡ e ∷ [] → next ≡ at + 1
    → Reads limits an_args (program (args n c)) (drop at words) (got (args_view source at es) (drop next words))
string_args source {words = words} sp cut n c at next x e es low is found v one later =
    let h = str_stands sp at is in
    let token = same_Some h.0 found.0 (sym h.2 ∙ found.1) in
    let value : h.1 ≡ x = one_value source.bytes.now found.0 h.1 x (subst (λ (u : Token). HasValue source.bytes.now u h.1) token h.3) found.3 in
    let line : 1 ≤ h.4.spot.line = subst (λ (l : ℕ). 1 ≤ l) (sym h.4.line) (token_line source cut at h.0 h.2) in
    let view : expr_view e ≡ t.str (line_of (slice_get source.tokens.now at)) h.1 = v ∙ ap (t.str (line_of (slice_get source.tokens.now at))) (sym value) in
    look_at h.4.is (take_at h.4.is (keeps_opening n _ low line)
    (subst (λ (us : List Tok). Reads limits an_args (give (h.4.spot.line, t.expr_and (t.str h.4.spot.line h.1) t.no_exprs)) (drop (suc at) words) (got (args_view source at es) us)) (sym (behind_token at next words later))
    (gave (one_string e es h.4.line one view))))

-- ---- by the kind of the token that stands there

pub no_suffix : (k : Place) (c : Counts) (a : t.Expr) (s : Spot) (o : Option Kind) (v : Word) → WordFor o v → begins_suffix o ≡ false → suffixes_of k c a v s ≡ give a
no_suffix k c a s None v e h = ap (λ (v : Word). suffixes_of k c a v s) e
no_suffix k c a s (Some kinds.OpenBracket) v e h = absurd (false≢true (sym h))
no_suffix k c a s (Some kinds.Dot) v e h = absurd (false≢true (sym h))
no_suffix k c a s (Some kinds.Colon) v e h = absurd (false≢true (sym h))
no_suffix k c a s (Some kinds.OpenParen) v e h = absurd (false≢true (sym h))
no_suffix k c a s (Some kinds.OpenBrace) v e h = absurd (false≢true (sym h))
no_suffix k c a s (Some kinds.Str) v e h = absurd (false≢true (sym h))
no_suffix k c a s (Some (kinds.Number z)) v e h = ap (λ (v : Word). suffixes_of k c a v s) e
no_suffix k c a s (Some kinds.Name) v e h = ap (λ (v : Word). suffixes_of k c a v s) e.1
no_suffix k c a s (Some j) v e h = ap (λ (v : Word). suffixes_of k c a v s) e

pub no_arguments : (n : ℕ) (c : Counts) (s : Spot) (o : Option Kind) (v : Word) → WordFor o v → opens_arguments o ≡ false → args_of n c v s ≡ fail
no_arguments n c s None v e h = ap (λ (v : Word). args_of n c v s) e
no_arguments n c s (Some kinds.OpenParen) v e h = absurd (false≢true (sym h))
no_arguments n c s (Some kinds.OpenBrace) v e h = absurd (false≢true (sym h))
no_arguments n c s (Some kinds.Str) v e h = absurd (false≢true (sym h))
no_arguments n c s (Some (kinds.Number z)) v e h = ap (λ (v : Word). args_of n c v s) e
no_arguments n c s (Some kinds.Name) v e h = ap (λ (v : Word). args_of n c v s) e.1
no_arguments n c s (Some j) v e h = ap (λ (v : Word). args_of n c v s) e

some_call : (k : Place) (c : Counts) (a : t.Expr) (s : Spot) (o : Option Kind) (v : Word) → WordFor o v → opens_arguments o ≡ true → suffixes_of k c a v s ≡ called k c a
some_call k c a s None v e h = absurd (false≢true h)
some_call k c a s (Some kinds.OpenParen) v e h = ap (λ (v : Word). suffixes_of k c a v s) e
some_call k c a s (Some kinds.OpenBrace) v e h = ap (λ (v : Word). suffixes_of k c a v s) e
some_call k c a s (Some kinds.Str) v e h = ap (λ (v : Word). suffixes_of k c a v s) e.1
some_call k c a s (Some j) v e h = absurd (false≢true h)

opened : (o : Option Kind) → opens_arguments o ≡ true → ((o ≡ Some kinds.OpenParen) ⊎ ((o ≡ Some kinds.OpenBrace) ⊎ (o ≡ Some kinds.Str)))
opened None h = absurd (false≢true h)
opened (Some kinds.OpenParen) h = inl refl
opened (Some kinds.OpenBrace) h = inr (inl refl)
opened (Some kinds.Str) h = inr (inr refl)
opened (Some j) h = absurd (false≢true h)

-- ---- parentheses

-- what is counted where a node has to come around them
pub held_counts : {c : Counts} (d : Counts) {b q : Bool} → c ≡ held b d → b ≡ q → c ≡ held q d
held_counts d e f = e ∙ ap (λ (x : Bool). held x d) f

pub paren_deep : {bytes : List ℕ} {ts : List Token} {words : List Tok} (sp : Spelled bytes 1 ts words) (k : Place) (c : Counts) (at : ℕ) → kind_at ts at ≡ Some kinds.OpenParen
    → 200 < held (unfinished k a_paren) c nodes + 2 → Reads limits an_expr (program (prefix k c)) (drop at words) (stuck (over nodes) (drop at words))
paren_deep sp k c at is high = let h = key_stands sp at kinds.OpenParen tt is in look_at h.is (passed_at h.is (passes_deep _ high))

-- '(' and what is behind it
pub paren_opens : {bytes : List ℕ} {ts : List Token} {words : List Tok} (sp : Spelled bytes 1 ts words) (k : Place) (c : Counts) (at : ℕ) (r : Answer t.Expr) → kind_at ts at ≡ Some kinds.OpenParen
    → held (unfinished k a_paren) c nodes + 2 ≤ 200
    → Reads limits an_expr (then (expr 0 (down (held (unfinished k a_paren) c))) (λ e. expect w.close_paren free (λ s'. then (suffixes k c (t.paren (line_of (slice_get ts at)) e)) give))) (drop (at + 1) words) r
    → Reads limits an_expr (program (prefix k c)) (drop at words) r
paren_opens {bytes = bytes} {ts = ts} {words = words} sp k c at r is low d =
    let h = key_stands sp at kinds.OpenParen tt is in
    look_at h.is (take_at h.is (keeps_deep _ low)
    (next at words (subst (λ (l : ℕ). Reads limits an_expr (then (expr 0 (down (held (unfinished k a_paren) c))) (λ e. expect w.close_paren free (λ s'. then (suffixes k c (t.paren l e)) give))) (drop (at + 1) words) r) (sym h.line) d)))

-- ')' and the suffixes behind it
pub paren_closes : {bytes : List ℕ} {ts : List Token} {words : List Tok} (sp : Spelled bytes 1 ts words) (k : Place) (c : Counts) (l at later : ℕ) (inner e : t.Expr) (r : Answer t.Expr) → kind_at ts at ≡ Some kinds.CloseParen
    → e ≡ t.paren l inner → later ≡ at + 1 → Reads limits an_expr (program (suffixes k c e)) (drop later words) r
    → Reads limits an_expr (expect w.close_paren free (λ s'. then (suffixes k c (t.paren l inner)) give)) (drop at words) (as_part (λ whole. whole) r)
paren_closes {words = words} sp k c l at later inner e r is same behind d =
    let h = key_stands sp at kinds.CloseParen tt is in
    expect_at h.is keeps_free (given {f = λ whole. whole} r (suffixes_behind k c same (behind_token at later words behind) d))

-- ---- an index

pub bracket_deep : {bytes : List ℕ} {ts : List Token} {words : List Tok} (sp : Spelled bytes 1 ts words) (k : Place) (c : Counts) (a : t.Expr) (at : ℕ) → kind_at ts at ≡ Some kinds.OpenBracket
    → 200 < suc (c nodes) + height a → Reads limits an_expr (program (suffixes k c a)) (drop at words) (stuck (over nodes) (drop at words))
bracket_deep sp k c a at is high = let h = key_stands sp at kinds.OpenBracket tt is in look_at h.is (passed_at h.is (passes_deep _ high))

pub bracket_opens : {bytes : List ℕ} {ts : List Token} {words : List Tok} (sp : Spelled bytes 1 ts words) (k : Place) (c : Counts) (a : t.Expr) (at : ℕ) (r : Answer t.Expr) → kind_at ts at ≡ Some kinds.OpenBracket
    → suc (c nodes) + height a ≤ 200
    → Reads limits an_expr (then (expr 0 (down c)) (λ e. expect w.close_bracket free (λ s'. then (suffixes k c (t.index (line_of (slice_get ts at)) a e)) give))) (drop (at + 1) words) r
    → Reads limits an_expr (program (suffixes k c a)) (drop at words) r
bracket_opens {bytes = bytes} {ts = ts} {words = words} sp k c a at r is low d =
    let h = key_stands sp at kinds.OpenBracket tt is in
    look_at h.is (take_at h.is (keeps_deep _ low)
    (next at words (subst (λ (l : ℕ). Reads limits an_expr (then (expr 0 (down c)) (λ e. expect w.close_bracket free (λ s'. then (suffixes k c (t.index l a e)) give))) (drop (at + 1) words) r) (sym h.line) d)))

pub bracket_closes : {bytes : List ℕ} {ts : List Token} {words : List Tok} (sp : Spelled bytes 1 ts words) (k : Place) (c : Counts) (l at later : ℕ) (a inner e : t.Expr) (r : Answer t.Expr) → kind_at ts at ≡ Some kinds.CloseBracket
    → e ≡ t.index l a inner → later ≡ at + 1 → Reads limits an_expr (program (suffixes k c e)) (drop later words) r
    → Reads limits an_expr (expect w.close_bracket free (λ s'. then (suffixes k c (t.index l a inner)) give)) (drop at words) (as_part (λ whole. whole) r)
bracket_closes {words = words} sp k c l at later a inner e r is same behind d =
    let h = key_stands sp at kinds.CloseBracket tt is in
    expect_at h.is keeps_free (given {f = λ whole. whole} r (suffixes_behind k c same (behind_token at later words behind) d))

-- ---- a method's call

pub colon_deep : {bytes : List ℕ} {ts : List Token} {words : List Tok} (sp : Spelled bytes 1 ts words) (k : Place) (c : Counts) (a : t.Expr) (at : ℕ) → kind_at ts at ≡ Some kinds.Colon
    → 200 < suc (held (unfinished k a_call) c nodes) + height a → Reads limits an_expr (program (suffixes k c a)) (drop at words) (stuck (over nodes) (drop at words))
colon_deep sp k c a at is high = let h = key_stands sp at kinds.Colon tt is in look_at h.is (passed_at h.is (passes_deep _ high))

-- no name is behind ':'
pub colon_alone : {bytes : List ℕ} {ts : List Token} {words : List Tok} (sp : Spelled bytes 1 ts words) (k : Place) (c : Counts) (a : t.Expr) (at : ℕ) → kind_at ts at ≡ Some kinds.Colon
    → suc (held (unfinished k a_call) c nodes) + height a ≤ 200 → (kind_at ts (at + 1) ≡ Some kinds.Name → ⊥)
    → Reads limits an_expr (program (suffixes k c a)) (drop at words) (stuck unexpected (drop (at + 1) words))
colon_alone {words = words} sp k c a at is low none =
    let h = key_stands sp at kinds.Colon tt is in
    look_at h.is (take_at h.is (keeps_deep _ low) (next at words (no_name (no_name_there sp (at + 1) none))))

pub colon_opens : (source : Source) {words : List Tok} (sp : Spelled source.bytes.now 1 source.tokens.now words) (k : Place) (c : Counts) (a : t.Expr) (at : ℕ) (x : List ℕ) (r : Answer t.Expr) → kind_at source.tokens.now at ≡ Some kinds.Colon
    → suc (held (unfinished k a_call) c nodes) + height a ≤ 200 → NamedAt source (at + 1) x
    → Reads limits an_expr (then (args (suc (held (unfinished k a_call) c nodes) + height a) (down (held (unfinished k a_call) c))) (λ r. then (suffixes k c (t.method r.0 a x r.1)) give)) (drop (at + 2) words) r
    → Reads limits an_expr (program (suffixes k c a)) (drop at words) r
colon_opens source {words = words} sp k c a at x r is low named d =
    let h = key_stands sp at kinds.Colon tt is in
    let i = name_stands sp (at + 1) named.0 x named.1 named.2 named.3 in
    let place : at + 2 ≡ at + 1 + 1 = omega arith in
    look_at h.is (take_at h.is (keeps_deep _ low) (next at words (name_at i.is keeps_free (moved (at + 1) (at + 2) words place d))))

-- ---- a call

pub call_opens : {bytes : List ℕ} {ts : List Token} {words : List Tok} (sp : Spelled bytes 1 ts words) (k : Place) (c : Counts) (a : t.Expr) (at : ℕ) (r : Answer t.Expr) → opens_arguments (kind_at ts at) ≡ true
    → Reads limits an_expr (called k c a) (drop at words) r → Reads limits an_expr (program (suffixes k c a)) (drop at words) r
call_opens sp k c a at r is d = look_as (some_call k c a _ _ _ (word_for sp at) is) d

-- the arguments are too deep
args_deep : {bytes : List ℕ} {ts : List Token} {words : List Tok} (sp : Spelled bytes 1 ts words) (n : ℕ) (c : Counts) (at : ℕ) → 200 < n
    → ((kind_at ts at ≡ Some kinds.OpenParen) ⊎ ((kind_at ts at ≡ Some kinds.OpenBrace) ⊎ (kind_at ts at ≡ Some kinds.Str)))
    → Reads limits an_args (program (args n c)) (drop at words) (stuck (over nodes) (drop at words))
args_deep sp n c at high (inl is) = let h = key_stands sp at kinds.OpenParen tt is in look_at h.is (passed_at h.is (deep_opening n _ high))
args_deep sp n c at high (inr (inl is)) = let h = key_stands sp at kinds.OpenBrace tt is in look_at h.is (passed_at h.is (deep_opening n _ high))
args_deep sp n c at high (inr (inr is)) = let h = str_stands sp at is in look_at h.4.is (passed_at h.4.is (deep_opening n _ high))

pub call_deep : {bytes : List ℕ} {ts : List Token} {words : List Tok} (sp : Spelled bytes 1 ts words) (k : Place) (c : Counts) (a : t.Expr) (at : ℕ) → opens_arguments (kind_at ts at) ≡ true
    → 200 < suc (held (unfinished k a_call) c nodes) + height a → Reads limits an_expr (program (suffixes k c a)) (drop at words) (stuck (over nodes) (drop at words))
call_deep sp k c a at is high = call_opens sp k c a at _ is (stops_in (args_deep sp _ _ at high (opened _ is)))

-- the suffixes behind arguments
pub call_closes : {ts : List Tok} (k : Place) (c : Counts) {a e : t.Expr} (r : Answer t.Expr) → e ≡ a → Reads limits an_expr (program (suffixes k c e)) ts r
    → Reads limits an_expr (then (suffixes k c a) give) ts (as_part (λ whole. whole) r)
call_closes k c r same d = given {f = λ whole. whole} r (suffixes_behind k c same refl d)

-- ---- listed arguments

paren_spot : {bytes : List ℕ} {ts : List Token} {words : List Tok} (sp : Spelled bytes 1 ts words) (at : ℕ) → 0 < at → kind_at ts at ≡ Some kinds.OpenParen
    → (s : Spot) × (drop at words ≡ tok (key w.open_paren) s ∷ drop (suc at) words) × (s.line ≡ line_of (slice_get ts at)) × (s.later ≡ nat_lt (line_of (slice_get ts (at - 1))) (line_of (slice_get ts at)))
paren_spot sp zero some is = absurd (omega (arith, some))
paren_spot {bytes = bytes} {ts = ts} {words = words} sp (suc k) some is =
    let u = kind_token ts (suc k) kinds.OpenParen is in
    let h = here sp (suc k) u.0 u.1 in
    let spot = spot_behind (line_of (slice_get ts k)) u.0 in
    let word : h.word ≡ key w.open_paren = subst (λ (j : Kind). IsWord bytes u.0 j h.word) u.2 h.is_word in
    let before : suc k - 1 ≡ k = omega arith in (
      spot,
      subst (λ (v : Word). drop (suc k) words ≡ tok v spot ∷ drop (suc (suc k)) words) word h.stands,
      ap line_of (sym u.1),
      ap (nat_lt (line_of (slice_get ts k))) (ap line_of (sym u.1)) ∙ ap (λ (j : ℕ). nat_lt (line_of (slice_get ts j)) (line_of (slice_get ts (suc k)))) (sym before),
    )

not_less : (a b : ℕ) → b ≤ a → nat_lt a b ≡ false
not_less a b h = grind arith

is_less : (a b : ℕ) → a < b → nat_lt a b ≡ true
is_less a b h = grind arith

-- '(' on a later line
pub listed_ambiguous : {bytes : List ℕ} {ts : List Token} {words : List Tok} (sp : Spelled bytes 1 ts words) (n : ℕ) (c : Counts) (at : ℕ) → n ≤ 200 → 0 < at → kind_at ts at ≡ Some kinds.OpenParen
    → line_of (slice_get ts (at - 1)) < line_of (slice_get ts at)
    → Reads limits an_args (program (args n c)) (drop at words) (stuck (over calls) (drop at words))
listed_ambiguous {bytes = bytes} {ts = ts} {words = words} sp n c at low some is less =
    let h = paren_spot sp at some is in
    let later = h.3 ∙ is_less _ _ less in
    look_at h.1 (passed_at h.1 (subst (λ (b : Bool). PassesLimit limits (opening n (line_or_none b h.0.line)) calls) (sym later) (ambiguous n low)))

pub listed_opens : (source : Source) {words : List Tok} (sp : Spelled source.bytes.now 1 source.tokens.now words) → IsCut source → (n : ℕ) (c : Counts) (at : ℕ) (r : Answer (Value an_args)) → n ≤ 200 → 0 < at → kind_at source.tokens.now at ≡ Some kinds.OpenParen
    → line_of (slice_get source.tokens.now at) ≤ line_of (slice_get source.tokens.now (at - 1))
    → Reads limits an_args (program (paren_args (line_of (slice_get source.tokens.now at)) c)) (drop (at + 1) words) r
    → Reads limits an_args (program (args n c)) (drop at words) r
listed_opens source {words = words} sp cut n c at r low some is less d =
    let h = paren_spot sp at some is in
    let u = kind_token source.tokens.now at kinds.OpenParen is in
    let later = h.3 ∙ not_less _ _ less in
    let line : line_or_none h.0.later h.0.line ≡ line_of (slice_get source.tokens.now at) = ap (λ (b : Bool). line_or_none b h.0.line) later ∙ h.2 in
    let keeps : Keeps limits (opening n (line_or_none h.0.later h.0.line)) = subst (λ (l : ℕ). Keeps limits (opening n l)) (sym line) (keeps_opening n _ low (token_line source cut at u.0 u.1)) in
    look_at h.1 (take_at h.1 keeps (next at words (just (subst (λ (l : ℕ). Reads limits an_args (program (paren_args l c)) (drop (at + 1) words) r) (sym line) d))))

-- ')' at once
pub listed_none : {bytes : List ℕ} {ts : List Token} {words : List Tok} (sp : Spelled bytes 1 ts words) (l : ℕ) (c : Counts) (at : ℕ) → kind_at ts (at + 1) ≡ Some kinds.CloseParen
    → Reads limits an_args (program (paren_args l c)) (drop (at + 1) words) (got (l, t.no_exprs) (drop (at + 2) words))
listed_none {words = words} sp l c at is =
    let h = key_stands sp (at + 1) kinds.CloseParen tt is in
    let place : at + 2 ≡ at + 1 + 1 = omega arith in
    look_at h.is (take_at h.is keeps_free (moved (at + 1) (at + 2) words place gives))

-- some, and ')'
pub listed_some : {bytes : List ℕ} {ts : List Token} {words : List Tok} (sp : Spelled bytes 1 ts words) (l : ℕ) (c : Counts) (at : ℕ) (r : Answer (Value an_args)) → (kind_at ts (at + 1) ≡ Some kinds.CloseParen → ⊥)
    → Reads limits an_args (then (exprs c) (λ es. expect w.close_paren free (λ s'. give (l, es)))) (drop (at + 1) words) r
    → Reads limits an_args (program (paren_args l c)) (drop (at + 1) words) r
listed_some sp l c at r none d = look_as (paren_args_other l c _ _ (no_key sp (at + 1) kinds.CloseParen (key w.close_paren) refl none)) d

-- ---- a table as the argument

pub table_opens : (source : Source) {words : List Tok} (sp : Spelled source.bytes.now 1 source.tokens.now words) → IsCut source → (n : ℕ) (c : Counts) (at : ℕ) (r : Answer (Value an_args)) → n ≤ 200 → kind_at source.tokens.now at ≡ Some kinds.OpenBrace
    → Reads limits an_args (then (fields (down c)) (λ fs. give (line_of (slice_get source.tokens.now at), t.expr_and (t.table (line_of (slice_get source.tokens.now at)) fs) t.no_exprs))) (drop (at + 1) words) r
    → Reads limits an_args (program (args n c)) (drop at words) r
table_opens source {words = words} sp cut n c at r low is d =
    let h = key_stands sp at kinds.OpenBrace tt is in
    let u = kind_token source.tokens.now at kinds.OpenBrace is in
    let line : 1 ≤ h.spot.line = subst (λ (l : ℕ). 1 ≤ l) (sym h.line) (token_line source cut at u.0 u.1) in
    look_at h.is (take_at h.is (keeps_opening n _ low line)
    (next at words (subst (λ (l : ℕ). Reads limits an_args (then (fields (down c)) (λ fs. give (l, t.expr_and (t.table l fs) t.no_exprs))) (drop (at + 1) words) r) (sym h.line) d)))

-- ---- suffixes, one after the other

-- no more of them
pub suffixes_end : {bytes : List ℕ} {ts : List Token} {words : List Tok} (sp : Spelled bytes 1 ts words) (k : Place) (c : Counts) (a : t.Expr) (at : ℕ) → begins_suffix (kind_at ts at) ≡ false
    → Reads limits an_expr (program (suffixes k c a)) (drop at words) (got a (drop at words))
suffixes_end sp k c a at none = look_as (no_suffix k c a _ _ _ (word_for sp at) none) gives

-- one more of them
pub one_more_suffix : {q : Prog an_expr} {ts : List Tok} (r : Answer t.Expr) → Reads limits an_expr q ts (as_part (λ whole. whole) r) → Reads limits an_expr q ts r
one_more_suffix (got a vs) d = d
one_more_suffix (stuck x vs) d = d

-- ---- nodes that were made, as trees

pub same_paren : (l m : ℕ) (b : Box Expr Global) (e : Expr) → l ≡ m → b.value ≡ e → expr_view (record { line = l; what = what.Paren b }) ≡ t.paren m (expr_view e)
same_paren l m b e i v = view_paren l b ∙ (ap (λ (k : ℕ). t.paren k (expr_view b.value)) i ∙ ap (λ (x : Expr). t.paren m (expr_view x)) v)

pub same_index : (l m : ℕ) (a b : Box Expr Global) (d e : Expr) → l ≡ m → a.value ≡ d → b.value ≡ e → expr_view (record { line = l; what = what.Index a b }) ≡ t.index m (expr_view d) (expr_view e)
same_index l m a b d e i v u =
    view_index l a b ∙ (ap (λ (k : ℕ). t.index k (expr_view a.value) (expr_view b.value)) i ∙ (ap (λ (x : Expr). t.index m (expr_view x) (expr_view b.value)) v ∙ ap (λ (x : Expr). t.index m (expr_view d) (expr_view x)) u))

pub same_call : (l m : ℕ) (a : Box Expr Global) (d : Expr) (es : List Expr) → l ≡ m → a.value ≡ d → expr_view (record { line = l; what = what.Call a es }) ≡ t.call m (expr_view d) (exprs_view es)
same_call l m a d es i v = view_call l a es ∙ (ap (λ (k : ℕ). t.call k (expr_view a.value) (exprs_view es)) i ∙ ap (λ (x : Expr). t.call m (expr_view x) (exprs_view es)) v)

pub same_method : (l m : ℕ) (a : Box Expr Global) (d : Expr) (x : List ℕ) (es : List Expr) → l ≡ m → a.value ≡ d → expr_view (record { line = l; what = what.Method a x es }) ≡ t.method m (expr_view d) x (exprs_view es)
same_method l m a d x es i v = view_method l a x es ∙ (ap (λ (k : ℕ). t.method k (expr_view a.value) x (exprs_view es)) i ∙ ap (λ (y : Expr). t.method m (expr_view y) x (exprs_view es)) v)

pub same_table : (l m : ℕ) (fs : List Field) (es : List Expr) → m ≡ l → es ≡ record { line = m; what = what.Table fs } ∷ []
    → ◌≡◌ {A = Value an_args} (l, t.expr_and (t.table l (fields_view fs)) t.no_exprs) (l, exprs_view es)
same_table l m fs es i s =
    ap (λ (k : ℕ). (l, t.expr_and (t.table k (fields_view fs)) t.no_exprs)) (sym i) ∙ (ap (λ (y : t.Expr). (l, t.expr_and y t.no_exprs)) (sym (view_braces m fs)) ∙ ap (λ (ys : List Expr). (l, exprs_view ys)) (sym s))

-- ')' and what is behind it
pub closed : {bytes : List ℕ} {ts : List Token} {words : List Tok} (sp : Spelled bytes 1 ts words) {s : Sort} {p : Prog s} (at later : ℕ) (r : Answer (Value s)) → kind_at ts at ≡ Some kinds.CloseParen → later ≡ at + 1
    → Reads limits s p (drop later words) r → Reads limits s (expect w.close_paren free (λ s'. p)) (drop at words) r
closed {words = words} sp at later r is behind d = let h = key_stands sp at kinds.CloseParen tt is in expect_at h.is keeps_free (moved at later words behind d)

-- an empty list of arguments
pub no_args : {l : ℕ} {ts us : List Tok} {p : Prog an_args} (es : List Expr) → es ≡ [] → Reads limits an_args p ts (got (l, t.no_exprs) us) → Reads limits an_args p ts (got (l, exprs_view es) us)
no_args {l = l} {ts = ts} {us = us} {p = p} es e d = subst (λ (xs : List Expr). Reads limits an_args p ts (got (l, exprs_view xs) us)) (sym e) d

-- a call isn't too deep
pub call_low : (k : Place) (c : Counts) (a : t.Expr) (scope : Scope) (n : ℕ) → counts scope ≡ held (unfinished k a_call) c → n ≡ height a → scope.depth + 1 + n ≤ 200 → suc (held (unfinished k a_call) c nodes) + height a ≤ 200
call_low k c a scope n e h low = let same = ap (λ (j : Counts). j nodes) e in omega (arith, same, h, low)

-- what follows a part of a prefix expression, and that it is read as it is
abbrev pub after : Place → Counts → Expr → Prog an_expr
after k c e = program (suffixes k c (expr_view e))

abbrev pub put : Expr → t.Expr → t.Expr
put e whole = whole

-- what the token that opens a call's arguments makes unavoidable
abbrev pub call_needs : Place → Counts → t.Expr → ℕ
call_needs k c a = suc (held (unfinished k a_call) c nodes) + height a
