-- Steps of functions: their bodies, and what stands before them.
use Rattle.std.proofs.Common.{◌≡◌, ℕ, suc, ◌+◌, ◌<◌, ◌≤◌, max, Bool, true, false, List, [], ◌∷◌, ◌++◌, Result, Ok, Err, Some, drop, take, length, refl, sym, ap, ◌∙◌, subst, arith, rules}
use Rattle.std.specs.Prelude.{slice_get}
use Rattle.lua_token.specs.declared.kind.Kind.TheVariants as kinds
use Rattle.lua_token.specs.declared.token.Token.{Token}
use Rattle.lua_tree.specs.declared.functions.FunctionName.{FunctionName}
use Rattle.lua_tree.specs.declared.functions.Parameters.{Parameters}
use Rattle.lua_tree.specs.declared.source.Read.{Read}
use Rattle.lua_tree.specs.declared.stop.Stop.{Stop}
use Rattle.lua_tree.specs.declared.stop.Stop.TheVariants as stop
use Rattle.lua_tree.specs.declared.tree.Block.{Block}
use Rattle.lua_tree.specs.declared.tree.Expr.{Expr}
use Rattle.lua_tree.specs.declared.tree.Expr as expr_of
use Rattle.lua_tree.specs.declared.tree.ExprKind as kind
use Rattle.lua_tree.specs.declared.tree.ExprKind.TheVariants as what
use Rattle.lua_tree.specs.declared.tree.ExprKind.TheViews.{roll-Func}
use Rattle.lua_tree.specs.declared.tree.Func.{Func}
use Rattle.lua_tree.specs.declared.tree.Func as func_of
use Rattle.lua_tree.specs.declared.tree.Stat as stat
use Rattle.lua_tree.specs.declared.tree.StatKind as stat_kind
use Rattle.lua_tree.specs.declared.tree.StatKind.TheVariants as stats
use Rattle.lua_tree.specs.Tree as t
use Rattle.lua_tree.specs.Tree.{Bytes}
use Rattle.lua_tree.specs.Words as w
use Rattle.lua_tree.specs.Words.{Word, Key, key, Spot, Tok, tok, word_of, spot_of}
use Rattle.lua_tree.specs.Attributes.{declared, locals, nodes, Counts, height, most_func, most_block, most_stat}
use Rattle.lua_tree.specs.Reading.{Sort, Value, Rule, Prog, give, expect, expect_name, then, free, many, Fault, Answer, got, stuck, over, Reads, gives, program, a_func, a_stat, a_target, first, stat as stat_rule, stat_of, func_body, func_name, params, some_params, down, local_rest_of}
use Rattle.lua_tree.specs.Spelled.{Spelled, kind_at}
use Rattle.lua_tree.specs.Begins.{hidden_of}
use Rattle.lua_tree.specs.Heads.{FunctionNameAt, ParametersAt, named_then}
use Rattle.lua_tree.specs.View.{block_view, expr_view, func_view, stat_view}
use Rattle.lua_tree.specs.Answer.{limits, Answers, block_tall, expr_tall, fault_of, func_tall, line_of, MemberAt, stat_tall}
use Rattle.lua_tree.proofs.Taking.{just, keeps_free, keeps_deep, passes_deep, look_at, take_at, passed_at, expect_at}
use Rattle.lua_tree.proofs.Marks.{key_stands}
use Rattle.lua_tree.proofs.Tall.{tall_func, tall_function, tall_index}
use Rattle.lua_tree.specs.declared.source.Source.{Source}
use Rattle.lua_tree.proofs.Descent.{next, moved}

-- ---- how functions are seen, and how high they are

pub view_function : (l : ℕ) (f : Func) → expr_view (record { line = l; what = what.Function f }) ≡ t.function l (func_view f)
view_function l f = search (rules, kind.the_lemmas, expr_of.the_lemmas)

pub view_func : (l : ℕ) (xs : List Bytes) (d : Bool) (b : Block) → func_view (roll-Func (record { line = l; params = xs; dots = d; body = b })) ≡ t.func l xs d (block_view b)
view_func l xs d b = search (rules, kind.the_lemmas, expr_of.the_lemmas, func_of.the_lemmas)

pub view_function_stat : (l : ℕ) (e : Expr) (f : Func) → stat_view (record { line = l; what = stats.Function e f }) ≡ t.function_stat l (expr_view e) (func_view f)
view_function_stat l e f = search (rules, kind.the_lemmas, stat.the_lemmas, stat_kind.the_lemmas)

pub view_local_function : (l : ℕ) (x : Bytes) (f : Func) → stat_view (record { line = l; what = stats.LocalFunction x f }) ≡ t.local_function l x (func_view f)
view_local_function l x f = search (rules, kind.the_lemmas, stat.the_lemmas, stat_kind.the_lemmas)

pub high_function : (l n : ℕ) (f : Func) → n ≡ func_tall f → 1 + n ≡ expr_tall (record { line = l; what = what.Function f })
high_function l n f h = let x = ap height (view_function l f) in let y = tall_function l (func_view f) in omega (arith, x, y, h)

pub high_func : (l n : ℕ) (xs : List Bytes) (d : Bool) (b : Block) → n ≡ block_tall b → 1 + n ≡ func_tall (roll-Func (record { line = l; params = xs; dots = d; body = b }))
high_func l n xs d b h = let x = ap (most_func nodes 0) (view_func l xs d b) in let y = tall_func l xs d (block_view b) in omega (arith, x, y, h)

pub tall_at_function : (l : ℕ) (e : Expr) (f : Func) → stat_tall (record { line = l; what = stats.Function e f }) ≡ max (expr_tall e) (func_tall f)
tall_at_function l e f = ap (most_stat nodes 0) (view_function_stat l e f)

-- ---- bodies

-- a body of another line and at other counts, which are the same
pub body_at : {l m : ℕ} (hidden : List Bytes) {c d : Counts} (at : ℕ) (words : List Tok) (result : Result (Read Func) Stop) → l ≡ m → c ≡ d
    → Answers func_view (program (func_body l hidden c)) at result words → Answers func_view (program (func_body m hidden d)) at result words
body_at {l = l} {m = m} hidden {c = c} {d = d} at words result i e h =
    subst (λ (k : ℕ). Answers func_view (program (func_body k hidden d)) at result words) i (subst (λ (x : Counts). Answers func_view (program (func_body l hidden x)) at result words) e h)

pub params_stopped : (method : Bool) (at : ℕ) (words : List Tok) (why : Stop) → ParametersAt method at (Err why) words → Answers (λ (y : List Bytes × Bool). y) (program (params (length (hidden_of method)))) at (Err why) words
params_stopped method at words (stop.At f place) d = d
params_stopped method at words stop.Memory d = tt

pub body_opens : {bytes : List ℕ} {ts : List Token} {words : List Tok} (sp : Spelled bytes 1 ts words) {s : Sort} {p : Prog s} (at later : ℕ) (r : Answer (Value s)) → kind_at ts at ≡ Some kinds.OpenParen → later ≡ at + 1
    → Reads limits s p (drop later words) r → Reads limits s (expect w.open_paren free (λ s'. p)) (drop at words) r
body_opens {words = words} sp at later r is behind d = let h = key_stands sp at kinds.OpenParen tt is in expect_at h.is keeps_free (moved at later words behind d)

pub body_ends : {bytes : List ℕ} {ts : List Token} {words : List Tok} (sp : Spelled bytes 1 ts words) {s : Sort} {p : Prog s} (at later : ℕ) (r : Answer (Value s)) → kind_at ts at ≡ Some kinds.End → later ≡ at + 1
    → Reads limits s p (drop later words) r → Reads limits s (expect w.end_ free (λ s'. p)) (drop at words) r
body_ends {words = words} sp at later r is behind d = let h = key_stands sp at kinds.End tt is in expect_at h.is keeps_free (moved at later words behind d)

-- the function that was read
pub func_is : (l : ℕ) (names items xs : List Bytes) (d : Bool) (b : Block) → items ≡ names → xs ≡ items → t.func l names d (block_view b) ≡ func_view (roll-Func (record { line = l; params = xs; dots = d; body = b }))
func_is l names items xs d b i e = ap (λ (ys : List Bytes). t.func l ys d (block_view b)) (sym (e ∙ i)) ∙ sym (view_func l xs d b)

-- ---- names of functions

pub name_stopped : (s : Sort) (c : Counts) (f : Value a_target → Prog s) (at : ℕ) (words : List Tok) (why : Stop) → FunctionNameAt c at (Err why) words → Answers (λ (y : Value s). y) (named_then s c f) at (Err why) words
name_stopped s c f at words (stop.At x place) d = d s f
name_stopped s c f at words stop.Memory d = tt

-- ---- `local function`

pub local_function_deep : {bytes : List ℕ} {ts : List Token} {words : List Tok} (sp : Spelled bytes 1 ts words) (c : Counts) (at : ℕ) → kind_at ts at ≡ Some kinds.Local → kind_at ts (at + 1) ≡ Some kinds.Function
    → 200 < suc (c nodes) → Reads limits a_stat (program (stat_rule c)) (drop at words) (stuck (over nodes) (drop (at + 1) words))
local_function_deep {words = words} sp c at is function high =
    let h = key_stands sp at kinds.Local tt is in
    let i = key_stands sp (at + 1) kinds.Function tt function in
    look_at h.is (take_at h.is keeps_free (next at words (just (look_at i.is (passed_at i.is (passes_deep _ high))))))

pub local_function_opens : {bytes : List ℕ} {ts : List Token} {words : List Tok} (sp : Spelled bytes 1 ts words) (c : Counts) (at : ℕ) (r : Answer t.Stat) → kind_at ts at ≡ Some kinds.Local → kind_at ts (at + 1) ≡ Some kinds.Function
    → suc (c nodes) ≤ 200
    → Reads limits a_stat (expect_name (many (suc (c locals))) (λ x s'. then (func_body (line_of (slice_get ts (at + 1))) [] c) (λ f. give (t.local_function (line_of (slice_get ts at)) x f)))) (drop (at + 2) words) r
    → Reads limits a_stat (program (stat_rule c)) (drop at words) r
local_function_opens {ts = ts} {words = words} sp c at r is function low d =
    let h = key_stands sp at kinds.Local tt is in
    let i = key_stands sp (at + 1) kinds.Function tt function in
    let place : at + 2 ≡ at + 1 + 1 = omega arith in
    look_at h.is (take_at h.is keeps_free (next at words (just (look_at i.is (take_at i.is (keeps_deep _ low) (moved (at + 1) (at + 2) words place
    (subst (λ (l : ℕ). Reads limits a_stat (expect_name (many (suc (c locals))) (λ x s'. then (func_body i.spot.line [] c) (λ f. give (t.local_function l x f)))) (drop (at + 2) words) r) (sym h.line)
    (subst (λ (l : ℕ). Reads limits a_stat (expect_name (many (suc (c locals))) (λ x s'. then (func_body l [] c) (λ f. give (t.local_function (line_of (slice_get ts at)) x f)))) (drop (at + 2) words) r) (sym i.line) d))))))))

-- what follows the name of a function statement
abbrev pub statement_rest : ℕ → Counts → Value a_target → Prog a_stat
statement_rest l c n = then (func_body l n.1 c) (λ f. give (t.function_stat l n.0 f))

-- an index in a name isn't too deep
pub member_low : (source : Source) (base : Read Expr) (e : Expr) (depth n : ℕ) → MemberAt source base e → n ≡ expr_tall e → depth + n ≤ 200 → suc depth + expr_tall base.node ≤ 200
member_low source base e depth n m high low =
    let x = ap height m.3 in
    let y = tall_index (line_of (slice_get source.tokens.now base.at)) (expr_view base.node) (t.str m.0.line (take m.0.length (drop m.0.start source.bytes.now))) in
    omega (arith, x, y, high, low)
