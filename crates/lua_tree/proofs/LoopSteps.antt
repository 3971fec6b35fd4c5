-- Steps of loops: `while`, `repeat` and `for`.
use Rattle.std.proofs.Common.{◌≡◌, ℕ, suc, ◌+◌, ◌<◌, ◌≤◌, max, List, [], ◌∷◌, Option, Some, None, Ok, Err, option_map, drop, length, refl, sym, ap, ◌∙◌, subst, rules, arith}
use Rattle.std.specs.Prelude.{slice_get}
use Rattle.lua_token.specs.declared.kind.Kind.TheVariants as kinds
use Rattle.lua_token.specs.declared.token.Token.{Token}
use Rattle.lua_tree.specs.declared.source.Source.{Source}
use Rattle.lua_tree.specs.declared.tree.Block.{Block}
use Rattle.lua_tree.specs.declared.tree.Expr.{Expr}
use Rattle.lua_tree.specs.declared.tree.ExprKind as kind
use Rattle.lua_tree.specs.declared.tree.Stat as stat
use Rattle.lua_tree.specs.declared.tree.StatKind as stat_kind
use Rattle.lua_tree.specs.declared.tree.StatKind.TheVariants as stats
use Rattle.lua_tree.specs.Tree as t
use Rattle.lua_tree.specs.Tree.{Bytes}
use Rattle.lua_tree.specs.Words as w
use Rattle.lua_tree.specs.Words.{Word, Key, key, Spot, Tok, tok, word_of, spot_of}
use Rattle.lua_tree.specs.Attributes.{declared, locals, nodes, Counts, height, most_block, most_exprs, most_stat}
use Rattle.lua_tree.specs.Reading.{Sort, Value, Rule, Prog, give, take, look, expect, expect_name, then, Fault, Needs, free, deep, many, Answer, got, stuck, unexpected, over, Reads, gives, program, an_expr, a_block, a_stat, some_names, stat as stat_rule, expr, exprs, block, in_loop, loop_block, for_rest, for_rest_of, num_for_rest, num_for_rest_of, more_names}
use Rattle.lua_tree.specs.Spelled.{Spelled, kind_at}
use Rattle.lua_tree.specs.View.{block_view, expr_view, exprs_view, num_for_of, stat_view}
use Rattle.lua_tree.specs.Answer.{limits, as_part, block_tall, counts, expr_tall, exprs_tall, line_of, NamedAt, stat_tall, step_tall}
use Rattle.lua_tree.proofs.Taking.{just, keeps_free, keeps_deep, keeps_many, passes_deep, look_at, take_at, passed_at, expect_at, name_at}
use Rattle.lua_tree.proofs.Marks.{key_stands, name_stands, no_key}
use Rattle.lua_tree.proofs.Others.{look_as}
use Rattle.lua_tree.proofs.Tall.{tall_gen_for, tall_num_for, tall_num_for_by, tall_repeat, tall_while}
use Rattle.lua_tree.proofs.Descent.{given, gave, next, moved}

-- ---- how loops are seen, and how high they are

pub view_while : (l : ℕ) (e : Expr) (b : Block) → stat_view (record { line = l; what = stats.While e b }) ≡ t.while_loop l (expr_view e) (block_view b)
view_while l e b = search (rules, kind.the_lemmas, stat.the_lemmas, stat_kind.the_lemmas)

pub view_repeat : (l : ℕ) (b : Block) (e : Expr) → stat_view (record { line = l; what = stats.Repeat b e }) ≡ t.repeat_loop l (block_view b) (expr_view e)
view_repeat l b e = search (rules, kind.the_lemmas, stat.the_lemmas, stat_kind.the_lemmas)

pub view_num_for : (l : ℕ) (x : Bytes) (a b : Expr) (o : Option Expr) (c : Block)
    → stat_view (record { line = l; what = stats.NumFor x a b o c }) ≡ num_for_of x (expr_view a) (expr_view b) (option_map expr_view o) (block_view c) l
view_num_for l x a b o c = search (rules, kind.the_lemmas, stat.the_lemmas, stat_kind.the_lemmas)

pub view_gen_for : (l : ℕ) (xs : List Bytes) (es : List Expr) (b : Block) → stat_view (record { line = l; what = stats.GenFor xs es b }) ≡ t.gen_for l xs (exprs_view es) (block_view b)
view_gen_for l xs es b = search (rules, kind.the_lemmas, stat.the_lemmas, stat_kind.the_lemmas)

pub tall_at_while : (l : ℕ) (e : Expr) (b : Block) → stat_tall (record { line = l; what = stats.While e b }) ≡ max (expr_tall e) (suc (block_tall b))
tall_at_while l e b = ap (most_stat nodes 0) (view_while l e b) ∙ tall_while l (expr_view e) (block_view b)

pub tall_at_repeat : (l : ℕ) (b : Block) (e : Expr) → stat_tall (record { line = l; what = stats.Repeat b e }) ≡ max (expr_tall e) (suc (block_tall b))
tall_at_repeat l b e = ap (most_stat nodes 0) (view_repeat l b e) ∙ tall_repeat l (block_view b) (expr_view e)

tall_step : (l : ℕ) (x : Bytes) (a b : Expr) (o : Option Expr) (c : Block)
    → most_stat nodes 0 (num_for_of x (expr_view a) (expr_view b) (option_map expr_view o) (block_view c) l) ≡ max (max (max (expr_tall a) (expr_tall b)) (step_tall o)) (suc (block_tall c))
tall_step l x a b None c = let h = tall_num_for l x (expr_view a) (expr_view b) (block_view c) in omega (arith, h)
tall_step l x a b (Some e) c = tall_num_for_by l x (expr_view a) (expr_view b) (expr_view e) (block_view c)

pub tall_at_num_for : (l : ℕ) (x : Bytes) (a b : Expr) (o : Option Expr) (c : Block)
    → stat_tall (record { line = l; what = stats.NumFor x a b o c }) ≡ max (max (max (expr_tall a) (expr_tall b)) (step_tall o)) (suc (block_tall c))
tall_at_num_for l x a b o c = ap (most_stat nodes 0) (view_num_for l x a b o c) ∙ tall_step l x a b o c

pub tall_at_gen_for : (l : ℕ) (xs : List Bytes) (es : List Expr) (b : Block) → stat_tall (record { line = l; what = stats.GenFor xs es b }) ≡ max (exprs_tall es) (suc (block_tall b))
tall_at_gen_for l xs es b = ap (most_stat nodes 0) (view_gen_for l xs es b) ∙ tall_gen_for l xs (exprs_view es) (block_view b)

-- ---- `while`

pub while_deep : {bytes : List ℕ} {ts : List Token} {words : List Tok} (sp : Spelled bytes 1 ts words) (c : Counts) (at : ℕ) → kind_at ts at ≡ Some kinds.While
    → 200 < suc (c nodes) → Reads limits a_stat (program (stat_rule c)) (drop at words) (stuck (over nodes) (drop at words))
while_deep sp c at is high = let h = key_stands sp at kinds.While tt is in look_at h.is (passed_at h.is (passes_deep _ high))

pub while_opens : {bytes : List ℕ} {ts : List Token} {words : List Tok} (sp : Spelled bytes 1 ts words) (c : Counts) (at : ℕ) (r : Answer t.Stat) → kind_at ts at ≡ Some kinds.While → suc (c nodes) ≤ 200
    → Reads limits a_stat (then (expr 0 c) (λ e. then (loop_block 0 c) (λ b. give (t.while_loop (line_of (slice_get ts at)) e b)))) (drop (at + 1) words) r
    → Reads limits a_stat (program (stat_rule c)) (drop at words) r
while_opens {bytes = bytes} {ts = ts} {words = words} sp c at r is low d =
    let h = key_stands sp at kinds.While tt is in
    look_at h.is (take_at h.is (keeps_deep _ low)
    (next at words (subst (λ (l : ℕ). Reads limits a_stat (then (expr 0 c) (λ e. then (loop_block 0 c) (λ b. give (t.while_loop l e b)))) (drop (at + 1) words) r) (sym h.line) d)))

-- ---- `repeat`

pub repeat_deep : {bytes : List ℕ} {ts : List Token} {words : List Tok} (sp : Spelled bytes 1 ts words) (c : Counts) (at : ℕ) → kind_at ts at ≡ Some kinds.Repeat
    → 200 < suc (c nodes) → Reads limits a_stat (program (stat_rule c)) (drop at words) (stuck (over nodes) (drop at words))
repeat_deep sp c at is high = let h = key_stands sp at kinds.Repeat tt is in look_at h.is (passed_at h.is (passes_deep _ high))

pub repeat_opens : {bytes : List ℕ} {ts : List Token} {words : List Tok} (sp : Spelled bytes 1 ts words) (c : Counts) (at : ℕ) (r : Answer t.Stat) → kind_at ts at ≡ Some kinds.Repeat → suc (c nodes) ≤ 200
    → Reads limits a_stat (then (block (in_loop 0 c)) (λ b. expect w.until free (λ s'. then (expr 0 c) (λ e. give (t.repeat_loop (line_of (slice_get ts at)) b e))))) (drop (at + 1) words) r
    → Reads limits a_stat (program (stat_rule c)) (drop at words) r
repeat_opens {bytes = bytes} {ts = ts} {words = words} sp c at r is low d =
    let h = key_stands sp at kinds.Repeat tt is in
    look_at h.is (take_at h.is (keeps_deep _ low)
    (next at words (subst (λ (l : ℕ). Reads limits a_stat (then (block (in_loop 0 c)) (λ b. expect w.until free (λ s'. then (expr 0 c) (λ e. give (t.repeat_loop l b e))))) (drop (at + 1) words) r) (sym h.line) d)))

-- a keyword or a symbol that is looked for, and what is behind it
pub expected : {bytes : List ℕ} {ts : List Token} {words : List Tok} (sp : Spelled bytes 1 ts words) {s : Sort} {p : Prog s} (at later : ℕ) (r : Answer (Value s)) → kind_at ts at ≡ Some kinds.Until → later ≡ at + 1
    → Reads limits s p (drop later words) r → Reads limits s (expect w.until free (λ s'. p)) (drop at words) r
expected {words = words} sp at later r is behind d = let h = key_stands sp at kinds.Until tt is in expect_at h.is keeps_free (moved at later words behind d)

pub expected_comma : {bytes : List ℕ} {ts : List Token} {words : List Tok} (sp : Spelled bytes 1 ts words) {s : Sort} {p : Prog s} (at later : ℕ) (r : Answer (Value s)) → kind_at ts at ≡ Some kinds.Comma → later ≡ at + 1
    → Reads limits s p (drop later words) r → Reads limits s (expect w.comma free (λ s'. p)) (drop at words) r
expected_comma {words = words} sp at later r is behind d = let h = key_stands sp at kinds.Comma tt is in expect_at h.is keeps_free (moved at later words behind d)

pub expected_in : {bytes : List ℕ} {ts : List Token} {words : List Tok} (sp : Spelled bytes 1 ts words) {s : Sort} {p : Prog s} (at later : ℕ) (r : Answer (Value s)) → kind_at ts at ≡ Some kinds.In → later ≡ at + 1
    → Reads limits s p (drop later words) r → Reads limits s (expect w.in_ free (λ s'. p)) (drop at words) r
expected_in {words = words} sp at later r is behind d = let h = key_stands sp at kinds.In tt is in expect_at h.is keeps_free (moved at later words behind d)

pub expected_do : {bytes : List ℕ} {ts : List Token} {words : List Tok} (sp : Spelled bytes 1 ts words) {s : Sort} {p : Prog s} (at later : ℕ) (r : Answer (Value s)) → kind_at ts at ≡ Some kinds.Do → later ≡ at + 1
    → Reads limits s p (drop later words) r → Reads limits s (expect w.do_ free (λ s'. p)) (drop at words) r
expected_do {words = words} sp at later r is behind d = let h = key_stands sp at kinds.Do tt is in expect_at h.is keeps_free (moved at later words behind d)

pub expected_end : {bytes : List ℕ} {ts : List Token} {words : List Tok} (sp : Spelled bytes 1 ts words) {s : Sort} {p : Prog s} (at later : ℕ) (r : Answer (Value s)) → kind_at ts at ≡ Some kinds.End → later ≡ at + 1
    → Reads limits s p (drop later words) r → Reads limits s (expect w.end_ free (λ s'. p)) (drop at words) r
expected_end {words = words} sp at later r is behind d = let h = key_stands sp at kinds.End tt is in expect_at h.is keeps_free (moved at later words behind d)

pub expected_assign : {bytes : List ℕ} {ts : List Token} {words : List Tok} (sp : Spelled bytes 1 ts words) {s : Sort} {p : Prog s} (at later : ℕ) (r : Answer (Value s)) → kind_at ts at ≡ Some kinds.Assign → later ≡ at + 1
    → Reads limits s p (drop later words) r → Reads limits s (expect w.assign free (λ s'. p)) (drop at words) r
expected_assign {words = words} sp at later r is behind d = let h = key_stands sp at kinds.Assign tt is in expect_at h.is keeps_free (moved at later words behind d)

-- ---- `for`

pub for_deep : {bytes : List ℕ} {ts : List Token} {words : List Tok} (sp : Spelled bytes 1 ts words) (c : Counts) (at : ℕ) → kind_at ts at ≡ Some kinds.For
    → 200 < suc (c nodes) → Reads limits a_stat (program (stat_rule c)) (drop at words) (stuck (over nodes) (drop at words))
for_deep sp c at is high = let h = key_stands sp at kinds.For tt is in look_at h.is (passed_at h.is (passes_deep _ high))

pub for_opens : {bytes : List ℕ} {ts : List Token} {words : List Tok} (sp : Spelled bytes 1 ts words) (c : Counts) (at : ℕ) (r : Answer t.Stat) → kind_at ts at ≡ Some kinds.For → suc (c nodes) ≤ 200
    → Reads limits a_stat (expect_name (many (suc (c locals))) (λ x s'. then (for_rest (line_of (slice_get ts at)) x c) give)) (drop (at + 1) words) r
    → Reads limits a_stat (program (stat_rule c)) (drop at words) r
for_opens {bytes = bytes} {ts = ts} {words = words} sp c at r is low d =
    let h = key_stands sp at kinds.For tt is in
    look_at h.is (take_at h.is (keeps_deep _ low)
    (next at words (subst (λ (l : ℕ). Reads limits a_stat (expect_name (many (suc (c locals))) (λ x s'. then (for_rest l x c) give)) (drop (at + 1) words) r) (sym h.line) d)))

-- the name that is looked for, of one more local
pub local_named : (source : Source) {words : List Tok} (sp : Spelled source.bytes.now 1 source.tokens.now words) {s : Sort} (f : Bytes → Prog s) (at later n : ℕ) (x : Bytes) (r : Answer (Value s)) → NamedAt source at x → n < 200 → later ≡ at + 1
    → Reads limits s (f x) (drop later words) r → Reads limits s (expect_name (many (suc n)) (λ y s'. f y)) (drop at words) r
local_named source {words = words} sp f at later n x r named few behind d =
    let h = name_stands sp at named.0 x named.1 named.2 named.3 in
    let room : suc n ≤ 200 = omega (arith, few) in
    name_at h.is (keeps_many (suc n) room) (moved at later words behind d)

for_rest_other : (l : ℕ) (x : Bytes) (c : Counts) (v : Word) (s : Spot) → (v ≡ key w.assign → ⊥)
    → for_rest_of l x c v s ≡ then (more_names (suc (c locals))) (λ xs. expect w.in_ free (λ s'. then (exprs c) (λ es. then (loop_block (length (x ∷ xs)) c) (λ b. give (t.gen_for l (x ∷ xs) es b)))))
for_rest_other l x c (key w.assign) s h = absurd (h refl)
for_rest_other l x c v s h = refl

num_for_rest_other : (l : ℕ) (x : Bytes) (a b : t.Expr) (c : Counts) (v : Word) (s : Spot) → (v ≡ key w.comma → ⊥)
    → num_for_rest_of l x a b c v s ≡ then (loop_block 1 c) (λ d. give (t.num_for l x a b d))
num_for_rest_other l x a b c (key w.comma) s h = absurd (h refl)
num_for_rest_other l x a b c v s h = refl

-- '=' behind its name
pub numeric_opens : {bytes : List ℕ} {ts : List Token} {words : List Tok} (sp : Spelled bytes 1 ts words) (l : ℕ) (x : Bytes) (c : Counts) (at : ℕ) (r : Answer t.Stat) → kind_at ts at ≡ Some kinds.Assign
    → Reads limits a_stat (then (expr 0 c) (λ a. expect w.comma free (λ s'. then (expr 0 c) (λ b. then (num_for_rest l x a b c) give)))) (drop (at + 1) words) r
    → Reads limits a_stat (program (for_rest l x c)) (drop at words) r
numeric_opens {words = words} sp l x c at r is d =
    let h = key_stands sp at kinds.Assign tt is in look_at h.is (take_at h.is keeps_free (next at words d))

pub generic_opens : {bytes : List ℕ} {ts : List Token} {words : List Tok} (sp : Spelled bytes 1 ts words) (l : ℕ) (x : Bytes) (c : Counts) (at : ℕ) (r : Answer t.Stat) → (kind_at ts at ≡ Some kinds.Assign → ⊥)
    → Reads limits a_stat (then (more_names (suc (c locals))) (λ xs. expect w.in_ free (λ s'. then (exprs c) (λ es. then (loop_block (length (x ∷ xs)) c) (λ b. give (t.gen_for l (x ∷ xs) es b)))))) (drop at words) r
    → Reads limits a_stat (program (for_rest l x c)) (drop at words) r
generic_opens sp l x c at r none d = look_as (for_rest_other l x c _ _ (no_key sp at kinds.Assign (key w.assign) refl none)) d

-- the step, if there is one
pub no_step : {bytes : List ℕ} {ts : List Token} {words : List Tok} (sp : Spelled bytes 1 ts words) (l : ℕ) (x : Bytes) (a b : t.Expr) (c : Counts) (at : ℕ) (r : Answer t.Block) → (kind_at ts at ≡ Some kinds.Comma → ⊥)
    → Reads limits a_block (program (loop_block 1 c)) (drop at words) r
    → Reads limits a_stat (program (num_for_rest l x a b c)) (drop at words) (as_part (λ body. t.num_for l x a b body) r)
no_step sp l x a b c at r none d = look_as (num_for_rest_other l x a b c _ _ (no_key sp at kinds.Comma (key w.comma) refl none)) (given {f = λ body. t.num_for l x a b body} r d)

pub one_step : {bytes : List ℕ} {ts : List Token} {words : List Tok} (sp : Spelled bytes 1 ts words) (l : ℕ) (x : Bytes) (a b : t.Expr) (c : Counts) (at : ℕ) (r : Answer t.Stat) → kind_at ts at ≡ Some kinds.Comma
    → Reads limits a_stat (then (expr 0 c) (λ e. then (loop_block 1 c) (λ d. give (t.num_for_by l x a b e d)))) (drop (at + 1) words) r
    → Reads limits a_stat (program (num_for_rest l x a b c)) (drop at words) r
one_step {words = words} sp l x a b c at r is d =
    let h = key_stands sp at kinds.Comma tt is in look_at h.is (take_at h.is keeps_free (next at words d))

-- a loop's rest, where its line is the same
pub at_line : {l m : ℕ} (x : Bytes) (c : Counts) {ts : List Tok} {r : Answer t.Stat} → m ≡ l → Reads limits a_stat (program (for_rest l x c)) ts r → Reads limits a_stat (program (for_rest m x c)) ts r
at_line x c {ts = ts} {r = r} e d = subst (λ (k : ℕ). Reads limits a_stat (program (for_rest k x c)) ts r) (sym e) d

-- names behind so many locals
pub at_more : {m n : ℕ} {ts : List Tok} {r : Answer (List Bytes)} → m ≡ n → Reads limits some_names (program (more_names m)) ts r → Reads limits some_names (program (more_names n)) ts r
at_more {ts = ts} {r = r} e d = subst (λ (k : ℕ). Reads limits some_names (program (more_names k)) ts r) e d

-- the block of a loop that has so many names
pub so_many : {m n : ℕ} {c : Counts} {ts : List Tok} {r : Answer t.Block} → m ≡ n → Reads limits a_block (program (loop_block m c)) ts r → Reads limits a_block (program (loop_block n c)) ts r
so_many {c = c} {ts = ts} {r = r} e d = subst (λ (k : ℕ). Reads limits a_block (program (loop_block k c)) ts r) e d

-- a `for` declares nothing behind itself
none_for : (l : ℕ) (x : Bytes) (a b : t.Expr) (o : Option t.Expr) (c : t.Block) → declared (num_for_of x a b o c l) ≡ 0
none_for l x a b None c = refl
none_for l x a b (Some e) c = refl

-- what follows a step, and the loop that it stands in
abbrev pub after_step : Counts → Option Expr → Prog a_block
after_step c o = program (loop_block 1 c)

abbrev pub put_step : ℕ → Bytes → t.Expr → t.Expr → Option Expr → t.Block → t.Stat
put_step l x a b o body = num_for_of x a b (option_map expr_view o) body l
