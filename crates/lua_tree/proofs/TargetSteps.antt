-- Steps of assignments and of declarations: names behind commas, targets, and what a statement that begins with a prefix
-- expression is.
use Rattle.std.proofs.Common.{◌≡◌, ℕ, suc, ◌+◌, ◌<◌, ◌≤◌, max, true, Option, None, List, [], ◌∷◌, ◌++◌, Result, Ok, Err, Some, drop, take, map, length, refl, sym, ap, ◌∙◌, subst, rules, arith}
use Rattle.std.specs.Prelude.{slice_get}
use Rattle.lua_token.specs.declared.kind.Kind.TheVariants as kinds
use Rattle.lua_token.specs.declared.token.Token.{Token}
use Rattle.lua_tree.specs.declared.source.Read.{Read}
use Rattle.lua_tree.specs.declared.source.Source.{Source}
use Rattle.lua_tree.specs.declared.stop.Stop.{Stop}
use Rattle.lua_tree.specs.declared.stop.Stop.TheVariants as stops
use Rattle.lua_tree.specs.declared.stop.Fault.TheVariants as faults
use Rattle.lua_tree.specs.declared.tree.Expr.{Expr}
use Rattle.lua_tree.specs.declared.tree.ExprKind as kind
use Rattle.lua_tree.specs.declared.tree.Stat as stat
use Rattle.lua_tree.specs.declared.tree.StatKind as stat_kind
use Rattle.lua_tree.specs.declared.tree.StatKind.TheVariants as stats
use Rattle.lua_tree.specs.Tree as t
use Rattle.lua_tree.specs.Tree.{Bytes}
use Rattle.lua_tree.specs.Words as w
use Rattle.lua_tree.specs.Words.{Word, Key, key, Spot, Tok, tok, word_of, spot_of}
use Rattle.lua_tree.specs.Attributes.{locals, nodes, Counts, height, most_exprs, most_stat, declared}
use Rattle.lua_tree.specs.Reading.{Sort, Value, Rule, Prog, give, expect, expect_name, then, free, many, Answer, got, stuck, unexpected, over, Reads, Fault, gives, fails, no_name, program, some_names, some_targets, some_exprs, a_stat, more_names, more_targets, exprs, init, prefix, leading, targeted, prefix_stat, prefix_stat_of, target_of, stat as stat_rule, stat_of, local_rest_of, Shape, shape, a_var, a_call, a_paren}
use Rattle.lua_tree.specs.Spelled.{Spelled, kind_at, kind_of}
use Rattle.lua_tree.specs.Begins.{begins_prefix, shape_view}
use Rattle.lua_tree.specs.declared.assignments.Shape as shape_type
use Rattle.lua_tree.specs.declared.assignments.Shape.TheVariants as shapes
use Rattle.lua_token.specs.declared.kind.Kind.{Kind}
use Rattle.std.proofs.lemmas.Bool.{false≢true}
use Rattle.lua_tree.proofs.Places.{here}
use Rattle.lua_tree.proofs.KindWords.{WordFor, word_for}
use Rattle.lua_tree.specs.View.{expr_view, exprs_view, stat_view}
use Rattle.lua_tree.specs.Answer.{limits, Answers, as_part, counts, line_of, NamedAt, NoLocalAt, expr_tall, exprs_tall, stat_tall}
use Rattle.lua_tree.proofs.Taking.{just, keeps_deep, keeps_free, keeps_many, passed_at, passes_deep, passes_many, look_at, take_at, name_at, name_passed}
use Rattle.lua_tree.proofs.Marks.{key_stands, name_stands, no_key, no_name_there}
use Rattle.lua_tree.proofs.Others.{look_as, init_other, more_names_other, more_targets_other}
use Rattle.lua_tree.proofs.Lists.{exprs_end, exprs_last, exprs_onto, exprs_tall_last, part_of_part}
use Rattle.lua_tree.proofs.Descent.{given, next}

-- ---- the name of a local

-- why there is none
pub no_local : (source : Source) {words : List Tok} (sp : Spelled source.bytes.now 1 source.tokens.now words) {T : Type 0} {s : Sort} (view : T → Value s) (f : Bytes → Spot → Prog s) (at n : ℕ) (stop : Stop)
    → NoLocalAt source at n stop → Answers view (expect_name (many (suc n)) f) at (Err stop) words
no_local source {words = words} sp {s = s} view f at n (stops.At faults.Unexpected place) h =
    subst (λ (k : ℕ). Reads limits s (expect_name (many (suc n)) f) (drop at words) (stuck unexpected (drop k words))) (sym h.0) (no_name (no_name_there sp at h.1))
no_local source {words = words} sp {s = s} view f at n (stops.At faults.TooManyLocals place) h =
    let x = h.1.0 in
    let u = h.1.1 in
    let stands = name_stands sp at u.0 x u.1 u.2 u.3 in
    subst (λ (k : ℕ). Reads limits s (expect_name (many (suc n)) f) (drop at words) (stuck (over locals) (drop k words))) (sym h.0) (name_passed stands.is (passes_many (suc n) (omega (arith, h.2))))
no_local source sp view f at n (stops.At faults.BreakOutside place) h = absurd h
no_local source sp view f at n (stops.At faults.VarargOutside place) h = absurd h
no_local source sp view f at n (stops.At faults.TooDeep place) h = absurd h
no_local source sp view f at n (stops.At faults.AmbiguousCall place) h = absurd h
no_local source sp view f at n stops.Memory h = tt

-- ---- names behind commas

nil_behind : {A : Type 0} (xs : List A) → xs ++ [] ≡ xs
nil_behind [] = refl
nil_behind (x ∷ xs) = ap (λ ys. x ∷ ys) (nil_behind xs)

joined : {A : Type 0} (xs : List A) (x : A) (rest : List A) → (xs ++ x ∷ []) ++ rest ≡ xs ++ x ∷ rest
joined [] x rest = refl
joined (y ∷ xs) x rest = ap (λ ys. y ∷ ys) (joined xs x rest)

-- one name is the first
pub first_front : (f : Bytes) (items : List Bytes) → items ≡ f ∷ [] → items ≡ f ∷ drop 1 items
first_front f items e = e ∙ ap (λ (ys : List Bytes). f ∷ drop 1 ys) (sym e)

-- the first of some names stays first
pub first_stays : (f x : Bytes) (old new : List Bytes) → old ≡ f ∷ drop 1 old → new ≡ old ++ x ∷ [] → new ≡ f ∷ drop 1 new
first_stays f x old new h e =
    let whole : new ≡ f ∷ (drop 1 old ++ x ∷ []) = e ∙ ap (λ (ys : List Bytes). ys ++ x ∷ []) h in
    whole ∙ ap (λ (ys : List Bytes). f ∷ drop 1 ys) (sym whole)

one_name_more : (f x : Bytes) (old new rest : List Bytes) → old ≡ f ∷ drop 1 old → new ≡ old ++ x ∷ [] → drop 1 old ++ x ∷ rest ≡ drop 1 new ++ rest
one_name_more f x old new rest h e =
    let whole : new ≡ f ∷ (drop 1 old ++ x ∷ []) = e ∙ ap (λ (ys : List Bytes). ys ++ x ∷ []) h in
    sym (joined (drop 1 old) x rest) ∙ ap (λ (ys : List Bytes). drop 1 ys ++ rest) (sym whole)

-- what the names that were read stand in front of
abbrev pub NamesSoFar : List Tok → ℕ → ℕ → ℕ → ℕ → List Bytes → Type 0
NamesSoFar words m start n end items = (r : Answer (List Bytes)) → Reads limits some_names (program (more_names n)) (drop end words) r
    → Reads limits some_names (program (more_names m)) (drop start words) (as_part (λ rest. drop 1 items ++ rest) r)

pub names_begin : (words : List Tok) (m start n end : ℕ) (f : Bytes) (items : List Bytes) → n ≡ m → end ≡ start → items ≡ f ∷ [] → NamesSoFar words m start n end items
names_begin words m start n end f items e h i (got a us) d =
    subst (λ (k : ℕ). Reads limits some_names (program (more_names k)) (drop start words) (got (drop 1 items ++ a) us)) e
    (subst (λ (k : ℕ). Reads limits some_names (program (more_names n)) (drop k words) (got (drop 1 items ++ a) us)) h
    (subst (λ (ys : List Bytes). Reads limits some_names (program (more_names n)) (drop end words) (got (drop 1 ys ++ a) us)) (sym i) d))
names_begin words m start n end f items e h i (stuck x us) d =
    subst (λ (k : ℕ). Reads limits some_names (program (more_names k)) (drop start words) (stuck x us)) e
    (subst (λ (k : ℕ). Reads limits some_names (program (more_names n)) (drop k words) (stuck x us)) h d)

-- a comma and one more name
pub one_more_name : (source : Source) {words : List Tok} (sp : Spelled source.bytes.now 1 source.tokens.now words) (m start n end n' end' : ℕ) (f x : Bytes) (items items' : List Bytes)
    → kind_at source.tokens.now end ≡ Some kinds.Comma → NamedAt source (end + 1) x → n < 200 → items ≡ f ∷ drop 1 items → items' ≡ items ++ x ∷ [] → n' ≡ n + 1 → end' ≡ end + 2
    → NamesSoFar words m start n end items → NamesSoFar words m start n' end' items'
one_more_name source {words = words} sp m start n end n' end' f x items items' comma named few first more e h so_far r d =
    let i = key_stands sp end kinds.Comma tt comma in
    let j = name_stands sp (end + 1) named.0 x named.1 named.2 named.3 in
    let up : n' ≡ suc n = omega (arith, e) in
    let along : end' ≡ suc (end + 1) = omega (arith, h) in
    let room : suc n ≤ 200 = omega (arith, few) in
    let d' = subst (λ (k : ℕ). Reads limits some_names (program (more_names k)) (drop (suc (end + 1)) words) r) up (subst (λ (k : ℕ). Reads limits some_names (program (more_names n')) (drop k words) r) along d) in
    subst (λ (o : Answer (List Bytes)). Reads limits some_names (program (more_names m)) (drop start words) o)
    (part_of_part (λ (rest : List Bytes). drop 1 items ++ rest) (λ (rest : List Bytes). x ∷ rest) r ∙ ap (λ (g : List Bytes → List Bytes). as_part g r) (λ i rest. one_name_more f x items items' rest first more i))
    (so_far (as_part (λ (rest : List Bytes). x ∷ rest) r) (look_at i.is (take_at i.is keeps_free (next end words (name_at j.is (keeps_many (suc n) room) (given {f = λ (rest : List Bytes). x ∷ rest} r d'))))))

-- no comma follows
pub names_end : {bytes : List ℕ} {ts : List Token} {words : List Tok} (sp : Spelled bytes 1 ts words) (m start n end : ℕ) (items node : List Bytes)
    → (kind_at ts end ≡ Some kinds.Comma → ⊥) → node ≡ items → NamesSoFar words m start n end items
    → Reads limits some_names (program (more_names m)) (drop start words) (got (drop 1 node) (drop end words))
names_end {words = words} sp m start n end items node none same so_far =
    subst (λ (ys : List Bytes). Reads limits some_names (program (more_names m)) (drop start words) (got ys (drop end words)))
    (nil_behind (drop 1 items) ∙ ap (λ (ys : List Bytes). drop 1 ys) (sym same))
    (so_far (got [] (drop end words)) (look_as (more_names_other n _ _ (no_key sp end kinds.Comma (key w.comma) refl none)) gives))

-- one more name isn't there
pub names_stop : {bytes : List ℕ} {ts : List Token} {words : List Tok} (sp : Spelled bytes 1 ts words) (m start n end : ℕ) (items : List Bytes)
    → kind_at ts end ≡ Some kinds.Comma → NamesSoFar words m start n end items
    → (x : Fault) (us : List Tok) → Reads limits some_names (expect_name (many (suc n)) (λ y s'. then (more_names (suc n)) (λ xs. give (y ∷ xs)))) (drop (end + 1) words) (stuck x us)
    → Reads limits some_names (program (more_names m)) (drop start words) (stuck x us)
names_stop {words = words} sp m start n end items comma so_far x us d =
    let i = key_stands sp end kinds.Comma tt comma in
    so_far (stuck x us) (look_at i.is (take_at i.is keeps_free (next end words d)))

-- ---- how these statements are seen

pub view_assign : (l : ℕ) (xs es : List Expr) → stat_view (record { line = l; what = stats.Assign xs es }) ≡ t.assign l (exprs_view xs) (exprs_view es)
view_assign l xs es = search (rules, kind.the_lemmas, stat.the_lemmas, stat_kind.the_lemmas)

pub view_local : (l : ℕ) (xs : List Bytes) (es : List Expr) → stat_view (record { line = l; what = stats.Local xs es }) ≡ t.local l xs (exprs_view es)
view_local l xs es = search (rules, kind.the_lemmas, stat.the_lemmas, stat_kind.the_lemmas)

pub view_call_stat : (l : ℕ) (e : Expr) → stat_view (record { line = l; what = stats.Call e }) ≡ t.call_stat l (expr_view e)
view_call_stat l e = search (rules, kind.the_lemmas, stat.the_lemmas, stat_kind.the_lemmas)

pub same_local : (l m : ℕ) (x : Bytes) (xs : List Bytes) (es : List Expr) → m ≡ l → xs ≡ x ∷ drop 1 xs → t.local l (x ∷ drop 1 xs) (exprs_view es) ≡ stat_view (record { line = m; what = stats.Local xs es })
same_local l m x xs es i f = ap (λ (ys : List Bytes). t.local l ys (exprs_view es)) (sym f) ∙ (ap (λ (k : ℕ). t.local k xs (exprs_view es)) (sym i) ∙ sym (view_local m xs es))

pub same_assign : (l : ℕ) (e : Expr) (items xs es : List Expr) → items ≡ e ∷ drop 1 items → xs ≡ items
    → t.assign l (t.expr_and (expr_view e) (exprs_onto (drop 1 items) t.no_exprs)) (exprs_view es) ≡ stat_view (record { line = l; what = stats.Assign xs es })
same_assign l e items xs es f i =
    ap (λ (ys : t.Exprs). t.assign l (t.expr_and (expr_view e) ys) (exprs_view es)) (exprs_end (drop 1 items))
    ∙ (ap (λ (ys : List Expr). t.assign l (exprs_view ys) (exprs_view es)) (sym f ∙ sym i) ∙ sym (view_assign l xs es))

-- ---- a statement that begins with a prefix expression

spot_line : {bytes : List ℕ} {ts : List Token} {words : List Tok} (sp : Spelled bytes 1 ts words) (at : ℕ) (u : Token) → slice_get ts at ≡ Some u → (spot_of (drop at words)).line ≡ line_of (slice_get ts at)
spot_line sp at u e = let h = here sp at u e in ap (λ (ws : List Tok). (spot_of ws).line) h.stands ∙ ap line_of (sym e)

stat_begins : (c : Counts) (s : Spot) (o : Option Kind) (v : Word) → WordFor o v → begins_prefix o ≡ true → stat_of c v s ≡ then (prefix leading c) (λ e. then (prefix_stat s.line c e) give)
stat_begins c s None v e h = absurd (false≢true h)
stat_begins c s (Some kinds.Name) v e h = ap (λ (v : Word). stat_of c v s) e.1
stat_begins c s (Some kinds.OpenParen) v e h = ap (λ (v : Word). stat_of c v s) e
stat_begins c s (Some k) v e h = absurd (false≢true h)

begun : (ts : List Token) (at : ℕ) → begins_prefix (kind_at ts at) ≡ true → (u : Token) × (slice_get ts at ≡ Some u)
begun ts at h = elim (slice_get ts at) as (λ o. begins_prefix (kind_of o) ≡ true → (u : Token) × (o ≡ Some u)) [
  | None ↦ λ none. absurd (false≢true none)
  | Some u ↦ λ some. (u, refl)
] h

pub stat_prefix : {bytes : List ℕ} {ts : List Token} {words : List Tok} (sp : Spelled bytes 1 ts words) (c : Counts) (at : ℕ) (r : Answer t.Stat) → begins_prefix (kind_at ts at) ≡ true
    → Reads limits a_stat (then (prefix leading c) (λ e. then (prefix_stat (line_of (slice_get ts at)) c e) give)) (drop at words) r
    → Reads limits a_stat (program (stat_rule c)) (drop at words) r
stat_prefix {ts = ts} {words = words} sp c at r is d =
    let u = begun ts at is in
    look_as (stat_begins c _ _ _ (word_for sp at) is)
    (subst (λ (l : ℕ). Reads limits a_stat (then (prefix leading c) (λ e. then (prefix_stat l c e) give)) (drop at words) r) (sym (spot_line sp at u.0 u.1)) d)

-- what follows it, where its line is the same
pub rest_at : {l m : ℕ} (c : Counts) (e : t.Expr) {ts : List Tok} {r : Answer t.Stat} → l ≡ m → Reads limits a_stat (program (prefix_stat l c e)) ts r → Reads limits a_stat (program (prefix_stat m c e)) ts r
rest_at c e {ts = ts} {r = r} i d = subst (λ (k : ℕ). Reads limits a_stat (program (prefix_stat k c e)) ts r) i d

-- it is a variable, a call, or neither
pub var_stat : (l : ℕ) (c : Counts) (e : t.Expr) {ts : List Tok} {r : Answer t.Stat} → shape e ≡ a_var
    → Reads limits a_stat (then (more_targets c) (λ es. expect w.assign free (λ s. then (exprs c) (λ vs. give (t.assign l (t.expr_and e es) vs))))) ts r → Reads limits a_stat (program (prefix_stat l c e)) ts r
var_stat l c e {ts = ts} {r = r} h d = subst (λ (k : Shape). Reads limits a_stat (prefix_stat_of l c e k) ts r) (sym h) d

pub call_stat : (l : ℕ) (c : Counts) (e : t.Expr) {ts : List Tok} → shape e ≡ a_call → Reads limits a_stat (program (prefix_stat l c e)) ts (got (t.call_stat l e) ts)
call_stat l c e {ts = ts} h = subst (λ (k : Shape). Reads limits a_stat (prefix_stat_of l c e k) ts (got (t.call_stat l e) ts)) (sym h) gives

pub other_stat : (l : ℕ) (c : Counts) (e : t.Expr) {ts : List Tok} → shape e ≡ a_paren → Reads limits a_stat (program (prefix_stat l c e)) ts (stuck unexpected ts)
other_stat l c e {ts = ts} h = subst (λ (k : Shape). Reads limits a_stat (prefix_stat_of l c e k) ts (stuck unexpected ts)) (sym h) fails

-- a target that is a variable, and what follows it; one that isn't
pub var_target : (c : Counts) (e : t.Expr) {ts : List Tok} (r : Answer t.Exprs) → shape e ≡ a_var → Reads limits some_targets (program (more_targets c)) ts r → Reads limits some_targets (target_of c e (shape e)) ts (as_part (λ rest. t.expr_and e rest) r)
var_target c e {ts = ts} r h d = subst (λ (k : Shape). Reads limits some_targets (target_of c e k) ts (as_part (λ rest. t.expr_and e rest) r)) (sym h) (given {f = λ rest. t.expr_and e rest} r d)

no_target : (c : Counts) (e : t.Expr) (k : Shape) {ts : List Tok} → (k ≡ a_var → ⊥) → Reads limits some_targets (target_of c e k) ts (stuck unexpected ts)
no_target c e a_var h = absurd (h refl)
no_target c e a_call h = fails
no_target c e a_paren h = fails

pub other_target : (c : Counts) (e : t.Expr) {ts : List Tok} → (shape e ≡ a_var → ⊥) → Reads limits some_targets (target_of c e (shape e)) ts (stuck unexpected ts)
other_target c e h = no_target c e (shape e) h

-- ---- targets behind commas

abbrev pub TargetsSoFar : List Tok → Counts → ℕ → ℕ → List Expr → Type 0
TargetsSoFar words c start end items = (r : Answer t.Exprs) → Reads limits some_targets (program (more_targets c)) (drop end words) r
    → Reads limits some_targets (program (more_targets c)) (drop start words) (as_part (exprs_onto (drop 1 items)) r)

pub targets_begin : (words : List Tok) (c : Counts) (at : ℕ) (e : Expr) (items : List Expr) → items ≡ e ∷ [] → TargetsSoFar words c at at items
targets_begin words c at e items i (got a us) d = subst (λ (ys : List Expr). Reads limits some_targets (program (more_targets c)) (drop at words) (got (exprs_onto (drop 1 ys) a) us)) (sym i) d
targets_begin words c at e items i (stuck x us) d = d

pub target_front : (e : Expr) (items : List Expr) → items ≡ e ∷ [] → items ≡ e ∷ drop 1 items
target_front e items i = i ∙ ap (λ (ys : List Expr). e ∷ drop 1 ys) (sym i)

pub target_stays : (e d : Expr) (old new : List Expr) → old ≡ e ∷ drop 1 old → new ≡ old ++ d ∷ [] → new ≡ e ∷ drop 1 new
target_stays e d old new h i =
    let whole : new ≡ e ∷ (drop 1 old ++ d ∷ []) = i ∙ ap (λ (ys : List Expr). ys ++ d ∷ []) h in
    whole ∙ ap (λ (ys : List Expr). e ∷ drop 1 ys) (sym whole)

one_target_more : (e d : Expr) (old new : List Expr) (rest : t.Exprs) → old ≡ e ∷ drop 1 old → new ≡ old ++ d ∷ [] → exprs_onto (drop 1 old) (t.expr_and (expr_view d) rest) ≡ exprs_onto (drop 1 new) rest
one_target_more e d old new rest h i =
    let whole : new ≡ e ∷ (drop 1 old ++ d ∷ []) = i ∙ ap (λ (ys : List Expr). ys ++ d ∷ []) h in
    sym (exprs_last (drop 1 old) d rest) ∙ ap (λ (ys : List Expr). exprs_onto (drop 1 ys) rest) (sym whole)

-- a comma, and what is read behind it
pub target_reads : {bytes : List ℕ} {ts : List Token} {words : List Tok} (sp : Spelled bytes 1 ts words) (c : Counts) (end : ℕ) (r : Answer t.Exprs) → kind_at ts end ≡ Some kinds.Comma
    → Reads limits some_targets (then (prefix targeted c) (λ e. target_of c e (shape e))) (drop (end + 1) words) r → Reads limits some_targets (program (more_targets c)) (drop end words) r
target_reads {words = words} sp c end r is d = let h = key_stands sp end kinds.Comma tt is in look_at h.is (take_at h.is keeps_free (next end words d))

pub one_more_target : {bytes : List ℕ} {ts : List Token} {words : List Tok} (sp : Spelled bytes 1 ts words) (c : Counts) (start end later : ℕ) (e d : Expr) (items items' : List Expr)
    → kind_at ts end ≡ Some kinds.Comma → items ≡ e ∷ drop 1 items → items' ≡ items ++ d ∷ []
    → ((r : Answer t.Exprs) → Reads limits some_targets (program (more_targets c)) (drop later words) r → Reads limits some_targets (then (prefix targeted c) (λ e. target_of c e (shape e))) (drop (end + 1) words) (as_part (λ rest. t.expr_and (expr_view d) rest) r))
    → TargetsSoFar words c start end items → TargetsSoFar words c start later items'
one_more_target {words = words} sp c start end later e d items items' comma front more part so_far r k =
    subst (λ (o : Answer t.Exprs). Reads limits some_targets (program (more_targets c)) (drop start words) o)
    (part_of_part (exprs_onto (drop 1 items)) (λ (rest : t.Exprs). t.expr_and (expr_view d) rest) r ∙ ap (λ (g : t.Exprs → t.Exprs). as_part g r) (λ i rest. one_target_more e d items items' rest front more i))
    (so_far (as_part (λ (rest : t.Exprs). t.expr_and (expr_view d) rest) r) (target_reads sp c end _ comma (part r k)))

-- no comma follows
pub targets_end : {bytes : List ℕ} {ts : List Token} {words : List Tok} (sp : Spelled bytes 1 ts words) (c : Counts) (start end : ℕ) (items : List Expr) → (kind_at ts end ≡ Some kinds.Comma → ⊥) → TargetsSoFar words c start end items
    → Reads limits some_targets (program (more_targets c)) (drop start words) (got (exprs_onto (drop 1 items) t.no_exprs) (drop end words))
targets_end {words = words} sp c start end items none so_far =
    so_far (got t.no_exprs (drop end words)) (look_as (more_targets_other c _ _ (no_key sp end kinds.Comma (key w.comma) refl none)) gives)

-- ---- `local`

local_rest_other : (l : ℕ) (c : Counts) (v : Word) (s : Spot) → (v ≡ key w.function_ → ⊥)
    → local_rest_of l c v s ≡ expect_name (many (suc (c locals))) (λ x s'. then (more_names (suc (c locals))) (λ xs. then (init c) (λ es. give (t.local l (x ∷ xs) es))))
local_rest_other l c (key w.function_) s h = absurd (h refl)
local_rest_other l c v s h = refl

pub local_opens : {bytes : List ℕ} {ts : List Token} {words : List Tok} (sp : Spelled bytes 1 ts words) (c : Counts) (at : ℕ) (r : Answer t.Stat) → kind_at ts at ≡ Some kinds.Local → (kind_at ts (at + 1) ≡ Some kinds.Function → ⊥)
    → Reads limits a_stat (expect_name (many (suc (c locals))) (λ x s'. then (more_names (suc (c locals))) (λ xs. then (init c) (λ es. give (t.local (line_of (slice_get ts at)) (x ∷ xs) es))))) (drop (at + 1) words) r
    → Reads limits a_stat (program (stat_rule c)) (drop at words) r
local_opens {ts = ts} {words = words} sp c at r is none d =
    let h = key_stands sp at kinds.Local tt is in
    look_at h.is (take_at h.is keeps_free (next at words (just (look_as (local_rest_other _ c _ _ (no_key sp (at + 1) kinds.Function (key w.function_) refl none))
    (subst (λ (l : ℕ). Reads limits a_stat (expect_name (many (suc (c locals))) (λ x s'. then (more_names (suc (c locals))) (λ xs. then (init c) (λ es. give (t.local l (x ∷ xs) es))))) (drop (at + 1) words) r) (sym h.line) d)))))

-- ---- values

pub init_deep : {bytes : List ℕ} {ts : List Token} {words : List Tok} (sp : Spelled bytes 1 ts words) (c : Counts) (at : ℕ) → kind_at ts at ≡ Some kinds.Assign → 200 < suc (c nodes) → Reads limits some_exprs (program (init c)) (drop at words) (stuck (over nodes) (drop at words))
init_deep sp c at is high = let h = key_stands sp at kinds.Assign tt is in look_at h.is (passed_at h.is (passes_deep _ high))

pub init_opens : {bytes : List ℕ} {ts : List Token} {words : List Tok} (sp : Spelled bytes 1 ts words) (c : Counts) (at : ℕ) (r : Answer t.Exprs) → kind_at ts at ≡ Some kinds.Assign → suc (c nodes) ≤ 200
    → Reads limits some_exprs (program (exprs c)) (drop (at + 1) words) r → Reads limits some_exprs (program (init c)) (drop at words) r
init_opens {words = words} sp c at r is low d = let h = key_stands sp at kinds.Assign tt is in look_at h.is (take_at h.is (keeps_deep _ low) (next at words (just d)))

pub no_init : {bytes : List ℕ} {ts : List Token} {words : List Tok} (sp : Spelled bytes 1 ts words) (c : Counts) (at : ℕ) (es : List Expr) → (kind_at ts at ≡ Some kinds.Assign → ⊥) → es ≡ []
    → Reads limits some_exprs (program (init c)) (drop at words) (got (exprs_view es) (drop at words))
no_init {words = words} sp c at es none e =
    subst (λ (xs : List Expr). Reads limits some_exprs (program (init c)) (drop at words) (got (exprs_view xs) (drop at words))) (sym e)
    (look_as (init_other c _ _ (no_key sp at kinds.Assign (key w.assign) refl none)) gives)

-- a call as a statement
pub call_value : (c : Counts) (l : ℕ) (e : Expr) {ts : List Tok} → shape (expr_view e) ≡ a_call → Reads limits a_stat (program (prefix_stat l c (expr_view e))) ts (got (stat_view (record { line = l; what = stats.Call e })) ts)
call_value c l e {ts = ts} h = subst (λ (st : t.Stat). Reads limits a_stat (program (prefix_stat l c (expr_view e))) ts (got st ts)) (sym (view_call_stat l e)) (call_stat l c (expr_view e) h)

-- what follows a target, and the targets that it stands before
abbrev pub after_target : Counts → Expr → Prog some_targets
after_target c e = program (more_targets c)

abbrev pub put_target : Expr → t.Exprs → t.Exprs
put_target e rest = t.expr_and (expr_view e) rest

-- only a variable is seen as one
pub only_variable : (s : shape_type.Shape) → shape_view s ≡ a_var → s ≡ shapes.Variable
only_variable shapes.Variable e = refl
only_variable shapes.Call e = cc
only_variable shapes.Other e = cc
