-- Steps of the fields of a table, by how they begin.
use Rattle.std.proofs.Common.{◌≡◌, ℕ, suc, ◌+◌, ◌<◌, ◌≤◌, max, Bool, true, false, List, [], ◌∷◌, Option, Some, None, Result, Ok, Err, drop, take, refl, sym, ap, ◌∙◌, subst, arith, rules}
use Rattle.std.specs.Prelude.{slice_get}
use Rattle.std.proofs.lemmas.Bool.{false≢true}
use Rattle.lua_token.specs.declared.kind.Kind.{Kind}
use Rattle.lua_token.specs.declared.kind.Kind.TheVariants as kinds
use Rattle.lua_token.specs.declared.token.Token.{Token}
use Rattle.lua_tree.specs.declared.source.Read.{Read}
use Rattle.lua_tree.specs.declared.source.Source.{Source}
use Rattle.lua_tree.specs.declared.stop.Stop.{Stop}
use Rattle.lua_tree.specs.declared.stop.Stop.TheVariants as stops
use Rattle.lua_tree.specs.declared.stop.Fault.TheVariants as faults
use Rattle.lua_tree.specs.declared.tree.Expr.{Expr}
use Rattle.lua_tree.specs.declared.tree.ExprKind.TheVariants as what
use Rattle.lua_tree.specs.declared.tree.Field.{Field}
use Rattle.lua_tree.specs.declared.tree.Field.TheVariants as field_kinds
use Rattle.lua_tree.specs.Tree as t
use Rattle.lua_tree.specs.Tree.{Bytes}
use Rattle.lua_tree.specs.Words as w
use Rattle.lua_tree.specs.Words.{Word, Key, key, Spot, Tok, tok, word_of, spot_of}
use Rattle.lua_tree.specs.Attributes.{nodes, Counts, height, most_fields}
use Rattle.lua_tree.specs.Reading.{Sort, Value, Prog, give, expect, then, free, Answer, got, stuck, unexpected, over, Fault, Reads, gives, program, some_fields, expr, suffixes, in_expr, more, fields, fields_of, more_fields, name_field, name_field_of}
use Rattle.lua_tree.specs.Spelled.{Spelled, kind_at}
use Rattle.lua_tree.specs.Begins.{FieldEnd}
use Rattle.lua_tree.specs.View.{expr_view, field_view, fields_view}
use Rattle.lua_tree.specs.Answer.{limits, Answers, as_part, fault_of, field_tall, expr_tall, line_of, NamedAt, NameAt, NoNameAt}
use Rattle.lua_tree.proofs.Taking.{just, keeps_free, keeps_deep, passes_deep, look_at, take_at, passed_at, expect_at}
use Rattle.lua_tree.proofs.Marks.{key_stands, kind_token, name_stands, no_key}
use Rattle.lua_tree.proofs.Others.{look_as, name_field_other}
use Rattle.lua_tree.proofs.KindWords.{WordFor, word_for}
use Rattle.lua_tree.proofs.Descent.{given, next, moved}
use Rattle.lua_tree.proofs.SuffixSteps.{view_string}
use Rattle.lua_tree.proofs.TableSteps.{high_keyed, view_item, view_keyed}

-- what follows a field, and the fields that it stands before
abbrev pub after_field : Counts → Field → Prog some_fields
after_field c f = program (more_fields c)

abbrev pub put_field : Field → t.Fields → t.Fields
put_field f rest = field_view f rest

-- no field ends: why the fields stop
pub end_stopped : (source : Source) (c : Counts) (at : ℕ) (words : List Tok) (stop : Stop) → FieldEnd source c at (Err stop) words → Answers (λ (y : t.Fields). y) (program (more_fields c)) at (Err stop) words
end_stopped source c at words (stops.At f place) d = d
end_stopped source c at words stops.Memory d = tt

-- the fields in front of '}'
pub braces_close : {bytes : List ℕ} {ts : List Token} {words : List Tok} (sp : Spelled bytes 1 ts words) (c : Counts) (at : ℕ) → kind_at ts at ≡ Some kinds.CloseBrace
    → Reads limits some_fields (program (fields c)) (drop at words) (got t.no_fields (drop (at + 1) words))
braces_close {words = words} sp c at is =
    let h = key_stands sp at kinds.CloseBrace tt is in
    let same : at + 1 ≡ suc at = omega arith in
    look_at h.is (take_at h.is keeps_free (subst (λ (k : ℕ). Reads limits some_fields (give t.no_fields) (drop (suc at) words) (got t.no_fields (drop k words))) (sym same) gives))

-- ---- a value alone

-- a field that begins with neither '[' nor a name
abbrev pub is_plain : Option Kind → Bool
is_plain (Some kinds.OpenBracket) = false
is_plain (Some kinds.Name) = false
is_plain o = true

plain_begins : (c : Counts) (s : Spot) (o : Option Kind) (v : Word) → WordFor o v → is_plain o ≡ true → (o ≡ Some kinds.CloseBrace → ⊥)
    → fields_of c v s ≡ then (expr 0 c) (λ e. then (more_fields c) (λ fs. give (t.item_and e fs)))
plain_begins c s None v e h n = ap (λ (v : Word). fields_of c v s) e
plain_begins c s (Some kinds.OpenBracket) v e h n = absurd (false≢true h)
plain_begins c s (Some kinds.Name) v e h n = absurd (false≢true h)
plain_begins c s (Some kinds.CloseBrace) v e h n = absurd (n refl)
plain_begins c s (Some (kinds.Number z)) v e h n = ap (λ (v : Word). fields_of c v s) e
plain_begins c s (Some kinds.Str) v e h n = ap (λ (v : Word). fields_of c v s) e.1
plain_begins c s (Some j) v e h n = ap (λ (v : Word). fields_of c v s) e

pub plain_opens : {bytes : List ℕ} {ts : List Token} {words : List Tok} (sp : Spelled bytes 1 ts words) (c : Counts) (at : ℕ) (r : Answer t.Fields) → is_plain (kind_at ts at) ≡ true → (kind_at ts at ≡ Some kinds.CloseBrace → ⊥)
    → Reads limits some_fields (then (expr 0 c) (λ e. then (more_fields c) (λ fs. give (t.item_and e fs)))) (drop at words) r
    → Reads limits some_fields (program (fields c)) (drop at words) r
plain_opens sp c at r is none d = look_as (plain_begins c _ _ _ (word_for sp at) is none) d

-- the fields behind a value
pub item_closes : (words : List Tok) (c : Counts) (at later : ℕ) (e : Expr) (f : Field) (o : Answer t.Fields) → f ≡ field_kinds.Item e → later ≡ at → Reads limits some_fields (program (more_fields c)) (drop later words) o
    → Reads limits some_fields (then (more_fields c) (λ fs. give (t.item_and (expr_view e) fs))) (drop at words) (as_part (λ rest. field_view f rest) o)
item_closes words c at later e f o is same d =
    let view : (λ (rest : t.Fields). t.item_and (expr_view e) rest) ≡ (λ (rest : t.Fields). field_view f rest) = λ i rest. (sym (view_item e rest) ∙ ap (λ (x : Field). field_view x rest) (sym is)) i in
    subst (λ (g : t.Fields → t.Fields). Reads limits some_fields (then (more_fields c) (λ fs. give (t.item_and (expr_view e) fs))) (drop at words) (as_part g o)) view
    (given {f = λ rest. t.item_and (expr_view e) rest} o (subst (λ (k : ℕ). Reads limits some_fields (program (more_fields c)) (drop k words) o) same d))

-- ---- '[' exp ']' '=' exp

pub keyed_deep : {bytes : List ℕ} {ts : List Token} {words : List Tok} (sp : Spelled bytes 1 ts words) (c : Counts) (at : ℕ) → kind_at ts at ≡ Some kinds.OpenBracket → 200 < suc (c nodes)
    → Reads limits some_fields (program (fields c)) (drop at words) (stuck (over nodes) (drop at words))
keyed_deep sp c at is high = let h = key_stands sp at kinds.OpenBracket tt is in look_at h.is (passed_at h.is (passes_deep _ high))

pub keyed_opens : {bytes : List ℕ} {ts : List Token} {words : List Tok} (sp : Spelled bytes 1 ts words) (c : Counts) (at : ℕ) (r : Answer t.Fields) → kind_at ts at ≡ Some kinds.OpenBracket → suc (c nodes) ≤ 200
    → Reads limits some_fields (then (expr 0 c) (λ k. expect w.close_bracket free (λ s'. expect w.assign free (λ s2. then (expr 0 c) (λ e. then (more_fields c) (λ fs. give (t.keyed_and k e fs))))))) (drop (at + 1) words) r
    → Reads limits some_fields (program (fields c)) (drop at words) r
keyed_opens {words = words} sp c at r is low d = let h = key_stands sp at kinds.OpenBracket tt is in look_at h.is (take_at h.is (keeps_deep _ low) (next at words d))

pub bracketed : {bytes : List ℕ} {ts : List Token} {words : List Tok} (sp : Spelled bytes 1 ts words) {s : Sort} {p : Prog s} (at later : ℕ) (r : Answer (Value s)) → kind_at ts at ≡ Some kinds.CloseBracket → later ≡ at + 1
    → Reads limits s p (drop later words) r → Reads limits s (expect w.close_bracket free (λ s'. p)) (drop at words) r
bracketed {words = words} sp at later r is behind d = let h = key_stands sp at kinds.CloseBracket tt is in expect_at h.is keeps_free (moved at later words behind d)

pub assigned : {bytes : List ℕ} {ts : List Token} {words : List Tok} (sp : Spelled bytes 1 ts words) {s : Sort} {p : Prog s} (at later : ℕ) (r : Answer (Value s)) → kind_at ts at ≡ Some kinds.Assign → later ≡ at + 1
    → Reads limits s p (drop later words) r → Reads limits s (expect w.assign free (λ s'. p)) (drop at words) r
assigned {words = words} sp at later r is behind d = let h = key_stands sp at kinds.Assign tt is in expect_at h.is keeps_free (moved at later words behind d)

-- the fields behind a key and a value
pub keyed_closes : {ts : List Tok} (c : Counts) (a : t.Expr) (d e : Expr) (o : Answer t.Fields) → a ≡ expr_view d → Reads limits some_fields (program (more_fields c)) ts o
    → Reads limits some_fields (then (more_fields c) (λ fs. give (t.keyed_and a (expr_view e) fs))) ts (as_part (λ rest. field_view (field_kinds.Keyed d e) rest) o)
keyed_closes {ts = ts} c a d e o is m =
    let view : (λ (rest : t.Fields). t.keyed_and a (expr_view e) rest) ≡ (λ (rest : t.Fields). field_view (field_kinds.Keyed d e) rest) = λ i rest. (ap (λ (x : t.Expr). t.keyed_and x (expr_view e) rest) is ∙ sym (view_keyed d e rest)) i in
    subst (λ (g : t.Fields → t.Fields). Reads limits some_fields (then (more_fields c) (λ fs. give (t.keyed_and a (expr_view e) fs))) ts (as_part g o)) view
    (given {f = λ rest. t.keyed_and a (expr_view e) rest} o m)

-- ---- a name first

pub name_deep : {bytes : List ℕ} {ts : List Token} {words : List Tok} (sp : Spelled bytes 1 ts words) (c : Counts) (at : ℕ) → kind_at ts at ≡ Some kinds.Name → 200 < suc (c nodes)
    → Reads limits some_fields (program (fields c)) (drop at words) (stuck (over nodes) (drop at words))
name_deep {ts = ts} sp c at is high =
    let u = kind_token ts at kinds.Name is in
    let h = name_stands sp at u.0 _ u.1 u.2 refl in look_at h.is (passed_at h.is (passes_deep _ high))

-- no expression of a name
pub no_name_field : (source : Source) {words : List Tok} (sp : Spelled source.bytes.now 1 source.tokens.now words) (c : Counts) (at depth : ℕ) (stop : Stop) → kind_at source.tokens.now at ≡ Some kinds.Name → c nodes ≡ depth → NoNameAt source at depth stop
    → Answers (λ (y : t.Fields). y) (program (fields c)) at (Err stop) words
no_name_field source sp c at depth (stops.At faults.Unexpected place) is e h = absurd (h.1 is)
no_name_field source {words = words} sp c at depth (stops.At faults.TooDeep place) is e h =
    subst (λ (k : ℕ). Reads limits some_fields (program (fields c)) (drop at words) (stuck (over nodes) (drop k words))) (sym h.0) (name_deep sp c at is (omega (arith, h.2, e)))
no_name_field source sp c at depth (stops.At faults.BreakOutside place) is e h = absurd h
no_name_field source sp c at depth (stops.At faults.VarargOutside place) is e h = absurd h
no_name_field source sp c at depth (stops.At faults.TooManyLocals place) is e h = absurd h
no_name_field source sp c at depth (stops.At faults.AmbiguousCall place) is e h = absurd h
no_name_field source sp c at depth stops.Memory is e h = tt

pub name_opens : (source : Source) {words : List Tok} (sp : Spelled source.bytes.now 1 source.tokens.now words) (c : Counts) (at later : ℕ) (e : Expr) (r : Answer t.Fields) → NameAt source at e → later ≡ at + 1 → suc (c nodes) ≤ 200
    → (kind_at source.tokens.now (at + 1) ≡ Some kinds.Assign → ⊥)
    → Reads limits some_fields (then (suffixes in_expr c (expr_view e)) (λ a. then (more 0 c a) (λ e. then (more_fields c) (λ fs. give (t.item_and e fs))))) (drop later words) r
    → Reads limits some_fields (program (fields c)) (drop at words) r
name_opens source {words = words} sp c at later e r n behind low none d =
    let u = n.0 in
    let x = take u.length (drop u.start source.bytes.now) in
    let h = name_stands sp at u x n.1 n.2 refl in
    let same : expr_view e ≡ t.name h.spot.line x = n.3 ∙ ap (λ (l : ℕ). t.name l x) (sym (h.line ∙ ap line_of n.1)) in
    look_at h.is (take_at h.is (keeps_deep _ low) (just (next at words (look_as (name_field_other h.spot.line x c _ _ (no_key sp (at + 1) kinds.Assign (key w.assign) refl none))
    (subst (λ (k : ℕ). Reads limits some_fields (then (suffixes in_expr c (t.name h.spot.line x)) (λ a. then (more 0 c a) (λ e. then (more_fields c) (λ fs. give (t.item_and e fs))))) (drop k words) r) behind
    (subst (λ (a : t.Expr). Reads limits some_fields (then (suffixes in_expr c a) (λ a. then (more 0 c a) (λ e. then (more_fields c) (λ fs. give (t.item_and e fs))))) (drop later words) r) same d))))))

pub named_opens : (source : Source) {words : List Tok} (sp : Spelled source.bytes.now 1 source.tokens.now words) (c : Counts) (at : ℕ) (x : Bytes) (r : Answer t.Fields) → NamedAt source at x → suc (c nodes) ≤ 200
    → kind_at source.tokens.now (at + 1) ≡ Some kinds.Assign
    → Reads limits some_fields (then (expr 0 c) (λ e. then (more_fields c) (λ fs. give (t.keyed_and (t.str (line_of (slice_get source.tokens.now at)) x) e fs)))) (drop (at + 2) words) r
    → Reads limits some_fields (program (fields c)) (drop at words) r
named_opens source {words = words} sp c at x r named low is d =
    let h = name_stands sp at named.0 x named.1 named.2 named.3 in
    let i = key_stands sp (at + 1) kinds.Assign tt is in
    let place : at + 2 ≡ at + 1 + 1 = omega arith in
    look_at h.is (take_at h.is (keeps_deep _ low) (just (next at words (look_at i.is (take_at i.is keeps_free (moved (at + 1) (at + 2) words place
    (subst (λ (l : ℕ). Reads limits some_fields (then (expr 0 c) (λ e. then (more_fields c) (λ fs. give (t.keyed_and (t.str l x) e fs)))) (drop (at + 2) words) r) (sym h.line) d)))))))

-- a name as a key
pub tall_named : (l : ℕ) (x : Bytes) (e : Expr) → field_tall (field_kinds.Keyed (record { line = l; what = what.Str x }) e) ≡ max 1 (expr_tall e)
tall_named l x e =
    let h = high_keyed (expr_tall (record { line = l; what = what.Str x })) (expr_tall e) (record { line = l; what = what.Str x }) e refl refl in
    let y = ap height (view_string l x) in omega (arith, h, y)

pub same_key : (l m : ℕ) (x : Bytes) → m ≡ l → t.str l x ≡ expr_view (record { line = m; what = what.Str x })
same_key l m x e = ap (λ (k : ℕ). t.str k x) (sym e) ∙ sym (view_string m x)
