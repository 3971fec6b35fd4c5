-- Steps of tables: their fields and what stands behind one.
use Rattle.std.proofs.Common.{◌≡◌, ℕ, suc, ◌+◌, ◌<◌, ◌≤◌, max, List, [], ◌∷◌, ◌++◌, Option, Some, None, Result, Ok, Err, Global, drop, map, refl, sym, ap, ◌∙◌, subst, arith, rules}
use Rattle.std.specs.Prelude.{slice_get}
use Rattle.lua_token.specs.declared.kind.Kind.TheVariants as kinds
use Rattle.lua_token.specs.declared.token.Token.{Token}
use Rattle.lua_tree.specs.declared.source.Source.{Source}
use Rattle.lua_tree.specs.declared.stop.Stop.{Stop}
use Rattle.lua_tree.specs.declared.stop.Stop.TheVariants as stops
use Rattle.lua_tree.specs.declared.stop.Fault as declared
use Rattle.lua_tree.specs.declared.tree.Expr.{Expr}
use Rattle.lua_tree.specs.declared.tree.Expr as expr_of
use Rattle.lua_tree.specs.declared.tree.ExprKind as kind
use Rattle.lua_tree.specs.declared.tree.ExprKind.TheVariants as kinds_of
use Rattle.lua_tree.specs.declared.tree.ExprKind.TheOpen.{Field-F}
use Rattle.lua_tree.specs.declared.tree.ExprKind.TheViews.{out-Field}
use Rattle.lua_tree.specs.declared.tree.Field.{Field}
use Rattle.lua_tree.specs.declared.tree.Field as field_of
use Rattle.lua_tree.specs.declared.tree.Field.TheVariants as field_kinds
use Rattle.lua_tree.specs.Tree as t
use Rattle.lua_tree.specs.Words as w
use Rattle.lua_tree.specs.Words.{Word, Spot, Tok, tok, key, word_of, spot_of}
use Rattle.lua_tree.specs.Attributes.{Counts, height, nodes, most_fields}
use Rattle.lua_tree.specs.Reading.{Sort, Prog, Value, give, take, look, then, some_fields, fields, fields_of, more_fields_of, program, Answer, got, stuck, unexpected, Reads, looks, fails}
use Rattle.lua_tree.specs.Spelled.{Spelled, kind_at}
use Rattle.lua_tree.specs.Begins.{FieldEnd}
use Rattle.lua_tree.specs.View.{expr_view, field_view, fields_view}
use Rattle.lua_tree.specs.Answer.{StoppedAt, as_part, expr_tall, fault_of, field_tall, fields_tall, limits}
use Rattle.lua_tree.proofs.Taking.{just, keeps_free, look_at, take_at}
use Rattle.lua_tree.proofs.Marks.{key_stands, no_key}
use Rattle.lua_tree.proofs.Descent.{next}
use Rattle.lua_tree.proofs.Lists.{fields_end, fields_last, fields_onto, part_of_part}
use Rattle.lua_tree.proofs.Others.{look_as, more_fields_other}
use Rattle.lua_tree.proofs.Tall.{tall_table}

-- ---- behind a field

looked : {s : Sort} {f : Word → Spot → Prog s} {ts : List Tok} {r : Answer (Value s)} → Reads limits s (look f) ts r → Reads limits s (f (word_of ts) (spot_of ts)) ts r
looked (looks d) = d

-- behind ',' the fields go on
pub behind_comma : {bytes : List ℕ} {before : ℕ} {ts : List Token} {words : List Tok} → Spelled bytes before ts words → (c : Counts) (at : ℕ) → kind_at ts at ≡ Some kinds.Comma
    → (r : Answer t.Fields) → Reads limits some_fields (look (fields_of c)) (drop (at + 1) words) r → Reads limits some_fields (look (more_fields_of c)) (drop at words) r
behind_comma {words = words} sp c at e r d =
    let h = key_stands sp at kinds.Comma tt e in look_at h.is (take_at h.is keeps_free (next at words (just d)))

-- so they do behind ';'
pub behind_semicolon : {bytes : List ℕ} {before : ℕ} {ts : List Token} {words : List Tok} → Spelled bytes before ts words → (c : Counts) (at : ℕ) → kind_at ts at ≡ Some kinds.Semicolon
    → (r : Answer t.Fields) → Reads limits some_fields (look (fields_of c)) (drop (at + 1) words) r → Reads limits some_fields (look (more_fields_of c)) (drop at words) r
behind_semicolon {words = words} sp c at e r d =
    let h = key_stands sp at kinds.Semicolon tt e in look_at h.is (take_at h.is keeps_free (next at words (just d)))

-- at '}' they end, as they do where there are none
pub at_end : {bytes : List ℕ} {before : ℕ} {ts : List Token} {words : List Tok} → Spelled bytes before ts words → (c : Counts) (at : ℕ) → kind_at ts at ≡ Some kinds.CloseBrace
    → (r : Answer t.Fields) → Reads limits some_fields (look (fields_of c)) (drop at words) r → Reads limits some_fields (look (more_fields_of c)) (drop at words) r
at_end {words = words} sp c at e r d =
    let h = key_stands sp at kinds.CloseBrace tt e in
    look_at h.is (subst (λ (xs : List Tok). Reads limits some_fields (fields_of c (word_of xs) (spot_of xs)) (drop at words) r) h.is (looked d))

why_no_end : (source : Source) (c : Counts) (at : ℕ) (words : List Tok) (fault : declared.Fault) (P : Type 0) (stop : Stop)
    → StoppedAt fault at P stop → (P → Reads limits some_fields (look (more_fields_of c)) (drop at words) (stuck (fault_of fault) (drop at words))) → FieldEnd source c at (Err stop) words
why_no_end source c at words fault P (stops.At found place) h k =
    subst (λ (f : declared.Fault). Reads limits some_fields (look (more_fields_of c)) (drop at words) (stuck (fault_of f) (drop place words))) (sym h.0)
    (subst (λ (n : ℕ). Reads limits some_fields (look (more_fields_of c)) (drop at words) (stuck (fault_of fault) (drop n words))) (sym h.1) (k h.2))
why_no_end source c at words fault P stops.Memory h k = tt

-- no field ends there
pub no_end : (source : Source) (c : Counts) (at : ℕ) (words : List Tok) → Spelled source.bytes.now 1 source.tokens.now words → (stop : Stop)
    → (kind_at source.tokens.now at ≡ Some kinds.Comma → ⊥) → (kind_at source.tokens.now at ≡ Some kinds.Semicolon → ⊥)
    → StoppedAt declared.TheVariants.Unexpected at (kind_at source.tokens.now at ≡ Some kinds.CloseBrace → ⊥) stop → FieldEnd source c at (Err stop) words
no_end source c at words sp stop comma semicolon h =
    why_no_end source c at words declared.TheVariants.Unexpected (kind_at source.tokens.now at ≡ Some kinds.CloseBrace → ⊥) stop h
    (λ brace. look_as (more_fields_other c _ _ (no_key sp at kinds.Comma (key w.comma) refl comma) (no_key sp at kinds.Semicolon (key w.semicolon) refl semicolon) (no_key sp at kinds.CloseBrace (key w.close_brace) refl brace)) fails)

-- ---- fields

-- what stands in front of what was read goes on to one more
pub one_more_field : {p : Prog some_fields} {ts : List Tok} (fs : List Field) (f : Field) (r : Answer t.Fields)
    → Reads limits some_fields p ts (as_part (fields_onto fs) (as_part (field_view f) r)) → Reads limits some_fields p ts (as_part (fields_onto (fs ++ f ∷ [])) r)
one_more_field {p = p} {ts = ts} fs f r d =
    subst (λ (o : Answer t.Fields). Reads limits some_fields p ts o) (part_of_part (fields_onto fs) (field_view f) r ∙ ap (λ (g : t.Fields → t.Fields). as_part g r) (λ i b. sym (fields_last fs f b) i)) d

pub no_field : {p : Prog some_fields} {ts : List Tok} (r : Answer t.Fields) → Reads limits some_fields p ts r → Reads limits some_fields p ts (as_part (fields_onto []) r)
no_field (got a us) d = d
no_field (stuck x us) d = d

pub view_item : (e : Expr) (rest : t.Fields) → field_view (field_kinds.Item e) rest ≡ t.item_and (expr_view e) rest
view_item e rest = search (rules, kind.the_lemmas, expr_of.the_lemmas, field_of.the_lemmas)

pub view_keyed : (a b : Expr) (rest : t.Fields) → field_view (field_kinds.Keyed a b) rest ≡ t.keyed_and (expr_view a) (expr_view b) rest
view_keyed a b rest = search (rules, kind.the_lemmas, expr_of.the_lemmas, field_of.the_lemmas)

pub view_table : (l : ℕ) (fs : List Field) → expr_view (record { line = l; what = kinds_of.Table fs }) ≡ t.table l (fields_view fs)
view_table l fs = search (rules, kind.the_lemmas, expr_of.the_lemmas)

pub high_keyed : (n m : ℕ) (a b : Expr) → n ≡ expr_tall a → m ≡ expr_tall b → max n m ≡ field_tall (field_kinds.Keyed a b)
high_keyed n m a b h i = let x = ap (most_fields nodes 0) (view_keyed a b t.no_fields) in omega (arith, x, h, i)

pub high_table : (l n : ℕ) (fs : List Field) → n ≡ fields_tall fs → 1 + n ≡ expr_tall (record { line = l; what = kinds_of.Table fs })
high_table l n fs h = let x = ap height (view_table l fs) in let y = tall_table l (fields_view fs) in omega (arith, x, y, h)

-- a field is one of these
pub field_item : (f : Field) (e : Expr) (rest : t.Fields) → out-Field f ≡ Field-F.Item e → field_view f rest ≡ t.item_and (expr_view e) rest
field_item f e rest h = search (rules, kind.the_lemmas, expr_of.the_lemmas, field_of.the_lemmas, h)

pub field_keyed : (f : Field) (d e : Expr) (rest : t.Fields) → out-Field f ≡ Field-F.Keyed d e → field_view f rest ≡ t.keyed_and (expr_view d) (expr_view e) rest
field_keyed f d e rest h = search (rules, kind.the_lemmas, expr_of.the_lemmas, field_of.the_lemmas, h)

-- a field in front of others
field_and : (f : Field) (rest : t.Fields) → most_fields nodes 0 (field_view f rest) ≡ max (field_tall f) (most_fields nodes 0 rest)
field_and f rest = elim (out-Field f) as (λ o. out-Field f ≡ o → most_fields nodes 0 (field_view f rest) ≡ max (field_tall f) (most_fields nodes 0 rest)) [
  | Field-F.Item e ↦ λ h.
      let x = ap (most_fields nodes 0) (field_item f e rest h) in let y = ap (most_fields nodes 0) (field_item f e t.no_fields h) in omega (arith, x, y)
  | Field-F.Keyed d e ↦ λ h.
      let x = ap (most_fields nodes 0) (field_keyed f d e rest h) in let y = ap (most_fields nodes 0) (field_keyed f d e t.no_fields h) in omega (arith, x, y)
] refl

pub fields_tall_last : (fs : List Field) (f : Field) → fields_tall (fs ++ f ∷ []) ≡ max (fields_tall fs) (field_tall f)
fields_tall_last [] f = omega arith
fields_tall_last (d ∷ fs) f =
    let h = fields_tall_last fs f in let x = field_and d (fields_view (fs ++ f ∷ [])) in let y = field_and d (fields_view fs) in omega (arith, h, x, y)

-- one more field, in a list that was lengthened
pub longer_fields : {p : Prog some_fields} {ts : List Tok} (us fs : List Field) (f : Field) (r : Answer t.Fields) → us ≡ fs ++ f ∷ []
    → Reads limits some_fields p ts (as_part (fields_onto fs) (as_part (field_view f) r)) → Reads limits some_fields p ts (as_part (fields_onto us) r)
longer_fields {p = p} {ts = ts} us fs f r e d = subst (λ (xs : List Field). Reads limits some_fields p ts (as_part (fields_onto xs) r)) (sym e) (one_more_field fs f r d)

pub longer_fields_high : (us fs : List Field) (f : Field) (k n m : ℕ) → us ≡ fs ++ f ∷ [] → k ≡ max n m → n ≡ fields_tall fs → m ≡ field_tall f → k ≡ fields_tall us
longer_fields_high us fs f k n m e g h i = let x = ap fields_tall e in let y = fields_tall_last fs f in omega (arith, x, y, g, h, i)

-- the list of what was read
pub fields_are : {p : Prog some_fields} {ts rest : List Tok} (us fs : List Field) → us ≡ fs → Reads limits some_fields p ts (got (fields_onto fs t.no_fields) rest)
    → Reads limits some_fields p ts (got (fields_view us) rest)
fields_are {p = p} {ts = ts} {rest = rest} us fs is d =
    subst (λ (xs : t.Fields). Reads limits some_fields p ts (got xs rest)) (fields_end fs ∙ ap fields_view (sym is)) d
