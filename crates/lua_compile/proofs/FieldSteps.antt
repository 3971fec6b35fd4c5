-- What the fields of a table add is their code.
use Rattle.std.proofs.Common.{◌≡◌, ℕ, zero, suc, ◌+◌, ◌-◌, ◌≤◌, ◌<◌, Bool, true, false, eqb, List, [], ◌∷◌, ◌++◌, drop, length, map, get_or, refl, rules, ap, sym, subst, ◌∙◌, append_assoc, arith}
use Rattle.std.proofs.lemmas.Bool.{eqb-true, eqb-false}
use Rattle.std.proofs.lemmas.List.{drop_more}
use Rattle.lua_tree.specs.Tree as t
use Rattle.lua_tree.specs.Tree.{Bytes, Fields, no_fields, item_and, keyed_and}
use Rattle.lua_tree.specs.declared.tree.Expr.{Expr}
use Rattle.lua_tree.specs.declared.tree.Expr as expr_of
use Rattle.lua_tree.specs.declared.tree.ExprKind as kind
use Rattle.lua_tree.specs.declared.tree.ExprKind.TheOpen.{Field-F}
use Rattle.lua_tree.specs.declared.tree.ExprKind.TheViews.{out-Field}
use Rattle.lua_tree.specs.declared.tree.Field.{Field}
use Rattle.lua_tree.specs.declared.tree.Field as field_of
use Rattle.lua_tree.specs.declared.tree.Field.TheVariants as fields
use Rattle.lua_tree.specs.View.{expr_view, field_view, fields_of}
use Rattle.lua_code.specs.Instr as i
use Rattle.lua_code.specs.Scope.{Scope}
use Rattle.lua_code.specs.Code.{expr_code, fields_code, ready, place, unless_ready, site}
use Rattle.lua_compile.specs.Fields.{items, is_none, item_code, pair_code, AddsField, Counts}
use Rattle.lua_assembler.specs.Writing.{Written, Adds}
use Rattle.lua_assembler.proofs.Adding.{adds_as, both_added, three_added}
use Rattle.lua_compile.proofs.ExprSteps.{moved}

-- ---- how fields are seen

pub item_seen : (f : Field) (e : Expr) (rest : Fields) → f ≡ fields.Item e → field_view f rest ≡ item_and (expr_view e) rest
item_seen f e rest h = ap (λ (f : Field). field_view f rest) h ∙ search (rules, kind.the_lemmas, expr_of.the_lemmas, field_of.the_lemmas)

pub keyed_seen : (f : Field) (k e : Expr) (rest : Fields) → f ≡ fields.Keyed k e → field_view f rest ≡ keyed_and (expr_view k) (expr_view e) rest
keyed_seen f k e rest h = ap (λ (f : Field). field_view f rest) h ∙ search (rules, kind.the_lemmas, expr_of.the_lemmas, field_of.the_lemmas)

open_item : (f : Field) (e : Expr) (rest : Fields) → out-Field f ≡ Field-F.Item e → field_view f rest ≡ item_and (expr_view e) rest
open_item f e rest h = search (rules, kind.the_lemmas, expr_of.the_lemmas, field_of.the_lemmas, h)

open_keyed : (f : Field) (k e : Expr) (rest : Fields) → out-Field f ≡ Field-F.Keyed k e → field_view f rest ≡ keyed_and (expr_view k) (expr_view e) rest
open_keyed f k e rest h = search (rules, kind.the_lemmas, expr_of.the_lemmas, field_of.the_lemmas, h)

-- ---- how many items there are

-- a field in front of others leaves no fewer
items_behind : (f : Field) (rest : Fields) → items rest ≤ items (field_view f rest)
items_behind f rest = elim (out-Field f) as (λ o. out-Field f ≡ o → items rest ≤ items (field_view f rest)) [
  | Field-F.Item e ↦ λ h. let x = ap items (open_item f e rest h) in omega (arith, x)
  | Field-F.Keyed k e ↦ λ h. let x = ap items (open_keyed f k e rest h) in omega (arith, x)
] refl

pub items_from : (fs : List Field) (n : ℕ) → items (fields_of (map field_view (drop n fs))) ≤ items (fields_of (map field_view fs))
items_from fs zero = omega arith
items_from [] (suc n) = omega arith
items_from (f ∷ fs) (suc n) = let a = items_from fs n in let b = items_behind f (fields_of (map field_view fs)) in omega (arith, a, b)

none_behind : (f : Field) (rest : Fields) → is_none (field_view f rest) ≡ false
none_behind f rest = elim (out-Field f) as (λ o. out-Field f ≡ o → is_none (field_view f rest) ≡ false) [
  | Field-F.Item e ↦ λ h. ap is_none (open_item f e rest h)
  | Field-F.Keyed k e ↦ λ h. ap is_none (open_keyed f k e rest h)
] refl

-- whether a field is the last one
is_last : (fs : List Field) (at : ℕ) (last : Bool) → (last ≡ true → suc at ≡ length fs) → (last ≡ false → suc at < length fs) → last ≡ is_none (fields_of (map field_view (drop (suc at) fs)))
is_last [] at true t f = absurd (let z : ⊥ = let e = t refl in omega (arith, e) in z)
is_last [] at false t f = absurd (let z : ⊥ = let e = f refl in omega (arith, e) in z)
is_last (x ∷ []) zero true t f = refl
is_last (x ∷ []) zero false t f = absurd (let z : ⊥ = let e = f refl in omega (arith, e) in z)
is_last (x ∷ []) (suc at) true t f = absurd (let z : ⊥ = let e = t refl in omega (arith, e) in z)
is_last (x ∷ []) (suc at) false t f = absurd (let z : ⊥ = let e = f refl in omega (arith, e) in z)
is_last (x ∷ (y ∷ fs)) zero true t f = absurd (let z : ⊥ = let e = t refl in omega (arith, e) in z)
is_last (x ∷ (y ∷ fs)) zero false t f = sym (none_behind y (fields_of (map field_view fs)))
is_last (x ∷ (y ∷ fs)) (suc at) last t f = is_last (y ∷ fs) at last (λ h. let e = t h in omega (arith, e)) (λ h. let e = f h in omega (arith, e))

-- ---- a field's code

pub item_counts : (f : Field) (e : Expr) (n behind : ℕ) → f ≡ fields.Item e → suc n ≡ behind → Counts (field_view f) behind n
item_counts f e n behind h b = λ fs. let x = ap items (item_seen f e fs h) in omega (arith, x, b)

pub keyed_counts : (f : Field) (k e : Expr) (n : ℕ) → f ≡ fields.Keyed k e → Counts (field_view f) n n
keyed_counts f k e n h = λ fs. let x = ap items (keyed_seen f k e fs h) in omega (arith, x)

module _ (line : ℕ) (file : Bytes) (scope : Scope) (table : ℕ) where
  -- the last item's values may be many
  item_step : (e : t.Expr) (n : ℕ) (last : Bool) (fs : Fields) → last ≡ is_none fs → item_code last e n file scope table ++ fields_code fs line (n + 1) file scope table ≡ fields_code (item_and e fs) line n file scope table
  item_step e n last no_fields h = subst (λ (b : Bool). item_code b e n file scope table ++ [] ≡ fields_code (item_and e no_fields) line n file scope table) (sym h) refl
  item_step e n last (item_and d fs) h = subst (λ (b : Bool). item_code b e n file scope table ++ fields_code (item_and d fs) line (n + 1) file scope table ≡ fields_code (item_and e (item_and d fs)) line n file scope table) (sym h) refl
  item_step e n last (keyed_and k d fs) h = subst (λ (b : Bool). item_code b e n file scope table ++ fields_code (keyed_and k d fs) line (n + 1) file scope table ≡ fields_code (item_and e (keyed_and k d fs)) line n file scope table) (sym h) refl

  pub item_adds : (f : Field) (e : Expr) (n behind : ℕ) (last : Bool) (old new : Written) → f ≡ fields.Item e → n + 1 ≡ behind
      → Adds (item_code last (expr_view e) n file scope table) old new → AddsField (field_view f) last line behind n file scope table old new
  item_adds f e n behind last old new h b a = λ fs before l rest.
      adds_as _ _ before new (
      ap (λ k. item_code last (expr_view e) n file scope table ++ fields_code fs line k file scope table) (sym b)
      ∙ item_step (expr_view e) n last fs l
      ∙ ap (λ (x : Fields). fields_code x line n file scope table) (sym (item_seen f e fs h)))
      (both_added _ _ before old new rest a)

  in_front : (a b d : List i.Instr) (x : i.Instr) → (a ++ (b ++ x ∷ [])) ++ d ≡ a ++ (b ++ x ∷ d)
  in_front a b d x =
      append_assoc a (b ++ x ∷ []) d ∙ ap (λ l. a ++ l) (append_assoc b (x ∷ []) d)

  pub keyed_adds : (f : Field) (k e : Expr) (n : ℕ) (last : Bool) (old new : Written) → f ≡ fields.Keyed k e
      → Adds (pair_code (expr_view k) (expr_view e) line file scope table) old new → AddsField (field_view f) last line n n file scope table old new
  keyed_adds f k e n last old new h a = λ fs before l rest.
      let key : List i.Instr = unless_ready (ready (expr_view k) scope)
      (expr_code (expr_view k) file scope (suc table) (suc table)) in
      let value : List i.Instr = unless_ready (ready (expr_view e) scope)
      (expr_code (expr_view e) file scope (table + 2) (table + 2)) in
      let field : i.Instr = i.set_new (site line (table + 3) scope) table
      (place (ready (expr_view k) scope) (suc table)) (place (ready (expr_view e) scope) (table + 2)) in
      adds_as _ _ before new (
      in_front key value (fields_code fs line n file scope table) field
      ∙ ap (λ (x : Fields). fields_code x line n file scope table) (sym (keyed_seen f k e fs h)))
      (both_added _ _ before old new rest a)

  pub pair_adds : (k e : t.Expr) (n m : ℕ) (w0 w1 w2 w3 : Written) → n ≡ suc table → m ≡ table + 2
      → Adds (i.set_new (site line (table + 3) scope) table (place (ready k scope) (suc table)) (place (ready e scope) (table + 2)) ∷ []) w0 w1
      → Adds (unless_ready (ready e scope) (expr_code e file scope m m)) w1 w2
      → Adds (unless_ready (ready k scope) (expr_code k file scope n n)) w2 w3
      → Adds (pair_code k e line file scope table) w0 w3
  pair_adds k e n m w0 w1 w2 w3 f g a b c =
      three_added _ _ _ w0 w1 w2 w3 a
      (moved m (table + 2) (λ j. unless_ready (ready e scope) (expr_code e file scope j j)) w1 w2 g b)
      (moved n (suc table) (λ j. unless_ready (ready k scope) (expr_code k file scope j j)) w2 w3 f c)

  -- ---- the loop over the fields, from the last one on

  abbrev pub Left : List Field → (number at : ℕ) → (old new : Written) → Type 0
  Left fs number at old new =
      (at ≤ length fs)
      × (number + items (fields_of (map field_view (drop at fs))) ≡ 1 + items (fields_of (map field_view fs)))
      × Adds (fields_code (fields_of (map field_view (drop at fs))) line number file scope table) old new

  pub some_number : (fs : List Field) (number at : ℕ) (old new : Written) → Left fs number at old new → 0 < number
  some_number fs number at old new l = let e = l.1 in let f = items_from fs at in omega (arith, e, f)

  from_here : (fs : List Field) (n at : ℕ) (x : Field) → n ≡ suc at → at < length fs → x ≡ get_or fs at x → fields_of (map field_view (drop at fs)) ≡ field_view x (fields_of (map field_view (drop n fs)))
  from_here fs n at x e lt g =
      ap (λ l. fields_of (map field_view l)) (drop_more fs at x lt)
      ∙ ap (λ y. field_view y (fields_of (map field_view (drop (at + 1) fs)))) (sym g)
      ∙ ap (λ k. field_view x (fields_of (map field_view (drop k fs)))) (let q : at + 1 ≡ n = omega (arith, e) in q)

  pub one_left : (fs : List Field) (number next n at : ℕ) (x : Field) (last : Bool) (w0 w1 w2 : Written)
      → Left fs number n w0 w1 → n ≡ suc at → x ≡ get_or fs at x → (last ≡ true → n ≡ length fs) → (last ≡ false → n < length fs)
      → Counts (field_view x) number next → AddsField (field_view x) last line number next file scope table w1 w2
      → Left fs next at w0 w2
  one_left fs number next n at x last w0 w1 w2 l e g t f counts adds =
      let le : n ≤ length fs = l.0 in
      let here = from_here fs n at x e (omega (arith, le, e)) g in
      let rest : Fields = fields_of (map field_view (drop n fs)) in
      let c = counts rest in
      let old = l.1 in
      let i = ap items here in
      let is : last ≡ is_none rest = is_last fs at last (λ q. sym e ∙ t q) (λ q. let r = f q in omega (arith, e, r)) ∙ ap (λ k. is_none (fields_of (map field_view (drop k fs)))) (sym e) in (
        omega (arith, le, e),
        omega (arith, i, c, old),
        adds_as _ _ w0 w2 (ap (λ (y : Fields). fields_code y line next file scope table) (sym here)) (adds rest w0 is l.2),
      )

  -- the same where the place counts down
  pub one_next : (fs : List Field) (number next n : ℕ) (x : Field) (w0 w1 w2 : Written)
      → Left fs number n w0 w1 → 0 < n → x ≡ get_or fs (n - 1) x
      → Counts (field_view x) number next → AddsField (field_view x) (eqb n (length fs)) line number next file scope table w1 w2
      → Left fs next (n - 1) w0 w2
  one_next fs number next n x w0 w1 w2 l z g counts adds =
      let le : n ≤ length fs = l.0 in
      let e : n ≡ suc (n - 1) = omega (arith, z) in
      one_left fs number next n (n - 1) x (eqb n (length fs)) w0 w1 w2 l e g (λ q. eqb-true n (length fs) q) (λ q. let ne : n ≡ length fs → ⊥ = eqb-false n (length fs) q in omega (arith, le, ne)) counts adds

  -- all fields, once the first one is there
  pub none_left : (fs : List Field) (number at : ℕ) (old new : Written) → Left fs number at old new → at ≤ 0
      → Adds (fields_code (fields_of (map field_view fs)) line 1 file scope table) old new
  none_left fs number at old new l z =
      let e : at ≡ 0 = omega (arith, z) in
      let all : Left fs number 0 old new = subst (λ n. Left fs number n old new) e l in
      let one : number ≡ 1 = (let c = all.1 in omega (arith, c)) in
      adds_as _ _ old new (ap (λ n. fields_code (fields_of (map field_view fs)) line n file scope table) one) all.2
