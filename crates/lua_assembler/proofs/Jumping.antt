-- Jumps that get their length.
use Rattle.std.proofs.Common.{◌≡◌, ℕ, zero, suc, ◌-◌, List, [], ◌∷◌, ◌++◌, length, map, refl, sym, ap, subst, ◌∙◌, append_assoc, arith}
use Rattle.std.specs.Prelude.{set, reverse}
use Rattle.std.proofs.lemmas.List.{length-append, length-reverse, reverse-append, reverse-reverse}
use Rattle.std.proofs.Math.Seq.{set-append_seam}
use Rattle.lua_code.specs.Instr as i
use Rattle.lua_code.specs.declared.constant.Constant.{Constant}
use Rattle.lua_code.specs.declared.instr.Instr.{Instr}
use Rattle.lua_code.specs.View.{ProtoView, Inner, inners, instr_view, site_view}
use Rattle.lua_code.specs.declared.instr.Site.{Site}
use Rattle.lua_code.specs.Code.{skip_over}
use Rattle.lua_assembler.specs.declared.draft.Step.{Step}
use Rattle.lua_assembler.specs.Drafts.{Drafted, step_view}
use Rattle.lua_assembler.specs.Writing.{Written, code_of, constants_of, made_of, Adds, Replaces, Extends}
use Rattle.lua_assembler.specs.Jumps.{Mends, Fronts}
use Rattle.lua_assembler.proofs.Adding.{both_added, adds_length}

-- ---- an instruction in the place of another

map-set : {A B : Type 0} (f : A → B) (xs : List A) (n : ℕ) (x : A) → map f (set xs n x) ≡ set (map f xs) n (f x)
map-set f [] n x = refl
map-set f (y ∷ ys) zero x = refl
map-set f (y ∷ ys) (suc n) x = ap (λ l. f y ∷ l) (map-set f ys n x)

reverse_middle : {A : Type 0} (front back : List A) (x : A) → reverse (front ++ x ∷ back) ≡ reverse back ++ x ∷ reverse front
reverse_middle front back x = reverse-append front (x ∷ back) ∙ ap (λ l. l ++ reverse front) (reverse-append (x ∷ []) back) ∙ append_assoc (reverse back) (x ∷ []) (reverse front)

set_middle : {A : Type 0} (xs front back : List A) (x y : A) (n : ℕ) → reverse xs ≡ front ++ x ∷ back → length back ≡ n → reverse (set xs n y) ≡ front ++ y ∷ back
set_middle xs front back x y n e m =
    let turned = sym (reverse-reverse xs) ∙ ap reverse e ∙ reverse_middle front back x in
    let long = length-reverse back ∙ m in
    ap (λ l. reverse (set l n y)) turned
    ∙ ap (λ k. reverse (set (reverse back ++ x ∷ reverse front) k y)) (sym long)
    ∙ ap reverse (set-append_seam (reverse back) x (reverse front) y)
    ∙ reverse_middle (reverse back) (reverse front) y
    ∙ ap (λ l. l ++ y ∷ reverse (reverse back)) (reverse-reverse front)
    ∙ ap (λ l. front ++ y ∷ l) (reverse-reverse back)

placed : (protos : List ProtoView) (d : Drafted) (n : ℕ) (x : Instr) (s : Site) → Replaces n x (record { protos = protos; body = d }) (record { protos = protos; body = record d { steps = set d.steps n (record { instr = x; site = s }) } })
placed protos d n x s =
    let seen : Step → i.Instr = step_view d.proto.constants (inners protos) in
    let step : Step = record { instr = x; site = s } in
    record {
      code = λ front back y g m. (site_view s, ap reverse (map-set seen d.steps n step) ∙ set_middle (map seen d.steps) front back y (seen step) n g m);
      head = refl;
      constants = refl;
      protos = refl;
    }

pub replaced : (protos : List ProtoView) (d q : Drafted) (n : ℕ) (x : Instr) (old : Written) → old ≡ record { protos = protos; body = d } → ((s : Site) × (q ≡ record d { steps = set d.steps n (record { instr = x; site = s }) }))
    → Replaces n x old (record { protos = protos; body = q })
replaced protos d q n x old e f =
    subst (λ (o : Written). Replaces n x o (record { protos = protos; body = q })) (sym e)
    (subst (λ (q : Drafted). Replaces n x (record { protos = protos; body = d }) (record { protos = protos; body = q })) (sym f.1)
    (placed protos d n x f.0))

pub draft_replaced : (now d : Drafted) (at : ℕ) (x : Step) → d ≡ now → (record d { steps = set d.steps at x }) ≡ record now { steps = set now.steps at x }
draft_replaced now d at x e = ap (λ (d : Drafted). record d { steps = set d.steps at x }) e

-- ---- jumps back

same_extends : (old new mid : Written) → mid.protos ≡ new.protos → Extends old.protos mid.protos → Extends old.protos new.protos
same_extends old new mid e x = (x.0, sym e ∙ x.1)

pub mended : (jump : ℕ → i.Instr) (x : Instr) (count end : ℕ) (old new : Written) → Replaces end x old new → ((constants : List Constant) (made : List Inner) (s : i.Site) → instr_view constants made s x ≡ jump count) → count ≡ (length (code_of old) - end) - 1 → Mends jump end old new
mended jump x count end old new r v n front before e a =
    let long = adds_length (front ++ jump 0 ∷ []) before old a in
    let parts = length-append front (jump 0 ∷ []) in
    let is : count ≡ length front = omega (arith, n, e, long, parts) in
    let placed = r.code front (code_of before) (jump 0) (a.code ∙ append_assoc front (jump 0 ∷ []) (code_of before)) e in
    record {
      code = placed.1 ∙ ap (λ y. front ++ y ∷ code_of before) (v (constants_of old) (made_of old) placed.0 ∙ ap jump is) ∙ sym (append_assoc front (jump (length front) ∷ []) (code_of before));
      head = r.head ∙ a.head;
      protos = same_extends before new old (sym r.protos) a.protos;
    }

-- ---- jumps over what is behind, where there is anything

over_none : (rest : List i.Instr) → length rest ≡ 0 → [] ≡ skip_over rest
over_none [] e = refl
over_none (x ∷ rest) e = absurd (let z : ⊥ = omega (arith, e) in z)

over_some : (rest : List i.Instr) (n : ℕ) → n ≡ length rest → (n ≡ 0 → ⊥) → i.skip n ∷ [] ≡ skip_over rest
over_some [] n e h = absurd (h e)
over_some (x ∷ rest) n e h = ap (λ k. i.skip k ∷ []) e

pub fronts_none : (count end : ℕ) (old : Written) → count ≡ length (code_of old) - end → count ≡ 0 → Fronts (λ rest. skip_over rest ++ rest) end old old
fronts_none count end old n z rest before e a =
    let long = adds_length rest before old a in
    let empty : length rest ≡ 0 = omega (arith, n, z, e, long) in
    subst (λ (l : List i.Instr). Adds (l ++ rest) before old) (over_none rest empty) a

pub fronts_some : (count end : ℕ) (old new : Written) → count ≡ length (code_of old) - end → (count ≡ 0 → ⊥) → Adds (i.skip count ∷ []) old new → Fronts (λ rest. skip_over rest ++ rest) end old new
fronts_some count end old new n z k rest before e a =
    let long = adds_length rest before old a in
    let is : count ≡ length rest = omega (arith, n, e, long) in
    subst (λ (l : List i.Instr). Adds (l ++ rest) before new) (over_some rest count is z) (both_added (i.skip count ∷ []) rest before old new a k)
