-- Functions that are being made: what an instruction, a constant or a function more is to them.
use Rattle.std.proofs.Common.{◌≡◌, ℕ, zero, suc, ◌+◌, ◌≤◌, ◌<◌, List, [], ◌∷◌, ◌++◌, length, map, drop, get_or, refl, sym, ap, subst, ◌∙◌, append_assoc, arith}
use Rattle.std.specs.Prelude.{max, reverse, false}
use Rattle.std.specs.List.{AllByRecursion}
use Rattle.std.proofs.lemmas.List.{append-nil, length-append, map-append, reverse-append, drop_all, drop_more}
use Rattle.lua_code.specs.Instr as i
use Rattle.lua_code.specs.declared.constant.Constant.{Constant}
use Rattle.lua_code.specs.declared.instr.Instr.{Instr}
use Rattle.lua_code.specs.declared.instr.Instr.TheVariants.{Close, Const, SetCellConst, SetItemConst, SetNewConst, SetNewNamed, SetNewNamedConst, BinaryConst, GetNamed, GetGlobal, SetFieldConst, SetNamed, SetNamedConst, SetGlobal, SetGlobalConst}
use Rattle.lua_code.specs.View.{ProtoView, Inner, MakesBefore, instrs_view, body_view, inner_view, inners_behind, inners}
use Rattle.lua_code.specs.Within.{slots_of, AreKnown, IsProto}
use Rattle.lua_code.proofs.Callers.{constant_added, inners_added, instr_added}
use Rattle.lua_assembler.specs.declared.draft.Step.{Step}
use Rattle.lua_assembler.specs.Drafts.{Drafted, IsDrafted, SameCode, proto_head, IsKnownStep, IsStepAmong, MakesAmong, step_view, draft_code}

-- ---- facts of each step

all_last : (P : Step → Type 0) (xs : List Step) (x : Step) → AllByRecursion P xs → P x → AllByRecursion P (xs ++ x ∷ [])
all_last P [] x all own = (own, tt)
all_last P (y ∷ xs) x all own = (all.0, all_last P xs x all.1 own)

all_weaker : (P Q : Step → Type 0) → ((s : Step) → P s → Q s) → (xs : List Step) → AllByRecursion P xs → AllByRecursion Q xs
all_weaker P Q f [] all = tt
all_weaker P Q f (x ∷ xs) all = (f x all.0, all_weaker P Q f xs all.1)

known_more : (m n : ℕ) (x : Instr) → m ≤ n → AreKnown m x → AreKnown n x
known_more m n (Const to k) le h = omega (arith, le, h)
known_more m n (SetCellConst cell k) le h = omega (arith, le, h)
known_more m n (SetItemConst table number k) le h = omega (arith, le, h)
known_more m n (SetNewConst table key k) le h = omega (arith, le, h)
known_more m n (SetNewNamed table name from) le h = omega (arith, le, h)
known_more m n (SetNewNamedConst table name k) le h = (omega (arith, le, h.0), omega (arith, le, h.1))
known_more m n (BinaryConst op to left k) le h = omega (arith, le, h)
known_more m n (GetNamed to base name) le h = omega (arith, le, h)
known_more m n (GetGlobal to name) le h = omega (arith, le, h)
known_more m n (SetFieldConst base key k) le h = omega (arith, le, h)
known_more m n (SetNamed base name from) le h = omega (arith, le, h)
known_more m n (SetNamedConst base name k) le h = (omega (arith, le, h.0), omega (arith, le, h.1))
known_more m n (SetGlobal name from) le h = omega (arith, le, h)
known_more m n (SetGlobalConst name k) le h = (omega (arith, le, h.0), omega (arith, le, h.1))
known_more m n x le h = tt

among_more : (m n : ℕ) (x : Instr) → m ≤ n → MakesBefore m x → MakesBefore n x
among_more m n (Close to k) le h = omega (arith, le, h)
among_more m n x le h = tt

pub among_stays : (m n : ℕ) (d : Drafted) → m ≤ n → MakesAmong m d → MakesAmong n d
among_stays m n d le h = all_weaker (IsStepAmong m) (IsStepAmong n) (λ s. among_more m n s.instr le) d.steps h

-- ---- an instruction more

pub draft_put : (made : List Inner) (d : Drafted) (s : Step) → draft_code made (record d { steps = d.steps ++ s ∷ [] }) ≡ step_view d.proto.constants made s ∷ draft_code made d
draft_put made d s =
    let f : Step → i.Instr = step_view d.proto.constants made in
    ap reverse (map-append f d.steps (s ∷ [])) ∙ reverse-append (map f d.steps) (f s ∷ [])

pub put_held : (d : Drafted) (s : Step) → IsDrafted d → AreKnown (length d.proto.constants) s.instr → IsDrafted (record d { steps = d.steps ++ s ∷ [] })
put_held d s is k = record {
  proto = is.proto;
  no_instrs = is.no_instrs;
  known = all_last (IsKnownStep (length d.proto.constants)) d.steps s is.known k;
}

pub put_among : (n : ℕ) (d : Drafted) (s : Step) → MakesAmong n d → MakesBefore n s.instr → MakesAmong n (record d { steps = d.steps ++ s ∷ [] })
put_among n d s is k = all_last (IsStepAmong n) d.steps s is k

-- ---- a constant more

-- a step alone, as a prototype
abbrev alone : List Constant → Step → ProtoView
alone cs s = record {
  file = [];
  params = 0;
  varargs = false;
  captures = [];
  size = slots_of s.instr;
  instrs = s.instr ∷ [];
  sites = s.site ∷ [];
  constants = cs;
}

abbrev first_or : i.Instr → List i.Instr → i.Instr
first_or x [] = x
first_or x (y ∷ ys) = y

step_known : (cs : List Constant) (c : Constant) (made : List Inner) (s : Step) → AreKnown (length cs) s.instr → step_view (cs ++ c ∷ []) made s ≡ step_view cs made s
step_known cs c made s k = ap (first_or i.tick) (constant_added made (alone cs s) c (record { params = omega arith; sites = refl; within = (record { slots = omega arith; constants = k }, tt) }))

steps_known : (cs : List Constant) (c : Constant) (made : List Inner) (ss : List Step) → AllByRecursion (IsKnownStep (length cs)) ss → map (step_view (cs ++ c ∷ []) made) ss ≡ map (step_view cs made) ss
steps_known cs c made [] all = refl
steps_known cs c made (s ∷ ss) all =
    ap (λ x. x ∷ map (step_view (cs ++ c ∷ []) made) ss) (step_known cs c made s all.0)
    ∙ ap (λ xs. step_view cs made s ∷ xs) (steps_known cs c made ss all.1)

pub draft_known : (made : List Inner) (d : Drafted) (c : Constant) → IsDrafted d → draft_code made (record d { proto = record d.proto { constants = d.proto.constants ++ c ∷ [] } }) ≡ draft_code made d
draft_known made d c is = ap reverse (steps_known d.proto.constants c made d.steps is.known)

-- ---- functions more

behind_grows : (made : List Inner) (ps : List ProtoView) → (rest : List Inner) × (inners_behind made ps ≡ made ++ rest)
behind_grows made [] = ([], sym (append-nil made))
behind_grows made (p ∷ ps) =
    let g = behind_grows (made ++ inner_view made p ∷ []) ps in
    (inner_view made p ∷ g.0, g.1 ∙ append_assoc made (inner_view made p ∷ []) g.0)

behind_both : (made : List Inner) (ps more : List ProtoView) → inners_behind made (ps ++ more) ≡ inners_behind (inners_behind made ps) more
behind_both made [] more = refl
behind_both made (p ∷ ps) more = behind_both (made ++ inner_view made p ∷ []) ps more

behind_length : (made : List Inner) (ps : List ProtoView) → length (inners_behind made ps) ≡ length made + length ps
behind_length made [] = omega arith
behind_length made (p ∷ ps) =
    let m = length-append made (inner_view made p ∷ []) in
    let b = behind_length (made ++ inner_view made p ∷ []) ps in
    omega (arith, m, b)

pub inners_length : (ps : List ProtoView) → length (inners ps) ≡ length ps
inners_length ps = behind_length [] ps ∙ omega arith

step_among : (cs : List Constant) (made more : List Inner) (s : Step) → MakesBefore (length made) s.instr → step_view cs (made ++ more) s ≡ step_view cs made s
step_among cs made more s b = ap (first_or i.tick) (inners_added made more (alone cs s) (b, tt))

steps_among : (cs : List Constant) (made more : List Inner) (ss : List Step) → AllByRecursion (IsStepAmong (length made)) ss → map (step_view cs (made ++ more)) ss ≡ map (step_view cs made) ss
steps_among cs made more [] all = refl
steps_among cs made more (s ∷ ss) all =
    ap (λ x. x ∷ map (step_view cs (made ++ more)) ss) (step_among cs made more s all.0)
    ∙ ap (λ xs. step_view cs made s ∷ xs) (steps_among cs made more ss all.1)

-- functions that are made later leave a draft's code
pub draft_among : (ps more : List ProtoView) (d : Drafted) → MakesAmong (length ps) d → draft_code (inners (ps ++ more)) d ≡ draft_code (inners ps) d
draft_among ps more d all =
    let g = behind_grows (inners ps) more in
    ap (λ made. draft_code made d) (behind_both [] ps more ∙ g.1)
    ∙ ap reverse (steps_among d.proto.constants (inners ps) g.0 d.steps (subst (λ n. MakesAmong n d) (sym (inners_length ps)) all))

-- ---- a draft that is finished

-- a step that holds of each holds at a place
pub known_at : (P : Step → Type 0) (ss : List Step) (k : ℕ) (s : Step) → AllByRecursion P ss → k < length ss → s ≡ get_or ss k s → P s
known_at P [] k s all lt e = absurd (let z : ⊥ = omega (arith, lt) in z)
known_at P (x ∷ ss) zero s all lt e = subst P (sym e) all.0
known_at P (x ∷ ss) (suc k) s all lt e = known_at P ss k s all.1 (omega (arith, lt)) e

-- from a place on, the last instruction first
abbrev pub code_from : List Inner → List Constant → List Step → ℕ → List i.Instr
code_from made cs ss at = reverse (map (step_view cs made) (drop at ss))

pub code_from_end : (made : List Inner) (cs : List Constant) (ss : List Step) → code_from made cs ss (length ss) ≡ []
code_from_end made cs ss = ap (λ l. reverse (map (step_view cs made) l)) (drop_all (length ss) ss (omega arith))

pub code_from_more : (made : List Inner) (cs : List Constant) (ss : List Step) (at : ℕ) (s : Step) → at < length ss → s ≡ get_or ss at s → code_from made cs ss at ≡ code_from made cs ss (suc at) ++ step_view cs made s ∷ []
code_from_more made cs ss at s lt e =
    let f : Step → i.Instr = step_view cs made in
    ap (λ l. reverse (map f l)) (drop_more ss at s lt ∙ ap (λ l. get_or ss at s ∷ l) (ap (λ n. drop n ss) (let n : at + 1 ≡ suc at = omega arith in n)) ∙ ap (λ x. x ∷ drop (suc at) ss) (sym e))
    ∙ reverse-append (f s ∷ []) (map f (drop (suc at) ss))

-- an instruction is put behind those that are in order
pub in_order : (made : List Inner) (p : ProtoView) (ss : List Step) (at : ℕ) (s : Step) → IsProto p → body_view made p ≡ code_from made p.constants ss (suc at) → at < length ss → s ≡ get_or ss at s
    → body_view made (record p { size = max p.size (slots_of s.instr); instrs = p.instrs ++ s.instr ∷ []; sites = p.sites ++ s.site ∷ [] }) ≡ code_from made p.constants ss at
in_order made p ss at s is e lt g =
    instr_added made p s.instr s.site is
    ∙ ap (λ xs. xs ++ step_view p.constants made s ∷ []) e
    ∙ sym (code_from_more made p.constants ss at s lt g)

pub none_in_order : (made : List Inner) (p : ProtoView) → p.instrs ≡ [] → body_view made p ≡ []
none_in_order made p e = ap (λ xs. instrs_view p.constants made xs p.sites) e

-- what a turn of the loop keeps that puts them in order
abbrev pub Ordered : (p0 : ProtoView) → List Step → ProtoView → ℕ → Type 0
Ordered p0 ss p n =
    (n ≤ length ss)
    × IsProto p
    × (proto_head p ≡ proto_head p0)
    × (p.constants ≡ p0.constants)
    × ((made : List Inner) → body_view made p ≡ code_from made p.constants ss n)

pub ordered_more : (p0 : ProtoView) (ss : List Step) (p q : ProtoView) (n m : ℕ) (s : Step) → Ordered p0 ss p n → n ≡ suc m → s ≡ get_or ss m s → q ≡ record p { size = max p.size (slots_of s.instr); instrs = p.instrs ++ s.instr ∷ []; sites = p.sites ++ s.site ∷ [] } → IsProto q → Ordered p0 ss q m
ordered_more p0 ss p q n m s inv e g f is =
    let le : n ≤ length ss = inv.0 in
    let lt : m < length ss = omega (arith, le, e) in (
      omega (arith, lt),
      is,
      ap proto_head f ∙ inv.2,
      ap (λ (r : ProtoView). r.constants) f ∙ inv.3,
      λ made.
          ap (body_view made) f
          ∙ in_order made p ss m s inv.1 (inv.4 made ∙ ap (λ k. code_from made p.constants ss k) e) lt g
          ∙ ap (λ cs. code_from made cs ss m) (sym (ap (λ (r : ProtoView). r.constants) f)),
    )

pub known_same : (d : Drafted) (p : ProtoView) (c : Constant) (old : Drafted) → old ≡ d → IsDrafted d → p ≡ record d.proto { constants = d.proto.constants ++ c ∷ [] } → SameCode old (record { proto = p; steps = d.steps })
known_same d p c old e is f =
    subst (λ (o : Drafted). SameCode o (record { proto = p; steps = d.steps })) (sym e)
    (subst (λ (q : ProtoView). SameCode d (record { proto = q; steps = d.steps })) (sym f) (λ made. draft_known made d c is))
