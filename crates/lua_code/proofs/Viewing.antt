-- What code that is being made stands for.
use Rattle.std.proofs.Common.{◌≡◌, ℕ, zero, suc, ◌<◌, List, [], ◌∷◌, ◌++◌, length, set, refl, ap, ◌∙◌, Some, slice_get, arith}
use Rattle.std.specs.Prelude.{max}
use Rattle.std.specs.List.{AllByRecursion}
use Rattle.std.proofs.lemmas.Option.{none-some, same_Some}
use Rattle.lua_tree.specs.View.{binary_view}
use Rattle.lua_meaning.specs.Expressions.{globals}
use Rattle.lua_code.specs.Instr as i
use Rattle.lua_code.specs.declared.constant.Constant.{Constant}
use Rattle.lua_code.specs.declared.instr.Instr.{Instr}
use Rattle.lua_code.specs.declared.instr.Instr.TheVariants.{Const, SetCellConst, Close, SetItemConst, SetNewConst, SetNewNamed, SetNewNamedConst, BinaryConst, GetNamed, GetGlobal, SetFieldConst, SetNamed, SetNamedConst, SetGlobal, SetGlobalConst}
use Rattle.lua_code.specs.declared.instr.Site.{Site}
use Rattle.lua_code.specs.View.{ProtoView, MakesBefore, Inner, inner_at, constant_at, constant_view, site_view, instr_view, instrs_view, body_view, inner_view, inners_behind, inners}
use Rattle.lua_code.specs.Within.{slots_of, AreKnown, IsWithin, IsProto}

-- ---- constants

pub constant_before : (cs : List Constant) (c : Constant) (n : ℕ) → n < length cs → constant_at (cs ++ c ∷ []) n ≡ constant_at cs n
constant_before [] c n lt = absurd (let e : ⊥ = omega (arith, lt) in e)
constant_before (d ∷ cs) c zero lt = refl
constant_before (d ∷ cs) c (suc n) lt = constant_before cs c n (omega (arith, lt))

pub constant_last : (cs : List Constant) (c : Constant) → constant_at (cs ++ c ∷ []) (length cs) ≡ constant_view c
constant_last [] c = refl
constant_last (d ∷ cs) c = constant_last cs c

module _ (cs : List Constant) (c : Constant) (made : List Inner) (s : i.Site) where
  -- an instruction is the same among more constants
  with_constant : (x : Instr) → AreKnown (length cs) x → instr_view (cs ++ c ∷ []) made s x ≡ instr_view cs made s x
  with_constant (Const to n) k = ap (λ v. i.load to (i.constant v)) (constant_before cs c n k)
  with_constant (SetCellConst cell n) k = ap (λ v. i.set_cell cell (i.constant v)) (constant_before cs c n k)
  with_constant (SetItemConst t number n) k = ap (λ v. i.set_item t number (i.constant v)) (constant_before cs c n k)
  with_constant (SetNewConst t key n) k = ap (λ v. i.set_new s t (i.slot key) (i.constant v)) (constant_before cs c n k)
  with_constant (SetNewNamed t name from) k = ap (λ v. i.set_new s t (i.constant v) (i.slot from)) (constant_before cs c name k)
  with_constant (SetNewNamedConst t name n) k = ap (λ v. i.set_new s t (i.constant v) (i.constant (constant_at (cs ++ c ∷ []) n))) (constant_before cs c name k.0) ∙ ap (λ v. i.set_new s t (i.constant (constant_at cs name)) (i.constant v)) (constant_before cs c n k.1)
  with_constant (BinaryConst op to left n) k = ap (λ v. i.binary s (binary_view op) to (i.slot left) (i.constant v)) (constant_before cs c n k)
  with_constant (GetNamed to base name) k = ap (λ v. i.get_field s to (i.slot base) (i.constant v)) (constant_before cs c name k)
  with_constant (GetGlobal to name) k = ap (λ v. i.get_field s to (i.constant globals) (i.constant v)) (constant_before cs c name k)
  with_constant (SetFieldConst base key n) k = ap (λ v. i.set_field s (i.slot base) (i.slot key) (i.constant v)) (constant_before cs c n k)
  with_constant (SetNamed base name from) k = ap (λ v. i.set_field s (i.slot base) (i.constant v) (i.slot from)) (constant_before cs c name k)
  with_constant (SetNamedConst base name n) k = ap (λ v. i.set_field s (i.slot base) (i.constant v) (i.constant (constant_at (cs ++ c ∷ []) n))) (constant_before cs c name k.0) ∙ ap (λ v. i.set_field s (i.slot base) (i.constant (constant_at cs name)) (i.constant v)) (constant_before cs c n k.1)
  with_constant (SetGlobal name from) k = ap (λ v. i.set_field s (i.constant globals) (i.constant v) (i.slot from)) (constant_before cs c name k)
  with_constant (SetGlobalConst name n) k = ap (λ v. i.set_field s (i.constant globals) (i.constant v) (i.constant (constant_at (cs ++ c ∷ []) n))) (constant_before cs c name k.0) ∙ ap (λ v. i.set_field s (i.constant globals) (i.constant (constant_at cs name)) (i.constant v)) (constant_before cs c n k.1)
  with_constant x k = refl

all_with_constant : (cs : List Constant) (c : Constant) (made : List Inner) (size : ℕ) (xs : List Instr) (sites : List Site) → AllByRecursion (IsWithin size (length cs)) xs → instrs_view (cs ++ c ∷ []) made xs sites ≡ instrs_view cs made xs sites
all_with_constant cs c made size [] sites all = refl
all_with_constant cs c made size (x ∷ xs) [] all = refl
all_with_constant cs c made size (x ∷ xs) (s ∷ sites) all =
    ap (λ y. y ∷ instrs_view (cs ++ c ∷ []) made xs sites) (with_constant cs c made (site_view s) x all.0.constants)
    ∙ ap (λ ys. instr_view cs made (site_view s) x ∷ ys) (all_with_constant cs c made size xs sites all.1)

-- a constant more leaves a function's instructions
pub constant_added : (made : List Inner) (p : ProtoView) (c : Constant) → IsProto p → body_view made (record p { constants = p.constants ++ c ∷ [] }) ≡ body_view made p
constant_added made p c is = all_with_constant p.constants c made p.size p.instrs p.sites is.within

-- ---- functions

inner_before : (made : List Inner) (more : List Inner) (n : ℕ) → n < length made → inner_at (made ++ more) n ≡ inner_at made n
inner_before [] more n lt = absurd (let e : ⊥ = omega (arith, lt) in e)
inner_before (x ∷ made) more zero lt = refl
inner_before (x ∷ made) more (suc n) lt = inner_before made more n (omega (arith, lt))

with_inners : (cs : List Constant) (made more : List Inner) (s : i.Site) (x : Instr) → MakesBefore (length made) x → instr_view cs (made ++ more) s x ≡ instr_view cs made s x
with_inners cs made more s (Close to n) b = ap (λ (y : Inner). i.close to y.code y.captures) (inner_before made more n b)
with_inners cs made more s x b = refl

all_with_inners : (cs : List Constant) (made more : List Inner) (xs : List Instr) (sites : List Site) → AllByRecursion (MakesBefore (length made)) xs → instrs_view cs (made ++ more) xs sites ≡ instrs_view cs made xs sites
all_with_inners cs made more [] sites all = refl
all_with_inners cs made more (x ∷ xs) [] all = refl
all_with_inners cs made more (x ∷ xs) (s ∷ sites) all =
    ap (λ y. y ∷ instrs_view cs (made ++ more) xs sites) (with_inners cs made more (site_view s) x all.0)
    ∙ ap (λ ys. instr_view cs made (site_view s) x ∷ ys) (all_with_inners cs made more xs sites all.1)

-- more functions leave a function that makes only those before
pub inners_added : (made more : List Inner) (p : ProtoView) → AllByRecursion (MakesBefore (length made)) p.instrs → body_view (made ++ more) p ≡ body_view made p
inners_added made more p all = all_with_inners p.constants made more p.instrs p.sites all

behind_last : (made : List Inner) (ps : List ProtoView) (p : ProtoView) → inners_behind made (ps ++ p ∷ []) ≡ inners_behind made ps ++ inner_view (inners_behind made ps) p ∷ []
behind_last made [] p = refl
behind_last made (q ∷ ps) p = behind_last (made ++ inner_view made q ∷ []) ps p

-- the functions of a list with one more
pub inners_last : (ps : List ProtoView) (p : ProtoView) → inners (ps ++ p ∷ []) ≡ inners ps ++ inner_view (inners ps) p ∷ []
inners_last ps p = behind_last [] ps p

-- ---- instructions

view_last : (cs : List Constant) (made : List Inner) (xs : List Instr) (sites : List Site) (x : Instr) (s : Site) → length sites ≡ length xs → instrs_view cs made (xs ++ x ∷ []) (sites ++ s ∷ []) ≡ instrs_view cs made xs sites ++ instr_view cs made (site_view s) x ∷ []
view_last cs made [] [] x s e = refl
view_last cs made [] (t ∷ sites) x s e = absurd (let z : ⊥ = omega (arith, e) in z)
view_last cs made (y ∷ xs) [] x s e = absurd (let z : ⊥ = omega (arith, e) in z)
view_last cs made (y ∷ xs) (t ∷ sites) x s e = ap (λ ys. instr_view cs made (site_view t) y ∷ ys) (view_last cs made xs sites x s (omega (arith, e)))

-- an instruction at the end
pub instr_added : (made : List Inner) (p : ProtoView) (x : Instr) (s : Site) → IsProto p → body_view made (record p { size = max p.size (slots_of x); instrs = p.instrs ++ x ∷ []; sites = p.sites ++ s ∷ [] }) ≡ body_view made p ++ instr_view p.constants made (site_view s) x ∷ []
instr_added made p x s is = view_last p.constants made p.instrs p.sites x s is.sites

view_set : (cs : List Constant) (made : List Inner) (xs : List Instr) (sites : List Site) (n : ℕ) (x : Instr) (s : Site) → slice_get sites n ≡ Some s → instrs_view cs made (set xs n x) sites ≡ set (instrs_view cs made xs sites) n (instr_view cs made (site_view s) x)
view_set cs made [] sites n x s e = refl
view_set cs made (y ∷ xs) [] n x s e = absurd (none-some s e)
view_set cs made (y ∷ xs) (t ∷ sites) zero x s e = ap (λ (u : Site). instr_view cs made (site_view u) x ∷ instrs_view cs made xs sites) (same_Some t s e)
view_set cs made (y ∷ xs) (t ∷ sites) (suc n) x s e = ap (λ ys. instr_view cs made (site_view t) y ∷ ys) (view_set cs made xs sites n x s e)

-- another instruction in the place of one, at that one's site
pub instr_replaced : (made : List Inner) (p : ProtoView) (n : ℕ) (x : Instr) (s : Site) → slice_get p.sites n ≡ Some s → body_view made (record p { size = max p.size (slots_of x); instrs = set p.instrs n x }) ≡ set (body_view made p) n (instr_view p.constants made (site_view s) x)
instr_replaced made p n x s e = view_set p.constants made p.instrs p.sites n x s e
