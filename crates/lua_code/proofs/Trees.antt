-- The code of valid prototypes is sound.
use Rattle.std.proofs.Common.{ℕ, zero, suc, ◌+◌, ◌≡◌, ◌<◌, refl, sym, ap, ◌∙◌, subst, List, [], ◌∷◌, ◌++◌, length, Some, slice_get, arith}
use Rattle.std.specs.Prelude.{unwrap_or}
use Rattle.std.specs.List.{AllByRecursion}
use Rattle.std.proofs.lemmas.Option.{none-some}
use Rattle.std.proofs.lemmas.List.{length-append}
use Rattle.lua_code.specs.Instr as i
use Rattle.lua_code.specs.Instr.{Instrs, instrs_of, list_of}
use Rattle.lua_code.specs.declared.constant.Constant.{Constant}
use Rattle.lua_code.specs.declared.instr.Instr.{Instr}
use Rattle.lua_code.specs.declared.instr.Instr.TheVariants.{Close, Tick, Skip, SkipIf, SkipUnless, BackIf, BackUnless, ForBegin, ForNext, EachNext, Leave}
use Rattle.lua_code.specs.declared.instr.Site.{Site}
use Rattle.lua_code.specs.View.{MakesBefore, ProtoView, Inner, inner_at, site_view, instr_view, instrs_view, body_view, proto_view, inner_view, inners_behind, inners}
use Rattle.lua_code.specs.Valid.{Reaches, Uses, IsFine, IsSound, IsSoundOf, AreValid, instr_at, cells_at, cells_behind}
use Rattle.lua_code.specs.Sound.{IsSoundCode, AreSound, GoesOn}
use Rattle.lua_code.specs.Trees.{AllSound}

abbrev AreInner : List Inner → Type 0
AreInner made = AllByRecursion (λ (x : Inner). IsSoundCode x.code) made

inner_sound : (made : List Inner) (n : ℕ) → n < length made → AreInner made → IsSoundCode (inner_at made n).code
inner_sound [] n lt s = absurd (let e : ⊥ = omega (arith, lt) in e)
inner_sound (x ∷ made) zero lt s = s.0
inner_sound (x ∷ made) (suc n) lt s = inner_sound made n (omega (arith, lt)) s.1

inner_last : (made : List Inner) (x : Inner) → AreInner made → IsSoundCode x.code → AreInner (made ++ x ∷ [])
inner_last [] x s own = (own, tt)
inner_last (y ∷ made) x s own = (s.0, inner_last made x s.1 own)

list_same : (xs : List i.Instr) → list_of (instrs_of xs) ≡ xs
list_same [] = refl
list_same (x ∷ xs) = ap (λ ys. x ∷ ys) (list_same xs)

-- one prototype among functions that are made
makes_before : (ps : List ProtoView) (own cells : ℕ) (x : Instr) → Uses ps own cells x → MakesBefore own x
makes_before ps own cells (Close to n) u = u.0
makes_before ps own cells x u = tt

module _ (constants : List Constant) (made : List Inner) (p : ProtoView) (sound : AreInner made) where
  abbrev len : ℕ
  len = length p.instrs

  goes_on : (pc cells : ℕ) (s : i.Site) (x : Instr) → Reaches p cells pc x → MakesBefore (length made) x → GoesOn len pc (instr_view constants made s x)
  goes_on pc cells s (Close to n) r u = (r.inside, inner_sound made n u sound)
  goes_on pc cells s (Skip n) r u = r.inside
  goes_on pc cells s (SkipIf from n) r u = r.1.inside
  goes_on pc cells s (SkipUnless from n) r u = r.1.inside
  goes_on pc cells s (ForBegin at n) r u = r.1.inside
  goes_on pc cells s (BackIf from n) r u = r.0.inside
  goes_on pc cells s (BackUnless from n) r u = r.0.inside
  goes_on pc cells s (ForNext at n) r u = r.0.inside
  goes_on pc cells s (EachNext at n) r u = r.0.inside
  goes_on pc cells s (Leave from count tailed) r u = tt
  goes_on pc cells s x r u = r.inside

  -- from a place on, where what is behind is part of the prototype
  all_go_on : (pc : ℕ) (xs : List Instr) (sites : List Site) → ((k : ℕ) (x : Instr) → slice_get xs k ≡ Some x → (s : i.Site) → GoesOn len (pc + k) (instr_view constants made s x)) → AreSound len pc (instrs_of (instrs_view constants made xs sites))
  all_go_on pc [] sites g = tt
  all_go_on pc (x ∷ xs) [] g = tt
  all_go_on pc (x ∷ xs) (s ∷ sites) g = (
    subst (λ n. GoesOn len n (instr_view constants made (site_view s) x)) (let e : pc + 0 ≡ pc = omega arith in e) (g 0 x refl (site_view s)),
    all_go_on (suc pc) xs sites (λ k y e t. subst (λ n. GoesOn len n (instr_view constants made t y)) (let e : pc + suc k ≡ suc pc + k = omega arith in e) (g (suc k) y e t)),
  )

view_length : (constants : List Constant) (made : List Inner) (xs : List Instr) (sites : List Site) → length sites ≡ length xs → length (instrs_view constants made xs sites) ≡ length xs
view_length constants made [] sites e = refl
view_length constants made (x ∷ xs) [] e = absurd (let z : ⊥ = omega (arith, e) in z)
view_length constants made (x ∷ xs) (s ∷ sites) e = ap suc (view_length constants made xs sites (omega (arith, e)))

get_below : {A : Type 0} (xs : List A) (k : ℕ) (x : A) → slice_get xs k ≡ Some x → k < length xs
get_below [] k x e = absurd (none-some x e)
get_below (y ∷ xs) zero x e = omega arith
get_below (y ∷ xs) (suc k) x e = let l = get_below xs k x e in omega (arith, l)

at_is : (p : ProtoView) (k : ℕ) (x : Instr) → slice_get p.instrs k ≡ Some x → instr_at p k ≡ x
at_is p k x e = ap (λ o. unwrap_or o Tick) e

proto_sound : (made : List Inner) (ps : List ProtoView) (p : ProtoView) → AreInner made → IsSound ps (length made) p → IsSoundCode (proto_view made p)
proto_sound made ps p sound own =
    let xs : List i.Instr = body_view made p in
    let same : list_of (instrs_of xs) ≡ xs = list_same xs in
    let long : length (list_of (instrs_of xs)) ≡ length p.instrs = ap (λ (ys : List i.Instr). length ys) same ∙ view_length p.constants made p.instrs p.sites own.held.sites in
    let inside = own.begins.inside in
    let short = own.short in (
      omega (arith, long, inside),
      omega (arith, long, short),
      subst (λ n. AreSound n 0 (instrs_of xs)) (sym long)
          (all_go_on p.constants made p sound 0 p.instrs p.sites
          (λ k x e s.
          let fine : IsFine ps (length made) p k = own.each k (get_below p.instrs k x e) in
          let here : instr_at p k ≡ x = at_is p k x e in
          subst (λ n. GoesOn (length p.instrs) n (instr_view p.constants made s x)) (let e : k ≡ 0 + k = omega arith in e)
          (goes_on p.constants made p sound k _ s x
          (subst (λ y. Reaches p (cells_behind (cells_at p k) y) k y) here fine.reaches)
          (subst (MakesBefore (length made)) here (makes_before ps (length made) (cells_at p k) (instr_at p k) fine.uses))))),
    )

-- all of a list, behind those that are made
behind_sound : (ps : List ProtoView) (rest : List ProtoView) (made : List Inner) → AreInner made → ((k : ℕ) (p : ProtoView) → slice_get rest k ≡ Some p → IsSound ps (length made + k) p) → AreInner (inners_behind made rest)
behind_sound ps [] made sound each = sound
behind_sound ps (p ∷ rest) made sound each =
    let own : IsSound ps (length made) p = subst (λ n. IsSound ps n p) (let e : length made + 0 ≡ length made = omega arith in e) (each 0 p refl) in
    let longer : length (made ++ inner_view made p ∷ []) ≡ length made + 1 = length-append made (inner_view made p ∷ []) in
    behind_sound ps rest (made ++ inner_view made p ∷ []) (inner_last made (inner_view made p) sound (proto_sound made ps p sound own))
    (λ k q e. subst (λ n. IsSound ps n q) (let e : length made + suc k ≡ length (made ++ inner_view made p ∷ []) + k = omega (arith, longer) in e) (each (suc k) q e))

behind_length : (rest : List ProtoView) (made : List Inner) → length (inners_behind made rest) ≡ length made + length rest
behind_length [] made = omega arith
behind_length (p ∷ rest) made =
    let longer : length (made ++ inner_view made p ∷ []) ≡ length made + 1 = length-append made (inner_view made p ∷ []) in
    let on = behind_length rest (made ++ inner_view made p ∷ []) in
    omega (arith, longer, on)

sound_of : (ps : List ProtoView) (n : ℕ) (p : ProtoView) → AreValid ps → slice_get ps n ≡ Some p → IsSound ps n p
sound_of ps n p valid e = subst (IsSoundOf ps n) e (valid.each n (get_below ps n p e))

pub all_sound : AllSound
all_sound ps valid n lt =
    inner_sound (inners ps) n (let e = behind_length ps [] in omega (arith, e, lt))
    (behind_sound ps ps [] tt (λ k p e. subst (λ n. IsSound ps n p) (let e : k ≡ 0 + k = omega arith in e) (sound_of ps k p valid e)))
