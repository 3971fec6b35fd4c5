-- The first part of a text that is a given one.
use Rattle.std.proofs.Common.{◌≡◌, ℕ, zero, suc, ◌+◌, ◌-◌, ◌<◌, ◌≤◌, ℤ, Bool, true, false, not, ◌&&◌, cond, nat_eq, Option, Some, None, List, [], ◌∷◌, length, take, drop, get_or, arith, ap, refl, sym, ◌∙◌, zero-add}
use Rattle.std.proofs.lemmas.Bool.{and_parts, and_from, eqb-true, eq-eqb, cond-true, cond-false, false_from_ne_true}
use Rattle.std.specs.Option.{option_map}
use Rattle.bstr.specs.Find.{FindsNeedle, OccursAt}
use Rattle.std.specs.Prelude.{codes}
use Rattle.std.proofs.lemmas.List.{take_rest}
use Rattle.lua_meaning.specs.Value.{Value, num, str, flag}
use Rattle.lua_meaning.specs.Store.{Store}
use Rattle.lua_meaning.specs.Fault.{says}
use Rattle.lua_meaning.specs.Arguments.{Answer, answers, answer, fault}
use Rattle.lua_meaning.specs.Strings as meaning
use Rattle.lua_meaning.specs.Strings.{begins_with, first_place}
use Rattle.lua_lib.specs.Outcome.{Gives}

-- ---- a text begins with another one

abbrev Front : List ℕ → List ℕ → Type 0
Front p t = (length p ≤ length t) × ((j : ℕ) → j < length p → get_or t j 0 ≡ get_or p j 0)

front-occurs : (p t : List ℕ) → OccursAt t p 0 → Front p t
front-occurs p t o =
    let fits = o.fits in
    (omega arith, λ j l. ap (λ (n : ℕ). get_or t n 0) (sym (zero-add j)) ∙ o.reads j l)

occurs-front : (p t : List ℕ) → Front p t → OccursAt t p 0
occurs-front p t f =
    let fits = f.0 in
    record { fits = omega arith; reads = λ j l. ap (λ (n : ℕ). get_or t n 0) (zero-add j) ∙ f.1 j l }

front-begins : (p t : List ℕ) → begins_with p t ≡ true → Front p t
front-begins [] t e = (omega arith, λ j l. absurd (omega arith))
front-begins (p ∷ ps) [] e = cc
front-begins (p ∷ ps) (c ∷ cs) e =
    let parts = and_parts (nat_eq p c) (begins_with ps cs) e in
    let rest = front-begins ps cs parts.1 in
    let within = rest.0 in
    (omega arith, at (eqb-true p c parts.0) rest.1)
  where
    at : p ≡ c → ((j : ℕ) → j < length ps → get_or cs j 0 ≡ get_or ps j 0) → (j : ℕ) → j < length (p ∷ ps) →
        get_or (c ∷ cs) j 0 ≡ get_or (p ∷ ps) j 0
    at same rest zero l = sym same
    at same rest (suc j) l = rest j (omega arith)

begins-front : (p t : List ℕ) → Front p t → begins_with p t ≡ true
begins-front [] t f = refl
begins-front (p ∷ ps) [] f = let within = f.0 in absurd (omega arith)
begins-front (p ∷ ps) (c ∷ cs) f =
    let within = f.0 in
    and_from (nat_eq p c) (begins_with ps cs) (eq-eqb p c (sym (f.1 0 (omega arith))))
    (begins-front ps cs (omega arith, λ j l. f.1 (suc j) (omega arith)))

begins : (p t : List ℕ) → OccursAt t p 0 → begins_with p t ≡ true
begins p t o = begins-front p t (front-occurs p t o)

begins_not : (p t : List ℕ) → (OccursAt t p 0 → ⊥) → begins_with p t ≡ false
begins_not p t none = false_from_ne_true (begins_with p t) (λ e. none (occurs-front p t (front-begins p t e)))

-- ---- one byte further

further : (p cs : List ℕ) (c k : ℕ) → OccursAt cs p k → OccursAt (c ∷ cs) p (suc k)
further p cs c k o =
    let fits = o.fits in
    record {
      fits = omega arith;
      reads = λ j l. let next : suc k + j ≡ suc (k + j) = omega arith in
          ap (λ (n : ℕ). get_or (c ∷ cs) n 0) next ∙ o.reads j l;
    }

back : (p cs : List ℕ) (c k : ℕ) → OccursAt (c ∷ cs) p (suc k) → OccursAt cs p k
back p cs c k o =
    let fits = o.fits in
    record {
      fits = omega arith;
      reads = λ j l. let next : suc (k + j) ≡ suc k + j = omega arith in
          ap (λ (n : ℕ). get_or (c ∷ cs) n 0) next ∙ o.reads j l;
    }

-- ---- the first place

pub first_place-found : (p text : List ℕ) (passed : ℕ) (r : Option ℕ) → FindsNeedle text p 0 r →
    first_place p text passed ≡ option_map (λ k. passed + k + 1) r
first_place-found p [] passed None h =
    cond-false (begins_with p []) (Some (suc passed)) None (begins_not p [] (h 0 (omega arith) (omega arith)))
first_place-found p [] passed (Some k) (before, at) =
    let high = before.high in
    let start : k ≡ 0 = omega arith in
    let next : suc passed ≡ passed + k + 1 = omega arith in
    cond-true (begins_with p []) (Some (suc passed)) None (begins p [] (rw start at at))
    ∙ ap (λ (n : ℕ). Some n) next
first_place-found p (c ∷ cs) passed None h =
    cond-false (begins_with p (c ∷ cs)) (Some (suc passed)) (first_place p cs (suc passed))
    (begins_not p (c ∷ cs) (h 0 (omega arith) (omega arith)))
    ∙ first_place-found p cs (suc passed) None (λ k low high o. h (suc k) (omega arith) (omega arith) (further p cs c k o))
first_place-found p (c ∷ cs) passed (Some zero) (before, at) =
    let next : suc passed ≡ passed + 0 + 1 = omega arith in
    cond-true (begins_with p (c ∷ cs)) (Some (suc passed)) (first_place p cs (suc passed)) (begins p (c ∷ cs) at)
    ∙ ap (λ (n : ℕ). Some n) next
first_place-found p (c ∷ cs) passed (Some (suc k)) (before, at) =
    let high = before.high in
    let next : suc passed + k + 1 ≡ passed + suc k + 1 = omega arith in
    cond-false (begins_with p (c ∷ cs)) (Some (suc passed)) (first_place p cs (suc passed))
    (begins_not p (c ∷ cs) (before.before 0 (omega arith) (omega arith)))
    ∙ (first_place-found p cs (suc passed) (Some k) (
      record {
        low = omega arith;
        high = omega arith;
        before = λ j low below o. before.before (suc j) (omega arith) (omega arith) (further p cs c j o);
      },
      back p cs c k at,
    )
    ∙ ap (λ (n : ℕ). Some n) next)

-- ---- `find`

abbrev found : List ℕ → List ℕ → ℤ → Bool → Store → Answer (List Value)
found text wanted init refused s =
    cond refused (fault (says (codes "patterns are not available")))
    (answer (meaning.found_places (length wanted)
    (first_place wanted (drop (meaning.passed_over (length text) init) text) (meaning.passed_over (length text) init)))) s

find-plain : (text wanted : List ℕ) (init : ℤ) (plain : Bool) (place : Option ℕ) → (meaning.is_pattern wanted && not plain) ≡ false →
    first_place wanted (drop (meaning.passed_over (length text) init) text) (meaning.passed_over (length text) init) ≡ place →
    Gives (meaning.find (str text ∷ str wanted ∷ num init ∷ flag plain ∷ [])) (meaning.found_places (length wanted) place)
find-plain text wanted init plain place e h = λ s.
    ap (λ (refused : Bool). found text wanted init refused s) e
    ∙ ap (λ (p : Option ℕ). answers (meaning.found_places (length wanted) p) s) h

pub find-found : (text wanted : List ℕ) (init : ℤ) (plain : Bool) (p : ℕ) (r : Option ℕ) → (meaning.is_pattern wanted && not plain) ≡ false →
    p ≡ meaning.passed_over (length text) init → FindsNeedle (take (length text - p) (drop p text)) wanted 0 r →
    Gives (meaning.find (str text ∷ str wanted ∷ num init ∷ flag plain ∷ [])) (meaning.found_places (length wanted) (option_map (λ k. p + k + 1) r))
find-found text wanted init plain p r e same h =
    find-plain text wanted init plain (option_map (λ k. p + k + 1) r) e
    (ap (λ (m : ℕ). first_place wanted (drop m text) m) (sym same)
    ∙ (ap (λ (l : List ℕ). first_place wanted l p) (sym (take_rest text p)) ∙ first_place-found wanted (take (length text - p) (drop p text)) p r h))

-- a text that stands for itself: it has no byte of a pattern, or is meant plainly
pub no_pattern : (p plain : Bool) → p ≡ false → (p && not plain) ≡ false
no_pattern p plain e = ap (λ (b : Bool). b && not plain) e

pub meant_plain : (p plain : Bool) → plain ≡ true → (p && not plain) ≡ false
meant_plain true plain e = ap not e
meant_plain false plain e = refl
