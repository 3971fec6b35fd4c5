-- Histories by one entry more.
use Rattle.std.proofs.Common.{◌≡◌, List, [], ◌∷◌, ◌++◌, refl, sym, ap, ◌∙◌, append-nil, append_assoc}
use Rattle.std.proofs.lemmas.List.{same_from_push}
use Rattle.variant.specs.Histories.{AtEach}

-- a list with an item has a last one
pub last_of : {A : Type 0} → (x : A) (xs : List A) → (init : List A) × (last : A) × (x ∷ xs ≡ init ++ last ∷ [])
last_of x [] = ([], x, refl)
last_of x (y ∷ ys) = let rest = last_of y ys in (x ∷ rest.0, rest.1, ap (λ zs. x ∷ zs) rest.2)

-- what holds at first, and after one more entry, holds of every history
pub by_entries : {E : Type 0} → (P : List E → Type 0) → P [] → ((h : List E) (e : E) → P h → P (h ++ e ∷ [])) → (h : List E) → P h
by_entries {E} P start step h = onwards [] h start
  where
    onwards : (before after : List E) → P before → P (before ++ after)
    onwards before [] p = rw append-nil p
    onwards before (e ∷ es) p = rw (← (append_assoc before (e ∷ []) es)) (onwards (before ++ e ∷ []) es (step before e p))

pub AtEach-nil : {E : Type 0} → (P : List E → E → Type 0) → AtEach P []
AtEach-nil {E} P = λ before e after same. absurd (no_entry before e after same)
  where
    no_entry : (before : List E) (e : E) (after : List E) → [] ≡ before ++ e ∷ after → ⊥
    no_entry [] e after same = cc
    no_entry (b ∷ bs) e after same = cc

-- one entry more keeps a fact of each, where it holds of that one
pub AtEach-push : {E : Type 0} → (P : List E → E → Type 0) (h : List E) (e : E) → AtEach P h → P h e → AtEach P (h ++ e ∷ [])
AtEach-push {E} P h e each here = at
  where
    at : (before : List E) (x : E) (after : List E) → h ++ e ∷ [] ≡ before ++ x ∷ after → P before x
    at before x [] same = let parts = same_from_push h before e x same in rw (← parts.0, ← parts.1) here
    at before x (y ∷ ys) same =
        let end = last_of y ys in
        let parts = same_from_push h (before ++ x ∷ end.0) e end.1 (same ∙ ap (λ zs. before ++ x ∷ zs) end.2 ∙ sym (append_assoc before (x ∷ end.0) (end.1 ∷ []))) in
        each before x end.0 parts.0

pub AtEach-before : {E : Type 0} → (P : List E → E → Type 0) (before after : List E) → AtEach P (before ++ after) → AtEach P before
AtEach-before P before after each = λ b e a same. each b e (a ++ after) (ap (λ zs. zs ++ after) same ∙ append_assoc b (e ∷ a) after)

pub AtEach-last : {E : Type 0} → (P : List E → E → Type 0) (h : List E) (e : E) → AtEach P (h ++ e ∷ []) → P h e
AtEach-last P h e each = each h e [] refl

pub AtEach-weaker : {E : Type 0} → (P Q : List E → E → Type 0) (h : List E) → ((before : List E) (e : E) → P before e → Q before e) → AtEach P h → AtEach Q h
AtEach-weaker P Q h weaker each = λ before e after same. weaker before e (each before e after same)
