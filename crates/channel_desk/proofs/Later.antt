-- A stamp that is later than the last one of its state is later than all of them.
use Rattle.std.proofs.Common.{◌≡◌, ◌≢◌, ◌∙◌, ℕ, suc, ◌+◌, ◌<◌, ◌≤◌, List, ◌∷◌, ◌++◌, length, get_or, take, drop, sym, ap, arith, All}
use Rattle.std.proofs.lemmas.List.{get_or-take, get_or_default, take-append-drop, length-take}
use Rattle.std.proofs.Math.Seq.{drop-cons}
use mathlib.Core.Logic.{dite}
use native.Mathlib.Decide.{dec_le, ℕ_discrete}

module _ {E : Type 0} (state number : E → ℕ) where
  -- the entries of this state come before the number n
  abbrev pub Before : ℕ → ℕ → List E → Type 0
  Before s n h = All (λ (x : E). state x ≡ s → number x < n) h

  -- the history around its entry at a place
  pub around : (h : List E) (k : ℕ) (d : E) → k < length h → h ≡ take k h ++ get_or h k d ∷ drop (suc k) h
  around h k d lt = sym (take-append-drop k h) ∙ ap (λ (l : List E). take k h ++ l) (drop-cons h k d lt)

  -- no entry from the place on is of the state
  abbrev pub Behind : ℕ → ℕ → List E → Type 0
  Behind at s h = (k : ℕ) (d : E) → at ≤ k → k < length h → state (get_or h k d) ≢ s

  pub later_by_none : (h : List E) (at s n : ℕ) → at ≡ 0 → Behind at s h → Before s n h
  later_by_none h at s n zero behind = λ k d lt q. absurd (behind k d (omega arith) lt q)

  pub later_by_last : (h : List E) (at s n : ℕ) (e : E) → at < length h → e ≡ get_or h at e → state e ≡ s → Before (state e) (number e) (take at h) → Behind (at + 1) s h → number e < n → Before s n h
  later_by_last h at s n e inside is here before behind below = λ k d lt q. dite (dec_le (k + 1) at)
      (λ lower. let same : get_or (take at h) k d ≡ get_or h k d = get_or-take at h k d (omega arith) in let long = length-take at h in
      let f : number (get_or (take at h) k d) < number e = before k d (omega arith) (ap state same ∙ (q ∙ sym here)) in
      let g : number (get_or (take at h) k d) ≡ number (get_or h k d) = ap number same in omega arith)
      (λ nl. dite (ℕ_discrete k at)
      (λ eq. let same : get_or h k d ≡ e = ap (λ (i : ℕ). get_or h i d) eq ∙ (get_or_default h at d e inside ∙ sym is) in let g : number (get_or h k d) ≡ number e = ap number same in omega arith)
      (λ ne. absurd (behind k d (omega arith) lt q)))

  -- and the other way round
  pub last_below : (h : List E) (at s n : ℕ) (e : E) → at < length h → e ≡ get_or h at e → state e ≡ s → Before s n h → number e < n
  last_below h at s n e inside is here all = let f : number (get_or h at e) < n = all at e inside (ap state (sym is) ∙ here) in let g : number e ≡ number (get_or h at e) = ap number is in omega arith
