-- Texts at their places, and how they are found.
use Rattle.std.proofs.Common.{◌≡◌, ℕ, zero, suc, ◌+◌, ◌-◌, ◌<◌, ◌≤◌, Bool, true, false, cond, List, [], ◌∷◌, ◌++◌, length, take, drop, Option, None, Some, refl, sym, ap, subst, true≢false, ◌∙◌, slice_get, get_or, arith, ◌⊎◌, inl, inr, IsSome}
use Rattle.std.specs.List.{slice_range}
use Rattle.std.specs.Prelude.{bytes_eq, nat_eq, ◌==◌}
use Rattle.std.proofs.lemmas.Option.{none-some, same_Some, slice_get-get_or}
use Rattle.std.proofs.lemmas.List.{take-append-le, drop-append-le, length-map, map-append, take_all, append-nil, length-append, length-drop}
use Rattle.love_base.specs.Prefix.{IsPrefix}
use Rattle.std.proofs.Math.Seq.{drop-append_seam}
use Rattle.std.proofs.lemmas.Bool.Decides.{Decides-eqb}
use Rattle.std.proofs.lemmas.Slice.Eq.{bytes_eq-Decides}
use Rattle.lua_tree.specs.Tree.{Bytes}
use Rattle.lua_heap.specs.declared.texts.Span.{Span}
use Rattle.lua_heap.specs.Texts.{interned, AreOnce, text_hash, spanned, Lies, first_of, IsListed, AreFound, AreTexts, IsEntered, as_first, as_later}
use Rattle.lua_heap.proofs.Positions.{slice_get-append_left, slice_get-append_last, slice_get-append_by}

-- ---- a text among texts

-- a text that is among them changes nothing
pub interned-there : (texts : List Bytes) (text : Bytes) (n : ℕ) → slice_get texts n ≡ Some text → interned texts text ≡ texts
interned-there [] text n e = absurd (none-some text e)
interned-there (other ∷ texts) text zero e = here (bytes_eq other text) ((bytes_eq-Decides other text).1 (same_Some other text e))
  where
    here : (b : Bool) → b ≡ true → cond b (other ∷ texts) (other ∷ interned texts text) ≡ other ∷ texts
    here true t = refl
    here false t = cc
interned-there (other ∷ texts) text (suc n) e = there (bytes_eq other text) (interned-there texts text n e)
  where
    there : (b : Bool) → interned texts text ≡ texts → cond b (other ∷ texts) (other ∷ interned texts text) ≡ other ∷ texts
    there true same = refl
    there false same = ap (λ rest. other ∷ rest) same

-- a new text stands behind the others
pub interned-new : (texts : List Bytes) (text : Bytes) → ((n : ℕ) → slice_get texts n ≡ Some text → ⊥) → interned texts text ≡ texts ++ text ∷ []
interned-new [] text absent = refl
interned-new (other ∷ texts) text absent = by (bytes_eq other text) refl (interned-new texts text (λ n. absent (suc n)))
  where
    by : (b : Bool) → bytes_eq other text ≡ b → interned texts text ≡ texts ++ text ∷ [] → cond b (other ∷ texts) (other ∷ interned texts text) ≡ other ∷ (texts ++ text ∷ [])
    by true t later = absurd (absent zero (ap (λ o. Some o) ((bytes_eq-Decides other text).0 t)))
    by false t later = ap (λ rest. other ∷ rest) later

-- the earlier texts stay in front
pub interned-prefix : (texts : List Bytes) (text : Bytes) → IsPrefix texts (interned texts text)
interned-prefix [] text = (text ∷ [], refl)
interned-prefix (other ∷ texts) text = by (bytes_eq other text) (interned-prefix texts text)
  where
    by : (b : Bool) → IsPrefix texts (interned texts text) → IsPrefix (other ∷ texts) (cond b (other ∷ texts) (other ∷ interned texts text))
    by true later = ([], sym (append-nil (other ∷ texts)))
    by false later = (later.0, ap (λ rest. other ∷ rest) later.1)

pub AreOnce-new : (texts : List Bytes) (text : Bytes) → AreOnce texts → ((n : ℕ) → slice_get texts n ≡ Some text → ⊥) → AreOnce (texts ++ text ∷ [])
AreOnce-new texts text once absent = λ m n t em en. by m n t (slice_get-append_by texts text m t em) (slice_get-append_by texts text n t en)
  where
    Place : ℕ → Bytes → Type 0
    Place n t = (slice_get texts n ≡ Some t) ⊎ ((n ≡ length texts) × (text ≡ t))

    by : (m n : ℕ) (t : Bytes) → (slice_get texts m ≡ Some t) ⊎ ((m ≡ length texts) × (text ≡ t)) → (slice_get texts n ≡ Some t) ⊎ ((n ≡ length texts) × (text ≡ t)) → m ≡ n
    by m n t (inl em) (inl en) = once m n t em en
    by m n t (inl em) (inr en) = absurd (absent m (em ∙ ap (λ o. Some o) (sym en.1)))
    by m n t (inr em) (inl en) = absurd (absent n (en ∙ ap (λ o. Some o) (sym em.1)))
    by m n t (inr em) (inr en) = em.0 ∙ sym en.0

-- ---- the arena

pub slice_range-longer : (arena more : List ℕ) (start end : ℕ) → start ≤ end → end ≤ length arena → slice_range (arena ++ more) start end ≡ slice_range arena start end
slice_range-longer arena more start end rising within =
    let few : end - start ≤ length (drop start arena) = simp length-drop (omega arith) in
    ap (λ xs. take (end - start) xs) (drop-append-le start arena more (omega arith)) ∙ take-append-le (end - start) (drop start arena) more few

-- spans that lie in an arena are the same texts once it is longer
pub spanned-longer : (arena more : List ℕ) (spans : List Span) → ((k : ℕ) (span : Span) → slice_get spans k ≡ Some span → Lies arena span) → spanned (arena ++ more) spans ≡ spanned arena spans
spanned-longer arena more [] lie = refl
spanned-longer arena more (span ∷ spans) lie =
    let own : Lies arena span = lie zero span refl in
    let here = slice_range-longer arena more span.start span.end own.rising own.within in
    let later = spanned-longer arena more spans (λ k. lie (suc k)) in
    cc

-- the text that was put at the end of an arena
pub slice_range-last : (arena text : List ℕ) → slice_range (arena ++ text) (length arena) (length arena + length text) ≡ text
slice_range-last arena text =
    let size : length arena + length text - length arena ≡ length text = omega arith in
    ap (λ xs. take (length arena + length text - length arena) xs) (drop-append_seam arena text) ∙ ap (λ n. take n text) size ∙ take_all (length text) text (omega arith)

-- the texts once one was put at the end
pub spanned-appended : (arena text : List ℕ) (spans : List Span) → ((k : ℕ) (span : Span) → slice_get spans k ≡ Some span → Lies arena span)
    → spanned (arena ++ text) (spans ++ record { start = length arena; end = length arena + length text } ∷ []) ≡ spanned arena spans ++ text ∷ []
spanned-appended arena text spans lie =
    map-append _ spans (record { start = length arena; end = length arena + length text } ∷ [])
    ∙ ap (λ ts. ts ++ slice_range (arena ++ text) (length arena) (length arena + length text) ∷ []) (spanned-longer arena text spans lie)
    ∙ ap (λ t. spanned arena spans ++ t ∷ []) (slice_range-last arena text)

pub lie-appended : (arena text : List ℕ) (spans : List Span) → ((k : ℕ) (span : Span) → slice_get spans k ≡ Some span → Lies arena span)
    → (k : ℕ) (span : Span) → slice_get (spans ++ record { start = length arena; end = length arena + length text } ∷ []) k ≡ Some span → Lies (arena ++ text) span
lie-appended arena text spans lie k span there =
    by (slice_get-append_by spans (record { start = length arena; end = length arena + length text }) k span there)
  where
    by : (slice_get spans k ≡ Some span) ⊎ ((k ≡ length spans) × (record { start = length arena; end = length arena + length text } ≡ span)) → Lies (arena ++ text) span
    by (inl early) =
        let own : Lies arena span = lie k span early in
        let longer = length-append arena text in
        record { rising = own.rising; within = let w = own.within in omega (arith, longer) }
    by (inr last) =
        let longer = length-append arena text in
        let P : Span → Type 0 = λ s. Lies (arena ++ text) s in
        subst P last.1 (record { rising = omega arith; within = omega (arith, longer) })

-- ---- finding

-- a new text is found once its place is entered
pub AreFound-entered : (first : List (ℕ × ℕ)) (later : List ℕ) (texts : List Bytes) (first_then : List (ℕ × ℕ)) (later_then : List ℕ) (text : Bytes)
    → AreFound first later texts → IsEntered first later first_then later_then (text_hash text) (length texts) → AreFound first_then later_then (texts ++ text ∷ [])
AreFound-entered first later texts first_then later_then text found (as_first none entered same) = record {
  first_within = λ hash place e. within hash place (text_hash text == hash) refl (sym (entered hash) ∙ e);
  later_within = λ k place e. more place (found.later_within k place (ap (λ l. slice_get l k) (sym same) ∙ e));
  listed = λ place t e. listed place t (slice_get-append_by texts text place t e);
}
  where
    more : (place : ℕ) → place < length texts → place < length (texts ++ text ∷ [])
    more place h = let longer = length-append texts (text ∷ []) in omega (arith, longer)

    within : (hash place : ℕ) (b : Bool) → (text_hash text == hash) ≡ b → cond b (Some (length texts)) (first_of first hash) ≡ Some place → place < length (texts ++ text ∷ [])
    within hash place true t e = let longer = length-append texts (text ∷ []) in let same_place = same_Some (length texts) place e in omega (arith, longer)
    within hash place false t e = more place (found.first_within hash place e)

    -- a hash that had a place still has it
    kept : (hash : ℕ) (b : Bool) → (text_hash text == hash) ≡ b → IsSome (first_of first hash) → first_of first_then hash ≡ first_of first hash
    kept hash true t some =
        let same_hash : text_hash text ≡ hash = (Decides-eqb (text_hash text) hash).0 t in
        let P : Option ℕ → Type 0 = λ o. IsSome o in
        let bad : IsSome {T = ℕ} None = subst P (ap (λ h. first_of first h) (sym same_hash) ∙ none) some in
        absurd (true≢false (sym bad))
    kept hash false t some = entered hash ∙ ap (λ b. cond b (Some (length texts)) (first_of first hash)) t

    before : (place hash : ℕ) → IsListed first later hash place → IsListed first_then later_then hash place
    before place hash (inl e) =
        let some : IsSome (first_of first hash) = let P : Option ℕ → Type 0 = λ o. IsSome o in subst P (sym e) refl in
        inl (kept hash (text_hash text == hash) refl some ∙ e)
    before place hash (inr e) =
        let P : Option ℕ → Type 0 = λ o. IsSome o in
        inr (subst P (sym (kept hash (text_hash text == hash) refl e.0)) e.0, (e.1.0, ap (λ l. slice_get l e.1.0) same ∙ e.1.1))

    listed : (place : ℕ) (t : Bytes) → (slice_get texts place ≡ Some t) ⊎ ((place ≡ length texts) × (text ≡ t)) → IsListed first_then later_then (text_hash t) place
    listed place t (inl e) = before place (text_hash t) (found.listed place t e)
    listed place t (inr e) =
        let P : Bytes → Type 0 = λ u. IsListed first_then later_then (text_hash u) place in
        subst P e.1 (inl (entered (text_hash text) ∙ ap (λ b. cond b (Some (length texts)) (first_of first (text_hash text))) ((Decides-eqb (text_hash text) (text_hash text)).1 refl) ∙ ap (λ n. Some n) (sym e.0)))
AreFound-entered first later texts first_then later_then text found (as_later some same grown) = record {
  first_within = λ hash place e. more place (found.first_within hash place (ap (λ f. first_of f hash) (sym same) ∙ e));
  later_within = λ k place e. within place (slice_get-append_by later (length texts) k place (ap (λ l. slice_get l k) (sym grown) ∙ e));
  listed = λ place t e. listed place t (slice_get-append_by texts text place t e);
}
  where
    more : (place : ℕ) → place < length texts → place < length (texts ++ text ∷ [])
    more place h = let longer = length-append texts (text ∷ []) in omega (arith, longer)

    within : {k : ℕ} (place : ℕ) → (slice_get later k ≡ Some place) ⊎ ((k ≡ length later) × (length texts ≡ place)) → place < length (texts ++ text ∷ [])
    within {k} place (inl e) = more place (found.later_within k place e)
    within place (inr e) = let longer = length-append texts (text ∷ []) in let same_place = e.1 in omega (arith, longer)

    before : (place hash : ℕ) → IsListed first later hash place → IsListed first_then later_then hash place
    before place hash (inl e) = inl (ap (λ f. first_of f hash) same ∙ e)
    before place hash (inr e) =
        let P : Option ℕ → Type 0 = λ o. IsSome o in
        inr (subst P (ap (λ f. first_of f hash) (sym same)) e.0, (e.1.0, ap (λ l. slice_get l e.1.0) grown ∙ slice_get-append_left later (length texts ∷ []) e.1.0 place e.1.1))

    listed : (place : ℕ) (t : Bytes) → (slice_get texts place ≡ Some t) ⊎ ((place ≡ length texts) × (text ≡ t)) → IsListed first_then later_then (text_hash t) place
    listed place t (inl e) = before place (text_hash t) (found.listed place t e)
    listed place t (inr e) =
        let P : Bytes → Type 0 = λ u. IsListed first_then later_then (text_hash u) place in
        let Q : Option ℕ → Type 0 = λ o. IsSome o in
        subst P e.1 (inr (subst Q (ap (λ f. first_of f (text_hash text)) (sym same)) some, (length later, ap (λ l. slice_get l (length later)) grown ∙ slice_get-append_last later (length texts) ∙ ap (λ n. Some n) (sym e.0))))

length-spanned : (arena : List ℕ) (spans : List Span) → length (spanned arena spans) ≡ length spans
length-spanned arena spans = length-map spans _

-- what the strings keep, once a new text was put at the end and entered
module _ (arena : List ℕ) (spans : List Span) (text : Bytes) (arena_then : List ℕ) (spans_then : List Span)
    (at_end : arena_then ≡ arena ++ text) (span_at_end : spans_then ≡ spans ++ record { start = length arena; end = length arena + length text } ∷ []) where
  pub spanned-added : ((k : ℕ) (span : Span) → slice_get spans k ≡ Some span → Lies arena span) → spanned arena_then spans_then ≡ spanned arena spans ++ text ∷ []
  spanned-added lie = ap (λ a. spanned a spans_then) at_end ∙ ap (λ s. spanned (arena ++ text) s) span_at_end ∙ spanned-appended arena text spans lie

  pub AreTexts-added : (first : List (ℕ × ℕ)) (later : List ℕ) (first_then : List (ℕ × ℕ)) (later_then : List ℕ) (hash place : ℕ) → AreTexts arena spans first later
      → ((n : ℕ) → slice_get (spanned arena spans) n ≡ Some text → ⊥) → hash ≡ text_hash text → place ≡ length spans
      → IsEntered first later first_then later_then hash place → AreTexts arena_then spans_then first_then later_then
  AreTexts-added first later first_then later_then hash place kept absent is_hash is_place entered =
      let view = spanned-added kept.lie in
      let Hashed : ℕ → Type 0 = λ h. IsEntered first later first_then later_then h place in
      let Placed : ℕ → Type 0 = λ p. IsEntered first later first_then later_then (text_hash text) p in
      let here = subst Placed (is_place ∙ sym (length-spanned arena spans)) (subst Hashed is_hash entered) in
      let Found : List Bytes → Type 0 = λ ts. AreFound first_then later_then ts in
      let Once : List Bytes → Type 0 = λ ts. AreOnce ts in
      record {
        lie = λ k span there.
            let Lie : List ℕ → Type 0 = λ a. Lies a span in
            subst Lie (sym at_end) (lie-appended arena text spans kept.lie k span (ap (λ s. slice_get s k) (sym span_at_end) ∙ there));
        found = subst Found (sym view) (AreFound-entered first later (spanned arena spans) first_then later_then text kept.found here);
        once = subst Once (sym view) (AreOnce-new (spanned arena spans) text kept.once absent);
      }

  pub slice_get-added : ((k : ℕ) (span : Span) → slice_get spans k ≡ Some span → Lies arena span) → (place : ℕ) → place ≡ length spans
      → slice_get (spanned arena_then spans_then) place ≡ Some text
  slice_get-added lie place is_place =
      ap (λ ts. slice_get ts place) (spanned-added lie)
      ∙ ap (λ n. slice_get (spanned arena spans ++ text ∷ []) n) (is_place ∙ sym (length-spanned arena spans))
      ∙ slice_get-append_last (spanned arena spans) text

-- none of the places so far, nor the next one, is that of a text
pub later-more : (texts : List Bytes) (later : List ℕ) (text : Bytes) (i : ℕ) (other : Bytes)
    → ((k place : ℕ) → k < i → slice_get later k ≡ Some place → slice_get texts place ≡ Some text → ⊥) → i < length later
    → slice_get texts (get_or later i 0) ≡ Some other → bytes_eq other text ≡ false
    → (k place : ℕ) → k < i + 1 → slice_get later k ≡ Some place → slice_get texts place ≡ Some text → ⊥
later-more texts later text i other before within is differs k place near there same = by (nat_eq k i) refl
  where
    by : (b : Bool) → nat_eq k i ≡ b → ⊥
    by true t =
        let same_k : k ≡ i = (Decides-eqb k i).0 t in
        let place_is : get_or later i 0 ≡ place = same_Some _ _ (sym (slice_get-get_or later i 0 within) ∙ ap (λ n. slice_get later n) (sym same_k) ∙ there) in
        let other_is : other ≡ text = same_Some other text (sym is ∙ ap (λ n. slice_get texts n) place_is ∙ same) in
        true≢false (sym ((bytes_eq-Decides other text).1 other_is) ∙ differs)
    by false t =
        let apart : k ≡ i → ⊥ = λ e. true≢false (sym ((Decides-eqb k i).1 e) ∙ t) in
        before k place (omega arith) there same
