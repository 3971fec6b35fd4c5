-- At each place one thing stands, and so a source has one answer.
use Rattle.std.proofs.Common.{◌≡◌, ℕ, ◌+◌, ◌-◌, ℤ, List, length, drop, Option, Some, None, Result, Ok, Err, refl, sym, ap, ◌∙◌, subst, inl, inr, arith, ◌⊎◌}
use Rattle.std.specs.Prelude.{slice_index, IfOk, IfErr, All}
use Rattle.std.specs.List.{AllByRecursion}
use Rattle.std.specs.Global.{Vec}
use Rattle.std.proofs.lemmas.List.Elements.{All-from_recursion}
use Rattle.std.specs.Option.{option_map}
use Rattle.std.proofs.lemmas.Bool.{cases_lt}
use Rattle.std.proofs.Math.Seq.{drop-length}
use Rattle.lua_value.specs.Numeral.{IsNumeralAnswer}
use Rattle.lua_value.specs.declared.numeral.NumeralFault.{NumeralFault}
use Rattle.lua_value.specs.declared.numeral.NumeralFault.TheVariants as numeral
use Rattle.lua_value.proofs.NumeralLaws.{Denotes-unique}
use Rattle.lua_token.specs.Long.{FirstClosing, LongAt}
use Rattle.lua_token.specs.Quoted.{character_at, Characters, nothing, then_more}
use Rattle.lua_token.specs.Place.{begins, QuoteEnds, Stands, StandsAt, long_step, comment_step}
use Rattle.lua_token.specs.Cuts.{line_of, StandsIn, Between, then_blank, then_token, Cuts, Faults}
use Rattle.lua_token.specs.Answer as answers
use Rattle.lua_token.specs.declared.fault.LexWhat.{LexWhat}
use Rattle.lua_token.specs.declared.fault.LexFault.{LexFault}
use Rattle.lua_token.specs.declared.quoted.Character.{Character}
use Rattle.lua_token.specs.declared.quoted.Character.TheVariants.{Byte, Closing, Unfinished, TooLarge}
use Rattle.lua_token.specs.declared.start.Start.{Start}
use Rattle.lua_token.specs.declared.start.Start.TheVariants as starts
use Rattle.lua_token.specs.declared.step.Step.{Step}
use Rattle.lua_token.specs.declared.step.Step.TheVariants.{Skip, Found}
use Rattle.lua_token.specs.declared.token.Token.{Token}

-- ---- numbers

judged_once : (text : List ℕ) (r s : Result ℤ NumeralFault) → IsNumeralAnswer text r → IsNumeralAnswer text s → r ≡ s
judged_once text (Ok y) (Ok z) p q = ap (λ v. Ok v) (Denotes-unique text y z p.0 q.0)
judged_once text (Ok y) (Err numeral.Malformed) ((t, formed, spelled, value), num) q = absurd (q (t, formed, spelled))
judged_once text (Ok y) (Err numeral.NotWhole) p q = absurd (q.1 y p.0 p.1)
judged_once text (Err numeral.Malformed) (Ok z) p ((t, formed, spelled, value), num) = absurd (p (t, formed, spelled))
judged_once text (Err numeral.Malformed) (Err numeral.Malformed) p q = refl
judged_once text (Err numeral.Malformed) (Err numeral.NotWhole) p q = absurd (p q.0)
judged_once text (Err numeral.NotWhole) (Ok z) p q = absurd (p.1 z q.0 q.1)
judged_once text (Err numeral.NotWhole) (Err numeral.Malformed) p q = absurd (q p.0)
judged_once text (Err numeral.NotWhole) (Err numeral.NotWhole) p q = refl

-- ---- long brackets

pub first_once : (n : ℕ) (body : List ℕ) (a b : Option ℕ) → FirstClosing n body a → FirstClosing n body b → a ≡ b
first_once n body None None p q = refl
first_once n body None (Some k) p q = absurd (p k q.0)
first_once n body (Some m) None p q = absurd (q m p.0)
first_once n body (Some m) (Some k) p q =
    elim (cases_lt m k) [
      | inl m_first ↦ absurd (q.1 m m_first p.0)
      | inr k_le ↦ elim (cases_lt k m) [
        | inl k_first ↦ absurd (p.1 k k_first q.0)
        | inr m_le ↦ ap (λ x. Some x) (let e : m ≡ k = omega arith in e)
      ]
    ]

pub long_once : (n : ℕ) (text : List ℕ) (a b : Option ℕ) → LongAt n text a → LongAt n text b → a ≡ b
long_once n text a b (m, p, e) (k, q, f) = e ∙ ap (option_map (λ (m : ℕ). n + 2 + m + (n + 2))) (first_once n (drop (n + 2) text) m k p q) ∙ sym f

-- ---- quoted strings

-- no further character stands at the end
abbrev pub Ends : ℕ → List ℕ → Type 0
Ends q rest = (b n : ℕ) → character_at q rest ≡ Byte b n → ⊥

pub characters_once : (q : ℕ) {text bytes rest bytes' rest' : List ℕ} → Characters q text bytes rest → Characters q text bytes' rest' → Ends q rest → Ends q rest' → (bytes ≡ bytes') × (rest ≡ rest')
characters_once q nothing nothing d d' = (refl, refl)
characters_once q nothing (then_more {b} {n} e h) d d' = absurd (d b n e)
characters_once q (then_more {b} {n} e h) nothing d d' = absurd (d' b n e)
characters_once q (then_more {text} {bytes} {rest} {b} {n} e h) (then_more {bytes = bytes'} {rest = rest'} {b = b'} {n = n'} e' h') d d' =
    let same_n : n' ≡ n = cc in
    let same_b : b ≡ b' = cc in
    let others = characters_once q h (subst (λ (k : ℕ). Characters q (drop k text) bytes' rest') same_n h') d d' in
    let same_bytes = others.0 in
    (cc, others.1)

quote_ends : (ch : Character) (n : ℕ) (found : Result Step LexWhat) → QuoteEnds ch n found → (b k : ℕ) → ch ≡ Byte b k → ⊥
quote_ends (Byte b' k') n found h b k e = h
quote_ends Closing n found h b k e = cc
quote_ends Unfinished n found h b k e = cc
quote_ends TooLarge n found h b k e = cc

ends_once : (ch : Character) (n : ℕ) (r s : Result Step LexWhat) → QuoteEnds ch n r → QuoteEnds ch n s → r ≡ s
ends_once (Byte b k) n r s p q = absurd p
ends_once Closing n r s p q = p ∙ sym q
ends_once Unfinished n r s p q = p ∙ sym q
ends_once TooLarge n r s p q = p ∙ sym q

-- ---- a place

stands_once : (x : Start) (text : List ℕ) (r s : Result Step LexWhat) → Stands x text r → Stands x text s → r ≡ s
stands_once starts.Nothing text r s p q = absurd p
stands_once starts.Blank text r s p q = p ∙ sym q
stands_once starts.Word text r s p q = p ∙ sym q
stands_once starts.Digits text r s (a, p, e) (b, q, f) = let same = judged_once _ a b p q in cc
stands_once starts.Quote text r s (bytes, rest, h, e) (bytes', rest', h', e') =
    let quote = slice_index text 0 in
    let same = (characters_once quote h h' (quote_ends (character_at quote rest) _ r e) (quote_ends (character_at quote rest') _ s e')).1 in
    ends_once (character_at quote rest) (length text + 1 - length rest) r s e (subst (λ (t : List ℕ). QuoteEnds (character_at quote t) (length text + 1 - length t) s) (sym same) e')
stands_once starts.Comment text r s (inl (a, p)) (inl (b, q)) = p ∙ sym q
stands_once starts.Comment text r s (inl (a, p)) (inr (n, size, b, h, q)) = absurd cc
stands_once starts.Comment text r s (inr (n, size, a, h, p)) (inl (b, q)) = absurd cc
stands_once starts.Comment text r s (inr (n, size, a, h, p)) (inr (n', size', b, h', q)) =
    let level_same : n' ≡ n = cc in
    let same = long_once n (drop 2 text) size size' h (subst (λ (k : ℕ). LongAt k (drop 2 text) size') level_same h') in
    p ∙ ap comment_step same ∙ sym q
stands_once (starts.Long n) text r s (size, h, p) (size', h', q) = p ∙ ap long_step (long_once n text size size' h h') ∙ sym q
stands_once starts.Symbol text r s p q = p ∙ sym q

pub at_once : (text : List ℕ) (r s : Result Step LexWhat) → StandsAt text r → StandsAt text s → r ≡ s
at_once text r s p q = stands_once (begins text) text r s p q

-- ---- a source

-- nothing is passed over at this place, and no token stands there
Stuck : List ℕ → ℕ → Type 0
Stuck source place = (step : Step) → StandsAt (drop place source) (Ok step) → ⊥

stuck_at_end : (source : List ℕ) → Stuck source (length source)
unfolding Stuck begins
stuck_at_end source step h = let e = subst (λ (t : List ℕ). StandsAt t (Ok step)) (drop-length source) h in e

stuck_at_fault : (source : List ℕ) (place : ℕ) (what : LexWhat) → StandsAt (drop place source) (Err what) → Stuck source place
unfolding Stuck
stuck_at_fault source place what h step k = let e = at_once (drop place source) (Err what) (Ok step) h k in cc

token_is : (t u : Token) → t.kind ≡ u.kind → t.start ≡ u.start → t.length ≡ u.length → t.line ≡ u.line → t ≡ u
token_is t u kind start length line = λ i. record { kind = kind i; start = start i; length = length i; line = line i }

between_once : (source : List ℕ) {place end end' : ℕ} {ts ts' : List Token} → Between source place ts end → Between source place ts' end' → Stuck source end → Stuck source end' → (ts ≡ ts') × (end ≡ end')
unfolding Stuck
between_once source Between.nothing Between.nothing d d' = (refl, refl)
between_once source Between.nothing (then_blank n at h) d d' = absurd (d (Skip n) at)
between_once source Between.nothing (then_token t start at h) d d' = absurd (d (Found t.kind t.length) (subst (λ (k : ℕ). StandsAt (drop k source) (Ok (Found t.kind t.length))) start at.found))
between_once source (then_blank n at h) Between.nothing d d' = absurd (d' (Skip n) at)
between_once source (then_token t start at h) Between.nothing d d' = absurd (d' (Found t.kind t.length) (subst (λ (k : ℕ). StandsAt (drop k source) (Ok (Found t.kind t.length))) start at.found))
between_once source {place} {end' = end'} {ts' = ts'} (then_blank n at h) (then_blank n' at' h') d d' =
    let same = at_once (drop place source) (Ok (Skip n)) (Ok (Skip n')) at at' in
    let n_is : n' ≡ n = cc in
    between_once source h (subst (λ (k : ℕ). Between source (place + k) ts' end') n_is h') d d'
between_once source {place} (then_blank n at h) (then_token t start at' h') d d' =
    let same = at_once (drop place source) (Ok (Skip n)) (Ok (Found t.kind t.length)) at (subst (λ (k : ℕ). StandsAt (drop k source) (Ok (Found t.kind t.length))) start at'.found) in
    absurd cc
between_once source {place} (then_token t start at' h') (then_blank n at h) d d' =
    let same = at_once (drop place source) (Ok (Skip n)) (Ok (Found t.kind t.length)) at (subst (λ (k : ℕ). StandsAt (drop k source) (Ok (Found t.kind t.length))) start at'.found) in
    absurd cc
between_once source {place} {end' = end'} (then_token t start at h) (then_token {ts = ts'} t' start' at' h') d d' =
    let start_is : t.start ≡ t'.start = start ∙ sym start' in
    let same = at_once (drop t.start source) (Ok (Found t.kind t.length)) (Ok (Found t'.kind t'.length)) at.found (subst (λ (k : ℕ). StandsAt (drop k source) (Ok (Found t'.kind t'.length))) (sym start_is) at'.found) in
    let kind_is : t.kind ≡ t'.kind = cc in
    let length_is : t.length ≡ t'.length = cc in
    let line_is : t.line ≡ t'.line = at.line ∙ ap (line_of source) start_is ∙ sym at'.line in
    let token = token_is t t' kind_is start_is length_is line_is in
    let others = between_once source h (subst (λ (k : ℕ). Between source (place + k) ts' end') (sym length_is) h') d d' in
    let tokens = others.0 in
    (cc, others.1)

pub one_list : (source : List ℕ) (ts us : List Token) → Cuts source ts → Cuts source us → ts ≡ us
one_list source ts us p q = (between_once source p q (stuck_at_end source) (stuck_at_end source)).0

no_fault_at_end : (source : List ℕ) (place : ℕ) (what : LexWhat) → place ≡ length source → StandsAt (drop place source) (Err what) → ⊥
unfolding begins
no_fault_at_end source place what e h = let stands = subst (λ (t : List ℕ). StandsAt t (Err what)) (ap (λ (k : ℕ). drop k source) e ∙ drop-length source) h in stands

pub list_or_fault : (source : List ℕ) (ts : List Token) (fault : LexFault) → Cuts source ts → Faults source fault → ⊥
list_or_fault source ts fault p (us, place, q, at, line) =
    let end_is = (between_once source p q (stuck_at_end source) (stuck_at_fault source place fault.what at)).1 in
    no_fault_at_end source place fault.what (sym end_is) at

fault_is : (f g : LexFault) → f.line ≡ g.line → f.what ≡ g.what → f ≡ g
fault_is f g line what = λ i. record { line = line i; what = what i }

pub one_fault : (source : List ℕ) (f g : LexFault) → Faults source f → Faults source g → f ≡ g
one_fault source f g (ts, a, p, at, line) (us, b, q, at', line') =
    let place_is = (between_once source p q (stuck_at_fault source a f.what at) (stuck_at_fault source b g.what at')).1 in
    let same = at_once (drop a source) (Err f.what) (Err g.what) at (subst (λ (k : ℕ). StandsAt (drop k source) (Err g.what)) (sym place_is) at') in
    let what_is : f.what ≡ g.what = cc in
    fault_is f g (line ∙ ap (line_of source) place_is ∙ sym line') what_is

-- ---- the answer

answer_once : (source : List ℕ) (a b : Result (List Token) LexFault) → answers.IsTokensAnswer source a → answers.IsTokensAnswer source b → a ≡ b
answer_once source (Ok ts) (Ok us) p q = ap (λ v. Ok v) (one_list source ts us p.1 q.1)
answer_once source (Ok ts) (Err f) p (inl q) = absurd (omega (arith, p.0, q.0))
answer_once source (Ok ts) (Err f) p (inr q) = absurd (list_or_fault source ts f p.1 q.1)
answer_once source (Err f) (Ok us) (inl p) q = absurd (omega (arith, p.0, q.0))
answer_once source (Err f) (Ok us) (inr p) q = absurd (list_or_fault source us f q.1 p.1)
answer_once source (Err f) (Err g) (inl p) (inl q) = ap (λ v. Err v) (p.1 ∙ sym q.1)
answer_once source (Err f) (Err g) (inl p) (inr q) = absurd (omega (arith, p.0, q.0))
answer_once source (Err f) (Err g) (inr p) (inl q) = absurd (omega (arith, p.0, q.0))
answer_once source (Err f) (Err g) (inr p) (inr q) = ap (λ v. Err v) (one_fault source f g p.1 q.1)

pub outcome_found : (source : List ℕ) (result : Result (Vec Token) LexFault) → answers.IsOutcome source result
    → IfOk result (λ tokens. answers.IsTokensAnswer source (Ok tokens.items))
outcome_found source (Ok v) is = is
outcome_found source (Err f) is = tt

pub outcome_fault : (source : List ℕ) (result : Result (Vec Token) LexFault) → answers.IsOutcome source result
    → IfErr result (λ fault. (fault ≡ answers.no_memory) ⊎ answers.IsTokensAnswer source (Err fault))
outcome_fault source (Ok v) is = tt
outcome_fault source (Err f) is = is

pub gives_only : (source : List ℕ) (result : Result (Vec Token) LexFault) (answer : Result (List Token) LexFault)
    → answers.IsOutcome source result → answers.IsTokensAnswer source answer → answers.Gives result answer
gives_only source (Ok v) answer found h = answer_once source answer (Ok v.items) h found
gives_only source (Err f) answer (inl none) h = inl none
gives_only source (Err f) answer (inr is) h = inr (answer_once source answer (Err f) h is)

all_between : (source : List ℕ) {place end : ℕ} {ts : List Token} → Between source place ts end → AllByRecursion (StandsIn source) ts
all_between source Between.nothing = tt
all_between source (then_blank n at h) = all_between source h
all_between source (then_token t start at h) = (at, all_between source h)

pub all_stand : (source : List ℕ) (result : Result (Vec Token) LexFault) → answers.IsOutcome source result → IfOk result (λ tokens. All (StandsIn source) tokens.items)
all_stand source (Ok v) found = All-from_recursion (StandsIn source) v.items (all_between source found.1)
all_stand source (Err f) found = tt
