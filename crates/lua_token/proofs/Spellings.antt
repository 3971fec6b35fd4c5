-- Each token is a spelling of its kind, and no longer spelling stands at its place.
use Rattle.std.proofs.Common.{◌≡◌, ◌≢◌, ℕ, ℤ, suc, ◌+◌, ◌-◌, ◌<◌, ◌≤◌, Bool, true, false, cond, List, [], ◌∷◌, ◌++◌, length, take, drop, Option, Some, None, Result, Ok, Err, refl, sym, ap, ◌∙◌, subst, inl, inr, arith}
use Rattle.std.specs.Prelude.{◌==◌, ◌||◌, find, nat_eq, unwrap_or}
use Rattle.std.specs.List.{AllByRecursion, prefix_len, starts_with}
use Rattle.std.specs.Cmp.Lexicographic.{pointwise}
use Rattle.std.proofs.lemmas.Slice.Eq.{bytes_eq-Decides}
use Rattle.std.proofs.lemmas.List.{take_at, take-append-drop, length-take, length-drop, length-append, drop-drop}
use Rattle.lua_value.specs.Numeral.{IsNumeralAnswer, IsNumeral}
use Rattle.lua_value.specs.declared.numeral.NumeralFault.{NumeralFault}
use Rattle.lua_value.specs.declared.numeral.NumeralFault.TheVariants as numeral
use Rattle.std.specs.Char.{is_ascii_digit}
use Rattle.lua_token.specs.Bytes.{is_letter, is_of, first_is}
use Rattle.lua_token.specs.Spelling.{spelling, keywords, symbols, keyword_of, word_kind, symbol_at}
use Rattle.lua_token.specs.Run.{starts_number, number_length}
use Rattle.lua_token.specs.Long.{level, LongAt}
use Rattle.lua_token.specs.Quoted.{escape_at, character_at, Characters, nothing, then_more}
use Rattle.lua_token.specs.Place.{begins, QuoteEnds, Stands, StandsAt, number_step, symbol_step, comment_step, long_step}
use Rattle.lua_token.specs.Longest.{IsWord, IsQuoted, IsLongString, Spells, IsLongestSpelling}
use Rattle.lua_token.specs.declared.bytes.Class.TheVariants.{InName}
use Rattle.lua_token.specs.declared.fault.LexWhat.{LexWhat}
use Rattle.lua_token.specs.declared.kind.Kind.{Kind}
use Rattle.lua_token.specs.declared.kind.Kind.TheVariants.{Name, Number, Str}
use Rattle.lua_token.specs.declared.quoted.Character.{Character}
use Rattle.lua_token.specs.declared.quoted.Character.TheVariants.{Byte, Closing, Unfinished, TooLarge}
use Rattle.lua_token.specs.declared.start.Start.{Start}
use Rattle.lua_token.specs.declared.start.Start.TheVariants as starts
use Rattle.lua_token.specs.declared.step.Step.{Step}
use Rattle.lua_token.specs.declared.step.Step.TheVariants.{Found}
use Rattle.lua_token.proofs.BeginsLemmas.{is_quote, tells, word_is_some, number_is_some}
use Rattle.lua_token.proofs.Fronts.{within, all_front, first_take, first_append, level_first, no_word_number, numeral_starts, numeral_within}
use Rattle.lua_token.proofs.Once.{characters_once, long_once}
use Rattle.lua_token.proofs.Shapes.{Member, of_member, Shape, word, symbol, number, quoted, long, shape_of, keywords_spell, symbols_spell, symbols_no_word, symbols_no_quote, symbols_no_number, symbols_no_long, Descends, symbols_descend}
use Rattle.lua_token.proofs.Symbols.{all_some}
use Rattle.lua_token.proofs.Values.{long_by, closes}
use Rattle.lua_token.specs.Cuts.{StandsIn}
use Rattle.lua_token.specs.declared.token.Token.{Token}
use Rattle.std.proofs.lemmas.Bool.{eqb-true}
use Rattle.std.proofs.lemmas.Bool.Decides.{nat_tests}

member_is_some : (k : Kind) → Member k symbols → 0 < length (spelling k)
member_is_some k m = of_member (λ k. 0 < length (spelling k)) symbols all_some k m

-- ---- found in a table

finds : (p : Kind → Bool) (ks : List Kind) (k : Kind) → find p ks ≡ Some k → Member k ks × (p k ≡ true)
finds p [] k e = absurd cc
finds p (j ∷ ks) k e = from (p j) refl (λ f. finds p ks k f) e
  where
    from : (b : Bool) → p j ≡ b → (find p ks ≡ Some k → Member k ks × (p k ≡ true)) → cond b (Some j) (find p ks) ≡ Some k → Member k (j ∷ ks) × (p k ≡ true)
    from true q later f = let same : j ≡ k = cc in (inl same, subst (λ (i : Kind). p i ≡ true) same q)
    from false q later f = let h = later f in (inr h.0, h.1)

finds_none : (p : Kind → Bool) (ks : List Kind) → find p ks ≡ None → AllByRecursion (λ k. p k ≡ false) ks
finds_none p [] e = tt
finds_none p (j ∷ ks) e = from (p j) refl (λ f. finds_none p ks f) e
  where
    from : (b : Bool) → p j ≡ b → (find p ks ≡ None → AllByRecursion (λ k. p k ≡ false) ks) → cond b (Some j) (find p ks) ≡ None → AllByRecursion (λ k. p k ≡ false) (j ∷ ks)
    from true q later f = absurd cc
    from false q later f = (q, later f)

later_shorter : (n : ℕ) (ks : List Kind) → Descends n ks → (k : Kind) → Member k ks → length (spelling k) ≤ n
later_shorter n [] d k h = absurd h
later_shorter n (j ∷ ks) d k (inl e) = subst (λ (i : Kind). length (spelling i) ≤ n) e d.0
later_shorter n (j ∷ ks) d k (inr h) = let l = later_shorter (length (spelling j)) ks d.1 k h in omega (arith, l, d.0)

-- the first that passes is as long as each one that passes
first_longest : (p : Kind → Bool) (n : ℕ) (ks : List Kind) → Descends n ks → (k other : Kind) → find p ks ≡ Some k → Member other ks → p other ≡ true → length (spelling other) ≤ length (spelling k)
first_longest p n [] d k other e h passes = absurd h
first_longest p n (j ∷ ks) d k other e h passes = from (p j) refl (λ f m. first_longest p (length (spelling j)) ks d.1 k other f m passes) e h
  where
    from : (b : Bool) → p j ≡ b → (find p ks ≡ Some k → Member other ks → length (spelling other) ≤ length (spelling k)) → cond b (Some j) (find p ks) ≡ Some k → Member other (j ∷ ks) → length (spelling other) ≤ length (spelling k)
    from true q later f (inl same) = let j_is : j ≡ k = cc in subst (λ (i : Kind). length (spelling other) ≤ length (spelling i)) (sym same ∙ j_is) (omega arith)
    from true q later f (inr m) = let j_is : j ≡ k = cc in subst (λ (i : Kind). length (spelling other) ≤ length (spelling i)) j_is (later_shorter (length (spelling j)) ks d.1 other m)
    from false q later f (inl same) = absurd (let wrong = subst (λ (i : Kind). p i ≡ false) same q in cc)
    from false q later f (inr m) = later f m

stands_here : (text front : List ℕ) → starts_with nat_eq text front ≡ true → take (length front) text ≡ front
stands_here text front e = sym ((bytes_eq-Decides front (take (length front) text)).0 e)

begins_with : (front after : List ℕ) → starts_with nat_eq (front ++ after) front ≡ true
begins_with front after = (bytes_eq-Decides front (take (length front) (front ++ after))).1 (sym (take_at front after (length front) refl))

-- ---- no spelling is longer

-- a claim on each spelling at a place
abbrev NoneLonger : List ℕ → ℕ → Type 0
NoneLonger text n = (longer rest : List ℕ) → Shape longer rest → longer ++ rest ≡ text → length longer ≤ n

false_true : (b : Bool) → b ≡ false → b ≡ true → ⊥
false_true b p q = cc

-- what each shape says of the first byte
letter_first : (b : ℕ) (text longer rest : List ℕ) → IsWord longer → longer ++ rest ≡ b ∷ text → is_letter b ≡ true
letter_first b text [] rest h e = absurd (let w = h.0 in cc)
letter_first b text (c ∷ longer) rest h e = let same : c ≡ b = cc in subst (λ (x : ℕ). is_letter x ≡ true) same h.0

number_first : (b : ℕ) (text longer rest : List ℕ) → IsNumeral longer → longer ++ rest ≡ b ∷ text → starts_number (b ∷ text) ≡ true
number_first b text longer rest h e = subst (λ (t : List ℕ). starts_number t ≡ true) e (numeral_starts longer rest h)

quote_first : (b : ℕ) (text longer rest : List ℕ) → IsQuoted longer rest → longer ++ rest ≡ b ∷ text → is_quote b ≡ true
quote_first b text longer rest (q, bytes, body, is, spelled, h) e =
    let whole : q ∷ (body ++ rest) ≡ b ∷ text = ap (λ (t : List ℕ). t ++ rest) (sym spelled) ∙ e in
    let same : q ≡ b = cc in
    subst (λ (x : ℕ). is_quote x ≡ true) same is

bracket_first : (b : ℕ) (text longer rest : List ℕ) → IsLongString longer rest → longer ++ rest ≡ b ∷ text → (n : ℕ) × (level 91 (b ∷ text) ≡ Some n) × LongAt n (b ∷ text) (Some (length longer))
bracket_first b text longer rest (n, opens, at) e = (n, subst (λ (t : List ℕ). level 91 t ≡ Some n) e opens, subst (λ (t : List ℕ). LongAt n t (Some (length longer))) e at)

symbol_first : (p : ℕ → Bool) → AllByRecursion (λ k. first_is p (spelling k) ≡ false) symbols → (b : ℕ) (text longer rest : List ℕ) (k : Kind) → Member k symbols → longer ≡ spelling k → longer ++ rest ≡ b ∷ text → p b ≡ false
symbol_first p all b text longer rest k m spelled e =
    let none = of_member (λ k. first_is p (spelling k) ≡ false) symbols all k m in
    let some : 0 < length longer = subst (λ (t : List ℕ). 0 < length t) (sym spelled) (member_is_some k m) in
    subst (λ (t : List ℕ). first_is p t ≡ false) e (first_append p longer rest some ∙ ap (first_is p) spelled ∙ none)

not_letter_91 : (b : ℕ) → b ≡ 91 → is_letter b ≡ true → ⊥
not_letter_91 b e h = let wrong = subst (λ (x : ℕ). is_letter x ≡ true) e h in cc

not_number_91 : (b : ℕ) (text : List ℕ) → b ≡ 91 → starts_number (b ∷ text) ≡ true → ⊥
not_number_91 b text e h = let wrong = subst (λ (x : ℕ). starts_number (x ∷ text) ≡ true) e h in cc

not_quote_91 : (b : ℕ) → b ≡ 91 → is_quote b ≡ true → ⊥
not_quote_91 b e h = let wrong = subst (λ (x : ℕ). is_quote x ≡ true) e h in cc

no_letter_quote : (b : ℕ) → is_letter b ≡ true → is_quote b ≡ true → ⊥
no_letter_quote b letter quote = grind (arith, nat_tests)

quote_number : (b : ℕ) (text : List ℕ) (p q : Bool) → (b == 34) ≡ p → (b == 39) ≡ q → (p || q) ≡ true → starts_number (b ∷ text) ≡ false
quote_number b text true q e f h = subst (λ (x : ℕ). starts_number (x ∷ text) ≡ false) (sym (eqb-true b 34 e)) refl
quote_number b text false true e f h = subst (λ (x : ℕ). starts_number (x ∷ text) ≡ false) (sym (eqb-true b 39 f)) refl
quote_number b text false false e f h = absurd cc

no_number_quote : (b : ℕ) (text : List ℕ) → starts_number (b ∷ text) ≡ true → is_quote b ≡ true → ⊥
no_number_quote b text starts quote = false_true (starts_number (b ∷ text)) (quote_number b text (b == 34) (b == 39) refl refl quote) starts

word_longest : (b : ℕ) (text : List ℕ) → is_letter b ≡ true → NoneLonger (b ∷ text) (prefix_len (is_of InName) (b ∷ text))
word_longest b text letter longer rest (word h) e = subst (λ (t : List ℕ). length longer ≤ prefix_len (is_of InName) t) e (within (is_of InName) longer rest h.1)
word_longest b text letter longer rest (symbol k m s) e = absurd (false_true (is_letter b) (symbol_first is_letter symbols_no_word b text longer rest k m s e) letter)
word_longest b text letter longer rest (number h) e = absurd (no_word_number b text letter (number_first b text longer rest h e))
word_longest b text letter longer rest (quoted h) e = absurd (no_letter_quote b letter (quote_first b text longer rest h e))
word_longest b text letter longer rest (long h) e = let at = bracket_first b text longer rest h e in absurd (not_letter_91 b (level_first 91 b at.0 text at.1) letter)

number_longest : (b : ℕ) (text : List ℕ) → is_letter b ≡ false → starts_number (b ∷ text) ≡ true → 0 < number_length (b ∷ text) → NoneLonger (b ∷ text) (number_length (b ∷ text))
number_longest b text letter is some longer rest (word h) e = absurd (false_true (is_letter b) letter (letter_first b text longer rest h e))
number_longest b text letter is some longer rest (symbol k m s) e =
    let whole = ap (λ (t : List ℕ). t ++ rest) (sym s) ∙ e in
    let one = of_member (λ k. (after : List ℕ) → starts_number (spelling k ++ after) ≡ true → length (spelling k) ≤ 1) symbols symbols_no_number k m rest (subst (λ (t : List ℕ). starts_number t ≡ true) (sym whole) is) in
    omega (arith, one, ap (λ (t : List ℕ). length t) s, some)
number_longest b text letter is some longer rest (number h) e = subst (λ (t : List ℕ). length longer ≤ number_length t) e (numeral_within longer rest h)
number_longest b text letter is some longer rest (quoted h) e = absurd (no_number_quote b text is (quote_first b text longer rest h e))
number_longest b text letter is some longer rest (long h) e = let at = bracket_first b text longer rest h e in absurd (not_number_91 b text (level_first 91 b at.0 text at.1) is)

closing_at : (b : ℕ) (rest : List ℕ) → character_at b (b ∷ rest) ≡ Closing
unfolding character_at
closing_at b rest = let same : (b == b) ≡ true = grind (arith, nat_tests) in rw same refl

-- where the quotes of a spelling close, those of the token do
same_end : (b : ℕ) (text bytes end longer rest : List ℕ) → Characters b text bytes end → character_at b end ≡ Closing → IsQuoted longer rest → longer ++ rest ≡ b ∷ text → end ≡ b ∷ rest
same_end b text bytes end longer rest h closes (q, bytes', body, is, spelled, h') e =
    let whole : q ∷ (body ++ rest) ≡ b ∷ text = ap (λ (t : List ℕ). t ++ rest) (sym spelled) ∙ e in
    let quote_is : q ≡ b = cc in
    let text_is : body ++ rest ≡ text = cc in
    let there = subst (λ (t : List ℕ). Characters b t bytes' (b ∷ rest)) text_is (subst (λ (x : ℕ). Characters x (body ++ rest) bytes' (x ∷ rest)) quote_is h') in
    let stop = closing_at b rest in
    (characters_once b h there (λ c n f. cc) (λ c n f. cc)).1

quote_longest : (b : ℕ) (text bytes end : List ℕ) → is_letter b ≡ false → starts_number (b ∷ text) ≡ false → is_quote b ≡ true → Characters b text bytes end → character_at b end ≡ Closing
    → NoneLonger (b ∷ text) (length (b ∷ text) + 1 - length end)
quote_longest b text bytes end letter num is h closes longer rest (word w) e = absurd (false_true (is_letter b) letter (letter_first b text longer rest w e))
quote_longest b text bytes end letter num is h closes longer rest (symbol k m s) e = absurd (false_true (is_quote b) (symbol_first is_quote symbols_no_quote b text longer rest k m s e) is)
quote_longest b text bytes end letter num is h closes longer rest (number n) e = absurd (false_true (starts_number (b ∷ text)) num (number_first b text longer rest n e))
quote_longest b text bytes end letter num is h closes longer rest (quoted q) e =
    let end_is = same_end b text bytes end longer rest h closes q e in
    omega (arith, ap (λ (t : List ℕ). length t) end_is, simp length-append at (ap (λ (t : List ℕ). length t) e))
quote_longest b text bytes end letter num is h closes longer rest (long l) e = let at = bracket_first b text longer rest l e in absurd (not_quote_91 b (level_first 91 b at.0 text at.1) is)

long_longest : (b : ℕ) (text : List ℕ) (n size : ℕ) → is_letter b ≡ false → starts_number (b ∷ text) ≡ false → is_quote b ≡ false → level 91 (b ∷ text) ≡ Some n → LongAt n (b ∷ text) (Some size)
    → NoneLonger (b ∷ text) size
long_longest b text n size letter num quote opens at longer rest (word h) e = absurd (false_true (is_letter b) letter (letter_first b text longer rest h e))
long_longest b text n size letter num quote opens at longer rest (symbol k m s) e =
    let whole = ap (λ (t : List ℕ). t ++ rest) (sym s) ∙ e in
    let one = of_member (λ k. (after : List ℕ) (n : ℕ) → level 91 (spelling k ++ after) ≡ Some n → length (spelling k) ≤ 1) symbols symbols_no_long k m rest n (subst (λ (t : List ℕ). level 91 t ≡ Some n) (sym whole) opens) in
    let closed = long_by n size (b ∷ text) at.0 at.1 at.2 in
    omega (arith, one, ap (λ (t : List ℕ). length t) s, closed.2)
long_longest b text n size letter num quote opens at longer rest (number h) e = absurd (false_true (starts_number (b ∷ text)) num (number_first b text longer rest h e))
long_longest b text n size letter num quote opens at longer rest (quoted h) e = absurd (false_true (is_quote b) quote (quote_first b text longer rest h e))
long_longest b text n size letter num quote opens at longer rest (long h) e =
    let there = bracket_first b text longer rest h e in
    let level_is : there.0 ≡ n = some_same there.0 n (sym there.1 ∙ opens) in
    let same = long_once n (b ∷ text) (Some size) (Some (length longer)) at (subst (λ (k : ℕ). LongAt k (b ∷ text) (Some (length longer))) level_is there.2) in
    let size_is = some_same size (length longer) same in
    omega (arith, size_is)
  where
    some_same : (a c : ℕ) → ◌≡◌ {A = Option ℕ} (Some a) (Some c) → a ≡ c
    some_same a c e = cc

symbol_longest : (b : ℕ) (text : List ℕ) (kind : Kind) → is_letter b ≡ false → starts_number (b ∷ text) ≡ false → is_quote b ≡ false → level 91 (b ∷ text) ≡ None → symbol_at (b ∷ text) ≡ Some kind
    → NoneLonger (b ∷ text) (length (spelling kind))
unfolding symbol_at
symbol_longest b text kind letter num quote opens found longer rest (word h) e = absurd (false_true (is_letter b) letter (letter_first b text longer rest h e))
symbol_longest b text kind letter num quote opens found longer rest (symbol k m s) e =
    let whole = ap (λ (t : List ℕ). t ++ rest) (sym s) ∙ e in
    let passes = subst (λ (t : List ℕ). starts_with nat_eq t (spelling k) ≡ true) whole (begins_with (spelling k) rest) in
    let most = first_longest (λ k. starts_with nat_eq (b ∷ text) (spelling k)) 3 symbols symbols_descend kind k found m passes in
    omega (arith, most, ap (λ (t : List ℕ). length t) s)
symbol_longest b text kind letter num quote opens found longer rest (number h) e = absurd (false_true (starts_number (b ∷ text)) num (number_first b text longer rest h e))
symbol_longest b text kind letter num quote opens found longer rest (quoted h) e = absurd (false_true (is_quote b) quote (quote_first b text longer rest h e))
symbol_longest b text kind letter num quote opens found longer rest (long h) e = let there = bracket_first b text longer rest h e in absurd (let wrong = sym opens ∙ there.1 in cc)

-- ---- a spelling of its kind

-- what a claim on a token says of its text and of each other spelling
abbrev Claim : List ℕ → Kind → ℕ → Type 0
Claim text kind n = Spells kind (take n text) (drop n text) × NoneLonger text n

no_keyword : (w : List ℕ) (ks : List Kind) → AllByRecursion (λ k. pointwise nat_eq (spelling k) w ≡ false) ks → AllByRecursion (λ k. spelling k ≢ w) ks
no_keyword w [] all = tt
no_keyword w (k ∷ ks) all = (λ e. false_true (pointwise nat_eq (spelling k) w) all.0 ((bytes_eq-Decides (spelling k) w).1 e), no_keyword w ks all.1)

word_spelled : (w after : List ℕ) (o : Option Kind) → keyword_of w ≡ o → IsWord w → Spells (unwrap_or o Name) w after
unfolding keyword_of
word_spelled w after (Some k) e h =
    let found = finds (λ k. pointwise nat_eq (spelling k) w) keywords k e in
    of_member (λ k. (text after : List ℕ) → text ≡ spelling k → Spells k text after) keywords keywords_spell k found.0 w after (sym ((bytes_eq-Decides (spelling k) w).0 found.1))
word_spelled w after None e h = (h, no_keyword w keywords (finds_none (λ k. pointwise nat_eq (spelling k) w) keywords e))

word_claim : (b : ℕ) (text : List ℕ) → is_letter b ≡ true → 0 < prefix_len (is_of InName) (b ∷ text)
    → Claim (b ∷ text) (word_kind (take (prefix_len (is_of InName) (b ∷ text)) (b ∷ text))) (prefix_len (is_of InName) (b ∷ text))
word_claim b text letter some =
    let n = prefix_len (is_of InName) (b ∷ text) in
    let w = take n (b ∷ text) in
    (word_spelled w (drop n (b ∷ text)) (keyword_of w) refl (first_take is_letter n (b ∷ text) some ∙ letter, all_front (is_of InName) (b ∷ text)), word_longest b text letter)

symbol_claim : (b : ℕ) (text : List ℕ) (kind : Kind) → is_letter b ≡ false → starts_number (b ∷ text) ≡ false → is_quote b ≡ false → level 91 (b ∷ text) ≡ None → symbol_at (b ∷ text) ≡ Some kind
    → Claim (b ∷ text) kind (length (spelling kind))
unfolding symbol_at
symbol_claim b text kind letter num quote opens found =
    let here = finds (λ k. starts_with nat_eq (b ∷ text) (spelling k)) symbols kind found in
    let spelled = of_member (λ k. (text after : List ℕ) → text ≡ spelling k → Spells k text after) symbols symbols_spell kind here.0 (take (length (spelling kind)) (b ∷ text)) (drop (length (spelling kind)) (b ∷ text)) (stands_here (b ∷ text) (spelling kind) here.1) in
    (spelled, symbol_longest b text kind letter num quote opens found)

-- the rest behind some characters is a part of the text
rest_of_characters : {q : ℕ} {text bytes rest : List ℕ} → Characters q text bytes rest → (k : ℕ) × (rest ≡ drop k text)
rest_of_characters nothing = (0, refl)
rest_of_characters (then_more {text} {n = n} e h) = let later = rest_of_characters h in (n + later.0, later.1 ∙ drop-drop later.0 n text)

never_closing : (p q r : Bool) (v k c : ℕ) → cond p (cond r (Byte v k) TooLarge) (cond q (Byte 10 3) (Byte c 2)) ≡ Closing → ⊥
never_closing true q true v k c e = cc
never_closing true q false v k c e = cc
never_closing false true r v k c e = cc
never_closing false false r v k c e = cc

no_escape_closes : (text : List ℕ) → escape_at text ≡ Closing → ⊥
unfolding escape_at
no_escape_closes [] e = cc
no_escape_closes (b ∷ text) e = never_closing (is_ascii_digit b) _ _ _ _ _ e

closing_first : (b : ℕ) (rest : List ℕ) → character_at b rest ≡ Closing → (after : List ℕ) × (rest ≡ b ∷ after)
unfolding character_at
closing_first b [] e = absurd cc
closing_first b (c ∷ after) e = from (c == b) refl e
  where
    from : (t : Bool) → (c == b) ≡ t → cond t Closing (cond (c == 92) (escape_at after) (cond (c == 10) Unfinished (Byte c 1))) ≡ Closing → (more : List ℕ) × ((c ∷ after) ≡ b ∷ more)
    from true q f = (after, ap (λ (x : ℕ). x ∷ after) (eqb-true c b q))
    from false q f = other (c == 92) (c == 10) f
      where
        other : (s t : Bool) → cond s (escape_at after) (cond t Unfinished (Byte c 1)) ≡ Closing → (more : List ℕ) × ((c ∷ after) ≡ b ∷ more)
        other true t g = absurd (no_escape_closes after g)
        other false true g = absurd cc
        other false false g = absurd cc

quote_spelled : (b k : ℕ) (text bytes rest after : List ℕ) → is_quote b ≡ true → Characters b text bytes rest → rest ≡ drop k text → rest ≡ b ∷ after
    → IsQuoted (take (suc (suc k)) (b ∷ text)) (drop (suc (suc k)) (b ∷ text))
quote_spelled b k text bytes rest after is h rest_is first_is =
    let one : drop 1 (drop k text) ≡ drop (suc k) text = drop-drop 1 k text ∙ ap (λ (j : ℕ). drop j text) (let e : k + 1 ≡ suc k = omega arith in e) in
    let after_is : drop (suc k) text ≡ after = sym one ∙ ap (drop 1) (sym rest_is ∙ first_is) in
    let whole = take-append-drop (suc k) text in
    let there = subst (λ (t : List ℕ). Characters b text bytes t) (first_is ∙ ap (λ (t : List ℕ). b ∷ t) (sym after_is)) h in
    (b, bytes, take (suc k) text, is, refl, subst (λ (t : List ℕ). Characters b t bytes (b ∷ drop (suc k) text)) (sym whole) there)

quote_claim : (b : ℕ) (text bytes rest : List ℕ) → is_letter b ≡ false → starts_number (b ∷ text) ≡ false → is_quote b ≡ true → Characters b text bytes rest → character_at b rest ≡ Closing
    → Claim (b ∷ text) Str (length (b ∷ text) + 1 - length rest)
quote_claim b text bytes rest letter num is h closes =
    let part = rest_of_characters h in
    let first = closing_first b rest closes in
    let n_is : length (b ∷ text) + 1 - length rest ≡ suc (suc part.0) = omega (arith, ap (λ (t : List ℕ). length t) part.1, ap (λ (t : List ℕ). length t) first.1, length-drop part.0 text) in
    (inl (subst (λ (j : ℕ). IsQuoted (take j (b ∷ text)) (drop j (b ∷ text))) (sym n_is) (quote_spelled b part.0 text bytes rest first.0 is h part.1 first.1)), quote_longest b text bytes rest letter num is h closes)

long_claim : (b : ℕ) (text : List ℕ) (n size : ℕ) → is_letter b ≡ false → starts_number (b ∷ text) ≡ false → is_quote b ≡ false → level 91 (b ∷ text) ≡ Some n → LongAt n (b ∷ text) (Some size) → size ≤ length (b ∷ text)
    → Claim (b ∷ text) Str size
long_claim b text n size letter num quote opens at fits =
    let whole = take-append-drop size (b ∷ text) in
    let size_is : size ≡ length (take size (b ∷ text)) = omega (arith, length-take size (b ∷ text)) in
    let there = subst (λ (j : ℕ). LongAt n (b ∷ text) (Some j)) size_is at in
    (inr (n, subst (λ (t : List ℕ). level 91 t ≡ Some n) (sym whole) opens, subst (λ (t : List ℕ). LongAt n t (Some (length (take size (b ∷ text))))) (sym whole) there), long_longest b text n size letter num quote opens at)

number_claim : (b : ℕ) (text : List ℕ) (kind : Kind) (n : ℕ) (judged : Result ℤ NumeralFault) → is_letter b ≡ false → starts_number (b ∷ text) ≡ true → 0 < number_length (b ∷ text)
    → IsNumeralAnswer (take (number_length (b ∷ text)) (b ∷ text)) judged → ◌≡◌ {A = Result Step LexWhat} (Ok (Found kind n)) (number_step (number_length (b ∷ text)) judged) → Claim (b ∷ text) kind n
number_claim b text kind n (Ok z) letter is some answer e =
    let kind_is : kind ≡ Number z = cc in
    let n_is : n ≡ number_length (b ∷ text) = cc in
    rw (kind_is, n_is) (answer, number_longest b text letter is some)
number_claim b text kind n (Err numeral.Malformed) letter is some answer e = absurd cc
number_claim b text kind n (Err numeral.NotWhole) letter is some answer e = absurd cc

quote_by : (b : ℕ) (text bytes rest : List ℕ) (kind : Kind) (n : ℕ) → is_letter b ≡ false → starts_number (b ∷ text) ≡ false → is_quote b ≡ true → Characters b text bytes rest
    → QuoteEnds (character_at b rest) (length (b ∷ text) + 1 - length rest) (Ok (Found kind n)) → Claim (b ∷ text) kind n
quote_by b text bytes rest kind n letter num is h ends =
    let closed = ends_found (character_at b rest) (length (b ∷ text) + 1 - length rest) kind n ends in
    subst (λ (j : ℕ). Claim (b ∷ text) kind j) (sym closed.2) (subst (λ (k : Kind). Claim (b ∷ text) k (length (b ∷ text) + 1 - length rest)) (sym closed.1) (quote_claim b text bytes rest letter num is h closed.0))
  where
    ends_found : (ch : Character) (m : ℕ) (kind : Kind) (n : ℕ) → QuoteEnds ch m (Ok (Found kind n)) → (ch ≡ Closing) × (kind ≡ Str) × (n ≡ m)
    ends_found Closing m kind n e = (refl, cc, cc)
    ends_found Unfinished m kind n e = absurd cc
    ends_found TooLarge m kind n e = absurd cc
    ends_found (Byte c k) m kind n e = absurd e

no_comment : (kind : Kind) (n : ℕ) (size : Option ℕ) → ◌≡◌ {A = Result Step LexWhat} (Ok (Found kind n)) (comment_step size) → ⊥
no_comment kind n (Some m) e = cc
no_comment kind n None e = cc

long_found : (b : ℕ) (text : List ℕ) (kind : Kind) (n m : ℕ) (size : Option ℕ) → is_letter b ≡ false → starts_number (b ∷ text) ≡ false → is_quote b ≡ false → level 91 (b ∷ text) ≡ Some m → LongAt m (b ∷ text) size
    → ◌≡◌ {A = Result Step LexWhat} (Ok (Found kind n)) (long_step size) → n ≤ length (b ∷ text) → Claim (b ∷ text) kind n
long_found b text kind n m (Some size) letter num quote opens at e fits =
    let kind_is : kind ≡ Str = cc in
    let n_is : n ≡ size = cc in
    subst (λ (k : Kind). Claim (b ∷ text) k n) (sym kind_is) (long_claim b text m n letter num quote opens (subst (λ (j : ℕ). LongAt m (b ∷ text) (Some j)) (sym n_is) at) fits)
long_found b text kind n m None letter num quote opens at e fits = absurd cc

symbol_found : (b : ℕ) (text : List ℕ) (kind : Kind) (n : ℕ) (found : Option Kind) → symbol_at (b ∷ text) ≡ found → is_letter b ≡ false → starts_number (b ∷ text) ≡ false → is_quote b ≡ false → level 91 (b ∷ text) ≡ None
    → ◌≡◌ {A = Result Step LexWhat} (Ok (Found kind n)) (symbol_step found) → Claim (b ∷ text) kind n
symbol_found b text kind n (Some k) is letter num quote opens e =
    let kind_is : kind ≡ k = cc in
    let n_is : n ≡ length (spelling k) = cc in
    subst (λ (j : ℕ). Claim (b ∷ text) kind j) (sym n_is) (subst (λ (i : Kind). Claim (b ∷ text) i (length (spelling k))) (sym kind_is) (symbol_claim b text k letter num quote opens is))
symbol_found b text kind n None is letter num quote opens e = absurd cc

-- by what begins at the place
claims : (x : Start) (b : ℕ) (text : List ℕ) (kind : Kind) (n : ℕ) → begins (b ∷ text) ≡ x → Stands x (b ∷ text) (Ok (Found kind n)) → n ≤ length (b ∷ text) → Claim (b ∷ text) kind n
claims starts.Nothing b text kind n e h fits = absurd h
claims starts.Blank b text kind n e h fits = absurd cc
claims starts.Word b text kind n e h fits =
    let kind_is : kind ≡ word_kind (take (prefix_len (is_of InName) (b ∷ text)) (b ∷ text)) = cc in
    let n_is : n ≡ prefix_len (is_of InName) (b ∷ text) = cc in
    subst (λ (j : ℕ). Claim (b ∷ text) kind j) (sym n_is) (subst (λ (k : Kind). Claim (b ∷ text) k (prefix_len (is_of InName) (b ∷ text))) (sym kind_is) (word_claim b text (tells (b ∷ text) starts.Word e) (word_is_some (b ∷ text) e)))
claims starts.Digits b text kind n e (judged, answer, f) fits =
    let facts = tells (b ∷ text) starts.Digits e in
    number_claim b text kind n judged facts.0 facts.1 (number_is_some (b ∷ text) e) answer f
claims starts.Quote b text kind n e (bytes, rest, h, ends) fits =
    let facts = tells (b ∷ text) starts.Quote e in
    quote_by b text bytes rest kind n facts.0 facts.1 facts.2 h ends
claims starts.Comment b text kind n e (inl (a, f)) fits = absurd cc
claims starts.Comment b text kind n e (inr (m, size, a, h, f)) fits = absurd (no_comment kind n size f)
claims (starts.Long m) b text kind n e (size, h, f) fits =
    let facts = tells (b ∷ text) (starts.Long m) e in
    long_found b text kind n m size facts.0 facts.1 facts.2 facts.4 h f fits
claims starts.Symbol b text kind n e h fits =
    let facts = tells (b ∷ text) starts.Symbol e in
    symbol_found b text kind n (symbol_at (b ∷ text)) refl facts.0 facts.1 facts.2 facts.4 h

claims_at : (text : List ℕ) (kind : Kind) (n : ℕ) → StandsAt text (Ok (Found kind n)) → n ≤ length text → Claim text kind n
unfolding begins
claims_at [] kind n h fits = absurd h
claims_at (b ∷ text) kind n h fits = claims (begins (b ∷ text)) b text kind n refl h fits

pub longest : (source : List ℕ) (t : Token) → StandsIn source t → IsLongestSpelling t.kind (take t.length (drop t.start source)) (drop (t.start + t.length) source)
longest source t at =
    let text = drop t.start source in
    let fits : t.length ≤ length text = omega (arith, at.within, length-drop t.start source) in
    let claim = claims_at text t.kind t.length at.found fits in
    let after_is : drop t.length text ≡ drop (t.start + t.length) source = drop-drop t.length t.start source in
    let size_is : length (take t.length text) ≡ t.length = omega (arith, length-take t.length text, fits) in
    record {
      spelled = subst (λ (after : List ℕ). Spells t.kind (take t.length text) after) after_is claim.0;
      longest = λ other longer rest h e.
          let whole = e ∙ ap (λ (after : List ℕ). take t.length text ++ after) (sym after_is) ∙ take-append-drop t.length text in
          let most = claim.1 longer rest (shape_of other longer rest h) whole in
          omega (arith, most, size_is);
    }
