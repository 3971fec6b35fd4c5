-- What a string's token tells of the text that it stands at.
use Rattle.std.proofs.Common.{◌≡◌, ℕ, ℤ, ◌+◌, ◌-◌, ◌<◌, List, [], ◌∷◌, length, take, drop, Option, Some, None, Result, Ok, Err, refl, sym, ap, ◌∙◌, subst, inl, inr, ◌⊎◌, arith}
use Rattle.std.specs.Prelude.{slice_index, unwrap_or, IfOk}
use Rattle.std.specs.List.{prefix_len}
use Rattle.std.specs.Global.{Vec}
use Rattle.lua_token.specs.Bytes.{is_of}
use Rattle.lua_token.specs.declared.bytes.Class.TheVariants.{InName}
use Rattle.lua_value.specs.declared.numeral.NumeralFault.{NumeralFault}
use Rattle.lua_value.specs.declared.numeral.NumeralFault.TheVariants as numeral
use Rattle.lua_token.specs.Cuts.{StandsIn}
use Rattle.lua_token.specs.Run.{number_length}
use Rattle.lua_token.specs.Long.{FirstClosing}
use Rattle.lua_token.specs.Quoted.{character_at, Characters}
use Rattle.lua_token.specs.Place.{begins, QuoteEnds, Stands, StandsAt, number_step, symbol_step, comment_step}
use Rattle.lua_token.specs.Spelling.{spelling, word_kind, keyword_of, symbol_at}
use Rattle.lua_token.specs.Value.{QuotedBytes, LongBytes, StringBytes, HasValue, long_bytes}
use Rattle.lua_token.specs.declared.fault.LexWhat.{LexWhat}
use Rattle.lua_token.specs.declared.kind.Kind.{Kind}
use Rattle.lua_token.specs.declared.kind.Kind.TheVariants.{Str, Name, Number}
use Rattle.lua_token.specs.declared.quoted.Character.{Character}
use Rattle.lua_token.specs.declared.quoted.Character.TheVariants.{Byte, Closing, Unfinished, TooLarge}
use Rattle.lua_token.specs.declared.start.Start.{Start}
use Rattle.lua_token.specs.declared.start.Start.TheVariants as starts
use Rattle.lua_token.specs.declared.step.Step.{Step}
use Rattle.lua_token.specs.declared.step.Step.TheVariants.{Found}
use Rattle.lua_token.specs.declared.token.Token.{Token}
use Rattle.lua_token.proofs.Symbols.{kind_fits, keyword_is_some}
use Rattle.lua_token.proofs.Once.{Ends, characters_once, first_once}

pub closes : (ch : Character) (n size : ℕ) → QuoteEnds ch n (Ok (Found Str size)) → ch ≡ Closing
closes (Byte b k) n size h = absurd h
closes Closing n size h = refl
closes Unfinished n size h = absurd cc
closes TooLarge n size h = absurd cc

quote_is_closed : (text : List ℕ) (size : ℕ) → Stands starts.Quote text (Ok (Found Str size)) → (bytes : List ℕ) × QuotedBytes text bytes
quote_is_closed text size (bytes, rest, h, e) = (bytes, (rest, h, closes (character_at (slice_index text 0) rest) _ size e))

pub long_by : (n size : ℕ) (text : List ℕ) (m : Option ℕ) → FirstClosing n (drop (n + 2) text) m → Some size ≡ Rattle.std.specs.Option.option_map (λ (m : ℕ). n + 2 + m + (n + 2)) m → (k : ℕ) × FirstClosing n (drop (n + 2) text) (Some k) × (size ≡ n + 2 + k + (n + 2))
long_by n size text (Some k) h e = (k, h, cc)
long_by n size text None h e = absurd cc

pub sized : (size : ℕ) (o : Option ℕ) → ◌≡◌ {A = Result Step LexWhat} (Ok (Found Str size)) (Rattle.lua_token.specs.Place.long_step o) → o ≡ Some size
sized size (Some n) e = cc
sized size None e = absurd cc

pub long_is_closed : (n size : ℕ) (text : List ℕ) → Stands (starts.Long n) text (Ok (Found Str size)) → (k : ℕ) × FirstClosing n (drop (n + 2) text) (Some k) × (size ≡ n + 2 + k + (n + 2))
long_is_closed n size text (o, (m, h, e), f) = long_by n size text m h (sym (sized size o f) ∙ e)

-- no keyword, symbol or number is a string
no_string_number : (n size : ℕ) (r : Result ℤ NumeralFault) → ◌≡◌ {A = Result Step LexWhat} (Ok (Found Str size)) (number_step n r) → ⊥
no_string_number n size (Ok z) e = cc
no_string_number n size (Err numeral.Malformed) e = cc
no_string_number n size (Err numeral.NotWhole) e = cc

no_string_symbol : (text : List ℕ) (size : ℕ) (o : Option Kind) → o ≡ symbol_at text → ◌≡◌ {A = Result Step LexWhat} (Ok (Found Str size)) (symbol_step o) → ⊥
unfolding spelling
no_string_symbol text size (Some k) e f =
    let k_is : k ≡ Str = cc in
    let h = subst (λ (x : Kind). 0 < length (spelling x)) k_is (kind_fits text k e).0 in
    omega (arith, h)
no_string_symbol text size None e f = cc

no_string_word : (word : List ℕ) (o : Option Kind) → o ≡ keyword_of word → Str ≡ unwrap_or o Name → ⊥
unfolding spelling
no_string_word word (Some k) e f =
    let h = subst (λ (x : Kind). 0 < length (spelling x)) (sym f) (keyword_is_some word k e) in
    omega (arith, h)
no_string_word word None e f = cc

no_string_comment : (size : ℕ) (o : Option ℕ) → ◌≡◌ {A = Result Step LexWhat} (Ok (Found Str size)) (comment_step o) → ⊥
no_string_comment size (Some n) e = cc
no_string_comment size None e = cc

-- where a string stands
pub string_begins : (x : Start) (text : List ℕ) (size : ℕ) → Stands x text (Ok (Found Str size)) → (x ≡ starts.Quote) ⊎ ((n : ℕ) × (x ≡ starts.Long n))
string_begins starts.Nothing text size h = absurd h
string_begins starts.Blank text size h = absurd cc
string_begins starts.Word text size h =
    let word = take (prefix_len (is_of InName) text) text in
    let kind : Str ≡ word_kind word = cc in
    absurd (no_string_word word (keyword_of word) refl kind)
string_begins starts.Digits text size (r, a, e) = absurd (no_string_number _ size r e)
string_begins starts.Quote text size h = inl refl
string_begins starts.Comment text size (inl (a, e)) = absurd cc
string_begins starts.Comment text size (inr (n, o, a, l, e)) = absurd (no_string_comment size o e)
string_begins (starts.Long n) text size h = inr (n, refl)
string_begins starts.Symbol text size h = absurd (no_string_symbol text size (symbol_at text) refl h)

pub quote_begins : (text : List ℕ) (size : ℕ) → StandsAt text (Ok (Found Str size)) → ((n : ℕ) → begins text ≡ starts.Long n → ⊥) → begins text ≡ starts.Quote
quote_begins text size h other = elim (string_begins (begins text) text size h) [ inl quote ↦ quote | inr long ↦ absurd (other long.0 long.1) ]

pub quote_closes : (text : List ℕ) (size : ℕ) → StandsAt text (Ok (Found Str size)) → ((n : ℕ) → begins text ≡ starts.Long n → ⊥) → (bytes : List ℕ) × QuotedBytes text bytes
quote_closes text size h other = quote_is_closed text size (subst (λ (x : Start). Stands x text (Ok (Found Str size))) (quote_begins text size h other) h)

pub something_stands : (text : List ℕ) (found : Result Step LexWhat) → StandsAt text found → 0 < length text
unfolding begins
something_stands [] found h = absurd h
something_stands (b ∷ text) found h = omega arith

-- the characters end where the quotes close
pub closing_here : (q : ℕ) {text bytes rest bytes' rest' : List ℕ} → Characters q text bytes rest → Ends q rest → Characters q text bytes' rest' → character_at q rest' ≡ Closing → character_at q rest ≡ Closing
closing_here q {rest = rest} h d h' e =
    let same = (characters_once q h h' d (λ b n f. cc)).1 in
    subst (λ (t : List ℕ). character_at q t ≡ Closing) (sym same) e

-- the body that the code slices out of a long string
pub long_value_is : {E : Type 0} (n size : ℕ) (text : List ℕ) (r : Result (Vec ℕ) E) → Stands (starts.Long n) text (Ok (Found Str size))
    → IfOk r (λ bytes. bytes.items ≡ long_bytes (take (size - (n + 2) - (n + 2)) (drop (n + 2) text))) → IfOk r (λ bytes. LongBytes n text bytes.items)
long_value_is n size text (Ok v) h e =
    let closed = long_is_closed n size text h in
    let body : size - (n + 2) - (n + 2) ≡ closed.0 = omega (arith, closed.2) in
    (closed.0, closed.1, e ∙ ap (λ (k : ℕ). long_bytes (take k (drop (n + 2) text))) body)
long_value_is n size text (Err f) h e = tt

-- ---- one value

value_once : (x : Start) (text a b : List ℕ) → StringBytes x text a → StringBytes x text b → a ≡ b
value_once starts.Nothing text a b p q = absurd p
value_once starts.Blank text a b p q = absurd p
value_once starts.Word text a b p q = absurd p
value_once starts.Digits text a b p q = absurd p
value_once starts.Quote text a b (rest, h, e) (rest', h', e') = (characters_once (slice_index text 0) h h' (λ c n f. cc) (λ c n f. cc)).0
value_once starts.Comment text a b p q = absurd p
value_once (starts.Long n) text a b (m, h, e) (k, h', e') =
    let same : k ≡ m = some_is k m (first_once n (drop (n + 2) text) (Some k) (Some m) h' h) in
    e ∙ ap (λ (j : ℕ). long_bytes (take j (drop (n + 2) text))) (sym same) ∙ sym e'
  where
    some_is : (k m : ℕ) → ◌≡◌ {A = Option ℕ} (Some k) (Some m) → k ≡ m
    some_is k m e = cc
value_once starts.Symbol text a b p q = absurd p

pub one_value : (source : List ℕ) (t : Token) (a b : List ℕ) → HasValue source t a → HasValue source t b → a ≡ b
one_value source t a b p q = value_once (begins (drop t.start source)) (drop t.start source) a b p q

-- ---- some value

value_there : (x : Start) (text : List ℕ) (size : ℕ) → Stands x text (Ok (Found Str size)) → (bytes : List ℕ) × StringBytes x text bytes
value_there x text size h =
    elim (string_begins x text size h) [
      | inl quote ↦ subst (λ (y : Start). (bytes : List ℕ) × StringBytes y text bytes) (sym quote) (quote_is_closed text size (subst (λ (y : Start). Stands y text (Ok (Found Str size))) quote h))
      | inr long ↦
          let closed = long_is_closed long.0 size text (subst (λ (y : Start). Stands y text (Ok (Found Str size))) long.1 h) in
          subst (λ (y : Start). (bytes : List ℕ) × StringBytes y text bytes) (sym long.1) (long_bytes (take closed.0 (drop (long.0 + 2) text)), (closed.0, closed.1, refl))
    ]

pub some_value : (source : List ℕ) (t : Token) → StandsIn source t → t.kind ≡ Str → (bytes : List ℕ) × HasValue source t bytes
some_value source t at is =
    let text = drop t.start source in
    value_there (begins text) text t.length (subst (λ (k : Kind). StandsAt text (Ok (Found k t.length))) is at.found)

-- ---- the run of a number

number_at : (z : ℤ) (m n : ℕ) (r : Result ℤ NumeralFault) → ◌≡◌ {A = Result Step LexWhat} (Ok (Found (Number z) n)) (number_step m r) → n ≡ m
number_at z m n (Ok y) e = cc
number_at z m n (Err numeral.Malformed) e = absurd cc
number_at z m n (Err numeral.NotWhole) e = absurd cc

no_number_symbol : (text : List ℕ) (z : ℤ) (n : ℕ) (o : Option Kind) → o ≡ symbol_at text → ◌≡◌ {A = Result Step LexWhat} (Ok (Found (Number z) n)) (symbol_step o) → ⊥
unfolding spelling
no_number_symbol text z n (Some k) e f =
    let k_is : k ≡ Number z = cc in
    let h = subst (λ (x : Kind). 0 < length (spelling x)) k_is (kind_fits text k e).0 in
    omega (arith, h)
no_number_symbol text z n None e f = cc

no_number_word : (word : List ℕ) (z : ℤ) (o : Option Kind) → o ≡ keyword_of word → Number z ≡ unwrap_or o Name → ⊥
unfolding spelling
no_number_word word z (Some k) e f =
    let h = subst (λ (x : Kind). 0 < length (spelling x)) (sym f) (keyword_is_some word k e) in
    omega (arith, h)
no_number_word word z None e f = cc

no_number_comment : (z : ℤ) (n : ℕ) (o : Option ℕ) → ◌≡◌ {A = Result Step LexWhat} (Ok (Found (Number z) n)) (comment_step o) → ⊥
no_number_comment z n (Some m) e = cc
no_number_comment z n None e = cc

no_number_long : (z : ℤ) (n : ℕ) (o : Option ℕ) → ◌≡◌ {A = Result Step LexWhat} (Ok (Found (Number z) n)) (Rattle.lua_token.specs.Place.long_step o) → ⊥
no_number_long z n (Some m) e = cc
no_number_long z n None e = cc

no_number_quote : (z : ℤ) (n m : ℕ) (ch : Character) → QuoteEnds ch m (Ok (Found (Number z) n)) → ⊥
no_number_quote z n m (Byte b k) h = h
no_number_quote z n m Closing h = cc
no_number_quote z n m Unfinished h = cc
no_number_quote z n m TooLarge h = cc

run_there : (x : Start) (text : List ℕ) (z : ℤ) (n : ℕ) → Stands x text (Ok (Found (Number z) n)) → n ≡ number_length text
run_there starts.Nothing text z n h = absurd h
run_there starts.Blank text z n h = absurd cc
run_there starts.Word text z n h =
    let word = take (prefix_len (is_of InName) text) text in
    let kind : Number z ≡ word_kind word = cc in
    absurd (no_number_word word z (keyword_of word) refl kind)
run_there starts.Digits text z n (r, a, e) = number_at z (number_length text) n r e
run_there starts.Quote text z n (bytes, rest, h, e) = absurd (no_number_quote z n _ (character_at (slice_index text 0) rest) e)
run_there starts.Comment text z n (inl (a, e)) = absurd cc
run_there starts.Comment text z n (inr (m, o, a, l, e)) = absurd (no_number_comment z n o e)
run_there (starts.Long m) text z n (o, l, e) = absurd (no_number_long z n o e)
run_there starts.Symbol text z n h = absurd (no_number_symbol text z n (symbol_at text) refl h)

pub whole_run : (source : List ℕ) (t : Token) (z : ℤ) → StandsIn source t → t.kind ≡ Number z → t.length ≡ number_length (drop t.start source)
whole_run source t z at is =
    let text = drop t.start source in
    run_there (begins text) text z t.length (subst (λ (k : Kind). StandsAt text (Ok (Found k t.length))) is at.found)
