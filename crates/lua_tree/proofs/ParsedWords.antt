-- The words of the tokens of a source, and the places of its faults.
use Rattle.std.proofs.Common.{◌≡◌, ℕ, zero, suc, ◌+◌, ◌<◌, ◌≤◌, length, List, [], ◌∷◌, All, Option, Some, None, Result, Ok, Err, drop, refl, sym, ap, ◌∙◌, subst, arith}
use Rattle.std.specs.Prelude.{slice_get}
use Rattle.lua_token.specs.Answer.{IsTokensAnswer}
use Rattle.lua_token.specs.Cuts.{StandsIn}
use Rattle.lua_token.specs.declared.kind.Kind.{Kind}
use Rattle.lua_token.specs.declared.kind.Kind.TheVariants as kinds
use Rattle.lua_token.specs.declared.token.Token.{Token}
use Rattle.lua_token.specs.declared.fault.LexFault.{LexFault}
use Rattle.lua_token.specs.declared.fault.LexWhat.{LexWhat}
use Rattle.lua_token.specs.declared.fault.LexWhat.TheVariants as lex
use Rattle.lua_token.proofs.Values.{some_value}
use Rattle.std.specs.Result.{IsErrAnd}
use Rattle.lua_tree.specs.declared.tree.Chunk.{Chunk}
use Rattle.lua_tree.specs.declared.stop.Stop.{Stop}
use Rattle.lua_tree.specs.declared.stop.Stop.TheVariants as stopped
use Rattle.lua_tree.specs.declared.stop.Fault as declared
use Rattle.lua_tree.specs.declared.stop.Fault.TheVariants as stop
use Rattle.lua_tree.specs.Tree.{Block}
use Rattle.lua_tree.specs.Words as w
use Rattle.lua_tree.specs.Words.{Word, Tok, tok}
use Rattle.lua_tree.specs.Attributes.{at_chunk}
use Rattle.lua_tree.specs.Reading.{Sort, Value, at_last, Answer, got, stuck, unexpected, Reads, is_last, not_last, stops, block, program}
use Rattle.lua_tree.specs.View.{block_view}
use Rattle.lua_tree.specs.Faults.{IsExact, Agree}
use Rattle.lua_tree.specs.Spelled.{Spelled, no_token, token_and, IsWord, spot_behind, word_of_kind}
use Rattle.lua_tree.specs.Answer.{Answers, limits, fault_of}
use Rattle.lua_tree.specs.Parsed.{ChunkAnswers, WordsOf, place_of, place_before, fault_at, lexical_as, IsExactFault, GivesFaultAt}
use Rattle.lua_tree.proofs.Places.{here, past}

-- a token that stands in the source is a word of it
word_there : (source : List ℕ) (t : Token) → StandsIn source t → (k : Kind) → t.kind ≡ k → (v : Word) × IsWord source t k v
word_there source t h kinds.Name e = (w.name _, refl)
word_there source t h (kinds.Number z) e = (w.number z, refl)
word_there source t h kinds.Str e = let x = some_value source t h e in (w.str x.0, (x.0, x.1, refl))
word_there source t h k e = (word_of_kind k, refl)

-- so the tokens of a source have words
pub words_there : (source : List ℕ) (before : ℕ) (ts : List Token) → All (StandsIn source) ts → (words : List Tok) × Spelled source before ts words
words_there source before [] h = ([], no_token)
words_there source before (t ∷ ts) h =
    let v = word_there source t (h 0 t (omega arith)) t.kind refl in
    let rest = words_there source t.line ts (λ i d lt. h (suc i) d (omega (arith, lt))) in
    (tok v.0 (spot_behind before t) ∷ rest.0, token_and v.1 rest.1)

-- where a token stands, a word does
word_left : {source : List ℕ} {first : ℕ} {ts : List Token} {words : List Tok} → Spelled source first ts words → (at : ℕ) → at < length ts → (t : Tok) × (us : List Tok) × (drop at words ≡ t ∷ us)
word_left no_token at h = absurd (omega (arith, h))
word_left (token_and is rest) zero h = (_, _, refl)
word_left (token_and is rest) (suc at) h = word_left rest at (omega (arith, h))

-- behind the last token no word is left
none_left : {source : List ℕ} {first : ℕ} {ts : List Token} {words : List Tok} → Spelled source first ts words → (at : ℕ) → length ts ≤ at → drop at words ≡ []
none_left no_token zero h = refl
none_left no_token (suc at) h = refl
none_left (token_and is rest) zero h = absurd (omega (arith, h))
none_left (token_and is rest) (suc at) h = none_left rest at (omega (arith, h))

pub reads_no_end : {s : Sort} {a : Value s} {source : List ℕ} {first : ℕ} {ts : List Token} {words : List Tok} → Spelled source first ts words → (at : ℕ) → at < length ts
    → Reads limits s (at_last a) (drop at words) (stuck unexpected (drop at words))
reads_no_end {s = s} {a = a} spelled at h =
    let left = word_left spelled at h in
    subst (λ (us : List Tok). Reads limits s (at_last a) us (stuck unexpected us)) (sym left.2) not_last

pub reads_end : {s : Sort} {a : Value s} {source : List ℕ} {first : ℕ} {ts : List Token} {words : List Tok} → Spelled source first ts words → (at : ℕ) → length ts ≤ at
    → Reads limits s (at_last a) (drop at words) (got a [])
reads_end {s = s} {a = a} spelled at h = subst (λ (us : List Tok). Reads limits s (at_last a) us (got a [])) (sym (none_left spelled at h)) is_last

-- a place is that of its word
pub place_there : {source : List ℕ} {first : ℕ} {ts : List Token} {words : List Tok} → Spelled source first ts words → (at : ℕ)
    → place_before source (drop at words) ≡ place_of source (slice_get ts at)
place_there {source = source} {ts = ts} {words = words} spelled at =
    elim (slice_get ts at) as (λ o. slice_get ts at ≡ o → place_before source (drop at words) ≡ place_of source o) [
      | None ↦ λ e. ap (place_before source) (past spelled at e)
      | Some u ↦ λ e. ap (place_before source) (here spelled at u e).stands
    ] refl

-- a fault that is exact for the words is so for the source
pub exact_fault : (source : List ℕ) (what : declared.Fault) (p : ℕ × ℕ) (words rest : List Tok) → WordsOf source words → IsExact limits words (stuck (fault_of what) rest)
    → place_before source rest ≡ p → IsExactFault source (fault_at what p)
exact_fault source stop.Unexpected p words rest of is e = (words, of, (_, rest, is, (stop.Unexpected, refl, ap (fault_at stop.Unexpected) (sym e))))
exact_fault source stop.BreakOutside p words rest of is e = (words, of, (_, rest, is, (stop.BreakOutside, refl, ap (fault_at stop.BreakOutside) (sym e))))
exact_fault source stop.VarargOutside p words rest of is e = (words, of, (_, rest, is, (stop.VarargOutside, refl, ap (fault_at stop.VarargOutside) (sym e))))
exact_fault source stop.TooDeep p words rest of is e = (words, of, (_, rest, is, (stop.TooDeep, refl, ap (fault_at stop.TooDeep) (sym e))))
exact_fault source stop.TooManyLocals p words rest of is e = (words, of, (_, rest, is, (stop.TooManyLocals, refl, ap (fault_at stop.TooManyLocals) (sym e))))
exact_fault source stop.AmbiguousCall p words rest of is e = (words, of, (_, rest, is, (stop.AmbiguousCall, refl, ap (fault_at stop.AmbiguousCall) (sym e))))

-- an answer that agrees with it is this fault at this place
fault_agrees : (source : List ℕ) (what : declared.Fault) (p : ℕ × ℕ) (rest us : List Tok) → rest ≡ us → place_before source rest ≡ p → fault_at what p ≡ fault_at what (place_before source us)
fault_agrees source what p rest us same e = ap (fault_at what) (sym e ∙ ap (place_before source) same)

pub gives_fault : (source : List ℕ) (what : declared.Fault) (p : ℕ × ℕ) (rest : List Tok) (answer : Answer Block) → Agree (stuck (fault_of what) rest) answer
    → place_before source rest ≡ p → GivesFaultAt source (fault_at what p) answer
gives_fault source what p rest (got b us) same e = absurd same
gives_fault source stop.Unexpected p rest (stuck x us) same e = (stop.Unexpected, same.0, fault_agrees source stop.Unexpected p rest us same.1 e)
gives_fault source stop.BreakOutside p rest (stuck x us) same e = (stop.BreakOutside, same.0, fault_agrees source stop.BreakOutside p rest us same.1 e)
gives_fault source stop.VarargOutside p rest (stuck x us) same e = (stop.VarargOutside, same.0, fault_agrees source stop.VarargOutside p rest us same.1 e)
gives_fault source stop.TooDeep p rest (stuck x us) same e = (stop.TooDeep, same.0, fault_agrees source stop.TooDeep p rest us same.1 e)
gives_fault source stop.TooManyLocals p rest (stuck x us) same e = (stop.TooManyLocals, same.0, fault_agrees source stop.TooManyLocals p rest us same.1 e)
gives_fault source stop.AmbiguousCall p rest (stuck x us) same e = (stop.AmbiguousCall, same.0, fault_agrees source stop.AmbiguousCall p rest us same.1 e)

-- the first fault of the tokens is exact
pub lexical_exact : (source : List ℕ) (what : LexWhat) (fault : LexFault) → IsTokensAnswer source (Err fault) → IsExactFault source (lexical_as what fault)
lexical_exact source lex.Memory fault h = tt
lexical_exact source what fault h = h

-- why the block of a chunk stopped is why the chunk does
why_chunk : (words : List Tok) (why : Stop) → Answers block_view (program (block at_chunk)) 0 (Err why) words → ChunkAnswers (Err why) words
why_chunk words (stopped.At f place) d = stops d
why_chunk words stopped.Memory d = tt

pub chunk_stopped : (r : Result Chunk Stop) (why : Stop) (words : List Tok) → IsErrAnd r (λ y. y ≡ why) → Answers block_view (program (block at_chunk)) 0 (Err why) words → ChunkAnswers r words
chunk_stopped (Ok x) why words is d = absurd is
chunk_stopped (Err y) why words is d = subst (λ (x : Stop). ChunkAnswers (Err x) words) (sym is) (why_chunk words why d)

-- the tokens by another name
pub renamed : {source : List ℕ} {words : List Tok} (ts us : List Token) → us ≡ ts → Spelled source 1 ts words → Spelled source 1 us words
renamed {source = source} {words = words} ts us e sp = subst (λ (xs : List Token). Spelled source 1 xs words) (sym e) sp
