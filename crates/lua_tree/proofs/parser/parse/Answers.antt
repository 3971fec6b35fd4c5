use Rattle.std.proofs.Common.{◌≡◌, ◌⊎◌, inl, inr, ℕ, List, [], drop, slice_get, Result, Ok, Err, Some, None, refl, sym, ap, ◌∙◌, subst}
use Rattle.std.specs.Result.{result_ok, result_err}
use Rattle.std.proofs.Math.Logic.{⊎_elim}
use Rattle.std.proofs.lemmas.Option.{none-some, same_Some}
use Rattle.lua_token.specs.Answer.{no_memory}
use Rattle.lua_token.specs.declared.token.Token.{Token}
use Rattle.lua_token.specs.declared.fault.LexFault.{LexFault}
use Rattle.lua_token.specs.declared.fault.LexWhat.{LexWhat}
use Rattle.lua_token.specs.declared.fault.LexWhat.TheVariants as lex
use Rattle.lua_tree.specs.declared.fault.ParseFault.{ParseFault}
use Rattle.lua_tree.specs.declared.stop.Stop.{Stop}
use Rattle.lua_tree.specs.declared.stop.Stop.TheVariants as stops
use Rattle.lua_tree.specs.declared.fault.ParseFault.TheVariants as faults
use Rattle.lua_tree.specs.Tree.{Block}
use Rattle.lua_tree.specs.Words.{Tok}
use Rattle.lua_tree.specs.Reading.{Answer, got, stuck}
use Rattle.lua_tree.specs.Spelled.{Spelled}
use Rattle.lua_tree.specs.View.{block_view}
use Rattle.lua_tree.specs.Answer.{limits, fault_of}
use Rattle.lua_tree.specs.Parsed.{ChunkAnswers, lexical_as, lexical_of, IsExactFault, GivesFaultAt, place_of}
use Rattle.lua_tree.proofs.Exactly.{exact, one_answer}
use Rattle.lua_tree.proofs.ParsedWords.{exact_fault, gives_fault, lexical_exact, place_there, renamed, words_there}
use Rattle.lua_tree.proofs.parser.parse.Goals as goal

-- a fault of tokens is given as it is, but for want of memory
given_as : (what : LexWhat) (fault : LexFault) → (lexical_as what fault ≡ faults.Memory) ⊎ (lexical_as what fault ≡ faults.Lex fault)
given_as lex.Memory fault = inl refl
given_as what fault = inr refl

abbrev failed : LexFault → Result (List Token) LexFault
failed fault = Err fault

abbrev found : List Token → Result (List Token) LexFault
found ts = Ok ts

-- tokens are no fault
no_fault : (fault : LexFault) (ts : List Token) → failed fault ≡ found ts → ⊥
no_fault fault ts e = none-some ts (ap result_ok e)

-- a fault is one alone
one_fault : (f g : LexFault) → failed f ≡ failed g → f ≡ g
one_fault f g e = same_Some f g (ap result_err e)

pub returns-in-Err-clause-lexical : goal.returns-in-Err-clause-lexical
returns-in-Err-clause-lexical c = λ fault is. ⊎_elim
    (λ e. inl (c.lexical.ensures ∙ ap lexical_of e))
    (λ e. ⊎_elim
    (λ m. inl (c.lexical.ensures ∙ m))
    (λ l. inr (c.lexical.ensures ∙ (l ∙ ap faults.Lex (sym (one_fault fault c.in-Err.fault e)))))
    (given_as c.in-Err.fault.what c.in-Err.fault))
    (c.in-Err.ensures.only (Err fault) is)

pub returns-in-Ok-chunk-clause-lexical : goal.returns-in-Ok-chunk-clause-lexical
returns-in-Ok-chunk-clause-lexical c = λ fault is. no_fault fault c.in-Ok.tokens.items (c.in-Ok.ensures.only (Err fault) is)

pub returns-clause-lexical : goal.returns-clause-lexical
returns-clause-lexical c = λ fault is. absurd (no_fault fault c.in-Ok.tokens.items (c.in-Ok.ensures.only (Err fault) is))

pub returns-in-Err-clause-exact : goal.returns-in-Err-clause-exact
returns-in-Err-clause-exact c =
    subst (λ (f : ParseFault). IsExactFault c.args.source.now f) (sym c.lexical.ensures)
    (⊎_elim
    (λ m. subst (λ (f : LexFault). IsExactFault c.args.source.now (lexical_of f)) (sym m) tt)
    (λ is. lexical_exact c.args.source.now c.in-Err.fault.what c.in-Err.fault is)
    c.in-Err.ensures.fault)

pub returns-in-Err-clause-only : goal.returns-in-Err-clause-only
returns-in-Err-clause-only c = λ words answer of is. ⊎_elim
    (λ m. subst (λ (f : ParseFault). GivesFaultAt c.args.source.now f answer) (sym (c.lexical.ensures ∙ ap lexical_of m)) tt)
    (λ l. absurd (no_fault c.in-Err.fault of.0 (sym l)))
    (c.in-Err.ensures.only (Ok of.0) of.1)

-- the tokens of the source are those that were found
same_tokens : (ts us : List Token) → found ts ≡ found us → ts ≡ us
same_tokens ts us e = same_Some ts us (ap result_ok e)

respelled : (source : List ℕ) (ts us : List Token) (words : List Tok) → found ts ≡ found us → Spelled source 1 ts words → Spelled source 1 us words
respelled source ts us words e sp = subst (λ (xs : List Token). Spelled source 1 xs words) (same_tokens ts us e) sp

pub returns-in-Ok-chunk-clause-exact : goal.returns-in-Ok-chunk-clause-exact
returns-in-Ok-chunk-clause-exact c =
    let ts = c.in-Ok.tokens.items in
    let w = words_there c.args.source.now 1 ts c.in-Ok.ensures.each in
    (w.0, (ts, c.in-Ok.ensures.found, w.1), exact limits w.0 _ (c.in-Ok-chunk.ensures w.0 (renamed ts _ c.as_slice.ensures.value w.1)))

pub returns-in-Ok-chunk-clause-only : goal.returns-in-Ok-chunk-clause-only
returns-in-Ok-chunk-clause-only c = λ words answer of is.
    let ts = c.in-Ok.tokens.items in
    let sp = respelled c.args.source.now of.0 ts words (c.in-Ok.ensures.only (Ok of.0) of.1) of.2 in
    one_answer limits words (got (block_view c.in-Ok-chunk.chunk.block) []) answer (exact limits words (got (block_view c.in-Ok-chunk.chunk.block) []) (c.in-Ok-chunk.ensures words (renamed ts _ c.as_slice.ensures.value sp))) is

pub returns-clause-exact : goal.returns-clause-exact
returns-clause-exact c =
    let ts = c.in-Ok.tokens.items in
    let w = words_there c.args.source.now 1 ts c.in-Ok.ensures.each in
    let at = c.in-Err-At.at in
    let sp = renamed ts _ c.as_slice.ensures.value w.1 in
    let d : ChunkAnswers (Err (stops.At c.in-Err-At.fault at)) w.0 = subst (λ (x : Stop). ChunkAnswers (Err x) w.0) c.in-Err-At.field-0-is (c.in-Err-At.ensures w.0 sp) in
    subst (λ (f : ParseFault). IsExactFault c.args.source.now f) (sym c.placed.ensures)
    (exact_fault c.args.source.now c.in-Err-At.fault (place_of c.args.source.now (slice_get c.as_slice.result.now at)) w.0 (drop at w.0) (ts, c.in-Ok.ensures.found, w.1)
    (exact limits w.0 _ d) (place_there sp at))

pub returns-clause-only : goal.returns-clause-only
returns-clause-only c = λ words answer of is.
    let ts = c.in-Ok.tokens.items in
    let at = c.in-Err-At.at in
    let sp = renamed ts _ c.as_slice.ensures.value (respelled c.args.source.now of.0 ts words (c.in-Ok.ensures.only (Ok of.0) of.1) of.2) in
    let d : ChunkAnswers (Err (stops.At c.in-Err-At.fault at)) words = subst (λ (x : Stop). ChunkAnswers (Err x) words) c.in-Err-At.field-0-is (c.in-Err-At.ensures words sp) in
    subst (λ (f : ParseFault). GivesFaultAt c.args.source.now f answer) (sym c.placed.ensures)
    (gives_fault c.args.source.now c.in-Err-At.fault (place_of c.args.source.now (slice_get c.as_slice.result.now at)) (drop at words) answer
    (one_answer limits words (stuck (fault_of c.in-Err-At.fault) (drop at words)) answer (exact limits words (stuck (fault_of c.in-Err-At.fault) (drop at words)) d) is) (place_there sp at))
