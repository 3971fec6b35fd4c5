use Rattle.std.proofs.Common.{◌≡◌, ℕ, false, eqb, List, [], length, sym, ◌∙◌, ap}
use Rattle.std.proofs.lemmas.Bool.{false≢true}
use Rattle.lua_value.proofs.Words.{word_is_last}
use Rattle.lua_value.proofs.number_text.word.Goals as goal

pub returns-else-is_empty : goal.returns-else-is_empty
returns-else-is_empty c = λ w is_word.
    let last = c.split_blanks-2.result.1.now in
    let nothing : last ≡ [] =
    word_is_last c.args.text.now c.split_blanks.result.0.now c.split_blanks.result.1.now c.split_word.result.0.now c.split_word.result.1.now
    c.split_blanks-2.result.0.now c.split_blanks-2.result.1.now w
    c.split_blanks.ensures.front c.split_blanks.ensures.rest c.split_blanks.ensures.whole
    c.split_word.ensures.front c.split_word.ensures.rest c.split_word.ensures.whole
    c.split_blanks-2.ensures.rest c.split_blanks-2.ensures.whole is_word in
    let some : false ≡ eqb (length last) 0 = sym c.if-is_empty.false ∙ c.is_empty.ensures in
    false≢true (some ∙ ap (λ (l : List ℕ). eqb (length l) 0) nothing)
