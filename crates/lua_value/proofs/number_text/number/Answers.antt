use Rattle.lua_value.proofs.Words.{word_of, read_word}
use Rattle.lua_value.proofs.number_text.number.Goals as goal

pub returns-in_err-word : goal.returns-in_err-word
returns-in_err-word c = rw c.from_residual.ensures (λ n reads num.
    let found = word_of c.args.text.now n reads in
    c.in_err-word.ensures found.0 found.1)

pub returns : goal.returns
returns c = read_word c.args.text.now _ _ c.in_ok-word.ensures c.signed.ensures
