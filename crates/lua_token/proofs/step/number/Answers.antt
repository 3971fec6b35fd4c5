use Rattle.std.proofs.Common.{◌≡◌, ℕ, take, sym, subst}
use Rattle.lua_token.specs.Bytes.{newlines}
use Rattle.lua_token.proofs.Lines.{number_in_line}
use Rattle.lua_token.proofs.step.number.Goals as goal

pub returns-in-Ok-clause-lines : goal.returns-in-Ok-clause-lines
returns-in-Ok-clause-lines c =
    let text = c.args.text.now in
    sym (subst (λ (n : ℕ). newlines (take n text) ≡ 0) (sym c.number_length-length.ensures.value) (number_in_line text))
