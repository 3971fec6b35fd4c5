use Rattle.std.proofs.Common.{◌≡◌, ℕ, take, sym, subst}
use Rattle.lua_token.specs.Bytes.{newlines}
use Rattle.lua_token.specs.declared.bytes.Class.TheVariants.{InName}
use Rattle.lua_token.proofs.Lines.{run_in_line}
use Rattle.lua_token.proofs.step.word.Goals as goal

pub returns-clause-lines : goal.returns-clause-lines
returns-clause-lines c =
    let text = c.args.text.now in
    sym (subst (λ (n : ℕ). newlines (take n text) ≡ 0) (sym c.run_length-length.ensures.value) (run_in_line InName text))
