use Rattle.std.proofs.Common.{◌≡◌, ℕ, take, sym, subst, arith}
use Rattle.lua_token.specs.Bytes.{newlines}
use Rattle.lua_token.proofs.Symbols.{kind_fits, symbol_in_line}
use Rattle.lua_token.proofs.step.symbol.Goals as goal

pub returns-in-Some-clause-fits : goal.returns-in-Some-clause-fits
returns-in-Some-clause-fits c = omega (arith, kind_fits c.args.text.now c.in-Some.kind c.in-Some.ensures)

pub returns-in-Some-clause-lines : goal.returns-in-Some-clause-lines
returns-in-Some-clause-lines c =
    let text = c.args.text.now in
    sym (subst (λ (n : ℕ). newlines (take n text) ≡ 0) (sym c.spelled_length-length.ensures) (symbol_in_line text c.in-Some.kind c.in-Some.ensures))
