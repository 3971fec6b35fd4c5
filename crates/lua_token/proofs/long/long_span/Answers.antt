use Rattle.std.proofs.Common.{◌≡◌, ℕ, ◌+◌, List, drop, Some, sym, subst, ◌∙◌}
use Rattle.lua_token.specs.Long.{level, SpanCounts}
use Rattle.lua_token.proofs.Lines.{long_newlines}
use Rattle.lua_token.proofs.Parts.{rest_is}
use Rattle.lua_token.proofs.long.long_span.Goals as goal

pub returns-in-Some-clause-lines : goal.returns-in-Some-clause-lines
returns-in-Some-clause-lines c =
    let text = c.args.text.now in
    let n = c.args.opened in
    let body = rest_is (n + 2) text in
    let counted = subst (λ (rest : List ℕ). SpanCounts rest c.in-Some.body) body c.in-Some.ensures.lines in
    let closes = subst (λ (rest : List ℕ). level 93 (drop c.in-Some.body.length rest) ≡ Some n) body c.in-Some.ensures.value.0 in
    counted ∙ sym (long_newlines n c.in-Some.body.length text c.requires.opens closes)
