use Rattle.std.proofs.Common.{arith, sym, ◌∙◌}
use Rattle.lua_lib.proofs.Patterns.{pattern-some, pattern-none}
use Rattle.lua_lib.proofs.strings.is_pattern.Goals as goal

pub returns-then-is_special : goal.returns-then-is_special
returns-then-is_special c =
    sym (pattern-some c.args.text.now c.loop-byte.byte-index c.loop-byte-test.true (sym c.is_special.ensures ∙ c.if-is_special.true))

pub returns : goal.returns
returns c = sym (pattern-none c.args.text.now (λ k l. c.loop-byte.invariant k (omega arith)))
