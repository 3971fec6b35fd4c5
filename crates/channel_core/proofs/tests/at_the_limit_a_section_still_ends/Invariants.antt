use Rattle.std.proofs.Common.{◌+◌}
use Rattle.channel_core.specs.Lawful.{NumbersBelow}
use Rattle.channel_core.proofs.tests.at_the_limit_a_section_still_ends.Given as goal

abbrev pub invariant-loop-i : goal.invariant-loop-i
invariant-loop-i g l = NumbersBelow (l.i + 1) l.channel
