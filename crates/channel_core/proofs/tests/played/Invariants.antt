use Rattle.std.proofs.Common.{◌≡◌, ◌+◌}
use Rattle.channel_core.specs.Lawful.{NumbersBelow}
use Rattle.channel_core.proofs.tests.played.Given as goal

abbrev pub invariant-loop-call : goal.invariant-loop-call
invariant-loop-call g l = (l.next ≡ l.call-index + 1) × NumbersBelow l.next l.channel
