use Rattle.std.proofs.Common.{◌≡◌}
use Rattle.channel_desk.specs.Opened.{laid_out}
use Rattle.channel_desk.proofs.tests.desks.objects.Given as goal

abbrev pub invariant-loop-channels : goal.invariant-loop-channels
invariant-loop-channels l = l.objects.items ≡ laid_out 1 l.channels
