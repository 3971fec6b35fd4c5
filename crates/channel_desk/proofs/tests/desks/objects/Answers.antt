use Rattle.std.proofs.Common.{◌≡◌, ◌∙◌, ℕ, ap, arith}
use Rattle.channel_desk.specs.Opened.{laid_out}
use Rattle.channel_desk.proofs.tests.desks.objects.Goals as goal

pub returns : goal.returns
returns c = let all : c.loop-channels.channels ≡ 1024 = omega arith in c.loop-channels.invariant ∙ ap (λ (n : ℕ). laid_out 1 n) all
