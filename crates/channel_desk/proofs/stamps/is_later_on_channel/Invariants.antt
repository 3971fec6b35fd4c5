use Rattle.std.proofs.Common.{◌≤◌, length}
use Rattle.channel_desk.proofs.Later.{Behind}
use Rattle.channel_desk.proofs.stamps.is_later_on_channel.Given as goal

abbrev pub invariant-loop-at : goal.invariant-loop-at
invariant-loop-at l = (l.at ≤ length l.history) × Behind (λ e. e.by.state) (λ e. e.by.number) l.at l.by.state l.history

abbrev pub decreases-loop-at : goal.decreases-loop-at
decreases-loop-at l = l.at
