use Rattle.std.proofs.Common.{◌≡◌, ◌<◌, ◌≤◌, ◌+◌, ◌^◌, ℕ, length}
use Rattle.variant.specs.Log.{MayFollow}
use Rattle.variant.specs.declared.action.Deed.TheVariants.{CutLeave as Cutting}
use Rattle.channel_desk.specs.Holding.{IsHolding}
use Rattle.channel_desk.specs.Leaving.{LeftAll}
use Rattle.channel_desk.proofs.leaving.Sections+Vec+Section.leave_all.Given as goal

abbrev pub invariant-loop : goal.invariant-loop
invariant-loop l = record {
  same : l.self.pass.ghost_name ≡ l.fn.self.pass.ghost_name;
  desk : l.self.desk.now ≡ l.fn.self.desk.now;
  state : l.self.state ≡ l.fn.self.state;
  holding : IsHolding l.self.desk.now l.self.state l.self.next l.self.pass.now l.self.held.items;
  next : l.self.next + length l.self.held.items < 2 ^ 32;
  room : length l.self.held.items ≤ l.log.spare;
  order : (channel : ℕ) → MayFollow l.log.actions (Cutting channel);
  left : LeftAll l.fn.self.state l.fn.self.next l.fn.self.pass.now.view l.fn.self.held.items l.fn.log.actions l.self.next l.self.pass.now.view l.self.held.items l.log.actions;
}

abbrev pub decreases-loop : goal.decreases-loop
decreases-loop l = length l.self.held.items
