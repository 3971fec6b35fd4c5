use Rattle.std.proofs.Common.{◌≡◌}
use Rattle.channel_desk.specs.Holding.{IsHolding}
use Rattle.channel_desk.specs.Turns.{Waited}
use Rattle.channel_desk.proofs.awaiting.Sections+Vec+Section.await_read.Given as goal

abbrev pub invariant-loop : goal.invariant-loop
invariant-loop g l = record {
  same : l.self.pass.ghost_name ≡ l.fn.self.pass.ghost_name;
  desk : l.self.desk.now ≡ l.fn.self.desk.now;
  state : l.self.state ≡ l.fn.self.state;
  items : l.self.held.items ≡ l.fn.self.held.items;
  next : l.self.next ≡ l.fn.self.next;
  holding : IsHolding l.self.desk.now l.self.state l.self.next l.self.pass.now l.self.held.items;
  waited : Waited l.fn.self.pass.now.view l.self.pass.now.view;
}
