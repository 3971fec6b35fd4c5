use Rattle.std.proofs.Common.{◌∙◌, refl, arith}
use Rattle.channel_desk.specs.Leaving.{none}
use Rattle.channel_desk.proofs.Cuts.{left_one, order_after}
use Rattle.channel_desk.proofs.leaving.Sections+Vec+Section.leave_all.Goals as goal

pub loop-init : goal.loop-init
loop-init c = record {
  same = refl;
  desk = refl;
  state = refl;
  holding = c.requires.holding;
  next = c.requires.next;
  room = c.requires.room;
  order = c.requires.order;
  left = none;
}

pub loop-preserved : goal.loop-preserved
loop-preserved c = let e = c.leave_last.ensures in let i = c.loop.invariant in let fewer = e.fewer c.loop-test.true in let room = e.room c.loop-test.true in record {
  same = e.same ∙ i.same;
  desk = e.desk ∙ i.desk;
  state = e.state ∙ i.state;
  holding = e.holding;
  next = (let n = i.next in let a = fewer.0 in let b = fewer.1 in omega (arith, n, a, b));
  room = (let n = i.room in let b = fewer.1 in omega (arith, n, b, room));
  order = order_after _ _ _ _ _ _ _ _ i.order (e.one c.loop-test.true);
  left = left_one _ _ _ _ _ _ _ _ _ _ _ _ _ _ i.state fewer.0 i.left (e.one c.loop-test.true);
}
