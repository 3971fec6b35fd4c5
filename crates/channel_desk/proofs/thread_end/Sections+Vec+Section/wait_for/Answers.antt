use Rattle.std.proofs.Common.{◌∙◌, refl}
use Rattle.channel_desk.specs.declared.fault.ActFault.TheVariants.{Stopped}
use Rattle.channel_desk.specs.ThreadEnd.{waits_for}
use Rattle.channel_desk.proofs.Rounds.{board_found, not_found, other_fault, stopped_as}
use Rattle.channel_desk.proofs.Waiting.{waited_further, waited_same}
use Rattle.channel_desk.proofs.thread_end.Sections+Vec+Section.wait_for.Goals as goal

pub loop-init : goal.loop-init
loop-init g c = record {
  same = refl;
  desk = refl;
  state = refl;
  items = refl;
  next = refl;
  holding = c.requires.holding;
  waited = waited_same _;
}

pub returns-in-Ok-Some-clause-waited : goal.returns-in-Ok-Some-clause-waited
returns-in-Ok-Some-clause-waited g c = waited_further _ _ _ c.loop.invariant.waited c.wait_round.ensures.waited

pub returns-in-Ok-Some-clause-acted : goal.returns-in-Ok-Some-clause-acted
returns-in-Ok-Some-clause-acted g c = let i = c.loop.invariant in
    board_found _ _ _ _ _ _ _ _ _ _ (waits_for c.args.thread) c.in-Ok-Some.field-0 c.in-Ok-Some.action c.in-Ok-Some.field-0-is i.state i.next i.items i.waited c.in-Ok-Some.ensures.acted

pub loop-preserved : goal.loop-preserved
loop-preserved g c = let e = c.wait_round.ensures in let i = c.loop.invariant in record {
  same = e.same ∙ i.same;
  desk = e.desk ∙ i.desk;
  state = e.state ∙ i.state;
  items = e.items ∙ i.items;
  next = not_found c.wait_round.result c.in-Ok-None.field-0 _ c.in-Ok-None.is c.in-Ok-None.field-0-is e.stays ∙ i.next;
  holding = e.holding;
  waited = waited_further _ _ _ i.waited e.waited;
}

pub returns-in-Err-clause-waited : goal.returns-in-Err-clause-waited
returns-in-Err-clause-waited g c = waited_further _ _ _ c.loop.invariant.waited c.wait_round.ensures.waited

pub returns-in-Err-clause-stopped : goal.returns-in-Err-clause-stopped
returns-in-Err-clause-stopped g c = λ stop is. stopped_as _ _ _ c.args.thread stop c.loop.invariant.state (c.wait_round.ensures.stopped stop (other_fault c.wait_round.result c.in-Err.fault (Stopped stop) c.in-Err.is is))
