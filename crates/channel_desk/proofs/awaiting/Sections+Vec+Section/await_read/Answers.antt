use Rattle.std.proofs.Common.{◌∙◌, refl}
use Rattle.variant.specs.declared.ask.Ask.TheVariants.{Await}
use Rattle.channel_desk.specs.declared.fault.ActFault.TheVariants.{Stopped}
use Rattle.channel_desk.proofs.Rounds.{awaited_found, not_found, other_fault, stopped_from}
use Rattle.channel_desk.proofs.Waiting.{waited_further, waited_same}
use Rattle.channel_desk.proofs.awaiting.Sections+Vec+Section.await_read.Goals as goal

pub loop-init : goal.loop-init
loop-init g c = record {
  same = refl;
  desk = refl;
  state = refl;
  items = refl;
  next = refl;
  holding = c.requires.holding;
  waited = waited_same _;
}

pub returns-in-Ok-Some-clause-waited : goal.returns-in-Ok-Some-clause-waited
returns-in-Ok-Some-clause-waited g c = waited_further _ _ _ c.loop.invariant.waited c.await_round.ensures.waited

pub returns-in-Ok-Some-clause-awaited : goal.returns-in-Ok-Some-clause-awaited
returns-in-Ok-Some-clause-awaited g c = let i = c.loop.invariant in
    awaited_found (g.P.Pacer.shows c.args.pacer.now) _ _ _ _ _ _ _ _ _ (Await c.args.channel c.args.id c.args.limit) c.in-Ok-Some.field-0 c.in-Ok-Some.action c.in-Ok-Some.field-0-is i.state i.next i.items i.waited c.in-Ok-Some.ensures.awaited

pub loop-preserved : goal.loop-preserved
loop-preserved g c = let e = c.await_round.ensures in let i = c.loop.invariant in record {
  same = e.same ∙ i.same;
  desk = e.desk ∙ i.desk;
  state = e.state ∙ i.state;
  items = e.items ∙ i.items;
  next = not_found c.await_round.result c.in-Ok-None.field-0 _ c.in-Ok-None.is c.in-Ok-None.field-0-is e.stays ∙ i.next;
  holding = e.holding;
  waited = waited_further _ _ _ i.waited e.waited;
}

pub returns-in-Err-clause-waited : goal.returns-in-Err-clause-waited
returns-in-Err-clause-waited g c = waited_further _ _ _ c.loop.invariant.waited c.await_round.ensures.waited

pub returns-in-Err-clause-stopped : goal.returns-in-Err-clause-stopped
returns-in-Err-clause-stopped g c = λ stop is. let i = c.loop.invariant in
    stopped_from _ _ _ _ _ _ _ (Await c.args.channel c.args.id c.args.limit) stop i.state i.items i.waited
    (c.await_round.ensures.stopped stop (other_fault c.await_round.result c.in-Err.fault (Stopped stop) c.in-Err.is is))
