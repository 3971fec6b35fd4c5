use Rattle.std.proofs.Common.{◌∙◌, ℕ, List, ap, refl}
use Rattle.variant.specs.declared.ask.Ask.TheVariants.{Demand}
use Rattle.channel_desk.specs.Holding.{sections_on}
use Rattle.channel_desk.specs.declared.fault.ActFault.TheVariants.{Stopped}
use Rattle.channel_desk.specs.declared.sections.Section.{Section}
use Rattle.channel_desk.proofs.Rounds.{demanded_found, demand_stopped_from, keeps_from, not_found, on_err, other_fault}
use Rattle.channel_desk.proofs.Waiting.{waited_further, waited_same}
use Rattle.channel_desk.proofs.demanding.Sections+Vec+Section.demand_outside.Goals as goal

pub loop-init : goal.loop-init
loop-init g c = record {
  same = refl;
  desk = refl;
  state = refl;
  items = refl;
  next = refl;
  holding = c.requires.holding;
  waited = waited_same _;
}

pub demand_round-requires-clause-outside : goal.demand_round-requires-clause-outside
demand_round-requires-clause-outside g c = ap (λ (l : List Section). sections_on c.args.channel l) c.loop.invariant.items ∙ c.requires.outside

pub returns-in-Ok-Some-clause-acted : goal.returns-in-Ok-Some-clause-acted
returns-in-Ok-Some-clause-acted g c = let i = c.loop.invariant in
    demanded_found (g.P.Pacer.shows c.args.pacer.now) _ _ _ _ _ _ _ _ _ _ (Demand c.args.channel c.args.limit) c.in-Ok-Some.field-0 c.in-Ok-Some.action c.in-Ok-Some.field-0-is c.requires.outside i.state i.next i.items i.waited c.in-Ok-Some.ensures.acted

pub loop-preserved : goal.loop-preserved
loop-preserved g c = let e = c.demand_round.ensures in let i = c.loop.invariant in
    let kept = not_found c.demand_round.result c.in-Ok-None.field-0 _ c.in-Ok-None.is c.in-Ok-None.field-0-is e.unfound in record {
      same = e.same ∙ i.same;
      desk = e.desk ∙ i.desk;
      state = e.state ∙ i.state;
      items = kept.1 ∙ i.items;
      next = kept.0 ∙ i.next;
      holding = e.holding;
      waited = waited_further _ _ _ i.waited kept.2;
    }

pub returns-in-Err-clause-kept : goal.returns-in-Err-clause-kept
returns-in-Err-clause-kept g c = let i = c.loop.invariant in
    keeps_from _ _ _ _ _ _ _ _ _ i.next i.items i.waited (on_err c.demand_round.result c.in-Err.fault _ c.in-Err.is c.demand_round.ensures.kept)

pub returns-in-Err-clause-stopped : goal.returns-in-Err-clause-stopped
returns-in-Err-clause-stopped g c = λ stop is. let i = c.loop.invariant in
    demand_stopped_from _ _ _ _ _ _ _ (Demand c.args.channel c.args.limit) stop i.state i.items i.waited
    (c.demand_round.ensures.stopped stop (other_fault c.demand_round.result c.in-Err.fault (Stopped stop) c.in-Err.is is))
