use Rattle.std.proofs.Common.{◌∙◌, ◌+◌, ℕ, ap, sym, arith}
use Rattle.variant.specs.declared.ask.Ask.TheVariants.{Pop, Demand}
use Rattle.channel_desk.proofs.Acts.{acted_turn, outcome_grown, outcome_rests, placed_outside, turned_by, waited_turned}
use Rattle.channel_desk.proofs.Demands.{comes_demand, pop_same}
use Rattle.channel_desk.proofs.Holds.{holds_as, holds_turned, holds_waited}
use Rattle.channel_desk.proofs.Moves.{acted_as}
use Rattle.channel_desk.proofs.Waiting.{grown_known, took_at}
use Rattle.channel_desk.proofs.demanding.Sections+Vec+Section.demand_now.Goals as goal

pub returns-in-Err-clause-holding : goal.returns-in-Err-clause-holding
returns-in-Err-clause-holding g c =
    let t = c.take_channel.ensures in
    holds_as _ _ _ _ _ _ _ _ _ t.desk t.state t.next t.items (holds_waited _ _ _ c.args.self.now.pass.now _ _ c.requires.holding t.own c.in-Err.ensures.halted.waited)

pub pop_held-given-requires-clause-placed : goal.pop_held-given-requires-clause-placed
pop_held-given-requires-clause-placed g c = placed_outside _ _ c.in-Ok.ensures.kind c.in-Ok.ensures.between

pub give-requires-clause-grown : goal.give-requires-clause-grown
give-requires-clause-grown g c =
    let o = c.in-Ok.ensures in let d = c.pop_held-given in
    grown_known _ _ c.get.result _ _ _ o.took (d.ensures.object ∙ o.object) (outcome_grown (Pop c.args.channel) _ 0 _ _ d.result o.kind d.ensures.kind d.ensures.outcome)

pub give-requires-clause-between : goal.give-requires-clause-between
give-requires-clause-between g c =
    let o = c.in-Ok.ensures in let d = c.pop_held-given in outcome_rests (Pop c.args.channel) _ _ _ d.result tt tt o.kind d.ensures.kind o.between d.ensures.outcome

pub returns-in_default-clause-holding : goal.returns-in_default-clause-holding
returns-in_default-clause-holding g c =
    let t = c.take_channel.ensures in let o = c.in-Ok.ensures in let d = c.pop_held-given.ensures in
    holds_as _ _ _ _ _ _ _ _ _ t.desk t.state t.next t.items (holds_turned _ _ _ _ c.args.self.now.pass.now c.give.new.pass _ c.get.result _ _ c.requires.holding (omega arith) (c.give.ensures.own ∙ t.own)
    (turned_by _ _ _ c.get.result _ _ _ o.took (d.object ∙ o.object) c.give.ensures.gave))

pub returns-in_default-clause-kept : goal.returns-in_default-clause-kept
returns-in_default-clause-kept g c =
    let t = c.take_channel.ensures in let o = c.in-Ok.ensures in let d = c.pop_held-given.ensures in (
      t.next,
      t.items,
      waited_turned _ _ c.get.result c.in-Ok.held.value c.pop_held-given.new.held.value o.kind d.kind c.in_default.ensures.outcome (turned_by _ _ _ c.get.result _ _ _ o.took (d.object ∙ o.object) c.give.ensures.gave),
    )

pub returns-then-is_nothing-clause-holding : goal.returns-then-is_nothing-clause-holding
returns-then-is_nothing-clause-holding g c =
    let t = c.take_channel.ensures in let o = c.in-Ok.ensures in let d = c.pop_held-given.ensures in
    holds_as _ _ _ _ _ _ _ _ _ t.desk t.state t.next t.items (holds_turned _ _ _ _ c.args.self.now.pass.now c.give.new.pass _ c.get.result _ _ c.requires.holding (omega arith) (c.give.ensures.own ∙ t.own)
    (turned_by _ _ _ c.get.result _ _ _ o.took (d.object ∙ o.object) c.give.ensures.gave))

pub returns-then-is_nothing-clause-unfound : goal.returns-then-is_nothing-clause-unfound
returns-then-is_nothing-clause-unfound g c =
    let t = c.take_channel.ensures in let o = c.in-Ok.ensures in let d = c.pop_held-given.ensures in
    let same = pop_same c.args.channel c.args.limit c.stamp-by.result 0 _ _ c.in-Ok-given.given (placed_outside _ c.stamp-by.result o.kind o.between) (c.is_nothing.ensures.yes c.if-is_nothing.true) c.in-Ok-given.ensures.outcome in (
      t.next,
      t.items,
      waited_turned _ _ c.get.result c.in-Ok.held.value c.pop_held-given.new.held.value o.kind d.kind same.1 (turned_by _ _ _ c.get.result _ _ _ o.took (d.object ∙ o.object) c.give.ensures.gave),
    )

pub returns-clause-holding : goal.returns-clause-holding
returns-clause-holding g c =
    let t = c.take_channel.ensures in let o = c.in-Ok.ensures in let d = c.pop_held-given.ensures in
    holds_as _ _ _ _ _ _ _ _ _ t.desk t.state (ap (λ (n : ℕ). n + 1) t.next) t.items (holds_turned _ _ _ _ c.args.self.now.pass.now c.give.new.pass _ c.get.result _ _ c.requires.holding (omega arith) (c.give.ensures.own ∙ t.own)
    (turned_by _ _ _ c.get.result _ _ _ o.took (d.object ∙ o.object) c.give.ensures.gave))

pub returns-clause-acted : goal.returns-clause-acted
returns-clause-acted g c =
    let t = c.take_channel.ensures in let o = c.in-Ok.ensures in let d = c.pop_held-given.ensures in
    let came = comes_demand c.args.channel c.args.limit c.stamp-by.result 0 _ _ c.in-Ok-given.given (placed_outside _ c.stamp-by.result o.kind o.between) (c.is_nothing.ensures.no c.if-is_nothing.false) c.in-Ok-given.ensures.outcome in
    acted_as c.stamp-by.result _ _ _ _ _ _ _ _ c.stamp-by.ensures c.asked.ensures
    (acted_turn c.stamp-by.result _ _ _ _ (Demand c.args.channel c.args.limit) c.get-2.result c.place_of-place.result c.in-Ok-given.given c.in-Ok.held.value c.pop_held-given.new.held.value o.kind d.kind c.get-2.ensures.number came c.place_of-place.ensures
    (turned_by _ _ _ c.get-2.result _ _ _ (took_at _ _ _ _ _ (c.get.ensures.number ∙ sym c.get-2.ensures.number) o.took) (d.object ∙ (o.object ∙ (c.get.ensures.number ∙ sym c.get-2.ensures.number))) c.give.ensures.gave) t.items)
