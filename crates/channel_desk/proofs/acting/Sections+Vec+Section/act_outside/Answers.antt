use Rattle.std.proofs.Common.{◌∙◌, ◌+◌, ℕ, ap, sym, subst, arith}
use Rattle.turn_desk.specs.Passes.{DeskId}
use Rattle.channel_desk.specs.Holding.{IsLaid}
use Rattle.channel_desk.proofs.Acts.{acted_turn, inside_of_outside, outcome_grown, outcome_rests, placed_outside, turned_by, waited_turned}
use Rattle.channel_desk.proofs.Holds.{holds_as, holds_turned, holds_waited}
use Rattle.channel_desk.proofs.Moves.{acted_as}
use Rattle.channel_desk.proofs.Waiting.{can_give}
use Rattle.channel_desk.proofs.acting.Sections+Vec+Section.act_outside.Goals as goal

pub answer_held-given-requires-clause-placed : goal.answer_held-given-requires-clause-placed
answer_held-given-requires-clause-placed g c = placed_outside _ _ c.in-Ok.ensures.kind c.in-Ok.ensures.between

pub answer_held-given-requires-clause-inside : goal.answer_held-given-requires-clause-inside
answer_held-given-requires-clause-inside g c = inside_of_outside c.args.ask c.requires.ask.1

pub give-requires-clause-own : goal.give-requires-clause-own
give-requires-clause-own g c =
    let can = let t = c.take_channel in let o = c.in-Ok.ensures in let d = c.answer_held-given in
    let laid = subst (λ (k : DeskId). IsLaid k c.args.self.now.pass.now) (sym t.ensures.desk) c.requires.holding.laid in
    can_give _ c.args.self.now.pass.now t.new.self.pass.now c.args.channel d.new.held.object _ d.new.held.value laid t.ensures.own o.took (d.ensures.object ∙ o.object) c.requires.channel.2
    (outcome_grown c.args.ask _ 0 _ _ d.result o.kind d.ensures.kind d.ensures.outcome)
    (d.ensures.kind ∙ sym (c.requires.holding.laid.channels c.args.channel c.requires.channel.1 c.requires.channel.2)) in can.own

pub give-requires-clause-object : goal.give-requires-clause-object
give-requires-clause-object g c =
    let can = let t = c.take_channel in let o = c.in-Ok.ensures in let d = c.answer_held-given in
    let laid = subst (λ (k : DeskId). IsLaid k c.args.self.now.pass.now) (sym t.ensures.desk) c.requires.holding.laid in
    can_give _ c.args.self.now.pass.now t.new.self.pass.now c.args.channel d.new.held.object _ d.new.held.value laid t.ensures.own o.took (d.ensures.object ∙ o.object) c.requires.channel.2
    (outcome_grown c.args.ask _ 0 _ _ d.result o.kind d.ensures.kind d.ensures.outcome)
    (d.ensures.kind ∙ sym (c.requires.holding.laid.channels c.args.channel c.requires.channel.1 c.requires.channel.2)) in can.object

pub give-requires-clause-taken : goal.give-requires-clause-taken
give-requires-clause-taken g c =
    let can = let t = c.take_channel in let o = c.in-Ok.ensures in let d = c.answer_held-given in
    let laid = subst (λ (k : DeskId). IsLaid k c.args.self.now.pass.now) (sym t.ensures.desk) c.requires.holding.laid in
    can_give _ c.args.self.now.pass.now t.new.self.pass.now c.args.channel d.new.held.object _ d.new.held.value laid t.ensures.own o.took (d.ensures.object ∙ o.object) c.requires.channel.2
    (outcome_grown c.args.ask _ 0 _ _ d.result o.kind d.ensures.kind d.ensures.outcome)
    (d.ensures.kind ∙ sym (c.requires.holding.laid.channels c.args.channel c.requires.channel.1 c.requires.channel.2)) in can.taken

pub give-requires-clause-grown : goal.give-requires-clause-grown
give-requires-clause-grown g c =
    let can = let t = c.take_channel in let o = c.in-Ok.ensures in let d = c.answer_held-given in
    let laid = subst (λ (k : DeskId). IsLaid k c.args.self.now.pass.now) (sym t.ensures.desk) c.requires.holding.laid in
    can_give _ c.args.self.now.pass.now t.new.self.pass.now c.args.channel d.new.held.object _ d.new.held.value laid t.ensures.own o.took (d.ensures.object ∙ o.object) c.requires.channel.2
    (outcome_grown c.args.ask _ 0 _ _ d.result o.kind d.ensures.kind d.ensures.outcome)
    (d.ensures.kind ∙ sym (c.requires.holding.laid.channels c.args.channel c.requires.channel.1 c.requires.channel.2)) in can.grown

pub give-requires-clause-fixed : goal.give-requires-clause-fixed
give-requires-clause-fixed g c =
    let can = let t = c.take_channel in let o = c.in-Ok.ensures in let d = c.answer_held-given in
    let laid = subst (λ (k : DeskId). IsLaid k c.args.self.now.pass.now) (sym t.ensures.desk) c.requires.holding.laid in
    can_give _ c.args.self.now.pass.now t.new.self.pass.now c.args.channel d.new.held.object _ d.new.held.value laid t.ensures.own o.took (d.ensures.object ∙ o.object) c.requires.channel.2
    (outcome_grown c.args.ask _ 0 _ _ d.result o.kind d.ensures.kind d.ensures.outcome)
    (d.ensures.kind ∙ sym (c.requires.holding.laid.channels c.args.channel c.requires.channel.1 c.requires.channel.2)) in can.fixed

pub give-requires-clause-between : goal.give-requires-clause-between
give-requires-clause-between g c = let o = c.in-Ok.ensures in let d = c.answer_held-given in outcome_rests c.args.ask _ _ _ d.result c.requires.ask.0 c.requires.ask.1 o.kind d.ensures.kind o.between d.ensures.outcome

-- src/acting.rt:222:26
pub returns-in-Err-clause-holding : goal.returns-in-Err-clause-holding
returns-in-Err-clause-holding g c =
    let t = c.take_channel.ensures in
    holds_as _ _ _ _ _ _ _ _ _ t.desk t.state t.next t.items (holds_waited _ _ _ c.args.self.now.pass.now _ _ c.requires.holding t.own c.in-Err.ensures.halted.waited)

-- src/acting.rt:228:13
pub returns-in_default-clause-holding : goal.returns-in_default-clause-holding
returns-in_default-clause-holding g c =
    let t = c.take_channel.ensures in let o = c.in-Ok.ensures in let d = c.answer_held-given.ensures in
    holds_as _ _ _ _ _ _ _ _ _ t.desk t.state t.next t.items (holds_turned _ _ _ _ c.args.self.now.pass.now c.give.new.pass _ c.args.channel _ _ c.requires.holding (omega arith) (c.give.ensures.own ∙ t.own)
    (turned_by _ _ _ c.args.channel _ _ _ o.took (d.object ∙ o.object) c.give.ensures.gave))

-- src/acting.rt:228:13
pub returns-in_default-clause-kept : goal.returns-in_default-clause-kept
returns-in_default-clause-kept g c =
    let t = c.take_channel.ensures in let o = c.in-Ok.ensures in let d = c.answer_held-given.ensures in (
      t.next,
      t.items,
      waited_turned _ _ c.args.channel c.in-Ok.held.value c.answer_held-given.new.held.value o.kind d.kind c.in_default.ensures.outcome (turned_by _ _ _ c.args.channel _ _ _ o.took (d.object ∙ o.object) c.give.ensures.gave),
    )

-- src/acting.rt:189:5
pub returns-clause-holding : goal.returns-clause-holding
returns-clause-holding g c =
    let t = c.take_channel.ensures in let o = c.in-Ok.ensures in let d = c.answer_held-given.ensures in
    holds_as _ _ _ _ _ _ _ _ _ t.desk t.state (ap (λ (n : ℕ). n + 1) t.next) t.items (holds_turned _ _ _ _ c.args.self.now.pass.now c.give.new.pass _ c.args.channel _ _ c.requires.holding (omega arith) (c.give.ensures.own ∙ t.own)
    (turned_by _ _ _ c.args.channel _ _ _ o.took (d.object ∙ o.object) c.give.ensures.gave))

-- src/acting.rt:189:5
pub returns-clause-acted : goal.returns-clause-acted
returns-clause-acted g c =
    let t = c.take_channel.ensures in let o = c.in-Ok.ensures in let d = c.answer_held-given.ensures in
    acted_as c.stamp-by.result _ _ _ _ _ _ _ _ c.stamp-by.ensures c.asked.ensures
    (acted_turn c.stamp-by.result _ _ _ _ c.args.ask c.args.channel c.place_of-place.result c.in-Ok-given.given c.in-Ok.held.value c.answer_held-given.new.held.value o.kind d.kind c.requires.channel.0 c.in-Ok-given.ensures.outcome c.place_of-place.ensures
    (turned_by _ _ _ c.args.channel _ _ _ o.took (d.object ∙ o.object) c.give.ensures.gave) t.items)
