use Rattle.std.proofs.Common.{◌∙◌, ℕ, ap}
use Rattle.turn_desk.specs.View.{freed, published}
use Rattle.channel_desk.specs.Shared.{history_of}
use Rattle.channel_desk.proofs.Holds.{holds_fewer, section_last}
use Rattle.channel_desk.proofs.Moves.{acted_left, left_fixed, left_grown, left_rests}
use Rattle.channel_desk.proofs.nesting.Sections+Vec+Section.act_leave.Goals as goal

pub give-requires-clause-grown : goal.give-requires-clause-grown
give-requires-clause-grown g c = let l = c.leave_held-place.ensures in
    left_grown _ _ _ c.in-Some.section c.stamp-by.result _ _ (section_last _ _ _ _ _ _ _ c.requires.holding c.in-Some.ensures.items) l.kind l.entry l.object

pub give-requires-clause-fixed : goal.give-requires-clause-fixed
give-requires-clause-fixed g c = let l = c.leave_held-place.ensures in
    left_fixed _ _ _ _ _ c.in-Some.section _ _ c.requires.holding (section_last _ _ _ _ _ _ _ c.requires.holding c.in-Some.ensures.items) l.kind l.object

pub give-requires-clause-between : goal.give-requires-clause-between
give-requires-clause-between g c = let l = c.leave_held-place.ensures in left_rests _ c.stamp-by.result _ l.kind l.entry

pub returns-clause-holding : goal.returns-clause-holding
returns-clause-holding g c =
    let l = c.leave_held-place.ensures in let y = c.leave_held-place.new.held in
    holds_fewer _ _ _ c.args.self.now.pass.now c.give.new.pass _ _ c.in-Some.section (history_of y.value) c.requires.holding c.in-Some.ensures.items c.give.ensures.own
    (c.give.ensures.gave ∙ ap (λ (n : ℕ). freed n (published n (history_of y.value) c.args.self.now.pass.now.view)) l.object)

pub returns-clause-acted : goal.returns-clause-acted
returns-clause-acted g c =
    let l = c.leave_held-place.ensures in
    acted_left _ _ _ c.args.self.now.pass.now c.give.new.pass _ _ c.args.ask c.args.channel c.requires.last.0 c.leave_held-place.result c.stamp-by.result c.adds.result c.requires.last.1 c.in-Some.section c.leave_held-place.new.held.value c.leave_held-place.new.held.object c.asked.result
    c.requires.holding c.in-Some.ensures.items c.requires.last.2 c.requires.last.3 c.requires.last.4 c.requires.ask c.stamp-by.ensures l.object l.kind l.entry l.place (l.answer c.args.channel) c.adds.ensures.0 c.adds.ensures.1 c.give.ensures.front c.give.ensures.gave c.asked.ensures
