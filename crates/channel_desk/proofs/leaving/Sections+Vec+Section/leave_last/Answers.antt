use Rattle.std.proofs.Common.{◌∙◌, ℕ, ap}
use Rattle.turn_desk.specs.View.{freed, published}
use Rattle.channel_desk.specs.Shared.{history_of}
use Rattle.channel_desk.proofs.Cuts.{cut_last}
use Rattle.channel_desk.proofs.Holds.{holds_fewer, section_last}
use Rattle.channel_desk.proofs.Moves.{left_grown, left_rests}
use Rattle.channel_desk.proofs.leaving.Sections+Vec+Section.leave_last.Goals as goal

pub release-requires-clause-grown : goal.release-requires-clause-grown
release-requires-clause-grown c = let l = c.leave_held-place.ensures in
    left_grown _ _ _ c.in-Some.section c.stamp-by.result _ _ (section_last _ _ _ _ _ _ _ c.requires.holding c.in-Some.ensures.items) l.kind l.entry l.object

pub release-requires-clause-between : goal.release-requires-clause-between
release-requires-clause-between c = let l = c.leave_held-place.ensures in left_rests _ c.stamp-by.result _ l.kind l.entry

pub returns-clause-holding : goal.returns-clause-holding
returns-clause-holding c =
    let l = c.leave_held-place.ensures in let y = c.leave_held-place.new.held in
    holds_fewer _ _ _ c.args.self.now.pass.now c.release.new.pass _ _ c.in-Some.section (history_of y.value) c.requires.holding c.in-Some.ensures.items c.release.ensures.own
    (c.release.ensures.released ∙ ap (λ (n : ℕ). freed n (published n (history_of y.value) c.args.self.now.pass.now.view)) l.object)

pub returns-clause-one : goal.returns-clause-one
returns-clause-one c = λ yes. let l = c.leave_held-place.ensures in
    cut_last _ _ _ c.args.self.now.pass.now c.release.new.pass _ _ _ _ c.in-Some.section c.leave_held-place.new.held.value c.leave_held-place.new.held.object c.leave_held-place.result c.in-Some-new.channel c.stamp-by.result c.cut.result
    c.requires.holding c.in-Some.ensures.items c.stamp-by.ensures (c.in-Some-new.ensures.number ∙ c.object.ensures) l.kind l.object (l.cut c.in-Some.section.held.object c.in-Some.section.depth) l.entry l.place c.release.ensures.front c.release.ensures.released c.cut.ensures c.put.ensures.actions
