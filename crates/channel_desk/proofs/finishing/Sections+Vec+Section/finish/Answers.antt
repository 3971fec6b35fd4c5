use Rattle.std.proofs.Common.{◌∙◌, ◌+◌, ◌<◌, ℕ, arith}
use Rattle.channel_desk.specs.Finishing.{end_deed}
use Rattle.channel_desk.specs.Shared.{board_in}
use Rattle.channel_desk.proofs.Acts.{turned_by}
use Rattle.channel_desk.proofs.BoardTurns.{board_from, ended_grown, finished_by, rests_on_board, still_board}
use Rattle.channel_desk.proofs.Holds.{holds_turned}
use Rattle.channel_desk.proofs.Waiting.{grown_known}
use Rattle.channel_desk.proofs.finishing.Sections+Vec+Section.finish.Goals as goal

pub give-requires-clause-grown : goal.give-requires-clause-grown
give-requires-clause-grown g c =
    let t = c.take-board.ensures in let d = c.end_held-deed in let some = board_from _ c.args.self.now.pass.now _ c.requires.holding.laid t.fixed in
    grown_known _ _ 0 _ _ _ t.took (d.ensures.object ∙ t.object) (ended_grown (board_in c.take-board.result.value).workers (end_deed c.args.ends) c.stamp-by.result _ _ d.result some d.ensures.kind d.ensures.ended d.ensures.unchanged)

pub give-requires-clause-between : goal.give-requires-clause-between
give-requires-clause-between g c =
    let t = c.take-board.ensures in let d = c.end_held-deed.ensures in let some = board_from _ c.args.self.now.pass.now _ c.requires.holding.laid t.fixed in
    rests_on_board _ (still_board _ _ some d.kind)

-- src/finishing.rt:85:5
pub returns-clause-holding : goal.returns-clause-holding
returns-clause-holding g c =
    let t = c.take-board.ensures in let d = c.end_held-deed.ensures in
    holds_turned _ _ _ _ c.args.self.now.pass.now c.give.new.pass _ 0 _ _ c.requires.holding (omega arith) (c.give.ensures.own ∙ t.own)
    (turned_by _ _ _ 0 _ _ _ t.took (d.object ∙ t.object) c.give.ensures.gave)

-- src/finishing.rt:85:5
pub returns-clause-finished : goal.returns-clause-finished
returns-clause-finished g c =
    let t = c.take-board.ensures in let d = c.end_held-deed.ensures in let some = board_from _ c.args.self.now.pass.now _ c.requires.holding.laid t.fixed in
    finished_by c.stamp-by.result _ _ _ (end_deed c.args.ends) c.in-Some.deed c.place_of-place.result _ _ _ _ c.stamp-by.ensures c.in-Some.ensures.ended.0 c.place_of-place.ensures some d.kind t.fixed c.in-Some.ensures.ended.1
    (turned_by _ _ _ 0 _ _ _ t.took (d.object ∙ t.object) c.give.ensures.gave) c.put.ensures.actions
