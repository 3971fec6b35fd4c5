use Rattle.std.proofs.Common.{◌∙◌, ◌+◌, ◌<◌, ℕ, refl, sym, ap, subst, arith}
use Rattle.channel_desk.proofs.Acts.{turned_by}
use Rattle.channel_desk.proofs.BoardTurns.{acted_ask_on_board, board_from, board_grown, rests_on_board, still_board, waited_on_board}
use Rattle.channel_desk.proofs.Holds.{board_free, holds_as, holds_turned, holds_waited}
use Rattle.channel_desk.proofs.Waiting.{grown_known}
use Rattle.channel_desk.proofs.boarding.Sections+Vec+Section.act_on_board.Goals as goal

pub take-board-requires-clause-free : goal.take-board-requires-clause-free
take-board-requires-clause-free g c = board_free _ _ _ _ _ c.requires.holding

pub give-requires-clause-grown : goal.give-requires-clause-grown
give-requires-clause-grown g c =
    let t = c.take-board.ensures in let d = c.answer_board-given in let some = board_from _ c.args.self.now.pass.now _ c.requires.holding.laid t.fixed in
    grown_known _ _ 0 _ _ _ t.took (d.ensures.object ∙ t.object) (board_grown _ c.args.ask _ _ _ d.result some d.ensures.kind d.ensures.outcome)

pub give-requires-clause-between : goal.give-requires-clause-between
give-requires-clause-between g c =
    let t = c.take-board.ensures in let d = c.answer_board-given.ensures in let some = board_from _ c.args.self.now.pass.now _ c.requires.holding.laid t.fixed in
    rests_on_board _ (still_board _ _ some d.kind)

-- src/boarding.rt:87:13
pub returns-in_default-clause-holding : goal.returns-in_default-clause-holding
returns-in_default-clause-holding g c =
    let t = c.take-board.ensures in let d = c.answer_board-given.ensures in
    holds_turned _ _ _ _ c.args.self.now.pass.now c.give.new.pass _ 0 _ _ c.requires.holding (omega arith) (c.give.ensures.own ∙ t.own)
    (turned_by _ _ _ 0 _ _ _ t.took (d.object ∙ t.object) c.give.ensures.gave)

-- src/boarding.rt:87:13
pub returns-in_default-clause-kept : goal.returns-in_default-clause-kept
returns-in_default-clause-kept g c =
    let t = c.take-board.ensures in let d = c.answer_board-given.ensures in let some = board_from _ c.args.self.now.pass.now _ c.requires.holding.laid t.fixed in (
      refl,
      refl,
      waited_on_board _ _ _ _ some d.kind c.in_default.ensures.outcome (turned_by _ _ _ 0 _ _ _ t.took (d.object ∙ t.object) c.give.ensures.gave),
    )

-- src/boarding.rt:61:5
pub returns-clause-holding : goal.returns-clause-holding
returns-clause-holding g c =
    let t = c.take-board.ensures in let d = c.answer_board-given.ensures in
    holds_turned _ _ _ _ c.args.self.now.pass.now c.give.new.pass _ 0 _ _ c.requires.holding (omega arith) (c.give.ensures.own ∙ t.own)
    (turned_by _ _ _ 0 _ _ _ t.took (d.object ∙ t.object) c.give.ensures.gave)

-- src/boarding.rt:61:5
pub returns-clause-acted : goal.returns-clause-acted
returns-clause-acted g c =
    let t = c.take-board.ensures in let d = c.answer_board-given.ensures in let some = board_from _ c.args.self.now.pass.now _ c.requires.holding.laid t.fixed in
    acted_ask_on_board c.stamp-by.result _ _ _ _ _ c.args.ask c.place_of-place.result _ c.in-Ok.given _ _ c.stamp-by.ensures c.asked.ensures c.place_of-place.ensures
    some d.kind t.fixed c.in-Ok.ensures.outcome (turned_by _ _ _ 0 _ _ _ t.took (d.object ∙ t.object) c.give.ensures.gave) refl
