use Rattle.std.proofs.Common.{◌∙◌, ◌+◌, ◌<◌, ℕ, refl, arith}
use Rattle.love_base.proofs.Prefixes.{whole}
use Rattle.variant.specs.declared.ask.Ask.TheVariants.{WaitFor}
use Rattle.channel_desk.proofs.Acts.{turned_by}
use Rattle.channel_desk.proofs.BoardTurns.{acted_ask_on_board, board_from, comes_waited, stopped_at_board, waited_at_board}
use Rattle.channel_desk.proofs.Holds.{board_free, holds_on, holds_waited}
use Rattle.channel_desk.proofs.Rounds.{fault_same}
use Rattle.channel_desk.proofs.Waiting.{grown_known}
use Rattle.channel_desk.proofs.thread_end.Sections+Vec+Section.wait_round.Goals as goal

pub take-board-requires-clause-free : goal.take-board-requires-clause-free
take-board-requires-clause-free g c = board_free _ _ _ _ _ c.requires.holding

pub notice_of-notice-requires : goal.notice_of-notice-requires
notice_of-notice-requires g c = board_from _ c.args.self.now.pass.now _ c.requires.holding.laid c.take-board.ensures.fixed

pub release-requires-clause-grown : goal.release-requires-clause-grown
release-requires-clause-grown g c = let t = c.take-board.ensures in grown_known _ _ 0 _ _ _ t.took t.object (whole _)

pub returns-in-Some-clause-holding : goal.returns-in-Some-clause-holding
returns-in-Some-clause-holding g c = let t = c.take-board.ensures in
    holds_waited _ _ _ c.args.self.now.pass.now c.release.new.pass _ c.requires.holding (c.release.ensures.own ∙ t.own) (waited_at_board _ _ _ _ _ t.took t.object c.release.ensures.released)

pub returns-in-Some-clause-waited : goal.returns-in-Some-clause-waited
returns-in-Some-clause-waited g c = let t = c.take-board.ensures in waited_at_board _ _ _ _ _ t.took t.object c.release.ensures.released

pub returns-in-Some-clause-stopped : goal.returns-in-Some-clause-stopped
returns-in-Some-clause-stopped g c = λ stop is. let t = c.take-board.ensures in let some = board_from _ c.args.self.now.pass.now _ c.requires.holding.laid t.fixed in
    stopped_at_board c.args.self.now.state _ _ _ _ c.args.thread c.place_of-place.result c.in-Some.main_end c.take-board.result.value _ _ stop c.if-self-ne0.true some t.took t.object c.release.ensures.released c.notice_of-notice.ensures c.if-notice.true c.in-Some.is c.place_of-place.ensures
    (fault_same _ stop _ c.stopped_at.ensures is)

pub returns-in_default-clause-holding : goal.returns-in_default-clause-holding
returns-in_default-clause-holding g c = let t = c.take-board.ensures in
    holds_waited _ _ _ c.args.self.now.pass.now c.release.new.pass _ c.requires.holding (c.release.ensures.own ∙ t.own) (waited_at_board _ _ _ _ _ t.took t.object c.release.ensures.released)

pub returns-in_default-clause-waited : goal.returns-in_default-clause-waited
returns-in_default-clause-waited g c = let t = c.take-board.ensures in waited_at_board _ _ _ _ _ t.took t.object c.release.ensures.released

pub returns-clause-holding : goal.returns-clause-holding
returns-clause-holding g c = let t = c.take-board.ensures in
    holds_on _ _ _ _ _ (holds_waited _ _ _ c.args.self.now.pass.now c.release.new.pass _ c.requires.holding (c.release.ensures.own ∙ t.own) (waited_at_board _ _ _ _ _ t.took t.object c.release.ensures.released))

pub returns-clause-waited : goal.returns-clause-waited
returns-clause-waited g c = let t = c.take-board.ensures in waited_at_board _ _ _ _ _ t.took t.object c.release.ensures.released

pub returns-clause-acted : goal.returns-clause-acted
returns-clause-acted g c = let t = c.take-board.ensures in let some = board_from _ c.args.self.now.pass.now _ c.requires.holding.laid t.fixed in
    acted_ask_on_board c.stamp-by.result _ _ _ _ _ (WaitFor c.args.thread) c.place_of-place.result _ c.only-given.result _ _ c.stamp-by.ensures c.asked.ensures c.place_of-place.ensures
    some refl t.fixed (comes_waited _ c.args.thread c.stamp-by.result _ _ _ c.only-given.result c.notice_of-notice.ensures c.if-notice.false c.only-given.ensures.0 c.only-given.ensures.1)
    (turned_by _ _ _ 0 _ _ _ t.took t.object c.release.ensures.released) refl
