use Rattle.std.proofs.Common.{◌∙◌}
use Rattle.channel_desk.proofs.Acts.{turned_by}
use Rattle.channel_desk.proofs.Waiting.{took_at_once, waited_further, waited_idle, waited_looked}
use Rattle.channel_desk.proofs.turns.main_end.Goals as goal

pub hold-board-requires-clause-own : goal.hold-board-requires-clause-own
hold-board-requires-clause-own g c = c.look-tally.ensures.own ∙ c.requires.laid.own

pub hold-board-requires-clause-free : goal.hold-board-requires-clause-free
hold-board-requires-clause-free g c = (waited_looked _ _ _ _ _ c.requires.board c.look-tally.ensures.front c.look-tally.ensures.looked).phases 0 ∙ c.requires.board

-- src/turns.rt:43:1
pub returns-clause-waited : goal.returns-clause-waited
returns-clause-waited g c =
    let look = waited_looked _ _ _ _ _ c.requires.board c.look-tally.ensures.front c.look-tally.ensures.looked in let h = c.hold-board.ensures in
    waited_further _ _ _ look (waited_idle _ _ 0 _ (turned_by _ _ _ 0 _ _ _ (took_at_once _ _ 0 _ (look.phases 0 ∙ c.requires.board) h.taken h.kept h.seen) h.object c.release.ensures.released))
