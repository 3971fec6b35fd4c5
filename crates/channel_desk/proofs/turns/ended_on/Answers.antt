use Rattle.channel_desk.proofs.Waiting.{ended_at}
use Rattle.channel_desk.proofs.turns.ended_on.Goals as goal

pub returns-in_ok-end-in-Board : goal.returns-in_ok-end-in-Board
returns-in_ok-end-in-Board c = ended_at c.args.board.now c.in-Board.board _ _ _ c.in-Board.is c.history.ensures.entries c.ended.ensures c.in_ok-end-in-Board.was
