use Rattle.std.proofs.Common.{sym, subst}
use Rattle.thread_board.specs.Lawful.{IsLawful}
use Rattle.channel_desk.proofs.board_deeds.may_add.Goals as goal

pub is_later_on_board-requires : goal.is_later_on_board-requires
is_later_on_board-requires c = let workers = c.args.board.now.workers in (workers, subst (IsLawful workers) (sym c.history.ensures.entries) c.history.ensures.lawful)
