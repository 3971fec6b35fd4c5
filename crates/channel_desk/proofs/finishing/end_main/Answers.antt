use Rattle.std.proofs.Common.{Some, refl, sym, ap, subst}
use Rattle.thread_board.specs.declared.entry.BoardChange.TheVariants.{MainEnd}
use Rattle.thread_board.specs.Lawful.{IsLawful}
use Rattle.thread_board.specs.View.{BoardView}
use Rattle.channel_desk.proofs.finishing.end_main.Goals as goal

pub is_later_on_board-requires : goal.is_later_on_board-requires
is_later_on_board-requires c = (c.args.board.now.workers, subst (IsLawful c.args.board.now.workers) (sym c.history.ensures.entries) c.history.ensures.lawful)

pub returns-clause-ended : goal.returns-clause-ended
returns-clause-ended c = λ same. record {
  change = Some (MainEnd);
  answered = (0, c.main_end.ensures.answer 0);
  history = ap (λ (b : BoardView). b.history) c.main_end.ensures.entry;
  changed = refl;
}
