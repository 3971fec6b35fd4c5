use Rattle.std.proofs.Common.{◌+◌, length}
use Rattle.variant.specs.declared.ask.Ask.TheVariants.{Start as AskStart}
use Rattle.thread_board.specs.Calls.{started_answer}
use Rattle.thread_board.specs.Register.{register}
use Rattle.thread_board.specs.declared.entry.BoardChange.TheVariants.{Start}
use Rattle.channel_desk.proofs.BoardComing.{outcome_on_board, start_appends, start_workers}
use Rattle.channel_desk.proofs.board_deeds.start.Goals as goal

pub returns-clause-workers : goal.returns-clause-workers
returns-clause-workers c = start_workers c.args.board.now c.start-started.new.self c.args.by c.args.thread c.args.args c.start-started.result c.start-started.ensures.entry c.start-started.ensures.unchanged

pub returns-clause-outcome : goal.returns-clause-outcome
returns-clause-outcome c = let n = c.start-started.ensures in let change = Start (length (register c.args.board.now.history).states + 1) c.args.thread c.args.args in
    outcome_on_board c.args.board.now (AskStart c.args.thread c.args.args) c.args.by c.start-started.new.self.history (started_answer change c.start-started.result) _ n.answer
    (start_appends c.args.board.now c.start-started.new.self c.args.by c.args.thread c.args.args c.start-started.result c.history-new.ensures.lawful n.entry n.unchanged) (c.given_by_start.ensures change)
