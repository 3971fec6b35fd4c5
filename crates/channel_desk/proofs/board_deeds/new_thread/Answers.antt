use Rattle.std.proofs.Common.{◌+◌, length}
use Rattle.variant.specs.declared.ask.Ask.TheVariants.{NewThread as AskNewThread}
use Rattle.thread_board.specs.Calls.{thread_answer}
use Rattle.thread_board.specs.Register.{register}
use Rattle.thread_board.specs.declared.entry.BoardChange.TheVariants.{NewThread}
use Rattle.channel_desk.proofs.BoardComing.{outcome_on_board, thread_appends, thread_workers}
use Rattle.channel_desk.proofs.board_deeds.new_thread.Goals as goal

pub returns-clause-workers : goal.returns-clause-workers
returns-clause-workers c = thread_workers c.args.board.now c.new_thread-made.new.self c.args.by c.args.source c.new_thread-made.result c.new_thread-made.ensures.entry c.new_thread-made.ensures.unchanged

pub returns-clause-outcome : goal.returns-clause-outcome
returns-clause-outcome c = let n = c.new_thread-made.ensures in let change = NewThread (length (register c.args.board.now.history).threads + 1) c.args.source in
    outcome_on_board c.args.board.now (AskNewThread c.args.source) c.args.by c.new_thread-made.new.self.history (thread_answer change c.new_thread-made.result) _ n.answer
    (thread_appends c.args.board.now c.new_thread-made.new.self c.args.by c.args.source c.new_thread-made.result c.history-new.ensures.lawful n.entry n.unchanged) (c.given_by_thread.ensures change)
