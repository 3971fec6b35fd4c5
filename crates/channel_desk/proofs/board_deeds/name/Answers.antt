use Rattle.std.proofs.Common.{◌+◌}
use Rattle.variant.specs.declared.ask.Ask.TheVariants.{Name as AskName}
use Rattle.thread_board.specs.Calls.{channel_answer}
use Rattle.thread_board.specs.Register.{register}
use Rattle.thread_board.specs.declared.entry.BoardChange.TheVariants.{Name}
use Rattle.channel_desk.proofs.BoardComing.{name_appends, name_fits, name_workers, outcome_on_board}
use Rattle.channel_desk.proofs.board_deeds.name.Goals as goal

pub given_by_named-requires : goal.given_by_named-requires
given_by_named-requires c = let n = c.name-named.ensures in
    name_fits c.args.board.now c.name-named.new.self c.args.by c.args.text.now c.name-named.result c.history-old.ensures.lawful c.history-new.ensures.lawful n.entry n.changed n.known

pub returns-clause-workers : goal.returns-clause-workers
returns-clause-workers c = name_workers c.args.board.now c.name-named.new.self c.args.by c.args.text.now c.name-named.result c.name-named.ensures.entry c.name-named.ensures.unchanged

pub returns-clause-outcome : goal.returns-clause-outcome
returns-clause-outcome c = let n = c.name-named.ensures in let change = Name ((register c.args.board.now.history).channels + 1) c.args.text.now in
    outcome_on_board c.args.board.now (AskName c.args.text.now) c.args.by c.name-named.new.self.history (channel_answer change c.name-named.result) _ n.answer
    (name_appends c.args.board.now c.name-named.new.self c.args.by c.args.text.now c.name-named.result c.history-new.ensures.lawful n.entry n.unchanged) (c.given_by_named.ensures change)
