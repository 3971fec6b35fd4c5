use Rattle.std.proofs.Common.{◌+◌}
use Rattle.variant.specs.declared.ask.Ask.TheVariants.{NewChannel as AskNewChannel}
use Rattle.thread_board.specs.Calls.{channel_answer}
use Rattle.thread_board.specs.Register.{register}
use Rattle.thread_board.specs.declared.entry.BoardChange.TheVariants.{NewChannel}
use Rattle.channel_desk.proofs.BoardComing.{channel_appends, channel_fits, channel_workers, outcome_on_board}
use Rattle.channel_desk.proofs.board_deeds.new_channel.Goals as goal

pub given_by_named-requires : goal.given_by_named-requires
given_by_named-requires c = channel_fits c.args.board.now c.new_channel-named.new.self c.args.by c.new_channel-named.result c.history-new.ensures.lawful c.new_channel-named.ensures.entry

pub returns-clause-workers : goal.returns-clause-workers
returns-clause-workers c = channel_workers c.args.board.now c.new_channel-named.new.self c.args.by c.new_channel-named.result c.new_channel-named.ensures.entry c.new_channel-named.ensures.unchanged

pub returns-clause-outcome : goal.returns-clause-outcome
returns-clause-outcome c = let n = c.new_channel-named.ensures in let change = NewChannel ((register c.args.board.now.history).channels + 1) in
    outcome_on_board c.args.board.now AskNewChannel c.args.by c.new_channel-named.new.self.history (channel_answer change c.new_channel-named.result) _ n.answer
    (channel_appends c.args.board.now c.new_channel-named.new.self c.args.by c.new_channel-named.result c.history-new.ensures.lawful n.entry n.changed n.unchanged) (c.given_by_named.ensures change)
