use Rattle.std.proofs.Common.{arith}
use Rattle.channel_desk.proofs.Coming.{comes_only, enter_inside, outcome_of, enter_appends}
use Rattle.channel_core.specs.Calls.{enter_answer}
use Rattle.variant.specs.declared.action.Deed.TheVariants.{Asked}
use Rattle.variant.specs.declared.ask.Ask.TheVariants.{Enter}
use Rattle.variant.specs.declared.reply.Reply.TheVariants.{Done}
use Rattle.channel_desk.proofs.deeds.enter.Goals as goal

pub enter-requires-clause-alone : goal.enter-requires-clause-alone
enter-requires-clause-alone c = c.requires.outside (omega arith)

pub enter-requires-clause-later : goal.enter-requires-clause-later
enter-requires-clause-later c = c.may_add.ensures c.if-may_add.true

pub returns-then-depth-gt0 : goal.returns-then-depth-gt0
returns-then-depth-gt0 c = λ number. comes_only (Asked (Enter number)) c.args.by c.args.depth c.args.channel.now c.only.result Done (enter_inside number c.args.by.state c.args.depth c.args.channel.now (c.requires.inside c.if-depth-gt0.true)) c.only.ensures.0 c.only.ensures.1

pub returns-then-may_add : goal.returns-then-may_add
returns-then-may_add c = λ number. outcome_of (Enter number) c.args.by c.args.depth c.args.channel.now _ (enter_answer c.enter.result) _ (c.enter.ensures.answer number) (enter_appends c.args.by _ _ c.enter.result c.enter.ensures.entry c.enter.ensures.unchanged) c.given_by_enter.ensures
