use Rattle.std.proofs.Common.{sym, ap, ◌∙◌}
use Rattle.std.specs.Option.{option_copied}
use Rattle.channel_desk.proofs.Coming.{admitted, comes_only, outcome_of, pop_nothing, take_appends}
use Rattle.channel_core.specs.Calls.{take_answer}
use Rattle.variant.specs.declared.action.Deed.TheVariants.{Asked}
use Rattle.variant.specs.declared.ask.Ask.TheVariants.{Pop}
use Rattle.variant.specs.declared.reply.Reply.TheVariants.{Nothing}
use Rattle.channel_desk.proofs.deeds.pop.Goals as goal

pub take-requires-clause-admitted : goal.take-requires-clause-admitted
take-requires-clause-admitted c = admitted _ c.args.by c.args.depth c.requires

pub take-requires-clause-later : goal.take-requires-clause-later
take-requires-clause-later c = c.may_add.ensures c.if-may_add.true

pub returns-in_default : goal.returns-in_default
returns-in_default c = λ number. comes_only (Asked (Pop number)) c.args.by c.args.depth c.args.channel.now c.only.result Nothing (pop_nothing number c.args.by c.args.depth c.args.channel.now c.requires (sym c.peek.ensures.front ∙ ap option_copied c.in_default.is)) c.only.ensures.0 c.only.ensures.1

pub returns-then-may_add : goal.returns-then-may_add
returns-then-may_add c = λ number. outcome_of (Pop number) c.args.by c.args.depth c.args.channel.now _ (take_answer c.take.result) _ (c.take.ensures.answer number) (take_appends c.args.by _ _ c.take.result c.take.ensures.entry c.take.ensures.unchanged) c.given_by_take.ensures
