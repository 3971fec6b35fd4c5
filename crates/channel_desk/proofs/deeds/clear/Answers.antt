use Rattle.std.proofs.Common.{sym, ap, ◌∙◌}
use Rattle.std.specs.Option.{option_copied}
use Rattle.channel_desk.proofs.Coming.{admitted, comes_only, outcome_of, clear_nothing, wipe_appends}
use Rattle.channel_core.specs.Calls.{wipe_answer}
use Rattle.variant.specs.declared.action.Deed.TheVariants.{Asked}
use Rattle.variant.specs.declared.ask.Ask.TheVariants.{Clear}
use Rattle.variant.specs.declared.reply.Reply.TheVariants.{Done}
use Rattle.channel_desk.proofs.deeds.clear.Goals as goal

pub wipe-requires-clause-admitted : goal.wipe-requires-clause-admitted
wipe-requires-clause-admitted c = admitted _ c.args.by c.args.depth c.requires

pub wipe-requires-clause-later : goal.wipe-requires-clause-later
wipe-requires-clause-later c = c.may_add.ensures c.if-may_add.true

pub returns-in_default : goal.returns-in_default
returns-in_default c = λ number. comes_only (Asked (Clear number)) c.args.by c.args.depth c.args.channel.now c.only.result Done (clear_nothing number c.args.by c.args.depth c.args.channel.now c.requires (sym c.peek.ensures.front ∙ ap option_copied c.in_default.is)) c.only.ensures.0 c.only.ensures.1

pub returns-then-may_add : goal.returns-then-may_add
returns-then-may_add c = λ number. outcome_of (Clear number) c.args.by c.args.depth c.args.channel.now _ (wipe_answer c.wipe.result) _ (c.wipe.ensures.answer number) (wipe_appends c.args.by _ _ c.wipe.result c.wipe.ensures.entry c.wipe.ensures.unchanged) c.given_by_wipe.ensures
