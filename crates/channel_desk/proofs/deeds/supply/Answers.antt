use Rattle.std.proofs.Common.{arith}
use Rattle.channel_desk.proofs.Coming.{comes_only, supply_inside, supply_outcome}
use Rattle.variant.specs.declared.action.Deed.TheVariants.{Asked}
use Rattle.variant.specs.declared.ask.Ask.TheVariants.{Supply}
use Rattle.variant.specs.declared.reply.Reply.TheVariants.{Refused}
use Rattle.variant.specs.declared.reply.Refusal.TheVariants.{WouldWaitInside}
use Rattle.channel_desk.proofs.deeds.supply.Goals as goal

pub returns-then-depth-gt0 : goal.returns-then-depth-gt0
returns-then-depth-gt0 c = λ number. comes_only (Asked (Supply number c.args.value)) c.args.by c.args.depth c.args.channel.now c.only.result (Refused WouldWaitInside) (supply_inside number c.args.value c.args.by.state c.args.depth c.args.channel.now (c.requires.inside c.if-depth-gt0.true)) c.only.ensures.0 c.only.ensures.1

pub returns : goal.returns
returns c = λ number. supply_outcome number c.args.value c.args.by c.args.depth c.args.channel.now _ _ (c.requires.outside (omega arith)) (c.push.ensures number)
