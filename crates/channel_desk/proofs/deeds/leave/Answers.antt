use Rattle.std.proofs.Common.{arith}
use Rattle.channel_desk.proofs.Coming.{comes_leave, comes_only, leave_inner}
use Rattle.variant.specs.declared.action.Deed.TheVariants.{Asked}
use Rattle.variant.specs.declared.ask.Ask.TheVariants.{Leave}
use Rattle.variant.specs.declared.reply.Reply.TheVariants.{Done}
use Rattle.channel_desk.proofs.deeds.leave.Goals as goal

pub returns-then-depth-gt1 : goal.returns-then-depth-gt1
returns-then-depth-gt1 c = λ number. comes_only (Asked (Leave number)) c.args.by c.args.depth c.args.channel.now c.only.result Done (leave_inner number c.args.by.state c.args.depth c.args.channel.now (c.requires.placed.inside c.requires.inside) c.if-depth-gt1.true) c.only.ensures.0 c.only.ensures.1

pub returns : goal.returns
returns c = λ number. comes_leave number c.args.by c.args.depth c.args.channel.now _ c.adds.result (omega arith) (c.leave.ensures.answer number) c.leave.ensures.entry c.adds.ensures.0 c.adds.ensures.1
