use Rattle.std.proofs.Common.{ap, ◌∙◌}
use Rattle.variant.specs.declared.ask.Ask.{Ask}
use Rattle.variant.specs.declared.action.Deed.TheVariants.{Asked}
use Rattle.channel_core.specs.Answers.{answer}
use Rattle.channel_desk.proofs.Counts.{clear_reply, peek_reply, pop_reply}
use Rattle.channel_desk.proofs.looking.reply_by_counts.Goals as goal

pub returns-in-Clear-clause-reply : goal.returns-in-Clear-clause-reply
returns-in-Clear-clause-reply c = λ h state depth counts admitted. ap (λ (a : Ask). answer (Asked a) state depth h) c.in-Clear.is ∙ clear_reply c.in-Clear.field-0 state depth h c.args.sent c.args.received c.if-sent-received-3.true counts admitted

pub returns-in-Peek-clause-reply : goal.returns-in-Peek-clause-reply
returns-in-Peek-clause-reply c = λ h state depth counts admitted. ap (λ (a : Ask). answer (Asked a) state depth h) c.in-Peek.is ∙ peek_reply c.in-Peek.field-0 state depth h c.args.sent c.args.received c.if-sent-received-2.true counts admitted

pub returns-in-Pop-clause-reply : goal.returns-in-Pop-clause-reply
returns-in-Pop-clause-reply c = λ h state depth counts admitted. ap (λ (a : Ask). answer (Asked a) state depth h) c.in-Pop.is ∙ pop_reply c.in-Pop.field-0 state depth h c.args.sent c.args.received c.if-sent-received.true counts admitted
