use Rattle.channel_desk.proofs.Coming.{admitted, outcome_of, put_appends}
use Rattle.channel_core.specs.Calls.{put_answer}
use Rattle.variant.specs.declared.ask.Ask.TheVariants.{Push}
use Rattle.channel_desk.proofs.deeds.push.Goals as goal

pub put-requires-clause-admitted : goal.put-requires-clause-admitted
put-requires-clause-admitted c = admitted _ c.args.by c.args.depth c.requires

pub put-requires-clause-later : goal.put-requires-clause-later
put-requires-clause-later c = c.may_add.ensures c.if-may_add.true

pub returns-then-may_add : goal.returns-then-may_add
returns-then-may_add c = λ number. outcome_of (Push number c.args.value) c.args.by c.args.depth c.args.channel.now _ (put_answer c.args.value c.put.result) _ (c.put.ensures.answer number) (put_appends c.args.by c.args.value _ _ c.put.result c.put.ensures.entry c.put.ensures.unchanged) (c.given_by_put.ensures c.args.value)
