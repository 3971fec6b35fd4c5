use Rattle.std.proofs.Common.{sym}
use Rattle.channel_desk.proofs.Coming.{outcome_same, push_sends, supply_sends}
use Rattle.channel_desk.proofs.deeds.answer_ask.Goals as goal

pub returns-in-Push : goal.returns-in-Push
returns-in-Push c = outcome_same _ _ c.args.by c.args.depth _ _ _ (push_sends c.args.ask.now c.args.message c.in-Push.field-0 c.in-Push.field-1 c.unwrap.result c.requires.message c.in-Push.is c.unwrap.ensures) (c.push.ensures c.in-Push.field-0)

pub returns-in-Supply : goal.returns-in-Supply
returns-in-Supply c = outcome_same _ _ c.args.by c.args.depth _ _ _ (supply_sends c.args.ask.now c.args.message c.in-Supply.field-0 c.in-Supply.field-1 c.unwrap-in-Supply.result c.requires.message c.in-Supply.is c.unwrap-in-Supply.ensures) (c.supply.ensures c.in-Supply.field-0)

pub returns-in-Pop : goal.returns-in-Pop
returns-in-Pop c = outcome_same _ _ c.args.by c.args.depth _ _ _ (sym c.in-Pop.is) (c.pop.ensures c.in-Pop.field-0)

pub returns-in-Peek : goal.returns-in-Peek
returns-in-Peek c = outcome_same _ _ c.args.by c.args.depth _ _ _ (sym c.in-Peek.is) (c.peek.ensures c.in-Peek.field-0)

pub returns-in-Clear : goal.returns-in-Clear
returns-in-Clear c = outcome_same _ _ c.args.by c.args.depth _ _ _ (sym c.in-Clear.is) (c.clear.ensures c.in-Clear.field-0)

pub returns-in-Enter : goal.returns-in-Enter
returns-in-Enter c = outcome_same _ _ c.args.by c.args.depth _ _ _ (sym c.in-Enter.is) (c.enter.ensures c.in-Enter.field-0)
