use Rattle.channel_desk.proofs.Coming.{admitted, outcome_or_not, peek_appends}
use Rattle.std.specs.Option.{option_copied}
use Rattle.channel_core.specs.Calls.{peek_answer}
use Rattle.channel_desk.proofs.deeds.peek.Goals as goal

pub returns : goal.returns
returns c = λ number. outcome_or_not _ c.args.by c.args.depth _ (peek_answer (option_copied c.peek.result)) _ (c.peek.ensures.answer number c.args.by.state (admitted _ c.args.by c.args.depth c.requires)) (peek_appends c.args.by _ _) c.given_by_peek.ensures
