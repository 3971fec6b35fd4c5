use Rattle.std.proofs.Common.{◌∙◌, ℕ, ap, sym}
use Rattle.channel_desk.specs.Holding.{sections_on}
use Rattle.channel_desk.proofs.Moves.{stays_outside}
use Rattle.channel_desk.proofs.acting.Sections+Vec+Section.act_free.Goals as goal

pub act_outside-requires-clause-ask : goal.act_outside-requires-clause-ask
act_outside-requires-clause-ask g c = (
  c.requires.ask,
  stays_outside c.args.ask _ c.requires.ask (c.is_enter.ensures.no c.if-is_enter.false) c.requires.leave (ap (λ (o : ℕ). sections_on o c.args.self.now.held.items) (sym c.requires.channel.0) ∙ c.requires.outside),
)
