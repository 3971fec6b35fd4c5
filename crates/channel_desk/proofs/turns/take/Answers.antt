use Rattle.std.proofs.Common.{◌∙◌}
use Rattle.channel_desk.proofs.Waiting.{took_at_once}
use Rattle.channel_desk.proofs.turns.take.Goals as goal

pub returns-clause-took : goal.returns-clause-took
returns-clause-took g c = took_at_once _ _ _ _ c.requires.free c.hold.ensures.taken c.hold.ensures.kept c.hold.ensures.seen

pub returns-clause-kind : goal.returns-clause-kind
returns-clause-kind g c = λ real. c.hold.ensures.fixed ∙ c.requires.laid.channels c.args.object real c.requires.object
