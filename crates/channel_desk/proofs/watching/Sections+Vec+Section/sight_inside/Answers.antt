use Rattle.channel_desk.proofs.Moves.{at_read}
use Rattle.channel_desk.proofs.Sights.{seen_inside}
use Rattle.channel_desk.proofs.watching.Sections+Vec+Section.sight_inside.Goals as goal

pub returns : goal.returns
returns c =
    let at = at_read c.args.self.now.held.items c.args.object c.args.at c.requires.section.0 c.index.result.now c.requires.section.1 c.index.ensures in
    record { seen = seen_inside _ _ _ _ _ c.args.object c.args.at _ _ _ c.index.result.now c.requires.holding at c.place_of.ensures c.counts_of-sent.ensures }
