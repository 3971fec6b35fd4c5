use Rattle.channel_desk.proofs.Glances.{glanced_inside, unseen_inside}
use Rattle.channel_desk.proofs.Holds.{holds_on}
use Rattle.channel_desk.proofs.Moves.{at_read, if_none}
use Rattle.channel_desk.proofs.looking.Sections+Vec+Section.glance_inside.Goals as goal

pub returns-in_err-reply-clause-unseen : goal.returns-in_err-reply-clause-unseen
returns-in_err-reply-clause-unseen c =
    let at = at_read c.args.self.now.held.items c.args.object c.args.at c.requires.section.0 c.index.result.now c.requires.section.1 c.index.ensures in
    if_none _ _ (unseen_inside _ c.args.ask _ _ c.args.object c.args.at _ _ c.index.result.now c.requires.object at c.counts_of-sent.ensures c.in_err-reply.ensures.«open»)

pub returns-clause-holding : goal.returns-clause-holding
returns-clause-holding c = holds_on _ _ _ _ _ c.requires.holding

pub returns-clause-glanced : goal.returns-clause-glanced
returns-clause-glanced c =
    let at = at_read c.args.self.now.held.items c.args.object c.args.at c.requires.section.0 c.index.result.now c.requires.section.1 c.index.ensures in
    glanced_inside _ _ _ _ c.stamp-by.result c.args.ask _ c.args.object c.args.at c.place_of-place.result _ _ c.index.result.now c.in_ok-reply.reply c.only.result c.asked.result c.requires.holding c.stamp-by.ensures c.only.ensures.0 c.only.ensures.1 c.asked.ensures c.requires.object at c.place_of-place.ensures c.counts_of-sent.ensures c.in_ok-reply.ensures.reply
