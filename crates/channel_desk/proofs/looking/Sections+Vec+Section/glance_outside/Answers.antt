use Rattle.channel_desk.proofs.Glances.{glanced_look, unseen_look}
use Rattle.channel_desk.proofs.Holds.{free_outside, holds_on, holds_waited}
use Rattle.channel_desk.proofs.Moves.{if_none}
use Rattle.channel_desk.proofs.Waiting.{waited_looked}
use Rattle.channel_desk.proofs.looking.Sections+Vec+Section.glance_outside.Goals as goal

pub returns-in_err-reply-clause-holding : goal.returns-in_err-reply-clause-holding
returns-in_err-reply-clause-holding c = let l = c.look-tally.ensures in
    holds_waited _ _ _ c.args.self.now.pass.now c.look-tally.new.pass _ c.requires.holding l.own (waited_looked _ _ c.args.object _ _ (free_outside _ _ _ _ _ c.args.object c.requires.holding c.requires.outside) l.front l.looked)

pub returns-in_err-reply-clause-unseen : goal.returns-in_err-reply-clause-unseen
returns-in_err-reply-clause-unseen c = let l = c.look-tally.ensures in
    if_none _ _ (unseen_look _ c.args.ask _ _ _ c.args.object c.look-tally.result.place c.look-tally.result.summary _ _ c.requires.object.0 c.requires.outside (record { looked = l.looked; tally = l.tally; ahead = l.front }) c.counts_by-sent.ensures c.in_err-reply.ensures.«open»)

pub returns-clause-holding : goal.returns-clause-holding
returns-clause-holding c = let l = c.look-tally.ensures in
    holds_on _ _ _ _ _ (holds_waited _ _ _ c.args.self.now.pass.now c.look-tally.new.pass _ c.requires.holding l.own (waited_looked _ _ c.args.object _ _ (free_outside _ _ _ _ _ c.args.object c.requires.holding c.requires.outside) l.front l.looked))

pub returns-clause-glanced : goal.returns-clause-glanced
returns-clause-glanced c = let l = c.look-tally.ensures in
    glanced_look _ c.stamp-by.result c.args.ask _ _ _ c.args.object c.look-tally.result.place c.look-tally.result.summary _ _ c.in_ok-reply.reply c.only.result c.asked.result c.stamp-by.ensures c.only.ensures.0 c.only.ensures.1 c.asked.ensures c.requires.object.0 c.requires.outside
    (record { looked = l.looked; tally = l.tally; ahead = l.front }) c.counts_by-sent.ensures c.in_ok-reply.ensures.reply
