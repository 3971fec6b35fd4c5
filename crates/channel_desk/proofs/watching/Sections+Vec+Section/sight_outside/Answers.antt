use Rattle.channel_desk.proofs.Holds.{free_outside, holds_waited}
use Rattle.channel_desk.proofs.Sights.{ended_looked, seen_look}
use Rattle.channel_desk.proofs.Waiting.{waited_looked}
use Rattle.channel_desk.proofs.watching.Sections+Vec+Section.sight_outside.Goals as goal

pub returns-clause-holding : goal.returns-clause-holding
returns-clause-holding c = let l = c.look-tally.ensures in
    holds_waited _ _ _ c.args.self.now.pass.now c.look-tally.new.pass _ c.requires.holding l.own (waited_looked _ _ c.args.object _ _ (free_outside _ _ _ _ _ c.args.object c.requires.holding c.requires.outside) l.front l.looked)

pub returns-clause-waited : goal.returns-clause-waited
returns-clause-waited c = let l = c.look-tally.ensures in
    waited_looked _ _ c.args.object _ _ (free_outside _ _ _ _ _ c.args.object c.requires.holding c.requires.outside) l.front l.looked

pub returns-clause-board : goal.returns-clause-board
returns-clause-board c = let l = c.look-tally.ensures in
    λ place main_end ended. ended_looked _ _ c.args.object _ _ place main_end c.requires.object.0 (record { looked = l.looked; tally = l.tally; ahead = l.front }) ended

pub returns-clause-seen : goal.returns-clause-seen
returns-clause-seen c = let l = c.look-tally.ensures in
    seen_look c.args.self.now.state _ _ _ c.args.object c.look-tally.result.place c.look-tally.result.summary _ _ c.requires.outside (record { looked = l.looked; tally = l.tally; ahead = l.front }) c.counts_by-sent.ensures
