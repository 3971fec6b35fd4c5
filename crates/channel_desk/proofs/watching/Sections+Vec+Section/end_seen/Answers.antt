use Rattle.channel_desk.proofs.Holds.{board_free, holds_waited}
use Rattle.channel_desk.proofs.watching.Sections+Vec+Section.end_seen.Goals as goal

pub main_end-requires-clause-board : goal.main_end-requires-clause-board
main_end-requires-clause-board g c = board_free _ _ _ _ _ c.requires.holding

pub returns-clause-holding : goal.returns-clause-holding
returns-clause-holding g c = holds_waited _ _ _ c.args.self.now.pass.now c.main_end.new.pass _ c.requires.holding c.main_end.ensures.own c.main_end.ensures.waited
