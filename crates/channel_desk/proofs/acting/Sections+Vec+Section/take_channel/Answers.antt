use Rattle.channel_desk.proofs.Holds.{board_free}
use Rattle.channel_desk.proofs.acting.Sections+Vec+Section.take_channel.Goals as goal

-- src/acting.rt:184:13
pub take_or_halt-requires-clause-board : goal.take_or_halt-requires-clause-board
take_or_halt-requires-clause-board g c = board_free _ _ _ _ _ c.requires.holding
