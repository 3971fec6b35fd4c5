use Rattle.std.proofs.Common.{[]}
use Rattle.turn_desk.proofs.desk.Desk.new.Given as goal

abbrev pub ghosts-bring_seats : goal.ghosts-bring_seats
ghosts-bring_seats g a = record { object = 0; number = a._seats; log = [] }
