use Rattle.turn_desk.proofs.desk.Desk.release.Given as goal

abbrev pub ghosts-publish : goal.ghosts-publish
ghosts-publish g a = record { object = a.object; number = 0; log = g.O.Logged.history a.value.now }
