use Rattle.event_queue.proofs.event_queue.EventQueue.poll.Given as goal

abbrev pub ghosts-note_given : goal.ghosts-note_given
ghosts-note_given g a = record { event = a._event.now }
