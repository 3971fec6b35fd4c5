use Rattle.event_queue.proofs.Calls as calls
use Rattle.event_queue.proofs.laws.none_waits.Goals as goal

pub returns : goal.returns
returns c old new next all w first m = calls.none_waits old new next all w first m
