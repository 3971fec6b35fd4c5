use Rattle.std.proofs.Common.{◌<◌, arith}
use Rattle.turn_desk.proofs.laws.no_entry_carries_nothing.Goals as goal

pub returns : goal.returns
returns g c = λ v o k w log there bare stand. let stands = stand k w there in let none = rw bare at stands.2 in omega arith
