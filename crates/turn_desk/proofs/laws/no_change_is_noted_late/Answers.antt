use Rattle.std.proofs.Common.{◌≤◌, ◌+◌, arith, slice_index}
use Rattle.turn_desk.proofs.laws.no_change_is_noted_late.Goals as goal

pub returns : goal.returns
returns g c = λ v k a there changed late stand. let past = (stand k a there).0 in let behind = rw changed at past in omega arith
