use Rattle.love_functions.proofs.Machine.{all-serve}
use Rattle.love_functions.proofs.laws.serves.Goals as goal

pub returns : goal.returns
returns c = all-serve
