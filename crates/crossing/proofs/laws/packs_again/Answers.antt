use Rattle.crossing.proofs.Again.{packs_again as proved}
use Rattle.crossing.proofs.laws.packs_again.Goals as goal

pub returns : goal.returns
returns c = proved
