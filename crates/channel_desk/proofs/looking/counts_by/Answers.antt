use Rattle.channel_desk.proofs.Counts.{parted}
use Rattle.channel_desk.proofs.looking.counts_by.Goals as goal

pub returns : goal.returns
returns c = λ h e. parted _ _ _ e c.requires
