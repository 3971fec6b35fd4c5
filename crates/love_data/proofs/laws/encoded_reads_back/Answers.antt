use Rattle.love_data.proofs.Encodings.{reads_back}
use Rattle.love_data.proofs.laws.encoded_reads_back.Goals as goal

pub returns : goal.returns
returns c = reads_back
