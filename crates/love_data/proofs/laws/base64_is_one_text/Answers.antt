use Rattle.love_data.proofs.Encodings.{one_text}
use Rattle.love_data.proofs.laws.base64_is_one_text.Goals as goal

pub returns : goal.returns
returns c = one_text
