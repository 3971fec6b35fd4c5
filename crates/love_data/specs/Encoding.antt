-- Texts of bytes, as the kit's crates define them for a whole input.
use Rattle.std.specs.Prelude.{ℕ, List, Option}
use Rattle.std.specs.Result.{result_ok}
use Rattle.base64.specs.Engines.{standard}
use Rattle.base64.specs.GeneralPurpose.{encode_of as base64_encode_of, decode_of as base64_decode_of}
use Rattle.hex.specs.Hex.{encode_lower, decode_of as hex_decode_of}
use Rattle.love_data.specs.declared.encoding.Format.{Format}
use Rattle.love_data.specs.declared.encoding.Format.TheVariants.{Base64, Hex}

-- the text of some bytes
abbrev pub encoded : Format → List ℕ → List ℕ
encoded Base64 bytes = base64_encode_of standard bytes
encoded Hex bytes = encode_lower bytes

-- the bytes that a text stands for, where it is one of the format
abbrev pub decoded : Format → List ℕ → Option (List ℕ)
decoded Base64 text = result_ok (base64_decode_of standard text)
decoded Hex text = result_ok (hex_decode_of text)
