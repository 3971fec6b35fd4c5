-- What is written is read again, and in base64 nothing else is.
use native.Mathlib.Omega.{arith}
use Rattle.std.specs.Prelude.{◌≡◌, refl, ℕ, List, Some, Result, Ok, Err}
use Rattle.std.specs.Result.{result_ok}
use Rattle.base64.specs.Engines.{standard}
use Rattle.base64.specs.GeneralPurpose.{IsBytes, decode_of}
use Rattle.base64.proofs.EngineFacts.{decode_of-encode_of, decode_of_strict}
use Rattle.hex.proofs.HexLemmas.{decode_of-encode_lower}
use Rattle.love_data.specs.Encoding.{encoded, decoded}
use Rattle.love_data.specs.declared.encoding.Format.{Format}
use Rattle.love_data.specs.declared.encoding.Format.TheVariants.{Base64, Hex}

-- an outcome with a value is Ok of it
ok_of_some : {T E : Type 0} (outcome : Result T E) (x : T) → result_ok outcome ≡ Some x → outcome ≡ Ok x
ok_of_some (Ok y) x h = grind (arith, h)
ok_of_some (Err e) x h = grind (arith, h)

pub reads_back : (format : Format) (bytes : List ℕ) → IsBytes bytes → decoded format (encoded format bytes) ≡ Some bytes
reads_back Base64 bytes h = rw (decode_of-encode_of standard bytes refl h) refl
reads_back Hex bytes h = rw (decode_of-encode_lower bytes h) refl

pub one_text : (text bytes : List ℕ) → IsBytes text → decoded Base64 text ≡ Some bytes → text ≡ encoded Base64 bytes
one_text text bytes h some = decode_of_strict standard text bytes (refl, refl) h (ok_of_some (decode_of standard text) bytes some)
