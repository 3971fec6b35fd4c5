-- What a kept digest stands for.
use Rattle.std.specs.Prelude.{ℕ, List}
use Rattle.love_data.specs.declared.digest_bytes.Value.{Value}
use Rattle.love_data.specs.declared.digest_bytes.Value.TheVariants.{Md5, Sha1, Sha224, Sha256, Sha384, Sha512}

-- the bytes of a digest of any length
abbrev pub value_bytes : Value → List ℕ
value_bytes (Md5 bytes) = bytes
value_bytes (Sha1 bytes) = bytes
value_bytes (Sha224 bytes) = bytes
value_bytes (Sha256 bytes) = bytes
value_bytes (Sha384 bytes) = bytes
value_bytes (Sha512 bytes) = bytes
