-- Digests of whole messages, as the kit's crates define them.
use Rattle.std.specs.Prelude.{ℕ, List}
use Rattle.md5.specs.Md5.{md5}
use Rattle.sha1.specs.Sha1.{sha1}
use Rattle.sha2.specs.Sha256.{sha224, sha256}
use Rattle.sha2.specs.Sha512.{sha384, sha512}
use Rattle.love_data.specs.declared.hash.HashKind.{HashKind}
use Rattle.love_data.specs.declared.hash.HashKind.TheVariants.{Md5, Sha1, Sha224, Sha256, Sha384, Sha512}

-- the digest of a message
abbrev pub digest_of : HashKind → List ℕ → List ℕ
digest_of Md5 message = md5 message
digest_of Sha1 message = sha1 message
digest_of Sha224 message = sha224 message
digest_of Sha256 message = sha256 message
digest_of Sha384 message = sha384 message
digest_of Sha512 message = sha512 message
