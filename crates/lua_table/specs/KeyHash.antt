-- What the hasher of keys computes. No contract of the table cites it.
use Rattle.std.specs.Prelude.{ℕ, ◌+◌, ◌*◌, ◌/◌, ◌%◌, ◌^◌, List, fold, length, reverse, nat_le, if◌then◌else◌}

-- the state after one number
unfoldable pub stepped : ℕ → ℕ → ℕ
stepped state word =
    (word / 64 + state) % 2 ^ 64 * 0xc7a2_ea20_b2f1_4c95 % 2 ^ 64 / 2 ^ 32 % 2 ^ 26 * 8
    + word / 8 % 8 + word % 8 * 2 ^ 29

-- bytes as one number below 2^64, the lowest first
abbrev pub word : List ℕ → ℕ
word bytes = fold (λ word byte. (word * 256 % 2 ^ 64 + byte) % 2 ^ 64) 0 (reverse bytes)

-- the state after some bytes: up to eight are one number, and more are one number each
abbrev pub written : ℕ → List ℕ → ℕ
written state bytes = if nat_le (length bytes) 8 then stepped state (word bytes) else fold stepped state bytes
