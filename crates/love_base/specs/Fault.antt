-- Counts of faults, kept by what stands for the world outside.
use Rattle.std.specs.Prelude.{◌≡◌, ℕ, ◌<◌, ◌⊎◌, ◌+◌, ◌-◌, ◌^◌, if◌then◌else◌, nat_lt}

-- where a count of 64 bits stands still
abbrev pub last_count : ℕ
last_count = 2 ^ 64 - 1

-- one more, or the same at the end of the type
abbrev pub next_count : ℕ → ℕ
next_count count = if nat_lt count last_count then count + 1 else count

-- the count rose, or stands at the end of its type, where it can't rise
abbrev pub HasRisen : ℕ → ℕ → Type 0
HasRisen before after = (before < after) ⊎ (after ≡ last_count)
