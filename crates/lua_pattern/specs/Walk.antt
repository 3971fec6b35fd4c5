-- A walk through the matches of a text, as `string.gsub` and `string.gmatch` go (Lua 5.1 manual §5.4).
use Rattle.std.specs.Prelude.{◌≡◌, ℕ, ◌+◌, ◌-◌, ◌<◌, ◌≤◌, ◌⊎◌, List, length, Option, Some, None, ◌==◌, if◌then◌else◌}
use Rattle.lua_pattern.specs.Tree.{Tree}
use Rattle.lua_pattern.specs.Found.{FoundAt, IsFound}
use Rattle.lua_pattern.specs.declared.found.Match.{Match}
use Rattle.lua_pattern.specs.declared.walk.Walk.{Walk}

-- the walk through a whole text with at most so many matches
abbrev pub whole : ℕ → Walk
whole limit = record { passed = 0; from = 0; left = limit }

-- where the search goes on behind a match: at its end, or one byte further behind an empty one
abbrev pub goes_on : Match → ℕ
goes_on m = if m.start == m.end then m.end + 1 else m.end

-- a walk behind a match: an anchored pattern is tried once
abbrev pub behind : Tree → Walk → Match → Walk
behind p w m = record { passed = m.end; from = goes_on m; left = if p.anchored then 0 else w.left - 1 }

-- the next match of a walk
abbrev pub IsNext : Tree → List ℕ → Walk → Match → Type 0
IsNext p text w m = (0 < w.left) × (w.from ≤ length text) × FoundAt p text w.from m

-- a walk has no more matches: it may have none, it has passed the text, or none is found
abbrev pub HasEnded : Tree → List ℕ → Walk → Type 0
HasEnded p text w = (w.left ≡ 0) ⊎ (length text < w.from) ⊎ IsFound p text w.from None

-- what a step of a walk gives, and the walk behind it
abbrev pub IsStep : Tree → List ℕ → Walk → Option Match → Walk → Type 0
IsStep p text w (Some m) after = IsNext p text w m × (after ≡ behind p w m)
IsStep p text w None after = HasEnded p text w × (after ≡ w)
