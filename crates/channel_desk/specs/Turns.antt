-- The steps by which a state meets a Channel or the board.
use Rattle.std.specs.Prelude.{◌≡◌, ℕ, ◌+◌, ◌-◌, ◌<◌, ◌≤◌, List, [], ◌∷◌, ◌++◌, length, slice_index_or, slice_set}
use Rattle.variant.specs.declared.ask.Ask.{Ask}
use Rattle.variant.specs.declared.ask.Ask.TheVariants.{Enter, Leave}
use Rattle.love_base.specs.Prefix.{IsPrefix}
use Rattle.turn_desk.specs.declared.view.Phase.TheVariants.{Free, Taken}
use Rattle.turn_desk.specs.declared.view.View.{View}
use Rattle.turn_desk.specs.Grew.{Grew, nothing}
use Rattle.turn_desk.specs.View.{spot, published, freed}
use Rattle.turn_desk.specs.Steps.{Continues, HasTaken, TakesAfterRefusals}
use Rattle.channel_desk.specs.declared.shared.SharedEntry.{SharedEntry}
use Rattle.channel_desk.specs.declared.sections.Section.{Section}
use Rattle.channel_desk.specs.Shared.{history_of, summary_of, rests}

-- a pass has the same objects as before, which it didn't change, and filled no place meanwhile: it looked,
-- waited, and took turns in which it changed nothing
pub record Waited (v w : View SharedEntry) : Type 0 where
  pub grew : Grew nothing v w
  pub phases : (o : ℕ) → (spot w o).phase ≡ (spot v o).phase
  pub held : (o : ℕ) → (spot v o).phase ≡ Taken → spot w o ≡ spot v o

-- an object that the pass didn't have was taken with this history, perhaps after some waiting
pub record Took (v w : View SharedEntry) (o : ℕ) (log : List SharedEntry) : Type 0 where
  pub free : (spot v o).phase ≡ Free
  pub began : View SharedEntry
  pub waited : Waited v began
  pub takes : TakesAfterRefusals began o log w
  pub kept : HasTaken w o log
  pub seen : Continues summary_of rests began o log

-- and given back with this one, in one turn
pub record Turned (v w : View SharedEntry) (o : ℕ) (log log' : List SharedEntry) : Type 0 where
  pub taken : View SharedEntry
  pub took : Took v taken o log
  pub gave : w ≡ freed o (published o log' taken)

-- the section at the place k, on the object o
pub record IsAt (held : List Section) (o k : ℕ) (s : Section) : Type 0 where
  pub within : k < length held
  pub item : (d : Section) → slice_index_or held k d ≡ s
  pub object : s.held.object ≡ o

-- how deep a state is inside a Channel after an ask there
abbrev pub depth_after : Ask → ℕ → ℕ
depth_after (Enter channel) depth = depth + 1
depth_after (Leave channel) depth = depth - 1
depth_after ask depth = depth

-- one section's object was changed, or only looked at, and no step was made
pub record Within (ask : Ask) (held held' : List Section) (o depth : ℕ) (log log' : List SharedEntry) : Type 0 where
  pub place : ℕ
  pub section : Section
  pub changed : Section
  pub at : IsAt held o place section
  pub deep : section.depth ≡ depth
  pub before : history_of section.held.value ≡ log
  pub object : changed.held.object ≡ o
  pub deep_after : changed.depth ≡ depth_after ask depth
  pub after : history_of changed.held.value ≡ log'
  pub items : held' ≡ slice_set held place changed

-- an outermost section was entered, behind the others
pub record Entered (v w : View SharedEntry) (held held' : List Section) (o : ℕ) (log log' : List SharedEntry) : Type 0 where
  pub took : Took v w o log
  pub section : Section
  pub object : section.held.object ≡ o
  pub deep : section.depth ≡ 1
  pub after : history_of section.held.value ≡ log'
  pub items : held' ≡ held ++ section ∷ []

-- the last section, so many deep, was left, and its object given back
pub record Left (v w : View SharedEntry) (held held' : List Section) (o depth : ℕ) (log log' : List SharedEntry) : Type 0 where
  pub section : Section
  pub object : section.held.object ≡ o
  pub deep : section.depth ≡ depth
  pub before : history_of section.held.value ≡ log
  pub taken : (spot v o).phase ≡ Taken
  pub grown : IsPrefix (spot v o).known log
  pub ahead : (spot v o).front ≤ length log'
  pub gave : w ≡ freed o (published o log' v)
  pub items : held ≡ held' ++ section ∷ []

-- how a state that is so many sections deep on a Channel met it for this ask, and found it with one history
-- and left it with another
pub data Step (ask : Ask) (v w : View SharedEntry) (held held' : List Section) (o depth : ℕ) (log log' : List SharedEntry) : Type 0 where
  in_turn : depth ≡ 0 → Turned v w o log log' → held' ≡ held → Step ask v w held held' o depth log log'
  inside : 0 < depth → w ≡ v → Within ask held held' o depth log log' → Step ask v w held held' o depth log log'
  entering : depth ≡ 0 → Entered v w held held' o log log' → Step ask v w held held' o depth log log'
  leaving : depth ≡ 1 → Left v w held held' o depth log log' → Step ask v w held held' o depth log log'
