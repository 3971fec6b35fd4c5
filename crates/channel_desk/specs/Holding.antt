-- What a state has at a desk between two calls.
use Rattle.std.specs.Prelude.{◌≡◌, ℕ, ◌<◌, ◌≤◌, ◌==◌, All, List, count_by, length, Bool, if◌then◌else◌, Some}
use Rattle.love_base.specs.Prefix.{IsPrefix}
use Rattle.channel_core.specs.History.{holder}
use Rattle.channel_core.specs.Lawful.{IsLater}
use Rattle.turn_desk.specs.declared.view.Phase.TheVariants.{Taken}
use Rattle.turn_desk.specs.declared.view.View.{View}
use Rattle.turn_desk.specs.View.{spot}
use Rattle.turn_desk.specs.Passes.{DeskId, Standing, fixed_at, object_count, is_free}
use Rattle.channel_desk.specs.declared.shared.SharedEntry.{SharedEntry}
use Rattle.channel_desk.specs.declared.sections.Section.{Section}
use Rattle.channel_desk.specs.Shared.{history_of, kind_of, channel_in}

-- the desk has a board with workers as its first object, and behind it all Channels
pub record IsLaid (desk : DeskId) (p : Standing SharedEntry) : Type 0 where
  pub own : p.desk ≡ desk
  pub wide : 1024 < object_count desk
  pub board : 1 < fixed_at p.view 0
  pub channels : (o : ℕ) → 0 < o → o ≤ 1024 → fixed_at p.view o ≡ 0

-- a Channel in the state's section, whose next number is this
pub record IsOf (state next : ℕ) (v : View SharedEntry) (s : Section) : Type 0 where
  pub real : 0 < s.held.object
  pub within : s.held.object ≤ 1024
  pub phase : (spot v s.held.object).phase ≡ Taken
  pub grown : IsPrefix (spot v s.held.object).known (history_of s.held.value)
  pub front : (spot v s.held.object).front ≤ length (history_of s.held.value)
  pub kind : kind_of s.held.value ≡ 0
  pub depth : 0 < s.depth
  pub few : s.depth ≤ next
  pub mine : holder (channel_in s.held.value) ≡ Some state
  pub later : IsLater (channel_in s.held.value) (record { state = state; number = next })

-- how many sections there are on the object o
abbrev pub sections_on : ℕ → List Section → ℕ
sections_on o held = count_by (λ (s : Section). s.held.object == o) held

abbrev pub one_if_busy : Bool → ℕ
one_if_busy free = if free then 0 else 1

-- the pass has just the objects of these sections
pub record IsHolding (desk : DeskId) (state next : ℕ) (p : Standing SharedEntry) (held : List Section) : Type 0 where
  pub laid : IsLaid desk p
  pub each : All (IsOf state next p.view) held
  pub counted : (o : ℕ) → sections_on o held ≡ one_if_busy (is_free (spot p.view o).phase)

-- the number of a state's first action at a desk: each state but 0 has begun by its first
abbrev pub first_number : ℕ → ℕ
first_number state = if state == 0 then 1 else 2
