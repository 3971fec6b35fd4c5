-- Turns of a numeric loop.
use Rattle.std.specs.Prelude.{◌≡◌, ℕ, ◌+◌, ℤ, Bool, true, false, List, length, set, Option, Some, None, Result, Ok, Err, codes, ◌⊎◌}
use Rattle.lua_tree.specs.Tree.{Bytes}
use Rattle.lua_meaning.specs.Text.{as_number}
use Rattle.lua_machine.specs.Past.{Past}
use Rattle.lua_heap.specs.declared.value.Value.{Value}
use Rattle.lua_heap.specs.declared.value.Value.TheVariants.{Num}
use Rattle.lua_code.specs.State.{Step, on, stop, no_ticks}
use Rattle.lua_code.specs.Act.{turns}
use Rattle.lua_machine.specs.View.{EngineView, value_at, slots_view, run_of, frames_of, registers_of, state_of, config_of}

-- three numbers
abbrev pub three_numbers : Value → Value → Value → Option (ℤ × ℤ × ℤ)
three_numbers (Num n) (Num m) (Num k) = Some (n, m, k)
three_numbers a b c = None

-- those that stand in the first three slots of a loop
abbrev pub numbers_at : EngineView → ℕ → Option (ℤ × ℤ × ℤ)
numbers_at m at =
    three_numbers (value_at m.values (m.base + at)) (value_at m.values (m.base + at + 1))
    (value_at m.values (m.base + at + 2))

-- what three values are as numbers, or what is said of the first one that isn't one
abbrev pub three_read : (number limit step : Option ℤ) → Result (ℤ × ℤ × ℤ) Bytes
three_read None limit step = Err (codes "'for' initial value must be a number")
three_read (Some n) None step = Err (codes "'for' limit must be a number")
three_read (Some n) (Some m) None = Err (codes "'for' step must be a number")
three_read (Some n) (Some m) (Some k) = Ok (n, m, k)

abbrev pub slot_number : EngineView → ℕ → Option ℤ
slot_number m n = as_number (slots_view m.heap.texts m.values n)

-- so are those in the first three slots of a loop
abbrev pub loop_numbers : EngineView → ℕ → Result (ℤ × ℤ × ℤ) Bytes
loop_numbers m at =
    three_read (slot_number m (m.base + at)) (slot_number m (m.base + at + 1))
    (slot_number m (m.base + at + 2))

-- these slots get numbers
abbrev pub with_numbers : EngineView → ℕ → (n m k : ℤ) → EngineView
with_numbers x at n m k = record x {
  values =
      set (set (set x.values (x.base + at) (Num n)) (x.base + at + 1) (Num m)) (x.base + at + 2)
      (Num k);
}

-- what a turn does
abbrev pub turn_of : (at body exit : ℕ) → (n m k : ℤ) → Past → EngineView → Step
turn_of at body exit n m k past x =
    turns (run_of x) (frames_of x) (registers_of x) (state_of past x) at body exit n m k

-- it began or there was none; or it wants a tick and none is left
abbrev pub TurnedOr : Bool → (at body exit : ℕ) → (n m k : ℤ) → EngineView → EngineView → Type 0
TurnedOr true at body exit n m k old new =
    (past : Past) → turn_of at body exit n m k past old ≡ on (config_of past new)
TurnedOr false at body exit n m k old new =
    (past : Past) → turn_of at body exit n m k past new ≡ stop (no_ticks (state_of past new))

-- it began or there was none: the engine is at one of two places, and slots and ticks changed alone
pub record HasTurned (body exit : ℕ) (old new : EngineView) : Type 0 where
  pub values : List Value
  pub pc : ℕ
  pub ticks : ℕ
  pub is : new ≡ record old { values = values; pc = pc; ticks = ticks }
  pub long : length values ≡ length old.values
  pub place : (pc ≡ body) ⊎ (pc ≡ exit)
