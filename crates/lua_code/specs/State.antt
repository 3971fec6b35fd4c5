-- Where a machine is: what it runs, the frames that wait, its registers, and what its state has.
use Rattle.std.specs.Prelude.{ℕ, zero, suc, List, [], ◌∷◌, drop, Option, if◌then◌else◌, ◌==◌}
use Rattle.lua_tree.specs.Tree.{Bytes}
use Rattle.lua_meaning.specs.Native.{Native}
use Rattle.lua_meaning.specs.Value.{Value, first}
use Rattle.lua_meaning.specs.Store.{Store}
use Rattle.lua_meaning.specs.Message.{Ask}
use Rattle.lua_meaning.specs.World.{Module, Outcome}
use Rattle.lua_meaning.specs.Fault.{Place}
use Rattle.lua_code.specs.Instr.{Wants, Proto}

-- ---- registers

-- A list of which every place has something. The program's list begins with those that were ever set.
abbrev pub put : {A : Type 0} → (ℕ → A) → ℕ → A → ℕ → A
put list n a i = if i == n then a else list i

-- so many values from a place on, nil where there are no more
abbrev pub put_values : (ℕ → Value) → (at count : ℕ) → List Value → ℕ → Value
put_values list at zero vs = list
put_values list at (suc count) vs =
    put_values (put list at (first vs)) (suc at) count (drop 1 vs)

abbrev pub put_all : (ℕ → ℕ) → (at : ℕ) → List ℕ → ℕ → ℕ
put_all list at [] = list
put_all list at (c ∷ cs) = put_all (put list at c) (suc at) cs

-- so many values, from a place on
abbrev pub row : (ℕ → Value) → (at count : ℕ) → List Value
row list at zero = []
row list at (suc count) = list at ∷ row list (suc at) count

-- the slots of all frames, the cells of the functions that run, and the values of the last expression of a list
pub record Registers : Type 0 where
  pub slots : ℕ → Value
  pub cells : ℕ → ℕ
  pub tail : List Value

abbrev pub with_slots : Registers → (ℕ → Value) → Registers
with_slots r slots = record { slots = slots; cells = r.cells; tail = r.tail }

abbrev pub with_cells : Registers → (ℕ → ℕ) → Registers
with_cells r cells = record { slots = r.slots; cells = cells; tail = r.tail }

abbrev pub with_tail : Registers → List Value → Registers
with_tail r tail = record { slots = r.slots; cells = r.cells; tail = tail }

abbrev pub put_slot : Registers → ℕ → Value → Registers
put_slot r n v = with_slots r (put r.slots n v)

-- ---- states

-- a function that a program made: its code and the cells that it found around it
pub record Made : Type 0 where
  pub code : Proto
  pub cells : List ℕ

-- what a state has, as a World of the meaning, but for the replies to come
pub record State : Type 0 where
  pub store : Store
  pub functions : List Made
  pub modules : List (Bytes × Module)
  pub output : List ℕ
  pub ends : List ℕ
  pub ticks : ℕ
  pub asks : List Ask

abbrev pub with_store : State → Store → State
with_store st store = record st { store = store }

-- ---- frames

-- a function of Lua at an instruction, with its first slot, its first cell and its extra arguments
pub record Running : Type 0 where
  pub code : Proto
  pub pc : ℕ
  pub base : ℕ
  pub cell_base : ℕ
  pub extra : List Value

-- what a library function does with the results of what it called back
pub data Duty : Type 0 where
  -- `pcall`: whether they are results, and they or the error
  tries : Duty
  -- `tostring`
  converts : Duty
  -- `print`, with the texts so far and the values left
  prints : (made : List Bytes) → (left : List Value) → Duty
  -- `require` of a name
  requires : (name : Bytes) → Duty
  -- `performAtomic`: leaves the section of a Channel
  guards : (channel : ℕ) → Duty

-- a call that waits for its results: a function of Lua, for what it wants, at the call's place; or a library function,
-- which has slots and cells from two places on
pub data Frame : Type 0 where
  waits : Running → Wants → Option Place → Frame
  serves : Duty → (base cell_base : ℕ) → Frame

-- what runs
pub data Active : Type 0 where
  lua : Running → Active
  library : Native → (args : List Value) → (base cell_base : ℕ) → Active

pub record Config : Type 0 where
  pub active : Active
  pub frames : List Frame
  pub registers : Registers
  pub state : State

-- ---- steps

-- how a run ends, and the state then
pub data End : Type 0 where
  ended : List Value → State → End
  failed : Value → State → End
  no_ticks : State → End
  needed : Ask → State → End
  stuck : End

-- what a reply is for
pub data Errand : Type 0 where
  -- its values
  gives_values : Errand
  -- `supply`: then the message is waited for
  awaits : (channel : ℕ) → (limit : Option ℕ) → Errand
  gives_waited : (limit : Option ℕ) → Errand
  -- `performAtomic`: then the function is called
  enters : (channel : ℕ) → (f : Value) → (args : List Value) → Errand
  -- what came out of a section, kept over the ask to leave it
  comes_out : Outcome (List Value) → Errand
  -- an event was pushed
  gives_true : Errand
  -- the next event is cleared
  clears : Errand

-- a machine that waits for a reply
pub record Pending : Type 0 where
  pub errand : Errand
  pub base : ℕ
  pub cell_base : ℕ
  pub frames : List Frame
  pub registers : Registers
  pub state : State

pub data Step : Type 0 where
  on : Config → Step
  stop : End → Step
  asks : Ask → Pending → Step
