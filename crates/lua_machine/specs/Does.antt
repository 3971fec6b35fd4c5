-- An instruction that the engine does is a step of the definitions' machine.
use Rattle.std.specs.Prelude.{◌≡◌, ℕ, ◌+◌, ◌<◌, Bool, true, false, List, [], ◌∷◌, ◌++◌, length, map, take, set, Option, Some, None, slice_get, ⊤}
use Rattle.lua_meaning.specs.Value as meant
use Rattle.lua_meaning.specs.MessageView.{ask_view}
use Rattle.lua_meaning.specs.World.{Outcome, given, failed}
use Rattle.lua_machine.specs.Past.{Past}
use Rattle.lua_heap.specs.declared.value.Value.{Value}
use Rattle.lua_heap.specs.Value.{value_view}
use Rattle.lua_heap.specs.Heap.{IsMade}
use Rattle.lua_code.specs.Instr as i
use Rattle.lua_code.specs.declared.instr.Instr.{Instr}
use Rattle.lua_code.specs.declared.instr.Site.{Site}
use Rattle.lua_code.specs.View.{ProtoView, Inner, inners, site_view, instr_view, constant_at}
use Rattle.lua_code.specs.State as s
use Rattle.lua_code.specs.State.{Step, on, stop, no_ticks, ended}
use Rattle.lua_code.specs.Frames.{finish}
use Rattle.lua_code.specs.Act.{act_on}
use Rattle.lua_machine.specs.declared.status.Status.{Status}
use Rattle.lua_machine.specs.declared.status.Status.TheVariants.{Goes, NoTick, Serves, Gives, Raises, Prints, Asks, Ends, Fails}
use Rattle.lua_machine.specs.View.{EngineView, protos_at, run_of, frames_of, registers_of, state_of, config_of, serving_config, slots_view}
use Rattle.lua_machine.specs.Ready.{AreFit, IsServing, IsReady}
use Rattle.love_functions.specs.View as love
use Rattle.lua_machine.specs.declared.errand.Errand.{Errand}
use Rattle.lua_machine.specs.declared.errand.Errand.TheVariants.{Answers, ComesOut}

-- ---- instructions

abbrev pub no_site : i.Site
no_site = record { line = 0; above = 0; cells = 0 }

abbrev pub site_or : Option Site → i.Site
site_or None = no_site
site_or (Some s) = site_view s

abbrev pub site_at : ProtoView → ℕ → i.Site
site_at p pc = site_or (slice_get p.sites pc)

-- the functions that the running one may make
abbrev pub made_before : EngineView → List Inner
made_before m = take m.func (inners (protos_at m.chunks m.chunk))

-- the next instruction of the running function as the definitions have it
abbrev pub instr_of : Instr → EngineView → i.Instr
instr_of x m = instr_view m.proto.constants (made_before m) (site_at m.proto m.pc) x

-- ---- steps

-- what an instruction of the definitions does
abbrev pub step_of : i.Instr → Past → EngineView → Step
step_of x past m = act_on (run_of m) (frames_of m) (registers_of m) (state_of past m) x

-- what an instruction does
abbrev pub step_at : Instr → Past → EngineView → Step
step_at x past m = step_of (instr_of x m) past m

-- the engine did it and goes on
abbrev pub Did : i.Instr → EngineView → EngineView → Type 0
Did x old new = (past : Past) → step_of x past old ≡ on (config_of past new)

-- it takes a tick, and none is left
abbrev pub HasNoTick : i.Instr → EngineView → Type 0
HasNoTick x m = (past : Past) → step_of x past m ≡ stop (no_ticks (state_of past m))

-- it did it, or it is as it was where there was no tick
abbrev pub DidOr : i.Instr → Bool → EngineView → EngineView → Type 0
DidOr x true old new = Did x old new
DidOr x false old new = HasNoTick x new

-- what a reply is for; the values that come out of a section are put together as arguments are
abbrev pub errand_view : Errand → EngineView → s.Errand
errand_view (Answers call) m = love.errand_view m.heap call
errand_view (ComesOut None) m = s.comes_out (given (map (value_view m.heap.texts) m.args))
errand_view (ComesOut (Some v)) m = s.comes_out (failed (value_view m.heap.texts v))

-- a reply is awaited
abbrev pub pending_of : Errand → Past → EngineView → s.Pending
pending_of errand past m =
    record {
      errand = errand_view errand m;
      base = m.base;
      cell_base = m.cell_base;
      frames = frames_of m;
      registers = registers_of m;
      state = state_of past m;
    }

-- values or an error for the frames that wait
abbrev pub finishing : Outcome (List meant.Value) → Past → EngineView → Step
finishing o past m = finish o (frames_of m) (registers_of m) (state_of past m)

-- results that were put together as arguments are
abbrev pub given_args : EngineView → Outcome (List meant.Value)
given_args m = given (map (value_view m.heap.texts) m.args)

-- a line was printed
abbrev pub with_line : List ℕ → Past → Past
with_line line past =
    record {
      asks = past.asks;
      output = past.output ++ line;
      ends = past.ends ++ length (past.output ++ line) ∷ [];
    }

-- where the engine is when a step came to a status
abbrev pub step_as : Status → Past → EngineView → Step
step_as Goes past m = on (config_of past m)
step_as NoTick past m = stop (no_ticks (state_of past m))
step_as (Serves f) past m = on (serving_config f past m)
step_as Gives past m = finishing (given_args m) past m
step_as (Raises v) past m = finishing (failed (value_view m.heap.texts v)) past m
step_as (Prints line) past m = finishing (given []) (with_line line.items past) m
step_as (Asks question errand) past m = s.asks (ask_view question) (pending_of errand past m)
step_as Ends past m = stop (ended (map (value_view m.heap.texts) m.args) (state_of past m))
step_as (Fails v) past m = stop (s.failed (value_view m.heap.texts v) (state_of past m))

-- an operand of the running function
abbrev pub slot_of : EngineView → ℕ → meant.Value
slot_of m n = slots_view m.heap.texts m.values (m.base + n)

abbrev pub constant_of : EngineView → ℕ → meant.Value
constant_of m n = constant_at m.proto.constants n

-- what a reply is for was made by the heap
abbrev pub IsMadeErrand : Errand → EngineView → Type 0
IsMadeErrand (Answers call) m = love.IsMadeErrand m.heap call
IsMadeErrand (ComesOut None) m = ⊤
IsMadeErrand (ComesOut (Some v)) m = IsMade m.heap v

-- what is kept: the engine is ready for the next instruction, or for a function of the library, or fit to go on; an error
-- is a value of the heap
abbrev pub IsKept : Status → EngineView → Type 0
IsKept Goes m = IsReady m
IsKept NoTick m = ⊤
IsKept (Serves f) m = IsServing m
IsKept Gives m = AreFit m
IsKept (Raises v) m = IsMade m.heap v × AreFit m
IsKept (Prints line) m = AreFit m × (m.args ≡ [])
IsKept (Asks question errand) m = IsServing m × IsMadeErrand errand m
IsKept Ends m = ⊤
IsKept (Fails v) m = IsMade m.heap v

-- a step came to a status
pub record Came (does : Past → Step) (status : Status) (new : EngineView) : Type 0 where
  pub step : (past : Past) → does past ≡ step_as status past new
  pub kept : IsKept status new

-- an instruction came to a status
abbrev pub Takes : Instr → Status → EngineView → EngineView → Type 0
Takes x status old new = Came (λ past. step_at x past old) status new

-- ---- what there is

-- a slot of the running function is among those that there are
abbrev pub HasSlot : EngineView → ℕ → Type 0
HasSlot m n = m.base + n < length m.values

-- a slot gets a value, and the engine goes on
abbrev pub with_slot : EngineView → ℕ → Value → EngineView
with_slot m n v = record m { values = set m.values (m.base + n) v; pc = m.pc + 1 }

abbrev pub at_pc : EngineView → ℕ → EngineView
at_pc m pc = record m { pc = pc }

-- a cell of the running function is among those that there are
abbrev pub HasCell : EngineView → ℕ → Type 0
HasCell m n = m.cell_base + n < length m.cells
