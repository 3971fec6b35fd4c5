-- What an engine has, as the machine of the definitions.
use Rattle.std.specs.Prelude.{ℕ, suc, false, ◌-◌, List, [], ◌∷◌, length, map, take, drop, reverse, Option, Some, None, slice_get, unwrap_or}
use Rattle.lua_tree.specs.Tree.{Bytes}
use Rattle.lua_meaning.specs.Value as meant
use Rattle.lua_meaning.specs.Store.{Store}
use Rattle.lua_machine.specs.Past.{Past}
use Rattle.lua_meaning.specs.Fault.{Place}
use Rattle.lua_meaning.specs.World as world
use Rattle.lua_meaning.specs.Control.{value_text}
use Rattle.lua_heap.specs.declared.entries.Function.{Function}
use Rattle.lua_heap.specs.declared.value.Value.{Value}
use Rattle.lua_heap.specs.declared.value.Value.TheVariants.{Nil, Str}
use Rattle.lua_heap.specs.Value.{value_view}
use Rattle.lua_heap.specs.Heap.{HeapView, store_of}
use Rattle.lua_heap.specs.declared.native.Native.{Native}
use Rattle.lua_heap.specs.Native.{native_view}
use Rattle.lua_code.specs.Instr as i
use Rattle.lua_code.specs.declared.instr.Site.{Site}
use Rattle.lua_code.specs.View.{ProtoView, code_at}
use Rattle.lua_code.specs.State as s
use Rattle.lua_code.specs.State.{Registers, Made, State, Running, Config, waits, lua, library}
use Rattle.lua_operators.specs.declared.events.Events.{Events}
use Rattle.lua_machine.specs.declared.frame.Wants.{Wants}
use Rattle.lua_machine.specs.declared.frame.Wants.TheVariants.{ToSlot, TruthTo, UntruthTo, ToTail, Nothing}
use Rattle.lua_machine.specs.declared.frame.Duty.{Duty}
use Rattle.lua_machine.specs.declared.frame.Duty.TheVariants.{Tries, Converts, Prints, Requires, Guards}
use Rattle.lua_machine.specs.declared.frame.Role.{Role}
use Rattle.lua_machine.specs.declared.frame.Role.TheVariants.{Waits, Serves}
use Rattle.lua_machine.specs.declared.frame.Frame.{Frame}
use Rattle.lua_machine.specs.declared.module.Module.{Module}
use Rattle.lua_machine.specs.declared.chunk.Chunk.{Chunk}

pub record EngineView : Type 0 where
  pub heap : HeapView
  pub events : Events
  pub chunks : List Chunk
  pub proto : ProtoView
  pub values : List Value
  pub cells : List ℕ
  pub tail : List Value
  pub extras : List Value
  pub args : List Value
  pub frames : List Frame
  pub modules : List Module
  pub chunk : ℕ
  pub func : ℕ
  pub pc : ℕ
  pub base : ℕ
  pub cell_base : ℕ
  pub extra_base : ℕ
  pub ticks : ℕ

-- ---- registers

abbrev pub value_at : List Value → ℕ → Value
value_at values n = unwrap_or (slice_get values n) Nil

abbrev pub cell_at : List ℕ → ℕ → ℕ
cell_at cells n = unwrap_or (slice_get cells n) 0

-- what was never set is nil
abbrev pub slots_view : List Bytes → List Value → ℕ → meant.Value
slots_view texts values n = value_view texts (value_at values n)

abbrev pub registers_in : List Bytes → EngineView → Registers
registers_in texts m =
    record {
      slots = slots_view texts m.values;
      cells = cell_at m.cells;
      tail = map (value_view texts) m.tail;
    }

abbrev pub registers_of : EngineView → Registers
registers_of m = registers_in m.heap.texts m

-- ---- code

-- the functions of a chunk
abbrev pub protos_of : Option Chunk → List ProtoView
protos_of None = []
protos_of (Some x) = x.code.now

abbrev pub protos_at : List Chunk → ℕ → List ProtoView
protos_at chunks n = protos_of (slice_get chunks n)

abbrev pub no_proto : ProtoView
no_proto =
    record {
      file = [];
      params = 0;
      varargs = false;
      captures = [];
      size = 0;
      instrs = [];
      sites = [];
      constants = [];
    }

-- a function of a chunk
abbrev pub proto_at : List Chunk → (chunk func : ℕ) → ProtoView
proto_at chunks chunk func = unwrap_or (slice_get (protos_at chunks chunk) func) no_proto

abbrev pub code_of : List Chunk → (chunk func : ℕ) → i.Proto
code_of chunks chunk func = code_at (protos_at chunks chunk) func

-- ---- frames

abbrev pub wants_view : Wants → i.Wants
wants_view (ToSlot n) = i.to_slot n
wants_view (TruthTo n) = i.truth_to n
wants_view (UntruthTo n) = i.untruth_to n
wants_view ToTail = i.to_tail
wants_view Nothing = i.nothing

-- the line of the call that a frame waits for
abbrev pub line_at : Option Site → ℕ
line_at None = 0
line_at (Some s) = s.line

abbrev pub line_of : ProtoView → (pc : ℕ) → ℕ
line_of p pc = line_at (slice_get p.sites (pc - 1))

-- the extra arguments of a function, or what one of the library keeps, from one place up to another
abbrev pub kept_in : List Bytes → (extras : List Value) → (first top : ℕ) → List meant.Value
kept_in texts extras first top = map (value_view texts) (drop first (take top extras))

-- a function whose extra arguments go up to a place
abbrev pub running : List Bytes → EngineView → (chunk func pc base cell_base extra_base top : ℕ) →
    Running
running texts m chunk func pc base cell_base extra_base top =
    record {
      code = code_of m.chunks chunk func;
      pc = pc;
      base = base;
      cell_base = cell_base;
      extra = kept_in texts m.extras extra_base top;
    }

abbrev pub place_of : List Chunk → Frame → Place
place_of chunks f =
    record {
      file = i.file_of (code_of chunks f.chunk f.func);
      line = line_of (proto_at chunks f.chunk f.func) f.pc;
    }

-- the text of a value that has one of its own, whatever the store holds; of Data that text is kept
abbrev pub text_of : meant.Value → Bytes
text_of v = value_text (record { tables = []; cells = []; contents = [] }) v

-- what one of the library does with results, by what it keeps
abbrev pub duty_view : Duty → (kept : List meant.Value) → s.Duty
duty_view Tries kept = s.tries
duty_view Converts kept = s.converts
duty_view (Prints n) kept = s.prints (map text_of (take n kept)) (drop (suc n) kept)
duty_view Requires kept = s.requires (text_of (meant.first kept))
duty_view (Guards c) kept = s.guards c

abbrev pub frame_as : Role → List Chunk → (kept : List meant.Value) → Frame → s.Frame
frame_as (Waits wants) chunks kept f =
    waits (record {
      code = code_of chunks f.chunk f.func;
      pc = f.pc;
      base = f.base;
      cell_base = f.cell_base;
      extra = kept;
    }) (wants_view wants) (Some (place_of chunks f))
frame_as (Serves duty) chunks kept f = s.serves (duty_view duty kept) f.base f.cell_base

abbrev pub frame_in : List Chunk → (kept : List meant.Value) → Frame → s.Frame
frame_in chunks kept f = frame_as f.role chunks kept f

-- the frames from the top one on, whose extra arguments go up to a place
abbrev pub frames_below : List Bytes → List Chunk → (extras : List Value) → (top : ℕ) → List Frame →
    List s.Frame
frames_below texts chunks extras top [] = []
frames_below texts chunks extras top (f ∷ frames) =
    frame_in chunks (kept_in texts extras f.extra_base top) f
    ∷ frames_below texts chunks extras f.extra_base frames

abbrev pub frames_in : List Bytes → EngineView → List s.Frame
frames_in texts m = frames_below texts m.chunks m.extras m.extra_base (reverse m.frames)

abbrev pub frames_of : EngineView → List s.Frame
frames_of m = frames_in m.heap.texts m

abbrev pub run_in : List Bytes → EngineView → Running
run_in texts m =
    running texts m m.chunk m.func m.pc m.base m.cell_base m.extra_base (length m.extras)

abbrev pub run_of : EngineView → Running
run_of m = run_in m.heap.texts m

-- ---- the whole

abbrev pub made_view : List Chunk → Function → Made
made_view chunks f = record { code = code_of chunks f.code f.proto; cells = f.cells }

-- a module, by its name
abbrev pub value_or : List Bytes → Option Value → world.Module
value_or texts None = world.begun
value_or texts (Some v) = world.loaded (value_view texts v)

abbrev pub module_view : List Bytes → Module → Bytes × world.Module
module_view texts x = (text_of (value_view texts (Str x.name)), value_or texts x.value)

-- the last one first
abbrev pub modules_in : List Bytes → EngineView → List (Bytes × world.Module)
modules_in texts m = map (module_view texts) (reverse m.modules)

abbrev pub state_in : List Bytes → List Function → Store → Past → EngineView → State
state_in texts functions store past m =
    record {
      store = store;
      functions = map (made_view m.chunks) functions;
      modules = modules_in texts m;
      output = past.output;
      ends = past.ends;
      ticks = m.ticks;
      asks = past.asks;
    }

abbrev pub state_of : Past → EngineView → State
state_of past m = state_in m.heap.texts m.heap.functions (store_of m.heap) past m

-- by what the heap's strings, functions and store are
abbrev pub config_in : List Bytes → List Function → Store → Past → EngineView → Config
config_in texts functions store past m =
    record {
      active = lua (run_in texts m);
      frames = frames_in texts m;
      registers = registers_in texts m;
      state = state_in texts functions store past m;
    }

abbrev pub config_of : Past → EngineView → Config
config_of past m = config_in m.heap.texts m.heap.functions (store_of m.heap) past m

-- a function of the library runs, on the arguments that were put together
abbrev pub serving_config : Native → Past → EngineView → Config
serving_config f past m =
    record {
      active = library (native_view f) (map (value_view m.heap.texts) m.args) m.base m.cell_base;
      frames = frames_of m;
      registers = registers_of m;
      state = state_of past m;
    }
