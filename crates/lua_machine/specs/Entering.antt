-- A function of Lua begins: its slots and cells are there, and so are its arguments.
use Rattle.std.specs.Prelude.{◌≡◌, ℕ, ◌+◌, ◌^◌, ◌<◌, ◌≤◌, List, [], ◌∷◌, ◌++◌, length, map}
use Rattle.lua_heap.specs.declared.entries.Function.{Function}
use Rattle.lua_heap.specs.declared.value.Value.{Value}
use Rattle.lua_heap.specs.Value.{value_view}
use Rattle.lua_heap.specs.Heap.{function_at}
use Rattle.lua_code.specs.Valid.{Leads, cells_at}
use Rattle.lua_code.specs.State.{put_values, put_all}
use Rattle.lua_code.specs.Frames.{extra_of}
use Rattle.lua_machine.specs.declared.arguments.Behind.{Behind}
use Rattle.lua_machine.specs.declared.frame.Wants.{Wants}
use Rattle.lua_machine.specs.View.{EngineView, cell_at, slots_view, proto_at}
use Rattle.lua_code.specs.View.{ProtoView}
use Rattle.lua_machine.specs.Frames.{pushed}
use Rattle.lua_machine.specs.declared.frame.Duty.{Duty}
use Rattle.lua_machine.specs.declared.frame.Role.TheVariants.{Serves}
use Rattle.lua_machine.specs.declared.frame.Frame.{Frame}
use Rattle.lua_machine.specs.Ready.{WantsFit, IsCode, AreFit, IsReady}
use Rattle.lua_machine.specs.Arguments.{args_at}

-- there are slots up to a place, and all is as it was
pub record HasGrown (end : ℕ) (old new : EngineView) : Type 0 where
  pub values : List Value
  pub is : new ≡ record old { values = values }
  pub long : end ≤ length values
  pub longer : length old.values ≤ length values
  pub same : slots_view old.heap.texts values ≡ slots_view old.heap.texts old.values

-- a function that the heap has made is one of a chunk's
pub record HasFunction (m : EngineView) (id : ℕ) : Type 0 where
  pub made : id < length m.heap.functions
  pub code : IsCode m.chunks (function_at m.heap id)

-- the code of a function
abbrev pub proto_for : EngineView → Function → ProtoView
proto_for m f = proto_at m.chunks f.code f.proto

-- the running function may wait: there is a next instruction, and a slot for what is wanted; so are the slots of the
-- arguments
pub record CanCall (wants : Wants) (first count : ℕ) (m : EngineView) : Type 0 where
  pub ready : IsReady m
  pub short : m.pc + 1 < 2 ^ 32
  pub leads : Leads m.proto (cells_at m.proto m.pc) (m.pc + 1)
  pub fits : WantsFit m.base (length m.values) wants
  pub slots : first + count ≤ length m.values

-- a function is at its first instruction
abbrev pub begun_at : EngineView → Function → (base cell_base : ℕ) → EngineView
begun_at m f base cell_base =
    record m {
      proto = proto_for m f;
      chunk = f.code;
      func = f.proto;
      pc = 0;
      base = base;
      cell_base = cell_base;
    }

-- where the cells of a function begin that is called
abbrev pub free_cells : EngineView → ℕ
free_cells m = m.cell_base + cells_at m.proto m.pc

-- the running function waits, and one of the library is to run on arguments, with slots and cells from two places on
abbrev pub called : Wants → (first : ℕ) → (args : List Value) → EngineView → EngineView
called wants first args m =
    record (pushed m wants) { args = args; base = first; cell_base = free_cells m }

-- a function may begin: there are slots for its arguments, and cells before its own
pub record CanBegin (first cell_base count : ℕ) (m : EngineView) : Type 0 where
  pub fit : AreFit m
  pub top : m.extra_base ≡ length m.extras
  pub slots : first + count ≤ length m.values
  pub cells : cell_base ≤ length m.cells

-- with other slots, cells and extra arguments, a function begins
abbrev pub begun_with : Function → (first cell_base : ℕ) → (values : List Value) → (cells : List ℕ) →
    (extra : List Value) → EngineView → EngineView
begun_with f first cell_base values cells extra m =
    begun_at (record m {
      values = values;
      cells = cells;
      extras = m.extras ++ extra;
    }) f first cell_base

-- a function began on its arguments
pub record HasBegun (f : Function) (first cell_base count : ℕ) (behind : Behind) (old new : EngineView) :
    Type 0 where
  pub values : List Value
  pub cells : List ℕ
  pub extra : List Value
  pub is : new ≡ begun_with f first cell_base values cells extra old
  pub slots_are :
      slots_view old.heap.texts values
      ≡ put_values (slots_view old.heap.texts old.values) first (proto_for old f).params
      (args_at old first count behind)
  pub cells_are : cell_at cells ≡ put_all (cell_at old.cells) cell_base f.cells
  pub extra_is :
      map (value_view old.heap.texts) extra
      ≡ extra_of (proto_for old f).varargs (proto_for old f).params (args_at old first count behind)
  pub room : first + (proto_for old f).size ≤ length values
  pub longer : length old.values ≤ length values
  pub height : cell_base + length f.cells ≤ length cells
  pub taller : length old.cells ≤ length cells

-- a function of the library waits, by its frame
abbrev pub serving_frame : Duty → EngineView → Frame
serving_frame duty m =
    record {
      chunk = m.chunk;
      func = m.func;
      pc = m.pc;
      base = m.base;
      cell_base = m.cell_base;
      extra_base = m.extra_base;
      role = Serves duty;
    }

abbrev pub pushed_duty : EngineView → Duty → EngineView
pushed_duty m duty =
    record m { frames = m.frames ++ serving_frame duty m ∷ []; extra_base = length m.extras }
