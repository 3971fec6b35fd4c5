-- An engine that is ready for its next instruction: what the instruction names is there.
use Rattle.std.specs.Prelude.{◌≡◌, ℕ, ◌+◌, ◌^◌, ◌<◌, ◌≤◌, List, length, map, Some, slice_get, ⊤}
use Rattle.std.specs.List.{AllByRecursion}
use Rattle.lua_tree.specs.Tree.{Bytes}
use Rattle.lua_meaning.specs.Value as meant
use Rattle.lua_heap.specs.declared.entries.Function.{Function}
use Rattle.lua_heap.specs.Value.{value_view}
use Rattle.lua_code.specs.declared.instr.Instr.{Instr}
use Rattle.lua_code.specs.View.{ProtoView, constant_view}
use Rattle.lua_code.specs.Within.{slots_of, AreKnown}
use Rattle.lua_code.specs.Valid.{AreValid, Uses, Reaches, cells_at, cells_behind}
use Rattle.lua_machine.specs.declared.frame.Wants.{Wants}
use Rattle.lua_machine.specs.declared.frame.Wants.TheVariants.{ToSlot, TruthTo, UntruthTo, ToTail, Nothing}
use Rattle.lua_machine.specs.declared.frame.Role.{Role}
use Rattle.lua_machine.specs.declared.frame.Role.TheVariants.{Waits, Serves}
use Rattle.lua_machine.specs.declared.frame.Frame.{Frame}
use Rattle.lua_machine.specs.declared.chunk.Chunk.{Chunk}
use Rattle.lua_machine.specs.View.{EngineView, protos_at, proto_at}

-- a function of a chunk is at one of its instructions, and its slots and cells are among so many
pub record IsPlaced (chunks : List Chunk) (slots cells : ℕ) (chunk func pc base cell_base : ℕ) :
    Type 0 where
  pub known : func < length (protos_at chunks chunk)
  pub inside : pc < length (proto_at chunks chunk func).instrs
  pub room : base + (proto_at chunks chunk func).size ≤ slots
  pub height : cell_base + cells_at (proto_at chunks chunk func) pc ≤ cells

-- where a result goes is a slot that there is
abbrev pub WantsFit : (base count : ℕ) → Wants → Type 0
WantsFit base count (ToSlot n) = base + n < count
WantsFit base count (TruthTo n) = base + n < count
WantsFit base count (UntruthTo n) = base + n < count
WantsFit base count ToTail = ⊤
WantsFit base count Nothing = ⊤

-- so is a function of Lua that waits, and the slot for what it wants
pub record IsPaused (chunks : List Chunk) (slots cells : ℕ) (wanted : Wants) (f : Frame) : Type 0 where
  pub placed : IsPlaced chunks slots cells f.chunk f.func f.pc f.base f.cell_base
  pub wants : WantsFit f.base slots wanted

abbrev pub IsWaitingAs : Role → (chunks : List Chunk) → (slots cells : ℕ) → Frame → Type 0
IsWaitingAs (Waits wants) chunks slots cells f = IsPaused chunks slots cells wants f
IsWaitingAs (Serves duty) chunks slots cells f = (f.base ≤ slots) × (f.cell_base ≤ cells)

-- a frame may go on
abbrev pub IsWaiting : (chunks : List Chunk) → (slots cells : ℕ) → Frame → Type 0
IsWaiting chunks slots cells f = IsWaitingAs f.role chunks slots cells f

-- a function that the program made is one of a chunk's, with as many cells as that holds
pub record IsCode (chunks : List Chunk) (f : Function) : Type 0 where
  pub func : f.proto < length (protos_at chunks f.code)
  pub cells : length f.cells ≡ length (proto_at chunks f.code f.proto).captures

-- the constants of a function
abbrev pub constants_view : ProtoView → List meant.Value
constants_view p = map constant_view p.constants

-- a chunk's code is in order, and its constants are values
pub record IsLoaded (texts : List Bytes) (x : Chunk) : Type 0 where
  pub valid : AreValid x.code.now
  pub constants : map (map (value_view texts)) x.constants.items ≡ map constants_view x.code.now

-- all but the function that runs
pub record AreFit (m : EngineView) : Type 0 where
  pub frames : AllByRecursion (IsWaiting m.chunks (length m.values) (length m.cells)) m.frames
  pub functions : AllByRecursion (IsCode m.chunks) m.heap.functions
  pub chunks : AllByRecursion (IsLoaded m.heap.texts) m.chunks

-- a function of the library runs: it has slots and cells to give
pub record IsServing (m : EngineView) : Type 0 where
  pub fit : AreFit m
  pub slots : m.base ≤ length m.values
  pub cells : m.cell_base ≤ length m.cells

pub record IsReady (m : EngineView) : Type 0 where
  pub placed :
      IsPlaced m.chunks (length m.values) (length m.cells) m.chunk m.func m.pc m.base m.cell_base
  pub proto : m.proto ≡ proto_at m.chunks m.chunk m.func
  pub fit : AreFit m

-- an instruction is the next one: its slots, cells and constants are there, and it leads to places inside
pub record IsReadyFor (x : Instr) (m : EngineView) : Type 0 where
  pub ready : IsReady m
  pub next : slice_get m.proto.instrs m.pc ≡ Some x
  pub short : m.pc + 1 < 2 ^ 32
  pub bounded : length m.proto.instrs < 2 ^ 32
  pub slots : m.base + slots_of x ≤ length m.values
  pub cells : m.cell_base + cells_at m.proto m.pc ≤ length m.cells
  pub uses : Uses (protos_at m.chunks m.chunk) m.func (cells_at m.proto m.pc) x
  pub known : AreKnown (length m.proto.constants) x
  pub leads : Reaches m.proto (cells_behind (cells_at m.proto m.pc) x) m.pc x

-- what an instruction leaves that neither calls nor ends
pub record Stays (old new : EngineView) : Type 0 where
  pub chunks : new.chunks ≡ old.chunks
  pub proto : new.proto ≡ old.proto
  pub chunk : new.chunk ≡ old.chunk
  pub func : new.func ≡ old.func
  pub base : new.base ≡ old.base
  pub cell_base : new.cell_base ≡ old.cell_base
  pub frames : new.frames ≡ old.frames
  pub functions :
      AllByRecursion (IsCode old.chunks) old.heap.functions →
      AllByRecursion (IsCode old.chunks) new.heap.functions
  pub slots : length old.values ≤ length new.values
  pub cells : length old.cells ≤ length new.cells
