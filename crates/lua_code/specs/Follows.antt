-- The machine follows the meaning: what it says, and how a machine's state is that of a World.
use Rattle.std.specs.Prelude.{ℕ, ◌≡◌, List, [], ◌∷◌, ◌++◌, map, Some}
use Rattle.lua_tree.specs.Tree.{Bytes, Block}
use Rattle.lua_meaning.specs.Value.{Value, nil}
use Rattle.lua_meaning.specs.Store.{Store, Closure}
use Rattle.lua_meaning.specs.Packing.{unpack_all}
use Rattle.lua_meaning.specs.World.{World, Ends, gives, fails, out_of_steps, needs}
use Rattle.lua_meaning.specs.Locals.{Flow, values_of}
use Rattle.lua_meaning.specs.Calls as calls
use Rattle.lua_meaning.specs.Control as control
use Rattle.lua_meaning.specs.Control.{Game}
use Rattle.lua_meaning.specs.Run.{Start, first_store, first_world, meant}
use Rattle.lua_code.specs.Code.{func_code, chunk_code}
use Rattle.lua_code.specs.State.{Registers, Made, State, Config, End, ended, failed, no_ticks, needed}
use Rattle.lua_code.specs.Frames.{Callee, runs, built_in, begun}
use Rattle.lua_code.specs.Natives.{FileCode, ready, faulty, not_lua, File, Program}
use Rattle.lua_code.specs.Act.{exec}

-- ---- what stands for what

-- the cells of names, the first one last
abbrev pub cells_of : List (Bytes × ℕ) → List ℕ
cells_of [] = []
cells_of (entry ∷ entries) = cells_of entries ++ entry.1 ∷ []

abbrev pub names_of : List (Bytes × ℕ) → List Bytes
names_of [] = []
names_of (entry ∷ entries) = entry.0 ∷ names_of entries

-- the code of a function, and its cells
abbrev pub made_of : Closure → Made
made_of closure = record {
  code = func_code closure.node closure.file (names_of closure.cells);
  cells = cells_of closure.cells;
}

abbrev pub state_of : World → State
state_of w =
    record {
      store = w.store;
      functions = map made_of w.functions;
      modules = w.modules;
      output = w.output;
      ends = w.ends;
      ticks = w.ticks;
      asks = w.asks;
    }

abbrev pub file_code : (path : Bytes) → control.Code → FileCode
file_code path (control.ready b) = ready (chunk_code path b)
file_code path (control.faulty text) = faulty text
file_code path control.not_lua = not_lua

abbrev pub file_of : control.File → File
file_of file =
    record { path = file.path; bytes = file.bytes; code = file_code file.path file.code }

abbrev pub program_of : Game → Program
program_of game = record { files = map file_of game.files; state = game.state }

abbrev pub callee_of : calls.Callee → Callee
callee_of (calls.made closure) = runs (made_of closure).code (made_of closure).cells
callee_of (calls.library f) = built_in f
callee_of (calls.chunk file b) = runs (chunk_code file b) []

abbrev pub end_of : Ends Flow → End
end_of (gives flow w) = ended (values_of flow) (state_of w)
end_of (fails v w) = failed v (state_of w)
end_of (out_of_steps w) = no_ticks (state_of w)
end_of (needs ask w) = needed ask (state_of w)

-- ---- a run

abbrev pub no_registers : Registers
no_registers = record { slots = λ n. nil; cells = λ n. 0; tail = [] }

-- a machine at the beginning of a state's main function
abbrev pub first_config : Start → Block → Config
first_config start b =
    let args : List Value × Store = unpack_all start.args (first_store start.game.state) in
    begun (runs (chunk_code start.file b) []) args.0 [] 0 0 no_registers
    (state_of (first_world start args.1))

-- The code of a main function comes to the end that the function means, with the replies that there are.
abbrev pub Follows : Type 0
Follows =
    (start : Start) (b : Block) →
    (n : ℕ) × (exec (program_of start.game) n (first_config start b) start.replies
    ≡ Some (end_of (meant start b)))
