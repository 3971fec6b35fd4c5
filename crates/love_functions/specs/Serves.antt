-- What the machine of `lua_code` does with what a function of LÖVE comes to, and that it does so.
use Rattle.std.specs.Prelude.{◌≡◌, ℕ, List, map, true}
use Rattle.lua_tree.specs.Tree.{Bytes}
use Rattle.lua_meaning.specs.Native.{Native}
use Rattle.lua_meaning.specs.Value.{Value, str}
use Rattle.lua_meaning.specs.Message.{Reply}
use Rattle.lua_meaning.specs.World.{given}
use Rattle.lua_meaning.specs.Fault.{placed, fault_value}
use Rattle.lua_meaning.specs.Arguments.{Answer, answers, faults}
use Rattle.lua_meaning.specs.Calls.{caller}
use Rattle.lua_code.specs.State.{Registers, State, with_store, Frame, Errand, gives_values, Step}
use Rattle.lua_code.specs.State as state
use Rattle.lua_code.specs.Frames.{places, finish, raised}
use Rattle.lua_code.specs.Natives.{Program, File, serve, attend}
use Rattle.love_functions.specs.Asking.{Called, gives, refuses, asks, Files, is_here, part_of}
use Rattle.love_functions.specs.Replying.{reply_part}

-- the paths and the bytes of a program's files
abbrev pub path_of : File → Bytes × List ℕ
path_of file = (file.path, file.bytes)

abbrev pub paths_of : Program → Files
paths_of program = map path_of program.files

-- the values go to the frames that wait, an error has the place of the caller, and an ask waits for its reply
module _ (base cell_base : ℕ) (frames : List Frame) (r : Registers) (f : Native) (st : State) where
  abbrev pub after : Answer Called → Step
  after (answers (gives vs) s) = finish (given vs) frames r (with_store st s)
  after (answers (refuses text) s) =
      raised frames r (str (placed (caller (places frames)) text)) (with_store st s)
  after (answers (asks question errand) s) =
      state.asks question (record {
        errand = errand;
        base = base;
        cell_base = cell_base;
        frames = frames;
        registers = r;
        state = with_store st s;
      })
  after (faults e) = raised frames r (fault_value f (caller (places frames)) e) st

-- each of these functions is what the machine's library does
abbrev pub AllServe : Type 0
AllServe =
    (program : Program) (base cell_base : ℕ) (frames : List Frame) (r : Registers) (f : Native)
    (args : List Value) (st : State) → is_here f ≡ true →
    serve program f args base cell_base frames r st
    ≡ after base cell_base frames r f st
    (part_of (paths_of program) program.state f args st.store)

-- and so are the values of a reply
abbrev pub AllGive : Type 0
AllGive =
    (program : Program) (base cell_base : ℕ) (frames : List Frame) (r : Registers) (f : Native)
    (reply : Reply) (st : State) →
    attend program base cell_base frames r gives_values reply st
    ≡ after base cell_base frames r f st (reply_part reply st.store)
