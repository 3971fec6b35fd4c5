-- A state's run: what it holds at its start, and what its asks, its output and its end are.
use Rattle.std.specs.Prelude.{ℕ, suc, ℤ, List, [], ◌∷◌, ◌++◌, length, map, Option, Some, None, if◌then◌else◌, nat_eq, codes}
use Rattle.std.specs.Fmt.{signed_decimal}
use Rattle.lua_table.specs.Table.{Places}
use Rattle.lua_tree.specs.Tree.{Bytes, Block}
use Rattle.lua_meaning.specs.Native.{Shelf, globals, string_table, table_table, math_table, love_thread, love_data, love_filesystem, love_event, name, on_shelf}
use Rattle.lua_meaning.specs.Value.{Value, num, str, table, native, first}
use Rattle.lua_meaning.specs.Text.{type_name}
use Rattle.lua_meaning.specs.Store.{Store, Table, globals_place, string_place, table_place, math_place, love_place, love_thread_place, love_data_place, love_filesystem_place, love_event_place}
use Rattle.lua_meaning.specs.Message.{Message, Ask, Reply}
use Rattle.lua_meaning.specs.Packing.{unpack_all}
use Rattle.lua_meaning.specs.World.{World, Ends, gives, fails, out_of_steps, needs}
use Rattle.lua_meaning.specs.Locals.{Flow, values_of}
use Rattle.lua_meaning.specs.Calls.{chunk, invoke}
use Rattle.lua_meaning.specs.Control.{Game, Code, ready, faulty, not_lua}
use Rattle.lua_meaning.specs.Running.{within}

-- ---- a state's start

-- a name with a value, as a place of a table
abbrev pub entry : Bytes → Value → Value × Option Value
entry key v = (str key, Some v)

-- the functions of a shelf as places of a table
abbrev pub functions : Shelf → Places Value Value
functions shelf = map (λ f. entry (name f) (native f)) (on_shelf shelf)

abbrev pub table_of : Places Value Value → Table
table_of places = record { places = places; meta = None }

-- the globals: the functions, then the tables and `_G` and `_VERSION`
abbrev pub global_places : Places Value Value
global_places =
    functions globals
    ++ (entry (codes "_G") (table globals_place) ∷ entry (codes "_VERSION") (str (codes "Lua 5.1"))
    ∷ entry (codes "string") (table string_place) ∷ entry (codes "table") (table table_place)
    ∷ entry (codes "math") (table math_place) ∷ entry (codes "love") (table love_place) ∷ [])

-- the modules of LÖVE that are fields of `love` from the start: `event` in state 0 alone
abbrev pub love_places : (state : ℕ) → Places Value Value
love_places state =
    entry (codes "thread") (table love_thread_place) ∷ entry (codes "data") (table love_data_place)
    ∷ entry (codes "filesystem") (table love_filesystem_place)
    ∷ (if nat_eq state 0 then entry (codes "event") (table love_event_place) ∷ [] else [])

-- the tables that each state has, in the order of their places
abbrev pub first_tables : (state : ℕ) → List Table
first_tables state =
    table_of global_places ∷ table_of (functions string_table) ∷ table_of (functions table_table)
    ∷ table_of (functions math_table) ∷ table_of (love_places state) ∷ table_of
    (functions love_thread)
    ∷ table_of (functions love_data) ∷ table_of (functions love_filesystem) ∷ table_of
    (functions love_event)
    ∷ table_of (entry (codes "__index") (table string_place) ∷ []) ∷ []

abbrev pub first_store : (state : ℕ) → Store
first_store state = record {
  tables =
      first_tables state;
  cells = [];
  contents = [];
}

-- ---- a state's run

-- what a state is given: the game, the name and the code of its main function, the arguments, ticks and replies
pub record Start : Type 0 where
  pub game : Game
  pub file : Bytes
  pub code : Code
  pub args : List Message
  pub ticks : ℕ
  pub replies : List Reply

-- its world at its start, once it holds a store
abbrev pub first_world : Start → Store → World
first_world start s =
    record {
      store = s;
      functions = [];
      modules =
          [];
      output = [];
      ends = [];
      ticks = start.ticks;
      asks = [];
      replies = start.replies;
    }

-- what a block means as the main function of a state; it takes no tick itself
abbrev pub meant : Start → Block → Ends Flow
meant start b =
    let args : List Value × Store = unpack_all start.args (first_store start.game.state) in
    within start.game (suc start.ticks) (invoke (chunk start.file b) args.0 [])
    (first_world start args.1)

-- how a run stands at last: it is done, with a number where that is the first value returned; it failed with a text; it
-- is out of steps; or it needs a reply
pub data End : Type 0 where
  done : Option ℤ → End
  failed : (text : Bytes) → End
  no_steps : End
  waits : Ask → End

-- a run: the asks that were answered, the output, its length after each print, how the run stands at last, and how many
-- cells were made
pub record Run : Type 0 where
  pub asks : List Ask
  pub output : List ℕ
  pub ends : List ℕ
  pub end : End
  pub cells : ℕ
  pub ticks : ℕ

abbrev pub done_value : Value → Option ℤ
done_value (num n) = Some n
done_value v = None

-- the text of an error's value
abbrev pub error_text : Value → Bytes
error_text (str text) = text
error_text (num n) = signed_decimal n
error_text v = codes "(error object is a " ++ (type_name v ++ codes " value)")

abbrev pub run_of : End → World → Run
run_of end w =
    record {
      asks = w.asks;
      output =
          w.output;
      ends = w.ends;
      end = end;
      cells = length w.store.cells;
      ticks = w.ticks;
    }

abbrev pub ended : Ends Flow → Run
ended (gives flow w) = run_of (done (done_value (first (values_of flow)))) w
ended (fails v w) = run_of (failed (error_text v)) w
ended (out_of_steps w) = run_of no_steps w
ended (needs ask w) = run_of (waits ask) w

abbrev pub failed_run : Start → Bytes → Run
failed_run start text =
    record { asks = []; output = []; ends = []; end = failed text; cells = 0; ticks = start.ticks }

abbrev pub run_code : Start → Code → Run
run_code start (ready b) = ended (meant start b)
run_code start (faulty text) = failed_run start text
run_code start not_lua = failed_run start (codes "no such file: " ++ start.file)

-- a state's run on its replies
abbrev pub run : Start → Run
run start = run_code start start.code
