-- What rows of programs claim of the machine.
use Rattle.std.specs.Prelude.{ℕ, ◌≡◌, length, Option, Some, None, option_map}
use Rattle.lua_meaning.specs.Value.{first}
use Rattle.lua_meaning.specs.Control.{Code, ready}
use Rattle.lua_meaning.specs.Run as meaning
use Rattle.lua_meaning.specs.Run.{Start, Run, done_value, error_text, failed_run, run_code}
use Rattle.lua_code.specs.State.{State, End, ended, failed, no_ticks, needed, stuck}
use Rattle.lua_code.specs.Act.{exec}
use Rattle.lua_code.specs.Follows.{program_of, first_config}

-- how the meaning tells of a run that ends so
abbrev pub told : meaning.End → State → Option Run
told end st = Some (record {
  asks = st.asks;
  output = st.output;
  ends = st.ends;
  end = end;
  cells = length st.store.cells;
  ticks = st.ticks;
})

abbrev pub run_of : Option End → Option Run
run_of None = None
run_of (Some (ended vs st)) = told (meaning.done (done_value (first vs))) st
run_of (Some (failed v st)) = told (meaning.failed (error_text v)) st
run_of (Some (no_ticks st)) = told meaning.no_steps st
run_of (Some (needed ask st)) = told (meaning.waits ask) st
run_of (Some stuck) = None

-- a machine's run in so many steps
abbrev pub ran : ℕ → Start → Code → Option Run
ran n start (ready b) =
    run_of (exec (program_of start.game) n (first_config start b) start.replies)
ran n start code = Some (run_code start code)

-- a run from a start shows this
abbrev pub Comes : {A : Type 0} → (Run → A) → Start → A → Type 0
Comes shown start wanted = option_map shown (ran 100000 start start.code) ≡ Some wanted
