-- A state's machine as contracts see it, and what its answers say of the run that it is in.
use Rattle.std.specs.Prelude.{◌≡◌, ℕ, List, [], ◌∷◌, ◌++◌, length, map, Option, Some, None, ◌⊎◌, Contains}
use Rattle.love_base.specs.Prefix.{IsPrefix}
use Rattle.lua_tree.specs.Tree.{Block}
use Rattle.variant.specs.declared.message.Variant.{Variant}
use Rattle.variant.specs.declared.reply.Reply as variant_reply
use Rattle.variant.specs.declared.end_kind.EndKind.{EndKind}
use Rattle.variant.specs.declared.end_kind.EndKind.TheVariants.{Done, Error, OutOfSteps, Stopped, Memory}
use Rattle.lua_meaning.specs.Message.{Ask, Reply}
use Rattle.lua_meaning.specs.MessageView.{message_view, ask_view, reply_view}
use Rattle.lua_meaning.specs.Run as run
use Rattle.lua_meaning.specs.Run.{Start, Run, run_code, done, failed, no_steps, waits as waits_for}
use Rattle.lua_meaning.specs.Control.{ready}
use Rattle.lua_code.specs.View.{ProtoView}
use Rattle.lua_code.specs.Code.{chunk_code}
use Rattle.lua_code.specs.Trees.{chunk_of}
use Rattle.lua_code.specs.State as machine
use Rattle.lua_code.specs.Natives as natives
use Rattle.lua_code.specs.Follows.{program_of}
use Rattle.lua_code.specs.Held.{program_view}
use Rattle.lua_code.specs.Talks.{Reached, fed}
use Rattle.lua_code.specs.Growing.{Past, IsWhole}
use Rattle.lua_code.specs.declared.program.Program.{Program}
use Rattle.lua_machine.specs.Standing.{Stand, fresh, waits, over, FitsAt, stand_of}
use Rattle.lua_machine.specs.declared.standing.Standing.{Standing}
use Rattle.lua_machine.specs.View.{EngineView}
use Rattle.lua_machine.specs.Session.{point_of}
use Rattle.lua_machine.specs.declared.machine.Step.{Step}
use Rattle.lua_machine.specs.declared.machine.Step.TheVariants as steps
pub use Rattle.lua_code.specs.Growing.{Past}
pub use Rattle.lua_machine.specs.Standing.{Stand, fresh, waits, over}

-- a machine: the program that it runs as the state of a number, its engine and where that stands, and what was printed.
-- Callers see of it what the words below say, and the output.
pub record MachineView : Type 0 where
  pub program : Program
  pub state : ℕ
  pub engine : EngineView
  pub standing : Standing
  pub output : List ℕ

-- its program as the definitions have it
abbrev pub program_in : MachineView → natives.Program
program_in m = program_view m.program m.state

-- where the definitions' machine is with a past
abbrev pub point_in : MachineView → Past → machine.Step
point_in m past = point_of m.standing m.engine past

-- how many cells were made
abbrev pub cells_in : MachineView → ℕ
cells_in m = length m.engine.heap.cells

-- how it stands
abbrev pub stand_at : MachineView → Stand
stand_at m = stand_of m.standing

-- a start is one on this program, with this main function, these arguments, ticks and state
pub record IsStart (program : Program) (protos : List ProtoView) (values : List Variant) (steps state : ℕ)
    (start : Start) (b : Block) : Type 0 where
  pub game : program_of start.game ≡ program_view program state
  pub code : chunk_code start.file b ≡ chunk_of protos
  pub args : start.args ≡ map message_view values
  pub ticks : start.ticks ≡ steps

-- what was done, with these asks and this output
abbrev pub past_with : List Ask → (output ends : List ℕ) → Past
past_with asks output ends = record { asks = asks; output = output; ends = ends }

-- The run of a start, which made these asks and was told these replies, is where the machine is; and the output ends
-- where the last print did.
pub record IsIn (start : Start) (b : Block) (asks : List Ask) (replies : List Reply) (m : MachineView) :
    Type 0 where
  pub game : program_of start.game ≡ program_in m
  pub ends : List ℕ
  pub whole : IsWhole (past_with asks m.output ends)
  pub reached : Reached start b replies (point_in m (past_with asks m.output ends))

-- a run shows this much
pub record Shows (made : List Ask) (m : MachineView) (comes : run.End) (r : Run) : Type 0 where
  pub asks : r.asks ≡ made
  pub output : r.output ≡ m.output
  pub end : r.end ≡ comes
  pub cells : r.cells ≡ cells_in m

-- want of memory cuts a run: its asks begin with these, and its output with this one, which ends with a whole
-- print
pub record IsCut (made : List Ask) (m : MachineView) (r : Run) : Type 0 where
  pub asks : IsPrefix made r.asks
  pub output : IsPrefix m.output r.output
  pub whole : (m.output ≡ []) ⊎ Contains r.ends (length m.output)

-- what an end says of a run; a machine is never stopped
abbrev pub Ends : EndKind → List Ask → MachineView → Run → Type 0
Ends (Done n) asks m r = Shows asks m (done n) r
Ends (Error text) asks m r = Shows asks m (failed text) r
Ends OutOfSteps asks m r = Shows asks m no_steps r
Ends Stopped asks m r = ⊥
Ends Memory asks m r = IsCut asks m r

-- what a machine answers says of the run that it is in
abbrev pub Says : Step → Start → Block → List Ask → List Reply → MachineView → Type 0
Says (steps.Ask a) start b asks replies m =
    IsIn start b asks replies m
    × Shows asks m (waits_for (ask_view a)) (run_code (fed start replies) (ready b))
Says (steps.Ended end) start b asks replies m =
    (more : List Reply) → Ends end asks m (run_code (fed start (replies ++ more)) (ready b))

-- a machine's asks and replies once it is given one more reply
abbrev pub asked_at : Stand → List Ask → List Ask
asked_at fresh asks = asks
asked_at (waits a) asks = asks ++ ask_view a ∷ []
asked_at over asks = asks

abbrev pub asked : MachineView → List Ask → List Ask
asked m asks = asked_at (stand_at m) asks

abbrev pub told : Option variant_reply.Reply → List Reply → List Reply
told None replies = replies
told (Some reply) replies = replies ++ reply_view reply ∷ []

-- a machine that wasn't run yet expects no reply; one that waits expects a reply that fits its ask
abbrev pub Expects : Option variant_reply.Reply → MachineView → Type 0
Expects reply m = FitsAt (stand_at m) reply

-- nothing was run yet
pub record IsFresh (m : MachineView) : Type 0 where
  pub stand : stand_at m ≡ fresh
  pub output : m.output ≡ []

-- how a machine stands after an answer
abbrev pub stand_after : Step → Stand
stand_after (steps.Ask a) = waits a
stand_after (steps.Ended end) = over
