-- The run of a game's `main.lua`, and what a state that ran alone shows of it.
use Rattle.std.specs.Prelude.{◌≡◌, ◌≢◌, ℕ, ◌-◌, ◌≤◌, false, List, [], ◌∷◌, ◌++◌, length, map, slice_index_or, Option, Some, None, ◌⊎◌, All, ⊤, codes}
use Rattle.std.specs.List.{AllZip, Contains}
use Rattle.std.specs.Option.{option_map}
use Rattle.love_base.specs.Data.{Contents}
use Rattle.love_base.specs.Prefix.{IsPrefix}
use Rattle.lua_tree.specs.Tree.{Bytes}
use Rattle.variant.specs.declared.ask.Ask.{Ask}
use Rattle.variant.specs.declared.action.Action.{Action}
use Rattle.variant.specs.declared.action.Deed.TheVariants.{Asked}
use Rattle.variant.specs.declared.source.Source.TheVariants as source
use Rattle.variant.specs.declared.end_kind.EndKind.{EndKind}
use Rattle.variant.specs.declared.end_kind.EndKind.TheVariants.{Done, Error, OutOfSteps, Stopped, Memory}
use Rattle.channel_core.specs.declared.entry.Entry.{Entry}
use Rattle.channel_core.specs.History.{holder}
use Rattle.thread_board.specs.Register.{register}
use Rattle.lua_meaning.specs.Message.{Reply}
use Rattle.lua_meaning.specs.MessageView.{ask_view, reply_view}
use Rattle.lua_meaning.specs.Control as meant
use Rattle.lua_meaning.specs.Control.{file_at}
use Rattle.lua_meaning.specs.Run.{Start, Run, End, done as is_done, failed, no_steps, waits, run}
use Rattle.lua_code.specs.declared.program.File as declared
use Rattle.lua_code.specs.Talks.{fed}
use Rattle.lua_state.specs.Programs.{IsCodeOf, given, main_name}
pub use Rattle.lua_state.specs.Programs.{main_name}
use Rattle.lua_state.specs.Solo.{channel_after, board_after, done}
use Rattle.lua_state.specs.Cuts.{asked_in, deeds_of}
use Rattle.lua_state.specs.declared.record.StateRecord.{StateRecord}

-- ---- the game that files mean

-- a file of a game is what its name and its bytes mean
pub record IsMeant (file : Bytes × Contents) (means : meant.File) : Type 0 where
  pub path : means.path ≡ file.0
  pub bytes : means.bytes ≡ file.1.bytes
  pub code : IsCodeOf file.0 file.1.bytes means.code

-- state 0's start in the game of these files: it runs `main.lua` on no arguments
pub record IsMainStart (folder : List (Bytes × Contents)) (steps : ℕ) (start : Start) : Type 0 where
  pub files : AllZip IsMeant folder start.game.files
  pub state : start.game.state ≡ 0
  pub file : start.file ≡ main_name
  pub code : option_map (λ file. file.code) (file_at main_name start.game.files) ≡ Some start.code
  pub args : start.args ≡ []
  pub ticks : start.ticks ≡ steps

-- a game has a `main.lua`
abbrev pub HasMain : List (Bytes × Contents) → Type 0
HasMain [] = ⊥
HasMain (file ∷ files) = (file.0 ≡ main_name) ⊎ HasMain files

-- ---- how a state ended

-- only a state that was cut short holds any
abbrev pub HoldsAt : EndKind → List ℕ → Type 0
HoldsAt (Done n) held = held ≡ []
HoldsAt (Error text) held = held ≡ []
HoldsAt OutOfSteps held = ⊤
HoldsAt Stopped held = ⊤
HoldsAt Memory held = ⊤

-- ---- the run under the replies of actions

-- the replies that actions had
abbrev pub replies_of : List Action → List Reply
replies_of actions = map (λ a. reply_view a.reply) actions

abbrev pub run_on : Start → List Action → Run
run_on start asked = run (fed start (replies_of asked))

-- a run makes these asks and no other ones, and this output, and comes to this end
pub record Shows (made : List Ask) (out : List ℕ) (last : End) (r : Run) : Type 0 where
  pub asks : r.asks ≡ map ask_view made
  pub output : r.output ≡ out
  pub end : r.end ≡ last

-- want of memory cut a run: its asks begin with these, and its output with this one, in whole prints
pub record IsCut (made : List Ask) (out : List ℕ) (r : Run) : Type 0 where
  pub asks : IsPrefix (map ask_view made) r.asks
  pub output : IsPrefix out r.output
  pub whole : (out ≡ r.output) ⊎ ((out ≡ []) ⊎ Contains r.ends (length out))

-- how a state ended, and which ask it waits by, are what its run shows. It waits, and is told as stopped,
-- exactly where its run makes an ask that has no answer
abbrev pub Ends : EndKind → Option Ask → List Action → List Ask → List ℕ → Run → Type 0
Ends (Done n) None asked asks out r = Shows asks out (is_done n) r
Ends (Error text) None asked asks out r = Shows asks out (failed text) r
Ends OutOfSteps None asked asks out r = Shows asks out no_steps r
Ends Stopped (Some ask) asked asks out r = Shows asks out (waits (ask_view ask)) r × (done asked (Asked ask) ≡ None)
Ends Memory None asked asks out r = IsCut asks out r
Ends end waiting asked asks out r = ⊥

-- what a state printed, and how it ended, are its run's, under the replies that its actions had
pub record Ran (start : Start) (actions : List Action) (out : List ℕ) (end : EndKind) (waiting : Option Ask) : Type 0 where
  pub asks : List Ask
  pub asked : deeds_of (asked_in actions) ≡ map Asked asks
  pub ends : Ends end waiting (asked_in actions) asks out (run_on start (asked_in actions))
  -- all that was printed before the last ask
  pub printed : (before : List Action) (a : Action) → asked_in actions ≡ before ++ a ∷ [] → IsPrefix (run_on start before).output out

-- ---- what is left

-- the record of a game's state 0, which was never stopped by another one and told nobody of a failure
pub record IsMainRecord (r : StateRecord) : Type 0 where
  pub state : r.state ≡ 0
  pub thread : r.thread ≡ 0
  pub source : r.source ≡ source.File main_name
  pub args : r.args ≡ []
  pub stop : r.stop ≡ None
  pub told : r.told ≡ false

-- the history of the Channel of a number, from 1; none where there is no such Channel
abbrev pub history_at : List (List Entry) → ℕ → List Entry
history_at channels number = slice_index_or channels (number - 1) []

-- these are the Channels that were made, each with its history; there is no history of another one
pub record AreChannels (actions : List Action) (channels : List (List Entry)) : Type 0 where
  pub made : length channels ≡ (register (board_after actions)).channels
  pub each : (number : ℕ) → 1 ≤ number → number ≤ 1024 → history_at channels number ≡ (channel_after actions number).entries

-- no Channel is in a section
abbrev pub AreFree : List (List Entry) → Type 0
AreFree channels = All (λ h. holder h ≡ None) channels
