-- What a run says that was played among a state's own objects.
use Rattle.std.specs.Prelude.{◌≡◌, ℕ, ◌+◌, ◌*◌, ◌≤◌, List, [], ◌∷◌, ◌++◌, length, map, Option, Some, None, true, ⊤}
use Rattle.love_base.specs.Prefix.{IsPrefix}
use Rattle.lua_tree.specs.Tree.{Block}
use Rattle.variant.specs.declared.ask.Ask as variant_ask
use Rattle.variant.specs.declared.reply.Reply as variant_reply
use Rattle.variant.specs.declared.action.Action.{Action}
use Rattle.variant.specs.declared.action.Deed.{Deed}
use Rattle.variant.specs.declared.action.Deed.TheVariants.{Asked}
use Rattle.variant.specs.declared.end_kind.EndKind.{EndKind}
use Rattle.variant.specs.declared.end_kind.EndKind.TheVariants.{Stopped, Memory}
use Rattle.variant.specs.Fits.{fits}
use Rattle.lua_meaning.specs.Message.{Ask, Reply}
use Rattle.lua_meaning.specs.MessageView.{ask_view}
use Rattle.lua_meaning.specs.Run.{Start, Run, run_code}
use Rattle.lua_meaning.specs.Control.{ready}
use Rattle.lua_code.specs.Talks.{fed}
use Rattle.lua_machine.specs.declared.machine.Step.{Step}
use Rattle.lua_machine.specs.declared.machine.Step.TheVariants as steps
use Rattle.lua_machine.specs.Machine as machine
use Rattle.lua_machine.specs.Machine.{MachineView, IsIn}
use Rattle.lua_state.specs.Solo.{done}
use Rattle.lua_state.specs.Kept.{HasReplied}
use Rattle.lua_state.specs.Cuts.{AreAsked}
use Rattle.lua_state.specs.Runs.{Ends, replies_of}
use Rattle.lua_state.specs.declared.playing.Finish.{Finish}
use Rattle.lua_state.specs.declared.playing.Finish.TheVariants.{Ended, Waits}
use Rattle.lua_state.specs.declared.playing.Turn.{Turn}
use Rattle.lua_state.specs.declared.playing.Turn.TheVariants.{Told, Stands}

-- the asks of actions, in order
abbrev pub ask_in : Deed → List variant_ask.Ask
ask_in (Asked ask) = ask ∷ []
ask_in deed = []

abbrev pub asks_in : List Action → List variant_ask.Ask
asks_in [] = []
asks_in (a ∷ actions) = ask_in a.deed ++ asks_in actions

-- the run on the replies of these actions
abbrev pub played_run : Start → Block → List Action → Run
played_run start b actions = run_code (fed start (replies_of actions)) (ready b)

-- what was printed before each ask was printed at last
abbrev pub KeepsPrinted : Start → Block → List Action → List ℕ → Type 0
KeepsPrinted start b actions out =
    (before : List Action) (a : Action) → actions ≡ before ++ a ∷ [] → IsPrefix (played_run start b before).output out

-- a machine is in the run that made these actions, and is about to be told this reply
pub record IsPlaying (start : Start) (b : Block) (actions : List Action) (reply : Option variant_reply.Reply) (m : MachineView) : Type 0 where
  pub asks : List Ask
  pub replies : List Reply
  pub at : IsIn start b asks replies m
  pub asked : machine.asked m asks ≡ map ask_view (asks_in actions)
  pub told : machine.told reply replies ≡ replies_of actions
  pub all : AreAsked actions
  pub few : length actions ≤ 2 * start.ticks
  pub printed : KeepsPrinted start b actions m.output

-- a machine is at the beginning of a run of so many ticks
pub record StartsAt (steps : ℕ) (m : MachineView) : Type 0 where
  pub start : Start
  pub block : Block
  pub ticks : start.ticks ≡ steps
  pub at : IsIn start block [] [] m

-- what a step comes to among the objects
abbrev pub Turned : Step → List Action → List Action → Turn → Type 0
Turned (steps.Ask ask) before after (Told reply) = HasReplied before after ask reply
Turned (steps.Ask ask) before after (Stands (Waits same)) = (same ≡ ask) × (done before (Asked ask) ≡ None) × (after ≡ before)
Turned (steps.Ask ask) before after (Stands (Ended end)) = (end ≡ Memory) × (after ≡ before)
Turned (steps.Ended end) before after (Stands (Ended same)) = (same ≡ end) × (after ≡ before)
Turned step before after turn = ⊥

-- what is told fits what was asked
abbrev pub FitsTurn : Step → Turn → Type 0
FitsTurn (steps.Ask ask) (Told reply) = fits ask reply ≡ true
FitsTurn step turn = ⊤

-- the end that is told, and the ask that waits
abbrev pub end_of : Finish → EndKind
end_of (Ended end) = end
end_of (Waits ask) = Stopped

abbrev pub waiting_of : Finish → Option variant_ask.Ask
waiting_of (Ended end) = None
waiting_of (Waits ask) = Some ask

-- a run that was played to this finish
pub record Played (start : Start) (b : Block) (actions : List Action) (m : MachineView) (finish : Finish) : Type 0 where
  pub ends : Ends (end_of finish) (waiting_of finish) actions (asks_in actions) m.output (played_run start b actions)
  pub all : AreAsked actions
  pub printed : KeepsPrinted start b actions m.output
