-- What a state that ran alone leaves.
use Rattle.std.specs.Prelude.{◌≡◌, ℕ, List, []}
use Rattle.lua_tree.specs.Tree.{Block}
use Rattle.variant.specs.Histories.{AtEach}
use Rattle.lua_code.specs.View.{ProtoView}
use Rattle.lua_code.specs.declared.program.Program.{Program}
use Rattle.lua_meaning.specs.Run.{Start}
use Rattle.lua_machine.specs.Machine.{IsStart}
use Rattle.lua_state.specs.Solo.{IsDone, board_after, held_after}
use Rattle.lua_state.specs.Cuts.{CutsFollow, asked_in}
use Rattle.lua_state.specs.Runs.{AreChannels, AreFree, HoldsAt, IsMainRecord}
use Rattle.lua_state.specs.declared.alone.Alone.{Alone}

-- what is left is the work of the state's actions, and no Channel is held
pub record IsLeft (alone : Alone) : Type 0 where
  pub main : IsMainRecord alone.ran
  pub actions : AtEach IsDone alone.ran.trace.actions
  pub cuts : CutsFollow alone.ran.trace.actions
  pub ended : HoldsAt alone.ran.end (held_after (asked_in alone.ran.trace.actions))
  pub board : alone.board ≡ record { workers = 0; history = board_after alone.ran.trace.actions }
  pub channels : AreChannels alone.ran.trace.actions alone.channels
  pub free : AreFree alone.channels

-- there is a start on this program and this code
pub record HasStart (program : Program) (code : List ProtoView) (steps : ℕ) : Type 0 where
  pub start : Start
  pub block : Block
  pub ticks : start.ticks ≡ steps
  pub is : IsStart program code [] steps 0 start block
