-- The end of a state on the board.
use Rattle.std.specs.Prelude.{◌≡◌, true, List, [], ◌∷◌, ◌++◌, Option, Some, None}
use Rattle.love_base.specs.declared.stamp.Stamp.{Stamp}
use Rattle.variant.specs.declared.action.Action.{Action}
use Rattle.variant.specs.declared.action.Deed.{Deed}
use Rattle.variant.specs.declared.action.Deed.TheVariants.{End, MainEnd}
use Rattle.variant.specs.declared.end_kind.EndKind.{EndKind}
use Rattle.variant.specs.declared.reply.Reply.TheVariants.{Done}
use Rattle.turn_desk.specs.declared.view.View.{View}
use Rattle.channel_desk.specs.declared.given.Given.{Given}
use Rattle.channel_desk.specs.declared.shared.SharedEntry.{SharedEntry}
use Rattle.channel_desk.specs.OnBoard.{ActedOnBoard}

-- the deed by which a state ends: state 0 has no kinds of end
abbrev pub end_deed : Option (EndKind × EndKind) → Deed
end_deed None = MainEnd
end_deed (Some copies) = End copies.1

-- what an end comes to
abbrev pub an_end : Given
an_end = record { reply = Done; changed = true }

-- the state ended by an action, which was put behind the others
pub record Finished (by : Stamp) (v w : View SharedEntry) (deed : Deed) (log log' : List Action) : Type 0 where
  pub action : Action
  pub acted : ActedOnBoard by v w [] [] deed action
  pub put : log' ≡ log ++ action ∷ []
