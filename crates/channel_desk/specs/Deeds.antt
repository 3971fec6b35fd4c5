-- What the deeds of a state come to at a Channel.
use Rattle.std.specs.Prelude.{◌≡◌, ℕ, ◌<◌, is_some, List, [], ◌∷◌, ◌++◌, Option, Some, None, Result, Ok, Err, ⊤}
use Rattle.love_base.specs.declared.memory.Memory.{Memory}
use Rattle.love_base.specs.declared.stamp.Stamp.{Stamp}
use Rattle.variant.specs.declared.message.Variant.{Variant}
use Rattle.variant.specs.declared.ask.Ask.{Ask}
use Rattle.variant.specs.declared.ask.Ask.TheVariants.{Push, Supply, Pop, Peek, Count, HasRead, Clear, Demand, Await, Enter, Leave}
use Rattle.variant.specs.declared.action.Deed.{Deed}
use Rattle.variant.specs.declared.action.Deed.TheVariants.{Asked}
use Rattle.channel_core.specs.declared.entry.Entry.{Entry}
use Rattle.channel_core.specs.declared.entry.Change.{Change}
use Rattle.channel_core.specs.History.{holder}
use Rattle.channel_core.specs.Lawful.{IsLater}
use Rattle.channel_core.specs.Answers.{Answer, answer}
use Rattle.channel_desk.specs.declared.given.Given.{Given}

-- the number of the Channel that an ask is about; 0, the board's, for the others
abbrev pub object_of : Ask → ℕ
object_of (Push channel message) = channel
object_of (Supply channel message) = channel
object_of (Pop channel) = channel
object_of (Peek channel) = channel
object_of (Count channel) = channel
object_of (HasRead channel id) = channel
object_of (Clear channel) = channel
object_of (Demand channel limit) = channel
object_of (Await channel id limit) = channel
object_of (Enter channel) = channel
object_of (Leave channel) = channel
object_of ask = 0

-- the message that an ask sends
abbrev pub message_of : Ask → Option Variant
message_of (Push channel message) = Some message
message_of (Supply channel message) = Some message
message_of ask = None

-- the asks about a Channel that are answered at once and may change it
abbrev pub IsDeed : Ask → Type 0
IsDeed (Push channel message) = ⊤
IsDeed (Supply channel message) = ⊤
IsDeed (Pop channel) = ⊤
IsDeed (Peek channel) = ⊤
IsDeed (Clear channel) = ⊤
IsDeed (Enter channel) = ⊤
IsDeed (Leave channel) = ⊤
IsDeed ask = ⊥

-- the entries that a state's change adds
abbrev pub entries_by : Stamp → Option Change → List Entry
entries_by by None = []
entries_by by (Some change) = record { by = by; what = change } ∷ []

-- a state has so many sections open on a Channel with this history: where there are any, the Channel is its
-- own and its entries are before this one; where there are none, the Channel is nobody's
pub record IsPlaced (h : List Entry) (by : Stamp) (depth : ℕ) : Type 0 where
  pub outside : depth ≡ 0 → holder h ≡ None
  pub inside : 0 < depth → holder h ≡ Some by.state
  pub later : 0 < depth → IsLater h by

-- what is given is the answer, whose change, if there is one, is added
pub record Comes (deed : Deed) (by : Stamp) (depth : ℕ) (before after : List Entry) (given : Given) : Type 0 where
  pub change : Option Change
  pub answered : answer deed by.state depth before ≡ Some (record { reply = given.reply; change = change })
  pub history : after ≡ before ++ entries_by by change
  pub changed : given.changed ≡ is_some change

-- the same of a call that may find no memory, and changes nothing then
abbrev pub Outcome : Ask → Stamp → ℕ → List Entry → List Entry → Result Given Memory → Type 0
Outcome ask by depth before after (Ok given) = Comes (Asked ask) by depth before after given
Outcome ask by depth before after (Err memory) = after ≡ before

-- what is given is this answer, or there is no memory for it
abbrev pub Stands : Option Answer → Result Given Memory → Type 0
Stands None (Ok given) = ⊥
Stands None (Err memory) = ⊤
Stands (Some answer) (Ok given) = (given.reply ≡ answer.reply) × (given.changed ≡ is_some answer.change)
Stands (Some answer) (Err memory) = ⊥

-- the change of an answer is added
abbrev pub Appends : Stamp → List Entry → List Entry → Option Answer → Type 0
Appends by before after None = after ≡ before
Appends by before after (Some answer) = after ≡ before ++ entries_by by answer.change

-- what is given is this answer, unless memory ran out
abbrev pub StandsOrNot : Option Answer → Result Given Memory → Type 0
StandsOrNot answer (Ok given) = Stands answer (Ok given)
StandsOrNot answer (Err memory) = ⊤

-- only a state inside a section on the Channel leaves one
abbrev pub IsInside : Ask → ℕ → Type 0
IsInside (Leave channel) depth = 0 < depth
IsInside ask depth = ⊤

-- a state stays inside a section on the Channel by any ask but the end of the outermost one
abbrev pub StaysInside : Ask → ℕ → Type 0
StaysInside (Leave channel) depth = 1 < depth
StaysInside ask depth = 0 < depth

-- and outside of all by any but the beginning or the end of one
abbrev pub StaysOutside : Ask → Type 0
StaysOutside (Enter channel) = ⊥
StaysOutside (Leave channel) = ⊥
StaysOutside ask = ⊤

-- an ask that ends no section, and one that begins none
abbrev pub IsNoLeave : Ask → Type 0
IsNoLeave (Leave channel) = ⊥
IsNoLeave ask = ⊤

abbrev pub IsNoEnter : Ask → Type 0
IsNoEnter (Enter channel) = ⊥
IsNoEnter ask = ⊤
