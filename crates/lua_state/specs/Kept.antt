-- What is kept of the objects that a state meets, between its actions.
use Rattle.std.specs.Prelude.{◌≡◌, ℕ, zero, suc, ◌+◌, ◌-◌, ◌<◌, ◌≤◌, ◌==◌, Bool, true, false, if◌then◌else◌, List, [], ◌∷◌, ◌++◌, All, length, slice_index_or, Option, Some, None, Result, Ok, Err, ⊤}
use Rattle.love_base.specs.declared.memory.Memory.{Memory}
use Rattle.variant.specs.Histories.{AtEach}
use Rattle.variant.specs.declared.ask.Ask.{Ask}
use Rattle.variant.specs.declared.ask.Ask.TheVariants.{Enter, Leave}
use Rattle.variant.specs.declared.reply.Reply.{Reply}
use Rattle.variant.specs.declared.action.Action.{Action}
use Rattle.variant.specs.declared.action.Deed.{Deed}
use Rattle.variant.specs.declared.action.Deed.TheVariants.{Asked, CutLeave}
use Rattle.channel_core.specs.declared.entry.Entry.{Entry}
use Rattle.channel_core.specs.History.{holder}
use Rattle.channel_core.specs.Lawful.{NumbersBelow}
use Rattle.thread_board.specs.Register.{register}
use Rattle.lua_state.specs.declared.objects.Objects.{Objects}
use Rattle.lua_state.specs.declared.objects.Outcome.{Outcome}
use Rattle.lua_state.specs.declared.objects.Outcome.TheVariants.{Replied, Waits, NoMemory}
use Rattle.lua_state.specs.declared.objects.Acted.{Acted}
use Rattle.lua_state.specs.Solo.{Met, channel_after, board_after, events_after, held_after, action_of, done, IsDone}
use Rattle.lua_state.specs.Answered.{given_of}

-- the history of the Channel of a number, from 1; none where there is no such Channel
abbrev pub history_at : List (List Entry) → ℕ → List Entry
history_at channels number = slice_index_or channels (number - 1) []

abbrev pub depth_at : List ℕ → ℕ → ℕ
depth_at depths number = slice_index_or depths (number - 1) 0

-- Channels have the numbers from 1 to 1,024
abbrev pub IsChannelNumber : ℕ → Type 0
IsChannelNumber number = (1 ≤ number) × (number ≤ 1024)

-- the objects are those that these actions made
pub record Stand (actions : List Action) (o : Objects) : Type 0 where
  pub board : o.board ≡ record { workers = 0; history = board_after actions }
  pub histories : (number : ℕ) → IsChannelNumber number → history_at o.channels.items number ≡ (channel_after actions number).entries
  pub depths : (number : ℕ) → IsChannelNumber number → depth_at o.depths.items number ≡ (channel_after actions number).depth
  pub same : length o.depths.items ≡ length o.channels.items
  pub made : length o.channels.items ≡ (register (board_after actions)).channels
  pub few : length o.channels.items ≤ 1024
  pub held : o.held.items ≡ held_after actions
  pub events : o.events.items ≡ events_after actions

-- the deeds of a state before its end
abbrev pub IsOpen : Deed → Type 0
IsOpen (Asked ask) = ⊤
IsOpen (CutLeave number) = ⊤
IsOpen deed = ⊥

-- and its log tells these actions, and has room for leaving what is held
pub record IsKept (o : Objects) : Type 0 where
  pub stand : Stand o.trace.actions o
  pub done : AtEach IsDone o.trace.actions
  pub goes_on : All (λ a. IsOpen a.deed) o.trace.actions
  pub room : length o.held.items ≤ o.trace.spare

-- ---- what follows for one Channel

-- a Channel whose open sections are the state's, with entries of its numbers so far
pub record IsOwn (n : ℕ) (m : Met) : Type 0 where
  pub outside : m.depth ≡ 0 → holder m.entries ≡ None
  pub inside : 0 < m.depth → holder m.entries ≡ Some 0
  pub below : NumbersBelow (n + 1) m.entries
  pub deep : m.depth ≤ n

-- how often a number stands in a list
abbrev pub times : ℕ → List ℕ → ℕ
times n [] = 0
times n (x ∷ xs) = if x == n then suc (times n xs) else times n xs

abbrev pub one_if_open : ℕ → ℕ
one_if_open zero = 0
one_if_open (suc depth) = 1

-- each Channel is so, and is listed as held once where a section is open on it
pub record IsSound (actions : List Action) : Type 0 where
  pub own : (number : ℕ) → IsChannelNumber number → IsOwn (length actions) (channel_after actions number)
  pub listed : (number : ℕ) → IsChannelNumber number → times number (held_after actions) ≡ one_if_open (channel_after actions number).depth

-- the Channels that are held, after an ask about this one that adds an entry or doesn't
abbrev pub HeldBy : Ask → Bool → ℕ → List ℕ → List ℕ → Type 0
HeldBy ask false channel held after = after ≡ held
HeldBy (Enter number) true channel held after = after ≡ held ++ channel ∷ []
HeldBy (Leave number) true channel held after = (others : List ℕ) → held ≡ others ++ channel ∷ [] → after ≡ others
HeldBy ask true channel held after = after ≡ held

-- ---- what calls give

-- the action of an ask that came to this, behind these
abbrev pub acted_as : List Action → Ask → Acted → Action
acted_as before ask acted = action_of before (Asked ask) (given_of acted.answer)

-- an ask came to this, and the objects are those after its action, which the log doesn't tell yet; or it has
-- no answer, or there was no memory, and the objects are as they were
pub record HasActed (before : List Action) (ask : Ask) (acted : Acted) (o : Objects) : Type 0 where
  pub done : done before (Asked ask) ≡ Some (acted_as before ask acted)
  pub copy : acted.answer.copy ≡ acted.answer.reply
  pub object : acted.object ≡ (acted_as before ask acted).object
  pub place : acted.place ≡ (acted_as before ask acted).place
  pub stand : Stand (before ++ acted_as before ask acted ∷ []) o

abbrev pub Acts : List Action → Ask → Objects → Result (Option Acted) Memory → Type 0
Acts before ask o (Ok (Some acted)) = HasActed before ask acted o
Acts before ask o (Ok None) = (done before (Asked ask) ≡ None) × Stand before o
Acts before ask o (Err memory) = Stand before o

-- an ask was replied, and its action was put behind the others
pub record HasReplied (before after : List Action) (ask : Ask) (reply : Reply) : Type 0 where
  pub action : Action
  pub deed : action.deed ≡ Asked ask
  pub replied : action.reply ≡ reply
  pub put : after ≡ before ++ action ∷ []

abbrev pub ComesTo : List Action → List Action → Ask → Outcome → Type 0
ComesTo before after ask (Replied reply) = HasReplied before after ask reply
ComesTo before after ask (Waits same) = (same ≡ ask) × (done before (Asked ask) ≡ None) × (after ≡ before)
ComesTo before after ask NoMemory = after ≡ before
