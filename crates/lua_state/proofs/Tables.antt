-- At which object a deed is answered.
use Rattle.std.proofs.Common.{◌≡◌, ℕ, List, Option, Some, None, refl, ap, arith}
use Rattle.std.specs.Option.{option_map}
use Rattle.variant.specs.declared.ask.Ask.{Ask}
use Rattle.variant.specs.declared.ask.Ask.TheVariants.{Push, Supply, Pop, Peek, Count, HasRead, Clear, Demand, Await, Enter, Leave, EventPush, EventPoll, Name, NewChannel, NewThread, Start, IsRunning, ErrorOf, WaitFor}
use Rattle.variant.specs.declared.action.Action.{Action}
use Rattle.variant.specs.declared.action.Deed.{Deed}
use Rattle.channel_desk.specs.declared.given.Given.{Given}
use Rattle.channel_desk.specs.Deeds.{object_of as channel_of}
use Rattle.lua_state.specs.Solo.{event_queue, object_of, object_of_ask, channel_after, board_after, events_after, answer_there, answer_by_board, answer_by_events, comes_to, action_of, done, IsDone}
use Rattle.lua_state.specs.Answered.{IsChannelAsk, IsBoardAsk, IsEventAsk}
use Rattle.lua_state.specs.Kept.{IsChannelNumber}
use Rattle.lua_state.proofs.Growing.{test-yes, test-no}

pub channel_object : (ask : Ask) → IsChannelAsk ask → object_of_ask ask ≡ channel_of ask
channel_object (Push n m) is = refl
channel_object (Supply n m) is = refl
channel_object (Pop n) is = refl
channel_object (Peek n) is = refl
channel_object (Count n) is = refl
channel_object (HasRead n id) is = refl
channel_object (Clear n) is = refl
channel_object (Demand n limit) is = refl
channel_object (Await n id limit) is = refl
channel_object (Enter n) is = refl
channel_object (Leave n) is = refl
channel_object ask is = absurd is

pub board_object : (ask : Ask) → IsBoardAsk ask → object_of_ask ask ≡ 0
board_object (Name text) is = refl
board_object NewChannel is = refl
board_object (NewThread source) is = refl
board_object (Start thread args) is = refl
board_object (IsRunning thread) is = refl
board_object (ErrorOf thread) is = refl
board_object (WaitFor thread) is = refl
board_object ask is = absurd is

pub event_object : (ask : Ask) → IsEventAsk ask → object_of_ask ask ≡ event_queue
event_object (EventPush name args) is = refl
event_object EventPoll is = refl
event_object ask is = absurd is

-- an ask that is about no Channel and about no events is about the board
pub board_else : (ask : Ask) → (IsChannelAsk ask → ⊥) → (IsEventAsk ask → ⊥) → IsBoardAsk ask
board_else (Push n m) out none = absurd (out tt)
board_else (Supply n m) out none = absurd (out tt)
board_else (Pop n) out none = absurd (out tt)
board_else (Peek n) out none = absurd (out tt)
board_else (Count n) out none = absurd (out tt)
board_else (HasRead n id) out none = absurd (out tt)
board_else (Clear n) out none = absurd (out tt)
board_else (Demand n limit) out none = absurd (out tt)
board_else (Await n id limit) out none = absurd (out tt)
board_else (Enter n) out none = absurd (out tt)
board_else (Leave n) out none = absurd (out tt)
board_else (EventPush name args) out none = absurd (none tt)
board_else EventPoll out none = absurd (none tt)
board_else (Name text) out none = tt
board_else NewChannel out none = tt
board_else (NewThread source) out none = tt
board_else (Start thread args) out none = tt
board_else (IsRunning thread) out none = tt
board_else (ErrorOf thread) out none = tt
board_else (WaitFor thread) out none = tt

module _ (before : List Action) (deed : Deed) where
  pub comes_there : (number : ℕ) → object_of deed ≡ number → IsChannelNumber number → comes_to before deed ≡ answer_there (channel_after before number) deed
  comes_there number e range =
      let low : object_of deed ≡ 0 → ⊥ = λ z. (let r = range.0 in omega arith) in
      let high : object_of deed ≡ event_queue → ⊥ = λ z. (let r = range.1 in omega arith) in
      rw (test-no (object_of deed) 0 low, test-no (object_of deed) event_queue high) (ap (λ (n : ℕ). answer_there (channel_after before n) deed) e)

  pub comes_on_board : object_of deed ≡ 0 → comes_to before deed ≡ answer_by_board (board_after before) deed
  comes_on_board e = rw (test-yes (object_of deed) 0 e) refl

  pub comes_by_events : object_of deed ≡ event_queue → comes_to before deed ≡ answer_by_events (events_after before) deed
  comes_by_events e =
      let low : object_of deed ≡ 0 → ⊥ = λ z. omega arith in
      rw (test-no (object_of deed) 0 low, test-yes (object_of deed) event_queue e) refl

  -- a deed that has an answer is done by its action
  pub done_as : (given : Given) → comes_to before deed ≡ Some given → done before deed ≡ Some (action_of before deed given)
  done_as given e = ap (option_map (action_of before deed)) e

  pub not_done : comes_to before deed ≡ None → done before deed ≡ None
  not_done e = ap (option_map (action_of before deed)) e

-- and the action of a deed is so
pub done_by : (before : List Action) (a : Action) → IsDone before a → (given : Given) × (comes_to before a.deed ≡ Some given) × (action_of before a.deed given ≡ a)
done_by before a is = of (comes_to before a.deed) is
  where
    of : (found : Option Given) → option_map (action_of before a.deed) found ≡ Some a → (given : Given) × (found ≡ Some given) × (action_of before a.deed given ≡ a)
    of None e = absurd (none e)
      where
        none : None ≡ Some a → ⊥
        none e = cc
    of (Some given) e = (given, refl, same e)
      where
        same : Some (action_of before a.deed given) ≡ Some a → action_of before a.deed given ≡ a
        same e = cc
