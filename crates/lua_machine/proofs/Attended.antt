-- What a reply comes to is a step of the definitions' machine.
use Rattle.std.proofs.Common.{◌≡◌, ℕ, List, ◌∷◌, refl, sym, ap, ◌∙◌, subst, Option}
use Rattle.std.specs.Global.{Vec}
use Rattle.lua_meaning.specs.Native as native
use Rattle.lua_meaning.specs.Value as meant
use Rattle.lua_meaning.specs.Store.{Store}
use Rattle.lua_meaning.specs.Message.{Event as Happening, Reply as Answered}
use Rattle.lua_meaning.specs.MessageView.{reply_view}
use Rattle.lua_meaning.specs.Arguments.{Answer, answers, faults}
use Rattle.lua_meaning.specs.Love.{waited}
use Rattle.variant.specs.declared.reply.Reply.{Reply}
use Rattle.variant.specs.declared.reply.Reply.TheVariants as reply
use Rattle.variant.specs.declared.reply.Refusal.{Refusal}
use Rattle.lua_heap.specs.declared.value.Value.{Value}
use Rattle.lua_heap.specs.declared.value.Value.TheVariants.{Channel}
use Rattle.lua_heap.specs.Heap.{HeapView, store_of, Extends}
use Rattle.lua_code.specs.State as s
use Rattle.lua_code.specs.State.{Registers, State, with_store, Step, stop, stuck}
use Rattle.lua_code.specs.Natives as machine
use Rattle.lua_code.specs.Natives.{Program, Next, attend}
use Rattle.love_functions.specs.declared.errand.Called.{Called}
use Rattle.love_functions.specs.declared.errand.Errand.TheVariants.{GivesValues, Awaits, GivesWaited, Enters}
use Rattle.love_functions.specs.Asking as asking
use Rattle.love_functions.specs.Replying.{event_part, reply_part}
use Rattle.love_functions.specs.Serves.{after}
use Rattle.love_functions.specs.View.{called_view}
use Rattle.lua_machine.specs.declared.errand.Errand.{Errand}
use Rattle.lua_machine.specs.declared.errand.Errand.TheVariants.{Answers}
use Rattle.lua_machine.specs.declared.frame.Duty.TheVariants.{Guards}
use Rattle.lua_machine.specs.declared.status.Status.{Status}
use Rattle.lua_machine.specs.Past.{Past}
use Rattle.lua_machine.specs.View.{EngineView, frames_of, registers_of, state_of}
use Rattle.lua_machine.specs.Made.{IsEngine}
use Rattle.lua_machine.specs.Does.{errand_view, Came}
use Rattle.lua_machine.specs.Back.{back_step, CallsBack}
use Rattle.lua_machine.specs.Asking.{ComesTo, with_ask, Attends, waited_view, IsWaited}
use Rattle.lua_machine.proofs.Asked.{after_called}

-- ---- the values of a reply

module _ (program : Program) (base cell_base : ℕ) (frames : List s.Frame) (r : Registers) where
  -- what goes on with the values of an answer
  abbrev onward : (List meant.Value → State → Step) → State → Answer asking.Called → Step
  onward next st (answers (asking.gives vs) s) = next vs (with_store st s)
  onward next st (answers (asking.refuses text) s) = machine.refuses program base cell_base frames r text (with_store st s)
  onward next st (answers (asking.asks question errand) s) = machine.asks_for program base cell_base frames r errand question (with_store st s)
  onward next st (faults e) = stop stuck

  event_onward : (event : Happening) (st : State) (next : List meant.Value → State → Step) → machine.event_values program base cell_base frames r event st next ≡ onward next st (event_part event st.store)
  event_onward (Happening.user name args) st next = refl
  event_onward (Happening.thread_error t text) st next = refl

  reply_onward : (reply : Answered) (st : State) (next : List meant.Value → State → Step) → machine.reply_values program base cell_base frames r reply st next ≡ onward next st (reply_part reply st.store)
  reply_onward Answered.done st next = refl
  reply_onward Answered.nothing st next = refl
  reply_onward (Answered.flag b) st next = refl
  reply_onward (Answered.id n) st next = refl
  reply_onward (Answered.number n) st next = refl
  reply_onward (Answered.value m) st next = refl
  reply_onward (Answered.channel c) st next = refl
  reply_onward (Answered.thread t) st next = refl
  reply_onward (Answered.words text) st next = refl
  reply_onward (Answered.event from action event) st next = event_onward event st next
  reply_onward (Answered.refused cause) st next = refl

  -- they are given, changed or not
  given_onward : (f : native.Native) (st : State) (called : asking.Called) (kept : Store) → onward (machine.gives program base cell_base frames r) st (answers called kept) ≡ after base cell_base frames r f st (answers called kept)
  given_onward f st (asking.gives vs) kept = refl
  given_onward f st (asking.refuses text) kept = refl
  given_onward f st (asking.asks question errand) kept = refl

  waited_onward : (limit : Option ℕ) (f : native.Native) (st : State) (called : asking.Called) (kept : Store) → onward (λ vs st. machine.gives program base cell_base frames r (waited limit vs) st) st (answers called kept) ≡ after base cell_base frames r f st (answers (waited_view limit called) kept)
  waited_onward limit f st (asking.gives vs) kept = refl
  waited_onward limit f st (asking.refuses text) kept = refl
  waited_onward limit f st (asking.asks question errand) kept = refl

-- ---- in whatever program

abbrev attending : Errand → Reply → Program → Past → EngineView → Step
attending errand reply program past m = attend program m.base m.cell_base (frames_of m) (registers_of m) (errand_view errand m) (reply_view reply) (state_of past m)

attends : (errand : Errand) (reply : Reply) (status : Status) (old new : EngineView) (does : Past → Step) → ((program : Program) (past : Past) → attending errand reply program past old ≡ does past) → Came does status new → Attends errand reply status old new
attends errand reply status old new does same came =
    record {
      step = λ program question past. same program (with_ask question past) ∙ came.step (with_ask question past);
      kept = came.kept;
    }

-- ---- values

module _ (e m : EngineView) (seen : e ≡ m) (is : IsEngine e) (h : HeapView) (more : Extends e.heap h) (functions : h.functions ≡ e.heap.functions) (answer : Reply) (called : Called) (gives : reply_part (reply_view answer) (store_of e.heap) ≡ answers (called_view h called) (store_of h)) (status : Status) (new : EngineView) where
  pub attends_values : ComesTo called status (record e { heap = h }) new → Attends (Answers GivesValues) answer status m new
  attends_values came =
      subst (λ (y : EngineView). Attends (Answers GivesValues) answer status y new) seen
      (attends (Answers GivesValues) answer status e new _ (λ program past.
      reply_onward program e.base e.cell_base (frames_of e) (registers_of e) (reply_view answer) (state_of past e) (machine.gives program e.base e.cell_base (frames_of e) (registers_of e))
      ∙ ap (onward program e.base e.cell_base (frames_of e) (registers_of e) (machine.gives program e.base e.cell_base (frames_of e) (registers_of e)) (state_of past e)) gives
      ∙ given_onward program e.base e.cell_base (frames_of e) (registers_of e) native.Native.error (state_of past e) (called_view h called) (store_of h)
      ∙ after_called e is h more functions past native.Native.error called) came)

  pub attends_waited : (limit : Option ℕ) (left : Called) → IsWaited limit called left → ComesTo left status (record e { heap = h }) new → Attends (Answers (GivesWaited limit)) answer status m new
  attends_waited limit left is_left came =
      subst (λ (y : EngineView). Attends (Answers (GivesWaited limit)) answer status y new) seen
      (attends (Answers (GivesWaited limit)) answer status e new _ (λ program past.
      reply_onward program e.base e.cell_base (frames_of e) (registers_of e) (reply_view answer) (state_of past e) (λ vs st. machine.gives program e.base e.cell_base (frames_of e) (registers_of e) (waited limit vs) st)
      ∙ ap (onward program e.base e.cell_base (frames_of e) (registers_of e) (λ vs st. machine.gives program e.base e.cell_base (frames_of e) (registers_of e) (waited limit vs) st) (state_of past e)) gives
      ∙ waited_onward program e.base e.cell_base (frames_of e) (registers_of e) limit native.Native.error (state_of past e) (called_view h called) (store_of h)
      ∙ ap (λ (c : asking.Called). after e.base e.cell_base (frames_of e) (registers_of e) native.Native.error (state_of past e) (answers c (store_of h))) (sym (is_left.view h))
      ∙ after_called e is h more functions past native.Native.error left) came)

-- ---- a message was sent

-- a reply for which two errands are the same
attends_as : (errand other : Errand) (answer : Reply) (status : Status) (old new : EngineView) → ((program : Program) (past : Past) → attending errand answer program past old ≡ attending other answer program past old) → Attends other answer status old new → Attends errand answer status old new
attends_as errand other answer status old new same a =
    record {
      step = λ program question past. same program (with_ask question past) ∙ a.step program question past;
      kept = a.kept;
    }

-- without its id the reply is given
pub awaits_other : (answer : Reply) (status : Status) (old new : EngineView) (c : ℕ) (limit : Option ℕ) → ((n : ℕ) → answer ≡ reply.Id n → ⊥) → Attends (Answers GivesValues) answer status old new → Attends (Answers (Awaits c limit)) answer status old new
awaits_other answer status old new c limit other a =
    attends_as (Answers (Awaits c limit)) (Answers GivesValues) answer status old new (λ program past. same program past answer other) a
  where
    same : (program : Program) (past : Past) (answer : Reply) → ((n : ℕ) → answer ≡ reply.Id n → ⊥) → attending (Answers (Awaits c limit)) answer program past old ≡ attending (Answers GivesValues) answer program past old
    same program past reply.Done other = refl
    same program past reply.Nothing other = refl
    same program past (reply.Flag b) other = refl
    same program past (reply.Id n) other = absurd (other n refl)
    same program past (reply.Number n) other = refl
    same program past (reply.Value v) other = refl
    same program past (reply.Channel k) other = refl
    same program past (reply.Thread t) other = refl
    same program past (reply.Words text) other = refl
    same program past (reply.Event sent) other = refl
    same program past (reply.Refused cause) other = refl

-- ---- a section

-- it was refused
pub enters_refused : (answer : Reply) (cause : Refusal) (status : Status) (old new : EngineView) (c : ℕ) (f : Value) (args : Vec Value) → answer ≡ reply.Refused cause → Attends (Answers GivesValues) answer status old new → Attends (Answers (Enters c f args)) answer status old new
enters_refused answer cause status old new c f args is a =
    subst (λ (x : Reply). Attends (Answers (Enters c f args)) x status old new) (sym is)
    (attends_as (Answers (Enters c f args)) (Answers GivesValues) (reply.Refused cause) status old new (λ program past. refl) (subst (λ (x : Reply). Attends (Answers GivesValues) x status old new) is a))

-- else its function is called
pub enters_other : (e m : EngineView) (seen : e ≡ m) (answer : Reply) (status : Status) (new : EngineView) (c : ℕ) (f : Value) (args : Vec Value) (list : List Value) → ((cause : Refusal) → answer ≡ reply.Refused cause → ⊥) → list ≡ Channel c ∷ args.items → CallsBack (Guards c) f status (record e { args = list }) new → Attends (Answers (Enters c f args)) answer status m new
enters_other e m seen answer status new c f args list other is calls =
    subst (λ (y : EngineView). Attends (Answers (Enters c f args)) answer status y new) seen
    (attends (Answers (Enters c f args)) answer status e new _ (λ program past.
    same program past answer other ∙ ap (λ (vs : List Value). back_step (Guards c) f past (record e { args = vs })) (sym is)) calls.came)
  where
    same : (program : Program) (past : Past) (answer : Reply) → ((cause : Refusal) → answer ≡ reply.Refused cause → ⊥) → attending (Answers (Enters c f args)) answer program past e ≡ back_step (Guards c) f past (record e { args = Channel c ∷ args.items })
    same program past reply.Done other = refl
    same program past reply.Nothing other = refl
    same program past (reply.Flag b) other = refl
    same program past (reply.Id n) other = refl
    same program past (reply.Number n) other = refl
    same program past (reply.Value v) other = refl
    same program past (reply.Channel k) other = refl
    same program past (reply.Thread t) other = refl
    same program past (reply.Words text) other = refl
    same program past (reply.Event sent) other = refl
    same program past (reply.Refused cause) other = absurd (other cause refl)
