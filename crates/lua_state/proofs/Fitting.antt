-- The replies of the tables are of the kinds that fit their asks.
use Rattle.std.specs.Prelude.{⊤, is_some, nat_lt, nat_le, nat_eq}
use Rattle.std.proofs.Common.{◌≡◌, ◌∙◌, ℕ, zero, suc, ◌+◌, ◌==◌, Bool, true, false, cond, List, [], ◌∷◌, length, ◌⊎◌, inl, inr, Option, Some, None, refl, sym, ap, subst}
use Rattle.love_base.specs.declared.channel_no.ChannelNo.{ChannelNo}
use Rattle.variant.specs.declared.message.Variant.{Variant}
use Rattle.variant.specs.declared.ask.Ask.{Ask}
use Rattle.variant.specs.declared.ask.Ask.TheVariants.{Push, Supply, Pop, Peek, Count, HasRead, Clear, Demand, Await, Enter, Leave, EventPush, EventPoll, Name, NewChannel, NewThread, Start, IsRunning, ErrorOf, WaitFor}
use Rattle.variant.specs.declared.reply.Reply.{Reply}
use Rattle.variant.specs.declared.reply.Reply.TheVariants as reply
use Rattle.variant.specs.declared.reply.Refusal.TheVariants.{Full, WouldWaitInside, TooManyChannels, TooManyThreads, TooManyRunning, TooManyStarts, GameEnded}
use Rattle.variant.specs.declared.event.Sent.{Sent}
use Rattle.variant.specs.declared.action.Action.{Action}
use Rattle.variant.specs.declared.action.Deed.{Deed}
use Rattle.variant.specs.declared.action.Deed.TheVariants.{Asked}
use Rattle.variant.specs.Fits.{fits}
use Rattle.channel_core.specs.declared.entry.Entry.{Entry}
use Rattle.channel_core.specs.declared.entry.Change.{Change}
use Rattle.channel_core.specs.declared.entry.Change.TheVariants.{Put, Take, Clear as Cleared, Enter as Entering, Leave as Leaving}
use Rattle.channel_core.specs.History.{holder, queue, sent, received, is_read}
use Rattle.channel_core.specs.Lawful.{entry_limit}
use Rattle.channel_core.specs.Answers as c
use Rattle.thread_board.specs.declared.entry.BoardEntry.{BoardEntry}
use Rattle.thread_board.specs.declared.entry.BoardChange.{BoardChange}
use Rattle.thread_board.specs.declared.entry.BoardChange.TheVariants as change
use Rattle.thread_board.specs.declared.place.Thread.{Thread}
use Rattle.thread_board.specs.Register.{Register, register, numbered, channel_of, running, state_of, error_of}
use Rattle.thread_board.specs.Answers as b
use Rattle.channel_desk.specs.declared.given.Given.{Given}
use Rattle.lua_state.specs.Solo.{Met, event_queue, object_of, channel_after, board_after, events_after, on_channel, on_board, answer_there, answer_by_board, answer_by_events, comes_to, polled, done}
use Rattle.lua_state.proofs.Owning.{within}
use Rattle.lua_state.proofs.Sounding.{found_there}
use Rattle.lua_state.proofs.Tables.{done_by}

none_some : {X : Type 0} (x : X) → None ≡ Some x → ⊥
none_some x e = cc

-- ---- a Channel

abbrev reply_in : Option c.Answer → Reply
reply_in None = reply.Done
reply_in (Some a) = a.reply

module _ (ask : Ask) (x : c.Answer) where
  fit_only : (r : Reply) → fits ask r ≡ true → c.only r ≡ Some x → fits ask x.reply ≡ true
  fit_only r fit e = subst (λ (y : Reply). fits ask y ≡ true) (ap reply_in e) fit

  fit_room : (t : Bool) (r : Reply) (ch : Change) → fits ask r ≡ true → fits ask (reply.Refused Full) ≡ true → cond t (c.adds r ch) (c.only (reply.Refused Full)) ≡ Some x → fits ask x.reply ≡ true
  fit_room true r ch fit full e = subst (λ (y : Reply). fits ask y ≡ true) (ap reply_in e) fit
  fit_room false r ch fit full e = fit_only (reply.Refused Full) full e

module _ (x : c.Answer) where
  fit_popped : (n : ChannelNo) (h : List Entry) (q : List Variant) → c.popped h q ≡ Some x → fits (Pop n) x.reply ≡ true
  fit_popped n h [] e = fit_only (Pop n) x reply.Nothing refl e
  fit_popped n h (m ∷ ms) e = fit_room (Pop n) x (nat_lt (length h) entry_limit) (reply.Value m) Take refl refl e

  fit_peeked : (n : ChannelNo) (q : List Variant) → c.peeked q ≡ Some x → fits (Peek n) x.reply ≡ true
  fit_peeked n [] e = fit_only (Peek n) x reply.Nothing refl e
  fit_peeked n (m ∷ ms) e = fit_only (Peek n) x (reply.Value m) refl e

  fit_cleared : (n : ChannelNo) (h : List Entry) (q : List Variant) → c.cleared h q ≡ Some x → fits (Clear n) x.reply ≡ true
  fit_cleared n h [] e = fit_only (Clear n) x reply.Done refl e
  fit_cleared n h (m ∷ ms) e = fit_room (Clear n) x (nat_lt (length h) entry_limit) reply.Done Cleared refl refl e

  fit_demanded : (n : ChannelNo) (limit : Option ℕ) (h : List Entry) (inside : Bool) (q : List Variant) → c.demanded h inside q ≡ Some x → fits (Demand n limit) x.reply ≡ true
  fit_demanded n limit h true [] e = fit_only (Demand n limit) x (reply.Refused WouldWaitInside) refl e
  fit_demanded n limit h false [] e = absurd (none_some x e)
  fit_demanded n limit h inside (m ∷ ms) e = fit_room (Demand n limit) x (nat_lt (length h) entry_limit) (reply.Value m) Take refl refl e

  fit_await : (n : ChannelNo) (id : ℕ) (limit : Option ℕ) (t : Bool) → cond t (c.only (reply.Flag true)) None ≡ Some x → fits (Await n id limit) x.reply ≡ true
  fit_await n id limit true e = fit_only (Await n id limit) x (reply.Flag true) refl e
  fit_await n id limit false e = absurd (none_some x e)

  fit_left : (n : ChannelNo) (depth : ℕ) → c.left depth ≡ Some x → fits (Leave n) x.reply ≡ true
  fit_left n zero e = absurd (none_some x e)
  fit_left n (suc zero) e = subst (λ (y : Reply). fits (Leave n) y ≡ true) (ap reply_in e) refl
  fit_left n (suc (suc d)) e = fit_only (Leave n) x reply.Done refl e

  fit_channel : (ask : Ask) (inside : Bool) (depth : ℕ) (h : List Entry) → c.answer_to ask inside depth h ≡ Some x → fits ask x.reply ≡ true
  fit_channel (Push n m) inside depth h e = fit_room (Push n m) x (nat_lt (length h) entry_limit) (reply.Id (sent h + 1)) (Put m) refl refl e
  fit_channel (Supply n m) true depth h e = fit_only (Supply n m) x (reply.Refused WouldWaitInside) refl e
  fit_channel (Supply n m) false depth h e = fit_room (Supply n m) x (nat_lt (length h) entry_limit) (reply.Id (sent h + 1)) (Put m) refl refl e
  fit_channel (Pop n) inside depth h e = fit_popped n h (queue h) e
  fit_channel (Peek n) inside depth h e = fit_peeked n (queue h) e
  fit_channel (Count n) inside depth h e = fit_only (Count n) x (reply.Number _) refl e
  fit_channel (HasRead n id) inside depth h e = fit_only (HasRead n id) x (reply.Flag (is_read h id)) refl e
  fit_channel (Clear n) inside depth h e = fit_cleared n h (queue h) e
  fit_channel (Demand n limit) inside depth h e = fit_demanded n limit h inside (queue h) e
  fit_channel (Await n id limit) inside depth h e = fit_await n id limit (nat_le id (received h)) e
  fit_channel (Enter n) true depth h e = fit_only (Enter n) x reply.Done refl e
  fit_channel (Enter n) false depth h e = fit_room (Enter n) x (nat_lt (length h) entry_limit) reply.Done Entering refl refl e
  fit_channel (Leave n) inside depth h e = fit_left n depth e
  fit_channel ask inside depth h e = absurd (none_some x e)

-- ---- the board

abbrev board_reply_in : Option b.Answer → Reply
board_reply_in None = reply.Done
board_reply_in (Some a) = a.reply

module _ (ask : Ask) (x : b.Answer) where
  board_only : (r : Reply) → fits ask r ≡ true → b.only r ≡ Some x → fits ask x.reply ≡ true
  board_only r fit e = subst (λ (y : Reply). fits ask y ≡ true) (ap board_reply_in e) fit

  board_adds : (r : Reply) (ch : BoardChange) → fits ask r ≡ true → b.adds r ch ≡ Some x → fits ask x.reply ≡ true
  board_adds r ch fit e = subst (λ (y : Reply). fits ask y ≡ true) (ap board_reply_in e) fit

  board_made : (t : Bool) (r other : Reply) (ch : BoardChange) → fits ask r ≡ true → fits ask other ≡ true → cond t (b.adds r ch) (b.only other) ≡ Some x → fits ask x.reply ≡ true
  board_made true r other ch fit also e = board_adds r ch fit e
  board_made false r other ch fit also e = board_only other also e

fit_board : (r : Register) (h : List BoardEntry) (ask : Ask) (x : b.Answer) → b.answer_to 0 ask r h ≡ Some x → fits ask x.reply ≡ true
fit_board r h (Name name) x e = by (channel_of r.names name) e
  where
    by : (found : Option ℕ) → b.named r name found ≡ Some x → fits (Name name) x.reply ≡ true
    by (Some k) e = board_only (Name name) x (reply.Channel k) refl e
    by None e = board_made (Name name) x (nat_lt r.channels b.channel_limit) (reply.Channel (r.channels + 1)) (reply.Refused TooManyChannels) _ refl refl e
fit_board r h NewChannel x e = board_made NewChannel x (nat_lt r.channels b.channel_limit) (reply.Channel (r.channels + 1)) (reply.Refused TooManyChannels) _ refl refl e
fit_board r h (NewThread source) x e = board_made (NewThread source) x (nat_lt (length r.threads) b.thread_limit) (reply.Thread (length r.threads + 1)) (reply.Refused TooManyThreads) _ refl refl e
fit_board r h (Start t args) x e = ended r.main_end e
  where
    many : (u : Bool) → cond u (b.only (reply.Refused (TooManyRunning 0))) (b.adds (reply.Flag true) (change.Start (length r.states + 1) t args)) ≡ Some x → fits (Start t args) x.reply ≡ true
    many true e = board_only (Start t args) x (reply.Refused (TooManyRunning 0)) refl e
    many false e = board_adds (Start t args) x (reply.Flag true) _ refl e

    room : (u : Bool) → cond u (cond (nat_eq (running r) 0) (b.only (reply.Refused (TooManyRunning 0))) (b.adds (reply.Flag true) (change.Start (length r.states + 1) t args))) (b.only (reply.Refused TooManyStarts)) ≡ Some x → fits (Start t args) x.reply ≡ true
    room true e = many (nat_eq (running r) 0) e
    room false e = board_only (Start t args) x (reply.Refused TooManyStarts) refl e

    runs : (u : Bool) → cond u (b.only (reply.Flag false)) (b.started 0 r (change.Start (length r.states + 1) t args)) ≡ Some x → fits (Start t args) x.reply ≡ true
    runs true e = board_only (Start t args) x (reply.Flag false) refl e
    runs false e = room (nat_lt (length r.states) b.start_limit) e

    found : (thread : Option Thread) → b.started_thread 0 r (change.Start (length r.states + 1) t args) thread ≡ Some x → fits (Start t args) x.reply ≡ true
    found None e = board_only (Start t args) x (reply.Flag false) refl e
    found (Some thread) e = runs (is_some thread.runs) e

    ended : (place : Option ℕ) → b.start_answer 0 r t (change.Start (length r.states + 1) t args) place ≡ Some x → fits (Start t args) x.reply ≡ true
    ended (Some place) e = board_only (Start t args) x (reply.Refused (GameEnded place)) refl e
    ended None e = found (numbered r.threads t) e
fit_board r h (IsRunning t) x e = board_only (IsRunning t) x (reply.Flag (is_some (state_of r t))) refl e
fit_board r h (ErrorOf t) x e = by (error_of h t) e
  where
    by : (text : Option (List ℕ)) → b.words text ≡ Some x → fits (ErrorOf t) x.reply ≡ true
    by None e = board_only (ErrorOf t) x reply.Nothing refl e
    by (Some text) e = board_only (ErrorOf t) x (reply.Words text) refl e
fit_board r h (WaitFor t) x e = by (is_some (state_of r t)) e
  where
    by : (u : Bool) → cond u None (b.only reply.Done) ≡ Some x → fits (WaitFor t) x.reply ≡ true
    by true e = absurd (none_some x e)
    by false e = board_only (WaitFor t) x reply.Done refl e
fit_board r h ask x e = absurd (none_some x e)

-- ---- all

same_given : (g k : Given) → Some g ≡ Some k → g ≡ k
same_given g k e = cc

fit_events : (events : List Sent) (ask : Ask) (g : Given) → answer_by_events events (Asked ask) ≡ Some g → fits ask g.reply ≡ true
fit_events events (EventPush name args) g e = subst (λ (k : Given). fits (EventPush name args) k.reply ≡ true) (same_given _ g e) refl
fit_events events EventPoll g e = subst (λ (k : Given). fits EventPoll k.reply ≡ true) (same_given _ g e) (poll events)
  where
    poll : (l : List Sent) → fits EventPoll (polled l) ≡ true
    poll [] = refl
    poll (s ∷ others) = refl
fit_events events ask g e = absurd (none_some g e)

fit_given_board : (h : List BoardEntry) (ask : Ask) (g : Given) → answer_by_board h (Asked ask) ≡ Some g → fits ask g.reply ≡ true
fit_given_board h ask g e = of (b.answer_to 0 ask (register h) h) refl e
  where
    of : (a : Option b.Answer) → b.answer_to 0 ask (register h) h ≡ a → on_board a ≡ Some g → fits ask g.reply ≡ true
    of None is e = absurd (none_some g e)
    of (Some x) is e = subst (λ (k : Given). fits ask k.reply ≡ true) (same_given _ g e) (fit_board (register h) h ask x is)

fit_given_channel : (m : Met) (ask : Ask) (g : Given) → answer_there m (Asked ask) ≡ Some g → fits ask g.reply ≡ true
fit_given_channel m ask g e =
    let f = found_there m (Asked ask) g e in
    subst (λ (y : Reply). fits ask y ≡ true) (sym f.reply) (fit_channel f.found ask (c.holds (holder m.entries) 0) m.depth m.entries (within f.found (Asked ask) m.depth m.entries f.stands))

pub fits_given : (before : List Action) (ask : Ask) (g : Given) → comes_to before (Asked ask) ≡ Some g → fits ask g.reply ≡ true
fits_given before ask g e = on (object_of (Asked ask) == 0) (object_of (Asked ask) == event_queue) e
  where
    on : (t u : Bool) → cond t (answer_by_board (board_after before) (Asked ask)) (cond u (answer_by_events (events_after before) (Asked ask)) (answer_there (channel_after before (object_of (Asked ask))) (Asked ask))) ≡ Some g → fits ask g.reply ≡ true
    on true u e = fit_given_board (board_after before) ask g e
    on false true e = fit_events (events_after before) ask g e
    on false false e = fit_given_channel (channel_after before (object_of (Asked ask))) ask g e

-- the reply of an action fits its ask
pub fits_done : (before : List Action) (ask : Ask) (a : Action) → done before a.deed ≡ Some a → a.deed ≡ Asked ask → fits ask a.reply ≡ true
fits_done before ask a is deed =
    let did = done_by before a is in
    subst (λ (r : Reply). fits ask r ≡ true) (ap (λ (x : Action). x.reply) did.2) (fits_given before ask did.0 (ap (comes_to before) (sym deed) ∙ did.1))
