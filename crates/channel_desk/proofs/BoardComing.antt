-- What the calls of a board come to as deeds of a state.
use Rattle.std.proofs.Common.{◌≡◌, ◌∙◌, ℕ, ◌+◌, Bool, true, false, cond, is_none, List, [], ◌∷◌, ◌++◌, length, Option, Some, None, Result, Ok, Err, refl, sym, ap, subst, append-nil}
use Rattle.std.specs.Prelude.{OnErr, IfOk, IsOkAnd}
use Rattle.love_base.specs.declared.memory.Memory.{Memory}
use Rattle.love_base.specs.declared.stamp.Stamp.{Stamp}
use Rattle.variant.specs.declared.message.Variant.{Variant}
use Rattle.variant.specs.declared.source.Source.{Source}
use Rattle.variant.specs.declared.ask.Ask.{Ask}
use Rattle.variant.specs.declared.reply.Reply.{Reply}
use Rattle.variant.specs.declared.reply.Reply.TheVariants.{Channel as AChannel}
use Rattle.thread_board.specs.declared.entry.BoardEntry.{BoardEntry}
use Rattle.thread_board.specs.declared.entry.BoardChange.{BoardChange}
use Rattle.thread_board.specs.declared.entry.BoardChange.TheVariants.{Name, NewChannel, NewThread, Start}
use Rattle.thread_board.specs.declared.fault.BoardFault.{BoardFault}
use Rattle.thread_board.specs.declared.fault.BoardFault.TheVariants.{TooManyChannels, TooManyThreads, TooManyRunning, TooManyStarts, AlreadyRunning, Closed, NoSuchThread, Memory as OutOfMemory}
use Rattle.thread_board.specs.declared.making.Named.{Named}
use Rattle.thread_board.specs.Answers.{Answer, adds, only}
use Rattle.thread_board.specs.Calls.{Answers, channel_answer, refused, started_answer, thread_answer}
use Rattle.thread_board.specs.Lawful.{IsLawful}
use Rattle.thread_board.specs.Register.{channel_of, register}
use Rattle.thread_board.specs.View.{BoardView, with_entry}
use Rattle.channel_desk.specs.declared.given.Given.{Given}
use Rattle.channel_desk.specs.OnBoard.{OutcomeOnBoard, StandsOnBoard, AppendsOnBoard}
use Rattle.channel_desk.proofs.BoardNumbers.{IsChannelNo, known_channel, last_numbers, names_lawful}

abbrev an_answer : Reply → Option BoardChange → Option Answer
an_answer reply change = Some (record { reply = reply; change = change })

-- an answer of a call, with its change added, is what the deed comes to
pub outcome_on_board : (board : BoardView) (ask : Ask) (by : Stamp) (after : List BoardEntry) (a : Option Answer) (r : Result Given Memory) → Answers board ask by.state a → AppendsOnBoard by board.history after a → StandsOnBoard a r → OutcomeOnBoard board.workers ask by board.history after r
outcome_on_board board ask by after None (Ok given) answers appends stands = absurd stands
outcome_on_board board ask by after None (Err memory) answers appends stands = appends
outcome_on_board board ask by after (Some a) (Ok given) answers appends stands = record {
  change = a.change;
  answered = (0, answers 0 ∙ ap (λ (reply : Reply). an_answer reply a.change) (sym stands.0));
  history = appends;
  changed = stands.1;
}
outcome_on_board board ask by after (Some a) (Err memory) answers appends stands = absurd stands

nothing_added : (before after : List BoardEntry) → after ≡ before → after ≡ before ++ []
nothing_added before after e = e ∙ sym (append-nil before)

refused_on_board : (by : Stamp) (before after : List BoardEntry) (fault : BoardFault) → after ≡ before → AppendsOnBoard by before after (refused fault)
refused_on_board by before after TooManyChannels e = nothing_added before after e
refused_on_board by before after TooManyThreads e = nothing_added before after e
refused_on_board by before after (TooManyRunning n) e = nothing_added before after e
refused_on_board by before after TooManyStarts e = nothing_added before after e
refused_on_board by before after (AlreadyRunning n) e = nothing_added before after e
refused_on_board by before after (Closed n) e = nothing_added before after e
refused_on_board by before after NoSuchThread e = nothing_added before after e
refused_on_board by before after OutOfMemory e = e

-- the history of a board with one entry more is lawful, and so the change has its number
history_with : (board new : BoardView) (by : Stamp) (change : BoardChange) → new ≡ with_entry board by change → new.history ≡ board.history ++ record { by = by; what = change } ∷ []
history_with board new by change e = ap (λ (b : BoardView). b.history) e

module _ (board new : BoardView) (by : Stamp) where
  -- the number of what a change makes
  number_named : (channel : ℕ) (name : List ℕ) → IsLawful new.workers new.history → new ≡ with_entry board by (Name channel name) → (channel ≡ (register board.history).channels + 1) × IsChannelNo channel
  number_named channel name lawful e = last_numbers new.workers board.history (record { by = by; what = Name channel name }) (subst (IsLawful new.workers) (history_with board new by (Name channel name) e) lawful)

  number_channel : (channel : ℕ) → IsLawful new.workers new.history → new ≡ with_entry board by (NewChannel channel) → (channel ≡ (register board.history).channels + 1) × IsChannelNo channel
  number_channel channel lawful e = last_numbers new.workers board.history (record { by = by; what = NewChannel channel }) (subst (IsLawful new.workers) (history_with board new by (NewChannel channel) e) lawful)

  number_thread : (thread : ℕ) (source : Source) → IsLawful new.workers new.history → new ≡ with_entry board by (NewThread thread source) → thread ≡ length (register board.history).threads + 1
  number_thread thread source lawful e = last_numbers new.workers board.history (record { by = by; what = NewThread thread source }) (subst (IsLawful new.workers) (history_with board new by (NewThread thread source) e) lawful)

  number_start : (state thread : ℕ) (args : List Variant) → IsLawful new.workers new.history → new ≡ with_entry board by (Start state thread args) → state ≡ length (register board.history).states + 1
  number_start state thread args lawful e = last_numbers new.workers board.history (record { by = by; what = Start state thread args }) (subst (IsLawful new.workers) (history_with board new by (Start state thread args) e) lawful)

  -- the entry of a change that is said of equal numbers
  entry_as : (change other : BoardChange) → new ≡ with_entry board by change → change ≡ other → new.history ≡ board.history ++ record { by = by; what = other } ∷ []
  entry_as change other e same = history_with board new by change e ∙ ap (λ (c : BoardChange). board.history ++ record { by = by; what = c } ∷ []) same

  same_history : new ≡ board → new.history ≡ board.history
  same_history e = ap (λ (b : BoardView). b.history) e

  pub name_appends : (name : List ℕ) (r : Result Named BoardFault) → IsLawful new.workers new.history → IfOk r (λ given. new ≡ cond given.changed (with_entry board by (Name given.channel name)) board) → OnErr r (new ≡ board) → AppendsOnBoard by board.history new.history (channel_answer (Name ((register board.history).channels + 1) name) r)
  name_appends name (Err fault) lawful entry same = refused_on_board by board.history new.history fault (same_history same)
  name_appends name (Ok given) lawful entry same = on given.changed entry
    where
      on : (b : Bool) → new ≡ cond b (with_entry board by (Name given.channel name)) board → AppendsOnBoard by board.history new.history (cond b (adds (AChannel given.channel) (Name ((register board.history).channels + 1) name)) (only (AChannel given.channel)))
      on true e = entry_as (Name given.channel name) (Name ((register board.history).channels + 1) name) e (ap (λ (n : ℕ). Name n name) (number_named given.channel name lawful e).0)
      on false e = nothing_added board.history new.history (same_history e)

  pub name_fits : (name : List ℕ) (r : Result Named BoardFault) → IsLawful board.workers board.history → IsLawful new.workers new.history → IfOk r (λ given. new ≡ cond given.changed (with_entry board by (Name given.channel name)) board)
      → IfOk r (λ given. given.changed ≡ is_none (channel_of (register board.history).names name)) → ((channel : ℕ) → channel_of (register board.history).names name ≡ Some channel → IsOkAnd r (λ given. given.channel ≡ channel)) → IfOk r (λ given. IsChannelNo given.channel)
  name_fits name (Err fault) old lawful entry changed known = tt
  name_fits name (Ok given) old lawful entry changed known = on (channel_of (register board.history).names name) refl
    where
      on : (found : Option ℕ) → channel_of (register board.history).names name ≡ found → IsChannelNo given.channel
      on (Some channel) e = subst IsChannelNo (sym (known channel e)) (known_channel (register board.history).names name channel (names_lawful board.workers board.history old) e)
      on None e = (number_named given.channel name lawful (entry ∙ ap (λ (b : Bool). cond b (with_entry board by (Name given.channel name)) board) (changed ∙ ap is_none e))).1

  pub name_workers : (name : List ℕ) (r : Result Named BoardFault) → IfOk r (λ given. new ≡ cond given.changed (with_entry board by (Name given.channel name)) board) → OnErr r (new ≡ board) → new.workers ≡ board.workers
  name_workers name (Err fault) entry same = ap (λ (b : BoardView). b.workers) same
  name_workers name (Ok given) entry same = on given.changed entry
    where
      on : (b : Bool) → new ≡ cond b (with_entry board by (Name given.channel name)) board → new.workers ≡ board.workers
      on true e = ap (λ (b : BoardView). b.workers) e
      on false e = ap (λ (b : BoardView). b.workers) e

  pub channel_appends : (r : Result Named BoardFault) → IsLawful new.workers new.history → IfOk r (λ given. new ≡ with_entry board by (NewChannel given.channel)) → IfOk r (λ given. given.changed ≡ true) → OnErr r (new ≡ board) → AppendsOnBoard by board.history new.history (channel_answer (NewChannel ((register board.history).channels + 1)) r)
  channel_appends (Err fault) lawful entry changed same = refused_on_board by board.history new.history fault (same_history same)
  channel_appends (Ok given) lawful entry changed same =
      subst (λ (b : Bool). AppendsOnBoard by board.history new.history (cond b (adds (AChannel given.channel) (NewChannel ((register board.history).channels + 1))) (only (AChannel given.channel)))) (sym changed)
      (entry_as (NewChannel given.channel) (NewChannel ((register board.history).channels + 1)) entry (ap NewChannel (number_channel given.channel lawful entry).0))

  pub channel_fits : (r : Result Named BoardFault) → IsLawful new.workers new.history → IfOk r (λ given. new ≡ with_entry board by (NewChannel given.channel)) → IfOk r (λ given. IsChannelNo given.channel)
  channel_fits (Err fault) lawful entry = tt
  channel_fits (Ok given) lawful entry = (number_channel given.channel lawful entry).1

  pub channel_workers : (r : Result Named BoardFault) → IfOk r (λ given. new ≡ with_entry board by (NewChannel given.channel)) → OnErr r (new ≡ board) → new.workers ≡ board.workers
  channel_workers (Err fault) entry same = ap (λ (b : BoardView). b.workers) same
  channel_workers (Ok given) entry same = ap (λ (b : BoardView). b.workers) entry

  pub thread_appends : (source : Source) (r : Result (ℕ × ℕ) BoardFault) → IsLawful new.workers new.history → IfOk r (λ given. new ≡ with_entry board by (NewThread given.1 source)) → OnErr r (new ≡ board) → AppendsOnBoard by board.history new.history (thread_answer (NewThread (length (register board.history).threads + 1) source) r)
  thread_appends source (Err fault) lawful entry same = refused_on_board by board.history new.history fault (same_history same)
  thread_appends source (Ok given) lawful entry same = entry_as (NewThread given.1 source) (NewThread (length (register board.history).threads + 1) source) entry (ap (λ (n : ℕ). NewThread n source) (number_thread given.1 source lawful entry))

  pub thread_workers : (source : Source) (r : Result (ℕ × ℕ) BoardFault) → IfOk r (λ given. new ≡ with_entry board by (NewThread given.1 source)) → OnErr r (new ≡ board) → new.workers ≡ board.workers
  thread_workers source (Err fault) entry same = ap (λ (b : BoardView). b.workers) same
  thread_workers source (Ok given) entry same = ap (λ (b : BoardView). b.workers) entry

  pub start_appends : (thread : ℕ) (args : List Variant) (r : Result (ℕ × ℕ) BoardFault) → IsLawful new.workers new.history → IfOk r (λ given. new ≡ with_entry board by (Start given.1 thread args)) → OnErr r (new ≡ board) → AppendsOnBoard by board.history new.history (started_answer (Start (length (register board.history).states + 1) thread args) r)
  start_appends thread args (Err fault) lawful entry same = refused_on_board by board.history new.history fault (same_history same)
  start_appends thread args (Ok given) lawful entry same = entry_as (Start given.1 thread args) (Start (length (register board.history).states + 1) thread args) entry (ap (λ (n : ℕ). Start n thread args) (number_start given.1 thread args lawful entry))

  pub start_workers : (thread : ℕ) (args : List Variant) (r : Result (ℕ × ℕ) BoardFault) → IfOk r (λ given. new ≡ with_entry board by (Start given.1 thread args)) → OnErr r (new ≡ board) → new.workers ≡ board.workers
  start_workers thread args (Err fault) entry same = ap (λ (b : BoardView). b.workers) same
  start_workers thread args (Ok given) entry same = ap (λ (b : BoardView). b.workers) entry
