-- Which changes keep a board sound.
use Rattle.std.proofs.Common.{◌≡◌, ℕ, suc, ◌+◌, ◌-◌, ◌<◌, ◌≤◌, Bool, true, false, not, nat_eq, nat_lt, nat_le, List, [], ◌∷◌, ◌++◌, length, drop, Option, Some, None, refl, sym, ap, ◌∙◌, arith, add-one, length-append}
use Rattle.std.specs.Prelude.{All, ◌&&◌}
use Rattle.std.specs.Option.{option_map_or}
use Rattle.std.proofs.lemmas.List.{length-set}
use Rattle.std.proofs.lemmas.List.Elements.{All-push, All-weaker, All-set}
use Rattle.love_base.specs.declared.stamp.Stamp.{Stamp}
use Rattle.variant.proofs.Histories.{AtEach-push}
use Rattle.variant.specs.declared.message.Variant.{Variant}
use Rattle.variant.specs.declared.end_kind.EndKind.{EndKind}
use Rattle.variant.specs.declared.source.Source.{Source}
use Rattle.variant.specs.declared.ask.Ask.TheVariants.{Name as AskName, NewChannel as AskNewChannel, NewThread as AskNewThread, Start as AskStart}
use Rattle.variant.specs.declared.reply.Reply.TheVariants.{Done, Flag, Channel, Thread as ReplyThread}
use Rattle.variant.specs.declared.reply.Reply.{Reply}
use Rattle.variant.specs.declared.action.Deed.{Deed}
use Rattle.variant.specs.declared.action.Deed.TheVariants.{Asked, Begin as DeedBegin, End as DeedEnd, MainEnd as DeedMainEnd}
use Rattle.thread_board.specs.declared.entry.BoardEntry.{BoardEntry}
use Rattle.thread_board.specs.declared.entry.BoardChange.{BoardChange}
use Rattle.thread_board.specs.declared.entry.BoardChange.TheVariants.{Name, NewChannel, NewThread, Start, Begin, End, MainEnd}
use Rattle.thread_board.specs.declared.job.Job.{Job}
use Rattle.thread_board.specs.declared.place.Started.{Started}
use Rattle.thread_board.specs.declared.place.Thread.{Thread}
use Rattle.thread_board.specs.Register.{Register, register, after_change, ended_as, started_as, channel_of, numbered, running, is_working}
use Rattle.thread_board.specs.Answers.{channel_limit, thread_limit, start_limit, answer_by, adds}
use Rattle.thread_board.specs.Lawful.{IsLater, MayFollow}
use Rattle.thread_board.specs.Sound.{IsSound, NumberedFrom, MayStart, owed, main_owed, ended_count}
use Rattle.thread_board.proofs.Registering.{register-push, length-change_thread, not_ended-started, not_ended-numbered, All-numbered, numbered-within}

-- an entry of a state
abbrev entry : Stamp → BoardChange → BoardEntry
entry by change = record { by = by; what = change }

-- the entry of a deed may follow
follows : (workers worker : ℕ) (h : List BoardEntry) (r : Register) (by : Stamp) (deed : Deed) (reply : Reply) (change : BoardChange)
    → r ≡ register h → answer_by workers worker deed by.state r h ≡ adds reply change → IsLater h by → MayFollow workers h (entry by change)
follows workers worker h r by deed reply change same answered later = record {
  deed = deed;
  given = record { reply = reply; change = Some change };
  answered = (worker, ap (λ r. answer_by workers worker deed by.state r h) (sym same) ∙ answered);
  adds = refl;
  number = later;
}

-- what stands on the board after the entry
after : (h : List BoardEntry) (r : Register) (by : Stamp) (change : BoardChange) → r ≡ register h → after_change r by.state change ≡ register (h ++ entry by change ∷ [])
after h r by change same = ap (λ r. after_change r by.state change) same ∙ sym (register-push h (entry by change))

-- all states have begun, where one more entry is by one that has
still_active : (h : List BoardEntry) (by : Stamp) (change : BoardChange) (begun more : ℕ) → All (λ e. e.by.state ≤ begun) h → begun ≤ more → by.state ≤ more → All (λ e. e.by.state ≤ more) (h ++ entry by change ∷ [])
still_active h by change begun more active rises here =
    All-push (λ (e : BoardEntry). e.by.state ≤ more) h (entry by change)
    (All-weaker (λ (e : BoardEntry). e.by.state ≤ begun) (λ (e : BoardEntry). e.by.state ≤ more) (λ e below. omega arith) h active) here

-- a new Channel, named or not, as a change that makes one
pub IsSound-name : (workers : ℕ) (h : List BoardEntry) (r : Register) (count room more : ℕ) (by : Stamp) (name : List ℕ)
    → IsSound workers h r count room → channel_of r.names name ≡ None → r.channels < channel_limit → by.state ≤ r.begun → IsLater h by → length h + owed workers r + 1 ≤ more
    → IsSound workers (h ++ entry by (Name (r.channels + 1) name) ∷ []) (after_change r by.state (Name (r.channels + 1) name)) count more
IsSound-name workers h r count room more by name sound fresh below begun later spare =
    let change = Name (r.channels + 1) name in
    let longer = length-append h (entry by change ∷ []) in
    let test : nat_lt r.channels channel_limit ≡ true = grind arith in
    let answered : answer_by workers 0 (Asked (AskName name)) by.state r h ≡ adds (Channel (r.channels + 1)) change = rw (fresh, test) refl in
    record {
      same = after h r by change sound.same;
      lawful = AtEach-push (MayFollow workers) h (entry by change) sound.lawful (follows workers 0 h r by (Asked (AskName name)) _ change sound.same answered later);
      entries = omega (arith, longer, sound.entries);
      channels = omega arith;
      threads = sound.threads;
      states = sound.states;
      counted = sound.counted;
      begun = sound.begun;
      order = sound.order;
      owners = sound.owners;
      active = still_active h by change r.begun r.begun sound.active (omega arith) begun;
      total = omega (arith, longer, sound.total);
      spare = omega (arith, longer);
    }

pub IsSound-new_channel : (workers : ℕ) (h : List BoardEntry) (r : Register) (count room more : ℕ) (by : Stamp)
    → IsSound workers h r count room → r.channels < channel_limit → by.state ≤ r.begun → IsLater h by → length h + owed workers r + 1 ≤ more
    → IsSound workers (h ++ entry by (NewChannel (r.channels + 1)) ∷ []) (after_change r by.state (NewChannel (r.channels + 1))) count more
IsSound-new_channel workers h r count room more by sound below begun later spare =
    let change = NewChannel (r.channels + 1) in
    let longer = length-append h (entry by change ∷ []) in
    let test : nat_lt r.channels channel_limit ≡ true = grind arith in
    let answered : answer_by workers 0 (Asked AskNewChannel) by.state r h ≡ adds (Channel (r.channels + 1)) change = rw test refl in
    record {
      same = after h r by change sound.same;
      lawful = AtEach-push (MayFollow workers) h (entry by change) sound.lawful (follows workers 0 h r by (Asked AskNewChannel) _ change sound.same answered later);
      entries = omega (arith, longer, sound.entries);
      channels = omega arith;
      threads = sound.threads;
      states = sound.states;
      counted = sound.counted;
      begun = sound.begun;
      order = sound.order;
      owners = sound.owners;
      active = still_active h by change r.begun r.begun sound.active (omega arith) begun;
      total = omega (arith, longer, sound.total);
      spare = omega (arith, longer);
    }

pub IsSound-new_thread : (workers : ℕ) (h : List BoardEntry) (r : Register) (count room more : ℕ) (by : Stamp) (source : Source)
    → IsSound workers h r count room → length r.threads < thread_limit → by.state ≤ r.begun → IsLater h by → length h + owed workers r + 1 ≤ more
    → IsSound workers (h ++ entry by (NewThread (length r.threads + 1) source) ∷ []) (after_change r by.state (NewThread (length r.threads + 1) source)) count more
IsSound-new_thread workers h r count room more by source sound below begun later spare =
    let change = NewThread (length r.threads + 1) source in
    let longer = length-append h (entry by change ∷ []) in
    let made : Thread = record { source = source; runs = None; ended = None } in
    let wider = length-append r.threads (made ∷ []) in
    let test : nat_lt (length r.threads) thread_limit ≡ true = grind arith in
    let answered : answer_by workers 0 (Asked (AskNewThread source)) by.state r h ≡ adds (ReplyThread (length r.threads + 1)) change = rw test refl in
    record {
      same = after h r by change sound.same;
      lawful = AtEach-push (MayFollow workers) h (entry by change) sound.lawful (follows workers 0 h r by (Asked (AskNewThread source)) _ change sound.same answered later);
      entries = omega (arith, longer, sound.entries);
      channels = sound.channels;
      threads = omega (arith, wider);
      states = sound.states;
      counted = sound.counted;
      begun = sound.begun;
      order = sound.order;
      owners = All-weaker (λ (s : Started). (1 ≤ s.thread) × (s.thread ≤ length r.threads)) (λ (s : Started). (1 ≤ s.thread) × (s.thread ≤ length (r.threads ++ made ∷ []))) (λ s within. (within.0, omega (arith, wider, within.1))) r.states sound.owners;
      active = still_active h by change r.begun r.begun sound.active (omega arith) begun;
      total = omega (arith, longer, wider, sound.total);
      spare = omega (arith, longer);
    }

-- jobs are numbered on
NumberedFrom-push : (n : ℕ) (jobs : List Job) (job : Job) → NumberedFrom n jobs → job.state ≡ n + length jobs → NumberedFrom n (jobs ++ job ∷ [])
NumberedFrom-push n [] job order is = (omega (arith, is), tt)
NumberedFrom-push n (j ∷ js) job order is = (order.0, NumberedFrom-push (suc n) js job order.1 (omega (arith, is)))

-- a Thread that may be started was made and doesn't run, and its job is the one of the state
may_start : (workers : ℕ) (r : Register) (thread : ℕ) (args : List Variant) (job : Job) (found : Option Thread) → numbered r.threads thread ≡ found
    → MayStart workers r thread args job → (1 ≤ thread) × (thread ≤ length r.threads) × (job.state ≡ length r.states + 1) × ((h : List BoardEntry) (by : ℕ) → answer_by workers 0 (Asked (AskStart thread args)) by r h ≡ adds (Flag true) (Start (length r.states + 1) thread args))
may_start workers r thread args job None is may = absurd (none (rw is at may.made))
  where
    none : [] ≡ job ∷ [] → ⊥
    none e = cc
may_start workers r thread args job (Some made) is may =
    let within = numbered-within r.threads thread made is in
    let idle : made.runs ≡ None = rw is at may.idle in
    let states : nat_lt (length r.states) start_limit ≡ true = (let left = may.states_left in grind arith) in
    let running' : nat_eq (running r) workers ≡ false = (let left = may.workers_left in grind arith) in
    (within.0, within.1, sym (ap job_state (rw is at may.made)), λ h by. rw (may.goes_on, is, idle, states, running') refl)
  where
    job_state : List Job → ℕ
    job_state [] = length r.states + 1
    job_state (j ∷ js) = j.state

pub thread-may_start : (workers : ℕ) (r : Register) (thread : ℕ) (args : List Variant) (job : Job) → MayStart workers r thread args job → (1 ≤ thread) × (thread ≤ length r.threads)
thread-may_start workers r thread args job may = let all = may_start workers r thread args job (numbered r.threads thread) refl may in (all.0, all.1)

pub state-may_start : (workers : ℕ) (r : Register) (thread : ℕ) (args : List Variant) (job : Job) → MayStart workers r thread args job → job.state ≡ length r.states + 1
state-may_start workers r thread args job may = (may_start workers r thread args job (numbered r.threads thread) refl may).2

pub answer-may_start : (workers : ℕ) (r : Register) (thread : ℕ) (args : List Variant) (job : Job) (h : List BoardEntry) (by : ℕ) → MayStart workers r thread args job → answer_by workers 0 (Asked (AskStart thread args)) by r h ≡ adds (Flag true) (Start (length r.states + 1) thread args)
answer-may_start workers r thread args job h by may = (may_start workers r thread args job (numbered r.threads thread) refl may).3 h by

IsSound-start : (workers : ℕ) (h : List BoardEntry) (r : Register) (count room more : ℕ) (by : Stamp) (thread : ℕ) (args : List Variant) (job : Job)
    → IsSound workers h r count room → MayStart workers r thread args job → by.state ≤ r.begun → IsLater h by → length h + owed workers r + 3 ≤ more
    → IsSound workers (h ++ entry by (Start (length r.states + 1) thread args) ∷ []) (started_as r (length r.states + 1) thread (job ∷ [])) (count + 1) more
IsSound-start workers h r count room more by thread args job sound may begun later spare =
    let change = Start (length r.states + 1) thread args in
    let longer = length-append h (entry by change ∷ []) in
    let begins : Started = record { thread = thread; ended = false } in
    let wider = length-append r.states (begins ∷ []) in
    let waits = length-append r.waiting (job ∷ []) in
    let same_threads = length-change_thread r.threads thread (Some (length r.states + 1)) None in
    let within = thread-may_start workers r thread args job may in
    let number = state-may_start workers r thread args job may in
    let one_more = not_ended-started r.states thread in
    record {
      same = ap (λ jobs. started_as r (length r.states + 1) thread jobs) (sym may.made) ∙ after h r by change sound.same;
      lawful = AtEach-push (MayFollow workers) h (entry by change) sound.lawful (follows workers 0 h r by (Asked (AskStart thread args)) _ change sound.same (answer-may_start workers r thread args job h by.state may) later);
      entries = omega (arith, longer, sound.entries);
      channels = sound.channels;
      threads = omega (arith, same_threads, sound.threads);
      states = omega (arith, wider, may.states_left);
      counted = omega (arith, one_more, sound.counted);
      begun = omega (arith, waits, wider, sound.begun);
      order = NumberedFrom-push (suc r.begun) r.waiting job sound.order (omega (arith, number, sound.begun));
      owners = rw same_threads (All-push (λ (s : Started). (1 ≤ s.thread) × (s.thread ≤ length r.threads)) r.states begins sound.owners within);
      active = still_active h by change r.begun r.begun sound.active (omega arith) begun;
      total = omega (arith, longer, same_threads, wider, one_more, sound.total);
      spare = omega (arith, longer, waits, one_more);
    }

-- the same, by the number of the new state
pub IsSound-start_as : (workers : ℕ) (h : List BoardEntry) (r : Register) (count room more : ℕ) (by : Stamp) (state thread : ℕ) (args : List Variant) (job : Job)
    → IsSound workers h r count room → MayStart workers r thread args job → state ≡ length r.states + 1 → by.state ≤ r.begun → IsLater h by → length h + owed workers r + 3 ≤ more
    → IsSound workers (h ++ entry by (Start state thread args) ∷ []) (started_as r state thread (job ∷ [])) (count + 1) more
IsSound-start_as workers h r count room more by state thread args job sound may number begun later spare =
    rw number (IsSound-start workers h r count room more by thread args job sound may begun later spare)

-- the first job that waits begins
pub IsSound-begin : (workers : ℕ) (h : List BoardEntry) (r : Register) (count room more worker : ℕ) (job : Job) (others : List Job)
    → IsSound workers h r count room → r.waiting ≡ job ∷ others → (1 ≤ worker) × (worker ≤ workers) → room ≤ more
    → IsSound workers (h ++ entry (record { state = job.state; number = 1 }) (Begin worker) ∷ []) (after_change r job.state (Begin worker)) count more
IsSound-begin workers h r count room more worker job others sound waits within rises =
    let by : Stamp = record { state = job.state; number = 1 } in
    let change = Begin worker in
    let longer = length-append h (entry by change ∷ []) in
    let order : NumberedFrom (suc r.begun) (job ∷ others) = rw waits at sound.order in
    let one_less : length r.waiting ≡ suc (length others) = ap length waits in
    let rest : drop 1 r.waiting ≡ others = ap (drop 1) waits in
    let mine : nat_eq job.state job.state ≡ true = grind arith in
    let low : nat_le 1 worker ≡ true = (let a = within.0 in grind arith) in
    let high : nat_le worker workers ≡ true = (let a = within.1 in grind arith) in
    let answered : answer_by workers worker DeedBegin job.state r h ≡ adds Done change = rw (waits, mine, low, high) refl in
    let later : IsLater h by = All-weaker (λ (e : BoardEntry). e.by.state ≤ r.begun) (λ (e : BoardEntry). e.by.state ≡ job.state → e.by.number < 1) (λ e active same. absurd (omega (arith, order.0))) h sound.active in
    record {
      same = after h r by change sound.same;
      lawful = AtEach-push (MayFollow workers) h (entry by change) sound.lawful (follows workers worker h r by DeedBegin Done change sound.same answered later);
      entries = omega (arith, longer, sound.entries);
      channels = sound.channels;
      threads = sound.threads;
      states = sound.states;
      counted = sound.counted;
      begun = rw rest (omega (arith, one_less, sound.begun));
      order = rw (rest, add-one) order.1;
      owners = sound.owners;
      active = still_active h by change r.begun (r.begun + 1) sound.active (omega arith) (omega (arith, order.0));
      total = omega (arith, longer, sound.total);
      spare = rw rest (omega (arith, longer, one_less, sound.spare));
    }

-- a state that works was started, and hasn't ended
pub working : (r : Register) (state : ℕ) → is_working r state ≡ true → (state ≤ r.begun) × ((started : Started) × (numbered r.states state ≡ Some started) × (started.ended ≡ false))
working r state works = by_parts (nat_le state r.begun) (numbered r.states state) refl refl works
  where
    runs : (ended : Bool) → not ended ≡ true → ended ≡ false
    runs true is = absurd (cc)
    runs false is = refl

    by_parts : (low : Bool) (found : Option Started) → nat_le state r.begun ≡ low → numbered r.states state ≡ found → (low && option_map_or (λ (s : Started). not s.ended) found false) ≡ true
        → (state ≤ r.begun) × ((started : Started) × (numbered r.states state ≡ Some started) × (started.ended ≡ false))
    by_parts false found low is both = absurd (cc)
    by_parts true None low is both = absurd (cc)
    by_parts true (Some started) low is both = (grind arith, (started, is, runs started.ended both))

-- what works by the history works by what is kept
pub working-kept : (workers : ℕ) (h : List BoardEntry) (r : Register) (count room state : ℕ) → IsSound workers h r count room → is_working (register h) state ≡ true → is_working r state ≡ true
working-kept workers h r count room state sound works = ap (λ r. is_working r state) sound.same ∙ works

-- where a state works one runs, and there is room for its end
pub count-working : (workers : ℕ) (h : List BoardEntry) (r : Register) (count room state : ℕ) → IsSound workers h r count room → is_working (register h) state ≡ true → (1 ≤ count) × (length h < room)
count-working workers h r count room state sound works =
    let found = (working r state (working-kept workers h r count room state sound works)).1 in
    let one = not_ended-numbered r.states state found.0 found.1 found.2 in
    (omega (arith, one, sound.counted), omega (arith, one, sound.spare))

pub IsSound-end : (workers : ℕ) (h : List BoardEntry) (r : Register) (count less room more : ℕ) (by : Stamp) (end : EndKind) (state : Started)
    → IsSound workers h r count room → is_working r by.state ≡ true → numbered r.states by.state ≡ Some state → state.ended ≡ false → count ≡ less + 1 → IsLater h by → room ≤ more
    → IsSound workers (h ++ entry by (End end) ∷ []) (ended_as r by.state (Some state)) less more
IsSound-end workers h r count less room more by end state sound works found runs fewer later rises =
    let change = End end in
    let longer = length-append h (entry by change ∷ []) in
    let same_threads = length-change_thread r.threads state.thread None (Some r.entries) in
    let same_states = length-set r.states (by.state - 1) (record { thread = state.thread; ended = true }) in
    let one_less = not_ended-numbered r.states by.state state found runs in
    let owner = All-numbered (λ (s : Started). (1 ≤ s.thread) × (s.thread ≤ length r.threads)) r.states by.state state found sound.owners in
    let answered : answer_by workers 0 (DeedEnd end) by.state r h ≡ adds Done change = rw works refl in
    record {
      same = ap (λ found. ended_as r by.state found) (sym found) ∙ after h r by change sound.same;
      lawful = AtEach-push (MayFollow workers) h (entry by change) sound.lawful (follows workers 0 h r by (DeedEnd end) Done change sound.same answered later);
      entries = omega (arith, longer, sound.entries);
      channels = sound.channels;
      threads = omega (arith, same_threads, sound.threads);
      states = omega (arith, same_states, sound.states);
      counted = omega (arith, one_less, sound.counted);
      begun = omega (arith, same_states, sound.begun);
      order = sound.order;
      owners = rw same_threads (All-set (λ (s : Started). (1 ≤ s.thread) × (s.thread ≤ length r.threads)) r.states (by.state - 1) (record { thread = state.thread; ended = true }) owner sound.owners);
      active = still_active h by change r.begun r.begun sound.active (omega arith) (working r by.state works).0;
      total = omega (arith, longer, same_threads, same_states, one_less, sound.total);
      spare = omega (arith, longer, one_less, sound.spare);
    }

pub IsSound-main_end : (workers : ℕ) (h : List BoardEntry) (r : Register) (count room more : ℕ) (by : Stamp)
    → IsSound workers h r count room → by.state ≡ 0 → r.main_end ≡ None → 0 < workers → IsLater h by → room ≤ more
    → IsSound workers (h ++ entry by MainEnd ∷ []) (after_change r by.state MainEnd) count more
IsSound-main_end workers h r count room more by sound main none some later rises =
    let longer = length-append h (entry by MainEnd ∷ []) in
    let test : nat_lt 0 workers ≡ true = grind arith in
    let owes : main_owed workers r.main_end ≡ 1 = rw (none, test) refl in
    let before : ended_count r.main_end ≡ 0 = rw none refl in
    let answered : answer_by workers 0 DeedMainEnd by.state r h ≡ adds Done MainEnd = rw (main, none) refl in
    record {
      same = after h r by MainEnd sound.same;
      lawful = AtEach-push (MayFollow workers) h (entry by MainEnd) sound.lawful (follows workers 0 h r by DeedMainEnd Done MainEnd sound.same answered later);
      entries = omega (arith, longer, sound.entries);
      channels = sound.channels;
      threads = sound.threads;
      states = sound.states;
      counted = sound.counted;
      begun = sound.begun;
      order = sound.order;
      owners = sound.owners;
      active = still_active h by MainEnd r.begun r.begun sound.active (omega arith) (omega (arith, main));
      total = omega (arith, longer, before, sound.total);
      spare = omega (arith, longer, owes, sound.spare);
    }
