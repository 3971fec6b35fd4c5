-- Which numbers the changes of a lawful board bear, and that its named Channels are at most 1,024.
use Rattle.std.proofs.Common.{◌≡◌, ◌∙◌, ℕ, suc, ◌+◌, ◌<◌, ◌≤◌, Bool, true, false, cond, nat_lt, nat_eq, nat_le, is_some, is_none, List, [], ◌∷◌, ◌++◌, length, Option, Some, None, refl, sym, ap, subst, arith, All}
use Rattle.std.specs.Prelude.{⊤, ◌&&◌}
use Rattle.std.specs.Cmp.Lexicographic.{pointwise}
use Rattle.std.proofs.lemmas.Bool.Decides.{nat_tests}
use Rattle.std.proofs.lemmas.List.Elements.{All-push}
use Rattle.variant.proofs.Histories.{by_entries, AtEach-before, AtEach-last}
use Rattle.variant.specs.declared.message.Variant.{Variant}
use Rattle.variant.specs.declared.ask.Ask.{Ask}
use Rattle.variant.specs.declared.ask.Ask.TheVariants.{Name as AskName, NewChannel as AskNewChannel, NewThread as AskNewThread, Start as AskStart, IsRunning, ErrorOf, WaitFor}
use Rattle.variant.specs.declared.reply.Reply.TheVariants.{Channel as AChannel, Thread as AThread, Done, Flag, Refused}
use Rattle.variant.specs.declared.reply.Refusal.TheVariants.{TooManyChannels, TooManyThreads, TooManyRunning, TooManyStarts}
use Rattle.variant.specs.declared.action.Deed.{Deed}
use Rattle.variant.specs.declared.action.Deed.TheVariants.{Asked, Begin as DeedBegin, End as DeedEnd, MainEnd as DeedMainEnd}
use Rattle.thread_board.specs.declared.entry.BoardEntry.{BoardEntry}
use Rattle.thread_board.specs.declared.entry.BoardChange.{BoardChange}
use Rattle.thread_board.specs.declared.entry.BoardChange.TheVariants.{Name, NewChannel, NewThread, Start, Begin, End, MainEnd}
use Rattle.thread_board.specs.declared.job.Job.{Job}
use Rattle.thread_board.specs.declared.place.Started.{Started}
use Rattle.thread_board.specs.declared.place.Thread.{Thread}
use Rattle.thread_board.specs.Answers.{Answer, answer_by, answer_to, only, adds, named, start_answer, started_thread, started, words, begun, channel_limit, thread_limit, start_limit}
use Rattle.thread_board.specs.Lawful.{IsLawful, MayFollow}
use Rattle.thread_board.specs.Register.{Register, register, after_change, channel_of, ended_as, error_of, is_working, numbered, running, state_of}
use Rattle.thread_board.proofs.Registering.{register-push}

-- a number of a Channel
abbrev pub IsChannelNo : ℕ → Type 0
IsChannelNo n = (1 ≤ n) × (n ≤ 1024)

-- what is made has the next number
abbrev pub Numbers : Register → Option BoardChange → Type 0
Numbers r None = ⊤
Numbers r (Some (Name channel name)) = (channel ≡ r.channels + 1) × IsChannelNo channel
Numbers r (Some (NewChannel channel)) = (channel ≡ r.channels + 1) × IsChannelNo channel
Numbers r (Some (NewThread thread source)) = thread ≡ length r.threads + 1
Numbers r (Some (Start state thread args)) = state ≡ length r.states + 1
Numbers r (Some (Begin worker)) = ⊤
Numbers r (Some (End end)) = ⊤
Numbers r (Some MainEnd) = ⊤

abbrev pub change_in : Option Answer → Option BoardChange
change_in None = None
change_in (Some a) = a.change

either : (r : Register) (b : Bool) (x y : Option Answer) → Numbers r (change_in x) → Numbers r (change_in y) → Numbers r (change_in (cond b x y))
either r true x y p q = p
either r false x y p q = q

by_test : (r : Register) (b : Bool) (x y : Option Answer) → (b ≡ true → Numbers r (change_in x)) → Numbers r (change_in y) → Numbers r (change_in (cond b x y))
by_test r true x y p q = p refl
by_test r false x y p q = q

room_for : (r : Register) → nat_lt r.channels channel_limit ≡ true → IsChannelNo (r.channels + 1)
room_for r test = let below : r.channels < 1024 = grind (arith, nat_tests) in (omega arith, omega arith)

named_numbers : (r : Register) (name : List ℕ) (found : Option ℕ) → Numbers r (change_in (named r name found))
named_numbers r name (Some channel) = tt
named_numbers r name None = by_test r (nat_lt r.channels channel_limit) (adds (AChannel (r.channels + 1)) (Name (r.channels + 1) name)) (only (Refused TooManyChannels)) (λ test. (refl, room_for r test)) tt

started_numbers : (workers : ℕ) (r : Register) (state thread : ℕ) (args : List Variant) → state ≡ length r.states + 1 → Numbers r (change_in (started workers r (Start state thread args)))
started_numbers workers r state thread args e =
    either r (nat_lt (length r.states) start_limit) (cond (nat_eq (running r) workers) (only (Refused (TooManyRunning workers))) (adds (Flag true) (Start state thread args))) (only (Refused TooManyStarts))
    (either r (nat_eq (running r) workers) (only (Refused (TooManyRunning workers))) (adds (Flag true) (Start state thread args)) tt e) tt

thread_numbers : (workers : ℕ) (r : Register) (state thread : ℕ) (args : List Variant) (found : Option Thread) → state ≡ length r.states + 1 → Numbers r (change_in (started_thread workers r (Start state thread args) found))
thread_numbers workers r state thread args None e = tt
thread_numbers workers r state thread args (Some made) e = either r (is_some made.runs) (only (Flag false)) (started workers r (Start state thread args)) tt (started_numbers workers r state thread args e)

start_numbers : (workers : ℕ) (r : Register) (state thread : ℕ) (args : List Variant) (place : Option ℕ) → state ≡ length r.states + 1 → Numbers r (change_in (start_answer workers r thread (Start state thread args) place))
start_numbers workers r state thread args (Some place) e = tt
start_numbers workers r state thread args None e = thread_numbers workers r state thread args (numbered r.threads thread) e

words_numbers : (r : Register) (text : Option (List ℕ)) → Numbers r (change_in (words text))
words_numbers r None = tt
words_numbers r (Some text) = tt

asked_numbers : (workers : ℕ) (ask : Ask) (r : Register) (h : List BoardEntry) → Numbers r (change_in (answer_to workers ask r h))
asked_numbers workers (AskName name) r h = named_numbers r name (channel_of r.names name)
asked_numbers workers AskNewChannel r h = by_test r (nat_lt r.channels channel_limit) (adds (AChannel (r.channels + 1)) (NewChannel (r.channels + 1))) (only (Refused TooManyChannels)) (λ test. (refl, room_for r test)) tt
asked_numbers workers (AskNewThread source) r h = either r (nat_lt (length r.threads) thread_limit) (adds (AThread (length r.threads + 1)) (NewThread (length r.threads + 1) source)) (only (Refused TooManyThreads)) refl tt
asked_numbers workers (AskStart thread args) r h = start_numbers workers r (length r.states + 1) thread args r.main_end refl
asked_numbers workers (IsRunning thread) r h = tt
asked_numbers workers (ErrorOf thread) r h = words_numbers r (error_of h thread)
asked_numbers workers (WaitFor thread) r h = either r (is_some (state_of r thread)) None (only Done) tt tt
asked_numbers workers ask r h = tt

begun_numbers : (workers worker state : ℕ) (r : Register) (waiting : List Job) → Numbers r (change_in (begun workers worker state waiting))
begun_numbers workers worker state r [] = tt
begun_numbers workers worker state r (job ∷ others) = either r (nat_eq job.state state && nat_le 1 worker && nat_le worker workers) (adds Done (Begin worker)) None tt tt

deed_numbers : (workers worker : ℕ) (deed : Deed) (state : ℕ) (r : Register) (h : List BoardEntry) → Numbers r (change_in (answer_by workers worker deed state r h))
deed_numbers workers worker (Asked ask) state r h = asked_numbers workers ask r h
deed_numbers workers worker DeedBegin state r h = begun_numbers workers worker state r r.waiting
deed_numbers workers worker (DeedEnd end) state r h = either r (is_working r state) (adds Done (End end)) None tt tt
deed_numbers workers worker DeedMainEnd state r h = either r (nat_eq state 0 && is_none r.main_end) (adds Done MainEnd) None tt tt
deed_numbers workers worker deed state r h = tt

-- the last change of a lawful history
pub last_numbers : (workers : ℕ) (h : List BoardEntry) (e : BoardEntry) → IsLawful workers (h ++ e ∷ []) → Numbers (register h) (Some e.what)
last_numbers workers h e lawful =
    let m : MayFollow workers h e = AtEach-last (MayFollow workers) h e lawful in let r : Register = register h in
    subst (Numbers r) (ap change_in m.answered.1 ∙ m.adds) (deed_numbers workers m.answered.0 m.deed e.by.state r h)

abbrev pub AreChannelNos : Register → Type 0
AreChannelNos r = All (λ (known : List ℕ × ℕ). IsChannelNo known.1) r.names

ended_names : (r : Register) (by : ℕ) (state : Option Started) → AreChannelNos r → AreChannelNos (ended_as r by state)
ended_names r by None all = all
ended_names r by (Some state) all = all

names_after : (r : Register) (by : ℕ) (change : BoardChange) → AreChannelNos r → Numbers r (Some change) → AreChannelNos (after_change r by change)
names_after r by (Name channel name) all n = All-push (λ (known : List ℕ × ℕ). IsChannelNo known.1) r.names (name, channel) all n.1
names_after r by (NewChannel channel) all n = all
names_after r by (NewThread thread source) all n = all
names_after r by (Start state thread args) all n = all
names_after r by (Begin worker) all n = all
names_after r by (End end) all n = ended_names r by (numbered r.states by) all
names_after r by MainEnd all n = all

-- each name of a lawful board is that of a Channel
pub names_lawful : (workers : ℕ) (h : List BoardEntry) → IsLawful workers h → AreChannelNos (register h)
names_lawful workers = by_entries (λ (h : List BoardEntry). IsLawful workers h → AreChannelNos (register h)) (λ lawful k d lt. absurd (omega arith))
    (λ h e before lawful. subst AreChannelNos (sym (register-push h e)) (names_after (register h) e.by.state e.what (before (AtEach-before (MayFollow workers) h (e ∷ []) lawful)) (last_numbers workers h e lawful)))

rest_names : (known : List ℕ × ℕ) (names : List (List ℕ × ℕ)) → All (λ (x : List ℕ × ℕ). IsChannelNo x.1) (known ∷ names) → All (λ (x : List ℕ × ℕ). IsChannelNo x.1) names
rest_names known names all = λ k d lt. all (suc k) d (omega arith)

some_same : (a b : ℕ) → Some a ≡ Some b → a ≡ b
some_same a b e = cc

pub known_channel : (names : List (List ℕ × ℕ)) (name : List ℕ) (channel : ℕ) → All (λ (x : List ℕ × ℕ). IsChannelNo x.1) names → channel_of names name ≡ Some channel → IsChannelNo channel
known_channel [] name channel all e = absurd (no e)
  where
    no : None ≡ Some channel → ⊥
    no e = cc
known_channel (known ∷ others) name channel all e = on (pointwise nat_eq name known.0) (known_channel others name channel (rest_names known others all)) e
  where
    on : (b : Bool) → (channel_of others name ≡ Some channel → IsChannelNo channel) → cond b (Some known.1) (channel_of others name) ≡ Some channel → IsChannelNo channel
    on true among here = subst IsChannelNo (some_same known.1 channel here) (all 0 known (omega arith))
    on false among there = among there
