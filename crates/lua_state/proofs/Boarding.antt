-- What an action at the board leaves of all objects.
use Rattle.std.specs.Prelude.{is_some, nat_lt, nat_eq, ◌&&◌}
use Rattle.std.proofs.Common.{◌≡◌, ◌∙◌, ℕ, ◌+◌, ◌-◌, ◌≤◌, Bool, true, false, cond, List, [], ◌∷◌, ◌++◌, length, get_or, Option, Some, None, Ok, refl, sym, ap, subst, arith, append-nil, length-append}
use Rattle.std.proofs.lemmas.List.Sums.{fold_push}
use Rattle.love_base.specs.declared.stamp.Stamp.{Stamp}
use Rattle.variant.specs.declared.ask.Ask.{Ask}
use Rattle.variant.specs.declared.ask.Ask.TheVariants.{Name, NewChannel, NewThread, Start, IsRunning, ErrorOf, WaitFor}
use Rattle.variant.specs.declared.reply.Reply.{Reply}
use Rattle.variant.specs.declared.reply.Reply.TheVariants.{Done, Flag, Channel, Thread as MadeThread, Refused}
use Rattle.variant.specs.declared.reply.Refusal.TheVariants.{TooManyChannels, TooManyThreads, TooManyRunning, TooManyStarts}
use Rattle.variant.specs.declared.event.Sent.{Sent}
use Rattle.variant.specs.declared.action.Action.{Action}
use Rattle.variant.specs.declared.action.Deed.TheVariants.{Asked}
use Rattle.channel_core.specs.declared.entry.Entry.{Entry}
use Rattle.thread_board.specs.declared.entry.BoardEntry.{BoardEntry}
use Rattle.thread_board.specs.declared.entry.BoardChange.{BoardChange}
use Rattle.thread_board.specs.declared.entry.BoardChange.TheVariants as change
use Rattle.thread_board.specs.declared.place.Thread.{Thread}
use Rattle.thread_board.specs.Register.{Register, register, blank, after_change, numbered, channel_of as named_channel, error_of, state_of, running}
use Rattle.thread_board.specs.View.{BoardView}
use Rattle.thread_board.specs.Answers.{Answer, answer_to, adds, only, channel_limit, thread_limit, start_limit, made_channel, named, started, started_thread, start_answer, words}
use Rattle.channel_desk.specs.declared.given.Given.{Given}
use Rattle.channel_desk.specs.OnBoard.{ComesOnBoard, board_entries_by}
use Rattle.lua_state.specs.declared.objects.Objects.{Objects}
use Rattle.lua_state.specs.declared.objects.Acted.{Acted}
use Rattle.lua_state.specs.declared.answer.Answer as told
use Rattle.lua_state.specs.Solo.{Met, board_after, events_after, held_after, board_change_in, events_with, held_with, makes_channel, on_board, object_of, comes_to, count_of, length_at}
use Rattle.lua_state.specs.Answered.{AnswersOnBoard, IsBoardAsk, given_of}
use Rattle.lua_state.specs.Kept.{IsKept, HasActed, acted_as, history_at, depth_at}
use Rattle.lua_state.proofs.Growing.{channel-else, board-more, events-more, held-more}
use Rattle.lua_state.proofs.Lists.{get_or-default}
use Rattle.lua_state.proofs.Tables.{board_object, comes_on_board, done_as}

-- how many Channels a change makes
abbrev made_by : Option BoardChange → ℕ
made_by None = 0
made_by (Some (change.Name n name)) = 1
made_by (Some (change.NewChannel n)) = 1
made_by (Some c) = 0

register-push : (h : List BoardEntry) (e : BoardEntry) → register (h ++ e ∷ []) ≡ after_change (register h) e.by.state e.what
register-push h e = fold_push (λ (r : Register) (x : BoardEntry). after_change r x.by.state x.what) blank h e

-- what an answer to an ask at the board makes: one Channel, within the limit, where the ask makes one and adds an
-- entry
-- how many there are after a change
abbrev counted : Register → ℕ → Option BoardChange → ℕ
counted r by None = r.channels
counted r by (Some c) = (after_change r by c).channels

record Makes (channels : ℕ) (ask : Ask) (x : Answer) : Type 0 where
  made : made_by x.change ≡ count_of (makes_channel ask && is_some x.change)
  few : channels ≤ 1024 → channels + made_by x.change ≤ 1024
  state_kept : (r : Register) (by : ℕ) → counted r by x.change ≡ r.channels + made_by x.change

none_some : {X : Type 0} (x : X) → None ≡ Some x → ⊥
none_some x e = cc

same_some : {X : Type 0} (x y : X) → Some x ≡ Some y → x ≡ y
same_some x y e = cc

module _ (channels : ℕ) (ask : Ask) where
  quiet : (reply : Reply) → Makes channels ask (record { reply = reply; change = None })
  quiet reply = record { made = on (makes_channel ask); few = λ le. omega arith; state_kept = λ r by. omega arith }
    where
      on : (b : Bool) → 0 ≡ count_of (b && false)
      on true = refl
      on false = refl

  of_only : (reply : Reply) (x : Answer) → only reply ≡ Some x → Makes channels ask x
  of_only reply x e = subst (Makes channels ask) (same_some _ x e) (quiet reply)

-- an entry that makes no Channel
loud : (channels : ℕ) (ask : Ask) (reply : Reply) (c : BoardChange) → makes_channel ask ≡ false → made_by (Some c) ≡ 0 → ((r : Register) (by : ℕ) → (after_change r by c).channels ≡ r.channels) → Makes channels ask (record { reply = reply; change = Some c })
loud channels ask reply c other none same = record { made = none ∙ sym (ap (λ (b : Bool). count_of (b && true)) other); few = λ le. rw none (omega arith); state_kept = λ r by. rw none (same r by ∙ omega arith) }

of_channel : (r : Register) (ask : Ask) (c : BoardChange) (x : Answer) → makes_channel ask ≡ true → made_by (Some c) ≡ 1 → ((s : Register) (by : ℕ) → (after_change s by c).channels ≡ s.channels + 1) → made_channel r c ≡ Some x → Makes r.channels ask x
of_channel r ask c x makes_one one more e = on (nat_lt r.channels channel_limit) refl e
  where
    on : (b : Bool) → nat_lt r.channels channel_limit ≡ b → cond b (adds (Channel (r.channels + 1)) c) (only (Refused TooManyChannels)) ≡ Some x → Makes r.channels ask x
    on true lt e = subst (Makes r.channels ask) (same_some _ x e) (record { made = one ∙ sym (ap (λ (b : Bool). count_of (b && true)) makes_one); few = λ le. rw one (below lt); state_kept = λ s by. more s by ∙ ap (λ (k : ℕ). s.channels + k) (sym one) })
      where
        below : nat_lt r.channels channel_limit ≡ true → r.channels + 1 ≤ 1024
        below e = grind arith
    on false lt e = of_only r.channels ask _ x e

makes : (r : Register) (h : List BoardEntry) (ask : Ask) (x : Answer) → IsBoardAsk ask → answer_to 0 ask r h ≡ Some x → Makes r.channels ask x
makes r h (Name name) x is e = by (named_channel r.names name) e
  where
    by : (found : Option ℕ) → named r name found ≡ Some x → Makes r.channels (Name name) x
    by (Some k) e = of_only r.channels (Name name) _ x e
    by None e = of_channel r (Name name) _ x refl refl (λ s by. refl) e
makes r h NewChannel x is e = of_channel r NewChannel _ x refl refl (λ s by. refl) e
makes r h (NewThread source) x is e = by (nat_lt (length r.threads) thread_limit) e
  where
    by : (b : Bool) → cond b (adds (MadeThread (length r.threads + 1)) (change.NewThread (length r.threads + 1) source)) (only (Refused TooManyThreads)) ≡ Some x → Makes r.channels (NewThread source) x
    by true e = subst (Makes r.channels (NewThread source)) (same_some _ x e) (loud r.channels (NewThread source) _ _ refl refl (λ s by. refl))
    by false e = of_only r.channels (NewThread source) _ x e
makes r h (Start t args) x is e = ended r.main_end e
  where
    many : (b : Bool) → cond b (only (Refused (TooManyRunning 0))) (adds (Flag true) (change.Start (length r.states + 1) t args)) ≡ Some x → Makes r.channels (Start t args) x
    many true e = of_only r.channels (Start t args) _ x e
    many false e = subst (Makes r.channels (Start t args)) (same_some _ x e) (loud r.channels (Start t args) _ _ refl refl (λ s by. refl))

    room : (b : Bool) → cond b (cond (nat_eq (running r) 0) (only (Refused (TooManyRunning 0))) (adds (Flag true) (change.Start (length r.states + 1) t args))) (only (Refused TooManyStarts)) ≡ Some x → Makes r.channels (Start t args) x
    room true e = many (nat_eq (running r) 0) e
    room false e = of_only r.channels (Start t args) _ x e

    runs : (thread : Thread) (b : Bool) → cond b (only (Flag false)) (started 0 r (change.Start (length r.states + 1) t args)) ≡ Some x → Makes r.channels (Start t args) x
    runs thread true e = of_only r.channels (Start t args) _ x e
    runs thread false e = room (nat_lt (length r.states) start_limit) e

    found : (thread : Option Thread) → started_thread 0 r (change.Start (length r.states + 1) t args) thread ≡ Some x → Makes r.channels (Start t args) x
    found None e = of_only r.channels (Start t args) _ x e
    found (Some thread) e = runs thread (is_some thread.runs) e

    ended : (place : Option ℕ) → start_answer 0 r t (change.Start (length r.states + 1) t args) place ≡ Some x → Makes r.channels (Start t args) x
    ended (Some place) e = of_only r.channels (Start t args) _ x e
    ended None e = found (numbered r.threads t) e
makes r h (IsRunning t) x is e = of_only r.channels (IsRunning t) _ x e
makes r h (ErrorOf t) x is e = by (error_of h t) e
  where
    by : (text : Option (List ℕ)) → words text ≡ Some x → Makes r.channels (ErrorOf t) x
    by None e = of_only r.channels (ErrorOf t) _ x e
    by (Some text) e = of_only r.channels (ErrorOf t) _ x e
makes r h (WaitFor t) x is e = by (is_some (state_of r t)) e
  where
    by : (b : Bool) → cond b None (only Done) ≡ Some x → Makes r.channels (WaitFor t) x
    by true e = absurd (none_some x e)
    by false e = of_only r.channels (WaitFor t) _ x e
makes r h ask x is e = absurd is

count_after : (h : List BoardEntry) (by : Stamp) (c : Option BoardChange) → (register (h ++ board_entries_by by c)).channels ≡ counted (register h) by.state c
count_after h by None = ap (λ (l : List BoardEntry). (register l).channels) (append-nil h)
count_after h by (Some c) = ap (λ (r : Register). r.channels) (register-push h (record { by = by; what = c }))

same_held : (ask : Ask) → IsBoardAsk ask → (held : List ℕ) → held_with held (Asked ask) ≡ held
same_held (Name text) is held = refl
same_held NewChannel is held = refl
same_held (NewThread source) is held = refl
same_held (Start thread args) is held = refl
same_held (IsRunning thread) is held = refl
same_held (ErrorOf thread) is held = refl
same_held (WaitFor thread) is held = refl
same_held ask is held = absurd is

same_events : (ask : Ask) → IsBoardAsk ask → (events : List Sent) (number : ℕ) → events_with events number (Asked ask) ≡ events
same_events (Name text) is events number = refl
same_events NewChannel is events number = refl
same_events (NewThread source) is events number = refl
same_events (Start thread args) is events number = refl
same_events (IsRunning thread) is events number = refl
same_events (ErrorOf thread) is events number = refl
same_events (WaitFor thread) is events number = refl
same_events ask is events number = absurd is

either_held : (b : Bool) (held other : List ℕ) → other ≡ held → cond b other held ≡ held
either_held true held other e = e
either_held false held other e = refl

pushed_if : {A : Type 0} (b : Bool) (xs : List A) (d : A) (k : ℕ) → get_or (cond b (xs ++ d ∷ []) xs) k d ≡ get_or xs k d
pushed_if true xs d k = get_or-default xs d k
pushed_if false xs d k = refl

length_if : {A : Type 0} (b : Bool) (xs : List A) (d : A) → length (cond b (xs ++ d ∷ []) xs) ≡ length xs + count_of b
length_if true xs d = length-append xs (d ∷ [])
length_if false xs d = omega arith

came_as : (ask : Ask) (after : List BoardEntry) (given : Given) (w v : ℕ) (by stamp : Stamp) (h k : List BoardEntry) → w ≡ v → by ≡ stamp → h ≡ k → ComesOnBoard w (Asked ask) by h after given → ComesOnBoard v (Asked ask) stamp k after given
came_as ask after given w v by stamp h k same at was came =
    subst (λ (l : List BoardEntry). ComesOnBoard v (Asked ask) stamp l after given) was
    (subst (λ (b : Stamp). ComesOnBoard v (Asked ask) b h after given) at (subst (λ (n : ℕ). ComesOnBoard n (Asked ask) by h after given) same came))

pub acted_board : (o p : Objects) → IsKept o → (ask : Ask) (acted : Acted) → IsBoardAsk ask → (new : BoardView) (by : Stamp) (r : Option told.Answer) → by ≡ record { state = 0; number = length o.trace.actions + 1 } → p.board ≡ new → new.workers ≡ o.board.workers
    → AnswersOnBoard o.board.workers ask by o.board.history new.history (Ok r) → r ≡ Some acted.answer → acted.object ≡ 0 → acted.place ≡ length new.history
    → (made : Bool) → made ≡ (makes_channel ask && acted.answer.changed) → p.channels.items ≡ cond made (o.channels.items ++ [] ∷ []) o.channels.items → p.depths.items ≡ cond made (o.depths.items ++ 0 ∷ []) o.depths.items → p.held.items ≡ o.held.items → p.events.items ≡ o.events.items
    → HasActed o.trace.actions ask acted p
acted_board o p kept ask acted is new by r stamp board_same workers answers e object place made is_made channels depths held events =
    let before = o.trace.actions in
    let h = board_after before in
    let a : Action = acted_as before ask acted in
    let zero_workers : o.board.workers ≡ 0 = ap (λ (b : BoardView). b.workers) kept.stand.board in
    let history : o.board.history ≡ h = ap (λ (b : BoardView). b.history) kept.stand.board in
    let found : AnswersOnBoard o.board.workers ask by o.board.history new.history (Ok (Some acted.answer)) = subst (λ (x : Option told.Answer). AnswersOnBoard o.board.workers ask by o.board.history new.history (Ok x)) e answers in
    let came : ComesOnBoard 0 (Asked ask) (record { state = 0; number = length before + 1 }) h new.history (given_of acted.answer) = came_as ask new.history (given_of acted.answer) o.board.workers 0 by (record { state = 0; number = length before + 1 }) o.board.history h zero_workers stamp history found.0 in
    let there : object_of (Asked ask) ≡ 0 = board_object ask is in
    let makes_it = makes (register h) h ask (record { reply = acted.answer.reply; change = came.change }) is came.answered.1 in
    let comes : comes_to before (Asked ask) ≡ Some (given_of acted.answer) = comes_on_board before (Asked ask) there ∙ (ap on_board came.answered.1 ∙ ap (λ (b : Bool). Some (record { reply = acted.answer.reply; changed = b })) (sym came.changed)) in
    let grown : board_after (before ++ a ∷ []) ≡ new.history = board-more before a ∙ (ap (λ (x : Option Answer). h ++ board_entries_by (record { state = 0; number = length before + 1 }) (board_change_in x)) came.answered.1 ∙ sym came.history) in
    let one : made ≡ (makes_channel ask && is_some came.change) = is_made ∙ ap (λ (b : Bool). makes_channel ask && b) came.changed in
    let counts : (register new.history).channels ≡ (register h).channels + count_of made = ap (λ (l : List BoardEntry). (register l).channels) came.history ∙ (count_after h (record { state = 0; number = length before + 1 }) came.change ∙ (makes_it.state_kept (register h) 0 ∙ ap (λ (k : ℕ). (register h).channels + k) (makes_it.made ∙ ap count_of (sym one)))) in
    let few : (register h).channels + count_of made ≤ 1024 = (let f = makes_it.few (subst (λ (k : ℕ). k ≤ 1024) kept.stand.made kept.stand.few) in rw (one, ← makes_it.made) f) in
    let long : length p.channels.items ≡ (register h).channels + count_of made = ap length channels ∙ (length_if made o.channels.items [] ∙ ap (λ (k : ℕ). k + count_of made) kept.stand.made) in
    record {
      done = done_as before (Asked ask) (given_of acted.answer) comes;
      copy = found.1;
      object = object ∙ sym there;
      place = place ∙ (ap length came.history ∙ (long_if h (record { state = 0; number = length before + 1 }) came.change ∙ (ap (λ (b : Bool). length h + count_of b) (sym came.changed) ∙ ap (λ (n : ℕ). length_at before n + count_of acted.answer.changed) (sym there))));
      stand = record {
        board = board_same ∙ (view new ∙ ap (λ (w : ℕ). record { workers = w; history = new.history }) (workers ∙ zero_workers) ∙ ap (λ (l : List BoardEntry). record { workers = 0; history = l }) (sym grown));
        histories = λ k span. ap (λ (l : List (List Entry)). history_at l k) channels ∙ (pushed_if made o.channels.items [] (k - 1) ∙ (kept.stand.histories k span ∙ sym (ap (λ (m : Met). m.entries) (channel-else before a k (λ z. (let t = span.0 in omega arith))))));
        depths = λ k span. ap (λ (l : List ℕ). depth_at l k) depths ∙ (pushed_if made o.depths.items 0 (k - 1) ∙ (kept.stand.depths k span ∙ sym (ap (λ (m : Met). m.depth) (channel-else before a k (λ z. (let t = span.0 in omega arith))))));
        same = ap length depths ∙ (length_if made o.depths.items 0 ∙ (ap (λ (k : ℕ). k + count_of made) kept.stand.same ∙ (sym (length_if made o.channels.items []) ∙ sym (ap length channels))));
        made = long ∙ (sym counts ∙ ap (λ (l : List BoardEntry). (register l).channels) (sym grown));
        few = rw long few;
        held = held ∙ (kept.stand.held ∙ (sym (either_held acted.answer.changed (held_after before) _ (same_held ask is (held_after before))) ∙ sym (held-more before a)));
        events = events ∙ (kept.stand.events ∙ (sym (same_events ask is (events_after before) a.number) ∙ sym (events-more before a)));
      };
    }
  where
    view : (b : BoardView) → b ≡ record { workers = b.workers; history = b.history }
    view b = refl

    long_if : (h : List BoardEntry) (by : Stamp) (c : Option BoardChange) → length (h ++ board_entries_by by c) ≡ length h + count_of (is_some c)
    long_if h by None = rw (append-nil h) (omega arith)
    long_if h by (Some c) = length-append h _
