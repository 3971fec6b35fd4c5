-- What an action at an object leaves of all of them.
use Rattle.std.specs.Prelude.{is_some, All}
use Rattle.std.proofs.Common.{◌≡◌, ◌∙◌, ℕ, zero, suc, ◌+◌, ◌-◌, ◌<◌, ◌≤◌, Bool, true, false, cond, List, [], ◌∷◌, ◌++◌, length, get_or, set, ◌⊎◌, inl, inr, Option, Some, None, Ok, refl, sym, ap, subst, arith, append-nil, length-append, length-set}
use Rattle.std.proofs.lemmas.List.{get_or-set_same, get_or-set_other, get_or_read_under, get_or_past}
use Rattle.std.proofs.lemmas.Bool.{cases_lt}
use mathlib.Core.Logic.{dite}
use native.Mathlib.Decide.{ℕ_discrete}
use Rattle.love_base.specs.declared.stamp.Stamp.{Stamp}
use Rattle.variant.specs.Histories.{AtEach}
use Rattle.variant.specs.declared.ask.Ask.{Ask}
use Rattle.variant.specs.declared.ask.Ask.TheVariants.{Push, Supply, Pop, Peek, Count, HasRead, Clear, Demand, Await, Enter, Leave}
use Rattle.variant.specs.declared.reply.Reply.TheVariants.{Done}
use Rattle.variant.proofs.Histories.{AtEach-push}
use Rattle.std.proofs.lemmas.List.Elements.{All-push}
use Rattle.variant.specs.declared.event.Sent.{Sent}
use Rattle.variant.specs.declared.action.Action.{Action}
use Rattle.variant.specs.declared.action.Deed.{Deed}
use Rattle.variant.specs.declared.action.Deed.TheVariants.{Asked, CutLeave}
use Rattle.channel_core.specs.declared.entry.Entry.{Entry}
use Rattle.channel_core.specs.declared.entry.Change.{Change}
use Rattle.channel_core.specs.declared.entry.Change.TheVariants.{Leave as Leaving}
use Rattle.channel_core.specs.History.{holder, leave_by}
use Rattle.channel_core.specs.Lawful.{IsLater}
use Rattle.channel_core.specs.Answers as channel
use Rattle.channel_core.proofs.Lawfulness.{IsLater-below}
use Rattle.thread_board.specs.declared.entry.BoardEntry.{BoardEntry}
use Rattle.thread_board.specs.Register.{register}
use Rattle.thread_board.specs.Answers as board
use Rattle.channel_desk.specs.declared.given.Given.{Given}
use Rattle.channel_desk.specs.Deeds.{Comes, IsPlaced, entries_by, object_of as channel_of}
use Rattle.channel_desk.specs.OnBoard.{board_entries_by}
use Rattle.lua_state.specs.declared.objects.Objects.{Objects}
use Rattle.lua_state.specs.declared.objects.Acted.{Acted}
use Rattle.lua_state.specs.declared.answer.Answer.{Answer}
use Rattle.lua_state.specs.Solo.{Met, change_in, left_from, met_more, channel_after, board_after, events_after, board_change_in, events_with, held_with, stamp_of, object_of, event_queue, on_channel, action_of, length_at, count_of, depth_after, done, IsDone}
use Rattle.lua_state.specs.Answered.{AnswersAt, IsChannelAsk, IsLastLeft, given_of}
use Rattle.lua_state.specs.Kept.{IsChannelNumber, IsKept, IsOpen, Stand, HasActed, HeldBy, history_at, depth_at, one_if_open, times}
use Rattle.lua_state.proofs.Growing.{channel-here, channel-else, board-more, events-more, held-more, test-no}
use Rattle.lua_state.proofs.Lists.{left_from-last, times-push}
use Rattle.lua_state.proofs.Sounding.{sound}
use Rattle.lua_state.proofs.Tables.{channel_object, comes_there, done_as}

-- ---- what is read

-- the state's sections on a Channel, as the Channel's own calls want them
pub placed_here : (o : Objects) → IsKept o → (n : ℕ) → IsChannelNumber n → (h : List Entry) (by : Stamp) (depth : ℕ) → h ≡ (channel_after o.trace.actions n).entries → depth ≡ (channel_after o.trace.actions n).depth → by ≡ record { state = 0; number = length o.trace.actions + 1 } → IsPlaced h by depth
placed_here o kept n range h by depth hist deep stamp =
    let own = (sound o.trace.actions kept.done kept.goes_on).own n range in
    rw (hist, deep, stamp) (record {
      outside = own.outside;
      inside = own.inside;
      later = λ lt. IsLater-below (channel_after o.trace.actions n).entries (record { state = 0; number = length o.trace.actions + 1 }) own.below;
    })

pub deep_here : (o : Objects) → IsKept o → (n : ℕ) → IsChannelNumber n → (channel_after o.trace.actions n).depth ≤ length o.trace.actions
deep_here o kept n range = ((sound o.trace.actions kept.done kept.goes_on).own n range).deep

pub read_depth : (o : Objects) → IsKept o → (n at : ℕ) (d : ℕ) → IsChannelNumber n → at + 1 ≡ n → at < length o.depths.items → d ≡ get_or o.depths.items at d → d ≡ (channel_after o.trace.actions n).depth
read_depth o kept n at d range e lt read = get_or_read_under o.depths.items at (length o.depths.items) d 0 read lt refl ∙ (ap (λ (i : ℕ). get_or o.depths.items i 0) place ∙ kept.stand.depths n range)
  where
    place : at ≡ n - 1
    place = omega arith

pub read_history : (o : Objects) → IsKept o → (n at : ℕ) (h : List Entry) → IsChannelNumber n → at + 1 ≡ n → at < length o.channels.items → h ≡ get_or o.channels.items at h → h ≡ (channel_after o.trace.actions n).entries
read_history o kept n at h range e lt read = get_or_read_under o.channels.items at (length o.channels.items) h [] read lt refl ∙ (ap (λ (i : ℕ). get_or o.channels.items i []) place ∙ kept.stand.histories n range)
  where
    place : at ≡ n - 1
    place = omega arith

-- ---- an action at a Channel

-- the board has no answer for an ask about a Channel, and no event comes or goes
no_board : (ask : Ask) → IsChannelAsk ask → (h : List BoardEntry) → board.answer 0 0 (Asked ask) 0 h ≡ None
no_board (Push n m) is h = refl
no_board (Supply n m) is h = refl
no_board (Pop n) is h = refl
no_board (Peek n) is h = refl
no_board (Count n) is h = refl
no_board (HasRead n id) is h = refl
no_board (Clear n) is h = refl
no_board (Demand n limit) is h = refl
no_board (Await n id limit) is h = refl
no_board (Enter n) is h = refl
no_board (Leave n) is h = refl
no_board ask is h = absurd is

no_events : (ask : Ask) → IsChannelAsk ask → (events : List Sent) (number : ℕ) → events_with events number (Asked ask) ≡ events
no_events (Push n m) is events number = refl
no_events (Supply n m) is events number = refl
no_events (Pop n) is events number = refl
no_events (Peek n) is events number = refl
no_events (Count n) is events number = refl
no_events (HasRead n id) is events number = refl
no_events (Clear n) is events number = refl
no_events (Demand n limit) is events number = refl
no_events (Await n id limit) is events number = refl
no_events (Enter n) is events number = refl
no_events (Leave n) is events number = refl
no_events ask is events number = absurd is

-- what is held is the list of the definitions, where the last one is left
held_as : (ask : Ask) (changed : Bool) (n : ℕ) (held after : List ℕ) (depth : ℕ) → IsChannelAsk ask → channel_of ask ≡ n → HeldBy ask changed n held after → times n held ≡ one_if_open depth → (changed ≡ true → IsLastLeft held n depth ask true) → (changed ≡ true → (number : ℕ) → ask ≡ Leave number → depth ≡ 1)
    → after ≡ cond changed (held_with held (Asked ask)) held
held_as ask false n held after depth is same by listed last once = by
held_as (Push m v) true n held after depth is same by listed last once = by
held_as (Supply m v) true n held after depth is same by listed last once = by
held_as (Pop m) true n held after depth is same by listed last once = by
held_as (Peek m) true n held after depth is same by listed last once = by
held_as (Count m) true n held after depth is same by listed last once = by
held_as (HasRead m id) true n held after depth is same by listed last once = by
held_as (Clear m) true n held after depth is same by listed last once = by
held_as (Demand m limit) true n held after depth is same by listed last once = by
held_as (Await m id limit) true n held after depth is same by listed last once = by
held_as (Enter m) true n held after depth is same by listed last once = by ∙ ap (λ (k : ℕ). held ++ k ∷ []) (sym same)
held_as (Leave m) true n held after depth is same by listed last once =
    let one : depth ≡ 1 = once refl m refl in
    let found = last refl one in
    let whole : held ≡ found.0 ++ n ∷ [] = found.1 in
    by found.0 whole ∙ (sym (left_from-last n found.0 (ap (times n) (sym whole) ∙ (listed ∙ ap one_if_open one))) ∙ (ap (left_from n) (sym whole) ∙ ap (λ (k : ℕ). left_from k held) (sym same)))
held_as ask true n held after depth is same by listed last once = absurd is

-- a section is left by its outermost end alone
left_once : (m : Met) (ask : Ask) (x : channel.Answer) (number : ℕ) → ask ≡ Leave number → channel.answer (Asked ask) 0 m.depth m.entries ≡ Some x → is_some x.change ≡ true → m.depth ≡ 1
left_once m ask x number e answered changed = of m.depth (subst (λ (a : Ask). channel.answer (Asked a) 0 m.depth m.entries ≡ Some x) e answered)
  where
    none_some : None ≡ Some x → ⊥
    none_some e = cc

    on : (d : ℕ) → channel.left d ≡ Some x → d ≡ 1
    on zero e = absurd (none_some e)
    on (suc zero) e = refl
    on (suc (suc d)) e = absurd (no (ap (λ (a : Option channel.Answer). is_some (change_in a)) e ∙ changed))
      where
        no : false ≡ true → ⊥
        no e = cc

    of : (d : ℕ) → channel.answer (Asked (Leave number)) 0 d m.entries ≡ Some x → d ≡ 1
    of d e = out (channel.keeps_out (holder m.entries) 0) e
      where
        out : (b : Bool) → cond b None (channel.left d) ≡ Some x → d ≡ 1
        out true e = absurd (none_some e)
        out false e = on d e

-- an action at a Channel, of a deed that has this answer there
module _ (o p : Objects) (kept : IsKept o) (deed : Deed) (given : Given) (n : ℕ) (object_here : object_of deed ≡ n) (range : IsChannelNumber n) (there : n ≤ length o.channels.items) where
  abbrev before : List Action
  before = o.trace.actions

  abbrev m : Met
  m = channel_after o.trace.actions n

  abbrev a : Action
  a = action_of o.trace.actions deed given

  abbrev by : Stamp
  by = record { state = 0; number = length o.trace.actions + 1 }

  module _ (change : Option Change) (after : List Entry) (answered : channel.answer deed 0 m.depth m.entries ≡ Some (record { reply = given.reply; change = change })) (changed : given.changed ≡ is_some change) (history : after ≡ m.entries ++ entries_by by change) where
    pub done_there : done before deed ≡ Some a
    done_there = done_as before deed given (comes_there before deed n object_here range ∙ (ap on_channel answered ∙ ap (λ (b : Bool). Some (record { reply = given.reply; changed = b })) (sym changed)))

    met_here : met_more m a ≡ record { entries = after; depth = depth_after m.depth deed given.reply }
    met_here = rw (answered, history) refl

    pub place_there : length after ≡ length_at before (object_of deed) + count_of given.changed
    place_there =
        let low : n ≡ 0 → ⊥ = λ z. (let r = range.0 in omega arith) in
        let high : n ≡ event_queue → ⊥ = λ z. (let r = range.1 in omega arith) in
        rw (object_here, test-no n 0 low, test-no n event_queue high, history, changed) (on change)
      where
        on : (c : Option Change) → length (m.entries ++ entries_by by c) ≡ length m.entries + count_of (is_some c)
        on None = rw (append-nil m.entries) (omega arith)
        on (Some c) = length-append m.entries _

    pub stand_there : board.answer 0 0 deed 0 (board_after before) ≡ None → ((events : List Sent) → events_with events a.number deed ≡ events) → p.board ≡ o.board → p.channels.items ≡ set o.channels.items (n - 1) after → p.depths.items ≡ set o.depths.items (n - 1) (depth_after m.depth deed given.reply)
        → p.held.items ≡ cond given.changed (held_with o.held.items deed) o.held.items → p.events.items ≡ o.events.items → Stand (before ++ a ∷ []) p
    stand_there unasked quiet board_same channels depths held events =
        let grown : board_after (before ++ a ∷ []) ≡ board_after before = board-more before a ∙ (ap (λ (x : Option board.Answer). board_after before ++ board_entries_by (stamp_of a) (board_change_in x)) unasked ∙ append-nil (board_after before)) in
        record {
          board = board_same ∙ (kept.stand.board ∙ ap (λ (h : List BoardEntry). record { workers = 0; history = h }) (sym grown));
          histories = λ k span. ap (λ (l : List (List Entry)). history_at l k) channels ∙ dite (ℕ_discrete k n)
              (λ (here : k ≡ n). ap (λ (i : ℕ). get_or (set o.channels.items (n - 1) after) (i - 1) []) here ∙ (get_or-set_same o.channels.items (n - 1) after [] (let r = range.0 in omega arith) ∙ sym (ap (λ (c : Met). c.entries) (ap (channel_after (before ++ a ∷ [])) here ∙ (channel-here before a n object_here ∙ met_here)))))
              (λ other. get_or-set_other o.channels.items (n - 1) (k - 1) after [] (λ e. other (let r = range.0 in let t = span.0 in omega arith)) ∙ (kept.stand.histories k span ∙ sym (ap (λ (c : Met). c.entries) (channel-else before a k (λ e. other (sym e ∙ object_here))))));
          depths = λ k span. ap (λ (l : List ℕ). depth_at l k) depths ∙ dite (ℕ_discrete k n)
              (λ (here : k ≡ n). ap (λ (i : ℕ). get_or (set o.depths.items (n - 1) (depth_after m.depth deed given.reply)) (i - 1) 0) here ∙ (get_or-set_same o.depths.items (n - 1) _ 0 (let r = range.0 in let l = kept.stand.same in omega arith) ∙ sym (ap (λ (c : Met). c.depth) (ap (channel_after (before ++ a ∷ [])) here ∙ (channel-here before a n object_here ∙ met_here)))))
              (λ other. get_or-set_other o.depths.items (n - 1) (k - 1) _ 0 (λ e. other (let r = range.0 in let t = span.0 in omega arith)) ∙ (kept.stand.depths k span ∙ sym (ap (λ (c : Met). c.depth) (channel-else before a k (λ e. other (sym e ∙ object_here))))));
          same = ap length depths ∙ (length-set o.depths.items (n - 1) _ ∙ (kept.stand.same ∙ (sym (length-set o.channels.items (n - 1) after) ∙ sym (ap length channels))));
          made = ap length channels ∙ (length-set o.channels.items (n - 1) after ∙ (kept.stand.made ∙ ap (λ (h : List BoardEntry). (register h).channels) (sym grown)));
          few = rw (channels, length-set o.channels.items (n - 1) after) kept.stand.few;
          held = held ∙ (ap (λ (l : List ℕ). cond given.changed (held_with l deed) l) kept.stand.held ∙ sym (held-more before a));
          events = events ∙ (kept.stand.events ∙ (sym (quiet (events_after before)) ∙ sym (events-more before a)));
        }

-- the same by what the calls at the Channel gave
pub acted_at : (o p : Objects) → IsKept o → (ask : Ask) (acted : Acted) (n : ℕ) → IsChannelAsk ask → channel_of ask ≡ n → IsChannelNumber n → n ≤ length o.channels.items
    → (h after : List Entry) (by : Stamp) (depth : ℕ) (r : Option Answer) → h ≡ (channel_after o.trace.actions n).entries → depth ≡ (channel_after o.trace.actions n).depth → by ≡ record { state = 0; number = length o.trace.actions + 1 }
    → AnswersAt ask by depth h after (Ok r) → r ≡ Some acted.answer → acted.object ≡ n → acted.place ≡ length after → p.board ≡ o.board → p.channels.items ≡ set o.channels.items (n - 1) after → p.depths.items ≡ set o.depths.items (n - 1) (depth_after depth (Asked ask) acted.answer.reply)
    → HeldBy ask acted.answer.changed n o.held.items p.held.items → IsLastLeft o.held.items n depth ask true → p.events.items ≡ o.events.items → HasActed o.trace.actions ask acted p
acted_at o p kept ask acted n is same range there h after by depth r hist deep stamp answers e object place board_same channels depths held last events =
    let found : AnswersAt ask by depth h after (Ok (Some acted.answer)) = subst (λ (x : Option Answer). AnswersAt ask by depth h after (Ok x)) e answers in
    let came : Comes (Asked ask) (record { state = 0; number = length o.trace.actions + 1 }) (channel_after o.trace.actions n).depth (channel_after o.trace.actions n).entries after (given_of acted.answer) = rw (← hist, ← deep, ← stamp) found.0 in
    let here : object_of (Asked ask) ≡ n = channel_object ask is ∙ same in
    record {
      done = done_there o p kept (Asked ask) (given_of acted.answer) n here range there came.change after came.answered came.changed came.history;
      copy = found.1;
      object = object ∙ sym here;
      place = place ∙ place_there o p kept (Asked ask) (given_of acted.answer) n here range there came.change after came.answered came.changed came.history;
      stand = stand_there o p kept (Asked ask) (given_of acted.answer) n here range there came.change after came.answered came.changed came.history
          (no_board ask is (board_after o.trace.actions)) (λ l. no_events ask is l (length o.trace.actions + 1)) board_same channels
          (depths ∙ ap (λ (d : ℕ). set o.depths.items (n - 1) (depth_after d (Asked ask) acted.answer.reply)) deep)
          (held_as ask acted.answer.changed n o.held.items p.held.items (channel_after o.trace.actions n).depth is same held (rw kept.stand.held ((sound o.trace.actions kept.done kept.goes_on).listed n range)) (λ c. subst (λ (d : ℕ). IsLastLeft o.held.items n d ask true) deep last)
          (λ changed number e. left_once (channel_after o.trace.actions n) ask (record { reply = acted.answer.reply; change = came.change }) number e came.answered (sym came.changed ∙ changed)))
          events;
    }

-- ---- a Channel is left by a state that is cut short

pub cut_kept : (o p : Objects) → IsKept o → (others : List ℕ) (n : ℕ) → IsChannelNumber n → n ≤ length o.channels.items → o.held.items ≡ others ++ n ∷ []
    → (h after : List Entry) (by : Stamp) → h ≡ (channel_after o.trace.actions n).entries → by ≡ record { state = 0; number = length o.trace.actions + 1 } → after ≡ h ++ leave_by by ∷ [] → ((number depth : ℕ) → channel.answer (CutLeave number) by.state depth h ≡ channel.adds Done Leaving)
    → (a : Action) (place : ℕ) → place ≡ length h + 1 → a ≡ record { number = by.number; object = n; place = place; changed = true; deed = CutLeave n; reply = Done; readings = None } → p.trace.actions ≡ o.trace.actions ++ a ∷ [] → o.trace.spare ≤ p.trace.spare + 1
    → p.board ≡ o.board → p.channels.items ≡ set o.channels.items (n - 1) after → p.depths.items ≡ set o.depths.items (n - 1) 0 → p.held.items ≡ others → p.events.items ≡ o.events.items → IsKept p
cut_kept o p kept others n range there last h after by hist stamp left answered a at_place counted is put spare board_same channels depths held events =
    let given : Given = record { reply = Done; changed = true } in
    let m = channel_after o.trace.actions n in
    let at : channel.answer (CutLeave n) 0 m.depth m.entries ≡ channel.adds Done Leaving = subst (λ (l : List Entry). channel.answer (CutLeave n) 0 m.depth l ≡ channel.adds Done Leaving) hist (subst (λ (b : Stamp). channel.answer (CutLeave n) b.state m.depth h ≡ channel.adds Done Leaving) stamp (answered n m.depth)) in
    let grown : after ≡ m.entries ++ entries_by (record { state = 0; number = length o.trace.actions + 1 }) (Some Leaving) = left ∙ (ap (λ (l : List Entry). l ++ leave_by by ∷ []) hist ∙ ap (λ (b : Stamp). m.entries ++ leave_by b ∷ []) stamp) in
    let place : at_place ≡ length_at o.trace.actions (object_of (CutLeave n)) + count_of true = counted ∙ (sym (ap length left ∙ length-append h (leave_by by ∷ [])) ∙ place_there o p kept (CutLeave n) given n refl range there (Some Leaving) after at refl grown) in
    let same : a ≡ action_of o.trace.actions (CutLeave n) given = is ∙ rw (stamp, place) refl in
    let whole : p.trace.actions ≡ o.trace.actions ++ action_of o.trace.actions (CutLeave n) given ∷ [] = put ∙ ap (λ (x : Action). o.trace.actions ++ x ∷ []) same in
    let sounds = sound o.trace.actions kept.done kept.goes_on in
    let count : times n o.held.items ≡ one_if_open m.depth = ap (times n) kept.stand.held ∙ sounds.listed n range in
    let once : times n (others ++ n ∷ []) ≡ 1 = ap (times n) (sym last) ∙ (count ∙ one_of m.depth (let more = times-push n others in let c = ap (times n) (sym last) ∙ count in omega arith)) in
    let rest : p.held.items ≡ left_from n o.held.items = held ∙ (sym (left_from-last n others once) ∙ ap (left_from n) (sym last)) in
    record {
      stand = subst (λ (l : List Action). Stand l p) (sym whole) (stand_there o p kept (CutLeave n) given n refl range there (Some Leaving) after at refl grown refl (λ l. refl) board_same channels depths rest events);
      done = subst (AtEach IsDone) (sym whole) (AtEach-push IsDone o.trace.actions _ kept.done (done_there o p kept (CutLeave n) given n refl range there (Some Leaving) after at refl grown));
      goes_on = subst (All (λ (b : Action). IsOpen b.deed)) (sym whole) (All-push (λ (b : Action). IsOpen b.deed) o.trace.actions _ kept.goes_on tt);
      room = (let r = kept.room in let l = ap length last ∙ length-append others (n ∷ []) in rw held (omega arith));
    }
  where
    one_of : (d : ℕ) → 1 ≤ one_if_open d → one_if_open d ≡ 1
    one_of zero lt = absurd (no lt)
      where
        no : 1 ≤ 0 → ⊥
        no lt = omega arith
    one_of (suc d) lt = refl

-- ---- what is held

some_open : (d : ℕ) → 1 ≤ one_if_open d → 0 < d
some_open zero lt = absurd (no lt)
  where
    no : 1 ≤ 0 → ⊥
    no lt = omega arith
some_open (suc d) lt = omega arith

-- a Channel that is held is there, with sections of the state
module _ (o : Objects) (kept : IsKept o) (others : List ℕ) (n : ℕ) (range : IsChannelNumber n) (last : o.held.items ≡ others ++ n ∷ []) where
  pub open_held : 0 < (channel_after o.trace.actions n).depth
  open_held = some_open _ (let count = ap (times n) (sym last) ∙ (ap (times n) kept.stand.held ∙ (sound o.trace.actions kept.done kept.goes_on).listed n range) in let more = times-push n others in omega arith)

  pub there_held : n ≤ length o.channels.items
  there_held = on (cases_lt (length o.channels.items) n)
    where
      on : (length o.channels.items < n) ⊎ (n ≤ length o.channels.items) → n ≤ length o.channels.items
      on (inr le) = le
      on (inl lt) = absurd (let open_here = open_held in let d = sym (kept.stand.depths n range) ∙ get_or_past o.depths.items (n - 1) 0 (let s = kept.stand.same in omega arith) in omega arith)

  pub holder_held : (h : List Entry) → h ≡ (channel_after o.trace.actions n).entries → holder h ≡ Some 0
  holder_held h e = ap holder e ∙ ((sound o.trace.actions kept.done kept.goes_on).own n range).inside open_held

  pub later_held : (h : List Entry) (by : Stamp) → h ≡ (channel_after o.trace.actions n).entries → by ≡ record { state = 0; number = length o.trace.actions + 1 } → IsLater h by
  later_held h by e stamp = rw (e, stamp) (IsLater-below (channel_after o.trace.actions n).entries (record { state = 0; number = length o.trace.actions + 1 }) ((sound o.trace.actions kept.done kept.goes_on).own n range).below)
