-- What turns at the board come to as actions.
use Rattle.std.specs.Prelude.{IfSome, IfNone}
use Rattle.std.proofs.Common.{◌≡◌, ◌≢◌, ◌∙◌, Bool, false, cond, append-nil, ℕ, suc, ◌-◌, ◌<◌, ◌≤◌, true, List, [], ◌∷◌, ◌++◌, map, length, Option, Some, None, Result, Ok, Err, refl, sym, ap, subst, arith}
use Rattle.std.proofs.lemmas.List.{length-map, map-append}
use Rattle.love_base.specs.Prefix.{IsPrefix}
use Rattle.love_base.specs.declared.memory.Memory.{Memory}
use Rattle.love_base.specs.declared.stamp.Stamp.{Stamp}
use Rattle.love_base.proofs.Prefixes.{whole}
use Rattle.variant.specs.declared.ask.Ask.{Ask}
use Rattle.variant.specs.declared.ask.Ask.TheVariants.{WaitFor}
use Rattle.variant.specs.declared.action.Stop.{Stop}
use Rattle.variant.specs.declared.action.Action.{Action}
use Rattle.variant.specs.declared.action.Deed.{Deed}
use Rattle.variant.specs.declared.action.Deed.TheVariants.{Asked}
use Rattle.variant.specs.declared.end_kind.EndKind.{EndKind}
use Rattle.variant.specs.declared.reply.Reply.{Reply}
use Rattle.variant.specs.Log.{HasPlace}
use Rattle.channel_desk.specs.Finishing.{Finished, an_end, end_deed}
use Rattle.variant.specs.declared.reply.Reply.TheVariants.{Done}
use Rattle.thread_board.specs.Answers.{IsAnswer, answer, only}
use Rattle.thread_board.specs.Register.{register}
use Rattle.thread_board.specs.declared.entry.BoardEntry.{BoardEntry}
use Rattle.thread_board.specs.View.{BoardView}
use Rattle.turn_desk.specs.declared.view.View.{View}
use Rattle.turn_desk.specs.View.{spot, freed, published}
use Rattle.turn_desk.specs.Passes.{DeskId, Standing, fixed_at}
use Rattle.channel_desk.specs.declared.given.Given.{Given}
use Rattle.channel_desk.specs.declared.sections.Section.{Section}
use Rattle.channel_desk.specs.declared.shared.Shared.{Shared}
use Rattle.channel_desk.specs.declared.shared.Shared.TheVariants.{Board, Channel}
use Rattle.channel_desk.specs.declared.shared.SharedEntry.{SharedEntry}
use Rattle.channel_desk.specs.declared.shared.SharedEntry.TheVariants.{Board as OnBoard}
use Rattle.channel_desk.specs.Shared.{board_entries, history_of, kind_of, board_in, rests}
use Rattle.channel_desk.specs.Same.{same_board}
use Rattle.channel_desk.specs.ThreadEnd.{IsRunningAt, IsStoppedWaiting, waits_for}
use Rattle.channel_desk.specs.Holding.{IsLaid}
use Rattle.channel_desk.specs.Acting.{action_of}
use Rattle.channel_desk.specs.OnBoard.{ActedOnBoard, ComesOnBoard, OutcomeOnBoard, board_entries_by}
use Rattle.channel_desk.specs.Turns.{Took, Turned, Waited}
use Rattle.channel_desk.proofs.Objects.{rests_board}
use Rattle.channel_desk.proofs.Waiting.{known_turn, waited_idle}
use Rattle.channel_desk.proofs.Acts.{turned_by}

pub history_board : (x : Shared) → 0 < kind_of x → history_of x ≡ map OnBoard (board_in x).history
history_board (Board board) some = refl
history_board (Channel entries) some = absurd (omega arith)

pub length_board : (x : Shared) → 0 < kind_of x → length (history_of x) ≡ length (board_in x).history
length_board x some = ap length (history_board x some) ∙ length-map (board_in x).history (λ (e : BoardEntry). OnBoard e)

pub workers_board : (x : Shared) → 0 < kind_of x → (board_in x).workers ≡ kind_of x - 1
workers_board (Board board) some = omega arith
workers_board (Channel entries) some = absurd (omega arith)

-- a board is nothing but its workers and its history
pub same_board_in : (x y : Shared) → 0 < kind_of x → kind_of y ≡ kind_of x → (board_in y).history ≡ (board_in x).history → y ≡ x
same_board_in (Channel es) y some same e = absurd (omega arith)
same_board_in (Board b) (Channel es) some same e = absurd (omega arith)
same_board_in (Board b) (Board c) some same e = let n : c.workers ≡ b.workers = omega arith in λ i. Board (record { workers = n i; history = e i })

pub rests_on_board : (y : Shared) → 0 < kind_of y → rests (history_of y) ≡ true
rests_on_board y some = ap rests (history_board y some) ∙ rests_board (board_in y).history

-- an object of which as much is known as of another is a board as that one is
pub still_board : (x y : Shared) → 0 < kind_of x → kind_of y ≡ kind_of x → 0 < kind_of y
still_board x y some same = omega arith

-- what stands first at a laid desk is a board with workers
pub board_from : (desk : DeskId) (p : Standing SharedEntry) (x : Shared) → IsLaid desk p → kind_of x ≡ fixed_at p.view 0 → 0 < kind_of x
board_from desk p x laid same = let b = laid.board in omega arith

pub comes_grown : (workers : ℕ) (deed : Deed) (by : Stamp) (x y : Shared) (given : Given) → 0 < kind_of x → kind_of y ≡ kind_of x → ComesOnBoard workers deed by (board_in x).history (board_in y).history given → IsPrefix (history_of x) (history_of y)
comes_grown workers deed by x y given some same came = subst (λ (l : List SharedEntry). IsPrefix l (history_of y)) (sym (history_board x some)) (subst (IsPrefix (map OnBoard (board_in x).history)) (sym (history_board y (still_board x y some same)))
    (map OnBoard (board_entries_by by came.change), ap (map OnBoard) came.history ∙ map-append OnBoard (board_in x).history (board_entries_by by came.change)))

pub board_grown : (workers : ℕ) (ask : Ask) (by : Stamp) (x y : Shared) (r : Result Given Memory) → 0 < kind_of x → kind_of y ≡ kind_of x → OutcomeOnBoard workers ask by (board_in x).history (board_in y).history r → IsPrefix (history_of x) (history_of y)
board_grown workers ask by x y (Ok given) some same came = comes_grown workers (Asked ask) by x y given some same came
board_grown workers ask by x y (Err memory) some same e = subst (λ (z : Shared). IsPrefix (history_of x) (history_of z)) (sym (same_board_in x y some same e)) (whole (history_of x))

-- a turn in which no memory was found
pub waited_on_board : (v w : View SharedEntry) (x y : Shared) → 0 < kind_of x → kind_of y ≡ kind_of x → (board_in y).history ≡ (board_in x).history → Turned v w 0 (history_of x) (history_of y) → Waited v w
waited_on_board v w x y some same e t = waited_idle v w 0 (history_of x) (subst (λ (z : Shared). Turned v w 0 (history_of x) (history_of z)) (same_board_in x y some same e) t)

-- the action of a deed in one turn at the board
pub acted_on_board : (by by' : Stamp) (v w : View SharedEntry) (held held' : List Section) (deed : Deed) (a : Action) (given : Given) (x y : Shared) → by ≡ by' → a.number ≡ by.number → a.object ≡ 0 → a.deed ≡ deed → a.readings ≡ None → a.reply ≡ given.reply → a.changed ≡ given.changed → a.place ≡ length (history_of y)
    → 0 < kind_of x → kind_of y ≡ kind_of x → kind_of x ≡ fixed_at v 0 → ComesOnBoard (board_in x).workers deed by (board_in x).history (board_in y).history given → Turned v w 0 (history_of x) (history_of y) → held' ≡ held → ActedOnBoard by' v w held held' deed a
acted_on_board by by' v w held held' deed a given x y stamp number object is readings reply changed long some same fixed came turned items =
    let workers : (board_in x).workers ≡ fixed_at v 0 - 1 = workers_board x some ∙ ap (λ (n : ℕ). n - 1) fixed in
    let here : ComesOnBoard (fixed_at v 0 - 1) deed by' (board_in x).history (board_in y).history given = subst (λ (n : ℕ). ComesOnBoard n deed by' (board_in x).history (board_in y).history given) workers (subst (λ (b : Stamp). ComesOnBoard (board_in x).workers deed b (board_in x).history (board_in y).history given) stamp came) in
    record {
      number = number ∙ ap (λ (b : Stamp). b.number) stamp;
      object = object;
      deed = is;
      readings = readings;
      before = (board_in x).history;
      after = (board_in y).history;
      comes = record {
        change = here.change;
        answered = subst (λ (r : Reply). IsAnswer (fixed_at v 0 - 1) deed by'.state (board_in x).history (record { reply = r; change = here.change })) (sym reply) here.answered;
        history = here.history;
        changed = changed ∙ here.changed;
      };
      place = long ∙ length_board y (still_board x y some same);
      turned = subst (λ (l : List SharedEntry). Turned v w 0 l (map OnBoard (board_in y).history)) (history_board x some) (subst (Turned v w 0 (history_of x)) (history_board y (still_board x y some same)) turned);
      sections = items;
    }

-- the same of an ask
pub acted_ask_on_board : (by by' : Stamp) (v w : View SharedEntry) (held held' : List Section) (ask : Ask) (place : ℕ) (a : Action) (given : Given) (x y : Shared) → by ≡ by' → a ≡ action_of by 0 place ask given → place ≡ length (history_of y)
    → 0 < kind_of x → kind_of y ≡ kind_of x → kind_of x ≡ fixed_at v 0 → ComesOnBoard (board_in x).workers (Asked ask) by (board_in x).history (board_in y).history given → Turned v w 0 (history_of x) (history_of y) → held' ≡ held → ActedOnBoard by' v w held held' (Asked ask) a
acted_ask_on_board by by' v w held held' ask place a given x y stamp is long some same fixed came turned items =
    acted_on_board by by' v w held held' (Asked ask) a given x y stamp (ap (λ (b : Action). b.number) is) (ap (λ (b : Action). b.object) is) (ap (λ (b : Action). b.deed) is) (ap (λ (b : Action). b.readings) is) (ap (λ (b : Action). b.reply) is) (ap (λ (b : Action). b.changed) is) (ap (λ (b : Action). b.place) is ∙ long) some same fixed came turned items

-- what an end may have done to the board that was taken for it
pub ended_grown : (workers : ℕ) (deed : Deed) (by : Stamp) (x y : Shared) (r : Option Deed) → 0 < kind_of x → kind_of y ≡ kind_of x → IfSome r (λ d. (d ≡ deed) × ComesOnBoard workers d by (board_in x).history (board_in y).history an_end) → IfNone r (y ≡ x) → IsPrefix (history_of x) (history_of y)
ended_grown workers deed by x y (Some d) some same came none = comes_grown workers d by x y an_end some same came.1
ended_grown workers deed by x y None some same came none = subst (λ (z : Shared). IsPrefix (history_of x) (history_of z)) (sym none) (whole (history_of x))

-- an end has a place of its own in the log
pub end_place : (ends : Option (EndKind × EndKind)) (spare : ℕ) → HasPlace (end_deed ends) spare
end_place None spare = tt
end_place (Some copies) spare = tt

-- the action by which a state ends
abbrev pub end_action : Stamp → ℕ → Deed → Action
end_action by place deed = record {
  number = by.number;
  object = 0;
  place = place;
  changed = true;
  deed = deed;
  reply = Done;
  readings = None;
}

pub finished_by : (by by' : Stamp) (v w : View SharedEntry) (deed d : Deed) (place : ℕ) (log log' : List Action) (x y : Shared) → by ≡ by' → d ≡ deed → place ≡ length (history_of y) → 0 < kind_of x → kind_of y ≡ kind_of x → kind_of x ≡ fixed_at v 0
    → ComesOnBoard (board_in x).workers d by (board_in x).history (board_in y).history an_end → Turned v w 0 (history_of x) (history_of y) → log' ≡ log ++ end_action by place d ∷ [] → Finished by' v w deed log log'
finished_by by by' v w deed d place log log' x y stamp is long some same fixed came turned put = record {
  action = end_action by place d;
  acted = acted_on_board by by' v w [] [] deed (end_action by place d) an_end x y stamp refl refl is refl refl refl long some same fixed (subst (λ (e : Deed). ComesOnBoard (board_in x).workers e by (board_in x).history (board_in y).history an_end) is came) turned refl;
  put = put;
}

-- a turn in which the board was only read
pub waited_at_board : (v u w : View SharedEntry) (o : ℕ) (log : List SharedEntry) → Took v u 0 log → o ≡ 0 → w ≡ freed o (published o log u) → Waited v w
waited_at_board v u w o log took same gave = waited_idle v w 0 log (turned_by v u w 0 o log log took same gave)

-- a Thread that doesn't run is waited for no longer
pub comes_waited : (workers : ℕ) (thread : ℕ) (by : Stamp) (h : List BoardEntry) (live : Bool) (main_end : Option ℕ) (given : Given) → IsRunningAt h thread live main_end → live ≡ false → given.reply ≡ Done → given.changed ≡ false → ComesOnBoard workers (waits_for thread) by h h given
comes_waited workers thread by h live main_end given at none reply unchanged = record {
  change = None;
  answered = (0, ap (λ (b : Bool). cond b None (only Done)) (at.runs ∙ none) ∙ ap (λ (r : Reply). only r) (sym reply));
  history = sym (append-nil h);
  changed = unchanged;
}

-- and one that runs was found to, in a turn after state 0's end
pub stopped_at_board : (state : ℕ) (v u w : View SharedEntry) (o thread place main_end : ℕ) (x : Shared) (live : Bool) (ended : Option ℕ) (stop : Stop) → state ≢ 0 → 0 < kind_of x → Took v u 0 (history_of x) → o ≡ 0 → w ≡ freed o (published o (history_of x) u) → IsRunningAt (board_in x).history thread live ended → live ≡ true → ended ≡ Some main_end → place ≡ length (history_of x)
    → stop ≡ record { board_place = place; main_end = main_end; object = 0; place = place; busy = None; ask = WaitFor thread } → IsStoppedWaiting state w thread stop
stopped_at_board state v u w o thread place main_end x live ended stop other some took same gave at lives ends long is =
    let known : (spot w 0).known ≡ history_of x = known_turn v u w 0 (history_of x) took (gave ∙ ap (λ (n : ℕ). freed n (published n (history_of x) u)) same) in
    let entries : board_entries (spot w 0).known ≡ (board_in x).history = ap board_entries (known ∙ history_board x some) ∙ same_board (board_in x).history in
    subst (IsStoppedWaiting state w thread) (sym is) (record {
      not_main = other;
      asked = refl;
      object = refl;
      place = refl;
      busy = refl;
      ended = record {
        ended = ap (λ (h : List BoardEntry). (register h).main_end) entries ∙ (at.ended ∙ ends);
        place = long ∙ sym (ap length known);
      };
      unanswered = λ workers worker. ap (λ (h : List BoardEntry). answer workers worker (waits_for thread) state h) entries ∙ ap (λ (b : Bool). cond b None (only Done)) (at.runs ∙ lives);
    })
