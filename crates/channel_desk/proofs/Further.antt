-- Actions at the board, and those of looks and waits, are answers in all histories that go on from what their
-- state has seen then.
use Rattle.std.proofs.Common.{◌≡◌, ◌∙◌, ℕ, ◌+◌, ◌-◌, ◌<◌, ◌≤◌, All, List, [], ◌∷◌, ◌++◌, map, take, drop, length, None, refl, sym, ap, subst, arith, append_assoc, append-nil, inl}
use Rattle.std.proofs.lemmas.List.{length-map, length-take, map-append, take-append-drop}
use mathlib.Core.Option.{some}
use lib.ListN.{get_elem?}
use Rattle.love_base.specs.Prefix.{IsPrefix}
use Rattle.love_base.specs.declared.stamp.Stamp.{Stamp}
use Rattle.love_base.proofs.Prefixes.{further}
use Rattle.variant.specs.declared.ask.Ask.{Ask}
use Rattle.variant.specs.declared.action.Action.{Action}
use Rattle.variant.specs.declared.action.Deed.{Deed}
use Rattle.variant.specs.declared.action.Deed.TheVariants.{Asked}
use Rattle.variant.specs.declared.action.Stop.{Stop}
use Rattle.channel_core.specs.declared.entry.Entry.{Entry}
use Rattle.channel_core.specs.Answers.{IsAnswer, answer}
use Rattle.channel_core.specs.Lawful.{IsAdmitted}
use Rattle.thread_board.specs.declared.entry.BoardEntry.{BoardEntry}
use Rattle.thread_board.specs.Answers.{IsAnswer as IsBoardAnswer}
use Rattle.turn_desk.specs.declared.view.Look.{Look}
use Rattle.turn_desk.specs.declared.view.View.{View}
use Rattle.turn_desk.specs.Notes.{IsShown}
use Rattle.turn_desk.specs.Passes.{DeskId, Standing, fixed_at}
use Rattle.turn_desk.specs.View.{spot}
use Rattle.turn_desk.proofs.Callers.{released_here}
use Rattle.channel_desk.specs.declared.sections.Section.{Section}
use Rattle.channel_desk.specs.declared.shared.SharedEntry.{SharedEntry}
use Rattle.channel_desk.specs.declared.shared.SharedEntry.TheVariants.{Board as OnBoard, Channel as OnChannel}
use Rattle.channel_desk.specs.Shared.{board_entries, channel_in, history_of, rests, summary_of}
use Rattle.channel_desk.specs.Same.{same_board}
use Rattle.channel_desk.specs.Ahead.{Begins, Histories, IsAhead, IsAnswered, IsAnsweredOnBoard, entries_at}
use Rattle.channel_desk.specs.Awaiting.{Awaited, IsStoppedAwaiting, Seen}
use Rattle.channel_desk.specs.Awaiting.{inside as seen_inside, at_look as seen_look}
use Rattle.channel_desk.specs.Holding.{IsHolding}
use Rattle.channel_desk.specs.Looking.{Found, Glanced, Looked, look_at}
use Rattle.channel_desk.specs.Looking.{inside as found_inside, at_look as found_look}
use Rattle.channel_desk.specs.OnBoard.{ActedOnBoard, board_entries_by}
use Rattle.channel_desk.specs.Turns.{Waited}
use Rattle.channel_desk.proofs.Acts.{history_channel}
use Rattle.channel_desk.proofs.Ahead.{at_longer, channel_entries_at, prefix_channel, turned_grew}
use Rattle.channel_desk.proofs.Holds.{section_at}
use Rattle.channel_desk.proofs.Waiting.{waited_same}

board_append : (xs ys : List SharedEntry) → board_entries (xs ++ ys) ≡ board_entries xs ++ board_entries ys
board_append [] ys = refl
board_append (OnBoard e ∷ xs) ys = ap (λ (l : List BoardEntry). e ∷ l) (board_append xs ys)
board_append (OnChannel e ∷ xs) ys = board_append xs ys

-- what begins the board's history as an object's begins it as the board's
prefix_board : (xs ys : List BoardEntry) → IsPrefix (map OnBoard xs) (map OnBoard ys) → IsPrefix xs ys
prefix_board xs ys p = (board_entries p.0, sym (same_board ys) ∙ (ap board_entries p.1 ∙ (board_append (map OnBoard xs) p.0 ∙ ap (λ (l : List BoardEntry). l ++ board_entries p.0) (same_board xs))))

-- what goes on from what is known after some waiting goes on from what was known before
pub waited_keeps : (v w : View SharedEntry) (held : List Section) (hs : Histories) → Waited v w → IsAhead w held hs → IsAhead v held hs
waited_keeps v w held hs waited ahead = let grew = waited.grew in record {
  known = λ p le. further (spot v p).known (spot w p).known (entries_at hs p) (grew.known p) (ahead.known p le);
  sections = ahead.sections;
  looks = λ k l e le. ahead.looks k l (ap (λ (z : List Look). get_elem? z k) grew.looks.1 ∙ at_longer v.looks grew.looks.0 k l e) le;
}

-- an action at the board is the answer at its place of each such history
pub board_answered : (by : Stamp) (v w : View SharedEntry) (held held' : List Section) (deed : Deed) (a : Action) (hs : Histories) → ActedOnBoard by v w held held' deed a → IsAhead w held' hs → IsAnsweredOnBoard (fixed_at v 0 - 1) by a hs.board
board_answered by v w held held' deed a hs acted ahead =
    let came = acted.comes in let t = acted.turned in
    let known = (released_here t.taken w 0 (map OnBoard acted.after) t.took.kept.phase t.gave).known in
    let p : IsPrefix (map OnBoard acted.after) (map OnBoard hs.board) = subst (λ (l : List SharedEntry). IsPrefix l (map OnBoard hs.board)) known (ahead.known 0 (omega arith)) in
    let q = prefix_board acted.after hs.board p in let e = board_entries_by by came.change in record {
      before = acted.before;
      change = came.change;
      after = q.0;
      history = q.1 ∙ (ap (λ (l : List BoardEntry). l ++ q.0) came.history ∙ append_assoc acted.before e q.0);
      place = acted.place ∙ ap length came.history;
      changed = came.changed;
      answered = subst (λ (d : Deed). IsBoardAnswer (fixed_at v 0 - 1) d by.state acted.before (record { reply = a.reply; change = came.change })) (sym acted.deed) came.answered;
    }

pub board_keeps : (by : Stamp) (v w : View SharedEntry) (held held' : List Section) (deed : Deed) (a : Action) (hs : Histories) → ActedOnBoard by v w held held' deed a → IsAhead w held' hs → IsAhead v held hs
board_keeps by v w held held' deed a hs acted ahead =
    let grown : IsPrefix (map OnBoard acted.before) (map OnBoard acted.after) = (map OnBoard (board_entries_by by acted.comes.change), ap (map OnBoard) acted.comes.history ∙ map-append OnBoard acted.before (board_entries_by by acted.comes.change)) in
    let grew = (turned_grew v w 0 (map OnBoard acted.before) (map OnBoard acted.after) grown acted.turned).1 in record {
      known = λ p le. further (spot v p).known (spot w p).known (entries_at hs p) (grew.known p) (ahead.known p le);
      sections = subst (All (λ (s : Section). IsPrefix (history_of s.held.value) (entries_at hs s.held.object))) acted.sections ahead.sections;
      looks = λ k l e le. ahead.looks k l (ap (λ (z : List Look). get_elem? z k) grew.looks.1 ∙ at_longer v.looks grew.looks.0 k l e) le;
    }

-- the last look
last_look : (l : List Look) (x : Look) → get_elem? (l ++ x ∷ []) (length l) ≡ some x
last_look [] x = refl
last_look (y ∷ ys) x = last_look ys x

module _ (desk : DeskId) (state next : ℕ) (p : Standing SharedEntry) (held : List Section) (hs : Histories) where
  -- what was seen of a Channel holds of the beginning of each such history
  pub seen_begins : (P : ℕ → List Entry → Type 0) (w : View SharedEntry) (o place : ℕ) → IsHolding desk state next p held → 0 < o → o ≤ 1024 → IsAhead w held hs → Seen P p.view w held o place → Begins P place (hs.channels o)
  seen_begins P w o place h low few ahead (seen_inside k s at deep waited long q) =
      let i = section_at desk state next p held o k s h at in
      let here : IsPrefix (history_of s.held.value) (entries_at hs s.held.object) = subst (λ (x : Section). IsPrefix (history_of x.held.value) (entries_at hs x.held.object)) (at.item s) (ahead.sections k s at.within) in
      let there : IsPrefix (map OnChannel (channel_in s.held.value)) (map OnChannel (hs.channels o)) = subst (IsPrefix (map OnChannel (channel_in s.held.value))) (channel_entries_at hs o low)
      (subst (λ (n : ℕ). IsPrefix (map OnChannel (channel_in s.held.value)) (entries_at hs n)) at.object (subst (λ (l : List SharedEntry). IsPrefix l (entries_at hs s.held.object)) (history_channel s.held.value i.kind) here)) in
      let pre = prefix_channel (channel_in s.held.value) (hs.channels o) there in record {
        depth = s.depth;
        before = channel_in s.held.value;
        after = pre.0;
        history = pre.1;
        place = long;
        holds = q;
      }
  seen_begins P w o place h low few ahead (seen_look u summary none waited looked q) =
      let l = look_at u o place summary in
      let noted : get_elem? w.looks (length u.looks) ≡ some l = ap (λ (z : View SharedEntry). get_elem? z.looks (length u.looks)) looked.looked ∙ last_look u.looks l in
      let shown : IsShown summary_of rests (map OnChannel (hs.channels o)) l = subst (λ (x : List SharedEntry). IsShown summary_of rests x l) (channel_entries_at hs o low) (ahead.looks (length u.looks) l noted few) in
      let long = length-map (hs.channels o) (λ (e : Entry). OnChannel e) in let within = shown.within in record {
        depth = 0;
        before = take place (hs.channels o);
        after = drop place (hs.channels o);
        history = sym (take-append-drop place (hs.channels o));
        place = let t = length-take place (hs.channels o) in omega arith;
        holds = q (hs.channels o) shown;
      }

  -- so a wait that was answered without a turn is the answer at its place
  pub awaited_answered : (shows : ℕ → Type 0) (by : Stamp) (w : View SharedEntry) (ask : Ask) (a : Action) → IsHolding desk state next p held → 0 < a.object → a.object ≤ 1024 → IsAhead w held hs → Awaited shows by p.view w held ask a → (depth : ℕ) × IsAnswered shows by depth a (hs.channels a.object)
  awaited_answered shows by w ask a h low few ahead awaited =
      let b = seen_begins (λ depth x. IsAnswer shows (Asked ask) by.state depth x (record { reply = a.reply; change = None }) a.readings) w a.object a.place h low few ahead awaited.seen in (
        b.depth,
        record {
          before = b.before;
          change = None;
          after = b.after;
          history = b.history;
          place = b.place ∙ ap length (sym (append-nil b.before));
          changed = awaited.changed;
          answered = subst (λ (d : Deed). IsAnswer shows d by.state b.depth b.before (record { reply = a.reply; change = None }) a.readings) (sym awaited.deed) b.holds;
        },
      )

  -- and one that was stopped has no answer there
  pub stopped_unanswered : (w : View SharedEntry) (ask : Ask) (stop : Stop) → IsHolding desk state next p held → 0 < stop.object → stop.object ≤ 1024 → IsAhead w held hs → IsStoppedAwaiting state p.view w held ask stop
      → Begins (λ depth h. IsAdmitted h state × (answer (Asked ask) state depth h ≡ None)) stop.place (hs.channels stop.object)
  stopped_unanswered w ask stop h low few ahead stopped = seen_begins (λ depth x. IsAdmitted x state × (answer (Asked ask) state depth x ≡ None)) w stop.object stop.place h low few ahead stopped.seen

  -- an answer by a look is one of a wait of no length
  pub glanced_awaited : (shows : ℕ → Type 0) (by : Stamp) (w : View SharedEntry) (ask : Ask) (a : Action) → IsHolding desk state next p held → Glanced by p.view w held ask a → Awaited shows by p.view w held ask a
  glanced_awaited shows by w ask a h glanced = record {
    number = glanced.number;
    object = glanced.object;
    changed = glanced.changed;
    deed = glanced.deed;
    seen = on glanced.found;
  }
    where
      on : Found by ask p.view w held a → Seen (λ depth x. IsAnswer shows (Asked ask) by.state depth x (record { reply = a.reply; change = None }) a.readings) p.view w held a.object a.place
      on (found_inside k s at same long told) = seen_inside k s at (section_at desk state next p held a.object k s h at).depth (subst (Waited p.view) (sym same) (waited_same p.view)) long (inl (told, glanced.readings))
      on (found_look summary none looked told) = seen_look p.view summary none (waited_same p.view) looked (λ x shown. inl (told x shown, glanced.readings))
