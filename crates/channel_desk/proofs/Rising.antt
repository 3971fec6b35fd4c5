-- The places of a state's actions on one object rise.
use Rattle.std.proofs.Common.{◌≡◌, ◌∙◌, ℕ, ◌+◌, ◌<◌, ◌≤◌, is_some, List, [], ◌∷◌, ◌++◌, map, length, get_or, length-append, Option, Some, None, refl, sym, ap, subst, arith, inl, inr}
use Rattle.std.proofs.lemmas.List.{get_or_push, length-map}
use Rattle.love_base.specs.declared.stamp.Stamp.{Stamp}
use Rattle.variant.specs.declared.ask.Ask.{Ask}
use Rattle.variant.specs.declared.action.Action.{Action}
use Rattle.variant.specs.declared.action.Deed.{Deed}
use Rattle.variant.specs.declared.action.Deed.TheVariants.{Asked}
use Rattle.variant.specs.declared.action.Stop.{Stop}
use Rattle.channel_core.specs.Answers.{IsAnswer, answer}
use Rattle.channel_core.specs.Lawful.{IsAdmitted}
use Rattle.thread_board.specs.declared.entry.BoardEntry.{BoardEntry}
use Rattle.thread_board.specs.declared.entry.BoardChange.{BoardChange}
use Rattle.channel_core.specs.declared.entry.Entry.{Entry}
use Rattle.channel_core.specs.declared.entry.Change.{Change}
use Rattle.turn_desk.specs.declared.view.Phase.TheVariants.{Free}
use Rattle.turn_desk.specs.declared.view.View.{View}
use Rattle.turn_desk.specs.Notes.{step_of}
use Rattle.turn_desk.specs.Passes.{DeskId, Standing}
use Rattle.turn_desk.specs.View.{spot}
use Rattle.turn_desk.proofs.Callers.{taken_is_busy}
use Rattle.channel_desk.specs.declared.sections.Section.{Section}
use Rattle.channel_desk.specs.declared.shared.SharedEntry.{SharedEntry}
use Rattle.channel_desk.specs.declared.shared.SharedEntry.TheVariants.{Board as OnBoard, Channel as OnChannel}
use Rattle.channel_desk.specs.Shared.{history_of}
use Rattle.channel_desk.specs.Deeds.{entries_by}
use Rattle.channel_desk.specs.Holding.{IsHolding, sections_on}
use Rattle.channel_desk.specs.Turns.{IsAt, Step, Took, in_turn, inside, entering, leaving}
use Rattle.channel_desk.specs.Acting.{Acted}
use Rattle.channel_desk.specs.Awaiting.{Awaited, Demanded, IsStoppedAwaiting, Seen, answered, ran_out}
use Rattle.channel_desk.specs.Awaiting.{inside as seen_inside, at_look as seen_look}
use Rattle.channel_desk.specs.Leaving.{Cut}
use Rattle.channel_desk.specs.Looking.{Found, Glanced}
use Rattle.channel_desk.specs.Looking.{inside as found_inside, at_look as found_look}
use Rattle.channel_desk.specs.Ahead.{IsPastAll, Reaches}
use Rattle.channel_desk.specs.OnBoard.{ActedOnBoard, board_entries_by}
use Rattle.channel_desk.proofs.Acts.{length_channel}
use Rattle.channel_desk.proofs.Holds.{none_at, section_at}
use Rattle.channel_desk.proofs.Moves.{one_place}

-- the last section stands at the place behind the others
pub at_last : (held before : List Section) (s : Section) → before ≡ held ++ s ∷ [] → IsAt before s.held.object (length held) s
at_last held before s e = record {
  within = let n = ap length e ∙ length-append held (s ∷ []) in omega arith;
  item = λ d. ap (λ (x : List Section). get_or x (length held) d) e ∙ get_or_push held s d (length held) (omega arith);
  object = refl;
}

module _ (desk : DeskId) (state next : ℕ) (p : Standing SharedEntry) (held : List Section) where
  -- a state has no section on an object that it may take
  no_section : (o k : ℕ) (s : Section) → IsHolding desk state next p held → (spot p.view o).phase ≡ Free → IsAt held o k s → ⊥
  no_section o k s h free at = taken_is_busy (sym (section_at desk state next p held o k s h at).phase ∙ (ap (λ (n : ℕ). (spot p.view n).phase) at.object ∙ free))

  -- what was reached of an object that is taken then
  pub reached_took : (w : View SharedEntry) (o : ℕ) (log : List SharedEntry) → IsHolding desk state next p held → Took p.view w o log → (n : ℕ) → Reaches p.view held o n → n ≤ length log
  reached_took w o log h took n (inl le) = let a = took.waited.grew.front o in let b = took.seen.front in omega arith
  reached_took w o log h took n (inr m) = absurd (no_section o m.0 m.1 h took.free m.2)

  -- and of one on which the state has a section
  pub reached_section : (o k : ℕ) (s : Section) → IsHolding desk state next p held → IsAt held o k s → (n : ℕ) → Reaches p.view held o n → n ≤ length (history_of s.held.value)
  reached_section o k s h at n (inl le) =
      let f = (section_at desk state next p held o k s h at).front in
      let same : (spot p.view s.held.object).front ≡ (spot p.view o).front = ap (λ (x : ℕ). (spot p.view x).front) at.object in omega arith
  reached_section o k s h at n (inr m) =
      let one : k ≡ m.0 = one_place desk state next p held o k m.0 s m.1 h at m.2 in
      let same : m.1 ≡ s = sym (m.2.item s) ∙ (ap (λ (x : ℕ). get_or held x s) (sym one) ∙ at.item s) in
      let long : length (history_of m.1.held.value) ≡ length (history_of s.held.value) = ap (λ (x : Section). length (history_of x.held.value)) same in
      let le : n ≤ length (history_of m.1.held.value) = m.3 in omega arith

  -- what was reached before a step stands in the history that the step met
  pub reached_step : (ask : Ask) (w : View SharedEntry) (held' : List Section) (o depth : ℕ) (log log' : List SharedEntry) → IsHolding desk state next p held → Step ask p.view w held held' o depth log log' → (n : ℕ) → Reaches p.view held o n → n ≤ length log
  reached_step ask w held' o depth log log' h (in_turn flat t same) n r = reached_took t.taken o log h t.took n r
  reached_step ask w held' o depth log log' h (inside deep same x) n r = let le = reached_section o x.place x.section h x.at n r in let long = ap length x.before in omega arith
  reached_step ask w held' o depth log log' h (entering flat e) n r = reached_took w o log h e.took n r
  reached_step ask w held' o depth log log' h (leaving deep l) n r =
      let at : IsAt held o (length held') l.section = subst (λ (x : ℕ). IsAt held x (length held') l.section) l.object (at_last held' held l.section l.items) in
      let le = reached_section o (length held') l.section h at n r in let long = ap length l.before in omega arith

  -- a look shows all that was reached
  pub reached_look : (o place : ℕ) → IsHolding desk state next p held → sections_on o held ≡ 0 → (spot p.view o).front ≤ place → (n : ℕ) → Reaches p.view held o n → n ≤ place
  reached_look o place h none ahead n (inl le) = omega arith
  reached_look o place h none ahead n (inr m) = absurd (none_at held o none m.0 m.1 m.2.within (ap (λ (x : Section). x.held.object) (m.2.item m.1) ∙ m.2.object))

  -- and so does what a wait saw
  pub seen_past : (P : ℕ → List Entry → Type 0) (w : View SharedEntry) (o place : ℕ) → IsHolding desk state next p held → Seen P p.view w held o place → (n : ℕ) → Reaches p.view held o n → n ≤ place
  seen_past P w o place h (seen_inside k s at deep waited long q) n r =
      let le = reached_section o k s h at n r in let entries = length_channel s.held.value (section_at desk state next p held o k s h at).kind in omega arith
  seen_past P w o place h (seen_look u summary none waited looked q) n r =
      let a = waited.grew.front o in let b = looked.ahead in let le : (spot p.view o).front ≤ place = omega arith in reached_look o place h none le n r

-- how many entries a change adds
added : (by : Stamp) (change : Option Change) → length (entries_by by change) ≡ step_of (is_some change)
added by None = refl
added by (Some change) = refl

-- an action stands nowhere before what its state reached there, and behind it where it changed the object
pub acted_past : (desk : DeskId) (state next : ℕ) (p : Standing SharedEntry) (by : Stamp) (w : View SharedEntry) (held held' : List Section) (ask : Ask) (a : Action) → IsHolding desk state next p held → Acted by p.view w held held' ask a → IsPastAll p.view held a
acted_past desk state next p by w held held' ask a h acted n r =
    let le : n ≤ length (map OnChannel acted.before) = reached_step desk state next p held ask w held' a.object acted.depth (map OnChannel acted.before) (map OnChannel acted.after) h acted.step n r in
    let long = length-map acted.before (λ (e : Entry). OnChannel e) in
    let more : length acted.after ≡ length acted.before + step_of a.changed = ap length acted.comes.history ∙ (length-append acted.before (entries_by by acted.comes.change) ∙ ap (λ (x : ℕ). length acted.before + x) (added by acted.comes.change ∙ ap step_of (sym acted.comes.changed))) in
    let at = acted.place in omega arith

added_on_board : (by : Stamp) (change : Option BoardChange) → length (board_entries_by by change) ≡ step_of (is_some change)
added_on_board by None = refl
added_on_board by (Some change) = refl

-- the same of an action at the board
pub acted_past_board : (desk : DeskId) (state next : ℕ) (p : Standing SharedEntry) (by : Stamp) (w : View SharedEntry) (held held' : List Section) (deed : Deed) (a : Action) → IsHolding desk state next p held → ActedOnBoard by p.view w held held' deed a → IsPastAll p.view held a
acted_past_board desk state next p by w held held' deed a h acted n r =
    let here : Reaches p.view held 0 n = subst (λ (o : ℕ). Reaches p.view held o n) acted.object r in
    let le : n ≤ length (map OnBoard acted.before) = reached_took desk state next p held acted.turned.taken 0 (map OnBoard acted.before) h acted.turned.took n here in
    let long = length-map acted.before (λ (e : BoardEntry). OnBoard e) in
    let more : length acted.after ≡ length acted.before + step_of a.changed = ap length acted.comes.history ∙ (length-append acted.before (board_entries_by by acted.comes.change) ∙ ap (λ (x : ℕ). length acted.before + x) (added_on_board by acted.comes.change ∙ ap step_of (sym acted.comes.changed))) in
    let at = acted.place in omega arith

-- of a state that is cut, and leaves a section
pub cut_past : (desk : DeskId) (state next : ℕ) (p : Standing SharedEntry) (by : Stamp) (w : View SharedEntry) (held held' : List Section) (a : Action) → IsHolding desk state next p held → Cut by p.view w held held' a → IsPastAll p.view held a
cut_past desk state next p by w held held' a h cut n r =
    let l = cut.left in
    let at : IsAt held a.object (length held') l.section = subst (λ (x : ℕ). IsAt held x (length held') l.section) l.object (at_last held' held l.section l.items) in
    let le = reached_section desk state next p held a.object (length held') l.section h at n r in
    let met : length (history_of l.section.held.value) ≡ length (map OnChannel cut.before) = ap length l.before in
    let long = length-map cut.before (λ (e : Entry). OnChannel e) in
    let more : length cut.after ≡ length cut.before + step_of a.changed = ap length cut.comes.history ∙ (length-append cut.before (entries_by by cut.comes.change) ∙ ap (λ (x : ℕ). length cut.before + x) (added by cut.comes.change ∙ ap step_of (sym cut.comes.changed))) in
    let at = cut.place in omega arith

-- of an answer by a look, or inside the state's own section
pub glanced_past : (desk : DeskId) (state next : ℕ) (p : Standing SharedEntry) (by : Stamp) (w : View SharedEntry) (held : List Section) (ask : Ask) (a : Action) → IsHolding desk state next p held → Glanced by p.view w held ask a → IsPastAll p.view held a
glanced_past desk state next p by w held ask a h glanced n r =
    let le : n ≤ a.place = at_place glanced.found in let none : step_of a.changed ≡ 0 = ap step_of glanced.changed in omega arith
  where
    at_place : Found by ask p.view w held a → n ≤ a.place
    at_place (found_inside k s at same long replied) =
        let le = reached_section desk state next p held a.object k s h at n r in
        let entries = length_channel s.held.value (section_at desk state next p held a.object k s h at).kind in omega arith
    at_place (found_look summary none looked answers) = reached_look desk state next p held a.object a.place h none looked.ahead n r

-- and of a wait
pub awaited_past : (desk : DeskId) (state next : ℕ) (p : Standing SharedEntry) (shows : ℕ → Type 0) (by : Stamp) (w : View SharedEntry) (held : List Section) (ask : Ask) (a : Action) → IsHolding desk state next p held → Awaited shows by p.view w held ask a → IsPastAll p.view held a
awaited_past desk state next p shows by w held ask a h awaited n r =
    let le : n ≤ a.place = seen_past desk state next p held (λ depth x. IsAnswer shows (Asked ask) by.state depth x (record { reply = a.reply; change = None }) a.readings) w a.object a.place h awaited.seen n r in
    let none : step_of a.changed ≡ 0 = ap step_of awaited.changed in omega arith

pub demanded_past : (desk : DeskId) (state next : ℕ) (p : Standing SharedEntry) (shows : ℕ → Type 0) (by : Stamp) (w : View SharedEntry) (held held' : List Section) (ask : Ask) (a : Action) → IsHolding desk state next p held → Demanded shows by p.view w held held' ask a → IsPastAll p.view held a
demanded_past desk state next p shows by w held held' ask a h (answered acted) = acted_past desk state next p by w held held' ask a h acted
demanded_past desk state next p shows by w held held' ask a h (ran_out same awaited) = awaited_past desk state next p shows by w held ask a h awaited

-- a wait for a change of a Channel is given up nowhere before what its state reached there
pub stopped_past : (desk : DeskId) (state next : ℕ) (p : Standing SharedEntry) (w : View SharedEntry) (held : List Section) (ask : Ask) (stop : Stop) → IsHolding desk state next p held → IsStoppedAwaiting state p.view w held ask stop → (n : ℕ) → Reaches p.view held stop.object n → n ≤ stop.place
stopped_past desk state next p w held ask stop h stopped n r =
    seen_past desk state next p held (λ depth x. IsAdmitted x state × (answer (Asked ask) state depth x ≡ None)) w stop.object stop.place h stopped.seen n r
