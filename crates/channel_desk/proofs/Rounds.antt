-- From what a round of a wait came to, what the wait comes to.
use Rattle.std.proofs.Common.{◌≡◌, ◌∙◌, ℕ, ◌-◌, List, Option, Some, None, Result, Ok, Err, sym, ap, subst}
use Rattle.std.specs.Prelude.{IfOk, IfSome, IfNone, OnErr, slice_index}
use Rattle.love_base.specs.declared.stamp.Stamp.{Stamp}
use Rattle.variant.specs.declared.ask.Ask.{Ask}
use Rattle.variant.specs.declared.action.Action.{Action}
use Rattle.variant.specs.declared.action.Deed.{Deed}
use Rattle.variant.specs.declared.action.Stop.{Stop}
use Rattle.turn_desk.specs.declared.view.View.{View}
use Rattle.channel_desk.specs.declared.fault.ActFault.{ActFault}
use Rattle.channel_desk.specs.declared.fault.ActFault.TheVariants.{Stopped, Memory}
use Rattle.channel_desk.specs.declared.sections.Section.{Section}
use Rattle.channel_desk.specs.declared.shared.SharedEntry.{SharedEntry}
use Rattle.channel_desk.specs.Acting.{Acted, IsStopped}
use Rattle.channel_desk.specs.Awaiting.{Awaited, Demanded, IsStoppedAwaiting, IsStoppedDemanding, answered}
use Rattle.channel_desk.specs.Deeds.{object_of}
use Rattle.channel_desk.specs.OnBoard.{ActedOnBoard, ComesOnBoard}
use Rattle.channel_desk.specs.Holding.{sections_on}
use Rattle.channel_desk.specs.ThreadEnd.{IsStoppedWaiting}
use Rattle.channel_desk.specs.Turns.{Waited}
use Rattle.channel_desk.proofs.Waiting.{took_later, waited_further}
use Rattle.channel_desk.proofs.Waits.{acted_later, awaited_later, demanded_later, halted_later, demand_stopped_later, stopped_later}

-- a fault that is handed on
abbrev fault_in : ActFault → Result Action ActFault → ActFault
fault_in d (Ok a) = d
fault_in d (Err x) = x

pub other_fault : (r : Result (Option Action) ActFault) (x y : ActFault) → r ≡ Err x → ◌≡◌ {A = Result Action ActFault} (Err x) (Err y) → r ≡ Err y
other_fault r x y is same = is ∙ ap (λ (z : ActFault). Err z) (ap (fault_in x) same)

-- what stands where a round found nothing
pub not_found : (r : Result (Option Action) ActFault) (o : Option Action) (P : Type 0) → r ≡ Ok o → o ≡ None → IfOk r (λ found. IfNone found P) → P
not_found r o P is none p = subst (λ (x : Option Action). IfNone x P) none (subst (λ (x : Result (Option Action) ActFault). IfOk x (λ found. IfNone found P)) is p)

stamp_as : (s n s' n' : ℕ) → s' ≡ s → n' ≡ n → ◌≡◌ {A = Stamp} (record { state = s'; number = n' }) (record { state = s; number = n })
stamp_as s n s' n' p q = λ i. record { state = p i; number = q i }

-- an action that a round found
pub awaited_found : (shows : ℕ → Type 0) (s n s' n' : ℕ) (u v w : View SharedEntry) (held held' : List Section) (ask : Ask) (found : Option Action) (a : Action) → found ≡ Some a → s' ≡ s → n' ≡ n → held' ≡ held → Waited u v
    → IfSome found (λ x. Awaited shows (record { state = s'; number = n' }) v w held' ask x) → Awaited shows (record { state = s; number = n }) u w held ask a
awaited_found shows s n s' n' u v w held held' ask found a there p q same waited all =
    let one : Awaited shows (record { state = s'; number = n' }) v w held' ask a = subst (λ (y : Option Action). IfSome y (λ x. Awaited shows (record { state = s'; number = n' }) v w held' ask x)) there all in
    awaited_later shows (record { state = s; number = n }) u v w held ask a waited (subst (λ (b : Stamp). Awaited shows b v w held ask a) (stamp_as s n s' n' p q) (subst (λ (l : List Section). Awaited shows (record { state = s'; number = n' }) v w l ask a) same one))

pub demanded_found : (shows : ℕ → Type 0) (s n s' n' : ℕ) (u v w : View SharedEntry) (held held' after : List Section) (ask : Ask) (found : Option Action) (a : Action) → found ≡ Some a → sections_on (object_of ask) held ≡ 0 → s' ≡ s → n' ≡ n → held' ≡ held → Waited u v
    → IfSome found (λ x. Demanded shows (record { state = s'; number = n' }) v w held' after ask x) → Demanded shows (record { state = s; number = n }) u w held after ask a
demanded_found shows s n s' n' u v w held held' after ask found a there none p q same waited all =
    let one : Demanded shows (record { state = s'; number = n' }) v w held' after ask a = subst (λ (y : Option Action). IfSome y (λ x. Demanded shows (record { state = s'; number = n' }) v w held' after ask x)) there all in
    demanded_later shows (record { state = s; number = n }) u v w held after ask a none waited (subst (λ (b : Stamp). Demanded shows b v w held after ask a) (stamp_as s n s' n' p q) (subst (λ (l : List Section). Demanded shows (record { state = s'; number = n' }) v w l after ask a) same one))

-- and a stop
pub stopped_from : (s s' : ℕ) (u v w : View SharedEntry) (held held' : List Section) (ask : Ask) (stop : Stop) → s' ≡ s → held' ≡ held → Waited u v → IsStoppedAwaiting s' v w held' ask stop → IsStoppedAwaiting s u w held ask stop
stopped_from s s' u v w held held' ask stop p same waited one =
    stopped_later s u v w held ask stop waited (subst (λ (n : ℕ). IsStoppedAwaiting n v w held ask stop) p (subst (λ (l : List Section). IsStoppedAwaiting s' v w l ask stop) same one))

pub demand_stopped_from : (s s' : ℕ) (u v w : View SharedEntry) (held held' : List Section) (ask : Ask) (stop : Stop) → s' ≡ s → held' ≡ held → Waited u v → IsStoppedDemanding s' v w held' ask stop → IsStoppedDemanding s u w held ask stop
demand_stopped_from s s' u v w held held' ask stop p same waited one =
    demand_stopped_later s u v w held ask stop waited (subst (λ (n : ℕ). IsStoppedDemanding n v w held ask stop) p (subst (λ (l : List Section). IsStoppedDemanding s' v w l ask stop) same one))

pub halted_from : (s s' : ℕ) (u v w : View SharedEntry) (held held' : List Section) (ask : Ask) (stop : Stop) → s' ≡ s → held' ≡ held → Waited u v → IsStopped s' v w held' ask stop → IsStopped s u w held ask stop
halted_from s s' u v w held held' ask stop p same waited one =
    halted_later s u v w held ask stop waited (subst (λ (n : ℕ). IsStopped n v w held ask stop) p (subst (λ (l : List Section). IsStopped s' v w l ask stop) same one))

-- a message that was taken in a round
pub demanded_now : (shows : ℕ → Type 0) (s n s' n' : ℕ) (u v w : View SharedEntry) (held held' after : List Section) (ask : Ask) (r : Result (Option Action) ActFault) → sections_on (object_of ask) held ≡ 0 → s' ≡ s → n' ≡ n → held' ≡ held → Waited u v
    → IfOk r (λ found. IfSome found (λ a. Acted (record { state = s'; number = n' }) v w held' after ask a)) → IfOk r (λ found. IfSome found (λ a. Demanded shows (record { state = s; number = n }) u w held after ask a))
demanded_now shows s n s' n' u v w held held' after ask (Ok (Some a)) none p q same waited acted =
    answered (acted_later (record { state = s; number = n }) u v w held after ask a none waited (subst (λ (b : Stamp). Acted b v w held after ask a) (stamp_as s n s' n' p q) (subst (λ (l : List Section). Acted (record { state = s'; number = n' }) v w l after ask a) same acted)))
demanded_now shows s n s' n' u v w held held' after ask (Ok None) none p q same waited acted = tt
demanded_now shows s n s' n' u v w held held' after ask (Err x) none p q same waited acted = tt

-- what is as it was
pub keeps_from : (n m k : ℕ) (held more after : List Section) (u v w : View SharedEntry) → m ≡ n → more ≡ held → Waited u v → (k ≡ m) × (after ≡ more) × Waited v w → (k ≡ n) × (after ≡ held) × Waited u w
keeps_from n m k held more after u v w p same waited kept = (kept.0 ∙ p, kept.1 ∙ same, waited_further u v w waited kept.2)

pub unfound_so : (r : Result (Option Action) ActFault) (P Q : Type 0) → (P → Q) → IfOk r (λ found. IfNone found P) → IfOk r (λ found. IfNone found Q)
unfound_so (Ok None) P Q so p = so p
unfound_so (Ok (Some a)) P Q so p = tt
unfound_so (Err x) P Q so p = tt

pub kept_so : (r : Result (Option Action) ActFault) (P Q : Type 0) → (P → Q) → OnErr r P → OnErr r Q
kept_so (Ok found) P Q so p = tt
kept_so (Err x) P Q so p = so p

pub on_err : (r : Result (Option Action) ActFault) (x : ActFault) (P : Type 0) → r ≡ Err x → OnErr r P → P
on_err r x P is p = subst (λ (y : Result (Option Action) ActFault). OnErr y P) is p

-- the stop that a fault is
abbrev stop_in : Stop → ActFault → Stop
stop_in d (Stopped s) = s
stop_in d Memory = d

abbrev fault_of : ActFault → Result (Option Action) ActFault → ActFault
fault_of d (Ok a) = d
fault_of d (Err y) = y

pub fault_same : (x : ActFault) (stop made : Stop) → x ≡ Stopped made → ◌≡◌ {A = Result (Option Action) ActFault} (Err x) (Err (Stopped stop)) → stop ≡ made
fault_same x stop made is same = sym (ap (stop_in stop) (ap (fault_of x) same)) ∙ ap (stop_in stop) is

-- the action of a turn at the board, after some more waiting
board_later : (by : Stamp) (u v w : View SharedEntry) (held held' : List Section) (deed : Deed) (a : Action) → Waited u v → ActedOnBoard by v w held held' deed a → ActedOnBoard by u w held held' deed a
board_later by u v w held held' deed a waited acted = record {
  number = acted.number;
  object = acted.object;
  deed = acted.deed;
  readings = acted.readings;
  before = acted.before;
  after = acted.after;
  comes = subst (λ (l : List ℕ). ComesOnBoard (slice_index l 0 - 1) deed by acted.before acted.after (record { reply = a.reply; changed = a.changed })) waited.grew.fixed acted.comes;
  place = acted.place;
  turned = let t = acted.turned in record { taken = t.taken; took = took_later u v t.taken 0 _ waited t.took; gave = t.gave };
  sections = acted.sections;
}

pub board_found : (s n s' n' : ℕ) (u v w : View SharedEntry) (held held' after : List Section) (deed : Deed) (found : Option Action) (a : Action) → found ≡ Some a → s' ≡ s → n' ≡ n → held' ≡ held → Waited u v
    → IfSome found (λ x. ActedOnBoard (record { state = s'; number = n' }) v w held' after deed x) → ActedOnBoard (record { state = s; number = n }) u w held after deed a
board_found s n s' n' u v w held held' after deed found a there p q same waited all =
    let one : ActedOnBoard (record { state = s'; number = n' }) v w held' after deed a = subst (λ (y : Option Action). IfSome y (λ x. ActedOnBoard (record { state = s'; number = n' }) v w held' after deed x)) there all in
    board_later (record { state = s; number = n }) u v w held after deed a waited (subst (λ (b : Stamp). ActedOnBoard b v w held after deed a) (stamp_as s n s' n' p q) (subst (λ (l : List Section). ActedOnBoard (record { state = s'; number = n' }) v w l after deed a) same one))

pub stopped_as : (s s' : ℕ) (w : View SharedEntry) (thread : ℕ) (stop : Stop) → s' ≡ s → IsStoppedWaiting s' w thread stop → IsStoppedWaiting s w thread stop
stopped_as s s' w thread stop p one = subst (λ (n : ℕ). IsStoppedWaiting n w thread stop) p one
