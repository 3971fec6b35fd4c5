-- What contracts see of an event queue and of its passes, and what the calls do.
use Rattle.std.specs.Prelude.{◌≡◌, ℕ, ◌+◌, ◌-◌, ◌^◌, ◌<◌, ◌==◌, List, [], ◌∷◌, ◌++◌, length, map, min, slice_index_or, if◌then◌else◌, Option, Some, None}
use Rattle.std.specs.Global.{Global}
use Rattle.std.specs.List.{range_with_len}
use Rattle.crossbeam_queue.specs.SegTies.{SegId}
use Rattle.variant.specs.declared.event.Sent.{Sent}
use Rattle.event_queue.specs.declared.view.View.{View}
use Rattle.event_queue.specs.Rule.{Stood}

-- which queue it is: its ruled queue, and how many passes it has
pub record QueueId : Type 0 where
  pub ruled : SegId Global
  pub passes : ℕ

-- a pass: its queue and number, how many of its polls found nothing, the events that it keeps, and all events that were sent and polled through it
pub record PassView : Type 0 where
  pub queue : QueueId
  pub number : ℕ
  pub empties : ℕ
  pub kept : List Sent
  pub sent : List Sent
  pub polled : List Sent

-- a pass by what it stores and what it knows
abbrev pub seen : QueueId → ℕ → ℕ → List Sent → View → PassView
seen queue number empties kept v = record { queue = queue; number = number; empties = empties; kept = kept; sent = v.sent ++ kept; polled = v.polled }

-- the passes of a new queue, numbered from 1, in order
abbrev pub new_pass : QueueId → ℕ → PassView
new_pass queue number = record { queue = queue; number = number; empties = 0; kept = []; sent = []; polled = [] }

abbrev pub new_passes : QueueId → List PassView
new_passes queue = map (new_pass queue) (range_with_len 1 queue.passes)

-- the passes are numbered from a on, in order
abbrev pub AreNumbered : ℕ → List PassView → Type 0
AreNumbered a passes = (k : ℕ) (d : PassView) → k < length passes → (slice_index_or passes k d).number ≡ k + a

-- the pass once x was sent through it: pass 1 keeps its events
abbrev pub after_send : Sent → PassView → PassView
after_send x p = record {
  queue = p.queue;
  number = p.number;
  empties = p.empties;
  kept = if p.number == 1 then p.kept ++ x ∷ [] else p.kept;
  sent = p.sent ++ x ∷ [];
  polled = p.polled;
}

-- how many polls found nothing, once one more gave this. The count stands still at the greatest u64
abbrev pub empties_after : Option Sent → ℕ → ℕ
empties_after None n = min (n + 1) (2 ^ 64 - 1)
empties_after (Some x) n = n

-- at a step of the call the ruled queue held these events, oldest first, and the pass was as it was before the call
pub record Held (items : List Sent) (p : PassView) : Type 0 where
  pub view : View
  pub stood : Stood items view
  pub number : view.number ≡ p.number
  pub sent : p.sent ≡ view.sent ++ p.kept
  pub polled : p.polled ≡ view.polled

-- the event is the oldest that the ruled queue held, and what the pass keeps stays
abbrev pub GivesFront : PassView → Sent → PassView → Type 0
GivesFront old x new = ((rest : List Sent) × Held (x ∷ rest) old) × (new.kept ≡ old.kept)

-- the ruled queue held nothing, and the event is the oldest that the pass kept
abbrev pub GivesKept : PassView → Sent → PassView → Type 0
GivesKept old x new = Held [] old × (old.kept ≡ x ∷ new.kept)

-- the ruled queue held nothing, and the pass keeps nothing
abbrev pub FindsNothing : PassView → PassView → Type 0
FindsNothing old new = Held [] old × (old.kept ≡ []) × (new.kept ≡ [])
