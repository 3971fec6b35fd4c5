-- The rule of the queue, which holds between any two atomic steps.
use Rattle.std.specs.Prelude.{◌≡◌, ◌≢◌, ◌⊎◌, ℕ, ◌<◌, ◌≤◌, List, [], ◌++◌}
use mathlib.Core.Option.{some}
use lib.ListN.{get_elem?}
use Rattle.variant.specs.declared.event.Sent.{Sent}
use Rattle.event_queue.specs.declared.view.Joined.{Joined}
use Rattle.event_queue.specs.declared.view.View.{View}
use Rattle.event_queue.specs.Routes.{Routed, events, through}

-- no pass has had this number
abbrev pub IsUnused : View → ℕ → Type 0
IsUnused v p = (p ≡ 0) ⊎ (v.made < p)

-- what pass 1 knows, at the place j among the passes: what it polled, in order; and for each number that no other pass has now, all that was sent through that pass
pub record Polls (polled waiting : List Routed) (holder : ℕ → ℕ) (j : ℕ) (v : View) : Type 0 where
  pub first : 1 ≤ v.made
  pub polled_is : v.polled ≡ events polled
  pub unused : (p : ℕ) → IsUnused v p → (holder p ≡ j) × (through p (polled ++ waiting) ≡ [])
  pub joined : (k : ℕ) (r : Joined) → get_elem? v.joined k ≡ some r
      → (r.number ≢ 1) × (r.number ≤ v.made) × (holder r.number ≡ j) × (r.sent ≡ through r.number (polled ++ waiting))

-- what a pass knows, at the place j among the passes: its number is no other's, and what was sent through it and isn't kept in it was polled or waits, in order
pub record Knows (polled waiting : List Routed) (holder : ℕ → ℕ) (j : ℕ) (v : View) : Type 0 where
  pub own : holder v.number ≡ j
  pub sent : v.sent ≡ through v.number (polled ++ waiting)
  pub polls : v.number ≡ 1 → Polls polled waiting holder j v

-- the ruled queue holds these events, and the passes know this. Of each event that was polled or waits there is a pass that it was sent through, and pass 1's don't wait in the ruled queue
pub record Queued (items : List Sent) (views : List View) : Type 0 where
  pub polled : List Routed
  pub waiting : List Routed
  pub holder : ℕ → ℕ
  pub waits : events waiting ≡ items
  pub kept : through 1 waiting ≡ []
  pub each : (j : ℕ) (v : View) → get_elem? views j ≡ some v → 0 < v.number → Knows polled waiting holder j v

-- at some step the ruled queue held these events, and this pass was at it
abbrev pub Stood : List Sent → View → Type 0
Stood items v = (views : List View) × (j : ℕ) × Queued items views × (get_elem? views j ≡ some v)
