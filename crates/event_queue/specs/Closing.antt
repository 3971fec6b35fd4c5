-- What stands once all passes of a queue are given back.
use Rattle.std.specs.Prelude.{◌≡◌, ◌≢◌, ◌⊎◌, ℕ, ◌<◌, ◌≤◌, Contains, List, [], ◌++◌, map}
use mathlib.Core.Option.{some}
use lib.ListN.{get_elem?}
use Rattle.variant.specs.declared.event.Sent.{Sent}
use Rattle.event_queue.specs.declared.view.Joined.{Joined}
use Rattle.event_queue.specs.declared.view.View.{View}
use Rattle.event_queue.specs.Routes.{Routed, events, through, sent_by}
use Rattle.event_queue.specs.Views.{view}
use Rattle.event_queue.specs.Rule.{Stood}
use Rattle.event_queue.specs.Passes.{QueueId, PassView}

abbrev pub numbers_of : List PassView → List ℕ
numbers_of passes = map (λ (p : PassView). p.number) passes

-- all passes of the queue are given back: each of its numbers is that of one of these
abbrev pub AreAllBack : QueueId → List PassView → Type 0
AreAllBack queue passes = (n : ℕ) → 0 < n → n ≤ queue.passes → Contains (numbers_of passes) n

-- what holds of each of these passes
abbrev pub OfEach : List PassView → (PassView → Type 0) → Type 0
OfEach passes P = (k : ℕ) (p : PassView) → get_elem? passes k ≡ some p → P p

-- what holds of pass 1
abbrev pub OfFirst : List PassView → (PassView → Type 0) → Type 0
OfFirst passes P = OfEach passes (λ p. p.number ≡ 1 → P p)

-- the list ends with that part
abbrev pub EndsWith : List Sent → List Sent → Type 0
EndsWith whole part = (before : List Sent) × (whole ≡ before ++ part)

-- each of these events was sent through one of the passes, and what was sent through a pass are just those of them, in order, each once
pub record AreDelivered (passes : List PassView) (all : List Sent) : Type 0 where
  pub routes : List Routed
  pub events_are : events routes ≡ all
  pub whole : OfEach passes (λ p. through p.number routes ≡ p.sent)
  pub no_other : (n : ℕ) → OfEach passes (λ p. p.number ≢ n) → through n routes ≡ []

-- no event of the state s was sent through another pass than p
abbrev pub SendsThrough : ℕ → PassView → List PassView → Type 0
SendsThrough s p passes = OfEach passes (λ q. q.number ≢ p.number → sent_by s q.sent ≡ [])

-- of each state whose events all went through one pass, or which sent none, these events are just what it sent, in order, each once
abbrev pub AreInOrder : List PassView → List Sent → Type 0
AreInOrder passes all = (s : ℕ) → OfEach passes (λ p. SendsThrough s p passes → sent_by s all ≡ sent_by s p.sent)

-- ---- while the passes are joined and the ruled queue is emptied

-- what the view knows of a pass that was given back, where pass 1 keeps these events
abbrev pub Knows : View → List Sent → PassView → Type 0
Knows v kept p =
    ((p.number ≡ 1) × (p.kept ≡ kept) × (p.sent ≡ v.sent ++ kept) × (p.polled ≡ v.polled))
    ⊎ ((k : ℕ) × (r : Joined) × (get_elem? v.joined k ≡ some r) × (r.number ≡ p.number) × (r.number ≢ 1 → p.sent ≡ r.sent))

-- pass 1 after all others were joined into it
pub record HasAll (passes : List PassView) (count : ℕ) (kept : List Sent) (v : View) : Type 0 where
  pub first : v.number ≡ 1
  pub made : v.made ≤ count
  pub back : OfEach passes (Knows v kept)

-- these events were popped from the ruled queue, the oldest first
abbrev pub all_popped : List Sent → View → View
all_popped xs v = view v.number v.sent (v.polled ++ xs) v.made v.joined

-- and then nothing was there
abbrev pub Emptied : List Sent → View → View → Type 0
Emptied xs v w = (w ≡ all_popped xs v) × Stood [] w
