-- A pass between two calls, and one that was just made.
use Rattle.std.specs.Prelude.{◌≡◌, ◌≢◌, ℕ, ◌<◌, ◌≤◌, List, []}
use Rattle.variant.specs.declared.event.Sent.{Sent}
use Rattle.event_queue.specs.declared.view.View.{View}

-- the pass of this number at a queue of so many passes, which keeps these events
pub record IsReady (number passes : ℕ) (kept : List Sent) (v : View) : Type 0 where
  pub named : v.number ≡ number
  pub real : 0 < number
  pub within : number ≤ passes
  pub keeps : number ≢ 1 → kept ≡ []
  pub made : v.made ≤ passes
  pub alone : v.joined ≡ []

-- the same of one through which nothing was sent or polled yet
pub record IsNew (number passes : ℕ) (v : View) : Type 0 where
  pub named : v.number ≡ number
  pub real : 0 < number
  pub within : number ≤ passes
  pub sent : v.sent ≡ []
  pub polled : v.polled ≡ []
  pub made : v.made ≤ passes
  pub alone : v.joined ≡ []
