-- Events, with the pass through which each was sent.
use Rattle.std.specs.Prelude.{ℕ, ◌==◌, List, [], ◌∷◌, map, if◌then◌else◌}
use Rattle.variant.specs.declared.event.Sent.{Sent}

-- an event, and the number of the pass that it was sent through
pub record Routed : Type 0 where
  pub pass : ℕ
  pub sent : Sent

-- the events alone
abbrev pub events : List Routed → List Sent
events rs = map (λ (r : Routed). r.sent) rs

-- those that were sent through the pass p, in order
abbrev pub through : ℕ → List Routed → List Sent
through p [] = []
through p (r ∷ rs) = if r.pass == p then r.sent ∷ through p rs else through p rs

-- those that the state s sent, in order
abbrev pub sent_by : ℕ → List Sent → List Sent
sent_by s [] = []
sent_by s (x ∷ xs) = if x.from == s then x ∷ sent_by s xs else sent_by s xs
