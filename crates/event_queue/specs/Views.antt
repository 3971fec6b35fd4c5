-- How each step changes what a pass knows.
use Rattle.std.specs.Prelude.{ℕ, ◌+◌, List, [], ◌∷◌, ◌++◌}
use Rattle.variant.specs.declared.event.Sent.{Sent}
use Rattle.event_queue.specs.declared.view.Joined.{Joined}
use Rattle.event_queue.specs.declared.view.View.{View}

abbrev pub view : ℕ → List Sent → List Sent → ℕ → List Joined → View
view number sent polled made joined = record { number = number; sent = sent; polled = polled; made = made; joined = joined }

-- the first pass, while there is no other
abbrev pub first_view : View
first_view = view 1 [] [] 1 []

-- a pass that has nothing left
abbrev pub spent : View
spent = view 0 [] [] 0 []

-- the event x was pushed to the ruled queue
abbrev pub pushed : Sent → View → View
pushed x v = view v.number (v.sent ++ x ∷ []) v.polled v.made v.joined

-- the event x was popped from it
abbrev pub popped : Sent → View → View
popped x v = view v.number v.sent (v.polled ++ x ∷ []) v.made v.joined

-- the event x, which the pass kept, was given
abbrev pub gave : Sent → View → View
gave x v = view v.number (v.sent ++ x ∷ []) (v.polled ++ x ∷ []) v.made v.joined

-- the next pass was made, and that pass
abbrev pub makes_one : View → View
makes_one v = view v.number v.sent v.polled (v.made + 1) v.joined

abbrev pub newcomer : View → View
newcomer v = view (v.made + 1) [] [] 0 []

-- another pass was joined into this one
abbrev pub both : View → View → View
both v w = view v.number v.sent v.polled v.made (v.joined ++ record { number = w.number; sent = w.sent } ∷ [])
