-- What one action more does to the objects.
use Rattle.std.proofs.Common.{◌≡◌, ◌∙◌, ℕ, ◌==◌, Bool, true, false, cond, List, [], ◌∷◌, ◌++◌, inl, inr, ap}
use Rattle.std.proofs.lemmas.List.Sums.{fold_push}
use Rattle.std.proofs.lemmas.Bool.Decides.{eqb_tells}
use Rattle.variant.specs.declared.action.Action.{Action}
use Rattle.lua_state.specs.Solo.{unmet, met_more, met_after, channel_after, board_more, board_after, events_more, events_after, held_more, held_after}

pub channel-more : (actions : List Action) (a : Action) (number : ℕ) → channel_after (actions ++ a ∷ []) number ≡ met_after number (channel_after actions number) a
channel-more actions a number = fold_push (met_after number) unmet actions a

pub board-more : (actions : List Action) (a : Action) → board_after (actions ++ a ∷ []) ≡ board_more (board_after actions) a
board-more actions a = fold_push board_more [] actions a

pub events-more : (actions : List Action) (a : Action) → events_after (actions ++ a ∷ []) ≡ events_more (events_after actions) a
events-more actions a = fold_push events_more [] actions a

pub held-more : (actions : List Action) (a : Action) → held_after (actions ++ a ∷ []) ≡ held_more (held_after actions) a
held-more actions a = fold_push held_more [] actions a

pub test-yes : (k n : ℕ) → k ≡ n → (k == n) ≡ true
test-yes k n e = elim (eqb_tells k n) [ inl same ↦ same.0 | inr other ↦ absurd (other.1 e) ]

pub test-no : (k n : ℕ) → (k ≡ n → ⊥) → (k == n) ≡ false
test-no k n ne = elim (eqb_tells k n) [ inl same ↦ absurd (ne same.1) | inr other ↦ other.0 ]

-- the Channel of the action
pub channel-here : (actions : List Action) (a : Action) (number : ℕ) → a.object ≡ number → channel_after (actions ++ a ∷ []) number ≡ met_more (channel_after actions number) a
channel-here actions a number e = channel-more actions a number ∙ ap (λ (x : Bool). cond x (met_more (channel_after actions number) a) (channel_after actions number)) (test-yes a.object number e)

-- each other one
pub channel-else : (actions : List Action) (a : Action) (number : ℕ) → (a.object ≡ number → ⊥) → channel_after (actions ++ a ∷ []) number ≡ channel_after actions number
channel-else actions a number ne = channel-more actions a number ∙ ap (λ (x : Bool). cond x (met_more (channel_after actions number) a) (channel_after actions number)) (test-no a.object number ne)
