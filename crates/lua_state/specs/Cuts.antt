-- The asked actions of a state, and how it leaves what it holds.
use Rattle.std.specs.Prelude.{◌≡◌, ℕ, Bool, true, false, if◌then◌else◌, List, [], ◌∷◌, ◌++◌, drop, length, map, reverse, ⊤}
use Rattle.variant.specs.declared.action.Action.{Action}
use Rattle.variant.specs.declared.action.Deed.{Deed}
use Rattle.variant.specs.declared.action.Deed.TheVariants.{Asked, CutLeave}
use Rattle.lua_state.specs.Solo.{held_after}

abbrev pub is_asked : Deed → Bool
is_asked (Asked ask) = true
is_asked deed = false

-- the asked actions of a state, which come before its other ones
abbrev pub asked_in : List Action → List Action
asked_in [] = []
asked_in (a ∷ actions) = if is_asked a.deed then a ∷ asked_in actions else []

-- all of these were asked
abbrev pub AreAsked : List Action → Type 0
AreAsked [] = ⊤
AreAsked (a ∷ actions) = (is_asked a.deed ≡ true) × AreAsked actions

abbrev pub deeds_of : List Action → List Deed
deeds_of actions = map (λ a. a.deed) actions

-- the deeds by which a state that is cut short leaves these Channels, the last one first
abbrev pub cuts_of : List ℕ → List Deed
cuts_of held = map CutLeave (reverse held)

-- behind the asked actions come those by which a state leaves what it holds, the last entered first
abbrev pub CutsFollow : List Action → Type 0
CutsFollow actions =
    deeds_of (drop (length (asked_in actions)) actions) ≡ cuts_of (held_after (asked_in actions))

-- all of these were left, and their actions put behind the others
pub record LeavesAll (before after : List Action) (held : List ℕ) : Type 0 where
  pub cuts : List Action
  pub put : after ≡ before ++ cuts
  pub deeds : deeds_of cuts ≡ cuts_of held

-- the last one was left
pub record LeavesOne (before after : List Action) (held others : List ℕ) : Type 0 where
  pub action : Action
  pub number : ℕ
  pub put : after ≡ before ++ action ∷ []
  pub deed : action.deed ≡ CutLeave number
  pub last : held ≡ others ++ number ∷ []

-- some of these were left, and the others are still held
pub record LeavesSome (before after : List Action) (held others : List ℕ) : Type 0 where
  pub cuts : List Action
  pub put : after ≡ before ++ cuts
  pub deeds : deeds_of cuts ++ cuts_of others ≡ cuts_of held
