-- The log of a state's actions, and in which order they come.
use Rattle.std.specs.Prelude.{◌≡◌, ℕ, ◌+◌, ◌<◌, ◌≤◌, List, All, ⊤}
use Rattle.variant.specs.declared.action.Action.{Action}
use Rattle.variant.specs.declared.action.Deed.{Deed}
use Rattle.variant.specs.declared.action.Deed.TheVariants.{Asked, Begin, CutLeave, Told, End, MainEnd}

-- a state's actions, in order, and the number of further ones for which there is room
pub record Log : Type 0 where
  pub actions : List Action
  pub spare : ℕ

-- an action of one deed may stand somewhere before one of the other: nothing before a beginning,
-- nothing after an end, and after what was told only an end
abbrev pub MayPrecede : Deed → Deed → Type 0
MayPrecede (End kind) later = ⊥
MayPrecede MainEnd later = ⊥
MayPrecede (Told text) (End kind) = ⊤
MayPrecede (Told text) later = ⊥
MayPrecede earlier Begin = ⊥
MayPrecede earlier later = ⊤

-- an action of this deed may be put behind these
abbrev pub MayFollow : List Action → Deed → Type 0
MayFollow before deed = All (λ a. MayPrecede a.deed deed) before

-- the deed has a place of its own, or there is room
abbrev pub HasPlace : Deed → ℕ → Type 0
HasPlace (Asked ask) spare = 0 < spare
HasPlace Begin spare = ⊤
HasPlace (CutLeave channel) spare = 0 < spare
HasPlace (Told text) spare = ⊤
HasPlace (End kind) spare = ⊤
HasPlace MainEnd spare = ⊤

-- the deed uses room for one action, or none where it has a place of its own
abbrev pub UsesRoom : Deed → ℕ → ℕ → Type 0
UsesRoom (Asked ask) old new = old ≤ new + 1
UsesRoom Begin old new = new ≡ old
UsesRoom (CutLeave channel) old new = old ≤ new + 1
UsesRoom (Told text) old new = new ≡ old
UsesRoom (End kind) old new = new ≡ old
UsesRoom MainEnd old new = new ≡ old
