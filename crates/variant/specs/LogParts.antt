-- What a log keeps.
use Rattle.std.specs.Prelude.{◌++◌, List, Option, Some, None, ⊤}
use Rattle.std.specs.Option.{option_to_list}
use Rattle.variant.specs.declared.action.Action.{Action}
use Rattle.variant.specs.declared.action.Deed.{Deed}
use Rattle.variant.specs.declared.action.Deed.TheVariants.{Told, End, MainEnd}

-- the actions of a log, in order
abbrev pub parts : Option Action → List Action → Option Action → Option Action → List Action
parts begin asked told end =
    option_to_list begin ++ (asked ++ (option_to_list told ++ option_to_list end))

abbrev pub IsTold : Deed → Type 0
IsTold (Told text) = ⊤
IsTold deed = ⊥

abbrev pub IsEnd : Deed → Type 0
IsEnd (End kind) = ⊤
IsEnd MainEnd = ⊤
IsEnd deed = ⊥

-- what stands in the last places belongs there
abbrev pub OfDeed : (Deed → Type 0) → Option Action → Type 0
OfDeed P None = ⊤
OfDeed P (Some action) = P action.deed

pub record IsSorted (told end : Option Action) : Type 0 where
  pub tells : OfDeed IsTold told
  pub ends : OfDeed IsEnd end
