use Rattle.lua_value.proofs.Ranges.{rem-parts, rem-side}
use Rattle.lua_value.proofs.laws.remainder_is_left.Goals as goal

pub returns-clause-parts : goal.returns-clause-parts
returns-clause-parts c = rem-parts

pub returns-clause-sign : goal.returns-clause-sign
returns-clause-sign c = rem-side
