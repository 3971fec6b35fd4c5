use Rattle.lua_tree.proofs.Precedence as proved
use Rattle.lua_tree.proofs.laws.precedence.Goals as goal

pub returns-clause-power_of_minus : goal.returns-clause-power_of_minus
returns-clause-power_of_minus c = proved.power_of_minus

pub returns-clause-minus_of_power : goal.returns-clause-minus_of_power
returns-clause-minus_of_power c = proved.minus_of_power

pub returns-clause-concat_to_the_right : goal.returns-clause-concat_to_the_right
returns-clause-concat_to_the_right c = proved.concat_to_the_right

pub returns-clause-minus_to_the_left : goal.returns-clause-minus_to_the_left
returns-clause-minus_to_the_left c = proved.minus_to_the_left

pub returns-clause-not_binds_tighter : goal.returns-clause-not_binds_tighter
returns-clause-not_binds_tighter c = proved.not_binds_tighter
