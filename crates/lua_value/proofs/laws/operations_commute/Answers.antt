use Rattle.lua_value.proofs.Ranges.{add-comm, mul-comm}
use Rattle.lua_value.proofs.laws.operations_commute.Goals as goal

pub returns-clause-sum : goal.returns-clause-sum
returns-clause-sum c = add-comm

pub returns-clause-product : goal.returns-clause-product
returns-clause-product c = mul-comm
