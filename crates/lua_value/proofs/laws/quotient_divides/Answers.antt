use Rattle.lua_value.proofs.Ranges.{div-product, div-complete}
use Rattle.lua_value.proofs.laws.quotient_divides.Goals as goal

pub returns-clause-value : goal.returns-clause-value
returns-clause-value c = div-product

pub returns-clause-complete : goal.returns-clause-complete
returns-clause-complete c = div-complete
