use Rattle.lua_value.proofs.NumeralLaws.{Denotes-unique}
use Rattle.lua_value.proofs.Words.{ReadsAs-unique}
use Rattle.lua_value.proofs.laws.texts_have_one_value.Goals as goal

pub returns-clause-numeral : goal.returns-clause-numeral
returns-clause-numeral c = Denotes-unique

pub returns-clause-number : goal.returns-clause-number
returns-clause-number c = ReadsAs-unique
