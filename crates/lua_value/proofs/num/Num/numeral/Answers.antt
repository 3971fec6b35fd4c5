use Rattle.lua_value.proofs.NumeralLaws.{IsNumeralAnswer-ok, IsNumeralAnswer-malformed, IsNumeralAnswer-not_whole, IsNumeralAnswer-digits}
use Rattle.lua_value.proofs.num.Num.numeral.Goals as goal

pub returns-clause-ok : goal.returns-clause-ok
returns-clause-ok c = IsNumeralAnswer-ok c.args.text.now _ c.value_of.ensures

pub returns-clause-malformed : goal.returns-clause-malformed
returns-clause-malformed c = IsNumeralAnswer-malformed c.args.text.now _ c.value_of.ensures

pub returns-clause-not_whole : goal.returns-clause-not_whole
returns-clause-not_whole c = IsNumeralAnswer-not_whole c.args.text.now _ c.value_of.ensures

pub returns-clause-digits : goal.returns-clause-digits
returns-clause-digits c = IsNumeralAnswer-digits c.args.text.now _ c.value_of.ensures
