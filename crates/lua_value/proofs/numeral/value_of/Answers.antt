use Rattle.lua_value.proofs.Reading.{hexadecimal_answer}
use Rattle.lua_value.proofs.numeral.value_of.Goals as goal

pub returns-in-Some : goal.returns-in-Some
returns-in-Some c = let text = c.in-Some.ensures in hexadecimal_answer text.0 _ text.1 _ _ text.2 c.hexadecimal.ensures
