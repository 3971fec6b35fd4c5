use Rattle.std.proofs.Common.{ap, sym, ◌∙◌}
use Rattle.lua_meaning.specs.Value.{num}
use Rattle.lua_lib.proofs.Moved.{position_key-is}
use Rattle.lua_lib.proofs.call.items.position.Goals as goal

pub returns-clause-key : goal.returns-clause-key
returns-clause-key c = λ texts. ap num c.number_at.ensures ∙ sym (position_key-is c.args.n c.requires.first c.requires.last)
