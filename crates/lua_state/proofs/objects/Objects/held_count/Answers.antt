use Rattle.std.proofs.Common.{arith}
use Rattle.lua_state.proofs.Keeping.{held_short}
use Rattle.lua_state.proofs.objects.Objects.held_count.Goals as goal

pub overflow_cast-result : goal.overflow_cast-result
overflow_cast-result c = let short = held_short c.args.self.now c.requires.kept in let few = c.requires.few in let is = c.len.ensures in omega arith

pub returns-clause-few : goal.returns-clause-few
returns-clause-few c = let short = held_short c.args.self.now c.requires.kept in let is = c.len.ensures in omega arith
