use Rattle.std.proofs.Common.{◌≡◌, ◌+◌, refl, sym, arith}
use Rattle.lua_tree.specs.Answer.{counts}
use Rattle.lua_tree.proofs.Counted.{behind_counts}
use Rattle.lua_tree.proofs.scope.Scope.declared.Goals as goal

pub returns-clause-counts : goal.returns-clause-counts
returns-clause-counts c = λ st e. behind_counts st c.args.self _ refl refl refl (omega (arith, e))
