use Rattle.std.proofs.Common.{◌≡◌, refl, sym}
use Rattle.lua_tree.specs.Answer.{counts}
use Rattle.lua_tree.proofs.Counted.{deeper_counts}
use Rattle.lua_tree.proofs.scope.Scope.deeper.Goals as goal

pub returns-clause-counts : goal.returns-clause-counts
returns-clause-counts c = deeper_counts c.args.self _ refl refl refl refl
