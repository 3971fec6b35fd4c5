use Rattle.std.proofs.Common.{◌≡◌, refl, sym}
use Rattle.lua_tree.specs.Answer.{counts}
use Rattle.lua_tree.proofs.Counted.{looped_counts}
use Rattle.lua_tree.proofs.scope.Scope.in_loop.Goals as goal

pub returns-clause-counts : goal.returns-clause-counts
returns-clause-counts c = looped_counts c.args.locals c.args.self _ refl refl refl refl
