use Rattle.std.proofs.Common.{◌≡◌, refl, sym}
use Rattle.lua_tree.specs.Answer.{counts}
use Rattle.lua_tree.proofs.Counted.{body_counts}
use Rattle.lua_tree.proofs.scope.Scope.function.Goals as goal

pub returns-clause-counts : goal.returns-clause-counts
returns-clause-counts c = λ ps e. body_counts ps c.args.dots (counts c.args.self) _ refl refl refl (sym e) refl
