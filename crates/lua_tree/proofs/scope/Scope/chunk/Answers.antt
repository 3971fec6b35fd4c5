use Rattle.std.proofs.Common.{◌≡◌, refl, sym}
use Rattle.lua_tree.specs.Answer.{counts}
use Rattle.lua_tree.proofs.Counted.{chunk_counts}
use Rattle.lua_tree.proofs.scope.Scope.chunk.Goals as goal

pub returns-clause-counts : goal.returns-clause-counts
returns-clause-counts c = chunk_counts _ refl refl refl refl
