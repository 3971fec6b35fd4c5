use Rattle.std.proofs.Common.{◌≡◌, ap, sym}
use Rattle.lua_tree.specs.Reading.{held}
use Rattle.lua_tree.specs.Answer.{counts}
use Rattle.lua_tree.proofs.scope.Scope.held.Goals as goal

pub returns-else-held-clause-counts : goal.returns-else-held-clause-counts
returns-else-held-clause-counts c = ap (λ b. held b (counts c.args.self)) (sym c.if-held.false)
