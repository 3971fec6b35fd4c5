use Rattle.std.proofs.Common.{◌≡◌, ◌+◌, ◌≤◌, ℕ, refl, sym, ◌∙◌, arith, rules}
use Rattle.lua_tree.proofs.SuffixSteps.{high_member}
use Rattle.lua_tree.proofs.suffixes.member.Goals as goal

pub returns-clause-moves : goal.returns-clause-moves
returns-clause-moves c = record {
  forth = omega arith;
  within = omega (arith, c.in_ok-name.ensures.within);
  high = high_member _ _ _ _ _ _ c.args.base.node c.in_ok-table.ensures.ok c.in_ok-key.ensures.ok c.requires.behind.high;
  low = omega (arith, c.in_ok-may_nest.ensures.ok);
}
