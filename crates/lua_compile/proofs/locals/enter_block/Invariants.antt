use Rattle.std.proofs.Common.{◌≡◌, ◌≤◌, false, map, drop, length}
use Rattle.lua_tree.specs.View.{stat_view, block_of}
use Rattle.lua_meaning.specs.Names.{block_names}
use Rattle.lua_compile.proofs.Scoping.{EndsAs}
use Rattle.lua_compile.proofs.locals.enter_block.Given as goal

abbrev pub invariant-stats : goal.invariant-stats
invariant-stats l =
    (l.at ≤ length l.stats)
    × (l.later ≡ block_names false (block_of (map stat_view (drop l.at l.stats))) l.fn.after)
    × EndsAs (drop l.at l.stats) l.fn.after l.locals.items

abbrev pub decreases-stats : goal.decreases-stats
decreases-stats l = l.at
