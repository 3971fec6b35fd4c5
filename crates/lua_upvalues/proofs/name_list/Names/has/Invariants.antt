use Rattle.std.proofs.Common.{◌≡◌, ◌≤◌, map, take, reverse, length}
use Rattle.lua_meaning.specs.Names.{is_among}
use Rattle.lua_upvalues.proofs.name_list.Names.has.Given as goal

abbrev pub invariant-names : goal.invariant-names
invariant-names l =
    (l.at ≤ length l.self-inside.backwards.items)
    × (is_among (reverse (map (λ name. name.now) l.self-inside.backwards.items)) l.name ≡ is_among (reverse (map (λ name. name.now) (take l.at l.self-inside.backwards.items))) l.name)

abbrev pub decreases-names : goal.decreases-names
decreases-names l = l.at
