use Rattle.std.proofs.Common.{◌≡◌, ◌+◌, ◌≤◌, map, drop, length}
use Rattle.lua_tree.specs.View.{field_view, fields_of}
use Rattle.lua_compile.specs.Fields.{items}
use Rattle.lua_compile.proofs.tables.item_count.Given as goal

abbrev pub invariant-fields : goal.invariant-fields
invariant-fields l =
    (l.at ≤ length l.fields)
    × (l.count + l.at ≤ length l.fields)
    × (l.count ≡ items (fields_of (map field_view (drop l.at l.fields))))

abbrev pub decreases-fields : goal.decreases-fields
decreases-fields l = l.at
