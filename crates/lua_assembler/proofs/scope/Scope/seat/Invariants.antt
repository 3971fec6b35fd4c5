use Rattle.std.proofs.Common.{◌≡◌, ◌≤◌, map, take, reverse, length}
use Rattle.lua_code.specs.Scope.{slot_count, cell_count, seat_of}
use Rattle.lua_assembler.specs.Seats.{entry_view}
use Rattle.lua_assembler.proofs.scope.Scope.seat.Given as goal

abbrev pub invariant-entries : goal.invariant-entries
invariant-entries l =
    (l.at ≤ length l.self-inside.entries.items)
    × (l.slots ≡ slot_count (reverse (map entry_view (take l.at l.self-inside.entries.items))))
    × (l.cells ≡ cell_count (reverse (map entry_view (take l.at l.self-inside.entries.items))))
    × (seat_of (reverse (map entry_view l.self-inside.entries.items)) l.name ≡ seat_of (reverse (map entry_view (take l.at l.self-inside.entries.items))) l.name)

abbrev pub decreases-entries : goal.decreases-entries
decreases-entries l = l.at
