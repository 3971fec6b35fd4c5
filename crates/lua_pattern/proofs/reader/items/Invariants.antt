use Rattle.std.proofs.Common.{◌≡◌, ◌≤◌, [], length}
use Rattle.std.specs.Prelude.{count_by}
use Rattle.lua_pattern.specs.Tree.{begins_capture, most_captures, most_items}
use Rattle.lua_pattern.specs.Reading.{Read, Reads, with_items}
use Rattle.lua_pattern.proofs.reader.items.Given as goal

abbrev pub invariant-loop-byte : goal.invariant-loop-byte
invariant-loop-byte l = record {
  few : length l.items ≤ most_items;
  room : length l.captures ≤ most_captures;
  counted : length l.captures ≡ count_by begins_capture l.items;
  so_far : (read : Read) → Reads l.captures (length l.items) l.rest read → Reads [] 0 l.source (with_items l.items read);
}

abbrev pub decreases-loop-byte : goal.decreases-loop-byte
decreases-loop-byte l = length l.rest
