use Rattle.std.proofs.Common.{◌≡◌, ◌≤◌, ◌+◌, length}
use Rattle.lua_meaning.specs.Store.{Store}
use Rattle.lua_meaning.specs.Format.{text_from}
use Rattle.lua_lib.specs.Causes.{values_of}
use Rattle.lua_lib.specs.Pieces.{put_before}
use Rattle.lua_lib.proofs.call.formats.written.Given as goal

-- the whole text is what is written so far, and behind it what the rest of the format writes
abbrev pub invariant-loop-byte : goal.invariant-loop-byte
invariant-loop-byte l =
    record {
      text : (s : Store) → text_from l.format 1 (values_of l.heap l.args) s ≡ put_before l.made.items (text_from l.rest l.argument (values_of l.heap l.args)) s;
      count : l.argument + length l.rest ≤ length l.format + 1;
    }

abbrev pub decreases-loop-byte : goal.decreases-loop-byte
decreases-loop-byte l = length l.rest
