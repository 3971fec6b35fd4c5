use Rattle.std.proofs.Common.{◌≡◌, ◌-◌, length}
use Rattle.lua_meaning.specs.Store.{Store}
use Rattle.lua_meaning.specs.Strings.{bytes_from}
use Rattle.lua_lib.specs.Causes.{values_of}
use Rattle.lua_lib.specs.Pieces.{put_before}
use Rattle.lua_lib.proofs.call.bytes.char_bytes.Given as goal

-- all bytes are those so far, and behind them those from here on
abbrev pub invariant-loop-n : goal.invariant-loop-n
invariant-loop-n l =
    (s : Store) → bytes_from 0 (length (values_of l.heap l.args)) (values_of l.heap l.args) s
    ≡ put_before l.bytes.items (bytes_from l.n (length l.args - l.n) (values_of l.heap l.args)) s
