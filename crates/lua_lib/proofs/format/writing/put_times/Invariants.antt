use Rattle.std.proofs.Common.{◌≡◌, ◌++◌, replicate}
use Rattle.lua_lib.proofs.format.writing.put_times.Given as goal

abbrev pub invariant-loop-time : goal.invariant-loop-time
invariant-loop-time l = l.made.items ≡ l.initial.made.items ++ replicate l._time l.byte
