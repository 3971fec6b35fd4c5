use Rattle.std.proofs.Common.{◌≡◌, map, drop}
use Rattle.lua_meaning.specs.Native.{named}
use Rattle.lua_heap.specs.Native.{native_view}
use Rattle.lua_heap.proofs.methods.first_named.Given as goal

abbrev pub invariant-loop-function : goal.invariant-loop-function
invariant-loop-function l =
    named l.name (map native_view l.functions) ≡ named l.name (map native_view (drop l.function-index l.functions))
