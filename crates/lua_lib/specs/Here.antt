-- Which functions a call has, and what it gives for any.
use Rattle.std.specs.Prelude.{◌≡◌, Bool, true, false, List, Result, Err}
use Rattle.lua_meaning.specs.Native.{Native}
use Rattle.lua_meaning.specs.Value as meant
use Rattle.lua_meaning.specs.Arguments.{Lib}
use Rattle.lua_heap.specs.declared.value.Value.{Value}
use Rattle.lua_heap.specs.Heap.{HeapView}
use Rattle.lua_lib.specs.declared.call.cause.LibFault.{LibFault}
use Rattle.lua_lib.specs.declared.call.cause.LibFault.TheVariants.{Elsewhere}
use Rattle.lua_lib.specs.Runs.{Called}

-- all but those of the machine: the first five call functions of the program, print, or run files, and the others ask
-- what all states share
abbrev pub is_here : Native → Bool
is_here Native.error = false
is_here Native.pcall = false
is_here Native.print = false
is_here Native.require = false
is_here Native.tostring = false
is_here Native.love_thread_get_channel = false
is_here Native.love_thread_new_channel = false
is_here Native.love_thread_new_thread = false
is_here Native.love_filesystem_new_file_data = false
is_here Native.love_filesystem_read = false
is_here Native.love_event_clear = false
is_here Native.love_event_poll = false
is_here Native.love_event_push = false
is_here Native.love_event_quit = false
is_here Native.poll_walk = false
is_here Native.channel_clear = false
is_here Native.channel_demand = false
is_here Native.channel_get_count = false
is_here Native.channel_has_read = false
is_here Native.channel_peek = false
is_here Native.channel_perform_atomic = false
is_here Native.channel_pop = false
is_here Native.channel_push = false
is_here Native.channel_supply = false
is_here Native.thread_get_error = false
is_here Native.thread_is_running = false
is_here Native.thread_start = false
is_here Native.thread_wait = false
is_here f = true

-- a function that is here is called; any other one is refused, and the heap stays as it is
abbrev pub CalledIf : {R : Type 0} → Bool → (R → List Value) → (before after : HeapView) → Lib (List meant.Value) → Result R LibFault → Type 0
CalledIf true items before after part result = Called items before after part result
CalledIf false items before after part result = (result ≡ Err Elsewhere) × (after ≡ before)
