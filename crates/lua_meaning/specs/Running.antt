-- The meaning with a number of ticks: what functions and loops do, and how each tick leads to the meaning with one less.
use Rattle.std.specs.Prelude.{ℕ, zero, suc, ℤ, pos, negsuc, int_le, Bool, true, false, List, [], ◌∷◌, length, drop, Result, Ok, Err, if◌then◌else◌}
use Rattle.lua_value.specs.Arithmetic as arithmetic
use Rattle.lua_value.specs.declared.arithmetic.NumFault.{NumFault}
use Rattle.lua_tree.specs.Tree.{Bytes, Expr, Func, func, Block}
use Rattle.lua_meaning.specs.Native.{Native}
use Rattle.lua_meaning.specs.Value.{Value, num, native, first, is_true, is_nil}
use Rattle.lua_meaning.specs.Names.{captured_in, expr_names}
use Rattle.lua_meaning.specs.Message.{Ask}
use Rattle.lua_meaning.specs.Store.{Closure}
use Rattle.lua_meaning.specs.World.{Act, Ends, ◌>>=◌, ◌>>◌, give, one, tick}
use Rattle.lua_meaning.specs.Library.{library as library_function}
use Rattle.lua_meaning.specs.Locals.{Env, Flow, normal, broken, returned, declare, outer, in_scope, outside}
use Rattle.lua_meaning.specs.Calls.{Calls, Here, Callee, made, library, chunk, Task, invoke, while_turn, repeat_turn, count_turn, each_turn, clear_turn, Later, results, call_at}
use Rattle.lua_meaning.specs.Expressions.{eval}
use Rattle.lua_meaning.specs.Statements.{block}
use Rattle.lua_meaning.specs.Control.{Game, by_library, raise_error, pcall, tostring, print, require}
use Rattle.lua_meaning.specs.Love as love

-- ---- functions

-- the arguments behind a function's parameters, where it has `...`
abbrev pub extra_of : (varargs : Bool) → (params : List Bytes) → List Value → List Value
extra_of true params args = drop (length params) args
extra_of false params args = []

-- a function's body, with its parameters in front of the locals that it finds outside (manual §2.5.9)
abbrev pub run_function : Later → Closure → Func → List Value → Calls → Act Flow
run_function again closure (func line params varargs body) args calls = do
  env ← declare params (captured_in body) args (outside closure.cells)
  block again (record {
    file =
        closure.file;
    extra = extra_of varargs params args;
    calls = calls;
  }) [] body env

-- a function of the library
abbrev pub run_library : Game → Later → Native → List Value → Calls → Act (List Value)
run_library game again Native.error args calls = raise_error calls args
run_library game again Native.pcall args calls = pcall again calls args
run_library game again Native.print args calls = print again calls args
run_library game again Native.require args calls = require game again calls args
run_library game again Native.tostring args calls = tostring again calls args
run_library game again Native.love_thread_get_channel args calls = love.get_channel calls args
run_library game again Native.love_thread_new_channel args calls = love.ask calls Ask.new_channel
run_library game again Native.love_thread_new_thread args calls = love.new_thread game calls args
run_library game again Native.love_filesystem_read args calls = love.read game calls args
run_library game again Native.love_filesystem_new_file_data args calls = love.new_file_data game
    calls args
run_library game again Native.love_event_push args calls = love.push_event calls args
run_library game again Native.love_event_quit args calls = love.quit calls args
run_library game again Native.love_event_poll args calls = give (native Native.poll_walk ∷ [])
run_library game again Native.poll_walk args calls = love.poll game calls
run_library game again Native.love_event_clear args calls =
    love.by_main game calls (results (love.clear_events again))
run_library game again Native.channel_push args calls = love.push calls args
run_library game again Native.channel_supply args calls = love.supply calls args
run_library game again Native.channel_pop args calls =
    love.ask_channel Native.channel_pop Ask.pop calls args
run_library game again Native.channel_peek args calls =
    love.ask_channel Native.channel_peek Ask.peek calls args
run_library game again Native.channel_demand args calls = love.demand calls args
run_library game again Native.channel_get_count args calls =
    love.ask_channel Native.channel_get_count Ask.count calls args
run_library game again Native.channel_has_read args calls = love.has_read calls args
run_library game again Native.channel_clear args calls =
    love.ask_channel Native.channel_clear Ask.clear calls args
run_library game again Native.channel_perform_atomic args calls = love.perform_atomic again calls
    args
run_library game again Native.thread_start args calls = love.start calls args
run_library game again Native.thread_wait args calls =
    love.ask_thread Native.thread_wait Ask.wait_for calls args
run_library game again Native.thread_is_running args calls =
    love.ask_thread Native.thread_is_running Ask.is_running calls args
run_library game again Native.thread_get_error args calls =
    love.ask_thread Native.thread_get_error Ask.error_of calls args
run_library game again f args calls = by_library f calls (library_function f args)

-- what was called
abbrev pub run_callee : Game → Later → Callee → List Value → Calls → Act Flow
run_callee game again (made closure) args calls = run_function again closure closure.node args calls
run_callee game again (library f) args calls =
    run_library game again f args calls >>= λ vs. give (returned vs)
run_callee game again (chunk file b) args calls =
    block again (record { file = file; extra = args; calls = calls }) [] b []

-- ---- turns of loops (manual §2.4.4, §2.4.5)

-- after a turn: the next one, unless the block left the loop
abbrev pub looped : Flow → (Env → Act Flow) → Act Flow
looped (normal env) next = next env
looped (broken env) next = give (normal env)
looped (returned vs) next = give (returned vs)

-- a turn takes its tick; then fresh locals are declared and the block runs
abbrev pub turn : Later → Here → List Bytes → List Value → Block → Env → Act Flow
turn again here xs vs b env = do
  tick
  inner ← declare xs (captured_in b) vs env
  in_scope env (block again here [] b inner)

abbrev pub while_true : Later → Here → Env → Expr → Block → Value → Act Flow
while_true again here env e b v =
    if is_true v then (turn again here [] [] b env >>=
    λ flow. looped flow (λ env. again (while_turn here env e b))) else give (normal env)

-- the test of `repeat` sees the block's locals
abbrev pub until : Later → Here → (before : Env) → Block → Expr → Flow → Act Flow
until again here before b e (normal env) = do
  v ← one (eval again here e env)
  if is_true v
      then give (normal (outer before env))
      else again (repeat_turn here (outer before env) b e)
until again here before b e (broken env) = give (normal (outer before env))
until again here before b e (returned vs) = give (returned vs)

-- whether the value of a numeric `for` is still on this side of its limit
abbrev pub is_counting : (value limit step : ℤ) → Bool
is_counting n m (pos zero) = int_le m n
is_counting n m (pos (suc k)) = int_le n m
is_counting n m (negsuc k) = int_le m n

-- a numeric `for` ends where its next value is no number
abbrev pub counted : Later → Here → Env → Bytes → Block → (limit step : ℤ) → Result ℤ NumFault →
    Act Flow
counted again here env x b m k (Ok n) = again (count_turn here env x b n m k)
counted again here env x b m k (Err e) = give (normal env)

abbrev pub count_on : Later → Here → Env → Bytes → Block → (value limit step : ℤ) → Act Flow
count_on again here env x b n m k =
    turn again here (x ∷ []) (num n ∷ []) b env >>=
    λ flow. looped flow (λ env. counted again here env x b m k (arithmetic.add n k))

-- a generic `for` ends where the first value is nil
abbrev pub each_on : Later → Here → Env → ℕ → List Bytes → Block → (f s : Value) → List Value →
    Act Flow
each_on again here env line xs b f s vs =
    if is_nil (first vs) then give (normal env)
    else (turn again here xs vs b env >>= λ flow. looped flow (λ env. again
    (each_turn here env line xs b f s (first vs))))

-- ---- the meaning

-- what a task does
abbrev pub task : Game → Later → Task → Act Flow
task game again (invoke callee args calls) = run_callee game again callee args calls
task game again (while_turn here env e b) =
    one (eval again here e env) >>= λ v. while_true again here env e b v
task game again (repeat_turn here env b e) = do
  tick
  flow ← block again here (expr_names false e) b env
  until again here env b e flow
task game again (count_turn here env x b n m k) =
    if is_counting n m k then count_on again here env x b n m k else give (normal env)
task game again (each_turn here env line xs b f s v) =
    call_at again here line f (s ∷ v ∷ []) >>= λ vs. each_on again here env line xs b f s vs
task game again clear_turn = love.clear_events again

-- the meaning of what takes fewer than n ticks
abbrev pub within : Game → ℕ → Later
within game zero t w = Ends.out_of_steps w
within game (suc n) t w = task game (within game n) t w
