-- Running functions: what they know, what is left for a later tick, and how a call is made (manual §2.5.8).
use Rattle.std.specs.Prelude.{ℕ, ℤ, List, [], ◌∷◌, length, Option, Some, None, slice_get, if◌then◌else◌, nat_lt, codes}
use Rattle.lua_tree.specs.Tree.{Bytes, Expr, Block}
use Rattle.lua_meaning.specs.Native.{Native}
use Rattle.lua_meaning.specs.Value.{Value, str, func, native}
use Rattle.lua_meaning.specs.Store.{Store, Closure, handler}
use Rattle.lua_meaning.specs.World.{Act, ◌>>=◌, ◌>>◌, give, raise, tick, look_around}
use Rattle.lua_meaning.specs.Fault.{Place, placed, call_text}
use Rattle.lua_meaning.specs.Locals.{Env, Flow, values_of}

-- the active calls, the last one first: where each was made, which is nowhere for a call that a library function made
abbrev pub Calls : Type 0
Calls = List (Option Place)

-- what a running function of Lua knows beside its locals: its file, its extra arguments and the active calls
pub record Here : Type 0 where
  pub file : Bytes
  pub extra : List Value
  pub calls : Calls

-- a line of the running function
abbrev pub place : Here → ℕ → Option Place
place here line = Some (record { file = here.file; line = line })

-- an error of the language in the running function, at a line
abbrev pub fault_at : {A : Type 0} → Here → ℕ → Bytes → Act A
fault_at here line text = raise (str (placed (place here line) text))

-- who called the function that was called last
abbrev pub caller : Calls → Option Place
caller [] = None
caller (at ∷ calls) = at

-- what can be called: a function that a program made, one of the library, or the main function of a file
pub data Callee : Type 0 where
  made : Closure → Callee
  library : Native → Callee
  chunk : (file : Bytes) → Block → Callee

-- what is meant by the meaning with a tick less: what was called, a turn of a loop and the turns behind it, or what is
-- left to clear of the events
pub data Task : Type 0 where
  invoke : Callee → (args : List Value) → Calls → Task
  while_turn : Here → Env → (test : Expr) → Block → Task
  repeat_turn : Here → Env → Block → (test : Expr) → Task
  count_turn : Here → Env → Bytes → Block → (value limit step : ℤ) → Task
  each_turn : Here → Env → (line : ℕ) → (names : List Bytes) → Block → (f s var : Value) → Task
  clear_turn : Task

-- that meaning, whose every use is behind a tick
abbrev pub Later : Type 0
Later = Task → Act Flow

-- the results of a task
abbrev pub results : Act Flow → Act (List Value)
results act = act >>= λ flow. give (values_of flow)

-- a call takes its tick when callee and arguments are known; then the limit on active calls is tested
abbrev pub enter : Later → (at : Option Place) → Calls → Callee → List Value → Act (List Value)
enter again at calls callee args =
    tick >> (if nat_lt (length calls) 4096 then results (again (invoke callee args
    (at ∷ calls))) else raise (str (placed at (codes "stack overflow"))))

abbrev pub callee_made : Option Closure → Option Callee
callee_made None = None
callee_made (Some closure) = Some (made closure)

-- a function as a callee
abbrev pub callee_of : List Closure → Value → Option Callee
callee_of functions (func f) = callee_made (slice_get functions f)
callee_of functions (native f) = Some (library f)
callee_of functions v = None

abbrev pub with_args : Option Callee → List Value → Option (Callee × List Value)
with_args None args = None
with_args (Some callee) args = Some (callee, args)

-- what a call of a value runs, and on what: another value than a function is called through its handler `__call`, which
-- is a function and gets the value first
abbrev pub called : List Closure → Store → Value → List Value → Option (Callee × List Value)
called functions s (func f) args = with_args (callee_of functions (func f)) args
called functions s (native f) args = with_args (callee_of functions (native f)) args
called functions s v args = with_args (callee_of functions (handler s v (codes "__call"))) (v ∷ args)

abbrev pub enter_called : Later → (at : Option Place) → Calls → Value →
    Option (Callee × List Value) → Act (List Value)
enter_called again at calls f None = raise (str (placed at (call_text f)))
enter_called again at calls f (Some c) = enter again at calls c.0 c.1

-- calls a value from a place
abbrev pub call : Later → (at : Option Place) → Calls → Value → List Value → Act (List Value)
call again at calls f args =
    look_around (λ functions s. called functions s f args) >>= λ c. enter_called again at calls f c

-- the same from a line of the running function
abbrev pub call_at : Later → Here → ℕ → Value → List Value → Act (List Value)
call_at again here line f args = call again (place here line) here.calls f args

-- calls by a library function have no place
abbrev pub call_back : Later → Calls → Value → List Value → Act (List Value)
call_back again calls f args = call again None calls f args
