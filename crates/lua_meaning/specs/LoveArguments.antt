-- Arguments that only functions of LÖVE take.
use Rattle.std.specs.Prelude.{ℕ, ℤ, pos, negsuc, List, Option, Some, None, if◌then◌else◌, nat_le, codes, ⊤}
use Rattle.lua_meaning.specs.Value.{Value, nil, channel, thread}
use Rattle.lua_meaning.specs.Handlers.{is_function}
use Rattle.lua_meaning.specs.Fault.{wants, improper}
use Rattle.lua_meaning.specs.Arguments.{Lib, ◌>>=◌, answer, fault, argument, wanted, number_argument, number_or}

abbrev pub as_channel : Value → Option ℕ
as_channel (channel c) = Some c
as_channel v = None

abbrev pub as_thread : Value → Option ℕ
as_thread (thread t) = Some t
as_thread v = None

-- a Channel as its number, a Thread as its number
abbrev pub channel_argument : ℕ → List Value → Lib ℕ
channel_argument n args =
    wanted n (codes "Channel") (argument n args) (as_channel (argument n args))

abbrev pub thread_argument : ℕ → List Value → Lib ℕ
thread_argument n args = wanted n (codes "Thread") (argument n args) (as_thread (argument n args))

-- whole seconds from 0 to 1,000,000
abbrev pub seconds : ℕ → ℤ → Lib (Option ℕ)
seconds n (pos s) = if nat_le s 1000000 then answer (Some s) else fault (improper n
    (codes "0 to 1000000 expected"))
seconds n (negsuc s) = fault (improper n (codes "0 to 1000000 expected"))

abbrev pub limit_of : ℕ → Value → List Value → Lib (Option ℕ)
limit_of n nil args = answer None
limit_of n v args = number_argument n args >>= λ z. seconds n z

-- a limit of a wait, where there is one
abbrev pub limit_argument : ℕ → List Value → Lib (Option ℕ)
limit_argument n args = limit_of n (argument n args) args

-- a function
abbrev pub function_argument : ℕ → List Value → Lib ⊤
function_argument n args =
    if is_function (argument n args) then answer tt else fault (wants n (codes "function")
    (argument n args))

-- an exit status, from 0 to 63; 0 where it is nil
abbrev pub status : ℕ → ℤ → Lib ℤ
status n (pos z) = if nat_le z 63 then answer (pos z) else fault (improper n
    (codes "0 to 63 expected"))
status n (negsuc z) = fault (improper n (codes "0 to 63 expected"))

abbrev pub status_argument : ℕ → List Value → Lib ℤ
status_argument n args = number_or n args (pos 0) >>= λ z. status n z
