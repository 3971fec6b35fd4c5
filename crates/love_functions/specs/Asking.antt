-- What the functions of LÖVE that ask, or look into the game's folder, come to: values, an error that has a text alone, or
-- an ask and what its reply is for; or the error of an argument.
use Rattle.std.specs.Prelude.{ℕ, pos, Bool, true, false, List, [], ◌∷◌, ◌++◌, length, drop, Option, Some, None, Result, Ok, Err, if◌then◌else◌, nat_eq, bytes_eq, codes}
use Rattle.love_base.specs.Data.{Contents}
use Rattle.lua_tree.specs.Tree.{Bytes}
use Rattle.lua_meaning.specs.Native.{Native}
use Rattle.lua_meaning.specs.Value.{Value, nil, num, str, native}
use Rattle.lua_meaning.specs.Message.{Message, Source, Ask}
use Rattle.lua_meaning.specs.Packing.{PackFault, pack_text, pack, pack_all}
use Rattle.lua_meaning.specs.Arguments.{Lib, ◌>>=◌, answer, look, argument, number_argument, text_argument}
use Rattle.lua_meaning.specs.LoveArguments.{channel_argument, thread_argument, limit_argument, function_argument, status_argument}
use Rattle.lua_meaning.specs.Strings.{string_value}
use Rattle.lua_meaning.specs.Data.{new_data}
use Rattle.lua_meaning.specs.Love.{is_code, no_file, file_data_in}
use Rattle.lua_code.specs.State.{Errand, gives_values, awaits, enters, gives_true, clears}

pub data Called : Type 0 where
  gives : List Value → Called
  refuses : (text : Bytes) → Called
  asks : Ask → Errand → Called

abbrev pub asking : Ask → Errand → Lib Called
asking question errand = answer (asks question errand)

abbrev pub giving : List Value → Lib Called
giving vs = answer (gives vs)

-- ---- the files of the game's folder

abbrev pub Files : Type 0
Files = List (Bytes × List ℕ)

abbrev pub content_at : Bytes → Files → Option (List ℕ)
content_at path [] = None
content_at path (file ∷ files) = if bytes_eq file.0 path then Some file.1 else content_at path files

-- ---- messages

abbrev pub packed : {A : Type 0} → (A → Lib Called) → Result A PackFault → Lib Called
packed next (Ok m) = next m
packed next (Err e) = answer (refuses (pack_text e))

-- a value as a message, the values from the second one on as messages
abbrev pub with_message : ℕ → List Value → (Message → Lib Called) → Lib Called
with_message n args next = look (λ s. pack s (argument n args)) >>= packed next

abbrev pub with_messages : List Value → (List Message → Lib Called) → Lib Called
with_messages args next = look (λ s. pack_all s (drop 1 args)) >>= packed next

-- ---- love.thread

abbrev pub get_channel : List Value → Lib Called
get_channel args = text_argument 0 args >>= λ name. asking (Ask.name name) gives_values

abbrev pub new_thread_of_file : Bytes → Option (List ℕ) → Lib Called
new_thread_of_file path None = answer (refuses (no_file path))
new_thread_of_file path (Some bytes) = asking (Ask.new_thread (Source.file path)) gives_values

abbrev pub new_thread_of_text : Files → Bytes → Lib Called
new_thread_of_text files text =
    if is_code text
    then asking (Ask.new_thread (Source.code text)) gives_values
    else new_thread_of_file text (content_at text files)

abbrev pub new_thread_of : Files → List Value → Option Contents → Lib Called
new_thread_of files args (Some contents) =
    asking (Ask.new_thread (Source.file_data contents)) gives_values
new_thread_of files args None = text_argument 0 args >>= new_thread_of_text files

abbrev pub new_thread : Files → List Value → Lib Called
new_thread files args = look (λ s. file_data_in s (argument 0 args)) >>= new_thread_of files args

-- ---- Channels

-- a method of Channels that only asks
abbrev pub ask_channel : (ℕ → Ask) → List Value → Lib Called
ask_channel question args = channel_argument 0 args >>= λ c. asking (question c) gives_values

abbrev pub push_into : ℕ → List Value → Lib Called
push_into c args = with_message 1 args (λ m. asking (Ask.push c m) gives_values)

abbrev pub push : List Value → Lib Called
push args = channel_argument 0 args >>= λ c. push_into c args

abbrev pub supply_message : ℕ → List Value → Message → Lib Called
supply_message c args m = limit_argument 2 args >>= λ limit. asking (Ask.supply c m) (awaits c limit)

abbrev pub supply_into : ℕ → List Value → Lib Called
supply_into c args = with_message 1 args (supply_message c args)

abbrev pub supply : List Value → Lib Called
supply args = channel_argument 0 args >>= λ c. supply_into c args

abbrev pub demand_from : List Value → ℕ → Lib Called
demand_from args c = limit_argument 1 args >>= λ limit. asking (Ask.demand c limit) gives_values

abbrev pub demand : List Value → Lib Called
demand args = channel_argument 0 args >>= demand_from args

abbrev pub has_read_in : List Value → ℕ → Lib Called
has_read_in args c = number_argument 1 args >>= λ n. asking (Ask.has_read c n) gives_values

abbrev pub has_read : List Value → Lib Called
has_read args = channel_argument 0 args >>= has_read_in args

abbrev pub perform_in : List Value → ℕ → Lib Called
perform_in args c =
    function_argument 1 args >>=
    λ checked. asking (Ask.enter c) (enters c (argument 1 args) (drop 2 args))

abbrev pub perform_atomic : List Value → Lib Called
perform_atomic args = channel_argument 0 args >>= perform_in args

-- ---- Threads

abbrev pub ask_thread : (ℕ → Ask) → List Value → Lib Called
ask_thread question args = thread_argument 0 args >>= λ t. asking (question t) gives_values

abbrev pub start_thread : ℕ → List Value → Lib Called
start_thread t args = with_messages args (λ ms. asking (Ask.start t ms) gives_values)

abbrev pub start : List Value → Lib Called
start args = thread_argument 0 args >>= λ t. start_thread t args

-- ---- love.filesystem

abbrev pub nothing_read : Bytes → Lib Called
nothing_read path = giving (nil ∷ str (no_file path) ∷ [])

abbrev pub read_file : Bytes → Option (List ℕ) → Lib Called
read_file path None = nothing_read path
read_file path (Some bytes) =
    string_value bytes >>= λ vs. giving (vs ++ num (pos (length bytes)) ∷ [])

abbrev pub read : Files → List Value → Lib Called
read files args = text_argument 0 args >>= λ path. read_file path (content_at path files)

abbrev pub made_data : (bytes : List ℕ) → (name : Bytes) → Lib Called
made_data bytes name = new_data (record { bytes = bytes; name = Some name }) >>= giving

abbrev pub file_data : Bytes → Option (List ℕ) → Lib Called
file_data path None = nothing_read path
file_data path (Some bytes) = made_data bytes path

abbrev pub named_data : List Value → (bytes : Bytes) → Lib Called
named_data args bytes = text_argument 1 args >>= λ name. made_data bytes name

abbrev pub bytes_data : List Value → Lib Called
bytes_data args = text_argument 0 args >>= named_data args

abbrev pub path_data : Files → List Value → Lib Called
path_data files args = text_argument 0 args >>= λ path. file_data path (content_at path files)

abbrev pub new_file_data_of : Files → List Value → (name : Value) → Lib Called
new_file_data_of files args nil = path_data files args
new_file_data_of files args v = bytes_data args

abbrev pub new_file_data : Files → List Value → Lib Called
new_file_data files args = new_file_data_of files args (argument 1 args)

-- ---- love.event

abbrev pub push_event_of : List Value → (name : Bytes) → Lib Called
push_event_of args name = with_messages args (λ ms. asking (Ask.event_push name ms) gives_true)

abbrev pub push_event : List Value → Lib Called
push_event args = text_argument 0 args >>= push_event_of args

abbrev pub quit : List Value → Lib Called
quit args =
    status_argument 0 args >>=
    λ n. asking (Ask.event_push (codes "quit") (Message.num n ∷ [])) gives_true

-- events are polled by state 0
abbrev pub by_main : (state : ℕ) → Errand → Lib Called
by_main state errand =
    if nat_eq state 0
    then asking Ask.event_poll errand
    else answer (refuses (codes "events are polled by the main state"))

-- ---- all of them

-- whether a function is one of these
abbrev pub is_here : Native → Bool
is_here Native.love_thread_get_channel = true
is_here Native.love_thread_new_channel = true
is_here Native.love_thread_new_thread = true
is_here Native.love_filesystem_read = true
is_here Native.love_filesystem_new_file_data = true
is_here Native.love_event_push = true
is_here Native.love_event_quit = true
is_here Native.love_event_poll = true
is_here Native.poll_walk = true
is_here Native.love_event_clear = true
is_here Native.channel_push = true
is_here Native.channel_supply = true
is_here Native.channel_pop = true
is_here Native.channel_peek = true
is_here Native.channel_demand = true
is_here Native.channel_get_count = true
is_here Native.channel_has_read = true
is_here Native.channel_clear = true
is_here Native.channel_perform_atomic = true
is_here Native.thread_start = true
is_here Native.thread_wait = true
is_here Native.thread_is_running = true
is_here Native.thread_get_error = true
is_here f = false

-- what it comes to; of any other one nothing is said
abbrev pub part_of : Files → (state : ℕ) → Native → List Value → Lib Called
part_of files state Native.love_thread_get_channel args = get_channel args
part_of files state Native.love_thread_new_channel args = asking Ask.new_channel gives_values
part_of files state Native.love_thread_new_thread args = new_thread files args
part_of files state Native.love_filesystem_read args = read files args
part_of files state Native.love_filesystem_new_file_data args = new_file_data files args
part_of files state Native.love_event_push args = push_event args
part_of files state Native.love_event_quit args = quit args
part_of files state Native.love_event_poll args = giving (native Native.poll_walk ∷ [])
part_of files state Native.poll_walk args = by_main state gives_values
part_of files state Native.love_event_clear args = by_main state clears
part_of files state Native.channel_push args = push args
part_of files state Native.channel_supply args = supply args
part_of files state Native.channel_pop args = ask_channel Ask.pop args
part_of files state Native.channel_peek args = ask_channel Ask.peek args
part_of files state Native.channel_demand args = demand args
part_of files state Native.channel_get_count args = ask_channel Ask.count args
part_of files state Native.channel_has_read args = has_read args
part_of files state Native.channel_clear args = ask_channel Ask.clear args
part_of files state Native.channel_perform_atomic args = perform_atomic args
part_of files state Native.thread_start args = start args
part_of files state Native.thread_wait args = ask_thread Ask.wait_for args
part_of files state Native.thread_is_running args = ask_thread Ask.is_running args
part_of files state Native.thread_get_error args = ask_thread Ask.error_of args
part_of files state f args = giving []
