-- The functions of LÖVE's modules and objects that ask, call back, or look into the game's folder (LÖVE wiki,
-- `love.thread`, `Channel`, `Thread`, `love.filesystem`, `love.event`).
use Rattle.std.specs.Prelude.{ℕ, pos, Bool, true, ◌||◌, List, [], ◌∷◌, ◌++◌, length, drop, Option, Some, None, Result, Ok, Err, if◌then◌else◌, nat_eq, nat_le, codes}
use Rattle.love_base.specs.Data.{Contents}
use Rattle.lua_tree.specs.Tree.{Bytes}
use Rattle.lua_meaning.specs.Native.{Native}
use Rattle.lua_meaning.specs.Value.{Value, nil, flag, num, str, channel, thread, datum}
use Rattle.lua_meaning.specs.Store.{Store, contents_at}
use Rattle.lua_meaning.specs.Message.{Message, Source, Event, Ask, Reply}
use Rattle.lua_meaning.specs.Packing.{PackFault, pack_text, pack, pack_all, unpack, unpack_all}
use Rattle.lua_meaning.specs.World.{Act, Ends, ◌>>=◌, ◌>>◌, give, raise, look, asking, tick, Outcome, given, failed, catching}
use Rattle.lua_meaning.specs.Fault.{refusal_text}
use Rattle.lua_meaning.specs.Arguments.{argument, number_argument, text_argument}
use Rattle.lua_meaning.specs.LoveArguments.{channel_argument, thread_argument, limit_argument, function_argument, status_argument}
use Rattle.lua_meaning.specs.Strings.{string_value, is_one_of}
use Rattle.lua_meaning.specs.Data.{new_data}
use Rattle.lua_meaning.specs.Locals.{Flow, returned}
use Rattle.lua_meaning.specs.Calls.{Calls, Later, clear_turn, call_back}
use Rattle.lua_meaning.specs.Control.{by_library, refuse, Game, File, file_at}

-- ---- replies

-- what a value and a store are, as an act
abbrev pub with_store : {A : Type 0} → (Store → A × Store) → Act A
with_store f w = let r = f w.store in Ends.gives r.0 (record w { store = r.1 })

-- the name and the values of an event
abbrev pub event_values : Event → Act (List Value)
event_values (Event.user name args) =
    with_store (λ s. unpack_all args s) >>= λ vs. give (str name ∷ vs)
event_values (Event.thread_error t text) =
    give (str (codes "threaderror") ∷ thread t ∷ str text ∷ [])

-- the values that a reply gives; a refusal is an error
abbrev pub reply_values : Calls → Reply → Act (List Value)
reply_values calls Reply.done = give []
reply_values calls Reply.nothing = give (nil ∷ [])
reply_values calls (Reply.flag b) = give (flag b ∷ [])
reply_values calls (Reply.id n) = give (num (pos n) ∷ [])
reply_values calls (Reply.number n) = give (num (pos n) ∷ [])
reply_values calls (Reply.value m) = with_store (λ s. unpack m s) >>= λ v. give (v ∷ [])
reply_values calls (Reply.channel c) = give (channel c ∷ [])
reply_values calls (Reply.thread t) = give (thread t ∷ [])
reply_values calls (Reply.words text) = give (str text ∷ [])
reply_values calls (Reply.event from action event) = event_values event
reply_values calls (Reply.refused cause) = refuse calls (refusal_text cause)

-- asks, and gives the values of the reply
abbrev pub ask : Calls → Ask → Act (List Value)
ask calls question = asking question >>= λ reply. reply_values calls reply

-- ---- messages

abbrev pub packed : {A : Type 0} → Calls → Result A PackFault → Act A
packed calls (Ok m) = give m
packed calls (Err e) = refuse calls (pack_text e)

-- a value as a message
abbrev pub message_of : Calls → Value → Act Message
message_of calls v = look (λ s. pack s v) >>= λ m. packed calls m

abbrev pub messages_of : Calls → List Value → Act (List Message)
messages_of calls vs = look (λ s. pack_all s vs) >>= λ ms. packed calls ms

-- ---- love.thread

-- `love.thread.getChannel(name)`, `love.thread.newChannel()`
abbrev pub get_channel : Calls → List Value → Act (List Value)
get_channel calls args = do
  name ← by_library Native.love_thread_get_channel calls (text_argument 0 args)
  ask calls (Ask.name name)

-- whether a text is code, and not a file's path
abbrev pub is_code : Bytes → Bool
is_code text = nat_le 1024 (length text) || is_one_of text 10

abbrev pub no_file : Bytes → Bytes
no_file path = codes "no such file: " ++ path

abbrev pub new_thread_of_file : Calls → Bytes → Option File → Act (List Value)
new_thread_of_file calls path None = refuse calls (no_file path)
new_thread_of_file calls path (Some file) = ask calls (Ask.new_thread (Source.file path))

abbrev pub new_thread_of_text : Game → Calls → Bytes → Act (List Value)
new_thread_of_text game calls text =
    if is_code text then ask calls (Ask.new_thread (Source.code text)) else new_thread_of_file
    calls text (file_at text game.files)

abbrev pub file_data_in : Store → Value → Option Contents
file_data_in s (datum d) = named (contents_at s d) (contents_at s d).name
  where
    named : Contents → Option Bytes → Option Contents
    named contents None = None
    named contents (Some name) = Some contents
file_data_in s v = None

abbrev pub new_thread_of : Game → Calls → List Value → Option Contents → Act (List Value)
new_thread_of game calls args (Some contents) =
    ask calls (Ask.new_thread (Source.file_data contents))
new_thread_of game calls args None =
    by_library Native.love_thread_new_thread calls (text_argument 0 args) >>=
    λ text. new_thread_of_text game calls text

-- `love.thread.newThread(x)`: of a FileData, of code, or of a file of the game's folder
abbrev pub new_thread : Game → Calls → List Value → Act (List Value)
new_thread game calls args =
    look (λ s. file_data_in s (argument 0 args)) >>=
    λ contents. new_thread_of game calls args contents

-- ---- Channels

-- a method of Channels that only asks
abbrev pub ask_channel : Native → (ℕ → Ask) → Calls → List Value → Act (List Value)
ask_channel f question calls args =
    by_library f calls (channel_argument 0 args) >>= λ c. ask calls (question c)

-- `c:push(v)`: the message's id
abbrev pub push : Calls → List Value → Act (List Value)
push calls args = do
  c ← by_library Native.channel_push calls (channel_argument 0 args)
  m ← message_of calls (argument 1 args)
  ask calls (Ask.push c m)

-- without a limit the wait has an end only where the message was received
abbrev pub waited : Option ℕ → List Value → List Value
waited None vs = flag true ∷ []
waited (Some seconds) vs = vs

abbrev pub await_reply : Calls → ℕ → Option ℕ → Reply → Act (List Value)
await_reply calls c limit (Reply.id n) =
    ask calls (Ask.await c n limit) >>= λ vs. give (waited limit vs)
await_reply calls c limit reply = reply_values calls reply

-- `c:supply(v, seconds)`
abbrev pub supply : Calls → List Value → Act (List Value)
supply calls args = do
  c ← by_library Native.channel_supply calls (channel_argument 0 args)
  m ← message_of calls (argument 1 args)
  limit ← by_library Native.channel_supply calls (limit_argument 2 args)
  reply ← asking (Ask.supply c m)
  await_reply calls c limit reply

-- `c:demand(seconds)`
abbrev pub demand : Calls → List Value → Act (List Value)
demand calls args = do
  c ← by_library Native.channel_demand calls (channel_argument 0 args)
  limit ← by_library Native.channel_demand calls (limit_argument 1 args)
  ask calls (Ask.demand c limit)

-- `c:hasRead(id)`
abbrev pub has_read : Calls → List Value → Act (List Value)
has_read calls args = do
  c ← by_library Native.channel_has_read calls (channel_argument 0 args)
  n ← by_library Native.channel_has_read calls (number_argument 1 args)
  ask calls (Ask.has_read c n)

abbrev pub come_out : Outcome (List Value) → Act (List Value)
come_out (given vs) = give vs
come_out (failed v) = raise v

abbrev pub section : Later → Calls → ℕ → List Value → Reply → Act (List Value)
section again calls c args (Reply.refused cause) = refuse calls (refusal_text cause)
section again calls c args reply = do
  outcome ← catching (call_back again calls (argument 1 args) (channel c ∷ drop 2 args))
  left ← asking (Ask.leave c)
  come_out outcome

-- `c:performAtomic(f, ...)`: f's results; an error leaves the section and goes on
abbrev pub perform_atomic : Later → Calls → List Value → Act (List Value)
perform_atomic again calls args = do
  c ← by_library Native.channel_perform_atomic calls (channel_argument 0 args)
  checked ← by_library Native.channel_perform_atomic calls (function_argument 1 args)
  reply ← asking (Ask.enter c)
  section again calls c args reply

-- ---- Threads

-- a method of Threads that only asks
abbrev pub ask_thread : Native → (ℕ → Ask) → Calls → List Value → Act (List Value)
ask_thread f question calls args =
    by_library f calls (thread_argument 0 args) >>= λ t. ask calls (question t)

-- `t:start(...)`
abbrev pub start : Calls → List Value → Act (List Value)
start calls args = do
  t ← by_library Native.thread_start calls (thread_argument 0 args)
  ms ← messages_of calls (drop 1 args)
  ask calls (Ask.start t ms)

-- ---- love.filesystem

abbrev pub nothing_read : Bytes → Act (List Value)
nothing_read path = give (nil ∷ str (no_file path) ∷ [])

abbrev pub read_file : Calls → Bytes → Option File → Act (List Value)
read_file calls path None = nothing_read path
read_file calls path (Some file) =
    by_library Native.love_filesystem_read calls (string_value file.bytes) >>=
    λ vs. give (vs ++ num (pos (length file.bytes)) ∷ [])

-- `love.filesystem.read(name)`: the file's bytes and their number, or nil and why not
abbrev pub read : Game → Calls → List Value → Act (List Value)
read game calls args = do
  path ← by_library Native.love_filesystem_read calls (text_argument 0 args)
  read_file calls path (file_at path game.files)

abbrev pub file_data : Calls → Bytes → Option File → Act (List Value)
file_data calls path None = nothing_read path
file_data calls path (Some file) =
    by_library Native.love_filesystem_new_file_data calls (new_data
    (record { bytes = file.bytes; name = Some path }))

abbrev pub new_file_data_of : Game → Calls → List Value → (name : Value) → Act (List Value)
new_file_data_of game calls args nil = do
  path ← by_library Native.love_filesystem_new_file_data calls (text_argument 0 args)
  file_data calls path (file_at path game.files)
new_file_data_of game calls args v = do
  bytes ← by_library Native.love_filesystem_new_file_data calls (text_argument 0 args)
  name ← by_library Native.love_filesystem_new_file_data calls (text_argument 1 args)
  by_library Native.love_filesystem_new_file_data calls (new_data
      (record { bytes = bytes; name = Some name }))

-- `love.filesystem.newFileData(x, name)`: of the bytes x; without a name of the file x, or nil and why not
abbrev pub new_file_data : Game → Calls → List Value → Act (List Value)
new_file_data game calls args = new_file_data_of game calls args (argument 1 args)

-- ---- love.event

-- `love.event.push(name, ...)`
abbrev pub push_event : Calls → List Value → Act (List Value)
push_event calls args = do
  name ← by_library Native.love_event_push calls (text_argument 0 args)
  ms ← messages_of calls (drop 1 args)
  reply ← asking (Ask.event_push name ms)
  give (flag true ∷ [])

-- `love.event.quit(status)`
abbrev pub quit : Calls → List Value → Act (List Value)
quit calls args = do
  n ← by_library Native.love_event_quit calls (status_argument 0 args)
  reply ← asking (Ask.event_push (codes "quit") (Message.num n ∷ []))
  give (flag true ∷ [])

-- events are polled by state 0
abbrev pub by_main : Game → Calls → Act (List Value) → Act (List Value)
by_main game calls act =
    if nat_eq game.state 0 then act else refuse calls (codes "events are polled by the main state")

-- what `love.event.poll` gives to walk with: the next event's name and values, or nil
abbrev pub poll : Game → Calls → Act (List Value)
poll game calls = by_main game calls (ask calls Ask.event_poll)

-- one more event is cleared, after a tick
abbrev pub cleared : Later → Reply → Act Flow
cleared again (Reply.event from action event) = tick >> again clear_turn
cleared again reply = give (returned [])

-- clears events until there is none
abbrev pub clear_events : Later → Act Flow
clear_events again = asking Ask.event_poll >>= λ reply. cleared again reply
