-- What the functions of the library do in a machine. Those that neither call back nor ask are `library`.
use Rattle.std.specs.Prelude.{ℕ, pos, true, List, [], ◌∷◌, ◌++◌, length, drop, map, Option, Some, None, Result, Ok, Err, if◌then◌else◌, nat_eq, bytes_eq, codes}
use Rattle.love_base.specs.Data.{Contents}
use Rattle.lua_tree.specs.Tree.{Bytes}
use Rattle.lua_meaning.specs.Native.{Native}
use Rattle.lua_meaning.specs.Value.{Value, nil, flag, num, str, table, native, channel, thread}
use Rattle.lua_meaning.specs.Store.{Store, handler}
use Rattle.lua_meaning.specs.Message.{Message, Source, Event, Ask, Reply}
use Rattle.lua_meaning.specs.Packing.{PackFault, pack_text, pack, pack_all, unpack, unpack_all}
use Rattle.lua_meaning.specs.World.{Module, begun, loaded, given}
use Rattle.lua_meaning.specs.Fault.{placed, fault_value, refusal_text}
use Rattle.lua_meaning.specs.Arguments.{Lib, Answer, answers, faults, argument, number_or, number_argument, text_argument}
use Rattle.lua_meaning.specs.LoveArguments.{channel_argument, thread_argument, limit_argument, function_argument, status_argument}
use Rattle.lua_meaning.specs.Strings.{string_value}
use Rattle.lua_meaning.specs.Data.{new_data}
use Rattle.lua_meaning.specs.Library.{library as library_function}
use Rattle.lua_meaning.specs.Calls.{caller}
use Rattle.lua_meaning.specs.Control.{level_place, error_value, value_text, slashed, found_module, love_module, with_events}
use Rattle.lua_meaning.specs.Love.{is_code, no_file, file_data_in, waited}
use Rattle.lua_code.specs.Instr.{Proto}
use Rattle.lua_code.specs.State.{Registers, State, with_store, Duty, tries, converts, requires, guards, Frame, serves, Errand, gives_values, awaits, gives_waited, enters, comes_out, gives_true, clears, Pending, Step, asks}
use Rattle.lua_code.specs.Frames.{places, runs, ticking, entering, by_text, printing, keep_module, finish, raised, calling}

-- ---- what a machine is given

-- what a file of the game's folder is as a program
pub data FileCode : Type 0 where
  ready : Proto → FileCode
  faulty : (text : Bytes) → FileCode
  not_lua : FileCode

pub record File : Type 0 where
  pub path : Bytes
  pub bytes : List ℕ
  pub code : FileCode

-- the files of the game's folder, and the state's number
pub record Program : Type 0 where
  pub files : List File
  pub state : ℕ

abbrev pub file_at : Bytes → List File → Option File
file_at path [] = None
file_at path (file ∷ files) = if bytes_eq file.path path then Some file else file_at path files

abbrev pub or_file : Option File → Option File → Option File
or_file (Some file) other = Some file
or_file None other = other

abbrev pub module_file : Program → Bytes → Option File
module_file program name =
    or_file (file_at (map slashed name ++ codes ".lua") program.files) (file_at
    (map slashed name ++ codes "/init.lua") program.files)

-- ---- one function, with its arguments, its free slots and cells, its caller's frames, registers and state

module _ (program : Program) (base cell_base : ℕ) (frames : List Frame) (r : Registers) where
  abbrev pub Next : Type 0 → Type 0
  Next A = A → State → Step

  abbrev pub gives : Next (List Value)
  gives vs st = finish (given vs) frames r st

  abbrev pub raises : Next Value
  raises v st = raised frames r v st

  -- an error with the place of the function's caller
  abbrev pub refuses : Next Bytes
  refuses text st = raises (str (placed (caller (places frames)) text)) st

  abbrev pub answered : {A : Type 0} → Native → Answer A → State → Next A → Step
  answered f (answers a s) st next = next a (with_store st s)
  answered f (faults e) st next = raises (fault_value f (caller (places frames)) e) st

  -- a part that only reads arguments and changes the store
  abbrev pub by_library : {A : Type 0} → Native → Lib A → State → Next A → Step
  by_library f part st next = answered f (part st.store) st next

  abbrev pub calls_back : Duty → Value → List Value → State → Step
  calls_back duty f args st =
      calling f args (serves duty base cell_base ∷ frames) base cell_base r st

  abbrev pub asks_for : Errand → Ask → State → Step
  asks_for errand question st =
      asks question (record {
        errand = errand;
        base = base;
        cell_base = cell_base;
        frames = frames;
        registers = r;
        state = st;
      })

  -- ---- the basic functions

  abbrev pub error : List Value → State → Step
  error args st = by_library Native.error (number_or 1 args (pos 1)) st (λ level st.
      raises (error_value (argument 0 args) (level_place level (places frames))) st)

  abbrev pub tostring : Value → State → Step
  tostring v st = by_text (handler st.store v (codes "__tostring"))
      (gives (str (value_text st.store v) ∷ []) st) (λ h. calls_back converts h (v ∷ []) st)

  abbrev pub no_module : Bytes → State → Step
  no_module name st = refuses (codes "module '" ++ (name ++ codes "' not found")) st

  abbrev pub load_code : Bytes → FileCode → State → Step
  load_code name not_lua st = no_module name st
  load_code name (faulty text) st = raises (str text) st
  load_code name (ready code) st =
      let frames : List Frame = serves (requires name) base cell_base ∷ frames in
      entering (raised frames r) (runs code []) (str name ∷ []) frames base cell_base r
      (keep_module name begun st)

  abbrev pub load_file : Bytes → Option File → State → Step
  load_file name None st = no_module name st
  load_file name (Some file) st = load_code name file.code st

  -- `love.event` becomes a field of `love` in a state of a Thread
  abbrev pub load_new : Bytes → Option ℕ → State → Step
  load_new name (Some t) st =
      gives (table t ∷ [])
      (with_store st (with_events (record { files = []; state = program.state }) t st.store))
  load_new name None st = load_file name (module_file program name) st

  abbrev pub load_known : Bytes → Option Module → State → Step
  load_known name (Some (loaded v)) st = gives (v ∷ []) st
  load_known name (Some begun) st =
      refuses (codes "loop or previous error loading module '" ++ (name ++ codes "'")) st
  load_known name None st = load_new name (love_module name) st

  abbrev pub require : List Value → State → Step
  require args st = by_library Native.require (text_argument 0 args) st (λ name st.
      load_known name (found_module name st.modules) st)

  -- ---- replies

  abbrev pub event_values : Event → State → Next (List Value) → Step
  event_values (Event.user name args) st next =
      let unpacked : List Value × Store = unpack_all args st.store in
      next (str name ∷ unpacked.0) (with_store st unpacked.1)
  event_values (Event.thread_error t text) st next =
      next (str (codes "threaderror") ∷ thread t ∷ str text ∷ []) st

  -- the values that a reply gives; a refusal is an error
  abbrev pub reply_values : Reply → State → Next (List Value) → Step
  reply_values Reply.done st next = next [] st
  reply_values Reply.nothing st next = next (nil ∷ []) st
  reply_values (Reply.flag b) st next = next (flag b ∷ []) st
  reply_values (Reply.id n) st next = next (num (pos n) ∷ []) st
  reply_values (Reply.number n) st next = next (num (pos n) ∷ []) st
  reply_values (Reply.value m) st next =
      let unpacked : Value × Store = unpack m st.store in
      next (unpacked.0 ∷ []) (with_store st unpacked.1)
  reply_values (Reply.channel c) st next = next (channel c ∷ []) st
  reply_values (Reply.thread t) st next = next (thread t ∷ []) st
  reply_values (Reply.words text) st next = next (str text ∷ []) st
  reply_values (Reply.event from action event) st next = event_values event st next
  reply_values (Reply.refused cause) st next = refuses (refusal_text cause) st

  -- what a reply is for
  abbrev pub attend : Errand → Reply → State → Step
  attend gives_values reply st = reply_values reply st gives
  attend (awaits c limit) (Reply.id n) st = asks_for (gives_waited limit) (Ask.await c n limit) st
  attend (awaits c limit) reply st = reply_values reply st gives
  attend (gives_waited limit) reply st =
      reply_values reply st (λ vs st. gives (waited limit vs) st)
  attend (enters c f args) (Reply.refused cause) st = refuses (refusal_text cause) st
  attend (enters c f args) reply st = calls_back (guards c) f (channel c ∷ args) st
  attend (comes_out o) reply st = finish o frames r st
  attend gives_true reply st = gives (flag true ∷ []) st
  attend clears (Reply.event from action event) st =
      ticking st.ticks st (λ st. asks_for clears Ask.event_poll st)
  attend clears reply st = gives [] st

  -- ---- messages

  abbrev pub packed : {A : Type 0} → Result A PackFault → State → Next A → Step
  packed (Ok m) st next = next m st
  packed (Err e) st next = refuses (pack_text e) st

  -- ---- love.thread, Channels, Threads

  abbrev pub get_channel : List Value → State → Step
  get_channel args st = by_library Native.love_thread_get_channel (text_argument 0 args) st
      (λ name st. asks_for gives_values (Ask.name name) st)

  abbrev pub new_thread_of_file : Bytes → Option File → State → Step
  new_thread_of_file path None st = refuses (no_file path) st
  new_thread_of_file path (Some file) st =
      asks_for gives_values (Ask.new_thread (Source.file path)) st

  abbrev pub new_thread_of_text : Bytes → State → Step
  new_thread_of_text text st =
      if is_code text
      then asks_for gives_values (Ask.new_thread (Source.code text)) st
      else new_thread_of_file text (file_at text program.files) st

  abbrev pub new_thread : List Value → Option Contents → State → Step
  new_thread args (Some contents) st =
      asks_for gives_values (Ask.new_thread (Source.file_data contents)) st
  new_thread args None st = by_library Native.love_thread_new_thread (text_argument 0 args) st
      (λ text st. new_thread_of_text text st)

  abbrev pub ask_channel : Native → (ℕ → Ask) → List Value → State → Step
  ask_channel f question args st = by_library f (channel_argument 0 args) st
      (λ c st. asks_for gives_values (question c) st)

  abbrev pub push : List Value → State → Step
  push args st = by_library Native.channel_push (channel_argument 0 args) st (λ c st.
      packed (pack st.store (argument 1 args)) st (λ m st.
      asks_for gives_values (Ask.push c m) st))

  abbrev pub supply : List Value → State → Step
  supply args st = by_library Native.channel_supply (channel_argument 0 args) st (λ c st.
      packed (pack st.store (argument 1 args)) st (λ m st.
      by_library Native.channel_supply (limit_argument 2 args) st (λ limit st.
      asks_for (awaits c limit) (Ask.supply c m) st)))

  abbrev pub demand : List Value → State → Step
  demand args st = by_library Native.channel_demand (channel_argument 0 args) st (λ c st.
      by_library Native.channel_demand (limit_argument 1 args) st (λ limit st.
      asks_for gives_values (Ask.demand c limit) st))

  abbrev pub has_read : List Value → State → Step
  has_read args st = by_library Native.channel_has_read (channel_argument 0 args) st (λ c st.
      by_library Native.channel_has_read (number_argument 1 args) st (λ n st.
      asks_for gives_values (Ask.has_read c n) st))

  abbrev pub perform_atomic : List Value → State → Step
  perform_atomic args st =
      by_library Native.channel_perform_atomic (channel_argument 0 args) st (λ c st.
      by_library Native.channel_perform_atomic (function_argument 1 args) st (λ checked st.
      asks_for (enters c (argument 1 args) (drop 2 args)) (Ask.enter c) st))

  abbrev pub ask_thread : Native → (ℕ → Ask) → List Value → State → Step
  ask_thread f question args st = by_library f (thread_argument 0 args) st
      (λ t st. asks_for gives_values (question t) st)

  abbrev pub start : List Value → State → Step
  start args st = by_library Native.thread_start (thread_argument 0 args) st (λ t st.
      packed (pack_all st.store (drop 1 args)) st (λ ms st.
      asks_for gives_values (Ask.start t ms) st))

  -- ---- love.filesystem

  abbrev pub nothing_read : Bytes → State → Step
  nothing_read path st = gives (nil ∷ str (no_file path) ∷ []) st

  abbrev pub read_file : Bytes → Option File → State → Step
  read_file path None st = nothing_read path st
  read_file path (Some file) st =
      by_library Native.love_filesystem_read (string_value file.bytes) st (λ vs st.
      gives (vs ++ num (pos (length file.bytes)) ∷ []) st)

  abbrev pub read : List Value → State → Step
  read args st = by_library Native.love_filesystem_read (text_argument 0 args) st (λ path st.
      read_file path (file_at path program.files) st)

  abbrev pub file_data : Bytes → Option File → State → Step
  file_data path None st = nothing_read path st
  file_data path (Some file) st = by_library Native.love_filesystem_new_file_data
      (new_data (record { bytes = file.bytes; name = Some path })) st gives

  abbrev pub new_file_data : List Value → (name : Value) → State → Step
  new_file_data args nil st =
      by_library Native.love_filesystem_new_file_data (text_argument 0 args) st (λ path st.
      file_data path (file_at path program.files) st)
  new_file_data args v st =
      by_library Native.love_filesystem_new_file_data (text_argument 0 args) st (λ bytes st.
      by_library Native.love_filesystem_new_file_data (text_argument 1 args) st (λ name st.
      by_library Native.love_filesystem_new_file_data
      (new_data (record { bytes = bytes; name = Some name })) st gives))

  -- ---- love.event

  abbrev pub push_event : List Value → State → Step
  push_event args st = by_library Native.love_event_push (text_argument 0 args) st (λ name st.
      packed (pack_all st.store (drop 1 args)) st (λ ms st.
      asks_for gives_true (Ask.event_push name ms) st))

  abbrev pub quit : List Value → State → Step
  quit args st = by_library Native.love_event_quit (status_argument 0 args) st (λ n st.
      asks_for gives_true (Ask.event_push (codes "quit") (Message.num n ∷ [])) st)

  -- events are polled by state 0
  abbrev pub by_main : Errand → State → Step
  by_main errand st =
      if nat_eq program.state 0
      then asks_for errand Ask.event_poll st
      else refuses (codes "events are polled by the main state") st

  -- ---- all of them

  abbrev pub serves_as : Native → List Value → State → Step
  serves_as Native.error args st = error args st
  serves_as Native.pcall args st = calls_back tries (argument 0 args) (drop 1 args) st
  serves_as Native.print args st =
      printing [] args frames base cell_base r st (λ o st. finish o frames r st)
  serves_as Native.require args st = require args st
  serves_as Native.tostring args st = tostring (argument 0 args) st
  serves_as Native.love_thread_get_channel args st = get_channel args st
  serves_as Native.love_thread_new_channel args st = asks_for gives_values Ask.new_channel st
  serves_as Native.love_thread_new_thread args st =
      new_thread args (file_data_in st.store (argument 0 args)) st
  serves_as Native.love_filesystem_read args st = read args st
  serves_as Native.love_filesystem_new_file_data args st =
      new_file_data args (argument 1 args) st
  serves_as Native.love_event_push args st = push_event args st
  serves_as Native.love_event_quit args st = quit args st
  serves_as Native.love_event_poll args st = gives (native Native.poll_walk ∷ []) st
  serves_as Native.poll_walk args st = by_main gives_values st
  serves_as Native.love_event_clear args st = by_main clears st
  serves_as Native.channel_push args st = push args st
  serves_as Native.channel_supply args st = supply args st
  serves_as Native.channel_pop args st = ask_channel Native.channel_pop Ask.pop args st
  serves_as Native.channel_peek args st = ask_channel Native.channel_peek Ask.peek args st
  serves_as Native.channel_demand args st = demand args st
  serves_as Native.channel_get_count args st =
      ask_channel Native.channel_get_count Ask.count args st
  serves_as Native.channel_has_read args st = has_read args st
  serves_as Native.channel_clear args st = ask_channel Native.channel_clear Ask.clear args st
  serves_as Native.channel_perform_atomic args st = perform_atomic args st
  serves_as Native.thread_start args st = start args st
  serves_as Native.thread_wait args st = ask_thread Native.thread_wait Ask.wait_for args st
  serves_as Native.thread_is_running args st =
      ask_thread Native.thread_is_running Ask.is_running args st
  serves_as Native.thread_get_error args st =
      ask_thread Native.thread_get_error Ask.error_of args st
  serves_as f args st = by_library f (library_function f args) st gives

-- a function of the library runs
abbrev pub serve : Program → Native → List Value → (base cell_base : ℕ) → List Frame → Registers →
    State → Step
serve program f args base cell_base frames r st =
    serves_as program base cell_base frames r f args st

-- an ask counts as answered when its reply has come
abbrev pub asked : Ask → State → State
asked question st = record st { asks = st.asks ++ question ∷ [] }

-- a reply has come
abbrev pub resume : Program → Ask → Reply → Pending → Step
resume program question reply p =
    attend program p.base p.cell_base p.frames p.registers p.errand reply (asked question p.state)
