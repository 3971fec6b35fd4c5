-- The functions of the library are lawful, with at most two asks.
use Rattle.std.proofs.Common.{ℕ, ◌+◌, refl, List, [], ◌∷◌, Option, Some, None, Result, Ok, Err, arith, nat_eq}
use Rattle.love_base.specs.Data.{Contents}
use Rattle.lua_tree.specs.Tree.{Bytes}
use Rattle.lua_meaning.specs.Native.{Native}
use Rattle.lua_meaning.specs.Value.{Value, nil}
use Rattle.lua_meaning.specs.Store.{Store}
use Rattle.lua_meaning.specs.Message.{Message, Event, Ask, Reply}
use Rattle.lua_meaning.specs.Packing.{PackFault}
use Rattle.lua_meaning.specs.World.{World, Module, begun, loaded, Act, Outcome, given, failed, give, asking, ◌>>=◌}
use Rattle.lua_meaning.specs.Arguments.{Lib, Answer, answers, faults}
use Rattle.lua_meaning.specs.Calls.{Calls, Later}
use Rattle.lua_meaning.specs.Control as control
use Rattle.lua_meaning.specs.Control.{Game, File, Code, ready, faulty, not_lua}
use Rattle.lua_meaning.specs.Love as love
use Rattle.lua_meaning.specs.Library.{library as library_function}
use Rattle.lua_meaning.specs.Running.{run_library}
use Rattle.lua_meaning.proofs.Lawful.{Lawful, Step, Extended, with_more, same_prefix, chain, costs, free, followed, behind, either, gives_lawful, raises_lawful, looks, changes, asks, catches, adds_line, ticked, ones}
use Rattle.lua_meaning.proofs.Calling.{Paid, results_lawful, enter_lawful, call_back_lawful}

-- ---- what they have in common

answer_step : {A : Type 0} (f : Native) (calls : Calls) (a : Answer A) (w : World) →
    Step 0 w (control.answered f calls a w)
answer_step f calls (answers a s) w =
    record {
      ticks = omega arith;
      output = same_prefix w.output;
      asks = same_prefix w.asks;
      cost =
          omega arith;
    }
answer_step f calls (faults e) w =
    record {
      ticks = omega arith;
      output = same_prefix w.output;
      asks = same_prefix w.asks;
      cost =
          omega arith;
    }

answer_more : {A : Type 0} (f : Native) (calls : Calls) (a : Answer A) (w : World)
    (rs : List Reply) → Extended rs (control.answered f calls a w) (control.answered f calls a
    (with_more w rs))
answer_more f calls (answers a s) w rs = refl
answer_more f calls (faults e) w rs = refl

pub library_lawful : {A : Type 0} (f : Native) (calls : Calls) (part : Lib A) →
    Lawful 0 (control.by_library f calls part)
library_lawful f calls part = record {
  step = λ w. answer_step f calls (part w.store) w;
  more = λ w rs. answer_more f calls (part w.store) w rs;
}

refuse_lawful : {A : Type 0} (calls : Calls) (text : Bytes) →
    Lawful 0 (control.refuse {A = A} calls text)
refuse_lawful calls text = raises_lawful _

-- ---- error, tostring, print

error_lawful : (calls : Calls) (args : List Value) → Lawful 0 (control.raise_error calls args)
error_lawful calls args = search (followed, library_lawful, raises_lawful)

printed_lawful : (calls : Calls) (text : Option Bytes) → Lawful 0 (control.printed calls text)
printed_lawful calls None = refuse_lawful calls _
printed_lawful calls (Some text) = gives_lawful _

-- ---- modules

known_lawful : (name : Bytes) → Lawful 0 (control.known_module name)
known_lawful name = record {
  step = λ w. record {
    ticks =
        omega arith;
    output = same_prefix w.output;
    asks = same_prefix w.asks;
    cost = omega arith;
  };
  more = λ w rs. refl;
}

keep_lawful : (name : Bytes) (m : Module) → Lawful 0 (control.keep_module name m)
keep_lawful name m = record {
  step = λ w. record {
    ticks =
        omega arith;
    output = same_prefix w.output;
    asks = same_prefix w.asks;
    cost = omega arith;
  };
  more = λ w rs. refl;
}

-- ---- replies

store_lawful : {A : Type 0} (f : Store → A × Store) → Lawful 0 (love.with_store f)
store_lawful f = record {
  step = λ w. record {
    ticks =
        omega arith;
    output = same_prefix w.output;
    asks = same_prefix w.asks;
    cost = omega arith;
  };
  more = λ w rs. refl;
}

event_lawful : (e : Event) → Lawful 0 (love.event_values e)
event_lawful (Event.user name args) = search (followed, store_lawful, gives_lawful)
event_lawful (Event.thread_error t text) = gives_lawful _

reply_lawful : (calls : Calls) (r : Reply) → Lawful 0 (love.reply_values calls r)
reply_lawful calls Reply.done = gives_lawful _
reply_lawful calls Reply.nothing = gives_lawful _
reply_lawful calls (Reply.flag b) = gives_lawful _
reply_lawful calls (Reply.id n) = gives_lawful _
reply_lawful calls (Reply.number n) = gives_lawful _
reply_lawful calls (Reply.value m) = search (followed, store_lawful, gives_lawful)
reply_lawful calls (Reply.channel c) = gives_lawful _
reply_lawful calls (Reply.thread t) = gives_lawful _
reply_lawful calls (Reply.words text) = gives_lawful _
reply_lawful calls (Reply.event from action e) = event_lawful e
reply_lawful calls (Reply.refused cause) = refuse_lawful calls _

ask_lawful : (calls : Calls) (q : Ask) → Lawful 1 (love.ask calls q)
ask_lawful calls q = chain 1 0 (asks q) (λ r. reply_lawful calls r)

-- one ask behind acts without cost is one of two
once : {A : Type 0} {m : Act A} → Lawful 1 m → Lawful 2 m
once l = costs 1 2 (omega arith) l

-- ---- messages and files

packed_lawful : {A : Type 0} (calls : Calls) (r : Result A PackFault) →
    Lawful 0 (love.packed calls r)
packed_lawful calls (Ok m) = gives_lawful m
packed_lawful calls (Err e) = refuse_lawful calls _

message_lawful : (calls : Calls) (v : Value) → Lawful 0 (love.message_of calls v)
message_lawful calls v = search (followed, looks, packed_lawful)

messages_lawful : (calls : Calls) (vs : List Value) → Lawful 0 (love.messages_of calls vs)
messages_lawful calls vs = search (followed, looks, packed_lawful)

channel_lawful : (calls : Calls) (args : List Value) → Lawful 1 (love.get_channel calls args)
channel_lawful calls args = search (followed, library_lawful, ask_lawful)

thread_file_lawful : (calls : Calls) (path : Bytes) (file : Option File) →
    Lawful 1 (love.new_thread_of_file calls path file)
thread_file_lawful calls path None = costs 0 1 (omega arith) (refuse_lawful calls _)
thread_file_lawful calls path (Some file) = ask_lawful calls _

thread_text_lawful : (game : Game) (calls : Calls) (text : Bytes) →
    Lawful 1 (love.new_thread_of_text game calls text)
thread_text_lawful game calls text =
    either 1 (love.is_code text) (ask_lawful calls _) (thread_file_lawful calls text _)

thread_of_lawful : (game : Game) (calls : Calls) (args : List Value) (c : Option Contents) →
    Lawful 1 (love.new_thread_of game calls args c)
thread_of_lawful game calls args (Some c) = ask_lawful calls _
thread_of_lawful game calls args None = search (followed, library_lawful, thread_text_lawful)

new_thread_lawful : (game : Game) (calls : Calls) (args : List Value) →
    Lawful 1 (love.new_thread game calls args)
new_thread_lawful game calls args = search (followed, looks, thread_of_lawful)

read_file_lawful : (calls : Calls) (path : Bytes) (file : Option File) →
    Lawful 0 (love.read_file calls path file)
read_file_lawful calls path None = gives_lawful _
read_file_lawful calls path (Some file) = search (followed, library_lawful, gives_lawful)

file_data_lawful : (calls : Calls) (path : Bytes) (file : Option File) →
    Lawful 0 (love.file_data calls path file)
file_data_lawful calls path None = gives_lawful _
file_data_lawful calls path (Some file) = search library_lawful

named_data_lawful : (game : Game) (calls : Calls) (args : List Value) (name : Value) →
    Lawful 0 (love.new_file_data_of game calls args name)
named_data_lawful game calls args nil = search (followed, library_lawful, file_data_lawful)
named_data_lawful game calls args v = search (followed, library_lawful)

-- ---- waits

await_lawful : (calls : Calls) (c : ℕ) (limit : Option ℕ) (r : Reply) →
    Lawful 1 (love.await_reply calls c limit r)
await_lawful calls c limit (Reply.id n) =
    costs (1 + 0) 1 (omega arith) (chain 1 0 (ask_lawful calls _) (λ vs. gives_lawful _))
await_lawful calls c limit r = costs 0 1 (omega arith) (reply_lawful calls r)

supply_asked : (calls : Calls) (c : ℕ) (m : Message) (limit : Option ℕ) →
    Lawful 2 (asking (Ask.supply c m) >>= λ r. love.await_reply calls c limit r)
supply_asked calls c m limit = chain 1 1 (asks (Ask.supply c m)) (λ r. await_lawful calls c limit r)

supply_lawful : (calls : Calls) (args : List Value) → Lawful 2 (love.supply calls args)
supply_lawful calls args = search (followed, library_lawful, message_lawful, supply_asked)

module _ (again : Later) (h : Paid again) where
  pcall_lawful : (calls : Calls) (args : List Value) → Lawful 0 (control.pcall again calls args)
  pcall_lawful calls args =
      followed 0 (catches 0 (call_back_lawful again h calls _ _)) (λ o. gives_lawful _)

  text_by_lawful : (calls : Calls) (v f : Value) → Lawful 0 (control.text_by again calls v f)
  text_by_lawful calls v nil = looks _
  text_by_lawful calls v f = search (ones, call_back_lawful again h)

  text_lawful : (calls : Calls) (v : Value) → Lawful 0 (control.text_value again calls v)
  text_lawful calls v = search (followed, looks, text_by_lawful)

  texts_lawful : (calls : Calls) (vs : List Value) → Lawful 0 (control.texts_of again calls vs)
  texts_lawful calls [] = gives_lawful _
  texts_lawful calls (v ∷ vs) =
      followed 0 (text_lawful calls v) (λ shown. followed 0 (printed_lawful calls _)
      (λ text. followed 0 (texts_lawful calls vs) (λ texts. gives_lawful _)))

  print_lawful : (calls : Calls) (args : List Value) → Lawful 0 (control.print again calls args)
  print_lawful calls args =
      followed 0 (texts_lawful calls args) (λ texts. behind 0 (adds_line _) (gives_lawful _))

  code_lawful : (calls : Calls) (name path : Bytes) (c : Code) →
      Lawful 0 (control.load_code again calls name path c)
  code_lawful calls name path not_lua = refuse_lawful calls _
  code_lawful calls name path (faulty text) = raises_lawful _
  code_lawful calls name path (ready b) =
      behind 0 (keep_lawful name _) (followed 0 (ones 0 (enter_lawful again h None calls _ _))
      (λ v. behind 0 (keep_lawful name _) (gives_lawful _)))

  load_file_lawful : (calls : Calls) (name : Bytes) (file : Option File) →
      Lawful 0 (control.load_file again calls name file)
  load_file_lawful calls name None = refuse_lawful calls _
  load_file_lawful calls name (Some file) = code_lawful calls name _ _

  load_new_lawful : (game : Game) (calls : Calls) (name : Bytes) (t : Option ℕ) →
      Lawful 0 (control.load_new game again calls name t)
  load_new_lawful game calls name (Some t) = behind 0 (changes _) (gives_lawful _)
  load_new_lawful game calls name None = load_file_lawful calls name _

  load_known_lawful : (game : Game) (calls : Calls) (name : Bytes) (m : Option Module) →
      Lawful 0 (control.load_known game again calls name m)
  load_known_lawful game calls name (Some (loaded v)) = gives_lawful _
  load_known_lawful game calls name (Some begun) = refuse_lawful calls _
  load_known_lawful game calls name None = load_new_lawful game calls name _

  require_lawful : (game : Game) (calls : Calls) (args : List Value) →
      Lawful 0 (control.require game again calls args)
  require_lawful game calls args =
      search (followed, library_lawful, known_lawful, load_known_lawful)

  come_out_lawful : (o : Outcome (List Value)) → Lawful 0 (love.come_out o)
  come_out_lawful (given vs) = gives_lawful vs
  come_out_lawful (failed v) = raises_lawful v

  section_lawful : (calls : Calls) (c : ℕ) (args : List Value) (r : Reply) →
      Lawful 1 (love.section again calls c args r)
  section_lawful calls c args (Reply.refused cause) =
      costs 0 1 (omega arith) (refuse_lawful calls _)
  section_lawful calls c args r =
      followed 1 (catches 0 (call_back_lawful again h calls _ _)) (λ o. costs (1 + 0) 1
      (omega arith) (chain 1 0 (asks (Ask.leave c)) (λ left. come_out_lawful o)))

  entered_lawful : (calls : Calls) (c : ℕ) (args : List Value) → Lawful 2 (asking (Ask.enter c) >>=
      λ r. love.section again calls c args r)
  entered_lawful calls c args = chain 1 1 (asks (Ask.enter c)) (λ r. section_lawful calls c args r)

  atomic_lawful : (calls : Calls) (args : List Value) →
      Lawful 2 (love.perform_atomic again calls args)
  atomic_lawful calls args = search (followed, library_lawful, entered_lawful)

  cleared_lawful : (r : Reply) → Lawful 0 (love.cleared again r)
  cleared_lawful (Reply.event from action e) = ticked 0 (h _)
  cleared_lawful r = gives_lawful _

  pub clear_lawful : Lawful 1 (love.clear_events again)
  clear_lawful = chain 1 0 (asks Ask.event_poll) (λ r. cleared_lawful r)

-- methods that only ask, and what reads arguments before one ask
ask_channel_lawful : (f : Native) (q : ℕ → Ask) (calls : Calls) (args : List Value) →
    Lawful 1 (love.ask_channel f q calls args)
ask_channel_lawful f q calls args = search (followed, library_lawful, ask_lawful)

ask_thread_lawful : (f : Native) (q : ℕ → Ask) (calls : Calls) (args : List Value) →
    Lawful 1 (love.ask_thread f q calls args)
ask_thread_lawful f q calls args = search (followed, library_lawful, ask_lawful)

push_lawful : (calls : Calls) (args : List Value) → Lawful 1 (love.push calls args)
push_lawful calls args = search (followed, library_lawful, message_lawful, ask_lawful)

demand_lawful : (calls : Calls) (args : List Value) → Lawful 1 (love.demand calls args)
demand_lawful calls args = search (followed, library_lawful, ask_lawful)

has_read_lawful : (calls : Calls) (args : List Value) → Lawful 1 (love.has_read calls args)
has_read_lawful calls args = search (followed, library_lawful, ask_lawful)

start_lawful : (calls : Calls) (args : List Value) → Lawful 1 (love.start calls args)
start_lawful calls args = search (followed, library_lawful, messages_lawful, ask_lawful)

read_lawful : (game : Game) (calls : Calls) (args : List Value) →
    Lawful 0 (love.read game calls args)
read_lawful game calls args = search (followed, library_lawful, read_file_lawful)

-- an ask whose reply isn't looked at
told : (q : Ask) (vs : List Value) → Lawful 1 (asking q >>= λ r. give vs)
told q vs = chain 1 0 (asks q) (λ r. gives_lawful vs)

push_event_lawful : (calls : Calls) (args : List Value) → Lawful 1 (love.push_event calls args)
push_event_lawful calls args = search (followed, library_lawful, messages_lawful, told)

quit_lawful : (calls : Calls) (args : List Value) → Lawful 1 (love.quit calls args)
quit_lawful calls args = search (followed, library_lawful, told)

by_main_lawful : (game : Game) (calls : Calls) (m : Act (List Value)) → Lawful 1 m →
    Lawful 1 (love.by_main game calls m)
by_main_lawful game calls m l =
    either 1 (nat_eq game.state 0) l (costs 0 1 (omega arith) (refuse_lawful calls _))

module _ (game : Game) (again : Later) (h : Paid again) where
  pub run_library_lawful : (f : Native) (args : List Value) (calls : Calls) →
      Lawful 2 (run_library game again f args calls)
  run_library_lawful Native.error args calls = free (error_lawful calls args)
  run_library_lawful Native.pcall args calls = free (pcall_lawful again h calls args)
  run_library_lawful Native.print args calls = free (print_lawful again h calls args)
  run_library_lawful Native.require args calls = free (require_lawful again h game calls args)
  run_library_lawful Native.tostring args calls =
      free (followed 0 (text_lawful again h calls _) (λ text. gives_lawful _))
  run_library_lawful Native.love_thread_get_channel args calls = once (channel_lawful calls args)
  run_library_lawful Native.love_thread_new_channel args calls = once
      (ask_lawful calls Ask.new_channel)
  run_library_lawful Native.love_thread_new_thread args calls =
      once (new_thread_lawful game calls args)
  run_library_lawful Native.love_filesystem_read args calls = free (read_lawful game calls args)
  run_library_lawful Native.love_filesystem_new_file_data args calls =
      free (named_data_lawful game calls args _)
  run_library_lawful Native.love_event_push args calls = once (push_event_lawful calls args)
  run_library_lawful Native.love_event_quit args calls = once (quit_lawful calls args)
  run_library_lawful Native.love_event_poll args calls = free (gives_lawful _)
  run_library_lawful Native.poll_walk args calls =
      once (by_main_lawful game calls _ (ask_lawful calls Ask.event_poll))
  run_library_lawful Native.love_event_clear args calls =
      once (by_main_lawful game calls _ (results_lawful 1 _ (clear_lawful again h)))
  run_library_lawful Native.channel_push args calls = once (push_lawful calls args)
  run_library_lawful Native.channel_supply args calls = supply_lawful calls args
  run_library_lawful Native.channel_pop args calls =
      once (ask_channel_lawful Native.channel_pop Ask.pop calls args)
  run_library_lawful Native.channel_peek args calls =
      once (ask_channel_lawful Native.channel_peek Ask.peek calls args)
  run_library_lawful Native.channel_demand args calls = once (demand_lawful calls args)
  run_library_lawful Native.channel_get_count args calls =
      once (ask_channel_lawful Native.channel_get_count Ask.count calls args)
  run_library_lawful Native.channel_has_read args calls = once (has_read_lawful calls args)
  run_library_lawful Native.channel_clear args calls =
      once (ask_channel_lawful Native.channel_clear Ask.clear calls args)
  run_library_lawful Native.channel_perform_atomic args calls = atomic_lawful again h calls args
  run_library_lawful Native.thread_start args calls = once (start_lawful calls args)
  run_library_lawful Native.thread_wait args calls =
      once (ask_thread_lawful Native.thread_wait Ask.wait_for calls args)
  run_library_lawful Native.thread_is_running args calls =
      once (ask_thread_lawful Native.thread_is_running Ask.is_running calls args)
  run_library_lawful Native.thread_get_error args calls =
      once (ask_thread_lawful Native.thread_get_error Ask.error_of calls args)
  run_library_lawful f args calls = free (library_lawful f calls (library_function f args))
