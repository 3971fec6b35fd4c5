-- What frames and functions of the library do adds to the past only, and goes down.
use Rattle.std.proofs.Common.{ℕ, zero, suc, ◌+◌, ◌-◌, ◌≡◌, ◌≤◌, ◌<◌, refl, sym, List, [], ◌∷◌, ◌++◌, length, Option, Some, None, Bool, true, false, Result, Ok, Err, arith}
use Rattle.std.specs.Prelude.{if◌then◌else◌, drop, codes, pos, nat_eq}
use Rattle.love_base.specs.Data.{Contents}
use Rattle.lua_tree.specs.Tree.{Bytes}
use Rattle.lua_meaning.specs.Native.{Native}
use Rattle.lua_meaning.specs.Value.{Value, nil, str, num, channel, first}
use Rattle.lua_meaning.specs.Text.{as_text}
use Rattle.lua_meaning.specs.Store.{Store, handler}
use Rattle.lua_meaning.specs.Message.{Message, Source, Event, Ask, Reply}
use Rattle.lua_meaning.specs.Packing.{PackFault, pack, pack_all}
use Rattle.lua_meaning.specs.World.{Module, begun as module_begun, loaded, Outcome, given, failed}
use Rattle.lua_meaning.specs.Arguments.{Lib, Answer, answers, faults, argument, number_or, number_argument, text_argument}
use Rattle.lua_meaning.specs.LoveArguments.{channel_argument, thread_argument, limit_argument, function_argument, status_argument}
use Rattle.lua_meaning.specs.Strings.{string_value}
use Rattle.lua_meaning.specs.Data.{new_data}
use Rattle.lua_meaning.specs.Control.{found_module, love_module, error_value, level_place, line_of}
use Rattle.lua_meaning.specs.Library.{library as library_function}
use Rattle.lua_meaning.specs.Love.{is_code, file_data_in}
use Rattle.lua_meaning.proofs.Lawful.{same_prefix, prefix_on, longer_prefix}
use Rattle.lua_code.specs.Instr.{code_of}
use Rattle.lua_code.specs.State.{Registers, State, Running, Duty, tries, converts, prints, requires, guards, Frame, waits, serves, Active, lua, library, Config, Errand, gives_values, awaits, gives_waited, enters, comes_out, gives_true, clears, Step, on, stop, asks}
use Rattle.lua_code.specs.Frames.{Callee, runs, built_in, called, ticking, begun, entering, entering_called, calling_with, add_line, by_text, printing, printed, serving, finish, raised, has_room, places, keep_module}
use Rattle.lua_code.specs.Natives as natives
use Rattle.lua_code.specs.Natives.{FileCode, ready, faulty, not_lua, File, Program, file_at, module_file, asked}
use Rattle.lua_code.specs.Growing.{Past, past_of, last_or, Grows, EndHas}

-- ---- the past

pub grows_self : (p : Past) → Grows p p
grows_self p = record {
  asks = same_prefix p.asks;
  output = same_prefix p.output;
  ends = same_prefix p.ends;
  whole = λ w. w;
}

pub grows_on : (p q r : Past) → Grows p q → Grows q r → Grows p r
grows_on p q r a b = record {
  asks = prefix_on p.asks q.asks r.asks a.asks b.asks;
  output = prefix_on p.output q.output r.output a.output b.output;
  ends = prefix_on p.ends q.ends r.ends a.ends b.ends;
  whole = λ w. b.whole (a.whole w);
}

last_added : (none : ℕ) (ns : List ℕ) (n : ℕ) → last_or none (ns ++ n ∷ []) ≡ n
last_added none [] n = refl
last_added none (m ∷ ns) n = last_added m ns n

pub line_grows : (line : List ℕ) (st : State) → Grows (past_of st) (past_of (add_line line st))
line_grows line st = record {
  asks = same_prefix st.asks;
  output = longer_prefix st.output line;
  ends = longer_prefix st.ends _;
  whole = λ w. sym (last_added 0 st.ends (length (st.output ++ line)));
}

pub asked_grows : (question : Ask) (st : State) → Grows (past_of st) (past_of (asked question st))
asked_grows question st = record {
  asks = longer_prefix st.asks (question ∷ []);
  output = same_prefix st.output;
  ends = same_prefix st.ends;
  whole = λ w. w;
}

-- ---- how much is still to be done with these ticks

-- the instructions that a function has before it
abbrev pub left_of : Running → ℕ
left_of run = length (code_of run.code) - run.pc

abbrev pub frame_weight : Frame → ℕ
frame_weight (waits run wants at) = left_of run
frame_weight (serves duty base cell_base) = 0

abbrev pub still : List Frame → ℕ
still [] = 0
still (f ∷ frames) = frame_weight f + still frames

abbrev pub active_weight : Active → ℕ
active_weight (lua run) = left_of run
active_weight (library f args base cell_base) = 1

abbrev pub weight : Config → ℕ
weight c = active_weight c.active + still c.frames

-- ---- steps from a past, with so many ticks

module _ (past : Past) (n : ℕ) where
  -- a state later on
  pub record Later (st : State) : Type 0 where
    pub grown : Grows past (past_of st)
    pub ticks : st.ticks ≤ n

  -- a step leads on, with less ticks or to what is below a weight
  abbrev pub Onward : ℕ → Step → Type 0
  Onward w (on c) = Later c.state × (c.state.ticks ≡ n → weight c < w)
  Onward w (stop end) = EndHas (λ st. Grows past (past_of st)) end
  Onward w (asks question p) = Grows past (past_of p.state)

  pub less : (v w : ℕ) (x : Step) → v ≤ w → Onward v x → Onward w x
  less v w (on c) le k = (k.0, λ e. let lt = k.1 e in omega (arith, le, lt))
  less v w (stop e) le k = k
  less v w (asks q p) le k = k

  pub either : (w : ℕ) (b : Bool) (x y : Step) → Onward w x → Onward w y → Onward w (if b then x else y)
  either w true x y a b = a
  either w false x y a b = b

  -- with a tick less there is no weight
  spent : (w : ℕ) (c : Config) → Grows past (past_of c.state) → suc c.state.ticks ≤ n → Onward w (on c)
  spent w c g le = (record { grown = g; ticks = omega (arith, le) }, λ e. let x : ⊥ = omega (arith, e, le) in absurd x)

  pub ticking_on : (w t : ℕ) (st : State) (next : State → Step) → Grows past (past_of st) → ((u : ℕ) → suc u ≡ t → Onward w (next (record st { ticks = u }))) → Onward w (ticking t st next)
  ticking_on w zero st next g k = g
  ticking_on w (suc t) st next g k = k t refl

  begun_on : (w : ℕ) (c : Callee) (args : List Value) (frames : List Frame) (base cell_base : ℕ) (r : Registers) (st : State) → Grows past (past_of st) → suc st.ticks ≤ n → Onward w (on (begun c args frames base cell_base r st))
  begun_on w (runs code cells) args frames base cell_base r st g le = spent w (begun (runs code cells) args frames base cell_base r st) g le
  begun_on w (built_in f) args frames base cell_base r st g le = spent w (begun (built_in f) args frames base cell_base r st) g le

  -- ---- calls

  -- a call, where errors lead on
  module _ (w : ℕ) (raising : Value → State → Step) (frames : List Frame) (base cell_base : ℕ) (r : Registers) (raise : (v : Value) (later : State) → Later later → Onward w (raising v later)) where
    enters_on : (c : Callee) (args : List Value) (st : State) → Later st → Onward w (entering raising c args frames base cell_base r st)
    enters_on c args st l = ticking_on w st.ticks st _ l.grown (λ u e.
        let le : suc u ≤ n = omega (arith, e, l.ticks) in
        either w (has_room frames) _ _
        (begun_on w c args frames base cell_base r (record st { ticks = u }) l.grown le)
        (raise _ (record st { ticks = u }) (record { grown = l.grown; ticks = omega (arith, le) })))

    enters_called : (f : Value) (o : Option (Callee × List Value)) (st : State) → Later st → Onward w (entering_called raising f o frames base cell_base r st)
    enters_called f None st l = raise _ st l
    enters_called f (Some c) st l = enters_on c.0 c.1 st l

    pub calls_on : (f : Value) (args : List Value) (st : State) → Later st → Onward w (calling_with raising f args frames base cell_base r st)
    calls_on f args st l = enters_called f (called st.functions st.store f args) st l

  -- ---- results and errors

  by_text_on : (w : ℕ) (h : Value) (own : Step) (asking : Value → Step) → Onward w own → ((h : Value) → Onward w (asking h)) → Onward w (by_text h own asking)
  by_text_on w nil own asking a b = a
  by_text_on w h own asking a b = b h

  lined : (line : List ℕ) (st : State) → Later st → Later (add_line line st)
  lined line st l = record { grown = grows_on past (past_of st) (past_of (add_line line st)) l.grown (line_grows line st); ticks = l.ticks }

  moduled : (name : Bytes) (m : Module) (st : State) → Later st → Later (keep_module name m st)
  moduled name m st l = record { grown = l.grown; ticks = l.ticks }

  pub stored : (st : State) (s : Store) → Later st → Later (record st { store = s })
  stored st s l = record { grown = l.grown; ticks = l.ticks }

  -- what library functions do with results, where what they give leads on
  module _ (w : ℕ) (frames : List Frame) (base cell_base : ℕ) (r : Registers) (out : Outcome (List Value) → State → Step) (outs : (o : Outcome (List Value)) (st : State) → Later st → Onward w (out o st)) where
    pub printing_on : (left : List Value) (made : List Bytes) (st : State) → Later st → Onward w (printing made left frames base cell_base r st out)
    printing_on [] made st l = outs _ _ (lined (line_of made) st l)
    printing_on (v ∷ left) made st l = by_text_on w (handler st.store v (codes "__tostring")) _ _
        (printing_on left _ st l)
        (λ h. calls_on w _ (serves (prints made left) base cell_base ∷ frames) base cell_base r
        (λ e later after. outs (failed e) later after) h (v ∷ []) st l)

    printed_on : (o : Option Bytes) (made : List Bytes) (left : List Value) (st : State) → Later st → Onward w (printed made left o frames base cell_base r st out)
    printed_on None made left st l = outs _ st l
    printed_on (Some text) made left st l = printing_on left _ st l

    serving_on : (duty : Duty) (o : Outcome (List Value)) (st : State) → Later st → Onward w (serving duty o frames base cell_base r st out)
    serving_on tries o st l = outs _ st l
    serving_on converts (given vs) st l = outs _ st l
    serving_on converts (failed v) st l = outs _ st l
    serving_on (prints made left) (given vs) st l = printed_on (as_text (first vs)) made left st l
    serving_on (prints made left) (failed v) st l = outs _ st l
    serving_on (requires name) (given vs) st l = outs _ _ (moduled name _ st l)
    serving_on (requires name) (failed v) st l = outs _ st l
    serving_on (guards c) o st l = l.grown

  pub finish_on : (frames : List Frame) (o : Outcome (List Value)) (r : Registers) (st : State) → Later st → Onward (suc (still frames)) (finish o frames r st)
  finish_on [] (given vs) r st l = l.grown
  finish_on [] (failed v) r st l = l.grown
  finish_on (waits run wants at ∷ frames) (given vs) r st l = (record { grown = l.grown; ticks = l.ticks }, λ e. omega arith)
  finish_on (waits run wants at ∷ frames) (failed v) r st l =
      less _ _ (finish (failed v) frames r st) (omega arith) (finish_on frames (failed v) r st l)
  finish_on (serves duty base cell_base ∷ frames) (given vs) r st l =
      less (suc (still frames)) _ (finish (given vs) (serves duty base cell_base ∷ frames) r st) (omega arith)
      (serving_on (suc (still frames)) frames base cell_base r
      (λ o st. finish o frames r st) (λ o later after. finish_on frames o r later after) duty (given vs) st l)
  finish_on (serves duty base cell_base ∷ frames) (failed v) r st l =
      less (suc (still frames)) _ (finish (failed v) (serves duty base cell_base ∷ frames) r st) (omega arith)
      (serving_on (suc (still frames)) frames base cell_base r
      (λ o st. finish o frames r st) (λ o later after. finish_on frames o r later after) duty (failed v) st l)

  -- ---- functions of the library

  module _ (program : Program) (base cell_base : ℕ) (frames : List Frame) (r : Registers) where
    abbrev bound : ℕ
    bound = suc (still frames)

    abbrev Goes : Step → Type 0
    Goes x = Onward bound x

    gives_on : (vs : List Value) (st : State) → Later st → Goes (natives.gives program base cell_base frames r vs st)
    gives_on vs st l = finish_on frames (given vs) r st l

    raises_on : (v : Value) (st : State) → Later st → Goes (natives.raises program base cell_base frames r v st)
    raises_on v st l = finish_on frames (failed v) r st l

    refuses_on : (text : Bytes) (st : State) → Later st → Goes (natives.refuses program base cell_base frames r text st)
    refuses_on text st l = raises_on _ st l

    answered_on : {A : Type 0} (f : Native) (a : Answer A) (st : State) (next : A → State → Step) → Later st → ((a : A) (s : Store) → Goes (next a (record st { store = s }))) → Goes (natives.answered program base cell_base frames r f a st next)
    answered_on f (answers a s) st next l k = k a s
    answered_on f (faults e) st next l k = raises_on _ st l

    by_library_on : {A : Type 0} (f : Native) (part : Lib A) (st : State) (next : A → State → Step) → Later st → ((a : A) (s : Store) → Goes (next a (record st { store = s }))) → Goes (natives.by_library program base cell_base frames r f part st next)
    by_library_on f part st next l k = answered_on f (part st.store) st next l k

    below_serves : (duty : Duty) (v : Value) (later : State) → Later later → Goes (raised (serves duty base cell_base ∷ frames) r v later)
    below_serves duty v later l =
        less (suc (still (serves duty base cell_base ∷ frames))) bound (finish (failed v) (serves duty base cell_base ∷ frames) r later) (omega arith)
        (finish_on (serves duty base cell_base ∷ frames) (failed v) r later l)

    calls_back_on : (duty : Duty) (f : Value) (args : List Value) (st : State) → Later st → Goes (natives.calls_back program base cell_base frames r duty f args st)
    calls_back_on duty f args st l = calls_on bound (raised (serves duty base cell_base ∷ frames) r) (serves duty base cell_base ∷ frames) base cell_base r
        (λ v later after. below_serves duty v later after) f args st l

    asks_on : (errand : Errand) (question : Ask) (st : State) → Later st → Goes (natives.asks_for program base cell_base frames r errand question st)
    asks_on errand question st l = l.grown

    tostring_on : (v : Value) (st : State) → Later st → Goes (natives.tostring program base cell_base frames r v st)
    tostring_on v st l = by_text_on bound (handler st.store v (codes "__tostring")) _ _ (gives_on _ st l) (λ h. calls_back_on converts h (v ∷ []) st l)

    -- ---- modules

    load_code_on : (name : Bytes) (code : FileCode) (st : State) → Later st → Goes (natives.load_code program base cell_base frames r name code st)
    load_code_on name not_lua st l = refuses_on _ st l
    load_code_on name (faulty text) st l = raises_on _ st l
    load_code_on name (ready code) st l =
        enters_on bound (raised (serves (requires name) base cell_base ∷ frames) r) (serves (requires name) base cell_base ∷ frames) base cell_base r
        (λ v later after. below_serves (requires name) v later after) (runs code []) (str name ∷ []) (keep_module name module_begun st) (moduled name module_begun st l)

    load_file_on : (name : Bytes) (file : Option File) (st : State) → Later st → Goes (natives.load_file program base cell_base frames r name file st)
    load_file_on name None st l = refuses_on _ st l
    load_file_on name (Some file) st l = load_code_on name file.code st l

    load_new_on : (name : Bytes) (t : Option ℕ) (st : State) → Later st → Goes (natives.load_new program base cell_base frames r name t st)
    load_new_on name (Some t) st l = gives_on _ _ (stored st _ l)
    load_new_on name None st l = load_file_on name (module_file program name) st l

    load_known_on : (name : Bytes) (m : Option Module) (st : State) → Later st → Goes (natives.load_known program base cell_base frames r name m st)
    load_known_on name (Some (loaded v)) st l = gives_on _ st l
    load_known_on name (Some module_begun) st l = refuses_on _ st l
    load_known_on name None st l = load_new_on name (love_module name) st l

    -- ---- messages and files

    abbrev Next : Type 0 → Type 0
    Next A = A → State → Step

    abbrev asking : {A : Type 0} → Errand → (A → Ask) → Next A
    asking errand question a st = natives.asks_for program base cell_base frames r errand (question a) st

    abbrev gives : Next (List Value)
    gives = natives.gives program base cell_base frames r

    abbrev by_library : {A : Type 0} → Native → Lib A → State → Next A → Step
    by_library f part st next = natives.by_library program base cell_base frames r f part st next

    abbrev packed : {A : Type 0} → Result A PackFault → State → Next A → Step
    packed m st next = natives.packed program base cell_base frames r m st next

    packed_on : {A : Type 0} (m : Result A PackFault) (st : State) (next : A → State → Step) → Later st → ((a : A) → Goes (next a st)) → Goes (packed m st next)
    packed_on (Ok m) st next l k = k m
    packed_on (Err e) st next l k = refuses_on _ st l

    file_thread_on : (path : Bytes) (file : Option File) (st : State) → Later st → Goes (natives.new_thread_of_file program base cell_base frames r path file st)
    file_thread_on path None st l = refuses_on _ st l
    file_thread_on path (Some file) st l = asks_on gives_values (Ask.new_thread (Source.file path)) st l

    text_thread_on : (text : Bytes) (st : State) → Later st → Goes (natives.new_thread_of_text program base cell_base frames r text st)
    text_thread_on text st l = either bound (is_code text) _ _ (asks_on gives_values (Ask.new_thread (Source.code text)) st l) (file_thread_on text (file_at text program.files) st l)

    new_thread_on : (args : List Value) (c : Option Contents) (st : State) → Later st → Goes (natives.new_thread program base cell_base frames r args c st)
    new_thread_on args (Some contents) st l = asks_on gives_values (Ask.new_thread (Source.file_data contents)) st l
    new_thread_on args None st l = by_library_on Native.love_thread_new_thread (text_argument 0 args) st
        (λ text st. natives.new_thread_of_text program base cell_base frames r text st) l
        (λ text s. text_thread_on text _ (stored st s l))

    read_file_on : (path : Bytes) (file : Option File) (st : State) → Later st → Goes (natives.read_file program base cell_base frames r path file st)
    read_file_on path None st l = gives_on _ st l
    read_file_on path (Some file) st l = by_library_on Native.love_filesystem_read (string_value file.bytes) st
        (λ vs st. gives (vs ++ num (pos (length file.bytes)) ∷ []) st) l
        (λ vs s. gives_on (vs ++ num (pos (length file.bytes)) ∷ []) _ (stored st s l))

    abbrev data_made : Contents → State → Step
    data_made c st = by_library Native.love_filesystem_new_file_data (new_data c) st gives

    data_on : (c : Contents) (st : State) → Later st → Goes (data_made c st)
    data_on c st l = by_library_on Native.love_filesystem_new_file_data (new_data c) st gives l (λ vs s. gives_on vs _ (stored st s l))

    file_data_on : (path : Bytes) (file : Option File) (st : State) → Later st → Goes (natives.file_data program base cell_base frames r path file st)
    file_data_on path None st l = gives_on _ st l
    file_data_on path (Some file) st l = data_on (record { bytes = file.bytes; name = Some path }) st l

    abbrev named : List Value → List ℕ → State → Step
    named args bytes st = by_library Native.love_filesystem_new_file_data (text_argument 1 args) st (λ name st. data_made (record { bytes = bytes; name = Some name }) st)

    named_on : (args : List Value) (bytes : List ℕ) (st : State) → Later st → Goes (named args bytes st)
    named_on args bytes st l = by_library_on Native.love_filesystem_new_file_data (text_argument 1 args) st (λ name st. data_made (record { bytes = bytes; name = Some name }) st) l (λ name s. data_on _ _ (stored st s l))

    named_data_on : (args : List Value) (name : Value) (st : State) → Later st → Goes (natives.new_file_data program base cell_base frames r args name st)
    named_data_on args nil st l = by_library_on Native.love_filesystem_new_file_data (text_argument 0 args) st
        (λ path st. natives.file_data program base cell_base frames r path (file_at path program.files) st) l
        (λ path s. file_data_on path (file_at path program.files) _ (stored st s l))
    named_data_on args v st l = by_library_on Native.love_filesystem_new_file_data (text_argument 0 args) st (λ bytes st. named args bytes st) l
        (λ bytes s. named_on args bytes _ (stored st s l))

    main_on : (errand : Errand) (st : State) → Later st → Goes (natives.by_main program base cell_base frames r errand st)
    main_on errand st l = either bound (nat_eq program.state 0) _ _ (asks_on errand Ask.event_poll st l) (refuses_on _ st l)

    -- ---- all of them

    -- an argument, then an ask
    read_asks : {A : Type 0} (f : Native) (part : Lib A) (errand : Errand) (question : A → Ask) (st : State) → Later st → Goes (by_library f part st (λ a st. asking errand question a st))
    read_asks f part errand question st l = by_library_on f part st (λ a st. asking errand question a st) l (λ a s. asks_on errand (question a) _ (stored st s l))

    pack_asks : {A : Type 0} (m : Result A PackFault) (errand : Errand) (question : A → Ask) (st : State) → Later st → Goes (packed m st (λ a st. asking errand question a st))
    pack_asks m errand question st l = packed_on m st (λ a st. asking errand question a st) l (λ a. asks_on errand (question a) st l)

    pub serves_on : (f : Native) (args : List Value) (st : State) → Later st → Goes (natives.serves_as program base cell_base frames r f args st)
    serves_on Native.error args st l = by_library_on Native.error (number_or 1 args (pos 1)) st
        (λ level st. natives.raises program base cell_base frames r (error_value (argument 0 args) (level_place level (places frames))) st) l
        (λ level s. raises_on _ _ (stored st s l))
    serves_on Native.pcall args st l = calls_back_on tries _ _ st l
    serves_on Native.print args st l =
        printing_on bound frames base cell_base r (λ o st. finish o frames r st) (λ o later after. finish_on frames o r later after) args [] st l
    serves_on Native.require args st l = by_library_on Native.require (text_argument 0 args) st
        (λ name st. natives.load_known program base cell_base frames r name (found_module name st.modules) st) l
        (λ name s. load_known_on name (found_module name st.modules) _ (stored st s l))
    serves_on Native.tostring args st l = tostring_on _ st l
    serves_on Native.love_thread_get_channel args st l = read_asks Native.love_thread_get_channel (text_argument 0 args) gives_values Ask.name st l
    serves_on Native.love_thread_new_channel args st l = asks_on gives_values Ask.new_channel st l
    serves_on Native.love_thread_new_thread args st l = new_thread_on args (file_data_in st.store (argument 0 args)) st l
    serves_on Native.love_filesystem_read args st l = by_library_on Native.love_filesystem_read (text_argument 0 args) st
        (λ path st. natives.read_file program base cell_base frames r path (file_at path program.files) st) l
        (λ path s. read_file_on path (file_at path program.files) _ (stored st s l))
    serves_on Native.love_filesystem_new_file_data args st l = named_data_on args (argument 1 args) st l
    serves_on Native.love_event_push args st l = by_library_on Native.love_event_push (text_argument 0 args) st
        (λ name st. packed (pack_all st.store (drop 1 args)) st (λ ms st. asking gives_true (Ask.event_push name) ms st)) l
        (λ name s. pack_asks _ gives_true (Ask.event_push name) _ (stored st s l))
    serves_on Native.love_event_quit args st l = read_asks Native.love_event_quit (status_argument 0 args) gives_true (λ k. Ask.event_push (codes "quit") (Message.num k ∷ [])) st l
    serves_on Native.love_event_poll args st l = gives_on _ st l
    serves_on Native.poll_walk args st l = main_on gives_values st l
    serves_on Native.love_event_clear args st l = main_on clears st l
    serves_on Native.channel_push args st l = by_library_on Native.channel_push (channel_argument 0 args) st
        (λ c st. packed (pack st.store (argument 1 args)) st (λ m st. asking gives_values (Ask.push c) m st)) l
        (λ c s. pack_asks _ gives_values (Ask.push c) _ (stored st s l))
    serves_on Native.channel_supply args st l = by_library_on Native.channel_supply (channel_argument 0 args) st
        (λ c st. packed (pack st.store (argument 1 args)) st (λ m st. by_library Native.channel_supply (limit_argument 2 args) st (λ limit st. natives.asks_for program base cell_base frames r (awaits c limit) (Ask.supply c m) st))) l
        (λ c s. packed_on _ _ (λ m st. by_library Native.channel_supply (limit_argument 2 args) st (λ limit st. natives.asks_for program base cell_base frames r (awaits c limit) (Ask.supply c m) st)) (stored st s l)
        (λ m. by_library_on Native.channel_supply (limit_argument 2 args) _ (λ limit st. natives.asks_for program base cell_base frames r (awaits c limit) (Ask.supply c m) st) (stored st s l)
        (λ limit s2. asks_on (awaits c limit) (Ask.supply c m) _ (stored st s2 l))))
    serves_on Native.channel_pop args st l = read_asks Native.channel_pop (channel_argument 0 args) gives_values Ask.pop st l
    serves_on Native.channel_peek args st l = read_asks Native.channel_peek (channel_argument 0 args) gives_values Ask.peek st l
    serves_on Native.channel_demand args st l = by_library_on Native.channel_demand (channel_argument 0 args) st
        (λ c st. by_library Native.channel_demand (limit_argument 1 args) st (λ limit st. asking gives_values (Ask.demand c) limit st)) l
        (λ c s. read_asks Native.channel_demand (limit_argument 1 args) gives_values (Ask.demand c) _ (stored st s l))
    serves_on Native.channel_get_count args st l = read_asks Native.channel_get_count (channel_argument 0 args) gives_values Ask.count st l
    serves_on Native.channel_has_read args st l = by_library_on Native.channel_has_read (channel_argument 0 args) st
        (λ c st. by_library Native.channel_has_read (number_argument 1 args) st (λ k st. asking gives_values (Ask.has_read c) k st)) l
        (λ c s. read_asks Native.channel_has_read (number_argument 1 args) gives_values (Ask.has_read c) _ (stored st s l))
    serves_on Native.channel_clear args st l = read_asks Native.channel_clear (channel_argument 0 args) gives_values Ask.clear st l
    serves_on Native.channel_perform_atomic args st l = by_library_on Native.channel_perform_atomic (channel_argument 0 args) st
        (λ c st. by_library Native.channel_perform_atomic (function_argument 1 args) st (λ checked st. natives.asks_for program base cell_base frames r (enters c (argument 1 args) (drop 2 args)) (Ask.enter c) st)) l
        (λ c s. by_library_on Native.channel_perform_atomic (function_argument 1 args) _ (λ checked st. natives.asks_for program base cell_base frames r (enters c (argument 1 args) (drop 2 args)) (Ask.enter c) st) (stored st s l)
        (λ checked s2. asks_on (enters c (argument 1 args) (drop 2 args)) (Ask.enter c) _ (stored st s2 l)))
    serves_on Native.thread_start args st l = by_library_on Native.thread_start (thread_argument 0 args) st
        (λ t st. packed (pack_all st.store (drop 1 args)) st (λ ms st. asking gives_values (Ask.start t) ms st)) l
        (λ t s. pack_asks _ gives_values (Ask.start t) _ (stored st s l))
    serves_on Native.thread_wait args st l = read_asks Native.thread_wait (thread_argument 0 args) gives_values Ask.wait_for st l
    serves_on Native.thread_is_running args st l = read_asks Native.thread_is_running (thread_argument 0 args) gives_values Ask.is_running st l
    serves_on Native.thread_get_error args st l = read_asks Native.thread_get_error (thread_argument 0 args) gives_values Ask.error_of st l
    serves_on f args st l = by_library_on f (library_function f args) st gives l (λ vs s. gives_on vs _ (stored st s l))

    -- ---- replies

    event_on : (event : Event) (st : State) (next : List Value → State → Step) → Later st → ((vs : List Value) (later : State) → Later later → Goes (next vs later)) → Goes (natives.event_values program base cell_base frames r event st next)
    event_on (Event.user name args) st next l k = k _ _ (stored st _ l)
    event_on (Event.thread_error t text) st next l k = k _ st l

    reply_on : (reply : Reply) (st : State) (next : List Value → State → Step) → Later st → ((vs : List Value) (later : State) → Later later → Goes (next vs later)) → Goes (natives.reply_values program base cell_base frames r reply st next)
    reply_on Reply.done st next l k = k _ st l
    reply_on Reply.nothing st next l k = k _ st l
    reply_on (Reply.flag b) st next l k = k _ st l
    reply_on (Reply.id i) st next l k = k _ st l
    reply_on (Reply.number i) st next l k = k _ st l
    reply_on (Reply.value m) st next l k = k _ _ (stored st _ l)
    reply_on (Reply.channel c) st next l k = k _ st l
    reply_on (Reply.thread t) st next l k = k _ st l
    reply_on (Reply.words text) st next l k = k _ st l
    reply_on (Reply.event from action event) st next l k = event_on event st next l k
    reply_on (Reply.refused cause) st next l k = refuses_on _ st l

    pub attends : (errand : Errand) (reply : Reply) (st : State) → Later st → Goes (natives.attend program base cell_base frames r errand reply st)
    attends gives_values reply st l = reply_on reply st _ l (λ vs later after. gives_on vs later after)
    attends (awaits c limit) (Reply.id i) st l = asks_on (gives_waited limit) (Ask.await c i limit) st l
    attends (awaits c limit) reply st l = reply_on reply st _ l (λ vs later after. gives_on vs later after)
    attends (gives_waited limit) reply st l = reply_on reply st _ l (λ vs later after. gives_on _ later after)
    attends (enters c f args) (Reply.refused cause) st l = refuses_on _ st l
    attends (enters c f args) reply st l = calls_back_on (guards c) f (channel c ∷ args) st l
    attends (comes_out o) reply st l = finish_on frames o r st l
    attends gives_true reply st l = gives_on _ st l
    attends clears (Reply.event from action event) st l = ticking_on bound st.ticks st _ l.grown (λ u e. l.grown)
    attends clears reply st l = gives_on _ st l
