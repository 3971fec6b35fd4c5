-- Functions of LÖVE, as what the library of the machine does.
use Rattle.std.proofs.Common.{◌≡◌, ℕ, ℤ, pos, negsuc, Bool, true, false, List, [], ◌∷◌, Option, None, Some, Result, Ok, Err, inl, inr, refl, ap, sym, ◌∙◌}
use Rattle.std.specs.Prelude.{◌⊎◌, codes, nat_le, nat_eq, if◌then◌else◌, bytes_eq, map, drop, length, ◌++◌}
use Rattle.std.specs.Option.{option_map}
use Rattle.love_base.specs.Data.{Contents}
use Rattle.lua_tree.specs.Tree.{Bytes}
use Rattle.lua_meaning.specs.Native.{Native}
use Rattle.lua_meaning.specs.Native as natives
use Rattle.lua_meaning.specs.Value.{Value, nil, flag, num, str, table, func, native, channel, thread, datum}
use Rattle.lua_meaning.specs.Store.{Store}
use Rattle.lua_meaning.specs.Message.{Source, Ask}
use Rattle.lua_meaning.specs.Packing.{PackFault, pack, pack_all}
use Rattle.lua_meaning.specs.Fault.{Fault, wants, improper, says}
use Rattle.lua_meaning.specs.Handlers.{is_function}
use Rattle.lua_meaning.specs.Arguments.{Lib, Answer, answers, faults, answer, answer_one, fault, ◌>>=◌, ◌>>>◌, argument, wanted, number_of, number_or, number_argument, text_argument}
use Rattle.lua_meaning.specs.LoveArguments.{channel_argument, thread_argument, limit_of, limit_argument, seconds, function_argument, status, status_argument}
use Rattle.lua_meaning.specs.Love.{is_code, file_data_in}
use Rattle.lua_meaning.specs.Text.{as_number, longest_string}
use Rattle.lua_meaning.specs.Data.{new_data}
use Rattle.lua_code.specs.State.{Registers, State, Frame, Errand, gives_values, awaits, enters, gives_true, clears, Step}
use Rattle.lua_code.specs.Natives as machine
use Rattle.lua_code.specs.Natives.{Program, File, file_at}
use Rattle.love_functions.specs.Asking as asking
use Rattle.love_functions.specs.Asking.{Called, Files, content_at}
use Rattle.love_functions.specs.Serves as Serves
use Rattle.love_functions.specs.Serves.{after, path_of, paths_of}

-- ---- parts that only read

-- an answer leaves the store as it is
abbrev Reads : {A : Type 0} → Lib A → Type 0
Reads {A = A} part = (s : Store) → ((a : A) × (part s ≡ answers a s)) ⊎ ((e : Fault) × (part s ≡ faults e))

wanted-reads : {A : Type 0} (n : ℕ) (expected : Bytes) (v : Value) (o : Option A) → Reads (wanted n expected v o)
wanted-reads n expected v None = λ s. inr (_, refl)
wanted-reads n expected v (Some a) = λ s. inl (a, refl)

reads-then : {A B : Type 0} (part : Lib A) (next : A → Lib B) → Reads part → ((a : A) → Reads (next a)) → Reads (part >>= next)
reads-then {A = A} {B = B} part next first then_ = λ s. by s (first s)
  where
    by : (s : Store) → ((a : A) × (part s ≡ answers a s)) ⊎ ((e : Fault) × (part s ≡ faults e)) → ((b : B) × ((part >>= next) s ≡ answers b s)) ⊎ ((e : Fault) × ((part >>= next) s ≡ faults e))
    by s (inl p) = later s p.0 p.1 (then_ p.0 s)
      where
        later : (s : Store) (a : A) → part s ≡ answers a s → ((b : B) × (next a s ≡ answers b s)) ⊎ ((e : Fault) × (next a s ≡ faults e)) → ((b : B) × ((part >>= next) s ≡ answers b s)) ⊎ ((e : Fault) × ((part >>= next) s ≡ faults e))
        later s a is (inl q) = inl (q.0, ap (λ (x : Answer A). x >>> next) is ∙ q.1)
        later s a is (inr q) = inr (q.0, ap (λ (x : Answer A). x >>> next) is ∙ q.1)
    by s (inr p) = inr (p.0, ap (λ (x : Answer A). x >>> next) p.1)

number-reads : (n : ℕ) (v : Value) (default : ℤ) → Reads (number_of n v default)
number-reads n nil default = λ s. inl (default, refl)
number-reads n (flag b) default = wanted-reads n (codes "number") (flag b) (as_number (flag b))
number-reads n (num z) default = wanted-reads n (codes "number") (num z) (as_number (num z))
number-reads n (str b) default = wanted-reads n (codes "number") (str b) (as_number (str b))
number-reads n (table t) default = wanted-reads n (codes "number") (table t) (as_number (table t))
number-reads n (func f) default = wanted-reads n (codes "number") (func f) (as_number (func f))
number-reads n (native f) default = wanted-reads n (codes "number") (native f) (as_number (native f))
number-reads n (channel c) default = wanted-reads n (codes "number") (channel c) (as_number (channel c))
number-reads n (thread t) default = wanted-reads n (codes "number") (thread t) (as_number (thread t))
number-reads n (datum d) default = wanted-reads n (codes "number") (datum d) (as_number (datum d))

seconds-if : (b : Bool) (n s : ℕ) → Reads (if b then answer (Some s) else fault (improper n (codes "0 to 1000000 expected")))
seconds-if true n s = λ t. inl (Some s, refl)
seconds-if false n s = λ t. inr (improper n (codes "0 to 1000000 expected"), refl)

seconds-reads : (n : ℕ) (z : ℤ) → Reads (seconds n z)
seconds-reads n (pos s) = seconds-if (nat_le s 1000000) n s
seconds-reads n (negsuc s) = λ t. inr (improper n (codes "0 to 1000000 expected"), refl)

status-if : (b : Bool) (n s : ℕ) → Reads (if b then answer (pos s) else fault (improper n (codes "0 to 63 expected")))
status-if true n s = λ t. inl (pos s, refl)
status-if false n s = λ t. inr (improper n (codes "0 to 63 expected"), refl)

status-reads : (n : ℕ) (z : ℤ) → Reads (status n z)
status-reads n (pos s) = status-if (nat_le s 63) n s
status-reads n (negsuc s) = λ t. inr (improper n (codes "0 to 63 expected"), refl)

limit-reads : (n : ℕ) (v : Value) (args : List Value) → Reads (limit_of n v args)
limit-reads n nil args = λ s. inl (None, refl)
limit-reads n (flag b) args = reads-then (number_argument n args) (seconds n) (wanted-reads n _ _ _) (seconds-reads n)
limit-reads n (num z) args = reads-then (number_argument n args) (seconds n) (wanted-reads n _ _ _) (seconds-reads n)
limit-reads n (str b) args = reads-then (number_argument n args) (seconds n) (wanted-reads n _ _ _) (seconds-reads n)
limit-reads n (table t) args = reads-then (number_argument n args) (seconds n) (wanted-reads n _ _ _) (seconds-reads n)
limit-reads n (func f) args = reads-then (number_argument n args) (seconds n) (wanted-reads n _ _ _) (seconds-reads n)
limit-reads n (native f) args = reads-then (number_argument n args) (seconds n) (wanted-reads n _ _ _) (seconds-reads n)
limit-reads n (channel c) args = reads-then (number_argument n args) (seconds n) (wanted-reads n _ _ _) (seconds-reads n)
limit-reads n (thread t) args = reads-then (number_argument n args) (seconds n) (wanted-reads n _ _ _) (seconds-reads n)
limit-reads n (datum d) args = reads-then (number_argument n args) (seconds n) (wanted-reads n _ _ _) (seconds-reads n)

function-if : (b : Bool) (n : ℕ) (v : Value) → Reads (if b then answer (tt {0}) else fault (wants n (codes "function") v))
function-if true n v = λ t. inl (tt {0}, refl)
function-if false n v = λ t. inr (wants n (codes "function") v, refl)

function-reads : (n : ℕ) (args : List Value) → Reads (function_argument n args)
function-reads n args = function-if (is_function (argument n args)) n (argument n args)

-- ---- what follows a part that only reads

module _ (program : Program) (base cell_base : ℕ) (frames : List Frame) (r : Registers) where
  abbrev by_part : {A : Type 0} → Native → Lib A → State → (A → State → Step) → Step
  by_part f part st next = machine.by_library program base cell_base frames r f part st next

  abbrev done : Native → State → Answer Called → Step
  done f st x = after base cell_base frames r f st x

  read-then : {A : Type 0} (f : Native) (part : Lib A) (next : A → Lib Called) (st : State) (later : A → State → Step) → Reads part → ((a : A) → later a st ≡ done f st (next a st.store))
      → by_part f part st later ≡ done f st ((part >>= next) st.store)
  read-then {A = A} f part next st later reads each = by (reads st.store)
    where
      by : ((a : A) × (part st.store ≡ answers a st.store)) ⊎ ((e : Fault) × (part st.store ≡ faults e)) → by_part f part st later ≡ done f st ((part >>= next) st.store)
      by (inl p) =
          ap (λ (x : Answer A). machine.answered program base cell_base frames r f x st later) p.1
          ∙ (each p.0 ∙ sym (ap (λ (x : Answer A). done f st (x >>> next)) p.1))
      by (inr p) =
          ap (λ (x : Answer A). machine.answered program base cell_base frames r f x st later) p.1
          ∙ sym (ap (λ (x : Answer A). done f st (x >>> next)) p.1)

  -- a value that is packed
  packed-then : {M : Type 0} (f : Native) (x : Result M PackFault) (next : M → Lib Called) (st : State) (later : M → State → Step) → ((m : M) → later m st ≡ done f st (next m st.store))
      → machine.packed program base cell_base frames r x st later ≡ done f st (asking.packed next x st.store)
  packed-then f (Ok m) next st later each = each m
  packed-then f (Err e) next st later each = refl

  channel-then : (f : Native) (args : List Value) (next : ℕ → Lib Called) (st : State) (later : ℕ → State → Step) → ((c : ℕ) → later c st ≡ done f st (next c st.store))
      → by_part f (channel_argument 0 args) st later ≡ done f st ((channel_argument 0 args >>= next) st.store)
  channel-then f args next st later each = read-then f (channel_argument 0 args) next st later (wanted-reads 0 _ _ _) each

  thread-then : (f : Native) (args : List Value) (next : ℕ → Lib Called) (st : State) (later : ℕ → State → Step) → ((c : ℕ) → later c st ≡ done f st (next c st.store))
      → by_part f (thread_argument 0 args) st later ≡ done f st ((thread_argument 0 args >>= next) st.store)
  thread-then f args next st later each = read-then f (thread_argument 0 args) next st later (wanted-reads 0 _ _ _) each

  text-then : (f : Native) (n : ℕ) (args : List Value) (next : Bytes → Lib Called) (st : State) (later : Bytes → State → Step) → ((t : Bytes) → later t st ≡ done f st (next t st.store))
      → by_part f (text_argument n args) st later ≡ done f st ((text_argument n args >>= next) st.store)
  text-then f n args next st later each = read-then f (text_argument n args) next st later (wanted-reads n _ _ _) each

  -- ---- files

  content-if : (b : Bool) (file : File) (found : Option (List ℕ)) (o : Option File) → found ≡ option_map (λ (x : File). x.bytes) o → (if b then Some file.bytes else found) ≡ option_map (λ (x : File). x.bytes) (if b then Some file else o)
  content-if true file found o same = refl
  content-if false file found o same = same

  content-found : (path : Bytes) (files : List File) → content_at path (map path_of files) ≡ option_map (λ (file : File). file.bytes) (file_at path files)
  content-found path [] = refl
  content-found path (file ∷ files) = content-if (bytes_eq file.path path) file (content_at path (map path_of files)) (file_at path files) (content-found path files)

  thread-file : (st : State) (path : Bytes) (o : Option File) → machine.new_thread_of_file program base cell_base frames r path o st ≡ done natives.love_thread_new_thread st (asking.new_thread_of_file path (option_map (λ (x : File). x.bytes) o) st.store)
  thread-file st path None = refl
  thread-file st path (Some file) = refl

  thread-text : (st : State) (text : Bytes) → machine.new_thread_of_text program base cell_base frames r text st ≡ done natives.love_thread_new_thread st (asking.new_thread_of_text (paths_of program) text st.store)
  thread-text st text = one (is_code text)
    where
      one : (b : Bool) → (if b then machine.asks_for program base cell_base frames r gives_values (Ask.new_thread (Source.code text)) st else machine.new_thread_of_file program base cell_base frames r text (file_at text program.files) st)
          ≡ done natives.love_thread_new_thread st ((if b then asking.asking (Ask.new_thread (Source.code text)) gives_values else asking.new_thread_of_file text (content_at text (paths_of program))) st.store)
      one true = refl
      one false = thread-file st text (file_at text program.files)
          ∙ ap (λ (o : Option (List ℕ)). done natives.love_thread_new_thread st (asking.new_thread_of_file text o st.store)) (sym (content-found text program.files))

  thread-of : (args : List Value) (st : State) (o : Option Contents) → machine.new_thread program base cell_base frames r args o st ≡ done natives.love_thread_new_thread st (asking.new_thread_of (paths_of program) args o st.store)
  thread-of args st (Some contents) = refl
  thread-of args st None = text-then natives.love_thread_new_thread 0 args (asking.new_thread_of_text (paths_of program)) st (λ text st. machine.new_thread_of_text program base cell_base frames r text st) (λ text. thread-text st text)

  read-of : (st : State) (path : Bytes) (o : Option File) → machine.read_file program base cell_base frames r path o st ≡ done natives.love_filesystem_read st (asking.read_file path (option_map (λ (x : File). x.bytes) o) st.store)
  read-of st path None = refl
  read-of st path (Some file) = string-if (nat_le (length file.bytes) longest_string)
    where
      string-if : (b : Bool) → by_part natives.love_filesystem_read (if b then answer_one (str file.bytes) else fault (says (codes "string too long"))) st (λ vs st. machine.gives program base cell_base frames r (vs ++ num (pos (length file.bytes)) ∷ []) st)
          ≡ done natives.love_filesystem_read st (((if b then answer_one (str file.bytes) else fault (says (codes "string too long"))) >>= λ vs. asking.giving (vs ++ num (pos (length file.bytes)) ∷ [])) st.store)
      string-if true = refl
      string-if false = refl

  data-of : (st : State) (path : Bytes) (o : Option File) → machine.file_data program base cell_base frames r path o st ≡ done natives.love_filesystem_new_file_data st (asking.file_data path (option_map (λ (x : File). x.bytes) o) st.store)
  data-of st path None = refl
  data-of st path (Some file) = refl

  path-data : (args : List Value) (st : State) → by_part natives.love_filesystem_new_file_data (text_argument 0 args) st (λ path st. machine.file_data program base cell_base frames r path (file_at path program.files) st)
      ≡ done natives.love_filesystem_new_file_data st (asking.path_data (paths_of program) args st.store)
  path-data args st = text-then natives.love_filesystem_new_file_data 0 args (λ path. asking.file_data path (content_at path (paths_of program))) st (λ path st. machine.file_data program base cell_base frames r path (file_at path program.files) st)
      (λ path. data-of st path (file_at path program.files)
      ∙ ap (λ (o : Option (List ℕ)). done natives.love_filesystem_new_file_data st (asking.file_data path o st.store)) (sym (content-found path program.files)))

  named-data : (args : List Value) (st : State) → by_part natives.love_filesystem_new_file_data (text_argument 0 args) st (λ bytes st.
      by_part natives.love_filesystem_new_file_data (text_argument 1 args) st (λ name st.
      by_part natives.love_filesystem_new_file_data (new_data (record { bytes = bytes; name = Some name })) st (λ vs st. machine.gives program base cell_base frames r vs st)))
      ≡ done natives.love_filesystem_new_file_data st (asking.bytes_data args st.store)
  named-data args st = text-then natives.love_filesystem_new_file_data 0 args (asking.named_data args) st _
      (λ bytes. text-then natives.love_filesystem_new_file_data 1 args (λ name. asking.made_data bytes name) st _ (λ name. refl))

  file-data : (args : List Value) (v : Value) (st : State) → machine.new_file_data program base cell_base frames r args v st ≡ done natives.love_filesystem_new_file_data st (asking.new_file_data_of (paths_of program) args v st.store)
  file-data args nil st = path-data args st
  file-data args (flag b) st = named-data args st
  file-data args (num z) st = named-data args st
  file-data args (str b) st = named-data args st
  file-data args (table t) st = named-data args st
  file-data args (func f) st = named-data args st
  file-data args (native f) st = named-data args st
  file-data args (channel c) st = named-data args st
  file-data args (thread t) st = named-data args st
  file-data args (datum d) st = named-data args st

  main-if : (b : Bool) (f : Native) (errand : Errand) (st : State) → (if b then machine.asks_for program base cell_base frames r errand Ask.event_poll st else machine.refuses program base cell_base frames r (codes "events are polled by the main state") st)
      ≡ done f st ((if b then asking.asking Ask.event_poll errand else answer (asking.refuses (codes "events are polled by the main state"))) st.store)
  main-if true f errand st = refl
  main-if false f errand st = refl

  -- ---- all of them

  pub serves-as : (f : Native) (args : List Value) (st : State) → asking.is_here f ≡ true → machine.serves_as program base cell_base frames r f args st ≡ done f st (asking.part_of (paths_of program) program.state f args st.store)
  serves-as natives.love_thread_get_channel args st here = text-then natives.love_thread_get_channel 0 args _ st _ (λ name. refl)
  serves-as natives.love_thread_new_channel args st here = refl
  serves-as natives.love_thread_new_thread args st here = thread-of args st (file_data_in st.store (argument 0 args))
  serves-as natives.love_filesystem_read args st here = text-then natives.love_filesystem_read 0 args (λ path. asking.read_file path (content_at path (paths_of program))) st _
      (λ path. read-of st path (file_at path program.files)
      ∙ ap (λ (o : Option (List ℕ)). done natives.love_filesystem_read st (asking.read_file path o st.store)) (sym (content-found path program.files)))
  serves-as natives.love_filesystem_new_file_data args st here = file-data args (argument 1 args) st
  serves-as natives.love_event_push args st here = text-then natives.love_event_push 0 args (asking.push_event_of args) st _
      (λ name. packed-then natives.love_event_push (pack_all st.store (drop 1 args)) (λ ms. asking.asking (Ask.event_push name ms) gives_true) st _ (λ ms. refl))
  serves-as natives.love_event_quit args st here = read-then natives.love_event_quit (status_argument 0 args) _ st _ (reads-then (number_or 0 args (pos 0)) (status 0) (number-reads 0 (argument 0 args) (pos 0)) (status-reads 0)) (λ n. refl)
  serves-as natives.love_event_poll args st here = refl
  serves-as natives.poll_walk args st here = main-if (nat_eq program.state 0) natives.poll_walk gives_values st
  serves-as natives.love_event_clear args st here = main-if (nat_eq program.state 0) natives.love_event_clear clears st
  serves-as natives.channel_push args st here = channel-then natives.channel_push args (λ c. asking.push_into c args) st _
      (λ c. packed-then natives.channel_push (pack st.store (argument 1 args)) (λ m. asking.asking (Ask.push c m) gives_values) st _ (λ m. refl))
  serves-as natives.channel_supply args st here = channel-then natives.channel_supply args (λ c. asking.supply_into c args) st _
      (λ c. packed-then natives.channel_supply (pack st.store (argument 1 args)) (asking.supply_message c args) st _
      (λ m. read-then natives.channel_supply (limit_argument 2 args) (λ limit. asking.asking (Ask.supply c m) (awaits c limit)) st _ (limit-reads 2 (argument 2 args) args) (λ limit. refl)))
  serves-as natives.channel_pop args st here = channel-then natives.channel_pop args _ st _ (λ c. refl)
  serves-as natives.channel_peek args st here = channel-then natives.channel_peek args _ st _ (λ c. refl)
  serves-as natives.channel_demand args st here = channel-then natives.channel_demand args (asking.demand_from args) st _
      (λ c. read-then natives.channel_demand (limit_argument 1 args) (λ limit. asking.asking (Ask.demand c limit) gives_values) st _ (limit-reads 1 (argument 1 args) args) (λ limit. refl))
  serves-as natives.channel_get_count args st here = channel-then natives.channel_get_count args _ st _ (λ c. refl)
  serves-as natives.channel_has_read args st here = channel-then natives.channel_has_read args (asking.has_read_in args) st _
      (λ c. read-then natives.channel_has_read (number_argument 1 args) (λ n. asking.asking (Ask.has_read c n) gives_values) st _ (wanted-reads 1 _ _ _) (λ n. refl))
  serves-as natives.channel_clear args st here = channel-then natives.channel_clear args _ st _ (λ c. refl)
  serves-as natives.channel_perform_atomic args st here = channel-then natives.channel_perform_atomic args (asking.perform_in args) st _
      (λ c. read-then natives.channel_perform_atomic (function_argument 1 args) (λ checked. asking.asking (Ask.enter c) (enters c (argument 1 args) (drop 2 args))) st _ (function-reads 1 args) (λ checked. refl))
  serves-as natives.thread_start args st here = thread-then natives.thread_start args (λ t. asking.start_thread t args) st _
      (λ t. packed-then natives.thread_start (pack_all st.store (drop 1 args)) (λ ms. asking.asking (Ask.start t ms) gives_values) st _ (λ ms. refl))
  serves-as natives.thread_wait args st here = thread-then natives.thread_wait args _ st _ (λ t. refl)
  serves-as natives.thread_is_running args st here = thread-then natives.thread_is_running args _ st _ (λ t. refl)
  serves-as natives.thread_get_error args st here = thread-then natives.thread_get_error args _ st _ (λ t. refl)
  serves-as f args st here = cc

pub all-serve : Serves.AllServe
all-serve program base cell_base frames r f args st here = serves-as program base cell_base frames r f args st here
