-- Sound code is never stuck, stays inside, and goes down with each step.
use Rattle.std.proofs.Common.{ℕ, zero, suc, ◌+◌, ◌≡◌, ◌≤◌, ◌<◌, refl, subst, List, [], ◌∷◌, ◌++◌, length, Option, Some, None, Bool, true, false, Result, Ok, Err, arith}
use Rattle.std.specs.Prelude.{◌*◌, ◌^◌, if◌then◌else◌, drop, slice_get, codes, pos, nat_eq, bytes_eq}
use Rattle.std.specs.List.{AllByRecursion}
use Rattle.std.proofs.lemmas.Option.{none-some, same_Some}
use Rattle.love_base.specs.Data.{Contents}
use Rattle.lua_tree.specs.Tree.{Bytes}
use Rattle.lua_meaning.specs.Native.{Native}
use Rattle.lua_meaning.specs.Value.{Value, nil, str, func, native, num, channel, first}
use Rattle.lua_meaning.specs.Text.{as_text}
use Rattle.lua_meaning.specs.Store.{Store, handler}
use Rattle.lua_meaning.specs.Message.{Message, Source, Event, Ask, Reply}
use Rattle.lua_meaning.specs.Packing.{PackFault, pack, pack_all}
use Rattle.lua_meaning.specs.World.{Module, begun as module_begun, loaded, Outcome, given, failed}
use Rattle.lua_meaning.specs.Arguments.{Lib, Answer, answers, faults, argument, number_or, number_argument, text_argument}
use Rattle.lua_meaning.specs.LoveArguments.{channel_argument, thread_argument, limit_argument, function_argument, status_argument}
use Rattle.lua_meaning.specs.Strings.{string_value}
use Rattle.lua_meaning.specs.Data.{new_data}
use Rattle.lua_meaning.specs.Control.{found_module, love_module, error_value, level_place}
use Rattle.lua_meaning.specs.Library.{library as library_function}
use Rattle.lua_meaning.specs.Love.{is_code, file_data_in}
use Rattle.lua_code.specs.Instr.{Instr, Instrs, no_instrs, instr_and, Proto, proto_of, list_of, code_of}
use Rattle.lua_code.specs.State.{Registers, State, Made, Duty, tries, converts, prints, requires, guards, Frame, waits, serves, Errand, gives_values, awaits, gives_waited, enters, comes_out, gives_true, clears, Step, on, stop, asks}
use Rattle.lua_code.specs.Frames.{Callee, runs, built_in, callee_made, callee_of, with_args, called, ticking, begun, entering, entering_called, calling_with, by_text, printing, printed, serving, finish, raised, has_room, places, keep_module}
use Rattle.lua_code.specs.Natives as natives
use Rattle.lua_code.specs.Natives.{FileCode, ready, faulty, not_lua, File, Program, file_at, or_file, module_file, serve, resume}
use Rattle.lua_code.specs.Sound.{IsSoundCode, AreSound, GoesOn, AreFrames, AreMade, IsSoundFile, IsSoundProgram, still, KeptBelow, IsKeptStep}

-- ---- steps

pub less : (v w : ℕ) (x : Step) → v ≤ w → KeptBelow v x → KeptBelow w x
less v w (on c) le k = (k.0, omega (arith, le, k.1))
less v w (stop e) le k = k
less v w (asks q p) le k = k

pub is_kept : (w : ℕ) (x : Step) → KeptBelow w x → IsKeptStep x
is_kept w (on c) k = k.0
is_kept w (stop e) k = k
is_kept w (asks q p) k = k

pub either : (w : ℕ) (b : Bool) (x y : Step) → KeptBelow w x → KeptBelow w y → KeptBelow w (if b then x else y)
either w true x y a b = a
either w false x y a b = b

-- what a state may be later on: its functions are sound, and it has no more ticks
pub record Later (n : ℕ) (st : State) : Type 0 where
  pub made : AreMade st.functions
  pub ticks : st.ticks ≤ n

-- ---- code

sound_begins : (p : Proto) → IsSoundCode p → 0 < length (code_of p)
sound_begins (proto_of file params varargs code) s = s.0

pub sound_short : (p : Proto) → IsSoundCode p → length (code_of p) < 2 ^ 32
sound_short (proto_of file params varargs code) s = s.1

at_place : (len pc k : ℕ) (code : Instrs) (x : Instr) → AreSound len pc code → slice_get (list_of code) k ≡ Some x → GoesOn len (pc + k) x
at_place len pc k no_instrs x s e = absurd (none-some x e)
at_place len pc zero (instr_and y code) x s e =
    subst (λ n. GoesOn len n x) (let e : pc ≡ pc + 0 = omega arith in e) (subst (GoesOn len pc) (same_Some y x e) s.0)
at_place len pc (suc k) (instr_and y code) x s e =
    subst (λ n. GoesOn len n x) (let e : suc pc + k ≡ pc + suc k = omega arith in e) (at_place len (suc pc) k code x s.1 e)

pub sound_at : (p : Proto) (pc : ℕ) (x : Instr) → IsSoundCode p → slice_get (code_of p) pc ≡ Some x → GoesOn (length (code_of p)) pc x
sound_at (proto_of file params varargs code) pc x s e =
    subst (λ n. GoesOn (length (list_of code)) n x) (let e : 0 + pc ≡ pc = omega arith in e) (at_place (length (list_of code)) 0 pc code x s.2 e)

-- ---- calls

abbrev IsCallee : Callee → Type 0
IsCallee (runs code cells) = IsSoundCode code
IsCallee (built_in f) = Unit {0}

abbrev IsCalleeOr : Option Callee → Type 0
IsCalleeOr None = Unit {0}
IsCalleeOr (Some c) = IsCallee c

abbrev IsCalled : Option (Callee × List Value) → Type 0
IsCalled None = Unit {0}
IsCalled (Some c) = IsCallee c.0

made_at : (made : List Made) (f : ℕ) → AreMade made → IsCalleeOr (callee_made (slice_get made f))
made_at [] f m = tt
made_at (x ∷ made) zero m = m.0
made_at (x ∷ made) (suc f) m = made_at made f m.1

callee_sound : (made : List Made) (v : Value) → AreMade made → IsCalleeOr (callee_of made v)
callee_sound made (func f) m = made_at made f m
callee_sound made (native f) m = tt
callee_sound made v m = tt

with_sound : (o : Option Callee) (args : List Value) → IsCalleeOr o → IsCalled (with_args o args)
with_sound None args s = tt
with_sound (Some c) args s = s

called_sound : (made : List Made) (s : Store) (v : Value) (args : List Value) → AreMade made → IsCalled (called made s v args)
called_sound made s (func f) args m = with_sound (callee_of made (func f)) args (callee_sound made (func f) m)
called_sound made s (native f) args m = with_sound (callee_of made (native f)) args (callee_sound made (native f) m)
called_sound made s v args m = with_sound (callee_of made (handler s v (codes "__call"))) (v ∷ args) (callee_sound made (handler s v (codes "__call")) m)

pub ticking_keeps : (w t : ℕ) (st : State) (next : State → Step) → ((u : ℕ) → suc u ≡ t → KeptBelow w (next (record st { ticks = u }))) → KeptBelow w (ticking t st next)
ticking_keeps w zero st next k = tt
ticking_keeps w (suc t) st next k = k t refl

begun_keeps : (w : ℕ) (c : Callee) (args : List Value) (frames : List Frame) (base cell_base : ℕ) (r : Registers) (st : State) → IsCallee c → AreFrames frames → AreMade st.functions → (2 ^ 32 + 1) * st.ticks + (2 ^ 32 + still frames) < w → KeptBelow w (on (begun c args frames base cell_base r st))
begun_keeps w (runs code cells) args frames base cell_base r st s fs m le =
    (record { active = record { sound = s; inside = sound_begins code s }; frames = fs; made = m }, omega (arith, le))
begun_keeps w (built_in f) args frames base cell_base r st s fs m le =
    (record { active = tt; frames = fs; made = m }, omega (arith, le))

-- a call, where errors are kept
module _ (w : ℕ) (raising : Value → State → Step) (frames : List Frame) (base cell_base : ℕ) (r : Registers) (fs : AreFrames frames) where
  enters_keeps : (c : Callee) (args : List Value) (st : State) → IsCallee c → AreMade st.functions → ((v : Value) (later : State) → Later st.ticks later → KeptBelow w (raising v later)) → (2 ^ 32 + 1) * st.ticks + still frames ≤ w → KeptBelow w (entering raising c args frames base cell_base r st)
  enters_keeps c args st s m raise le = ticking_keeps w st.ticks st _ (λ u e.
      either w (has_room frames) _ _
      (begun_keeps w c args frames base cell_base r (record st { ticks = u }) s fs m (omega (arith, e, le)))
      (raise _ (record st { ticks = u }) (record { made = m; ticks = omega (arith, e) })))

  enters_called : (f : Value) (o : Option (Callee × List Value)) (st : State) → IsCalled o → AreMade st.functions → ((v : Value) (later : State) → Later st.ticks later → KeptBelow w (raising v later)) → (2 ^ 32 + 1) * st.ticks + still frames ≤ w → KeptBelow w (entering_called raising f o frames base cell_base r st)
  enters_called f None st s m raise le = raise _ st (record { made = m; ticks = omega arith })
  enters_called f (Some c) st s m raise le = enters_keeps c.0 c.1 st s m raise le

  pub calls_keeps : (f : Value) (args : List Value) (st : State) → AreMade st.functions → ((v : Value) (later : State) → Later st.ticks later → KeptBelow w (raising v later)) → (2 ^ 32 + 1) * st.ticks + still frames ≤ w → KeptBelow w (calling_with raising f args frames base cell_base r st)
  calls_keeps f args st m raise le = enters_called f (called st.functions st.store f args) st (called_sound st.functions st.store f args m) m raise le

-- ---- results and errors

by_text_keeps : (w : ℕ) (h : Value) (own : Step) (asking : Value → Step) → KeptBelow w own → ((h : Value) → KeptBelow w (asking h)) → KeptBelow w (by_text h own asking)
by_text_keeps w nil own asking a b = a
by_text_keeps w h own asking a b = b h

-- what library functions do with results, where what they give is kept
module _ (w n : ℕ) (frames : List Frame) (base cell_base : ℕ) (r : Registers) (fs : AreFrames frames) (le : (2 ^ 32 + 1) * n + still frames ≤ w) (out : Outcome (List Value) → State → Step) (outs : (o : Outcome (List Value)) (st : State) → Later n st → KeptBelow w (out o st)) where
  printing_keeps : (left : List Value) (made : List Bytes) (st : State) → Later n st → KeptBelow w (printing made left frames base cell_base r st out)
  printing_keeps [] made st l = outs _ _ (record { made = l.made; ticks = l.ticks })
  printing_keeps (v ∷ left) made st l = by_text_keeps w (handler st.store v (codes "__tostring")) _ _
      (printing_keeps left _ st l)
      (λ h. calls_keeps w _ (serves (prints made left) base cell_base ∷ frames) base cell_base r (tt, fs) h (v ∷ []) st l.made
      (λ e later after. outs (failed e) later (record { made = after.made; ticks = omega (arith, after.ticks, l.ticks) }))
      (omega (arith, le, l.ticks)))

  printed_keeps : (o : Option Bytes) (made : List Bytes) (left : List Value) (st : State) → Later n st → KeptBelow w (printed made left o frames base cell_base r st out)
  printed_keeps None made left st l = outs _ st l
  printed_keeps (Some text) made left st l = printing_keeps left _ st l

  serving_keeps : (duty : Duty) (o : Outcome (List Value)) (st : State) → Later n st → KeptBelow w (serving duty o frames base cell_base r st out)
  serving_keeps tries o st l = outs _ st l
  serving_keeps converts (given vs) st l = outs _ st l
  serving_keeps converts (failed v) st l = outs _ st l
  serving_keeps (prints made left) (given vs) st l = printed_keeps (as_text (first vs)) made left st l
  serving_keeps (prints made left) (failed v) st l = outs _ st l
  serving_keeps (requires name) (given vs) st l = outs _ _ (record { made = l.made; ticks = l.ticks })
  serving_keeps (requires name) (failed v) st l = outs _ st l
  serving_keeps (guards c) o st l = record { frames = fs; made = l.made }

pub finish_keeps : (frames : List Frame) (o : Outcome (List Value)) (r : Registers) (n : ℕ) (st : State) → AreFrames frames → Later n st → KeptBelow (suc ((2 ^ 32 + 1) * n + still frames)) (finish o frames r st)
finish_keeps [] (given vs) r n st fs l = tt
finish_keeps [] (failed v) r n st fs l = tt
finish_keeps (waits run wants at ∷ frames) (given vs) r n st fs l =
    (record { active = fs.0; frames = fs.1; made = l.made }, omega (arith, l.ticks))
finish_keeps (waits run wants at ∷ frames) (failed v) r n st fs l =
    less _ _ (finish (failed v) frames r st) (omega arith) (finish_keeps frames (failed v) r n st fs.1 l)
finish_keeps (serves duty base cell_base ∷ frames) (given vs) r n st fs l =
    less (suc ((2 ^ 32 + 1) * n + still frames)) _ (finish (given vs) (serves duty base cell_base ∷ frames) r st) (omega arith)
    (serving_keeps (suc ((2 ^ 32 + 1) * n + still frames)) n frames base cell_base r fs.1 (omega arith)
    (λ o st. finish o frames r st) (λ o later after. finish_keeps frames o r n later fs.1 after) duty (given vs) st l)
finish_keeps (serves duty base cell_base ∷ frames) (failed v) r n st fs l =
    less (suc ((2 ^ 32 + 1) * n + still frames)) _ (finish (failed v) (serves duty base cell_base ∷ frames) r st) (omega arith)
    (serving_keeps (suc ((2 ^ 32 + 1) * n + still frames)) n frames base cell_base r fs.1 (omega arith)
    (λ o st. finish o frames r st) (λ o later after. finish_keeps frames o r n later fs.1 after) duty (failed v) st l)

-- ---- functions of the library

module _ (program : Program) (sound : IsSoundProgram program) (base cell_base : ℕ) (frames : List Frame) (r : Registers) (fs : AreFrames frames) (n : ℕ) where
  abbrev bound : ℕ
  bound = suc ((2 ^ 32 + 1) * n + still frames)

  abbrev Kept : Step → Type 0
  Kept x = KeptBelow bound x

  gives_keeps : (vs : List Value) (st : State) → Later n st → Kept (natives.gives program base cell_base frames r vs st)
  gives_keeps vs st l = finish_keeps frames (given vs) r n st fs l

  raises_keeps : (v : Value) (st : State) → Later n st → Kept (natives.raises program base cell_base frames r v st)
  raises_keeps v st l = finish_keeps frames (failed v) r n st fs l

  refuses_keeps : (text : Bytes) (st : State) → Later n st → Kept (natives.refuses program base cell_base frames r text st)
  refuses_keeps text st l = raises_keeps _ st l

  answered_keeps : {A : Type 0} (f : Native) (a : Answer A) (st : State) (next : A → State → Step) → Later n st → ((a : A) (s : Store) → Kept (next a (record st { store = s }))) → Kept (natives.answered program base cell_base frames r f a st next)
  answered_keeps f (answers a s) st next l k = k a s
  answered_keeps f (faults e) st next l k = raises_keeps _ st l

  by_library_keeps : {A : Type 0} (f : Native) (part : Lib A) (st : State) (next : A → State → Step) → Later n st → ((a : A) (s : Store) → Kept (next a (record st { store = s }))) → Kept (natives.by_library program base cell_base frames r f part st next)
  by_library_keeps f part st next l k = answered_keeps f (part st.store) st next l k

  stored : (st : State) (s : Store) → Later n st → Later n (record st { store = s })
  stored st s l = record { made = l.made; ticks = l.ticks }

  below_serves : (duty : Duty) (v : Value) (later : State) → Later n later → Kept (raised (serves duty base cell_base ∷ frames) r v later)
  below_serves duty v later l =
      less (suc ((2 ^ 32 + 1) * n + still (serves duty base cell_base ∷ frames))) bound (finish (failed v) (serves duty base cell_base ∷ frames) r later) (omega arith)
      (finish_keeps (serves duty base cell_base ∷ frames) (failed v) r n later (tt, fs) l)

  calls_back_keeps : (duty : Duty) (f : Value) (args : List Value) (st : State) → Later n st → Kept (natives.calls_back program base cell_base frames r duty f args st)
  calls_back_keeps duty f args st l = calls_keeps bound (raised (serves duty base cell_base ∷ frames) r) (serves duty base cell_base ∷ frames) base cell_base r (tt, fs) f args st l.made
      (λ v later after. below_serves duty v later (record { made = after.made; ticks = omega (arith, after.ticks, l.ticks) }))
      (omega (arith, l.ticks))

  asks_keeps : (errand : Errand) (question : Ask) (st : State) → Later n st → Kept (natives.asks_for program base cell_base frames r errand question st)
  asks_keeps errand question st l = record { frames = fs; made = l.made }

  tostring_keeps : (v : Value) (st : State) → Later n st → Kept (natives.tostring program base cell_base frames r v st)
  tostring_keeps v st l = by_text_keeps bound (handler st.store v (codes "__tostring")) _ _ (gives_keeps _ st l) (λ h. calls_back_keeps converts h (v ∷ []) st l)

  -- ---- modules

  abbrev IsSoundOr : Option File → Type 0
  IsSoundOr None = Unit {0}
  IsSoundOr (Some file) = IsSoundFile file.code

  load_code_keeps : (name : Bytes) (code : FileCode) (st : State) → IsSoundFile code → Later n st → Kept (natives.load_code program base cell_base frames r name code st)
  load_code_keeps name not_lua st s l = refuses_keeps _ st l
  load_code_keeps name (faulty text) st s l = raises_keeps _ st l
  load_code_keeps name (ready code) st s l =
      enters_keeps bound (raised (serves (requires name) base cell_base ∷ frames) r) (serves (requires name) base cell_base ∷ frames) base cell_base r (tt, fs) (runs code []) (str name ∷ []) (keep_module name module_begun st) s l.made
      (λ v later after. below_serves (requires name) v later (record { made = after.made; ticks = omega (arith, after.ticks, l.ticks) }))
      (omega (arith, l.ticks))

  load_file_keeps : (name : Bytes) (file : Option File) (st : State) → IsSoundOr file → Later n st → Kept (natives.load_file program base cell_base frames r name file st)
  load_file_keeps name None st s l = refuses_keeps _ st l
  load_file_keeps name (Some file) st s l = load_code_keeps name file.code st s l

  chosen : (b : Bool) (x y : Option File) → IsSoundOr x → IsSoundOr y → IsSoundOr (if b then x else y)
  chosen true x y a b = a
  chosen false x y a b = b

  file_sound : (path : Bytes) (files : List File) → AllByRecursion (λ (f : File). IsSoundFile f.code) files → IsSoundOr (file_at path files)
  file_sound path [] s = tt
  file_sound path (file ∷ files) s = chosen (bytes_eq file.path path) (Some file) (file_at path files) s.0 (file_sound path files s.1)

  or_sound : (a b : Option File) → IsSoundOr a → IsSoundOr b → IsSoundOr (or_file a b)
  or_sound None b s t = t
  or_sound (Some file) b s t = s

  module_sound : (name : Bytes) → IsSoundOr (module_file program name)
  module_sound name = or_sound _ _ (file_sound _ program.files sound) (file_sound _ program.files sound)

  load_new_keeps : (name : Bytes) (t : Option ℕ) (st : State) → Later n st → Kept (natives.load_new program base cell_base frames r name t st)
  load_new_keeps name (Some t) st l = gives_keeps _ _ (stored st _ l)
  load_new_keeps name None st l = load_file_keeps name (module_file program name) st (module_sound name) l

  load_known_keeps : (name : Bytes) (m : Option Module) (st : State) → Later n st → Kept (natives.load_known program base cell_base frames r name m st)
  load_known_keeps name (Some (loaded v)) st l = gives_keeps _ st l
  load_known_keeps name (Some module_begun) st l = refuses_keeps _ st l
  load_known_keeps name None st l = load_new_keeps name (love_module name) st l

  -- ---- messages and files

  abbrev Next : Type 0 → Type 0
  Next A = A → State → Step

  abbrev asking : {A : Type 0} → Errand → (A → Ask) → Next A
  asking errand question a st = natives.asks_for program base cell_base frames r errand (question a) st

  abbrev gives : Next (List Value)
  gives = natives.gives program base cell_base frames r

  abbrev by_library : {A : Type 0} → Native → Lib A → State → Next A → Step
  by_library f part st next = natives.by_library program base cell_base frames r f part st next

  abbrev packed : {A : Type 0} → Result A PackFault → State → Next A → Step
  packed m st next = natives.packed program base cell_base frames r m st next

  packed_keeps : {A : Type 0} (m : Result A PackFault) (st : State) (next : A → State → Step) → Later n st → ((a : A) → Kept (next a st)) → Kept (packed m st next)
  packed_keeps (Ok m) st next l k = k m
  packed_keeps (Err e) st next l k = refuses_keeps _ st l

  file_thread_keeps : (path : Bytes) (file : Option File) (st : State) → Later n st → Kept (natives.new_thread_of_file program base cell_base frames r path file st)
  file_thread_keeps path None st l = refuses_keeps _ st l
  file_thread_keeps path (Some file) st l = asks_keeps gives_values (Ask.new_thread (Source.file path)) st l

  text_thread_keeps : (text : Bytes) (st : State) → Later n st → Kept (natives.new_thread_of_text program base cell_base frames r text st)
  text_thread_keeps text st l = either bound (is_code text) _ _ (asks_keeps gives_values (Ask.new_thread (Source.code text)) st l) (file_thread_keeps text (file_at text program.files) st l)

  new_thread_keeps : (args : List Value) (c : Option Contents) (st : State) → Later n st → Kept (natives.new_thread program base cell_base frames r args c st)
  new_thread_keeps args (Some contents) st l = asks_keeps gives_values (Ask.new_thread (Source.file_data contents)) st l
  new_thread_keeps args None st l = by_library_keeps Native.love_thread_new_thread (text_argument 0 args) st
      (λ text st. natives.new_thread_of_text program base cell_base frames r text st) l
      (λ text s. text_thread_keeps text _ (stored st s l))

  read_file_keeps : (path : Bytes) (file : Option File) (st : State) → Later n st → Kept (natives.read_file program base cell_base frames r path file st)
  read_file_keeps path None st l = gives_keeps _ st l
  read_file_keeps path (Some file) st l = by_library_keeps Native.love_filesystem_read (string_value file.bytes) st
      (λ vs st. gives (vs ++ num (pos (length file.bytes)) ∷ []) st) l
      (λ vs s. gives_keeps (vs ++ num (pos (length file.bytes)) ∷ []) _ (stored st s l))

  abbrev data_made : Contents → State → Step
  data_made c st = by_library Native.love_filesystem_new_file_data (new_data c) st gives

  data_keeps : (c : Contents) (st : State) → Later n st → Kept (data_made c st)
  data_keeps c st l = by_library_keeps Native.love_filesystem_new_file_data (new_data c) st gives l (λ vs s. gives_keeps vs _ (stored st s l))

  file_data_keeps : (path : Bytes) (file : Option File) (st : State) → Later n st → Kept (natives.file_data program base cell_base frames r path file st)
  file_data_keeps path None st l = gives_keeps _ st l
  file_data_keeps path (Some file) st l = data_keeps (record { bytes = file.bytes; name = Some path }) st l

  abbrev named : List Value → List ℕ → State → Step
  named args bytes st = by_library Native.love_filesystem_new_file_data (text_argument 1 args) st (λ name st. data_made (record { bytes = bytes; name = Some name }) st)

  named_keeps : (args : List Value) (bytes : List ℕ) (st : State) → Later n st → Kept (named args bytes st)
  named_keeps args bytes st l = by_library_keeps Native.love_filesystem_new_file_data (text_argument 1 args) st (λ name st. data_made (record { bytes = bytes; name = Some name }) st) l (λ name s. data_keeps _ _ (stored st s l))

  named_data_keeps : (args : List Value) (name : Value) (st : State) → Later n st → Kept (natives.new_file_data program base cell_base frames r args name st)
  named_data_keeps args nil st l = by_library_keeps Native.love_filesystem_new_file_data (text_argument 0 args) st
      (λ path st. natives.file_data program base cell_base frames r path (file_at path program.files) st) l
      (λ path s. file_data_keeps path (file_at path program.files) _ (stored st s l))
  named_data_keeps args v st l = by_library_keeps Native.love_filesystem_new_file_data (text_argument 0 args) st (λ bytes st. named args bytes st) l
      (λ bytes s. named_keeps args bytes _ (stored st s l))

  main_keeps : (errand : Errand) (st : State) → Later n st → Kept (natives.by_main program base cell_base frames r errand st)
  main_keeps errand st l = either bound (nat_eq program.state 0) _ _ (asks_keeps errand Ask.event_poll st l) (refuses_keeps _ st l)

  -- ---- all of them

  -- an argument, then an ask
  read_asks : {A : Type 0} (f : Native) (part : Lib A) (errand : Errand) (question : A → Ask) (st : State) → Later n st → Kept (by_library f part st (λ a st. asking errand question a st))
  read_asks f part errand question st l = by_library_keeps f part st (λ a st. asking errand question a st) l (λ a s. asks_keeps errand (question a) _ (stored st s l))

  pack_asks : {A : Type 0} (m : Result A PackFault) (errand : Errand) (question : A → Ask) (st : State) → Later n st → Kept (packed m st (λ a st. asking errand question a st))
  pack_asks m errand question st l = packed_keeps m st (λ a st. asking errand question a st) l (λ a. asks_keeps errand (question a) st l)

  pub serves_keeps : (f : Native) (args : List Value) (st : State) → Later n st → Kept (natives.serves_as program base cell_base frames r f args st)
  serves_keeps Native.error args st l = by_library_keeps Native.error (number_or 1 args (pos 1)) st
      (λ level st. natives.raises program base cell_base frames r (error_value (argument 0 args) (level_place level (places frames))) st) l
      (λ level s. raises_keeps _ _ (stored st s l))
  serves_keeps Native.pcall args st l = calls_back_keeps tries _ _ st l
  serves_keeps Native.print args st l =
      printing_keeps bound n frames base cell_base r fs (omega arith) (λ o st. finish o frames r st) (λ o later after. finish_keeps frames o r n later fs after) args [] st l
  serves_keeps Native.require args st l = by_library_keeps Native.require (text_argument 0 args) st
      (λ name st. natives.load_known program base cell_base frames r name (found_module name st.modules) st) l
      (λ name s. load_known_keeps name (found_module name st.modules) _ (stored st s l))
  serves_keeps Native.tostring args st l = tostring_keeps _ st l
  serves_keeps Native.love_thread_get_channel args st l = read_asks Native.love_thread_get_channel (text_argument 0 args) gives_values Ask.name st l
  serves_keeps Native.love_thread_new_channel args st l = asks_keeps gives_values Ask.new_channel st l
  serves_keeps Native.love_thread_new_thread args st l = new_thread_keeps args (file_data_in st.store (argument 0 args)) st l
  serves_keeps Native.love_filesystem_read args st l = by_library_keeps Native.love_filesystem_read (text_argument 0 args) st
      (λ path st. natives.read_file program base cell_base frames r path (file_at path program.files) st) l
      (λ path s. read_file_keeps path (file_at path program.files) _ (stored st s l))
  serves_keeps Native.love_filesystem_new_file_data args st l = named_data_keeps args (argument 1 args) st l
  serves_keeps Native.love_event_push args st l = by_library_keeps Native.love_event_push (text_argument 0 args) st
      (λ name st. packed (pack_all st.store (drop 1 args)) st (λ ms st. asking gives_true (Ask.event_push name) ms st)) l
      (λ name s. pack_asks _ gives_true (Ask.event_push name) _ (stored st s l))
  serves_keeps Native.love_event_quit args st l = read_asks Native.love_event_quit (status_argument 0 args) gives_true (λ k. Ask.event_push (codes "quit") (Message.num k ∷ [])) st l
  serves_keeps Native.love_event_poll args st l = gives_keeps _ st l
  serves_keeps Native.poll_walk args st l = main_keeps gives_values st l
  serves_keeps Native.love_event_clear args st l = main_keeps clears st l
  serves_keeps Native.channel_push args st l = by_library_keeps Native.channel_push (channel_argument 0 args) st
      (λ c st. packed (pack st.store (argument 1 args)) st (λ m st. asking gives_values (Ask.push c) m st)) l
      (λ c s. pack_asks _ gives_values (Ask.push c) _ (stored st s l))
  serves_keeps Native.channel_supply args st l = by_library_keeps Native.channel_supply (channel_argument 0 args) st
      (λ c st. packed (pack st.store (argument 1 args)) st (λ m st. by_library Native.channel_supply (limit_argument 2 args) st (λ limit st. natives.asks_for program base cell_base frames r (awaits c limit) (Ask.supply c m) st))) l
      (λ c s. packed_keeps _ _ (λ m st. by_library Native.channel_supply (limit_argument 2 args) st (λ limit st. natives.asks_for program base cell_base frames r (awaits c limit) (Ask.supply c m) st)) (stored st s l)
      (λ m. by_library_keeps Native.channel_supply (limit_argument 2 args) _ (λ limit st. natives.asks_for program base cell_base frames r (awaits c limit) (Ask.supply c m) st) (stored st s l)
      (λ limit s2. asks_keeps (awaits c limit) (Ask.supply c m) _ (stored st s2 l))))
  serves_keeps Native.channel_pop args st l = read_asks Native.channel_pop (channel_argument 0 args) gives_values Ask.pop st l
  serves_keeps Native.channel_peek args st l = read_asks Native.channel_peek (channel_argument 0 args) gives_values Ask.peek st l
  serves_keeps Native.channel_demand args st l = by_library_keeps Native.channel_demand (channel_argument 0 args) st
      (λ c st. by_library Native.channel_demand (limit_argument 1 args) st (λ limit st. asking gives_values (Ask.demand c) limit st)) l
      (λ c s. read_asks Native.channel_demand (limit_argument 1 args) gives_values (Ask.demand c) _ (stored st s l))
  serves_keeps Native.channel_get_count args st l = read_asks Native.channel_get_count (channel_argument 0 args) gives_values Ask.count st l
  serves_keeps Native.channel_has_read args st l = by_library_keeps Native.channel_has_read (channel_argument 0 args) st
      (λ c st. by_library Native.channel_has_read (number_argument 1 args) st (λ k st. asking gives_values (Ask.has_read c) k st)) l
      (λ c s. read_asks Native.channel_has_read (number_argument 1 args) gives_values (Ask.has_read c) _ (stored st s l))
  serves_keeps Native.channel_clear args st l = read_asks Native.channel_clear (channel_argument 0 args) gives_values Ask.clear st l
  serves_keeps Native.channel_perform_atomic args st l = by_library_keeps Native.channel_perform_atomic (channel_argument 0 args) st
      (λ c st. by_library Native.channel_perform_atomic (function_argument 1 args) st (λ checked st. natives.asks_for program base cell_base frames r (enters c (argument 1 args) (drop 2 args)) (Ask.enter c) st)) l
      (λ c s. by_library_keeps Native.channel_perform_atomic (function_argument 1 args) _ (λ checked st. natives.asks_for program base cell_base frames r (enters c (argument 1 args) (drop 2 args)) (Ask.enter c) st) (stored st s l)
      (λ checked s2. asks_keeps (enters c (argument 1 args) (drop 2 args)) (Ask.enter c) _ (stored st s2 l)))
  serves_keeps Native.thread_start args st l = by_library_keeps Native.thread_start (thread_argument 0 args) st
      (λ t st. packed (pack_all st.store (drop 1 args)) st (λ ms st. asking gives_values (Ask.start t) ms st)) l
      (λ t s. pack_asks _ gives_values (Ask.start t) _ (stored st s l))
  serves_keeps Native.thread_wait args st l = read_asks Native.thread_wait (thread_argument 0 args) gives_values Ask.wait_for st l
  serves_keeps Native.thread_is_running args st l = read_asks Native.thread_is_running (thread_argument 0 args) gives_values Ask.is_running st l
  serves_keeps Native.thread_get_error args st l = read_asks Native.thread_get_error (thread_argument 0 args) gives_values Ask.error_of st l
  serves_keeps f args st l = by_library_keeps f (library_function f args) st gives l (λ vs s. gives_keeps vs _ (stored st s l))

  -- ---- replies

  event_keeps : (event : Event) (st : State) (next : List Value → State → Step) → Later n st → ((vs : List Value) (later : State) → Later n later → Kept (next vs later)) → Kept (natives.event_values program base cell_base frames r event st next)
  event_keeps (Event.user name args) st next l k = k _ _ (stored st _ l)
  event_keeps (Event.thread_error t text) st next l k = k _ st l

  reply_keeps : (reply : Reply) (st : State) (next : List Value → State → Step) → Later n st → ((vs : List Value) (later : State) → Later n later → Kept (next vs later)) → Kept (natives.reply_values program base cell_base frames r reply st next)
  reply_keeps Reply.done st next l k = k _ st l
  reply_keeps Reply.nothing st next l k = k _ st l
  reply_keeps (Reply.flag b) st next l k = k _ st l
  reply_keeps (Reply.id i) st next l k = k _ st l
  reply_keeps (Reply.number i) st next l k = k _ st l
  reply_keeps (Reply.value m) st next l k = k _ _ (stored st _ l)
  reply_keeps (Reply.channel c) st next l k = k _ st l
  reply_keeps (Reply.thread t) st next l k = k _ st l
  reply_keeps (Reply.words text) st next l k = k _ st l
  reply_keeps (Reply.event from action event) st next l k = event_keeps event st next l k
  reply_keeps (Reply.refused cause) st next l k = refuses_keeps _ st l

  pub attends : (errand : Errand) (reply : Reply) (st : State) → Later n st → Kept (natives.attend program base cell_base frames r errand reply st)
  attends gives_values reply st l = reply_keeps reply st _ l (λ vs later after. gives_keeps vs later after)
  attends (awaits c limit) (Reply.id i) st l = asks_keeps (gives_waited limit) (Ask.await c i limit) st l
  attends (awaits c limit) reply st l = reply_keeps reply st _ l (λ vs later after. gives_keeps vs later after)
  attends (gives_waited limit) reply st l = reply_keeps reply st _ l (λ vs later after. gives_keeps _ later after)
  attends (enters c f args) (Reply.refused cause) st l = refuses_keeps _ st l
  attends (enters c f args) reply st l = calls_back_keeps (guards c) f (channel c ∷ args) st l
  attends (comes_out o) reply st l = finish_keeps frames o r n st fs l
  attends gives_true reply st l = gives_keeps _ st l
  attends clears (Reply.event from action event) st l = ticking_keeps bound st.ticks st _ (λ u e. asks_keeps clears Ask.event_poll (record st { ticks = u }) (record { made = l.made; ticks = omega (arith, e, l.ticks) }))
  attends clears reply st l = gives_keeps _ st l
