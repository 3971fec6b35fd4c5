-- Functions of the library do in the machine what they mean.
use Rattle.std.proofs.lemmas.List.{append-nil}
use Rattle.std.proofs.Common.{ℕ, suc, ◌≡◌, ◌≤◌, refl, sym, ap, ◌∙◌, subst, List, [], ◌∷◌, ◌++◌, length, map, Option, Some, None, option_map, Bool, true, false, Result, Ok, Err, arith, append_assoc}
use Rattle.std.specs.Prelude.{if◌then◌else◌, drop, nat_eq, bytes_eq, codes, pos}
use Rattle.love_base.specs.Data.{Contents}
use Rattle.lua_tree.specs.Tree.{Bytes}
use Rattle.lua_meaning.specs.Native.{Native}
use Rattle.lua_meaning.specs.Value.{Value, nil, flag, num, str, native, channel, thread, first}
use Rattle.lua_meaning.specs.Text.{as_text}
use Rattle.lua_meaning.specs.Store.{Store, handler}
use Rattle.lua_meaning.specs.Message.{Message, Source, Event, Ask, Reply}
use Rattle.lua_meaning.specs.Packing.{PackFault, pack, pack_all, unpack, unpack_all}
use Rattle.lua_meaning.specs.World.{World, Ends, gives, fails, out_of_steps, needs, ◌>>>◌, Act, given, failed, caught, Module, begun, loaded, asking, answered as asked_for}
use Rattle.lua_meaning.specs.Arguments.{Lib, Answer, answers, faults, argument, number_or, number_argument, text_argument}
use Rattle.lua_meaning.specs.LoveArguments.{channel_argument, thread_argument, limit_argument, function_argument, status_argument}
use Rattle.lua_meaning.specs.Strings.{string_value}
use Rattle.lua_meaning.specs.Data.{new_data}
use Rattle.lua_meaning.specs.Locals.{values_of}
use Rattle.lua_meaning.specs.Calls.{Calls, Later, results, chunk, enter, call_back, clear_turn}
use Rattle.lua_meaning.specs.Control as control
use Rattle.lua_meaning.specs.Control.{Game, tried, value_text, line_of}
use Rattle.lua_meaning.specs.Love as love
use Rattle.lua_meaning.specs.Library.{library as library_function}
use Rattle.lua_meaning.specs.Running.{run_library}
use Rattle.lua_code.specs.State.{Registers, State, Duty, tries, converts, prints, requires, guards, Frame, serves, Errand, gives_values, awaits, gives_waited, enters, comes_out, gives_true, clears, Step}
use Rattle.lua_code.specs.Frames.{places, finish, calling_with, by_text, printing, printed, raised}
use Rattle.lua_code.specs.Natives as natives
use Rattle.lua_code.specs.Natives.{Program, asks_for, calls_back, attend, reply_values, resume}
use Rattle.lua_code.specs.Act.{after, exec}
use Rattle.lua_code.specs.Follows.{state_of, file_code, file_of, program_of}
use Rattle.lua_code.proofs.Registers.{stays_self}
use Rattle.lua_code.proofs.Goes.{Thread, comes_self, stepping, left_at, failing, Goes, first_comes, first_stays, spend, both, tick_goes}
use Rattle.lua_code.proofs.Calling.{Invokes, enters as enters_call, calls_on, calls_with}

-- ---- results for a library function that waits

module _ (program : Program) (m low some base cell_base : ℕ) (frames : List Frame) where
  abbrev Left : Registers → Thread → Ends (List Value) → Type 0
  Left r K e = Goes program m frames low some r K e (λ vs t. Unit {0}) (left_at program frames)

  abbrev Serves : Duty → Registers → Thread → Ends (List Value) → Type 0
  Serves duty r K e = Goes program m (serves duty base cell_base ∷ frames) low some r K e (λ vs t. Unit {0}) (left_at program (serves duty base cell_base ∷ frames))

  to_tries : (r : Registers) (K : Thread) (e : Ends (List Value)) → Serves tries r K e → Left r K (caught e >>> λ o w. gives (tried o) w)
  to_tries r K (gives vs w) g = g
  to_tries r K (fails v w) g = (g.0, g.1, g.2, tt, g.3)
  to_tries r K (out_of_steps w) g = g
  to_tries r K (needs ask w) g = g

  to_converts : (r : Registers) (K : Thread) (e : Ends (List Value)) → Serves converts r K e → Left r K ((e >>> λ vs w. gives (first vs) w) >>> λ v w. gives (v ∷ []) w)
  to_converts r K (gives vs w) g = g
  to_converts r K (fails v w) g = g
  to_converts r K (out_of_steps w) g = g
  to_converts r K (needs ask w) g = g

module _ (game : Game) (n : ℕ) (again : Later) (invokes : Invokes game n again) (base cell_base : ℕ) (frames : List Frame) where
  abbrev P : Program
  P = program_of game

  abbrev calls : Calls
  calls = places frames

  -- from registers and a world: the machine's step comes to what is meant
  abbrev Served : Registers → World → Step → Ends (List Value) → Type 0
  Served r w x e = Goes P w.ticks frames base cell_base r (stepping P w x) e (λ vs t. Unit {0}) (left_at P frames)

  on_assoc : {A B C : Type 0} (e : Ends A) (f : A → Act B) (g : B → Act C) → ((e >>> λ a w. f a w) >>> λ b w. g b w) ≡ (e >>> λ a w. f a w >>> λ b w. g b w)
  on_assoc (gives a w) f g = refl
  on_assoc (fails v w) f g = refl
  on_assoc (out_of_steps w) f g = refl
  on_assoc (needs ask w) f g = refl

  lines_on : {A B : Type 0} (e : Ends A) (f g : A → Act B) → ((a : A) (w : World) → f a w ≡ g a w) → (e >>> λ a w. f a w) ≡ (e >>> λ a w. g a w)
  lines_on (gives a w) f g h = h a w
  lines_on (fails v w) f g h = refl
  lines_on (out_of_steps w) f g h = refl
  lines_on (needs ask w) f g h = refl

  same_end : {A : Type 0} (e : Ends A) → (e >>> λ a w. gives a w) ≡ e
  same_end (gives a w) = refl
  same_end (fails v w) = refl
  same_end (out_of_steps w) = refl
  same_end (needs ask w) = refl

  gives_goes : (r : Registers) (vs : List Value) (w : World) → Served r w (natives.gives P base cell_base frames r vs (state_of w)) (gives vs w)
  gives_goes r vs w = (r, omega arith, stays_self r base cell_base, tt, comes_self _)

  raises_goes : (r : Registers) (v : Value) (w : World) → Served r w (natives.raises P base cell_base frames r v (state_of w)) (fails v w)
  raises_goes r v w = (r, omega arith, stays_self r base cell_base, comes_self _)

  answered_goes : {A : Type 0} (r : Registers) (f : Native) (x : Answer A) (w : World) (next : A → State → Step) (act : A → Act (List Value)) → ((a : A) (s : Store) → Served r (record w { store = s }) (next a (state_of (record w { store = s }))) (act a (record w { store = s })))
      → Served r w (natives.answered P base cell_base frames r f x (state_of w) next) (control.answered f calls x w >>> λ a w. act a w)
  answered_goes r f (answers a s) w next act h = h a s
  answered_goes r f (faults e) w next act h = raises_goes r _ w

  library_goes : {A : Type 0} (r : Registers) (f : Native) (part : Lib A) (w : World) (next : A → State → Step) (act : A → Act (List Value)) → ((a : A) (s : Store) → Served r (record w { store = s }) (next a (state_of (record w { store = s }))) (act a (record w { store = s })))
      → Served r w (natives.by_library P base cell_base frames r f part (state_of w) next) (control.by_library f calls part w >>> λ a w. act a w)
  library_goes r f part w next act h = answered_goes r f (part w.store) w next act h

  -- an ask, and what its reply is for
  asks_goes : (r : Registers) (errand : Errand) (question : Ask) (replies : List Reply) (w : World) (act : Reply → Act (List Value)) → ((reply : Reply) (rs : List Reply) → Served r (record w { asks = w.asks ++ question ∷ []; replies = rs }) (attend P base cell_base frames r errand reply (state_of (record w { asks = w.asks ++ question ∷ []; replies = rs }))) (act reply (record w { asks = w.asks ++ question ∷ []; replies = rs })))
      → Goes P w.ticks frames base cell_base r (λ k. after P (exec P k) (asks_for P base cell_base frames r errand question (state_of w)) replies) (asked_for question replies w >>> λ reply w. act reply w) (λ vs t. Unit {0}) (left_at P frames)
  asks_goes r errand question [] w act h = (0, refl)
  asks_goes r errand question (reply ∷ rs) w act h = h reply rs

  -- the values of a reply
  replies_goes : (r : Registers) (reply : Reply) (w : World) (next : List Value → State → Step) (act : List Value → Act (List Value)) → ((vs : List Value) (s : Store) → Served r (record w { store = s }) (next vs (state_of (record w { store = s }))) (act vs (record w { store = s })))
      → Served r w (reply_values P base cell_base frames r reply (state_of w) next) (love.reply_values calls reply w >>> λ vs w. act vs w)
  replies_goes r Reply.done w next act h = h [] w.store
  replies_goes r Reply.nothing w next act h = h (nil ∷ []) w.store
  replies_goes r (Reply.flag b) w next act h = h (flag b ∷ []) w.store
  replies_goes r (Reply.id k) w next act h = h (num (pos k) ∷ []) w.store
  replies_goes r (Reply.number k) w next act h = h (num (pos k) ∷ []) w.store
  replies_goes r (Reply.value m) w next act h = h ((unpack m w.store).0 ∷ []) (unpack m w.store).1
  replies_goes r (Reply.channel c) w next act h = h (channel c ∷ []) w.store
  replies_goes r (Reply.thread t) w next act h = h (thread t ∷ []) w.store
  replies_goes r (Reply.words text) w next act h = h (str text ∷ []) w.store
  replies_goes r (Reply.event from action (Event.user name args)) w next act h = h (str name ∷ (unpack_all args w.store).0) (unpack_all args w.store).1
  replies_goes r (Reply.event from action (Event.thread_error t text)) w next act h = h (str (codes "threaderror") ∷ thread t ∷ str text ∷ []) w.store
  replies_goes r (Reply.refused cause) w next act h = raises_goes r _ w

  -- an ask whose reply's values are all
  values_asked : (r : Registers) (question : Ask) (w : World) → Served r w (asks_for P base cell_base frames r gives_values question (state_of w)) (love.ask calls question w)
  values_asked r question w =
      subst (λ e. Served r w (asks_for P base cell_base frames r gives_values question (state_of w)) e) (lines_on (asked_for question w.replies w) (λ reply w. love.reply_values calls reply w >>> λ vs w. gives vs w) (λ reply w. love.reply_values calls reply w) (λ reply w. same_end (love.reply_values calls reply w)))
      (asks_goes r gives_values question w.replies w (λ reply w. love.reply_values calls reply w >>> λ vs w. gives vs w) (λ reply rs. replies_goes r reply (record w { asks = w.asks ++ question ∷ []; replies = rs }) (natives.gives P base cell_base frames r) (λ vs w. gives vs w) (λ vs s. gives_goes r vs (record w { store = s; asks = w.asks ++ question ∷ []; replies = rs }))))

  packed_goes : {A : Type 0} (r : Registers) (x : Result A PackFault) (w : World) (next : A → State → Step) (act : A → Act (List Value)) → ((a : A) → Served r w (next a (state_of w)) (act a w)) → Served r w (natives.packed P base cell_base frames r x (state_of w) next) (love.packed calls x w >>> λ a w. act a w)
  packed_goes r (Ok a) w next act h = h a
  packed_goes r (Err e) w next act h = raises_goes r _ w

  -- ---- calls back

  back_goes : (r : Registers) (duty : Duty) (f : Value) (args : List Value) (w : World) → w.ticks ≤ n → Goes P w.ticks (serves duty base cell_base ∷ frames) base cell_base r (stepping P w (calls_back P base cell_base frames r duty f args (state_of w))) (call_back again calls f args w) (λ vs t. Unit {0}) (left_at P (serves duty base cell_base ∷ frames))
  back_goes r duty f args w lw = calls_on game n again invokes f args (serves duty base cell_base) frames base cell_base r w lw

  pcall_goes : (r : Registers) (args : List Value) (w : World) → w.ticks ≤ n → Served r w (calls_back P base cell_base frames r tries (argument 0 args) (drop 1 args) (state_of w)) (control.pcall again calls args w)
  pcall_goes r args w lw = to_tries P w.ticks base cell_base base cell_base frames r _ (call_back again calls (argument 0 args) (drop 1 args) w) (back_goes r tries (argument 0 args) (drop 1 args) w lw)

  text_goes : (r : Registers) (h v : Value) (w : World) → w.ticks ≤ n → Served r w (by_text h (natives.gives P base cell_base frames r (str (value_text w.store v) ∷ []) (state_of w)) (λ h. calls_back P base cell_base frames r converts h (v ∷ []) (state_of w))) (control.text_by again calls v h w >>> λ text w. gives (text ∷ []) w)
  text_goes r nil v w lw = gives_goes r _ w
  text_goes r h v w lw = to_converts P w.ticks base cell_base base cell_base frames r _ (call_back again calls h (v ∷ []) w) (back_goes r converts h (v ∷ []) w lw)

  -- ---- print

  -- a world with a line more
  abbrev lined : List ℕ → World → World
  lined line w = record w { output = w.output ++ line; ends = w.ends ++ length (w.output ++ line) ∷ [] }

  -- what is left of a print
  abbrev Rest : (made : List Bytes) → List Value → World → Ends (List Value)
  Rest made left w = control.texts_of again calls left w >>> λ texts w. gives [] (lined (line_of (made ++ texts)) w)

  abbrev Prints : List Value → Type 0
  Prints left = (made : List Bytes) (r : Registers) (w : World) → w.ticks ≤ n → Served r w (printing made left frames base cell_base r (state_of w) (λ o st. finish o frames r st)) (Rest made left w)

  -- behind one text
  abbrev Behind : (made : List Bytes) → List Value → Option Bytes → World → Ends (List Value)
  Behind made left o w = (control.printed calls o w >>> λ text w. control.texts_of again calls left w >>> λ texts w. gives (text ∷ texts) w) >>> λ texts w. gives [] (lined (line_of (made ++ texts)) w)

  behind_is : (made : List Bytes) (left : List Value) (text : Bytes) (w : World) → Rest (made ++ text ∷ []) left w ≡ Behind made left (Some text) w
  behind_is made left text w =
      lines_on (control.texts_of again calls left w) (λ texts w. gives [] (lined (line_of ((made ++ text ∷ []) ++ texts)) w)) (λ texts w. gives [] (lined (line_of (made ++ text ∷ texts)) w)) (λ texts w. ap (λ l. gives [] (lined (line_of l) w)) (append_assoc made (text ∷ []) texts))
      ∙ sym (on_assoc (control.texts_of again calls left w) (λ texts w. gives (text ∷ texts) w) (λ texts w. gives [] (lined (line_of (made ++ texts)) w)))

  printed_goes : (made : List Bytes) (left : List Value) → Prints left → (o : Option Bytes) (r : Registers) (w : World) → w.ticks ≤ n → Served r w (printed made left o frames base cell_base r (state_of w) (λ o st. finish o frames r st)) (Behind made left o w)
  printed_goes made left prints_left None r w lw = raises_goes r _ w
  printed_goes made left prints_left (Some text) r w lw = subst (λ e. Served r w (printing (made ++ text ∷ []) left frames base cell_base r (state_of w) (λ o st. finish o frames r st)) e) (behind_is made left text w) (prints_left (made ++ text ∷ []) r w lw)

  -- a handler's text comes back
  prints_back : (m : ℕ) → m ≤ n → (made : List Bytes) (left : List Value) → Prints left → (r : Registers) (K : Thread) (e : Ends (List Value)) → Goes P m (serves (prints made left) base cell_base ∷ frames) base cell_base r K e (λ vs t. Unit {0}) (left_at P (serves (prints made left) base cell_base ∷ frames))
      → Goes P m frames base cell_base r K (((e >>> λ vs w. gives (first vs) w) >>> λ shown w. control.printed calls (as_text shown) w >>> λ text w. control.texts_of again calls left w >>> λ texts w. gives (text ∷ texts) w) >>> λ texts w. gives [] (lined (line_of (made ++ texts)) w)) (λ vs t. Unit {0}) (left_at P frames)
  prints_back m lm made left prints_left r K (gives vs w) g =
      first_stays P m frames base cell_base r g.0 K (Behind made left (as_text (first vs)) w) _ _ g.2
      (first_comes P m frames base cell_base g.0 K (left_at P (serves (prints made left) base cell_base ∷ frames) vs w g.0) (Behind made left (as_text (first vs)) w) _ _ g.4
      (spend P m w.ticks frames base cell_base g.0 _ (Behind made left (as_text (first vs)) w) _ _ g.1 (printed_goes made left prints_left (as_text (first vs)) g.0 w (omega (arith, lm, g.1)))))
  prints_back m lm made left prints_left r K (fails v w) g = g
  prints_back m lm made left prints_left r K (out_of_steps w) g = g
  prints_back m lm made left prints_left r K (needs ask w) g = g

  one_printed : (h v : Value) (made : List Bytes) (left : List Value) → Prints left → (r : Registers) (w : World) → w.ticks ≤ n
      → Served r w (by_text h (printing (made ++ value_text w.store v ∷ []) left frames base cell_base r (state_of w) (λ o st. finish o frames r st)) (λ h. calling_with (λ e st. finish (failed e) frames r st) h (v ∷ []) (serves (prints made left) base cell_base ∷ frames) base cell_base r (state_of w)))
      ((control.text_by again calls v h w >>> λ shown w. control.printed calls (as_text shown) w >>> λ text w. control.texts_of again calls left w >>> λ texts w. gives (text ∷ texts) w) >>> λ texts w. gives [] (lined (line_of (made ++ texts)) w))
  one_printed nil v made left prints_left r w lw = printed_goes made left prints_left (Some (value_text w.store v)) r w lw
  one_printed h v made left prints_left r w lw =
      prints_back w.ticks lw made left prints_left r _ (call_back again calls h (v ∷ []) w)
      (calls_with game n again invokes (λ e st. finish (failed e) frames r st) h (v ∷ []) (serves (prints made left) base cell_base) frames base cell_base r w (λ v w. comes_self _) lw)

  prints_goes : (left : List Value) → Prints left
  prints_goes [] made r w lw = subst (λ l. Served r w (finish (given []) frames r (state_of (lined (line_of made) w))) (gives [] (lined (line_of l) w))) (sym (append-nil made)) (r, omega arith, stays_self r base cell_base, tt, comes_self _)
  prints_goes (v ∷ left) made r w lw = one_printed (handler w.store v (codes "__tostring")) v made left (prints_goes left) r w lw

  -- ---- require

  required : (m : ℕ) (name : Bytes) (r : Registers) (K : Thread) (e : Ends (List Value)) → Goes P m (serves (requires name) base cell_base ∷ frames) base cell_base r K e (λ vs t. Unit {0}) (left_at P (serves (requires name) base cell_base ∷ frames))
      → Goes P m frames base cell_base r K ((e >>> λ vs w. gives (first vs) w) >>> λ v w. gives (control.module_value v ∷ []) (record w { modules = (name, loaded (control.module_value v)) ∷ w.modules })) (λ vs t. Unit {0}) (left_at P frames)
  required m name r K (gives vs w) g = g
  required m name r K (fails v w) g = g
  required m name r K (out_of_steps w) g = g
  required m name r K (needs ask w) g = g

  load_code_goes : (name path : Bytes) (c : control.Code) (r : Registers) (w : World) → w.ticks ≤ n → Served r w (natives.load_code P base cell_base frames r name (file_code path c) (state_of w)) (control.load_code again calls name path c w)
  load_code_goes name path control.not_lua r w lw = raises_goes r _ w
  load_code_goes name path (control.faulty text) r w lw = raises_goes r _ w
  load_code_goes name path (control.ready b) r w lw =
      let w' : World = record w { modules = (name, begun) ∷ w.modules } in
      required w.ticks name r _ (enter again None calls (chunk path b) (str name ∷ []) w')
      (enters_call game n again invokes (raised (serves (requires name) base cell_base ∷ frames) r) (chunk path b) (str name ∷ []) (serves (requires name) base cell_base) frames base cell_base r w' (λ v w. comes_self _) lw)

  file_found : (path : Bytes) (files : List control.File) → natives.file_at path (map file_of files) ≡ option_map file_of (control.file_at path files)
  file_found path [] = refl
  file_found path (file ∷ files) = found_if (bytes_eq file.path path) file (natives.file_at path (map file_of files)) (control.file_at path files) (file_found path files)
    where
      found_if : (b : Bool) (file : control.File) (x : Option natives.File) (y : Option control.File) → x ≡ option_map file_of y → (if b then Some (file_of file) else x) ≡ option_map file_of (if b then Some file else y)
      found_if true file x y e = refl
      found_if false file x y e = e

  either_found : (x y : Option control.File) → natives.or_file (option_map file_of x) (option_map file_of y) ≡ option_map file_of (control.or_file x y)
  either_found None y = refl
  either_found (Some x) y = refl

  module_found : (name : Bytes) → natives.module_file P name ≡ option_map file_of (control.module_file game name)
  module_found name =
      ap (λ x. natives.or_file x (natives.file_at (map control.slashed name ++ codes "/init.lua") (map file_of game.files))) (file_found (map control.slashed name ++ codes ".lua") game.files)
      ∙ ap (λ x. natives.or_file (option_map file_of (control.file_at (map control.slashed name ++ codes ".lua") game.files)) x) (file_found (map control.slashed name ++ codes "/init.lua") game.files)
      ∙ either_found (control.file_at (map control.slashed name ++ codes ".lua") game.files) (control.file_at (map control.slashed name ++ codes "/init.lua") game.files)

  load_file_goes : (name : Bytes) (o : Option control.File) (r : Registers) (w : World) → w.ticks ≤ n → Served r w (natives.load_file P base cell_base frames r name (option_map file_of o) (state_of w)) (control.load_file again calls name o w)
  load_file_goes name None r w lw = raises_goes r _ w
  load_file_goes name (Some file) r w lw = load_code_goes name file.path file.code r w lw

  loads_new : (name : Bytes) (o : Option ℕ) (r : Registers) (w : World) → w.ticks ≤ n → Served r w (natives.load_new P base cell_base frames r name o (state_of w)) (control.load_new game again calls name o w)
  loads_new name (Some t) r w lw = gives_goes r _ _
  loads_new name None r w lw =
      subst (λ o. Served r w (natives.load_file P base cell_base frames r name o (state_of w)) (control.load_file again calls name (control.module_file game name) w)) (sym (module_found name))
      (load_file_goes name (control.module_file game name) r w lw)

  loads_known : (name : Bytes) (o : Option Module) (r : Registers) (w : World) → w.ticks ≤ n → Served r w (natives.load_known P base cell_base frames r name o (state_of w)) (control.load_known game again calls name o w)
  loads_known name (Some (loaded v)) r w lw = gives_goes r _ w
  loads_known name (Some begun) r w lw = raises_goes r _ w
  loads_known name None r w lw = loads_new name (control.love_module name) r w lw

  -- a section of a Channel, after its Enter
  guarded : (m : ℕ) (c : ℕ) (r : Registers) (K : Thread) (e : Ends (List Value)) → Goes P m (serves (guards c) base cell_base ∷ frames) base cell_base r K e (λ vs t. Unit {0}) (left_at P (serves (guards c) base cell_base ∷ frames))
      → Goes P m frames base cell_base r K (caught e >>> λ o w. asking (Ask.leave c) w >>> λ left w. love.come_out o w) (λ vs t. Unit {0}) (left_at P frames)
  guarded m c r K (gives vs w) g =
      first_stays P m frames base cell_base r g.0 K (asking (Ask.leave c) w >>> λ left w. gives vs w) _ _ g.2
      (first_comes P m frames base cell_base g.0 K (left_at P (serves (guards c) base cell_base ∷ frames) vs w g.0) (asking (Ask.leave c) w >>> λ left w. gives vs w) _ _ g.4
      (spend P m w.ticks frames base cell_base g.0 _ (asking (Ask.leave c) w >>> λ left w. gives vs w) _ _ g.1
      (asks_goes g.0 (comes_out (given vs)) (Ask.leave c) w.replies w (λ left w. gives vs w) (λ reply rs. gives_goes g.0 vs (record w { asks = w.asks ++ Ask.leave c ∷ []; replies = rs })))))
  guarded m c r K (fails v w) g =
      first_stays P m frames base cell_base r g.0 K (asking (Ask.leave c) w >>> λ left w. fails v w) _ _ g.2
      (first_comes P m frames base cell_base g.0 K (failing P (serves (guards c) base cell_base ∷ frames) v w g.0) (asking (Ask.leave c) w >>> λ left w. fails v w) _ _ g.3
      (spend P m w.ticks frames base cell_base g.0 _ (asking (Ask.leave c) w >>> λ left w. fails v w) _ _ g.1
      (asks_goes g.0 (comes_out (failed v)) (Ask.leave c) w.replies w (λ left w. fails v w) (λ reply rs. raises_goes g.0 v (record w { asks = w.asks ++ Ask.leave c ∷ []; replies = rs })))))
  guarded m c r K (out_of_steps w) g = g
  guarded m c r K (needs ask w) g = g

  section_goes : (c : ℕ) (args : List Value) (reply : Reply) (r : Registers) (w : World) → w.ticks ≤ n → Served r w (attend P base cell_base frames r (enters c (argument 1 args) (drop 2 args)) reply (state_of w)) (love.section again calls c args reply w)
  section_goes c args (Reply.refused cause) r w lw = raises_goes r _ w
  section_goes c args reply r w lw = guarded w.ticks c r _ (call_back again calls (argument 1 args) (channel c ∷ drop 2 args) w) (back_goes r (guards c) (argument 1 args) (channel c ∷ drop 2 args) w lw)

  awaited_goes : (c : ℕ) (limit : Option ℕ) (reply : Reply) (r : Registers) (w : World) → Served r w (attend P base cell_base frames r (awaits c limit) reply (state_of w)) (love.await_reply calls c limit reply w)
  awaited_goes c limit (Reply.id k) r w =
      subst (λ e. Served r w (asks_for P base cell_base frames r (gives_waited limit) (Ask.await c k limit) (state_of w)) e) (sym (on_assoc (asking (Ask.await c k limit) w) (λ reply w. love.reply_values calls reply w) (λ vs w. gives (love.waited limit vs) w)))
      (asks_goes r (gives_waited limit) (Ask.await c k limit) w.replies w (λ reply w. love.reply_values calls reply w >>> λ vs w. gives (love.waited limit vs) w) (λ reply rs. replies_goes r reply (record w { asks = w.asks ++ Ask.await c k limit ∷ []; replies = rs }) (λ vs st. natives.gives P base cell_base frames r (love.waited limit vs) st) (λ vs w. gives (love.waited limit vs) w) (λ vs s. gives_goes r (love.waited limit vs) (record w { store = s; asks = w.asks ++ Ask.await c k limit ∷ []; replies = rs }))))
  awaited_goes c limit reply r w =
      subst (λ e. Served r w (reply_values P base cell_base frames r reply (state_of w) (natives.gives P base cell_base frames r)) e) (same_end (love.reply_values calls reply w))
      (replies_goes r reply w (natives.gives P base cell_base frames r) (λ vs w. gives vs w) (λ vs s. gives_goes r vs (record w { store = s })))

  -- ---- love.thread, Channels, Threads

  threads_file : (path : Bytes) (o : Option control.File) (r : Registers) (w : World) → Served r w (natives.new_thread_of_file P base cell_base frames r path (option_map file_of o) (state_of w)) (love.new_thread_of_file calls path o w)
  threads_file path None r w = raises_goes r _ w
  threads_file path (Some file) r w = values_asked r _ w

  threads_text_if : (b : Bool) (text : Bytes) (r : Registers) (w : World) → Served r w (if b then asks_for P base cell_base frames r gives_values (Ask.new_thread (Source.code text)) (state_of w) else natives.new_thread_of_file P base cell_base frames r text (natives.file_at text (map file_of game.files)) (state_of w)) ((if b then love.ask calls (Ask.new_thread (Source.code text)) else love.new_thread_of_file calls text (control.file_at text game.files)) w)
  threads_text_if true text r w = values_asked r _ w
  threads_text_if false text r w =
      subst (λ o. Served r w (natives.new_thread_of_file P base cell_base frames r text o (state_of w)) (love.new_thread_of_file calls text (control.file_at text game.files) w)) (sym (file_found text game.files))
      (threads_file text (control.file_at text game.files) r w)

  threads_new : (args : List Value) (o : Option Contents) (r : Registers) (w : World) → Served r w (natives.new_thread P base cell_base frames r args o (state_of w)) (love.new_thread_of game calls args o w)
  threads_new args (Some contents) r w = values_asked r _ w
  threads_new args None r w = library_goes r Native.love_thread_new_thread (text_argument 0 args) w (λ text st. natives.new_thread_of_text P base cell_base frames r text st) (λ text w. love.new_thread_of_text game calls text w) (λ text s. threads_text_if (love.is_code text) text r (record w { store = s }))

  -- ---- love.filesystem

  file_read : (path : Bytes) (o : Option control.File) (r : Registers) (w : World) → Served r w (natives.read_file P base cell_base frames r path (option_map file_of o) (state_of w)) (love.read_file calls path o w)
  file_read path None r w = gives_goes r _ w
  file_read path (Some file) r w = library_goes r Native.love_filesystem_read (string_value file.bytes) w (λ vs st. natives.gives P base cell_base frames r (vs ++ num (pos (length file.bytes)) ∷ []) st) (λ vs w. gives (vs ++ num (pos (length file.bytes)) ∷ []) w) (λ vs s. gives_goes r (vs ++ num (pos (length file.bytes)) ∷ []) (record w { store = s }))

  only_library : (f : Native) (part : Lib (List Value)) (r : Registers) (w : World) → Served r w (natives.by_library P base cell_base frames r f part (state_of w) (natives.gives P base cell_base frames r)) (control.by_library f calls part w)
  only_library f part r w =
      subst (λ e. Served r w (natives.by_library P base cell_base frames r f part (state_of w) (natives.gives P base cell_base frames r)) e) (same_end (control.by_library f calls part w))
      (library_goes r f part w _ (λ vs w. gives vs w) (λ vs s. gives_goes r vs (record w { store = s })))

  file_held : (path : Bytes) (o : Option control.File) (r : Registers) (w : World) → Served r w (natives.file_data P base cell_base frames r path (option_map file_of o) (state_of w)) (love.file_data calls path o w)
  file_held path None r w = gives_goes r _ w
  file_held path (Some file) r w = only_library Native.love_filesystem_new_file_data (new_data (record { bytes = file.bytes; name = Some path })) r w

  data_named : (args : List Value) (v : Value) (r : Registers) (w : World) → Served r w (natives.new_file_data P base cell_base frames r args v (state_of w)) (love.new_file_data_of game calls args v w)
  data_named args nil r w = library_goes r Native.love_filesystem_new_file_data (text_argument 0 args) w (λ path st. natives.file_data P base cell_base frames r path (natives.file_at path (map file_of game.files)) st) (λ path w. love.file_data calls path (control.file_at path game.files) w) (λ path s.
      subst (λ o. Served r (record w { store = s }) (natives.file_data P base cell_base frames r path o (state_of (record w { store = s }))) (love.file_data calls path (control.file_at path game.files) (record w { store = s }))) (sym (file_found path game.files))
      (file_held path (control.file_at path game.files) r (record w { store = s })))
  data_named args v r w = library_goes r Native.love_filesystem_new_file_data (text_argument 0 args) w (λ bytes st. natives.by_library P base cell_base frames r Native.love_filesystem_new_file_data (text_argument 1 args) st (λ name st. natives.by_library P base cell_base frames r Native.love_filesystem_new_file_data (new_data (record { bytes = bytes; name = Some name })) st (natives.gives P base cell_base frames r))) (λ bytes w. control.by_library Native.love_filesystem_new_file_data calls (text_argument 1 args) w >>> λ name w. control.by_library Native.love_filesystem_new_file_data calls (new_data (record { bytes = bytes; name = Some name })) w) (λ bytes s. library_goes r Native.love_filesystem_new_file_data (text_argument 1 args) (record w { store = s }) (λ name st. natives.by_library P base cell_base frames r Native.love_filesystem_new_file_data (new_data (record { bytes = bytes; name = Some name })) st (natives.gives P base cell_base frames r)) (λ name w. control.by_library Native.love_filesystem_new_file_data calls (new_data (record { bytes = bytes; name = Some name })) w) (λ name s2. only_library Native.love_filesystem_new_file_data (new_data (record { bytes = bytes; name = Some name })) r (record w { store = s2 })))

  -- ---- love.event

  pushed : (question : Ask) (r : Registers) (w : World) → Served r w (asks_for P base cell_base frames r gives_true question (state_of w)) (asking question w >>> λ reply w. gives (flag true ∷ []) w)
  pushed question r w = asks_goes r gives_true question w.replies w (λ reply w. gives (flag true ∷ []) w) (λ reply rs. gives_goes r (flag true ∷ []) (record w { asks = w.asks ++ question ∷ []; replies = rs }))

  channel_asked : (f : Native) (q : ℕ → Ask) (args : List Value) (r : Registers) (w : World) → Served r w (natives.ask_channel P base cell_base frames r f q args (state_of w)) (love.ask_channel f q calls args w)
  channel_asked f q args r w = library_goes r f (channel_argument 0 args) w (λ c st. asks_for P base cell_base frames r gives_values (q c) st) (λ c w. love.ask calls (q c) w) (λ c s. values_asked r (q c) (record w { store = s }))

  thread_asked : (f : Native) (q : ℕ → Ask) (args : List Value) (r : Registers) (w : World) → Served r w (natives.ask_thread P base cell_base frames r f q args (state_of w)) (love.ask_thread f q calls args w)
  thread_asked f q args r w = library_goes r f (thread_argument 0 args) w (λ c st. asks_for P base cell_base frames r gives_values (q c) st) (λ c w. love.ask calls (q c) w) (λ c s. values_asked r (q c) (record w { store = s }))

  main_if : (b : Bool) (errand : Errand) (act : Act (List Value)) (r : Registers) (w : World) → Served r w (asks_for P base cell_base frames r errand Ask.event_poll (state_of w)) (act w) → Served r w (if b then asks_for P base cell_base frames r errand Ask.event_poll (state_of w) else natives.refuses P base cell_base frames r (codes "events are polled by the main state") (state_of w)) ((if b then act else control.refuse calls (codes "events are polled by the main state")) w)
  main_if true errand act r w g = g
  main_if false errand act r w g = raises_goes r _ w

  -- what is left to clear
  module _ (clear : (frames : List Frame) (base cell_base : ℕ) (r : Registers) (w : World) → suc w.ticks ≤ n → Goes P w.ticks frames base cell_base r (stepping P w (asks_for P base cell_base frames r clears Ask.event_poll (state_of w))) (again clear_turn w) (λ flow t. Unit {0}) (λ flow w t. left_at P frames (values_of flow) w t)) where
    -- a flow's values, or the flow
    cleared_goes : (reply : Reply) (r : Registers) (w : World) → w.ticks ≤ n → Goes P w.ticks frames base cell_base r (stepping P w (attend P base cell_base frames r clears reply (state_of w))) (love.cleared again reply w) (λ flow t. Unit {0}) (λ flow w t. left_at P frames (values_of flow) w t)
    cleared_goes (Reply.event from action event) r w lw = tick_goes P w.ticks w.ticks frames base cell_base r w _ _ _ _ (omega arith) (λ w' lt. clear frames base cell_base r w' (omega (arith, lt, lw))) refl
    cleared_goes reply r w lw = (r, omega arith, stays_self r base cell_base, tt, comes_self _)

    pub clearing : (r : Registers) (replies : List Reply) (w : World) → w.ticks ≤ n → Goes P w.ticks frames base cell_base r (λ k. after P (exec P k) (asks_for P base cell_base frames r clears Ask.event_poll (state_of w)) replies) (asked_for Ask.event_poll replies w >>> λ reply w. love.cleared again reply w) (λ flow t. Unit {0}) (λ flow w t. left_at P frames (values_of flow) w t)
    clearing r [] w lw = (0, refl)
    clearing r (reply ∷ rs) w lw = cleared_goes reply r (record w { asks = w.asks ++ Ask.event_poll ∷ []; replies = rs }) lw

    clear_goes : (r : Registers) (w : World) → w.ticks ≤ n → Served r w (asks_for P base cell_base frames r clears Ask.event_poll (state_of w)) (love.clear_events again w >>> λ flow w. gives (values_of flow) w)
    clear_goes r w lw =
        both P w.ticks w.ticks (omega arith) frames base cell_base r _ (love.clear_events again w) _ _ (λ flow w. gives (values_of flow) w) _ _ (clearing r w.replies w lw)
        (λ flow w t l st u. (t, omega arith, stays_self t base cell_base, tt, comes_self _))

    -- ---- all of them

    pub serve_goes : (f : Native) (args : List Value) (r : Registers) (w : World) → w.ticks ≤ n → Served r w (natives.serves_as P base cell_base frames r f args (state_of w)) (run_library game again f args calls w)
    serve_goes Native.error args r w lw = library_goes r Native.error (number_or 1 args (pos 1)) w (λ level st. natives.raises P base cell_base frames r (control.error_value (argument 0 args) (control.level_place level calls)) st) (λ level w. fails (control.error_value (argument 0 args) (control.level_place level calls)) w) (λ level s. raises_goes r (control.error_value (argument 0 args) (control.level_place level calls)) (record w { store = s }))
    serve_goes Native.pcall args r w lw = pcall_goes r args w lw
    serve_goes Native.print args r w lw = prints_goes args [] r w lw
    serve_goes Native.require args r w lw = library_goes r Native.require (text_argument 0 args) w (λ name st. natives.load_known P base cell_base frames r name (control.found_module name st.modules) st) (λ name w. control.load_known game again calls name (control.found_module name w.modules) w) (λ name s. loads_known name (control.found_module name w.modules) r (record w { store = s }) lw)
    serve_goes Native.tostring args r w lw = text_goes r (handler w.store (argument 0 args) (codes "__tostring")) (argument 0 args) w lw
    serve_goes Native.love_thread_get_channel args r w lw = library_goes r Native.love_thread_get_channel (text_argument 0 args) w (λ name st. asks_for P base cell_base frames r gives_values (Ask.name name) st) (λ name w. love.ask calls (Ask.name name) w) (λ name s. values_asked r (Ask.name name) (record w { store = s }))
    serve_goes Native.love_thread_new_channel args r w lw = values_asked r Ask.new_channel w
    serve_goes Native.love_thread_new_thread args r w lw = threads_new args (love.file_data_in w.store (argument 0 args)) r w
    serve_goes Native.love_filesystem_read args r w lw = library_goes r Native.love_filesystem_read (text_argument 0 args) w (λ path st. natives.read_file P base cell_base frames r path (natives.file_at path (map file_of game.files)) st) (λ path w. love.read_file calls path (control.file_at path game.files) w) (λ path s.
        subst (λ o. Served r (record w { store = s }) (natives.read_file P base cell_base frames r path o (state_of (record w { store = s }))) (love.read_file calls path (control.file_at path game.files) (record w { store = s }))) (sym (file_found path game.files))
        (file_read path (control.file_at path game.files) r (record w { store = s })))
    serve_goes Native.love_filesystem_new_file_data args r w lw = data_named args (argument 1 args) r w
    serve_goes Native.love_event_push args r w lw = library_goes r Native.love_event_push (text_argument 0 args) w (λ name st. natives.packed P base cell_base frames r (pack_all st.store (drop 1 args)) st (λ m st. asks_for P base cell_base frames r gives_true (Ask.event_push name m) st)) (λ name w. love.messages_of calls (drop 1 args) w >>> λ m w. asking (Ask.event_push name m) w >>> λ reply w. gives (flag true ∷ []) w) (λ name s. packed_goes r (pack_all s (drop 1 args)) (record w { store = s }) (λ m st. asks_for P base cell_base frames r gives_true (Ask.event_push name m) st) (λ m w. asking (Ask.event_push name m) w >>> λ reply w. gives (flag true ∷ []) w) (λ m. pushed (Ask.event_push name m) r (record w { store = s })))
    serve_goes Native.love_event_quit args r w lw = library_goes r Native.love_event_quit (status_argument 0 args) w (λ k st. asks_for P base cell_base frames r gives_true (Ask.event_push (codes "quit") (Message.num k ∷ [])) st) (λ k w. asking (Ask.event_push (codes "quit") (Message.num k ∷ [])) w >>> λ reply w. gives (flag true ∷ []) w) (λ k s. pushed (Ask.event_push (codes "quit") (Message.num k ∷ [])) r (record w { store = s }))
    serve_goes Native.love_event_poll args r w lw = gives_goes r (native Native.poll_walk ∷ []) w
    serve_goes Native.poll_walk args r w lw = main_if (nat_eq game.state 0) gives_values (love.ask calls Ask.event_poll) r w (values_asked r Ask.event_poll w)
    serve_goes Native.love_event_clear args r w lw = main_if (nat_eq game.state 0) clears (results (love.clear_events again)) r w (clear_goes r w lw)
    serve_goes Native.channel_push args r w lw = library_goes r Native.channel_push (channel_argument 0 args) w (λ c st. natives.packed P base cell_base frames r (pack st.store (argument 1 args)) st (λ m st. asks_for P base cell_base frames r gives_values (Ask.push c m) st)) (λ c w. love.message_of calls (argument 1 args) w >>> λ m w. love.ask calls (Ask.push c m) w) (λ c s. packed_goes r (pack s (argument 1 args)) (record w { store = s }) (λ m st. asks_for P base cell_base frames r gives_values (Ask.push c m) st) (λ m w. love.ask calls (Ask.push c m) w) (λ m. values_asked r (Ask.push c m) (record w { store = s })))
    serve_goes Native.channel_supply args r w lw = library_goes r Native.channel_supply (channel_argument 0 args) w (λ c st. natives.packed P base cell_base frames r (pack st.store (argument 1 args)) st (λ m st. natives.by_library P base cell_base frames r Native.channel_supply (limit_argument 2 args) st (λ limit st. asks_for P base cell_base frames r (awaits c limit) (Ask.supply c m) st))) (λ c w. love.message_of calls (argument 1 args) w >>> λ m w. control.by_library Native.channel_supply calls (limit_argument 2 args) w >>> λ limit w. asking (Ask.supply c m) w >>> λ reply w. love.await_reply calls c limit reply w) (λ c s. packed_goes r (pack s (argument 1 args)) (record w { store = s }) (λ m st. natives.by_library P base cell_base frames r Native.channel_supply (limit_argument 2 args) st (λ limit st. asks_for P base cell_base frames r (awaits c limit) (Ask.supply c m) st)) (λ m w. control.by_library Native.channel_supply calls (limit_argument 2 args) w >>> λ limit w. asking (Ask.supply c m) w >>> λ reply w. love.await_reply calls c limit reply w) (λ m. library_goes r Native.channel_supply (limit_argument 2 args) (record w { store = s }) (λ limit st. asks_for P base cell_base frames r (awaits c limit) (Ask.supply c m) st) (λ limit w. asking (Ask.supply c m) w >>> λ reply w. love.await_reply calls c limit reply w) (λ limit s2. asks_goes r (awaits c limit) (Ask.supply c m) w.replies (record w { store = s2 }) (λ reply w. love.await_reply calls c limit reply w) (λ reply rs. awaited_goes c limit reply r (record w { store = s2; asks = w.asks ++ Ask.supply c m ∷ []; replies = rs })))))
    serve_goes Native.channel_pop args r w lw = channel_asked Native.channel_pop Ask.pop args r w
    serve_goes Native.channel_peek args r w lw = channel_asked Native.channel_peek Ask.peek args r w
    serve_goes Native.channel_demand args r w lw = library_goes r Native.channel_demand (channel_argument 0 args) w (λ c st. natives.by_library P base cell_base frames r Native.channel_demand (limit_argument 1 args) st (λ limit st. asks_for P base cell_base frames r gives_values (Ask.demand c limit) st)) (λ c w. control.by_library Native.channel_demand calls (limit_argument 1 args) w >>> λ limit w. love.ask calls (Ask.demand c limit) w) (λ c s. library_goes r Native.channel_demand (limit_argument 1 args) (record w { store = s }) (λ limit st. asks_for P base cell_base frames r gives_values (Ask.demand c limit) st) (λ limit w. love.ask calls (Ask.demand c limit) w) (λ limit s2. values_asked r (Ask.demand c limit) (record w { store = s2 })))
    serve_goes Native.channel_get_count args r w lw = channel_asked Native.channel_get_count Ask.count args r w
    serve_goes Native.channel_has_read args r w lw = library_goes r Native.channel_has_read (channel_argument 0 args) w (λ c st. natives.by_library P base cell_base frames r Native.channel_has_read (number_argument 1 args) st (λ k st. asks_for P base cell_base frames r gives_values (Ask.has_read c k) st)) (λ c w. control.by_library Native.channel_has_read calls (number_argument 1 args) w >>> λ k w. love.ask calls (Ask.has_read c k) w) (λ c s. library_goes r Native.channel_has_read (number_argument 1 args) (record w { store = s }) (λ k st. asks_for P base cell_base frames r gives_values (Ask.has_read c k) st) (λ k w. love.ask calls (Ask.has_read c k) w) (λ k s2. values_asked r (Ask.has_read c k) (record w { store = s2 })))
    serve_goes Native.channel_clear args r w lw = channel_asked Native.channel_clear Ask.clear args r w
    serve_goes Native.channel_perform_atomic args r w lw = library_goes r Native.channel_perform_atomic (channel_argument 0 args) w (λ c st. natives.by_library P base cell_base frames r Native.channel_perform_atomic (function_argument 1 args) st (λ checked st. asks_for P base cell_base frames r (enters c (argument 1 args) (drop 2 args)) (Ask.enter c) st)) (λ c w. control.by_library Native.channel_perform_atomic calls (function_argument 1 args) w >>> λ checked w. asking (Ask.enter c) w >>> λ reply w. love.section again calls c args reply w) (λ c s. library_goes r Native.channel_perform_atomic (function_argument 1 args) (record w { store = s }) (λ checked st. asks_for P base cell_base frames r (enters c (argument 1 args) (drop 2 args)) (Ask.enter c) st) (λ checked w. asking (Ask.enter c) w >>> λ reply w. love.section again calls c args reply w) (λ checked s2. asks_goes r (enters c (argument 1 args) (drop 2 args)) (Ask.enter c) w.replies (record w { store = s2 }) (λ reply w. love.section again calls c args reply w) (λ reply rs. section_goes c args reply r (record w { store = s2; asks = w.asks ++ Ask.enter c ∷ []; replies = rs }) lw)))
    serve_goes Native.thread_start args r w lw = library_goes r Native.thread_start (thread_argument 0 args) w (λ t st. natives.packed P base cell_base frames r (pack_all st.store (drop 1 args)) st (λ m st. asks_for P base cell_base frames r gives_values (Ask.start t m) st)) (λ t w. love.messages_of calls (drop 1 args) w >>> λ m w. love.ask calls (Ask.start t m) w) (λ t s. packed_goes r (pack_all s (drop 1 args)) (record w { store = s }) (λ m st. asks_for P base cell_base frames r gives_values (Ask.start t m) st) (λ m w. love.ask calls (Ask.start t m) w) (λ m. values_asked r (Ask.start t m) (record w { store = s })))
    serve_goes Native.thread_wait args r w lw = thread_asked Native.thread_wait Ask.wait_for args r w
    serve_goes Native.thread_is_running args r w lw = thread_asked Native.thread_is_running Ask.is_running args r w
    serve_goes Native.thread_get_error args r w lw = thread_asked Native.thread_get_error Ask.error_of args r w
    serve_goes f args r w lw = only_library f (library_function f args) r w
