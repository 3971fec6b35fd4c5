-- The start of a game's `main.lua`.
use Rattle.std.specs.Prelude.{codes, IfOk}
use Rattle.std.proofs.Common.{◌≡◌, ◌∙◌, ℕ, Bool, true, false, cond, ◌≤◌, List, [], ◌∷◌, ◌++◌, drop, length, map, Result, Ok, Err, ◌⊎◌, inl, inr, Option, Some, None, refl, sym, ap, subst}
use Rattle.std.specs.List.{AllByRecursion, AllZip}
use Rattle.std.specs.Option.{option_map}
use Rattle.std.proofs.lemmas.List.{drop_all}
use Rattle.std.proofs.lemmas.Slice.Eq.{bytes_eq-Decides}
use Rattle.std.specs.Str.{bytes_eq}
use Rattle.lua_tree.specs.Tree.{Bytes, Block}
use Rattle.lua_meaning.specs.Control as meant
use Rattle.lua_meaning.specs.Control.{file_at}
use Rattle.lua_meaning.specs.Run.{Start}
use Rattle.lua_code.specs.Code.{chunk_code}
use Rattle.lua_code.specs.Natives as natives
use Rattle.lua_code.specs.Trees.{chunk_of}
use Rattle.lua_code.specs.Follows.{file_code, file_of, program_of}
use Rattle.lua_code.specs.Held.{file_code_view, file_view, program_view}
use Rattle.lua_code.specs.View.{ProtoView}
use Rattle.lua_code.specs.declared.program.Program.{Program}
use Rattle.lua_code.specs.declared.program.File as declared
use Rattle.lua_code.specs.declared.program.FileCode.{FileCode}
use Rattle.lua_code.specs.declared.program.FileCode.TheVariants.{Ready, Faulty, NotLua}
use Rattle.love_base.specs.declared.memory.Memory.{Memory}
use Rattle.lua_state.specs.declared.alone.Alone.{Alone}
use Rattle.lua_state.specs.Leaving.{HasStart}
use Rattle.lua_state.specs.Programs.{IsBuilt, IsCodeOf, IsMadeOf, given, is_lua, main_name, main_of}
use Rattle.variant.specs.declared.ask.Ask.{Ask}
use Rattle.variant.specs.declared.action.Action.{Action}
use Rattle.variant.specs.declared.end_kind.EndKind.{EndKind}
use Rattle.variant.specs.declared.end_kind.EndKind.TheVariants.{Error}
use Rattle.lua_meaning.specs.Run.{run_code, failed}
use Rattle.lua_code.specs.Talks.{fed}
use Rattle.lua_machine.specs.Machine.{IsStart}
use Rattle.lua_state.specs.Runs.{HasMain, IsMainStart, IsMeant, Ran, Shows}

-- ---- the files that a game means

abbrev meant_file : (f : declared.File) → IsBuilt f → meant.File
meant_file f built = record { path = f.name; bytes = f.content.bytes; code = built.meant }

abbrev meant_files : (files : List declared.File) → AllByRecursion IsBuilt files → List meant.File
meant_files [] all = []
meant_files (f ∷ files) all = meant_file f all.0 ∷ meant_files files all.1

are_meant : (files : List declared.File) (all : AllByRecursion IsBuilt files) → AllZip IsMeant (map given files) (meant_files files all)
are_meant [] all = tt
are_meant (f ∷ files) all = (record { path = refl; bytes = refl; code = all.0.is }, are_meant files all.1)

same_files : (files : List declared.File) (all : AllByRecursion IsBuilt files) → map file_of (meant_files files all) ≡ map file_view files
same_files [] all = refl
same_files (f ∷ files) all =
    ap (λ (c : natives.FileCode). record { path = f.name; bytes = f.content.bytes; code = c } ∷ map file_of (meant_files files all.1)) (sym all.0.code)
    ∙ ap (λ (l : List natives.File). file_view f ∷ l) (same_files files all.1)

-- ---- the main one

-- it has this name, and what it means is found among what all mean
abbrev IsFound : (f : declared.File) → List meant.File → Type 0
IsFound f means = (b : IsBuilt f) × (f.name ≡ main_name) × (file_at main_name means ≡ Some (meant_file f b))

found : (files : List declared.File) (all : AllByRecursion IsBuilt files) (f : declared.File) → main_of files ≡ Some f → IsFound f (meant_files files all)
found [] all f e = absurd (no e)
  where
    no : None ≡ Some f → ⊥
    no e = cc
found (g ∷ files) all f e = by (found files all.1 f) (bytes_eq g.name main_name) refl e
  where
    same : Some g ≡ Some f → g ≡ f
    same e = cc

    by : (main_of files ≡ Some f → IsFound f (meant_files files all.1)) → (u : Bool) → bytes_eq g.name main_name ≡ u → cond u (Some g) (main_of files) ≡ Some f → (b : IsBuilt f) × (f.name ≡ main_name) × (cond u (Some (meant_file g all.0)) (file_at main_name (meant_files files all.1)) ≡ Some (meant_file f b))
    by among true is e = subst (λ (h : declared.File). (b : IsBuilt h) × (h.name ≡ main_name) × (Some (meant_file g all.0) ≡ Some (meant_file h b))) (same e) (all.0, (bytes_eq-Decides g.name main_name).0 is, refl)
    by among false is e = among e

-- a game has one
pub some_main : (files : List declared.File) → HasMain (map given files) → main_of files ≡ None → ⊥
some_main [] has none = has
some_main (f ∷ files) has none = by (some_main files) (bytes_eq f.name main_name) refl none has
  where
    by : (HasMain (map given files) → main_of files ≡ None → ⊥) → (u : Bool) → bytes_eq f.name main_name ≡ u → cond u (Some f) (main_of files) ≡ None → (f.name ≡ main_name) ⊎ HasMain (map given files) → ⊥
    by among true is none has = no none
      where
        no : Some f ≡ None → ⊥
        no e = cc
    by among false is none (inl named) = differs is ((bytes_eq-Decides f.name main_name).1 named)
      where
        differs : bytes_eq f.name main_name ≡ false → bytes_eq f.name main_name ≡ true → ⊥
        differs a b = cc
    by among false is none (inr has) = among has none

-- so the search for it doesn't come to the end
pub none_main : (files all : List declared.File) (at : ℕ) → length files ≤ at → main_of (drop at files) ≡ main_of files → files ≡ all → HasMain (map given all) → ⊥
none_main files all at past same is has = some_main all has (ap main_of (sym is) ∙ (sym same ∙ ap main_of (drop_all at files past)))

-- ---- the start

-- a start on this file of a game
pub record Begins (files : List declared.File) (steps : ℕ) (f : declared.File) : Type 0 where
  pub start : Start
  pub is : IsMainStart (map given files) steps start
  pub game : program_of start.game ≡ record { files = map file_view files; state = 0 }
  pub code : file_code_view f.code ≡ file_code main_name start.code
  pub lua : IsCodeOf f.name f.content.bytes start.code
  pub named : f.name ≡ main_name

pub begins : (files : List declared.File) (steps : ℕ) (f : declared.File) → AllByRecursion IsBuilt files → main_of files ≡ Some f → Begins files steps f
begins files steps f all is =
    let at = found files all f is in
    record {
      start = record { game = record { files = meant_files files all; state = 0 }; file = main_name; code = at.0.meant; args = []; ticks = steps; replies = [] };
      is = record { files = are_meant files all; state = refl; file = refl; code = ap (option_map (λ (file : meant.File). file.code)) at.2; args = refl; ticks = refl };
      game = ap (λ (l : List natives.File). record { files = l; state = 0 }) (same_files files all);
      code = at.0.code ∙ ap (λ (path : Bytes). file_code path at.0.meant) at.1;
      lua = at.0.is;
      named = at.1;
    }

-- ---- what code is that of

pub record IsReady (path : Bytes) (c : meant.Code) (protos : List ProtoView) : Type 0 where
  pub block : Block
  pub is : c ≡ meant.ready block
  pub code : chunk_code path block ≡ chunk_of protos

pub ready_code : (path : Bytes) (c : meant.Code) (protos : List ProtoView) → natives.ready (chunk_of protos) ≡ file_code path c → IsReady path c protos
ready_code path (meant.ready b) protos e = record { block = b; is = refl; code = same e }
  where
    same : natives.ready (chunk_of protos) ≡ natives.ready (chunk_code path b) → chunk_code path b ≡ chunk_of protos
    same e = cc
ready_code path (meant.faulty text) protos e = absurd (no e)
  where
    no : natives.ready (chunk_of protos) ≡ natives.faulty text → ⊥
    no e = cc
ready_code path meant.not_lua protos e = absurd (no e)
  where
    no : natives.ready (chunk_of protos) ≡ natives.not_lua → ⊥
    no e = cc

pub faulty_code : (path text : Bytes) (c : meant.Code) → natives.faulty text ≡ file_code path c → c ≡ meant.faulty text
faulty_code path text (meant.ready b) e = absurd (no e)
  where
    no : natives.faulty text ≡ natives.ready (chunk_code path b) → ⊥
    no e = cc
faulty_code path text (meant.faulty same) e = cc
faulty_code path text meant.not_lua e = absurd (no e)
  where
    no : natives.faulty text ≡ natives.not_lua → ⊥
    no e = cc

-- it is one of Lua, by its name
pub main_is_lua : (path : Bytes) (source : List ℕ) (c : meant.Code) → path ≡ main_name → IsCodeOf path source c → natives.not_lua ≡ file_code main_name c → ⊥
main_is_lua path source (meant.ready b) named is e = no e
  where
    no : natives.not_lua ≡ natives.ready (chunk_code main_name b) → ⊥
    no e = cc
main_is_lua path source (meant.faulty text) named is e = no e
  where
    no : natives.not_lua ≡ natives.faulty text → ⊥
    no e = cc
main_is_lua path source meant.not_lua named is e = no (sym (ap is_lua named) ∙ is)
  where
    no : is_lua main_name ≡ false → ⊥
    no e = cc

-- ---- the starts of a game's main program

-- the start of one that is this code
pub record ReadyStart (program : Program) (protos : List ProtoView) (steps : ℕ) : Type 0 where
  pub start : Start
  pub block : Block
  pub is_main : IsMainStart (map given program.files) steps start
  pub code : start.code ≡ meant.ready block
  pub is : IsStart program protos [] steps 0 start block

pub ready_start : (program : Program) (steps : ℕ) (f : declared.File) (protos : List ProtoView) → AllByRecursion IsBuilt program.files → main_of program.files ≡ Some f → f.code ≡ Ready protos → ReadyStart program protos steps
ready_start program steps f protos all is code =
    let at = begins program.files steps f all is in
    let ready = ready_code main_name at.start.code protos (sym (ap file_code_view code) ∙ at.code) in
    record {
      start = at.start;
      block = ready.block;
      is_main = at.is;
      code = ready.is;
      is = record { game = at.game; code = ap (λ (path : Bytes). chunk_code path ready.block) at.is.file ∙ ready.code; args = at.is.args; ticks = at.is.ticks };
    }

-- that of one with a fault
pub record FaultyStart (program : Program) (text : Bytes) (steps : ℕ) : Type 0 where
  pub start : Start
  pub is_main : IsMainStart (map given program.files) steps start
  pub code : start.code ≡ meant.faulty text

pub faulty_start : (program : Program) (steps : ℕ) (f : declared.File) (text : Bytes) → AllByRecursion IsBuilt program.files → main_of program.files ≡ Some f → f.code ≡ Faulty text → FaultyStart program text steps
faulty_start program steps f text all is code =
    let at = begins program.files steps f all is in
    record { start = at.start; is_main = at.is; code = faulty_code main_name text at.start.code (sym (ap file_code_view code) ∙ at.code) }

-- one is of Lua
pub not_none : (program : Program) (f : declared.File) → AllByRecursion IsBuilt program.files → main_of program.files ≡ Some f → f.code ≡ NotLua → ⊥
not_none program f all is code =
    let at = begins program.files 0 f all is in
    main_is_lua f.name f.content.bytes at.start.code at.named at.lua (sym (ap file_code_view code) ∙ at.code)

-- a run of one with a fault prints nothing, and asks for nothing
pub ran_faulty : (start : Start) (text : Bytes) (actions : List Action) (out : List ℕ) (end : EndKind) (waiting : Option Ask) → start.code ≡ meant.faulty text → actions ≡ [] → out ≡ [] → end ≡ Error text → waiting ≡ None → Ran start actions out end waiting
ran_faulty start text actions out end waiting code none no_out is no_wait =
    subst (λ (l : List Action). Ran start l out end waiting) (sym none) (subst (λ (o : List ℕ). Ran start [] o end waiting) (sym no_out) (subst (λ (e : EndKind). Ran start [] [] e waiting) (sym is) (subst (λ (w : Option Ask). Ran start [] [] (Error text) w) (sym no_wait) (record {
      asks = [];
      asked = refl;
      ends = subst (λ (c : meant.Code). Shows [] [] (failed text) (run_code (fed start []) c)) (sym code) (record { asks = refl; output = refl; end = refl });
      printed = λ before a e. absurd (nothing before a e);
    }))))
  where
    nothing : (before : List Action) (a : Action) → [] ≡ before ++ a ∷ [] → ⊥
    nothing [] a e = cc
    nothing (x ∷ xs) a e = cc

-- ---- what is answered

pub faulty_result : (program : Program) (steps : ℕ) (f : declared.File) (text : Bytes) → AllByRecursion IsBuilt program.files → main_of program.files ≡ Some f → f.code ≡ Faulty text → (r : Result Alone Memory)
    → IfOk r (λ alone. alone.ran.trace.actions ≡ []) → IfOk r (λ alone. alone.ran.out ≡ []) → IfOk r (λ alone. alone.ran.end ≡ Error text) → IfOk r (λ alone. alone.waiting ≡ None)
    → IfOk r (λ alone. (start : Start) × IsMainStart (map given program.files) steps start × Ran start alone.ran.trace.actions alone.ran.out alone.ran.end alone.waiting)
faulty_result program steps f text all is code (Ok alone) none out end waiting =
    let from = faulty_start program steps f text all is code in
    (from.start, from.is_main, ran_faulty from.start text alone.ran.trace.actions alone.ran.out alone.ran.end alone.waiting from.code none out end waiting)
faulty_result program steps f text all is code (Err memory) none out end waiting = none

pub ready_result : (program : Program) (steps : ℕ) (f : declared.File) (protos : List ProtoView) → AllByRecursion IsBuilt program.files → main_of program.files ≡ Some f → f.code ≡ Ready protos → (r : Result Alone Memory)
    → IfOk r (λ alone. (start : Start) (b : Block) → start.ticks ≡ steps → start.code ≡ meant.ready b → IsStart program protos [] steps 0 start b → Ran start alone.ran.trace.actions alone.ran.out alone.ran.end alone.waiting)
    → IfOk r (λ alone. (start : Start) × IsMainStart (map given program.files) steps start × Ran start alone.ran.trace.actions alone.ran.out alone.ran.end alone.waiting)
ready_result program steps f protos all is code (Ok alone) ran =
    let from = ready_start program steps f protos all is code in
    (from.start, from.is_main, ran from.start from.block from.is.ticks from.code from.is)
ready_result program steps f protos all is code (Err memory) ran = ran

pub has_start : (program : Program) (steps : ℕ) (f : declared.File) (protos : List ProtoView) → AllByRecursion IsBuilt program.files → main_of program.files ≡ Some f → f.code ≡ Ready protos → HasStart program protos steps
has_start program steps f protos all is code =
    let from = ready_start program steps f protos all is code in
    record { start = from.start; block = from.block; ticks = from.is.ticks; is = from.is }
