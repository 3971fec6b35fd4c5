-- What files are as programs.
use Rattle.std.proofs.Common.{◌≡◌, ◌≢◌, ℕ, List, true, Result, Ok, Err, inl, inr, refl, ap}
use Rattle.std.specs.Prelude.{IfOk}
use Rattle.lua_tree.specs.Tree.{Bytes, Block}
use Rattle.lua_tree.specs.Parsed.{IsExactFault}
use Rattle.lua_tree.specs.declared.fault.ParseFault.{ParseFault}
use Rattle.lua_tree.specs.declared.fault.ParseFault.TheVariants.{Memory}
use Rattle.lua_meaning.specs.Control as control
use Rattle.lua_code.specs.Natives as code
use Rattle.lua_code.specs.declared.program.FileCode.{FileCode}
use Rattle.lua_code.specs.declared.program.FileCode.TheVariants.{Ready, Faulty, NotLua}
use Rattle.lua_state.specs.Faults.{source_text}
use Rattle.lua_state.specs.Programs.{is_lua, IsChunk, IsCompiled, IsMadeOf}
use Rattle.lua_code.specs.Held.{file_code_view}

module _ (path : Bytes) (source : List ℕ) (named : is_lua path ≡ true) where
  chunk-made : (b : Block) → IsChunk source b → (made : FileCode) → IsCompiled path b made → IsMadeOf path source made
  chunk-made b spelled (Ready c) is =
      record { meant = control.ready b; is = (named, spelled, is.1); code = ap code.ready is.0 }
  chunk-made b spelled (Faulty text) is =
      record { meant = control.faulty text; is = (named, inr (b, is.0, spelled, is.1, is.2)); code = refl }
  chunk-made b spelled NotLua is = absurd is

  -- the code of a chunk is that of the source that spells it
  pub chunk-result : {E : Type 0} (b : Block) → IsChunk source b → (r : Result FileCode E) → IfOk r (IsCompiled path b) → IfOk r (IsMadeOf path source)
  chunk-result b spelled (Ok made) is = chunk-made b spelled made is
  chunk-result b spelled (Err e) is = is

  -- so is the text of a fault
  pub fault-result : {E : Type 0} (fault : ParseFault) → IsExactFault source fault → (r : Result FileCode E) → IfOk r (λ made. fault ≢ Memory) → IfOk r (λ made. made ≡ Faulty (source_text path fault)) → IfOk r (IsMadeOf path source)
  fault-result fault found (Ok made) some is =
      record {
        meant = control.faulty (source_text path fault);
        is = (named, inl (fault, found, some, refl));
        code = ap file_code_view is;
      }
  fault-result fault found (Err e) some is = is
