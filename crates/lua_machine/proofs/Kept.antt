-- Modules that are kept.
use Rattle.std.proofs.Common.{◌≡◌, ℕ, zero, suc, drop, slice_get, List, [], ◌∷◌, ◌++◌, length, refl, sym, ap, ◌∙◌, subst, Some, map, arith}
use Rattle.std.specs.Prelude.{reverse}
use Rattle.std.proofs.lemmas.List.{reverse-append}
use Rattle.std.proofs.lemmas.Option.{none-some, same_Some}
use Rattle.lua_tree.specs.Tree.{Bytes}
use Rattle.lua_meaning.specs.Value as meant
use Rattle.lua_meaning.specs.World as world
use Rattle.lua_meaning.specs.World.{given}
use Rattle.lua_meaning.specs.Control.{module_value}
use Rattle.lua_heap.specs.declared.value.Value.{Value}
use Rattle.lua_heap.specs.declared.value.Value.TheVariants.{Str}
use Rattle.lua_heap.specs.Value.{value_view}
use Rattle.lua_code.specs.State.{State, Step}
use Rattle.lua_code.specs.Frames.{serving, finish}
use Rattle.lua_code.specs.Frames as frames
use Rattle.lua_machine.specs.declared.module.Module.{Module}
use Rattle.lua_machine.specs.declared.frame.Duty.TheVariants.{Requires}
use Rattle.lua_machine.specs.declared.status.Status.{Status}
use Rattle.lua_machine.specs.declared.status.Status.TheVariants.{Gives}
use Rattle.lua_machine.specs.Past.{Past}
use Rattle.lua_machine.specs.View.{EngineView, text_of, module_view, frames_of, registers_of, state_of}
use Rattle.lua_machine.specs.Ready.{IsServing}
use Rattle.lua_machine.specs.Does.{given_args}
use Rattle.lua_machine.specs.Back.{kept_of, args_of}
use Rattle.lua_machine.specs.Fulfilling.{Fulfils}
use Rattle.lua_machine.specs.Requiring.{IsModuleValue, with_module, KeepsModule}
use Rattle.lua_machine.proofs.Passing.{kept_is}

first_dropped : (f : Value → meant.Value) (xs : List Value) (b : ℕ) (v : Value) → slice_get xs b ≡ Some v → meant.first (map f (drop b xs)) ≡ f v
first_dropped f [] b v at = absurd (none-some v at)
first_dropped f (x ∷ xs) zero v at = ap f (same_Some x v at)
first_dropped f (x ∷ xs) (suc b) v at = first_dropped f xs b v at

-- the first value that is kept
pub first_kept : (m : EngineView) (v : Value) → slice_get m.extras m.extra_base ≡ Some v → meant.first (kept_of m) ≡ value_view m.heap.texts v
first_kept m v at = ap (λ (vs : List meant.Value). meant.first vs) (kept_is m) ∙ first_dropped (value_view m.heap.texts) m.extras m.extra_base v at

module _ (m : EngineView) (name : ℕ) (v : Value) (named : meant.first (kept_of m) ≡ value_view m.heap.texts (Str name)) (is : IsModuleValue v m) where
  abbrev entry : Module
  entry = record { name = name; value = Some v }

  abbrev gives_kept : Past → Bytes → meant.Value → Step
  gives_kept past text w = finish (given (w ∷ [])) (frames_of m) (registers_of m) (frames.keep_module text (world.loaded w) (state_of past m))

  keeps_step : (past : Past) → gives_kept past (text_of (meant.first (kept_of m))) (module_value (meant.first (args_of m))) ≡ finish (given (value_view m.heap.texts v ∷ [])) (frames_of m) (registers_of m) (state_of past (with_module name v m))
  keeps_step past =
      ap (λ (w : meant.Value). gives_kept past (text_of w) (module_value (meant.first (args_of m)))) named
      ∙ ap (gives_kept past (text_of (value_view m.heap.texts (Str name)))) (sym is)
      ∙ ap (λ (ms : List Module). finish (given (value_view m.heap.texts v ∷ [])) (frames_of m) (registers_of m) (record (state_of past m) { modules = map (module_view m.heap.texts) ms })) (sym (reverse-append m.modules (entry ∷ [])))

  pub keeps_module : (status : Status) (new : EngineView) → IsServing m → KeepsModule name v status m new → Fulfils Requires status m new
  keeps_module status new r keeps =
      subst (λ (s : Status). Fulfils Requires s m new) (sym keeps.0)
      (subst (λ (y : EngineView). Fulfils Requires Gives m y) (sym keeps.1)
      (record {
        came = record {
          step = keeps_step;
          kept = record { frames = r.fit.frames; functions = r.fit.functions; chunks = r.fit.chunks };
        };
        few = omega arith;
      }))
