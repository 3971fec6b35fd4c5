-- Extra arguments.
use Rattle.std.proofs.Common.{◌≡◌, ℕ, zero, suc, ◌+◌, List, [], ◌∷◌, length, drop, refl, sym, ap, ◌∙◌, subst, arith}
use Rattle.std.specs.Prelude.{map}
use Rattle.std.specs.List.{AllByRecursion}
use Rattle.std.proofs.lemmas.List.{take_all}
use Rattle.lua_meaning.specs.Value.{first}
use Rattle.lua_tree.specs.Tree.{Bytes}
use Rattle.lua_heap.specs.declared.value.Value.{Value}
use Rattle.lua_heap.specs.Value.{value_view, IsCounted}
use Rattle.lua_heap.specs.Heap.{counts}
use Rattle.lua_code.specs.declared.instr.Instr.TheVariants.{AllExtra}
use Rattle.lua_code.specs.Valid.{cells_at}
use Rattle.lua_code.specs.State.{on}
use Rattle.lua_machine.specs.declared.status.Status.TheVariants.{Goes}
use Rattle.lua_machine.specs.View.{EngineView, value_at, registers_of, run_of, frames_of, state_of, config_of}
use Rattle.lua_machine.specs.Made.{AreMade, IsEngine}
use Rattle.lua_machine.specs.Ready.{IsReadyFor}
use Rattle.lua_machine.specs.Does.{at_pc, Takes}
use Rattle.lua_machine.proofs.Keeping.{goes_on}

extra_is : (m : EngineView) → map (value_view m.heap.texts) (drop m.extra_base m.extras) ≡ (run_of m).extra
extra_is m = ap (λ (vs : List Value). map (value_view m.heap.texts) (drop m.extra_base vs)) (sym (take_all (length m.extras) m.extras (omega arith)))

first_at : (texts : List Bytes) (xs : List Value) (n : ℕ) → value_view texts (value_at xs n) ≡ first (map (value_view texts) (drop n xs))
first_at texts [] zero = refl
first_at texts [] (suc n) = refl
first_at texts (x ∷ xs) zero = refl
first_at texts (x ∷ xs) (suc n) = first_at texts xs n

-- the first one
pub first_is : (e m : EngineView) → e ≡ m → (v : Value) → v ≡ value_at e.extras e.extra_base → value_view m.heap.texts v ≡ first (run_of m).extra
first_is e m seen v is =
    subst (λ (y : EngineView). value_view y.heap.texts v ≡ first (run_of y).extra) seen
    (ap (value_view e.heap.texts) is ∙ first_at e.heap.texts e.extras e.extra_base ∙ ap first (extra_is e))

dropped : (P : Value → Type 0) (n : ℕ) (xs : List Value) → AllByRecursion P xs → AllByRecursion P (drop n xs)
dropped P zero xs all = all
dropped P (suc n) [] all = all
dropped P (suc n) (x ∷ xs) all = dropped P n xs all.1

-- all of them
pub with_extra_is : (m : EngineView) (pc : ℕ) (tail : List Value) → tail ≡ drop m.extra_base m.extras → IsEngine m → IsEngine (record m { tail = tail; pc = pc })
with_extra_is m pc tail same is =
    record {
      events = is.events;
      extra = is.extra;
      below = is.below;
      values = is.values;
      tail = subst (AreMade m.heap) (sym same) (dropped (IsCounted (counts m.heap)) m.extra_base m.extras is.extras);
      extras = is.extras;
      args = is.args;
      cells = is.cells;
      chunks = is.chunks;
      modules = is.modules;
    }

takes_extra : (m : EngineView) (tail : List Value) → IsReadyFor AllExtra m → tail ≡ drop m.extra_base m.extras → Takes AllExtra Goes m (record m { tail = tail; pc = m.pc + 1 })
takes_extra m tail r same =
    record {
      step = λ past. ap (λ vs. on (record {
        active = (config_of past (at_pc m (m.pc + 1))).active;
        frames = frames_of m;
        registers = record { slots = (registers_of m).slots; cells = (registers_of m).cells; tail = vs };
        state = state_of past m;
      })) (sym (extra_is m) ∙ ap (map (value_view m.heap.texts)) (sym same));
      kept = goes_on m (record m { tail = tail; pc = m.pc + 1 }) (cells_at m.proto m.pc) r.ready r.ready.fit.chunks
          (record {
            chunks = refl;
            proto = refl;
            chunk = refl;
            func = refl;
            base = refl;
            cell_base = refl;
            frames = refl;
            functions = λ all. all;
            slots = omega arith;
            cells = omega arith;
          }) r.cells r.leads;
    }

pub takes_extra_of : (e m : EngineView) → e ≡ m → (tail : List Value) → IsReadyFor AllExtra m → tail ≡ drop e.extra_base e.extras → Takes AllExtra Goes m (record e { tail = tail; pc = e.pc + 1 })
takes_extra_of e m seen tail r same =
    subst (λ (y : EngineView). Takes AllExtra Goes y (record e { tail = tail; pc = e.pc + 1 })) seen
    (takes_extra e tail (subst (IsReadyFor AllExtra) (sym seen) r) same)
