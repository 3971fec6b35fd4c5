-- A heap that gets strings alone: the engine is the same to the definitions.
use Rattle.std.proofs.Common.{◌≡◌, ℕ, zero, suc, List, [], ◌∷◌, Option, None, Some, map, take, drop, refl, ap, ◌∙◌}
use Rattle.std.specs.Prelude.{reverse, length, IfSome}
use Rattle.std.specs.List.{AllByRecursion}
use Rattle.lua_tree.specs.Tree.{Bytes}
use Rattle.lua_meaning.specs.Value as meant
use Rattle.lua_meaning.specs.World as world
use Rattle.lua_meaning.specs.Store.{Store}
use Rattle.lua_machine.specs.Past.{Past}
use Rattle.lua_heap.specs.declared.entries.Function.{Function}
use Rattle.lua_heap.specs.declared.value.Value.{Value}
use Rattle.lua_heap.specs.declared.value.Value.TheVariants.{Str}
use Rattle.lua_heap.specs.Value.{value_view, IsCounted}
use Rattle.lua_heap.specs.Heap.{HeapView, counts, store_of, IsMade, Extends}
use Rattle.lua_heap.proofs.Callers.{value_view-later}
use Rattle.lua_code.specs.State.{Registers, Config}
use Rattle.lua_code.specs.State as s
use Rattle.lua_machine.specs.declared.frame.Frame.{Frame}
use Rattle.lua_machine.specs.declared.module.Module.{Module}
use Rattle.lua_machine.specs.View.{EngineView, value_at, cell_at, slots_view, registers_in, kept_in, running, text_of, frame_in, frames_below, frames_in, run_in, value_or, module_view, modules_in, state_in, config_in, config_of}
use Rattle.lua_machine.proofs.Keeping.{all_reversed}
use Rattle.lua_machine.specs.Made.{AreMade, IsMadeModule, IsEngine}

-- ---- parts of lists

made_any : (h : HeapView) (vs : List Value) (n : ℕ) → AreMade h vs → IsMade h (value_at vs n)
made_any h [] n all = tt
made_any h (v ∷ vs) zero all = all.0
made_any h (v ∷ vs) (suc n) all = made_any h vs n all.1

made_take : (h : HeapView) (n : ℕ) (vs : List Value) → AreMade h vs → AreMade h (take n vs)
made_take h zero vs all = tt
made_take h (suc n) [] all = tt
made_take h (suc n) (v ∷ vs) all = (all.0, made_take h n vs all.1)

made_drop : (h : HeapView) (n : ℕ) (vs : List Value) → AreMade h vs → AreMade h (drop n vs)
made_drop h zero vs all = all
made_drop h (suc n) [] all = tt
made_drop h (suc n) (v ∷ vs) all = made_drop h n vs all.1

-- ---- the same to the definitions

module _ (h k : HeapView) (more : Extends h k) where
  same_values : (vs : List Value) → AreMade h vs → map (value_view k.texts) vs ≡ map (value_view h.texts) vs
  same_values [] all = refl
  same_values (v ∷ vs) all =
      ap (λ (w : meant.Value). w ∷ map (value_view k.texts) vs) (value_view-later h k more v all.0)
      ∙ ap (λ (ws : List meant.Value). value_view h.texts v ∷ ws) (same_values vs all.1)

  pub same_slots : (vs : List Value) → AreMade h vs → slots_view k.texts vs ≡ slots_view h.texts vs
  same_slots vs all = λ i n. value_view-later h k more (value_at vs n) (made_any h vs n all) i

  module _ (m : EngineView) where
    pub same_registers : AreMade h m.values → AreMade h m.tail → registers_in k.texts m ≡ registers_in h.texts m
    same_registers values tail =
        ap (λ (slots : ℕ → meant.Value). registers slots (map (value_view k.texts) m.tail)) (same_slots m.values values)
        ∙ ap (λ (vs : List meant.Value). registers (slots_view h.texts m.values) vs) (same_values m.tail tail)
      where
        registers : (ℕ → meant.Value) → List meant.Value → Registers
        registers slots tail = record { slots = slots; cells = cell_at m.cells; tail = tail }

    pub same_kept : (first top : ℕ) → AreMade h m.extras → kept_in k.texts m.extras first top ≡ kept_in h.texts m.extras first top
    same_kept first top extras = same_values (drop first (take top m.extras)) (made_drop h first (take top m.extras) (made_take h top m.extras extras))

    same_running : (chunk func pc base cell_base first top : ℕ) → AreMade h m.extras → running k.texts m chunk func pc base cell_base first top ≡ running h.texts m chunk func pc base cell_base first top
    same_running chunk func pc base cell_base first top extras =
        ap (λ (vs : List meant.Value). record (running h.texts m chunk func pc base cell_base first top) { extra = vs }) (same_kept first top extras)

    same_frames : (top : ℕ) (fs : List Frame) → AreMade h m.extras → frames_below k.texts m.chunks m.extras top fs ≡ frames_below h.texts m.chunks m.extras top fs
    same_frames top [] extras = refl
    same_frames top (f ∷ fs) extras =
        ap (λ (vs : List meant.Value). frame_in m.chunks vs f ∷ frames_below k.texts m.chunks m.extras f.extra_base fs) (same_kept f.extra_base top extras)
        ∙ ap (λ (rest : List s.Frame). frame_in m.chunks (kept_in h.texts m.extras f.extra_base top) f ∷ rest) (same_frames f.extra_base fs extras)

    same_value_or : (o : Option Value) → IfSome o (IsCounted (counts h)) → value_or k.texts o ≡ value_or h.texts o
    same_value_or None made = refl
    same_value_or (Some v) made = ap world.loaded (value_view-later h k more v made)

    same_module : (x : Module) → IsMadeModule h x → module_view k.texts x ≡ module_view h.texts x
    same_module x made =
        ap (λ (w : meant.Value). entry (text_of w) (value_or k.texts x.value)) (value_view-later h k more (Str x.name) made.name)
        ∙ ap (entry (text_of (value_view h.texts (Str x.name)))) (same_value_or x.value made.value)
      where
        entry : Bytes → world.Module → Bytes × world.Module
        entry name value = (name, value)

    same_each : (xs : List Module) → AllByRecursion (IsMadeModule h) xs → map (module_view k.texts) xs ≡ map (module_view h.texts) xs
    same_each [] all = refl
    same_each (x ∷ xs) all =
        ap (λ (y : Bytes × world.Module). y ∷ map (module_view k.texts) xs) (same_module x all.0)
        ∙ ap (λ (ys : List (Bytes × world.Module)). module_view h.texts x ∷ ys) (same_each xs all.1)

    pub same_modules : AllByRecursion (IsMadeModule h) m.modules → modules_in k.texts m ≡ modules_in h.texts m
    same_modules all = same_each (reverse m.modules) (all_reversed (IsMadeModule h) m.modules all)

    pub same_state : AllByRecursion (IsMadeModule h) m.modules → (functions : List Function) (store : Store) (past : Past) → state_in k.texts functions store past m ≡ state_in h.texts functions store past m
    same_state all functions store past =
        ap (λ (ms : List (Bytes × world.Module)). record (state_in h.texts functions store past m) { modules = ms }) (same_modules all)

    pub same_frames_of : AreMade h m.extras → frames_in k.texts m ≡ frames_in h.texts m
    same_frames_of extras = same_frames m.extra_base (reverse m.frames) extras

    same_config : AreMade h m.values → AreMade h m.tail → AreMade h m.extras → AllByRecursion (IsMadeModule h) m.modules → (functions : List Function) (store : Store) (past : Past) → config_in k.texts functions store past m ≡ config_in h.texts functions store past m
    same_config values tail extras modules functions store past =
        ap (λ (run : s.Running). config run (frames_in k.texts m) (registers_in k.texts m) (state_in k.texts functions store past m)) (same_running m.chunk m.func m.pc m.base m.cell_base m.extra_base (length m.extras) extras)
        ∙ ap (λ (frames : List s.Frame). config (run_in h.texts m) frames (registers_in k.texts m) (state_in k.texts functions store past m)) (same_frames_of extras)
        ∙ ap (λ (r : Registers). config (run_in h.texts m) (frames_in h.texts m) r (state_in k.texts functions store past m)) (same_registers values tail)
        ∙ ap (λ (st : s.State). config (run_in h.texts m) (frames_in h.texts m) (registers_in h.texts m) st) (same_state modules functions store past)
      where
        config : s.Running → List s.Frame → Registers → s.State → Config
        config run frames r st = record { active = s.lua run; frames = frames; registers = r; state = st }

-- where no table, cell, function or Data was made
pub grown : (m : EngineView) (k : HeapView) → IsEngine m → Extends m.heap k → store_of k ≡ store_of m.heap → k.functions ≡ m.heap.functions → (past : Past) → config_of past (record m { heap = k }) ≡ config_of past m
grown m k is more store functions past =
    same_config m.heap k more m is.values is.tail is.extras is.modules k.functions (store_of k) past
    ∙ ap (λ (fs : List Function). config_in m.heap.texts fs (store_of k) past m) functions
    ∙ ap (λ (st : Store). config_in m.heap.texts m.heap.functions st past m) store
