-- Handlers of operators and fields, called.
use Rattle.std.proofs.Common.{◌≡◌, ℕ, ◌+◌, List, sym, ap, ◌∙◌, subst}
use Rattle.std.specs.Prelude.{map, slice_get, Result, Ok, Err, IfOk}
use Rattle.lua_meaning.specs.Value as meant
use Rattle.lua_machine.specs.Past.{Past}
use Rattle.lua_heap.specs.declared.value.Value.{Value}
use Rattle.lua_heap.specs.Value.{value_view}
use Rattle.lua_code.specs.State.{Registers, Step}
use Rattle.lua_code.specs.Frames.{calling}
use Rattle.lua_machine.specs.declared.arguments.Behind.TheVariants.{Args}
use Rattle.lua_machine.specs.declared.frame.Wants.{Wants}
use Rattle.lua_machine.specs.declared.status.Status.{Status}
use Rattle.lua_machine.specs.View.{EngineView, cell_at, slots_view, registers_of, state_of}
use Rattle.lua_machine.specs.Does.{site_at}
use Rattle.lua_machine.specs.Arguments.{args_at}
use Rattle.lua_machine.specs.Entering.{HasGrown, free_cells}
use Rattle.lua_machine.specs.Calling.{calling_frames, calling_step, CallsAs}
use Rattle.lua_machine.specs.Handling.{handling_step, Handles}
use Rattle.lua_machine.proofs.Begun.{site_cells}
use Rattle.lua_machine.proofs.Called.{came_as}

module _ (m : EngineView) (wants : Wants) (h : Value) (args : List Value) where
  -- the slots above which a handler runs
  abbrev top : ℕ
  top = m.base + (site_at m.proto m.pc).above

  -- there are slots up to there, and the arguments are put together
  abbrev ready : List Value → EngineView
  ready values = record m { values = values; args = args }

  -- what is called is called from the definitions' registers
  step_same : (values : List Value) → slots_view m.heap.texts values ≡ slots_view m.heap.texts m.values → (past : Past)
      → handling_step wants h args m past ≡ calling_step wants h top (args_at (ready values) top 0 Args) past (ready values)
  step_same values same past =
      let called : ℕ → Registers → Step = λ cells r. calling (value_view m.heap.texts h) (map (value_view m.heap.texts) args) (calling_frames wants m) top cells r (state_of past m) in
      ap (λ (cells : ℕ). called (m.cell_base + cells) (registers_of m)) (sym (site_cells (slice_get m.proto.sites m.pc)))
      ∙ ap (λ (slots : ℕ → meant.Value). called (free_cells m) (record { slots = slots; cells = cell_at m.cells; tail = map (value_view m.heap.texts) m.tail })) (sym same)

  came_handled : {E : Type 0} (o : Result Status E) (values : List Value) (new : EngineView) → slots_view m.heap.texts values ≡ slots_view m.heap.texts m.values
      → IfOk o (λ status. CallsAs wants h top 0 Args status (ready values) new) → IfOk o (λ status. Handles wants h args status m new)
  came_handled (Ok status) values new same c =
      came_as (λ past. calling_step wants h top (args_at (ready values) top 0 Args) past (ready values)) (handling_step wants h args m) status new (step_same values same) c
  came_handled (Err error) values new same c = c

  -- for an engine that is seen by its parts
  pub handled : {E : Type 0} (o : Result Status E) (e g new : EngineView) (items : List Value) (height first : ℕ) → HasGrown (m.base + height) m g → e ≡ g → items ≡ args → height ≡ (site_at m.proto m.pc).above → first ≡ e.base + height
      → IfOk o (λ status. CallsAs wants h first 0 Args status (record e { args = items }) new) → IfOk o (λ status. Handles wants h args status m new)
  handled o e g new items height first grown seen is_items is_height is_first c =
      let is : e ≡ record m { values = grown.values } = seen ∙ grown.is in
      let is_top : first ≡ top = is_first ∙ ap (λ (y : EngineView). y.base + height) is ∙ ap (λ (n : ℕ). m.base + n) is_height in
      let P : EngineView → List Value → ℕ → Type 0 = λ y vs n. IfOk o (λ status. CallsAs wants h n 0 Args status (record y { args = vs }) new) in
      came_handled o grown.values new grown.same
      (subst (λ (n : ℕ). P (record m { values = grown.values }) args n) is_top
      (subst (λ (y : EngineView). P y args first) is
      (subst (λ (vs : List Value). P e vs first) is_items c)))
