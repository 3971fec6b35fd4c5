-- What `print` does with the values that it keeps.
use Rattle.std.specs.Prelude.{◌≡◌, ℕ, zero, suc, ◌+◌, ◌<◌, List, [], ◌∷◌, ◌++◌, length, map, take, drop, Option, Some, None, codes}
use Rattle.lua_tree.specs.Tree.{Bytes}
use Rattle.lua_meaning.specs.Value as meant
use Rattle.lua_meaning.specs.World.{Outcome}
use Rattle.lua_meaning.specs.Store.{handler}
use Rattle.lua_heap.specs.declared.value.Value.{Value}
use Rattle.lua_heap.specs.declared.value.Value.TheVariants.{Nil}
use Rattle.lua_heap.specs.Value.{value_view}
use Rattle.lua_heap.specs.Heap.{store_of, IsMade}
use Rattle.lua_code.specs.State.{State, Step}
use Rattle.lua_code.specs.Frames.{Out, printing, finish}
use Rattle.lua_machine.specs.declared.printing.Asked.{Asked}
use Rattle.lua_machine.specs.declared.status.Status.{Status}
use Rattle.lua_machine.specs.Past.{Past}
use Rattle.lua_machine.specs.View.{EngineView, value_at, text_of, frames_of, registers_of, state_of}
use Rattle.lua_machine.specs.Ready.{IsServing}
use Rattle.lua_machine.specs.Does.{Came}
use Rattle.lua_machine.specs.Back.{kept_of, FewFrames}

-- ---- lines

-- texts with a tab before each, and a newline at the end
abbrev pub tabbed : List Bytes → Bytes
tabbed [] = codes "\n"
tabbed (text ∷ texts) = codes "\t" ++ (text ++ tabbed texts)

-- the texts of values that have their own
abbrev pub texts_in : List Bytes → List Value → List Bytes
texts_in texts values = map text_of (map (value_view texts) values)

-- ---- steps

-- what comes of `print` goes to the frames that wait
abbrev pub out_of : EngineView → Out
out_of m o st = finish o (frames_of m) (registers_of m) st

-- the texts of so many kept values are there, and the next one's comes
abbrev pub printing_step : (number : ℕ) → Past → EngineView → Step
printing_step n past m =
    printing (map text_of (take n (kept_of m))) (drop n (kept_of m)) (frames_of m) m.base
    m.cell_base (registers_of m) (state_of past m) (out_of m)

-- all of them are there
abbrev pub line_step : Past → EngineView → Step
line_step past m =
    printing (map text_of (kept_of m)) [] (frames_of m) m.base m.cell_base (registers_of m)
    (state_of past m) (out_of m)

-- `print` came from one value to another, and the frames stay
pub record Passes (from to : ℕ) (old new : EngineView) : Type 0 where
  pub step : (past : Past) → printing_step from past old ≡ printing_step to past new
  pub ready : IsServing new
  pub base : new.extra_base ≡ old.extra_base
  pub long : length new.extras ≡ length old.extras
  pub frames : new.frames ≡ old.frames

-- a value that is kept has a handler for its text
pub record IsAsked (asked : Asked) (m : EngineView) : Type 0 where
  pub inside : m.extra_base + asked.number < length m.extras
  pub made : IsMade m.heap asked.handler
  pub some : value_view m.heap.texts asked.handler ≡ meant.nil → ⊥
  pub is :
      value_view m.heap.texts asked.handler
      ≡ handler (store_of m.heap)
      (value_view m.heap.texts (value_at m.extras (m.extra_base + asked.number)))
      (codes "__tostring")

-- `print` came to a value that has one, or behind the last value
abbrev pub PassesTo : (from : ℕ) → Option Asked → EngineView → EngineView → Type 0
PassesTo from (Some asked) old new = Passes from asked.number old new × IsAsked asked new
PassesTo from None old new =
    ((past : Past) → printing_step from past old ≡ line_step past new)
    × IsServing new × (new.frames ≡ old.frames)

-- the line came to a status
pub record PrintsLine (status : Status) (old new : EngineView) : Type 0 where
  pub came : Came (λ past. line_step past old) status new
  pub few : FewFrames status (length old.frames) new

-- `print` goes on from a value
pub record PrintsFrom (from : ℕ) (status : Status) (old new : EngineView) : Type 0 where
  pub came : Came (λ past. printing_step from past old) status new
  pub few : FewFrames status (length old.frames) new

-- a text is kept behind so many, and the values behind its place stay
pub record KeepsText (count : ℕ) (text : Value) (next : ℕ) (old new : EngineView) : Type 0 where
  pub extras : List Value
  pub is : new ≡ record old { extras = extras }
  pub below : take old.extra_base extras ≡ take old.extra_base old.extras
  pub texts :
      take next (kept_of new)
      ≡ take count (kept_of old) ++ value_view old.heap.texts text ∷ []
  pub rest : drop next (kept_of new) ≡ drop (suc count) (kept_of old)
