-- Jumps whose length is known once what they jump over is there.
use Rattle.std.specs.Prelude.{◌≡◌, ℕ, List, [], ◌∷◌, ◌++◌, length}
use Rattle.lua_code.specs.Instr as i
use Rattle.lua_assembler.specs.declared.jumps.Back.{Back}
use Rattle.lua_assembler.specs.declared.jumps.Back.TheVariants as backs
use Rattle.lua_assembler.specs.Writing.{Written, code_of, Adds}

abbrev pub back_view : Back → (count : ℕ) → i.Instr
back_view (backs.If from) count = i.back_if from count
back_view (backs.Unless from) count = i.back_unless from count
back_view (backs.ForNext at) count = i.for_next at count
back_view (backs.EachNext at) count = i.each_next at count

-- a jump back at the end of some code gets its length
abbrev pub Mends : (jump : ℕ → i.Instr) → (end : ℕ) → (old new : Written) → Type 0
Mends jump end old new =
    (front : List i.Instr) (before : Written) → length (code_of before) ≡ end →
    Adds (front ++ jump 0 ∷ []) before old → Adds (front ++ jump (length front) ∷ []) before new

-- code is put in front of what was put down since so many instructions were there
abbrev pub Fronts : (code : List i.Instr → List i.Instr) → (end : ℕ) → (old new : Written) → Type 0
Fronts code end old new =
    (rest : List i.Instr) (before : Written) → length (code_of before) ≡ end →
    Adds rest before old → Adds (code rest) before new
