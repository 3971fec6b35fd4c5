-- An arm of an `if`, in front of what is behind it.
use Rattle.std.specs.Prelude.{◌≡◌, ℕ, length}
use Rattle.lua_tree.specs.Tree.{Bytes, Arms}
use Rattle.lua_code.specs.Scope.{Scope}
use Rattle.lua_code.specs.Code.{arms_code}
use Rattle.lua_assembler.specs.Writing.{Written, code_of, Adds}

-- where the code of other arms was put down since so many instructions were there, that of one more stands in front of it
abbrev pub AddsArm : (Arms → Arms) → (exit : ℕ) → (file : Bytes) → Scope → (end : ℕ) → (old new : Written) → Type 0
AddsArm arm exit file scope end old new =
    (rest : Arms) (before : Written) → length (code_of before) ≡ end →
    Adds (arms_code rest exit file scope) before old → Adds (arms_code (arm rest) exit file scope) before new
