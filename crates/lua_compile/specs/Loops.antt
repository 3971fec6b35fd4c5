-- Parts of loops.
use Rattle.std.specs.Prelude.{ℕ, pos, List, [], ◌∷◌, ◌++◌, Option, Some, None}
use Rattle.lua_tree.specs.Tree.{Bytes, Expr, Block}
use Rattle.lua_meaning.specs.Value as values
use Rattle.lua_meaning.specs.Names.{captured_in}
use Rattle.lua_code.specs.Instr as i
use Rattle.lua_code.specs.Scope.{Scope, declared, declare_code}
use Rattle.lua_code.specs.Code.{expr_code, block_code, numbers_in}

-- the step of a numeric loop
abbrev pub step_code : Option Expr → (file : Bytes) → Scope → (to : ℕ) → List i.Instr
step_code None file scope to = i.load to (i.constant (values.num (pos 1))) ∷ []
step_code (Some e) file scope to = expr_code e file scope to to

-- a turn of a `for`
abbrev pub turn_code : List Bytes → Block → (exit : ℕ) → (file : Bytes) → Scope → List i.Instr
turn_code xs body exit file scope =
    declare_code xs (captured_in body) (numbers_in scope)
    ++ block_code body [] exit file (declared xs (captured_in body) (numbers_in scope))
