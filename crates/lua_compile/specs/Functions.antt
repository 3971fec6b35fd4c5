-- Functions that are made.
use Rattle.std.specs.Prelude.{◌≡◌, ℕ, ◌<◌, List, [], ◌∷◌, ◌++◌, length}
use Rattle.lua_tree.specs.Tree.{Bytes, Func, func}
use Rattle.lua_meaning.specs.Names.{func_names, captured_in}
use Rattle.lua_code.specs.Instr as i
use Rattle.lua_code.specs.Scope.{Scope, declared, declare_code, cell_names, cell_places}
use Rattle.lua_code.specs.Code.{block_code, func_code, last}
use Rattle.lua_code.specs.View.{Inner, inner_at}
use Rattle.lua_assembler.specs.Writing.{Written, made_of}

-- what a function does, with the locals in scope that it finds around it
abbrev pub func_body : Func → (file : Bytes) → Scope → List i.Instr
func_body (func line params varargs body) file scope =
    declare_code params (captured_in body) scope
    ++ (block_code body [] 0 file (declared params (captured_in body) scope) ++ last ∷ [])

-- what a function that stands in a scope is made of
abbrev pub func_inner : Func → (file : Bytes) → Scope → Inner
func_inner f file scope = record {
  code = func_code f file (cell_names scope (func_names f));
  captures = cell_places scope (func_names f);
}

-- a function is among those that are made
pub record IsMade (n : ℕ) (inner : Inner) (w : Written) : Type 0 where
  pub among : n < length w.protos
  pub is : inner_at (made_of w) n ≡ inner
