-- An expression of a list.
use Rattle.std.specs.Prelude.{Bool, ◌&&◌, List, if◌then◌else◌}
use Rattle.lua_tree.specs.Tree.{Expr}
use Rattle.lua_code.specs.Instr.{Instr}
use Rattle.lua_code.specs.Code.{is_many}

-- its first value where others stand behind it, and else all of them
abbrev pub one_or_all : (last : Bool) → Expr → (one all : List Instr) → List Instr
one_or_all last e one all = if last && is_many e then all else one
