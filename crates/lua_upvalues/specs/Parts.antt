-- The names of parts that stand in front of others, or that may be there.
use Rattle.std.specs.Prelude.{Bool, List, [], ◌≡◌, ◌++◌, Option, Some, None}
use Rattle.lua_tree.specs.Tree.{Bytes, Fields, Arms, Expr, Block}
use Rattle.lua_tree.specs.declared.tree.Expr as declared_expr
use Rattle.lua_tree.specs.declared.tree.Block as declared_block
use Rattle.lua_tree.specs.View.{expr_view, block_view}
use Rattle.lua_meaning.specs.Names.{expr_names, fields_names, arms_names}

-- a table's field puts its names in front of those of the fields behind it
abbrev pub FieldNames : (here : Bool) → (Fields → Fields) → (old new : List Bytes) → Type 0
FieldNames here field old new =
    (behind : Fields) (after : List Bytes) →
    old ≡ fields_names here behind ++ after → new ≡ fields_names here (field behind) ++ after

-- the same for the arms of an `if`
abbrev pub ArmsNames : (here : Bool) → (Arms → Arms) → (old new : List Bytes) → Type 0
ArmsNames here arms old new =
    (behind : Arms) (after : List Bytes) →
    old ≡ arms_names here behind ++ after → new ≡ arms_names here (arms behind) ++ after

abbrev pub block_option : Option declared_block.Block → Option Block
block_option None = None
block_option (Some b) = Some (block_view b)

abbrev pub expr_option : Option declared_expr.Expr → Option Expr
expr_option None = None
expr_option (Some e) = Some (expr_view e)

abbrev pub option_names : (here : Bool) → Option Expr → List Bytes
option_names here None = []
option_names here (Some e) = expr_names here e
