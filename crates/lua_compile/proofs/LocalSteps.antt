-- The local of a `local function` comes into scope.
use Rattle.std.proofs.Common.{◌≡◌, List, [], ◌∷◌, ◌++◌, ap, sym, ◌∙◌}
use Rattle.lua_tree.specs.Tree.{Bytes}
use Rattle.lua_tree.specs.declared.tree.Func.{Func}
use Rattle.lua_tree.specs.declared.tree.Stat.{Stat}
use Rattle.lua_tree.specs.declared.tree.StatKind.TheVariants as variant
use Rattle.lua_tree.specs.View.{func_view, stat_view}
use Rattle.lua_meaning.specs.Names.{func_names}
use Rattle.lua_code.specs.Code.{scope_behind}
use Rattle.lua_code.specs.Scope.{declared}
use Rattle.lua_assembler.specs.declared.scope.Entry.{Entry}
use Rattle.lua_compile.specs.Locals.{on_top, Precedes}
use Rattle.lua_compile.proofs.StatViews.{local_function_seen}

pub local_function_precedes : (s : Stat) (x : Bytes) (f : Func) (names captured later : List Bytes) (old new : List Entry) → s.what ≡ variant.LocalFunction x f → names ≡ x ∷ [] → captured ≡ func_names (func_view f) ++ later
    → Precedes (declared names captured) old new → Precedes (scope_behind (stat_view s) later) old new
local_function_precedes s x f names captured later old new h n c p scope =
    p scope
    ∙ ap (λ (xs : List Bytes). on_top old (declared xs captured scope)) n
    ∙ ap (λ (cs : List Bytes). on_top old (declared (x ∷ []) cs scope)) c
    ∙ ap (λ s. on_top old (scope_behind s later scope)) (sym (local_function_seen s x f h))
