use Rattle.std.proofs.Common.{[], ◌∷◌, ap, sym, ◌∙◌}
use Rattle.lua_meaning.specs.Value.{str}
use Rattle.lua_meaning.specs.Text.{type_name}
use Rattle.lua_meaning.specs.Arguments.{answers}
use Rattle.lua_lib.proofs.call.basic.type_of.Goals as goal

pub returns : goal.returns
returns c = λ texts s.
    ap (λ t. answers (str t ∷ []) s) (sym (c.type_name.ensures texts ∙ ap type_name (c.argument-value.ensures.value texts)))
