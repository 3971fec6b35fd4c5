use Rattle.std.proofs.Common.{List, ℕ, ap, sym, ◌∙◌}
use Rattle.lua_meaning.specs.Arguments.{answers}
use Rattle.love_functions.proofs.files.text_of.Goals as goal

pub returns : goal.returns
returns c = λ s. c.in_ok-text.ensures s ∙ ap (λ (t : List ℕ). answers t s) (sym c.in_ok-copy.ensures)
