use Rattle.std.proofs.Common.{List, ℕ, ◌++◌, add-one, ap, ◌∙◌}
use Rattle.lua_lib.proofs.Copies.{copies-more}
use Rattle.lua_lib.proofs.strings.copies.Goals as goal

pub loop-copy-preserved : goal.loop-copy-preserved
loop-copy-preserved c =
    rw add-one (c.in_ok-extend_from_slice.ensures.items
    ∙ (ap (λ (l : List ℕ). l ++ c.args.text.now) c.loop-copy.invariant ∙ copies-more c.loop-copy._copy c.args.text.now))
