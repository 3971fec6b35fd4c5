-- Lines of texts.
use Rattle.std.proofs.Common.{◌≡◌, ℕ, zero, suc, List, [], ◌∷◌, ◌++◌, refl, sym, ap, ◌∙◌}
use Rattle.std.specs.Prelude.{codes}
use Rattle.std.proofs.lemmas.List.{append_assoc}
use Rattle.lua_tree.specs.Tree.{Bytes}
use Rattle.lua_meaning.specs.Control.{line_of}
use Rattle.lua_machine.specs.Printing.{tabbed}

-- the first text, and the others with a tab before each
pub line_is : (text : Bytes) (texts : List Bytes) → line_of (text ∷ texts) ≡ text ++ tabbed texts
line_is text [] = refl
line_is text (more ∷ texts) = ap (λ (bytes : Bytes). text ++ (codes "\t" ++ bytes)) (line_is more texts)

-- one more text stands in the line
pub one_tabbed : (line text : Bytes) (texts : List Bytes) → (line ++ codes "\t") ++ text ++ tabbed texts ≡ line ++ tabbed (text ∷ texts)
one_tabbed line text texts =
    append_assoc (line ++ codes "\t") text (tabbed texts)
    ∙ append_assoc line (codes "\t") (text ++ tabbed texts)
