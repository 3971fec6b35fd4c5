-- Handlers that are asked, and errors where there is none.
use Rattle.std.specs.Prelude.{codes}
use Rattle.std.proofs.Common.{◌≡◌, List, ◌++◌, ap, ◌∙◌}
use Rattle.lua_tree.specs.Tree.{Bytes}
use Rattle.lua_meaning.specs.Value as meant
use Rattle.lua_code.specs.Doing as code
use Rattle.lua_code.specs.Doing.{ask_or_fault}

-- the same handler is asked, or the same error is raised
pub asked_of : (doing : code.Doing) (h k : meant.Value) (text other : Bytes) (args : List meant.Value) (use_ : code.Use) → doing ≡ ask_or_fault h text args use_ → h ≡ k → text ≡ other → doing ≡ ask_or_fault k other args use_
asked_of doing h k text other args use_ e same same_text =
    e ∙ ap (λ w. ask_or_fault w text args use_) same ∙ ap (λ t. ask_or_fault k t args use_) same_text

-- what was attempted on a value of a type
pub attempted_on : (attempt name other : Bytes) → name ≡ other → attempt ++ (name ++ codes " value") ≡ attempt ++ (other ++ codes " value")
attempted_on attempt name other e = ap (λ t. attempt ++ (t ++ codes " value")) e
