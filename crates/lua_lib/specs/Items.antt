-- What stands behind a `%` of a format.
use Rattle.std.specs.Prelude.{◌≡◌, ℕ, suc, Bool, List, ◌∷◌, ◌++◌}
use Rattle.lua_tree.specs.Tree.{Bytes}
use Rattle.lua_meaning.specs.Value.{Value}
use Rattle.lua_meaning.specs.Store.{Store}
use Rattle.lua_meaning.specs.Arguments.{Lib, ◌>>=◌, answer, number_argument}
use Rattle.lua_meaning.specs.Format.{Item, plain_item, text_from, item_from, converted, hexadecimal_text}
use Rattle.lua_lib.specs.declared.format.reading.Directive.{Directive}
use Rattle.lua_lib.specs.declared.format.reading.Directive.TheVariants.{Percent, Converts}

-- what a directive and the rest of the format behind it write, where the next argument is the n-th
abbrev pub written_by : Directive → Bytes → ℕ → List Value → Lib Bytes
written_by Percent rest n args = text_from rest n args >>= λ text. answer (37 ∷ text)
written_by (Converts item letter) rest n args =
    converted item letter n args >>= λ made. text_from rest (suc n) args >>= λ text. answer (made ++ text)

-- what `%x`, and `%X` with `upper`, writes
abbrev pub in_base_16 : Item → (upper : Bool) → ℕ → List Value → Lib Bytes
in_base_16 item upper n args = number_argument n args >>= λ z. hexadecimal_text n upper item z

-- a text behind a `%` is a directive and a rest
abbrev pub IsDirective : Bytes → Directive → Bytes → Type 0
IsDirective text directive rest =
    (n : ℕ) (args : List Value) (s : Store) →
    item_from text plain_item n args s ≡ written_by directive rest n args s
