-- Rows on faults: the exact answers for some short sources.
use Rattle.std.specs.Prelude.{ℤ, true, [], ◌∷◌}
use Rattle.lua_tree.specs.Tree.{Bytes}
use Rattle.lua_tree.specs.Words as w
use Rattle.lua_tree.specs.Words.{key, Tok, tok}
use Rattle.lua_tree.specs.Attributes.{breaks, varargs, nodes, locals, calls}
use Rattle.lua_tree.specs.Reading.{Limits, unexpected, over, stuck}
use Rattle.lua_tree.specs.Faults.{IsExact}
use Rattle.lua_tree.specs.Precedence.{on_one_line}

-- what a source may have: 200 nodes on a way and 200 locals in scope, and nothing of the others
abbrev pub of_a_source : Limits
of_a_source nodes = 200
of_a_source locals = 200
of_a_source x = 0

-- `break` alone
abbrev pub BreakAlone : Type 0
BreakAlone =
    IsExact of_a_source (on_one_line (key w.break_ ∷ [])) (stuck (over breaks) (on_one_line (key w.break_ ∷ [])))

-- `return 1 x`: the name
abbrev pub NameBehindReturn : Type 0
NameBehindReturn = (z : ℤ) (x : Bytes) → IsExact of_a_source
    (on_one_line (key w.return_ ∷ w.number z ∷ w.name x ∷ [])) (stuck unexpected (on_one_line (w.name x ∷ [])))

-- `function f() return ... end`: the dots
abbrev pub DotsInside : Type 0
DotsInside = (f : Bytes) → IsExact of_a_source
    (on_one_line (key w.function_ ∷ w.name f ∷ key w.open_paren ∷ key w.close_paren ∷ key w.return_ ∷ key w.dots ∷ key w.end_ ∷ []))
    (stuck (over varargs) (on_one_line (key w.dots ∷ key w.end_ ∷ [])))

-- a parenthesis on line 2
abbrev pub second_line : Tok
second_line = tok (key w.open_paren) (record { line = 2; start = 2; later = true })

-- `f`, and on the next line `()`: the parenthesis that opens
abbrev pub CallOnNextLine : Type 0
CallOnNextLine = (f : Bytes) → IsExact of_a_source
    (tok (w.name f) w.nowhere ∷ second_line ∷ on_one_line (key w.close_paren ∷ []))
    (stuck (over calls) (second_line ∷ on_one_line (key w.close_paren ∷ [])))
