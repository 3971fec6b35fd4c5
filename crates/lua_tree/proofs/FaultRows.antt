-- Short sources, read.
use Rattle.std.proofs.Common.{◌≤◌, ◌<◌, [], ◌∷◌, false, arith}
use Rattle.lua_tree.specs.Words as w
use Rattle.lua_tree.specs.Words.{key, Tok, tok}
use Rattle.lua_tree.specs.Attributes.{Limit, breaks, varargs, nodes, locals, calls, at_chunk}
use Rattle.lua_tree.specs.Reading.{Needs, Keeps, free, deep, for_break, for_dots, opening, in_body, fault_number, unexpected, over, stuck, gives, takes, passes, looks, expects, expects_name, not_last, thens, stops}
use Rattle.lua_tree.specs.Precedence.{on_one_line}
use Rattle.lua_tree.specs.FaultRows.{of_a_source, second_line, BreakAlone, NameBehindReturn, DotsInside, CallOnNextLine}
use Rattle.lua_tree.proofs.Exactly.{exact}

free_in : Keeps of_a_source free
free_in x = omega arith

one_in : Keeps of_a_source (deep 1)
one_in breaks = omega arith
one_in varargs = omega arith
one_in nodes = omega arith
one_in locals = omega arith
one_in calls = omega arith

none_before : (n : Needs) (y : Limit) → fault_number y < 3 → n y ≤ of_a_source y
none_before n breaks h = let z : ⊥ = omega (arith, h) in absurd z
none_before n varargs h = let z : ⊥ = omega (arith, h) in absurd z
none_before n nodes h = let z : ⊥ = omega (arith, h) in absurd z
none_before n locals h = let z : ⊥ = omega (arith, h) in absurd z
none_before n calls h = let z : ⊥ = omega (arith, h) in absurd z

breaks_before : (n : Needs) → n breaks ≤ 0 → (y : Limit) → fault_number y < 4 → n y ≤ of_a_source y
breaks_before n k breaks h = k
breaks_before n k varargs h = let z : ⊥ = omega (arith, h) in absurd z
breaks_before n k nodes h = let z : ⊥ = omega (arith, h) in absurd z
breaks_before n k locals h = let z : ⊥ = omega (arith, h) in absurd z
breaks_before n k calls h = let z : ⊥ = omega (arith, h) in absurd z

opening_before : (y : Limit) → fault_number y < 7 → opening 2 0 y ≤ of_a_source y
opening_before breaks h = omega arith
opening_before varargs h = omega arith
opening_before nodes h = omega arith
opening_before locals h = omega arith
opening_before calls h = let z : ⊥ = omega (arith, h) in absurd z

pub break_alone : BreakAlone
break_alone =
    exact of_a_source (on_one_line (key w.break_ ∷ [])) (stuck (over breaks) (on_one_line (key w.break_ ∷ [])))
    (stops (looks (stops (looks (passes (omega arith, λ y h. none_before (for_break at_chunk) y h))))))

pub name_behind_return : NameBehindReturn
name_behind_return z x =
    exact of_a_source (on_one_line (key w.return_ ∷ w.number z ∷ w.name x ∷ [])) (stuck unexpected (on_one_line (w.name x ∷ [])))
    (thens
    (looks
    (thens (looks (takes free_in (thens (looks (thens (thens (thens (looks (takes one_in gives)) (thens (looks gives) gives)) (thens (looks gives) gives)) gives)) gives))) (thens (looks gives) gives)))
    not_last)

pub dots_inside : DotsInside
dots_inside f =
    exact of_a_source (on_one_line (key w.function_ ∷ w.name f ∷ key w.open_paren ∷ key w.close_paren ∷ key w.return_ ∷ key w.dots ∷ key w.end_ ∷ []))
    (stuck (over varargs) (on_one_line (key w.dots ∷ key w.end_ ∷ [])))
    (stops
    (looks
    (stops
    (looks
    (takes one_in
    (expects_name
    (takes free_in
    (thens (looks gives)
    (stops
    (expects
    (takes free_in
    (thens (looks (takes free_in gives))
    (stops (looks (stops (looks (takes free_in (stops (looks (stops (stops (stops (looks (passes (omega arith, λ y h. breaks_before (for_dots (in_body [] false at_chunk)) (omega arith) y h)))))))))))))))))))))))))

pub call_on_next_line : CallOnNextLine
call_on_next_line f =
    exact of_a_source (tok (w.name f) w.nowhere ∷ second_line ∷ on_one_line (key w.close_paren ∷ [])) (stuck (over calls) (second_line ∷ on_one_line (key w.close_paren ∷ [])))
    (stops (looks (stops (looks (stops (looks (takes one_in (stops (looks (stops (looks (passes (omega arith, λ y h. opening_before y h)))))))))))))
