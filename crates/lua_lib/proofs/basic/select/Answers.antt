use Rattle.std.proofs.Common.{◌≡◌, ℕ, suc, ◌-◌, ◌<◌, drop, length, arith, ap, ◌∙◌}
use Rattle.std.proofs.lemmas.List.{take_rest}
use Rattle.lua_lib.proofs.Selecting.{select-from, select-behind}
use Rattle.lua_lib.proofs.basic.select.Goals as goal

pub returns-in-Plus-clause-ok : goal.returns-in-Plus-clause-ok
returns-in-Plus-clause-ok g c =
    let xs = c.args.arguments.now in
    let some : 0 < c.in-Plus.place = omega arith in
    select-from c.args.n c.in-Plus.place xs _ c.in-Plus.ensures some
    (take_rest xs c.min.result ∙ ap (λ (m : ℕ). drop m xs) c.min.ensures)

pub returns-in-Minus-clause-ok : goal.returns-in-Minus-clause-ok
returns-in-Minus-clause-ok g c =
    let xs = c.args.arguments.now in
    let passed : ℕ = length xs - c.in-Minus.behind - 1 in
    let place : length xs - c.in-Minus.behind - 1 ≡ length xs - suc c.in-Minus.behind = omega arith in
    select-behind c.args.n c.in-Minus.behind xs _ c.in-Minus.ensures (omega arith)
    (take_rest xs passed ∙ ap (λ (m : ℕ). drop m xs) place)

pub returns-in-Plus-clause-last : goal.returns-in-Plus-clause-last
returns-in-Plus-clause-last g c = (c.min.result, take_rest c.args.arguments.now c.min.result)

pub returns-in-Minus-clause-last : goal.returns-in-Minus-clause-last
returns-in-Minus-clause-last g c =
    let xs = c.args.arguments.now in
    let passed : ℕ = length xs - c.in-Minus.behind - 1 in
    (passed, take_rest xs passed)
