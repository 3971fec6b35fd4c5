use Rattle.std.proofs.Common.{◌≡◌, ℕ, suc, ◌+◌, ◌-◌, ◌≤◌, length, ap, subst, arith}
use Rattle.lua_machine.specs.View.{EngineView}
use Rattle.lua_machine.specs.Printing.{Passes}
use Rattle.lua_machine.proofs.Printed.{passes_on, passes_all}
use Rattle.lua_machine.proofs.engine.Engine.pass_texts.Goals as goal

pub loop-number-preserved : goal.loop-number-preserved
loop-number-preserved c =
    let n = c.loop-number.number in
    let e : suc n ≡ n + 1 = omega arith in
    passes_on c.args.from n (n + 1) c.args.self.now c.loop-number.self c.settle_text.new.self c.loop-number.invariant
    (subst (λ (k : ℕ). Passes n k c.loop-number.self c.settle_text.new.self) e c.in_ok-settle_text.ensures)

pub returns : goal.returns
returns c =
    let now = c.loop-number.invariant in
    let base = now.base in
    let long = now.long in
    let past_end = c.loop-number-test.false in
    let len = c.len.ensures in
    let base_is = ap (λ (y : EngineView). y.extra_base) c.self.view_is in
    let long_is = ap (λ (y : EngineView). length y.extras) c.self.view_is in
    passes_all c.args.from c.loop-number.number c.args.self.now c.loop-number.self now (omega (arith, base, long, past_end, len, base_is, long_is))
