use Rattle.std.proofs.Common.{ap, sym, ◌∙◌}
use Rattle.std.specs.Prelude.{Some}
use Rattle.lua_compile.proofs.Storing.{own_there, own_many}
use Rattle.lua_compile.proofs.assignments.own_slot.Goals as goal
use Rattle.lua_compile.proofs.assignments.own_slot.Goals.{then-targets-ne1-via-then-targets-ne1, then-targets-ne1-via-else-targets-ne1+then-values-ne1}

pub returns-then-targets-ne1-clause-slot : goal.returns-then-targets-ne1-clause-slot
returns-then-targets-ne1-clause-slot c = elim c.then-targets-ne1.branch [
  | then-targets-ne1-via-then-targets-ne1 w ↦ own_many c.args.targets.now c.args.values.now c.args.scope.now (λ m n. w.if-targets-ne1.true m)
  | then-targets-ne1-via-else-targets-ne1+then-values-ne1 w ↦ own_many c.args.targets.now c.args.values.now c.args.scope.now (λ m n. w.if-values-ne1.true n)
]

pub returns-then-is_ready_slot-clause-slot : goal.returns-then-is_ready_slot-clause-slot
returns-then-is_ready_slot-clause-slot c =
    ap (λ n. Some n) c.left_slot.ensures
    ∙ own_there c.args.targets.now c.args.values.now c.index-targets-0.result c.args.scope.now c.if-targets-ne1.false c.if-values-ne1.false c.index-targets-0.is
    (sym c.is_ready_slot.ensures ∙ c.if-is_ready_slot.true)
