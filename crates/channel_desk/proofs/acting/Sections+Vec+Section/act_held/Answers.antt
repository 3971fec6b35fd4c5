use Rattle.std.proofs.Common.{◌≤◌, ◌∙◌, ap, sym, arith}
use Rattle.std.proofs.lemmas.Bool.Decides.{nat_tests}
use Rattle.variant.specs.declared.ask.Ask.TheVariants.{Leave}
use Rattle.channel_desk.proofs.Moves.{at_read, is_not, may_leave_last}
use Rattle.channel_desk.proofs.acting.Sections+Vec+Section.act_held.Goals as goal
use Rattle.channel_desk.proofs.acting.Sections+Vec+Section.act_held.Goals.{then-inner, else-inner}

pub act_leave-requires-clause-last : goal.act_leave-requires-clause-last
act_leave-requires-clause-last g c = elim c.if-inner.branch [
  | then-inner w ↦ absurd (let deep = w.if-inner.true in let value = w.value-is in let none = c.if-not-is_leave.false in let no : ⊥ = grind (arith, nat_tests) in no)
  | else-inner w ↦ let flat : c.index.result.now.depth ≤ 1 = omega arith in
      may_leave_last _ _ _ _ _ c.args.ask c.args.channel c.args.at c.index.result.now c.requires.holding (w.is_leave.ensures.yes (is_not c.if-inner.value w.is_leave.result w.value-is c.if-not-is_leave.false) ∙ ap Leave (sym c.requires.channel)) c.requires.leave
      (at_read c.args.self.now.held.items c.args.channel c.args.at c.requires.section.0 c.index.result.now c.requires.section.1 c.index.ensures) flat
]
