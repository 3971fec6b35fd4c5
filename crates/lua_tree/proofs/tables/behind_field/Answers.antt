use Rattle.std.proofs.Common.{◌≡◌, Some, refl, sym, ◌∙◌}
use Rattle.std.proofs.lemmas.Bool.{false≢true}
use Rattle.lua_tree.specs.Begins.{FieldEnd}
use Rattle.lua_tree.proofs.Descent.{handed}
use Rattle.lua_tree.proofs.TableSteps.{at_end, behind_comma, behind_semicolon, no_end}
use Rattle.lua_tree.proofs.tables.behind_field.Goals as goal
use Rattle.lua_tree.proofs.tables.behind_field.Goals.{then-is-via-then-is, then-is-via-else-is+then-is-2}

pub returns-then-is-clause-answer : goal.returns-then-is-clause-answer
returns-then-is-clause-answer c k words sp = elim c.then-is.branch [
  | then-is-via-then-is w ↦ behind_comma sp k c.args.at (c.is.ensures.value.0 w.if-is.true)
  | then-is-via-else-is+then-is-2 w ↦ behind_semicolon sp k c.args.at (w.is-else-is.ensures.value.0 w.if-is-2.true)
]

pub returns-in_err-expect-clause-answer : goal.returns-in_err-expect-clause-answer
returns-in_err-expect-clause-answer c k words sp =
    handed c.from_residual.result c.in_err-expect.field-0.0 (λ o. FieldEnd c.args.source.now k c.args.at o words) c.from_residual.ensures.1
    (no_end c.args.source.now k c.args.at words sp c.in_err-expect.field-0.0
    (λ e. false≢true (sym c.if-is.false ∙ c.is.ensures.value.1 e)) (λ e. false≢true (sym c.if-is-2.false ∙ c.is-else-is.ensures.value.1 e)) c.in_err-expect.ensures.err)

pub returns-clause-answer : goal.returns-clause-answer
returns-clause-answer c k words sp = at_end sp k c.args.at c.in_ok-expect.ensures.there
