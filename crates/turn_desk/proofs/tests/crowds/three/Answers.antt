use Rattle.std.proofs.Common.{sym, ap, ◌∙◌}
use Rattle.turn_desk.proofs.Callers.{takes_else, released_all}
use Rattle.turn_desk.proofs.tests.crowds.three.Goals as goal

pub returns-clause-ready : goal.returns-clause-ready
returns-clause-ready g c = let first = c.hold-first.ensures in let second = c.hold-second.ensures in let third = c.hold-third.ensures in (
  c.release-3.ensures.own ∙ (c.release-2.ensures.own ∙ (c.release.ensures.own ∙ (third.own ∙ (second.own ∙ (first.own ∙ c.requires.ready.0))))),
  released_all c.hold-third.new.pass.view _ _ _ _ _ _ _ _ _ c.release.ensures.released c.release-2.ensures.released c.release-3.ensures.released
      (λ p not_second not_first not_third. ap (λ x. x.phase)
      (takes_else _ _ 2 p _ third.taken (λ e. not_third (e ∙ sym third.object))
      ∙ (takes_else _ _ 1 p _ second.taken (λ e. not_second (e ∙ sym second.object)) ∙ takes_else _ _ 0 p _ first.taken (λ e. not_first (e ∙ sym first.object))))
      ∙ c.requires.ready.1 p),
)
