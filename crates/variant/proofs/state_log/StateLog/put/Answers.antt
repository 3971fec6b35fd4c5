use Rattle.std.proofs.Common.{subst, inl, inr}
use Rattle.variant.specs.LogParts.{IsEnd}
use Rattle.variant.proofs.Logging.{parts-begin, parts-asked, parts-told, parts-end}
use Rattle.variant.proofs.state_log.StateLog.put.Goals as goal

pub returns-in-Begin-clause-actions : goal.returns-in-Begin-clause-actions
returns-in-Begin-clause-actions c =
    rw (c.fill.ensures, ← c.self.view_is) (parts-begin _ _ _ _ _ c.in-Begin.is (rw (← c.self.view_is) at c.requires.order))

pub returns-in-Asked-clause-actions : goal.returns-in-Asked-clause-actions
returns-in-Asked-clause-actions c =
    let stays : IsEnd c.args.action.deed → ⊥ = λ ends. elim c.in-Asked.is [ inl asked ↦ subst IsEnd asked.1 ends | inr left ↦ subst IsEnd left.1 ends ] in
    let pushed = rw c.unwrap.ensures at c.push.ensures.items in
    rw (pushed, ← c.self.view_is) (parts-asked _ _ _ _ _ c.self.invariant stays (rw (← c.self.view_is) at c.requires.order))

pub returns-in-Told-clause-actions : goal.returns-in-Told-clause-actions
returns-in-Told-clause-actions c =
    let stays : IsEnd c.args.action.deed → ⊥ = λ ends. subst IsEnd c.in-Told.is ends in
    rw (c.fill-in-Told.ensures, ← c.self.view_is) (parts-told _ _ _ _ _ c.self.invariant stays (rw (← c.self.view_is) at c.requires.order))

pub returns-in-End-clause-actions : goal.returns-in-End-clause-actions
returns-in-End-clause-actions c =
    rw (c.fill-in-End.ensures, ← c.self.view_is) (parts-end _ _ _ _ _ c.self.invariant (rw (← c.self.view_is) at c.requires.order))
