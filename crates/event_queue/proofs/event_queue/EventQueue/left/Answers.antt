use Rattle.std.proofs.Common.{◌≡◌, ◌++◌, sym, subst, ap, ◌∙◌}
use Rattle.event_queue.specs.Closing.{AreDelivered, EndsWith}
use Rattle.event_queue.proofs.Delivery.{delivered, in_order, kept_last}
use Rattle.event_queue.proofs.event_queue.EventQueue.left.Goals as goal

pub returns-clause-kept : goal.returns-clause-kept
returns-clause-kept g c =
    let h = c.in_ok-pop_all.ensures in let kept = c.join_all-seat.result.1.items in
    let is : c.from_vec.result ≡ h.0 ++ kept = c.from_vec.ensures ∙ (c.in_ok-put_all.ensures ∙ ap (λ l. l ++ kept) (h.1 ∙ ap (λ l. l ++ h.0) c.new-left.ensures.items)) in
    λ k p at one. subst (λ l. EndsWith l p.kept) (sym is) (kept_last c.args.self c.args.passes.items kept h.0 _ _ c.join_all-seat.ensures.all h.2 k p at one)

pub returns-clause-delivered : goal.returns-clause-delivered
returns-clause-delivered g c =
    let h = c.in_ok-pop_all.ensures in let kept = c.join_all-seat.result.1.items in let passes = c.args.passes.items in
    let is : c.from_vec.result ≡ h.0 ++ kept = c.from_vec.ensures ∙ (c.in_ok-put_all.ensures ∙ ap (λ l. l ++ kept) (h.1 ∙ ap (λ l. l ++ h.0) c.new-left.ensures.items)) in
    λ k p at one. subst (λ l. AreDelivered passes (p.polled ++ l)) (sym is) (delivered c.args.self passes kept h.0 _ _ c.requires.all c.join_all-seat.ensures.all h.2 k p at one)

pub returns-clause-in_order : goal.returns-clause-in_order
returns-clause-in_order g c k p at one = in_order c.args.passes.items _ (returns-clause-delivered g c k p at one)
