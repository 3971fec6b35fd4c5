use Rattle.std.proofs.Common.{sym, ◌∙◌, arith}
use Rattle.event_queue.proofs.Rule.{can_push}
use Rattle.event_queue.proofs.event_queue.EventQueue.send.Goals as goal

pub push_as-requires-clause-rule : goal.push_as-requires-clause-rule
push_as-requires-clause-rule g c = let k = c.pass.invariant.0 in λ n. can_push n _ _ _ (let a = k.named in let b = k.real in omega arith) (λ e. c.if-pass-eq1.false (sym k.named ∙ e))
