-- A pass is ready for its next call after each step.
use Rattle.std.proofs.Common.{◌≡◌, ℕ, List, []}
use Rattle.variant.specs.declared.event.Sent.{Sent}
use Rattle.event_queue.specs.declared.view.View.{View}
use Rattle.event_queue.specs.Ready.{IsReady, IsNew}
use Rattle.event_queue.specs.Views.{pushed, popped, gave}

module _ (number passes : ℕ) where
  pub ready_new : (kept : List Sent) (v : View) → kept ≡ [] → IsNew number passes v → IsReady number passes kept v
  ready_new kept v none new = record { named = new.named; real = new.real; within = new.within; keeps = λ _. none; made = new.made; alone = new.alone }

  pub ready_pushed : (kept : List Sent) (v : View) (x : Sent) → IsReady number passes kept v → IsReady number passes kept (pushed x v)
  ready_pushed kept v x r = record { named = r.named; real = r.real; within = r.within; keeps = r.keeps; made = r.made; alone = r.alone }

  pub ready_popped : (kept : List Sent) (v : View) (x : Sent) → IsReady number passes kept v → IsReady number passes kept (popped x v)
  ready_popped kept v x r = record { named = r.named; real = r.real; within = r.within; keeps = r.keeps; made = r.made; alone = r.alone }

  -- pass 1 may keep whatever it likes
  pub ready_kept : (kept kept' : List Sent) (v : View) → number ≡ 1 → IsReady number passes kept v → IsReady number passes kept' v
  ready_kept kept kept' v one r = record { named = r.named; real = r.real; within = r.within; keeps = λ ne. absurd (ne one); made = r.made; alone = r.alone }

  pub ready_gave : (kept kept' : List Sent) (v : View) (x : Sent) → number ≡ 1 → IsReady number passes kept v → IsReady number passes kept' (gave x v)
  ready_gave kept kept' v x one r = record { named = r.named; real = r.real; within = r.within; keeps = λ ne. absurd (ne one); made = r.made; alone = r.alone }
