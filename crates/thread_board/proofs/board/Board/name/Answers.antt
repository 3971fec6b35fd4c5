use Rattle.std.proofs.Common.{◌+◌, ◌≤◌, ◌≡◌, ap, sym, ◌∙◌, None, arith, length-append, vec_capacity}
use Rattle.std.proofs.lemmas.Grind.{common_steps}
use Rattle.thread_board.specs.View.{BoardView}
use Rattle.thread_board.specs.Register.{Register, register, channel_of}
use Rattle.thread_board.specs.Sound.{owed, kept_names}
use Rattle.thread_board.specs.Lawful.{IsLater}
use Rattle.thread_board.proofs.Registering.{kept_names-insert}
use Rattle.thread_board.proofs.Soundness.{IsSound-name}
use Rattle.thread_board.proofs.board.Board.name.Goals as goal

pub invariant_of-self-2 : goal.invariant_of-self-2
invariant_of-self-2 c =
    let history = ap (λ (v : BoardView). v.history) c.self.view_is in
    let stands = c.self.invariant.same ∙ ap (λ (v : BoardView). register v.history) c.self.view_is in
    let later : IsLater c.self.inside.history.items c.args.by = rw history c.requires.later in
    let begun : c.args.by.state ≤ c.self.inside.begun = omega (arith, ap (λ (r : Register). r.begun) stands, c.requires.begun) in
    let owes = c.owed-owed.ensures ∙ ap (λ (v : BoardView). owed v.workers (register v.history)) (sym c.self.view_is) ∙ ap (λ (r : Register). owed c.self.inside.workers r) (sym c.self.invariant.same) in
    let fresh : channel_of (kept_names c.self.inside.names.entries) c.args.name.now ≡ None = ap (λ (r : Register). channel_of r.names c.args.name.now) stands ∙ sym c.known.ensures ∙ c.in_default.is in
    let added = kept_names-insert c.self.inside.names c.in_ok-key.key (c.self.inside.channels + 1) c.args.name.now (c.in_ok-key.ensures.items ∙ c.bytes.ensures) fresh in
    rw (c.append-place.ensures.items, c.in_ok-reserve.ensures.items, c.in_ok-insert.ensures.entries, added, c.in_ok-copy.ensures, length-append)
    (IsSound-name _ _ _ _ _ (vec_capacity c.append-place.new.history) c.args.by c.args.name.now c.self.invariant fresh (omega arith) begun later (grind (arith, common_steps)))
