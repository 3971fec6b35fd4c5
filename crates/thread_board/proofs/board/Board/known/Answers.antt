use Rattle.std.proofs.Common.{ap, sym, ◌∙◌}
use Rattle.thread_board.specs.Register.{Register, channel_of, register}
use Rattle.thread_board.proofs.Registering.{channel_of-kept}
use Rattle.thread_board.proofs.board.Board.known.Goals as goal

pub returns : goal.returns
returns c =
    let kept = channel_of-kept c.self.inside.names.entries c.args.name.now in
    let names = ap (λ (r : Register). channel_of r.names c.args.name.now) (c.self.invariant.same ∙ ap (λ h. register h.history) c.self.view_is) in
    let looked = rw c.bytes.ensures at c.get.ensures.value in
    c.copied.ensures ∙ looked ∙ sym kept ∙ names
