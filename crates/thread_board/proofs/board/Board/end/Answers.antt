use Rattle.std.proofs.Common.{◌≡◌, ap, Some, true, false, arith, length, length-append, vec_capacity}
use Rattle.thread_board.specs.declared.place.Started.{Started}
use Rattle.thread_board.specs.View.{BoardView}
use Rattle.thread_board.specs.Register.{Register, register, is_working, numbered}
use Rattle.thread_board.specs.Sound.{kept_names}
use Rattle.thread_board.specs.Lawful.{IsLater}
use Rattle.thread_board.proofs.Registering.{numbered-read}
use Rattle.thread_board.proofs.Soundness.{IsSound-end, working-kept, count-working, working}
use Rattle.thread_board.proofs.board.Board.end.Goals as goal

pub overflow_sub-self : goal.overflow_sub-self
overflow_sub-self c =
    let history = ap (λ (v : BoardView). v.history) c.self.view_is in
    let works : is_working (register c.self.inside.history.items) c.args.by.state ≡ true = rw history c.requires.working in
    (count-working _ _ _ _ _ c.args.by.state c.self.invariant works).0

pub append-requires-clause-room : goal.append-requires-clause-room
append-requires-clause-room c =
    let history = ap (λ (v : BoardView). v.history) c.self.view_is in
    let works : is_working (register c.self.inside.history.items) c.args.by.state ≡ true = rw history c.requires.working in
    (count-working _ _ _ _ _ c.args.by.state c.self.invariant works).1

pub invariant_of-self : goal.invariant_of-self
invariant_of-self c =
    let history = ap (λ (v : BoardView). v.history) c.self.view_is in
    let works : is_working (register c.self.inside.history.items) c.args.by.state ≡ true = rw history c.requires.working in
    let later : IsLater c.self.inside.history.items c.args.by = rw history c.requires.later in
    let r : Register = (record { entries = length c.self.inside.history.items; channels = c.self.inside.channels; names = kept_names c.self.inside.names.entries; threads = c.self.inside.threads.items; states = c.self.inside.states.items; waiting = c.self.inside.jobs.items; begun = c.self.inside.begun; main_end = c.self.inside.main_end }) in
    let kept : is_working r c.args.by.state ≡ true = working-kept _ _ _ _ _ c.args.by.state c.self.invariant works in
    let found : (started : Started) × (numbered r.states c.args.by.state ≡ Some started) × (started.ended ≡ false) = (working r c.args.by.state kept).1 in
    let read : c.index.result.now ≡ found.0 = numbered-read c.self.inside.states.items c.args.by.state found.0 c.index.result.now found.1 c.index.ensures in
    let at : c.len-at.result ≡ length c.self.inside.history.items = omega (arith, c.len-at.ensures, c.self.inside.history.ok.0) in
    let one = count-working _ _ _ _ _ c.args.by.state c.self.invariant works in
    rw (c.append.ensures.items, c.set_thread.ensures, at, read, length-append)
    (IsSound-end _ _ r _ _ _ (vec_capacity c.append.new.history) c.args.by c.args.end found.0 c.self.invariant kept found.1 found.2 (omega (arith, one.0)) later c.append.ensures.capacity)
