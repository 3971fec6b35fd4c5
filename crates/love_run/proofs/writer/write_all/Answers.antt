use Rattle.std.proofs.Common.{◌∙◌, sym, ◌-◌, take, drop}
use Rattle.std.proofs.lemmas.List.{take-append-drop}
use Rattle.love_run.proofs.Writing.{on_err, piece_of, piece_within, piece_written}
use Rattle.love_run.proofs.writer.write_all.Goals as goal

-- what was written before is a part of the whole
pub returns-in_err-written-clause-part : goal.returns-in_err-written-clause-part
returns-in_err-written-clause-part g c =
    let out = c.args.out.now in
    let written = c.loop-written.written in
    on_err c.from_residual.result (take written out, (drop written out, sym (take-append-drop written out)), c.in_err-written.ensures.refused ∙ c.loop-written.invariant.taken)

pub loop-written-preserved : goal.loop-written-preserved
loop-written-preserved g c =
    let out = c.args.out.now in
    let written = c.loop-written.written in
    let count = c.in_ok-written.field-0 in
    let piece = piece_within out written c.min-end.result count c.loop-written.invariant.within c.in_ok-written.ensures.within in
    record {
      within = piece.0;
      taken = piece_written _ _ _ out (take (c.min-end.result - written) (drop written out)) written count c.loop-written.invariant.taken c.in_ok-written.ensures.taken (piece_of written (c.min-end.result - written) count out piece.1);
      steady = c.in_ok-written.ensures.steady (λ is. cc) ∙ c.loop-written.invariant.steady;
    }
