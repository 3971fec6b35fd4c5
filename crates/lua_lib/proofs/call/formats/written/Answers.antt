use Rattle.std.proofs.Common.{◌≡◌, List, [], ℕ, ◌∷◌, length, arith, ap, sym, subst, ◌∙◌}
use Rattle.std.proofs.lemmas.Result.{err_from_is_err_and}
use Rattle.lua_meaning.specs.Format.{text_from}
use Rattle.lua_lib.specs.Causes.{values_of, error_of}
use Rattle.lua_lib.specs.Faults.{RaisesBy}
use Rattle.lua_lib.specs.Pieces.{put_before}
use Rattle.lua_lib.proofs.Written.{none-of, written-end, written-raises}
use Rattle.lua_lib.proofs.call.formats.written.Goals as goal

pub put_piece-requires-clause-room : goal.put_piece-requires-clause-room
put_piece-requires-clause-room c =
    let size = ap (λ (t : List ℕ). length t) c.in-Some.ensures in
    let count = c.loop-byte.invariant.count in
    omega arith

pub returns-in_err-left : goal.returns-in_err-left
returns-in_err-left c =
    let h = c.args.heap.now in
    let vs = values_of h c.args.args.now in
    let n = c.loop-byte.argument in
    let p = err_from_is_err_and c.from_residual.result c.from_residual.ensures.1 in
    let P : List ℕ → Type 0 = λ t. RaisesBy (text_from t n vs) (error_of h.texts p.0) in
    let fails : P (c.in-Some.byte ∷ c.in-Some.behind.now) = rw p.2 c.in_err-left.ensures.fault in
    rw p.1 (written-raises n vs (text_from c.args.format.now 1 vs) c.loop-byte.made.items c.loop-byte.rest.now _ c.loop-byte.invariant.text (subst P (sym c.in-Some.ensures) fails))

pub loop-byte-preserved : goal.loop-byte-preserved
loop-byte-preserved c =
    let vs = values_of c.args.heap.now c.args.args.now in
    let size = ap (λ (t : List ℕ). length t) c.in-Some.ensures in
    let count = c.loop-byte.invariant.count in
    let next = c.in_ok-left.ensures.next in
    record {
      text = λ s.
          c.loop-byte.invariant.text s
          ∙ (ap (λ (t : List ℕ). put_before c.loop-byte.made.items (text_from t c.loop-byte.argument vs) s) c.in-Some.ensures
          ∙ c.in_ok-left.ensures.put s);
      count = omega arith;
    }

pub loop-byte-smaller : goal.loop-byte-smaller
loop-byte-smaller c =
    let size = ap (λ (t : List ℕ). length t) c.in-Some.ensures in
    let shorter = c.in_ok-left.ensures.shorter in
    omega arith

pub returns : goal.returns
returns c = λ s.
    let none : c.loop-byte.rest.now ≡ [] = none-of c.split_first.result (c.loop-byte.rest.now ≡ []) _ c.split_first.ensures c.in_default.not-Some in
    c.loop-byte.invariant.text s
    ∙ written-end c.loop-byte.argument (values_of c.args.heap.now c.args.args.now) c.loop-byte.made.items c.loop-byte.rest.now s none
