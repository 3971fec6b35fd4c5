use Rattle.std.proofs.Common.{length, arith, sym, ◌∙◌}
use Rattle.std.proofs.lemmas.List.{length-map}
use Rattle.std.proofs.lemmas.Result.{err_from_is_err_and}
use Rattle.lua_meaning.specs.Strings.{bytes_from}
use Rattle.lua_heap.specs.Value.{value_view}
use Rattle.lua_lib.specs.Causes.{values_of}
use Rattle.lua_lib.proofs.Pieces.{bytes-start, bytes-next, bytes-end, bytes-raises}
use Rattle.lua_lib.proofs.call.bytes.char_bytes.Goals as goal

pub loop-n-init : goal.loop-n-init
loop-n-init c =
    bytes-start (values_of c.args.heap.now c.args.args.now) (length c.args.args.now) c.new-bytes.result.items
    (sym (length-map c.args.args.now (value_view c.args.heap.now.texts))) c.new-bytes.ensures.items

pub loop-n-preserved : goal.loop-n-preserved
loop-n-preserved c = λ s.
    c.loop-n.invariant s
    ∙ bytes-next (values_of c.args.heap.now c.args.args.now) c.loop-n.bytes.items c.push.new.self.items c.in_ok-byte.byte c.loop-n.n (length c.args.args.now)
    (omega arith) c.in_ok-byte.ensures c.in_ok-push.ensures.items s

pub returns-in_err-byte : goal.returns-in_err-byte
returns-in_err-byte c =
    let vs = values_of c.args.heap.now c.args.args.now in
    let p = err_from_is_err_and c.from_residual.result c.from_residual.ensures.1 in
    rw (p.1, p.2) (bytes-raises vs (bytes_from 0 (length vs) vs) c.loop-n.bytes.items c.loop-n.n (length c.args.args.now) _ (omega arith) c.loop-n.invariant c.in_err-byte.ensures)

pub returns-in_err-push : goal.returns-in_err-push
returns-in_err-push c =
    let p = err_from_is_err_and c.from_residual-in_err-push.result c.from_residual-in_err-push.ensures.1 in
    rw (p.1, p.2) tt

pub returns : goal.returns
returns c = λ s.
    c.loop-n.invariant s
    ∙ bytes-end (values_of c.args.heap.now c.args.args.now) c.loop-n.bytes.items c.loop-n.n (length c.args.args.now) (omega arith) s
