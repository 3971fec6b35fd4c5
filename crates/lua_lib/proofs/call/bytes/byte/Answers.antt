use Rattle.std.proofs.Common.{ap, ◌∙◌}
use Rattle.std.proofs.lemmas.Result.{err_from_is_err_and}
use Rattle.lua_meaning.specs.Arguments.{answers}
use Rattle.lua_lib.proofs.ByteValues.{byte_values-are, byte_values-made}
use Rattle.lua_lib.proofs.Binding.{gives-then, raises-first, raises-then}
use Rattle.lua_lib.proofs.call.bytes.byte.Goals as goal

pub returns-in_err-text-clause-given : goal.returns-in_err-text-clause-given
returns-in_err-text-clause-given c =
    let p = err_from_is_err_and c.from_residual.result c.from_residual.ensures.1 in
    rw (p.1, p.2) (raises-first _ _ _ c.in_err-text.ensures)

pub returns-in_err-i-clause-given : goal.returns-in_err-i-clause-given
returns-in_err-i-clause-given c =
    let p = err_from_is_err_and c.from_residual-in_err-i.result c.from_residual-in_err-i.ensures.1 in
    rw (p.1, p.2) (raises-then _ _ _ _ c.in_ok-text.ensures (raises-first _ _ _ c.in_err-i.ensures))

pub returns-in_err-j-clause-given : goal.returns-in_err-j-clause-given
returns-in_err-j-clause-given c =
    let p = err_from_is_err_and c.from_residual-in_err-j.result c.from_residual-in_err-j.ensures.1 in
    rw (p.1, p.2) (raises-then _ _ _ _ c.in_ok-text.ensures (raises-then _ _ _ _ c.in_ok-i.ensures (raises-first _ _ _ c.in_err-j.ensures)))

pub returns-in_err-bytes-clause-given : goal.returns-in_err-bytes-clause-given
returns-in_err-bytes-clause-given c =
    let p = err_from_is_err_and c.from_residual-in_err-bytes.result c.from_residual-in_err-bytes.ensures.1 in
    rw (p.1, p.2) (raises-then _ _ _ _ c.in_ok-text.ensures (raises-then _ _ _ _ c.in_ok-i.ensures (raises-then _ _ _ _ c.in_ok-j.ensures (c.in_err-bytes.ensures.fault))))

pub returns-in_err-made-clause-given : goal.returns-in_err-made-clause-given
returns-in_err-made-clause-given c =
    let p = err_from_is_err_and c.from_residual-in_err-made.result c.from_residual-in_err-made.ensures.1 in
    rw (p.1, p.2) (tt)

pub returns-clause-given : goal.returns-clause-given
returns-clause-given c = gives-then _ _ _ _ c.in_ok-text.ensures (gives-then _ _ _ _ c.in_ok-i.ensures (gives-then _ _ _ _ c.in_ok-j.ensures (λ s. c.in_ok-bytes.ensures.ok s ∙ ap (λ vs. answers vs s) (byte_values-are c.args.heap.now.texts c.in_ok-bytes.bytes.now c.in_ok-made.made.items c.in_ok-made.ensures))))

pub returns-clause-made : goal.returns-clause-made
returns-clause-made c = byte_values-made c.args.heap.now c.in_ok-bytes.bytes.now c.in_ok-made.made.items c.in_ok-made.ensures
