use Rattle.std.proofs.Common.{Some, ap, ◌∙◌}
use Rattle.crossing.proofs.Keeping.{Keeps-same, Keeps-store}
use Rattle.crossing.proofs.Unpacked.{unpacked-text}
use Rattle.crossing.proofs.unpacking.unpack_text.Goals as goal

pub returns-in_err-id-clause-kept : goal.returns-in_err-id-clause-kept
returns-in_err-id-clause-kept c = Keeps-same _ c.args.heap.now c.intern.new.self c.in_err-id.ensures.refused

pub returns-clause-unpacked : goal.returns-clause-unpacked
returns-clause-unpacked c = unpacked-text c.args.heap.now c.intern.new.self c.args.text.now c.in_ok-id.id (c.in_ok-id.ensures.id ∙ ap (λ text. Some text) c.bytes.ensures) c.in_ok-id.ensures.made c.in_ok-id.ensures.store

pub returns-clause-kept : goal.returns-clause-kept
returns-clause-kept c = Keeps-store _ c.args.heap.now c.intern.new.self c.in_ok-id.ensures.store c.in_ok-id.ensures.functions c.in_ok-id.ensures.extends
