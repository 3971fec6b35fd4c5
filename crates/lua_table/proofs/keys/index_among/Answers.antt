use Rattle.std.proofs.Common.{length, sym, ◌∙◌, refl, arith}
use Rattle.std.proofs.lemmas.Option.{slice_get_read}
use Rattle.lua_table.proofs.KeysLemmas.{index_of-here, index_of-nowhere, apart-more}
use Rattle.lua_table.proofs.keys.index_among.Goals as goal

pub returns-then-eq : goal.returns-then-eq
returns-then-eq g c =
    let keys = c.args.keys.now in
    let there = slice_get_read keys (length keys) c.loop-index.index c.index-keys-index.result refl (omega arith) c.index-keys-index.is in
    sym (index_of-here g.K.PartialEq.eq c.args.key.now keys c.loop-index.index c.index-keys-index.result c.loop-index.invariant there (sym c.eq.ensures ∙ c.if-eq.true))

pub loop-index-preserved : goal.loop-index-preserved
loop-index-preserved g c =
    let keys = c.args.keys.now in
    let there = slice_get_read keys (length keys) c.loop-index.index c.index-keys-index.result refl (omega arith) c.index-keys-index.is in
    apart-more g.K.PartialEq.eq c.args.key.now keys c.loop-index.index c.index-keys-index.result c.loop-index.invariant there (sym c.eq.ensures ∙ c.if-eq.false)

pub returns : goal.returns
returns g c = sym (index_of-nowhere g.K.PartialEq.eq c.args.key.now c.args.keys.now c.loop-index.index (omega arith) c.loop-index.invariant)
