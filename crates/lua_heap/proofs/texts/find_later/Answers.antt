use Rattle.std.proofs.Common.{sym, ◌∙◌, arith}
use Rattle.std.proofs.lemmas.Option.{slice_get_within}
use Rattle.lua_heap.proofs.TextsLemmas.{later-more}
use Rattle.lua_heap.proofs.texts.find_later.Goals as goal

pub loop-place-preserved : goal.loop-place-preserved
loop-place-preserved c =
    later-more c.args.texts.now c.args.later.now c.args.text.now c.loop-place.place-index c.get-other.result.now c.loop-place.invariant c.loop-place-test.true
    c.get-other.ensures.text (sym c.eq.ensures ∙ c.if-eq.false)

pub returns-clause-absent : goal.returns-clause-absent
returns-clause-absent c = λ none k place there same.
    c.loop-place.invariant k place (let within = slice_get_within c.args.later.now k place there in omega arith) there same
