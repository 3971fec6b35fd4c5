use Rattle.std.proofs.Common.{sym, ◌∙◌}
use Rattle.lua_lib.proofs.Arranged.{strings-on, strings-off, strings-end}
use Rattle.lua_lib.proofs.call.sorts.are_texts.Goals as goal

pub returns-in_default : goal.returns-in_default
returns-in_default c = λ texts. sym (c.loop-value.invariant texts ∙ strings-off texts c.args.values.now c.loop-value.value-index c.value-item.result c.loop-value-test.true c.value-item.is c.in_default.not-Str)

pub loop-value-preserved : goal.loop-value-preserved
loop-value-preserved c = λ texts. c.loop-value.invariant texts
    ∙ strings-on texts c.args.values.now c.loop-value.value-index c.value-item.result c.in-Str.field-0 c.loop-value-test.true c.value-item.is c.in-Str.is

pub returns : goal.returns
returns c = λ texts. sym (c.loop-value.invariant texts ∙ strings-end texts c.args.values.now c.loop-value.value-index c.loop-value-test.false)
