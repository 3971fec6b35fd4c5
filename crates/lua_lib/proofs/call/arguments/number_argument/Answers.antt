use Rattle.std.proofs.Common.{sym, ap, ◌∙◌}
use Rattle.std.specs.Prelude.{codes}
use Rattle.lua_meaning.specs.Text.{as_number}
use Rattle.lua_meaning.specs.Arguments.{argument}
use Rattle.lua_heap.specs.Value.{value_view}
use Rattle.lua_lib.specs.Causes.{values_of}
use Rattle.lua_lib.proofs.Reading.{wanted-some, wanted-none}
use Rattle.lua_lib.proofs.call.arguments.number_argument.Goals as goal

pub returns-in-Some : goal.returns-in-Some
returns-in-Some c =
    let texts = c.args.heap.now.texts in
    let value = argument c.args.n (values_of c.args.heap.now c.args.args.now) in
    wanted-some c.args.n (codes "number") value (as_number value) c.in-Some.number
    (ap as_number (sym (c.argument-value.ensures.value texts)) ∙ sym c.in-Some.ensures)

pub returns-in-None : goal.returns-in-None
returns-in-None c =
    let texts = c.args.heap.now.texts in
    let value = argument c.args.n (values_of c.args.heap.now c.args.args.now) in
    wanted-none c.args.n (codes "number") value (value_view texts c.argument-value.result) (as_number value)
    (ap as_number (sym (c.argument-value.ensures.value texts)) ∙ sym c.in-None.ensures) (c.argument-value.ensures.value texts)

pub as_number-requires : goal.as_number-requires
as_number-requires c = c.argument-value.ensures.made c.args.heap.now c.requires
