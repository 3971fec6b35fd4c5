use Rattle.std.proofs.Common.{sym, ap, ◌∙◌}
use Rattle.std.specs.Prelude.{codes}
use Rattle.lua_meaning.specs.Text.{as_text}
use Rattle.lua_meaning.specs.Arguments.{argument}
use Rattle.lua_heap.specs.Value.{value_view}
use Rattle.lua_lib.specs.Causes.{values_of}
use Rattle.lua_lib.proofs.Reading.{wanted-some, wanted-none}
use Rattle.lua_lib.proofs.call.arguments.text_argument.Goals as goal

pub returns-in-Some : goal.returns-in-Some
returns-in-Some c =
    let texts = c.args.heap.now.texts in
    let value = argument c.args.n (values_of c.args.heap.now c.args.args.now) in
    wanted-some c.args.n (codes "string") value (as_text value) c.in-Some.text.now
    (ap as_text (sym (c.argument-value.ensures.value texts)) ∙ c.in-Some.ensures)

pub returns-in-None : goal.returns-in-None
returns-in-None c =
    let texts = c.args.heap.now.texts in
    let value = argument c.args.n (values_of c.args.heap.now c.args.args.now) in
    wanted-none c.args.n (codes "string") value (value_view texts c.argument-value.result) (as_text value)
    (ap as_text (sym (c.argument-value.ensures.value texts)) ∙ c.in-None.ensures) (c.argument-value.ensures.value texts)

pub as_text-requires : goal.as_text-requires
as_text-requires c = c.argument-value.ensures.made c.args.heap.now c.requires
