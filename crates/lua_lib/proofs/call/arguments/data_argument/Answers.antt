use Rattle.std.proofs.Common.{sym, ap, ◌∙◌}
use Rattle.std.specs.Prelude.{codes}
use Rattle.lua_meaning.specs.Arguments.{argument, as_datum}
use Rattle.lua_heap.specs.Value.{value_view}
use Rattle.lua_lib.specs.Causes.{values_of}
use Rattle.lua_lib.proofs.Reading.{wanted-some}
use Rattle.lua_lib.proofs.call.arguments.data_argument.Goals as goal

pub returns-in-Data-clause-taken : goal.returns-in-Data-clause-taken
returns-in-Data-clause-taken c =
    let texts = c.args.heap.now.texts in
    let value = argument c.args.n (values_of c.args.heap.now c.args.args.now) in
    wanted-some c.args.n (codes "Data") value (as_datum value) c.in-Data.id
    (ap as_datum (sym (c.argument-value.ensures.value texts)) ∙ ap (λ v. as_datum (value_view texts v)) c.in-Data.is)
