use Rattle.std.proofs.Common.{sym, ap, ◌∙◌}
use Rattle.std.specs.Prelude.{codes}
use Rattle.lua_meaning.specs.Arguments.{argument, as_table}
use Rattle.lua_heap.specs.Value.{value_view}
use Rattle.lua_lib.specs.Causes.{values_of}
use Rattle.lua_lib.proofs.Reading.{wanted-some}
use Rattle.lua_lib.proofs.call.arguments.table_argument.Goals as goal

pub returns-in-Table-clause-taken : goal.returns-in-Table-clause-taken
returns-in-Table-clause-taken c =
    let texts = c.args.heap.now.texts in
    let value = argument c.args.n (values_of c.args.heap.now c.args.args.now) in
    wanted-some c.args.n (codes "table") value (as_table value) c.in-Table.id
    (ap as_table (sym (c.argument-value.ensures.value texts)) ∙ ap (λ v. as_table (value_view texts v)) c.in-Table.is)
