use Rattle.std.proofs.Common.{sym, ap, ◌∙◌}
use Rattle.lua_meaning.specs.Number.{read}
use Rattle.lua_meaning.specs.Text.{as_number}
use Rattle.lua_heap.specs.Value.{value_view}
use Rattle.lua_lib.proofs.Reading.{text_at-is}
use Rattle.lua_lib.proofs.call.arguments.as_number.Goals as goal

pub returns-in-Str : goal.returns-in-Str
returns-in-Str c =
    c.read.ensures ∙ (ap read (text_at-is c.args.heap.now.texts c.in-Str.id c.string.result.now c.string.ensures.text)
    ∙ ap (λ v. as_number (value_view c.args.heap.now.texts v)) (sym c.in-Str.is))
