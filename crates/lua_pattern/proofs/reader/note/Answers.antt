use Rattle.std.proofs.Common.{List, Option, sym, ap, ◌∙◌}
use Rattle.std.specs.Prelude.{unwrap_or}
use Rattle.lua_pattern.specs.Reading.{captures_after}
use Rattle.lua_pattern.specs.declared.item.Item.{Item}
use Rattle.lua_pattern.specs.declared.mark.Mark.{Mark}
use Rattle.lua_pattern.proofs.reader.note.Goals as goal

pub returns-in-Some : goal.returns-in-Some
returns-in-Some c =
    let captures = c.args.captures.now in
    c.set.ensures
    ∙ sym (ap (λ (item : Item). captures_after item captures) c.in-Close.is ∙ ap (λ (closed : Option (List Mark)). unwrap_or closed captures) (c.in-Some.ensures.2 0))
