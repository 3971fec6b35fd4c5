use Rattle.std.proofs.Common.{sym, ap, ◌∙◌, length}
use Rattle.lua_table.proofs.PlacesLemmas.{length-zip}
use Rattle.lua_table.proofs.places.Places.len.Goals as goal

pub returns-clause-len : goal.returns-clause-len
returns-clause-len g c =
    c.len.ensures.len ∙ sym (length-zip c.self.inside.keys c.self.inside.values.items c.self.invariant) ∙ ap length c.self.view_is
