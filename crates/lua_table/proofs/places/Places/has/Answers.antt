use Rattle.std.proofs.Common.{sym, ap, ◌∙◌, is_some}
use Rattle.lua_table.specs.Table.{has_place}
use Rattle.lua_table.proofs.PlacesLemmas.{has_place-zip}
use Rattle.lua_table.proofs.places.Places.has.Goals as goal

pub returns : goal.returns
returns g c =
    let eq = g.K.PartialEq.eq in
    c.is_some.ensures ∙ ap is_some c.find.ensures.place ∙ sym (has_place-zip eq c.args.key.now c.self.inside.keys c.self.inside.values.items c.self.invariant) ∙ ap (λ p. has_place eq p c.args.key.now) c.self.view_is
