use Rattle.std.proofs.Common.{sym, ap, ◌∙◌}
use Rattle.lua_table.specs.Table.{clear_key}
use Rattle.lua_table.proofs.PlacesLemmas.{clear_key-found, clear_key-absent}
use Rattle.lua_table.proofs.places.Places.clear.Goals as goal

pub returns : goal.returns
returns g c =
    let eq = g.K.PartialEq.eq in
    clear_key-found eq c.args.key.now c.self.inside.keys c.self.inside.values.items c.in-Some.place c.self.invariant (sym c.in-Some.ensures.place)
    ∙ ap (λ p. clear_key eq p c.args.key.now) c.self.view_is

pub returns-in_default : goal.returns-in_default
returns-in_default g c =
    let eq = g.K.PartialEq.eq in
    sym c.self.view_is ∙ sym (clear_key-absent eq c.args.key.now c.self.inside.keys c.self.inside.values.items (sym c.find.ensures.place ∙ c.in_default.is))
    ∙ ap (λ p. clear_key eq p c.args.key.now) c.self.view_is
