use Rattle.std.proofs.Common.{◌<◌, None, length, sym, ap, ◌∙◌, arith}
use Rattle.std.proofs.lemmas.List.{get_or_read}
use Rattle.lua_table.specs.Table.{get}
use Rattle.lua_table.proofs.PlacesLemmas.{get-found, get-absent}
use Rattle.lua_table.proofs.places.Places.get.Goals as goal

pub returns-in-Some : goal.returns-in-Some
returns-in-Some g c =
    let eq = g.K.PartialEq.eq in
    let keys = c.self.inside.keys in
    let values = c.self.inside.values.items in
    let place = c.in-Some.place in
    let within : place < length values = omega (arith, c.in-Some.ensures.within, c.self.invariant) in
    c.as_ref.ensures.value ∙ get_or_read values _ _ within c.index.ensures None
    ∙ sym (get-found eq c.args.key.now keys values place c.self.invariant (sym c.in-Some.ensures.place)) ∙ ap (λ p. get eq p c.args.key.now) c.self.view_is

pub returns-in-None : goal.returns-in-None
returns-in-None g c =
    let eq = g.K.PartialEq.eq in
    sym (get-absent eq c.args.key.now c.self.inside.keys c.self.inside.values.items (sym c.in-None.ensures.place)) ∙ ap (λ p. get eq p c.args.key.now) c.self.view_is
