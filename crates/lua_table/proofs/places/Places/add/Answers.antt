use Rattle.std.proofs.Common.{◌∷◌, [], ◌++◌, ap, ◌∙◌}
use Rattle.std.specs.List.{zip}
use Rattle.lua_table.specs.Table.{set, has_place}
use Rattle.lua_table.proofs.PlacesLemmas.{absent-by, set-absent}
use Rattle.lua_table.proofs.places.Places.add.Goals as goal

pub add-requires : goal.add-requires
add-requires g c =
    let eq = g.K.PartialEq.eq in
    record { absent = absent-by eq c.args.key c.self.inside.keys c.self.inside.values.items c.self.invariant (ap (λ p. has_place eq p c.args.key) c.self.view_is ∙ c.requires) }

pub returns-clause-ok : goal.returns-clause-ok
returns-clause-ok g c =
    let eq = g.K.PartialEq.eq in
    let key = c.args.key in
    let keys = c.self.inside.keys in
    let values = c.self.inside.values.items in
    let absent = absent-by eq key keys values c.self.invariant (ap (λ p. has_place eq p key) c.self.view_is ∙ c.requires) in
    ap (λ ks. zip ks c.push.new.self.items) c.in_default.ensures.ok ∙ ap (zip (keys ++ key ∷ [])) c.in_ok-push.ensures.items
    ∙ set-absent eq key keys values c.args.value c.self.invariant absent ∙ ap (λ p. set eq p key c.args.value) c.self.view_is
