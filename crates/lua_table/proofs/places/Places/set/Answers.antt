use Rattle.std.proofs.Common.{◌≡◌, false, sym, ap, ◌∙◌, is_some, true≢false}
use Rattle.lua_table.specs.Table.{set, has_place}
use Rattle.lua_table.proofs.PlacesLemmas.{has_place-zip, set-found}
use Rattle.lua_table.proofs.places.Places.set.Goals as goal

pub add-requires : goal.add-requires
add-requires g c =
    let eq = g.K.PartialEq.eq in
    ap (λ p. has_place eq p c.args.key) (sym c.self.view_is) ∙ has_place-zip eq c.args.key c.self.inside.keys c.self.inside.values.items c.self.invariant
    ∙ ap is_some (sym c.in-None.ensures.place)

pub returns-in-Some-clause-ok : goal.returns-in-Some-clause-ok
returns-in-Some-clause-ok g c =
    let eq = g.K.PartialEq.eq in
    set-found eq c.args.key c.self.inside.keys c.self.inside.values.items c.args.value c.in-Some.place c.self.invariant (sym c.in-Some.ensures.place)
    ∙ ap (λ p. set eq p c.args.key c.args.value) c.self.view_is

pub returns-in-None-clause-placed : goal.returns-in-None-clause-placed
returns-in-None-clause-placed g c = λ placed.
    let eq = g.K.PartialEq.eq in
    let none : has_place eq c.args.self.now c.args.key ≡ false =
    ap (λ p. has_place eq p c.args.key) (sym c.self.view_is) ∙ has_place-zip eq c.args.key c.self.inside.keys c.self.inside.values.items c.self.invariant
    ∙ ap is_some (sym c.in-None.ensures.place) in
    absurd (true≢false (sym placed ∙ none))
