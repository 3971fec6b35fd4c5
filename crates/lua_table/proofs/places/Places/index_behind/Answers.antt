use Rattle.std.proofs.Common.{◌≡◌, suc, ◌+◌, Ok, length, drop, is_some, sym, ap, ◌∙◌, arith}
use Rattle.std.specs.List.{zip}
use Rattle.lua_table.specs.Table.{first, has_place, next_after}
use Rattle.lua_table.proofs.PlacesLemmas.{length-zip, has_place-zip, next_after-found}
use Rattle.lua_table.proofs.places.Places.index_behind.Goals as goal

pub returns-in_err-find-clause-known : goal.returns-in_err-find-clause-known
returns-in_err-find-clause-known g c =
    let eq = g.K.PartialEq.eq in
    ap is_some c.from_residual.ensures ∙ ap is_some c.in_err-find.ensures.place
    ∙ sym (has_place-zip eq c.args.key.now c.self.inside.keys c.self.inside.values.items c.self.invariant) ∙ ap (λ p. has_place eq p c.args.key.now) c.self.view_is

pub returns-clause-within : goal.returns-clause-within
returns-clause-within g c =
    let l : length c.args.self.now ≡ length c.self.inside.keys = sym (ap length c.self.view_is) ∙ length-zip c.self.inside.keys c.self.inside.values.items c.self.invariant in
    omega (arith, l, c.in_ok-find.ensures.within)

pub returns-clause-found : goal.returns-clause-found
returns-clause-found g c =
    let eq = g.K.PartialEq.eq in
    let places = zip c.self.inside.keys c.self.inside.values.items in
    let place = c.in_ok-find.field-0 in
    let step : suc place ≡ place + 1 = omega arith in
    ap (λ p. next_after eq p c.args.key.now) (sym c.self.view_is)
    ∙ next_after-found eq c.args.key.now c.self.inside.keys c.self.inside.values.items place c.self.invariant (sym c.in_ok-find.ensures.place)
    ∙ ap (λ n. Ok (first (drop n places))) step ∙ ap (λ p. Ok (first (drop (place + 1) p))) c.self.view_is

pub returns-clause-known : goal.returns-clause-known
returns-clause-known g c =
    let eq = g.K.PartialEq.eq in
    ap is_some c.in_ok-find.ensures.place
    ∙ sym (has_place-zip eq c.args.key.now c.self.inside.keys c.self.inside.values.items c.self.invariant) ∙ ap (λ p. has_place eq p c.args.key.now) c.self.view_is
