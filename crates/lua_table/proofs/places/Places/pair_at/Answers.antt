use Rattle.std.proofs.Common.{◌≡◌, suc, ◌+◌, ◌<◌, None, Some, length, drop, sym, ap, ◌∙◌, arith}
use Rattle.std.proofs.lemmas.List.{get_or_read}
use Rattle.std.specs.List.{zip}
use Rattle.lua_table.specs.Table.{first}
use Rattle.lua_table.proofs.PlacesLemmas.{length-zip, slice_get-zip, first-drop, first-cleared}
use Rattle.lua_table.proofs.places.Places.pair_at.Goals as goal

pub index-requires : goal.index-requires
index-requires g c =
    let l : length c.args.self.now ≡ length c.self.inside.keys = sym (ap length c.self.view_is) ∙ length-zip c.self.inside.keys c.self.inside.values.items c.self.invariant in
    omega (arith, l, c.requires, c.self.invariant, c.self.inside.values.ok.0)

pub get-requires : goal.get-requires
get-requires g c =
    let l : length c.args.self.now ≡ length c.self.inside.keys = sym (ap length c.self.view_is) ∙ length-zip c.self.inside.keys c.self.inside.values.items c.self.invariant in
    omega (arith, l, c.requires)

pub returns-in-Some-clause-value : goal.returns-in-Some-clause-value
returns-in-Some-clause-value g c =
    let keys = c.self.inside.keys in
    let values = c.self.inside.values.items in
    let index = c.args.index in
    let l : length c.args.self.now ≡ length keys = sym (ap length c.self.view_is) ∙ length-zip keys values c.self.invariant in
    let within : index < length values = omega (arith, l, c.requires, c.self.invariant) in
    let there = slice_get-zip keys values index c.get.result.now None c.self.invariant c.get.ensures
    ∙ ap (λ v. Some (c.get.result.now, v)) (sym (get_or_read values _ _ within c.index.ensures None) ∙ sym c.in-Some.ensures.value) in
    ap (λ p. first (drop index p)) (sym c.self.view_is) ∙ first-drop (zip keys values) index c.get.result.now (Some c.in-Some.value.now) there

pub returns-in-None-clause-cleared : goal.returns-in-None-clause-cleared
returns-in-None-clause-cleared g c =
    let keys = c.self.inside.keys in
    let values = c.self.inside.values.items in
    let index = c.args.index in
    let l : length c.args.self.now ≡ length keys = sym (ap length c.self.view_is) ∙ length-zip keys values c.self.invariant in
    let within : index < length values = omega (arith, l, c.requires, c.self.invariant) in
    let inside : index < length keys = omega (arith, l, c.requires) in
    let none = sym (get_or_read values _ _ within c.index.ensures None) ∙ sym c.in-None.ensures.value in
    let step : suc index ≡ index + 1 = omega arith in
    ap (λ p. first (drop index p)) (sym c.self.view_is) ∙ first-cleared keys values index c.self.invariant inside none
    ∙ ap (λ n. first (drop n (zip keys values))) step ∙ ap (λ p. first (drop (index + 1) p)) c.self.view_is
