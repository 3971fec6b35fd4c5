use Rattle.std.proofs.Common.{◌≡◌, ℕ, ◌<◌, false, cond, eqb, length, Some, sym, ap, ◌∙◌, is_some, true≢false, arith}
use Rattle.std.specs.Map.{lookup}
use Rattle.lua_table.proofs.BorderLemmas.{Lawful}
use Rattle.lua_table.proofs.KeysLemmas.{AreFound-listed, AreFound-first, AreFound-hashed}
use Rattle.lua_table.specs.Places.{first_count, place_at}
use Rattle.lua_table.proofs.keys.enter.Goals as goal
use Rattle.lua_table.proofs.keys.enter.Goals.{then-is_some, else-is_some}

pub returns-in-Some-clause-ok : goal.returns-in-Some-clause-ok
returns-in-Some-clause-ok g c = λ keys l absent are.
    let lawful : Lawful g.K.PartialEq.eq g.K.Position.at_position g.K.Position.position_of =
    record { equivalence = g.met.K.Eq.laws; alike = g.met.K.Position.equal_is_same; inverse = g.met.K.Position.inverse } in
    AreFound-listed lawful are c.args.key absent c.in-Some.n c.in-Some.ensures.position c.list_place.new.listed.items
    (λ m. c.in_ok-list_place.ensures.ok m ∙ ap (λ p. cond (eqb m c.in-Some.n) (Some p) (place_at c.args.listed.now.items m)) (sym l))

pub returns-then-place-lt-FIRST_COUNT-clause-ok : goal.returns-then-place-lt-FIRST_COUNT-clause-ok
returns-then-place-lt-FIRST_COUNT-clause-ok g c = λ keys l absent are.
    let lawful : Lawful g.K.PartialEq.eq g.K.Position.at_position g.K.Position.position_of =
    record { equivalence = g.met.K.Eq.laws; alike = g.met.K.Position.equal_is_same; inverse = g.met.K.Position.inverse } in
    let kept : c.if-is_some.astray ≡ false → (c.args.astray.now ≡ false) × ((n : ℕ) → g.K.Position.position_of c.args.key ≡ Some n → ⊥) =
    elim c.if-is_some.branch [
      | then-is_some w ↦ λ e. absurd (true≢false (sym w.astray-is ∙ e))
      | else-is_some w ↦ λ e. (
        sym w.astray-is ∙ e,
        λ n is. absurd (true≢false (sym (c.is_some.ensures ∙ ap is_some (c.position.ensures ∙ is)) ∙ w.if-is_some.false)),
      )
    ] in
    let few : length keys < first_count = omega (arith, l, c.if-place-lt-FIRST_COUNT.true) in
    AreFound-first lawful are c.args.key absent few c.if-is_some.astray kept

pub returns-clause-ok : goal.returns-clause-ok
returns-clause-ok g c = λ keys l absent are.
    let lawful : Lawful g.K.PartialEq.eq g.K.Position.at_position g.K.Position.position_of =
    record { equivalence = g.met.K.Eq.laws; alike = g.met.K.Position.equal_is_same; inverse = g.met.K.Position.inverse } in
    let kept : c.if-is_some.astray ≡ false → (c.args.astray.now ≡ false) × ((n : ℕ) → g.K.Position.position_of c.args.key ≡ Some n → ⊥) =
    elim c.if-is_some.branch [
      | then-is_some w ↦ λ e. absurd (true≢false (sym w.astray-is ∙ e))
      | else-is_some w ↦ λ e. (
        sym w.astray-is ∙ e,
        λ n is. absurd (true≢false (sym (c.is_some.ensures ∙ ap is_some (c.position.ensures ∙ is)) ∙ w.if-is_some.false)),
      )
    ] in
    AreFound-hashed lawful are c.args.key absent c.if-is_some.astray kept c.hash_place.new.hashed.entries
    (λ other. c.in_ok-hash_place.ensures.ok other ∙ ap (λ p. cond (g.K.PartialEq.eq c.args.key other) (Some p) (lookup (g.K.PartialEq.eq other) c.args.hashed.now.entries)) (sym l))
