use Rattle.std.proofs.Common.{rules, subst, set, [], ◌<◌, ◌≡◌, ◌∷◌, ◌++◌, Some, None, sym, refl, ap, ◌∙◌, length}
use Rattle.atomic_table.specs.Table.{turned, rest}
use Rattle.turn_desk.specs.declared.view.Phase.TheVariants.{Free}
use Rattle.turn_desk.specs.View.{spot}
use Rattle.turn_desk.specs.Grew.{Grew, nothing}
use Rattle.turn_desk.proofs.Callers.{took_grew, refused_grew}
use Rattle.turn_desk.proofs.Keeping.{desk_kept, keeps_taken, keeps_refused, keeps_same, keeps_member}
use Rattle.turn_desk.proofs.Rows.{first_of, read_first}
use Rattle.turn_desk.proofs.desk.Desk.try_hold.Goals as goal

pub exchange-requires : goal.exchange-requires
exchange-requires g c = let got = c.take-found.ensures.took.0 c.if-found-ne0.false in
    (search rules, (Some got.0, first_of _ _ _ (ap (λ m. m.1) got.1)))

pub invariant_of-pass-2 : goal.invariant_of-pass-2
invariant_of-pass-2 g c = let l = g.O.Logged in let k = c.pass.invariant in let o = c.args.object in let old = c.pass.inside.seat.me in
    let got = c.take-found.ensures.took.0 c.if-found-ne0.false in let swapped = c.exchange.ensures in
    let here = ap (λ m. m.1) got.1 in
    let same : got.0 ≡ c.unwrap-value.result = read_first _ _ _ _ _ _ _ here swapped.2 c.unwrap-value.ensures in
    let me = c.turn.ensures.2 ∙ (ap (λ m. (m.0, turned m.1)) swapped.3 ∙ ap (λ m. (m.0, rest m.1 ++ (o, None) ∷ [])) got.1) in
    let free : (spot old.0 o).phase ≡ Free = search rules in
    let inside : o < c.pass.inside.seat.table_id.slots = search rules in
    keeps_same c.pass.inside.number _ _ _ _ _ _ _ _ _ _
    (ap (λ n. set c.pass.inside.fronts.items o n) (ap (λ x. length (l.history x)) same ∙ sym c.length.ensures.length)) (sym c.push_reserved.ensures.items) (sym c.push_reserved.ensures.capacity)
    (sym (c.turn.ensures.0 ∙ (swapped.0 ∙ c.take-found.ensures.own.0))) (sym me)
    (keeps_taken c.pass.inside.number c.pass.inside.fronts.items c.pass.inside.kept.items _ c.pass.inside.seat.table_id old o (l.history got.0) inside free got.2.continues.front k)

pub invariant_of-pass : goal.invariant_of-pass
invariant_of-pass g c = let inside = c.pass.inside in let missed = c.take-found.ensures.took.1 c.if-found-ne0.true in
    keeps_same inside.number _ _ _ _ _ _ _ _ _ _ refl refl refl (sym c.take-found.ensures.own.0) (sym missed.0)
    (keeps_refused inside.number inside.fronts.items inside.kept.items _ inside.seat.table_id inside.seat.me c.args.object c.take-found.result missed.1 c.pass.invariant)

pub returns-then-found-ne0-clause-member : goal.returns-then-found-ne0-clause-member
returns-then-found-ne0-clause-member g c = let missed = c.take-found.ensures.took.1 c.if-found-ne0.true in
    keeps_member _ _ _ _ _ _ _ _ (invariant_of-pass g c) refl (desk_kept _ _ _ _ _ c.take-found.ensures.own.0 (ap (λ m. m.0.seats) missed.0) (ap (λ p. p.desk) c.pass.view_is) ∙ c.requires.own)

pub returns-then-found-ne0-clause-was_member : goal.returns-then-found-ne0-clause-was_member
returns-then-found-ne0-clause-was_member g c = keeps_member _ _ _ _ _ _ _ _ c.pass.invariant c.pass.view_is c.requires.own

pub returns-clause-was_member : goal.returns-clause-was_member
returns-clause-was_member g c = keeps_member _ _ _ _ _ _ _ _ c.pass.invariant c.pass.view_is c.requires.own

pub returns-clause-grew : goal.returns-clause-grew
returns-clause-grew g c = let l = g.O.Logged in let o = c.args.object in let old = c.pass.inside.seat.me in
    let got = c.take-found.ensures.took.0 c.if-found-ne0.false in let swapped = c.exchange.ensures in
    let me = c.turn.ensures.2 ∙ (ap (λ m. (m.0, turned m.1)) swapped.3 ∙ ap (λ m. (m.0, rest m.1 ++ (o, None) ∷ [])) got.1) in
    let inside : o < length old.0.spots = search rules in
    subst (λ v. Grew nothing v c.turn.new.self.me.0) (ap (λ p. p.view) c.pass.view_is) (took_grew l.summed l.between old.0 c.turn.new.self.me.0 o (l.history got.0) inside (ap (λ m. m.0) me) got.2.continues)

pub returns-then-found-ne0-clause-grew : goal.returns-then-found-ne0-clause-grew
returns-then-found-ne0-clause-grew g c = let missed = c.take-found.ensures.took.1 c.if-found-ne0.true in
    subst (λ v. Grew nothing v c.take-found.new.seat.me.0) (ap (λ p. p.view) c.pass.view_is) (refused_grew c.pass.inside.seat.me.0 c.take-found.new.seat.me.0 c.args.object c.take-found.result (ap (λ m. m.0) missed.0))
