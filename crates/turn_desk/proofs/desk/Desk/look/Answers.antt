use Rattle.std.proofs.Common.{rules, ◌+◌, ◌/◌, ◌%◌, set, sym, refl, subst, ap, ◌∙◌, arith}
use Rattle.turn_desk.specs.Steps.{IsTally}
use Rattle.turn_desk.specs.View.{spot, looked}
use Rattle.turn_desk.proofs.Callers.{looked_grew}
use Rattle.turn_desk.proofs.Keeping.{keeps_looked, keeps_same, keeps_member, desk_kept}
use Rattle.turn_desk.proofs.Looks.{can_look, parted}
use Rattle.turn_desk.proofs.desk.Desk.look.Goals as goal

pub load-tally-requires : goal.load-tally-requires
load-tally-requires g c = let l = g.O.Logged in let seat = c.pass.inside.seat in let k = c.pass.invariant in (
  search rules,
  (let e = c.turn_word-word.ensures in let words = c.self.invariant.0 in let inside = c.requires.object in let slots = ap (λ d. d.table.slots) c.self.view_is in omega arith),
  rw c.turn_word-word.ensures (can_look l.history l.fixed_number l.summed l.between c.self.inside.table.shared.table_id.slots c.args.object seat.id seat.me (search rules) (let a = k.named in let b = k.real in omega arith)),
)

pub invariant_of-pass : goal.invariant_of-pass
invariant_of-pass g c = let saw = c.load-tally.ensures.2 c.args.object (ap (λ n. n + 1) c.turn_word-word.ensures) in let is = parted c.load-tally.result saw.0 saw.1 saw.2 saw.4 in let inside = c.pass.inside in
    keeps_same inside.number _ _ _ _ _ _ _ _ _ _ (ap (λ n. set inside.fronts.items c.args.object n) (sym is.0)) refl refl (sym c.load-tally.ensures.0) (sym saw.6)
    (keeps_looked inside.number inside.fronts.items inside.kept.items _ inside.seat.table_id inside.seat.me c.args.object saw.0 saw.1 (search rules) (let a = saw.5.continues.front in let b = saw.5.long in omega arith) c.pass.invariant)

pub returns-clause-looked : goal.returns-clause-looked
returns-clause-looked g c = let saw = c.load-tally.ensures.2 c.args.object (ap (λ n. n + 1) c.turn_word-word.ensures) in let is = parted c.load-tally.result saw.0 saw.1 saw.2 saw.4 in let view = ap (λ p. p.view) c.pass.view_is in
    ap (λ m. m.0) saw.6 ∙ (λ i. looked c.args.object (sym is.0 i) (sym is.1 i) (view i))

pub returns-clause-tally : goal.returns-clause-tally
returns-clause-tally g c = let l = g.O.Logged in let saw = c.load-tally.ensures.2 c.args.object (ap (λ n. n + 1) c.turn_word-word.ensures) in let is = parted c.load-tally.result saw.0 saw.1 saw.2 saw.4 in let view = ap (λ p. p.view) c.pass.view_is in
    subst (λ v. IsTally l.summed l.between v c.args.object (c.load-tally.result / 4398046511104) (c.load-tally.result % 4398046511104)) view
    (subst (λ n. IsTally l.summed l.between c.pass.inside.seat.me.0 c.args.object n (c.load-tally.result % 4398046511104)) (sym is.0) (subst (λ n. IsTally l.summed l.between c.pass.inside.seat.me.0 c.args.object saw.0 n) (sym is.1) saw.5))

pub returns-clause-front : goal.returns-clause-front
returns-clause-front g c = let saw = c.load-tally.ensures.2 c.args.object (ap (λ n. n + 1) c.turn_word-word.ensures) in let is = (parted c.load-tally.result saw.0 saw.1 saw.2 saw.4).0 in let front = ap (λ p. (spot p.view c.args.object).front) c.pass.view_is in
    let a = saw.5.continues.front in let b = saw.5.long in omega arith

pub returns-clause-own : goal.returns-clause-own
returns-clause-own g c = let saw = c.load-tally.ensures.2 c.args.object (ap (λ n. n + 1) c.turn_word-word.ensures) in desk_kept _ _ _ _ _ c.load-tally.ensures.0 (ap (λ m. m.0.seats) saw.6) (ap (λ p. p.desk) c.pass.view_is)

pub returns-clause-member : goal.returns-clause-member
returns-clause-member g c = keeps_member _ _ _ _ _ _ _ _ (invariant_of-pass g c) refl (returns-clause-own g c ∙ c.requires.own)

pub returns-clause-was_member : goal.returns-clause-was_member
returns-clause-was_member g c = keeps_member _ _ _ _ _ _ _ _ c.pass.invariant c.pass.view_is c.requires.own

pub returns-clause-grew : goal.returns-clause-grew
returns-clause-grew g c = looked_grew _ _ c.args.object _ _ (returns-clause-front g c) (returns-clause-looked g c)
