use Rattle.std.proofs.Common.{◌≡◌, ℕ, ◌+◌, [], ◌∷◌, ◌++◌, All, map, replicate, vec_len, append_assoc, sym, subst, ap, ◌∙◌, arith}
use Rattle.std.proofs.lemmas.List.{map-append}
use Rattle.turn_desk.specs.View.{received, brought, freed, opening}
use Rattle.turn_desk.proofs.Lists.{all_front, all_last}
use Rattle.turn_desk.proofs.Vacant.{put_one}
use Rattle.turn_desk.proofs.opening.put_all.Goals as goal

pub put_in-requires-clause-fresh : goal.put_in-requires-clause-fresh
put_in-requires-clause-fresh g c = let l = g.O.Logged in let popped = c.in-Some.ensures.items in
    all_last (λ x. l.history x ≡ []) c.pop.new.self.items c.in-Some.value (subst (All (λ x. l.history x ≡ [])) popped c.loop-value.invariant.1)

pub loop-value-preserved : goal.loop-value-preserved
loop-value-preserved g c = let l = g.O.Logged in let popped = c.in-Some.ensures.items in let value = c.in-Some.value in let rest = c.pop.new.self in let so_far = c.loop-value.invariant in let done = so_far.2 in let seats = c.args.seat.now.me.0.seats in
    let number = l.fixed_number value in
    let object = c.len.ensures in
    let counted : vec_len c.loop-value.objects ≡ vec_len rest + 1 = (let e = c.in-Some.ensures.len in omega arith) in (
      c.put_in.ensures.own ∙ so_far.0,
      all_front (λ x. l.history x ≡ []) rest.items value (subst (All (λ x. l.history x ≡ [])) popped so_far.1),
      number ∷ done,
      sym (append_assoc (map l.fixed_number rest.items) (number ∷ []) done) ∙ (ap (λ xs. xs ++ done) (sym (ap (map l.fixed_number) popped ∙ map-append l.fixed_number rest.items (value ∷ []))) ∙ so_far.3),
      c.put_in.ensures.put ∙ (ap (λ m. (freed c.len.result (brought c.len.result number (received c.len.result [] m.0)), m.1)) so_far.4
          ∙ (ap (λ (k : ℕ). (freed k (brought k number (received k [] (opening 1 2 seats (vec_len c.loop-value.objects) (replicate (vec_len c.loop-value.objects) 0 ++ done)))), [])) object
          ∙ (ap (λ (k : ℕ). (freed (vec_len rest) (brought (vec_len rest) number (received (vec_len rest) [] (opening 1 2 seats k (replicate k 0 ++ done)))), [])) counted
          ∙ ap (λ v. (v, [])) (put_one seats (vec_len rest) number done)))),
    )
