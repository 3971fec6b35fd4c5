use Rattle.std.proofs.Common.{◌≡◌, ◌<◌, ◌-◌, [], ◌∷◌, ◌++◌, All, vec_len, sym, subst, refl, ap, ◌∙◌, arith}
use Rattle.std.proofs.lemmas.List.{map-append, map-set}
use Rattle.turn_desk.specs.Closing.{HoldsNothing, views_of}
use Rattle.turn_desk.proofs.AllBack.{gathers_real}
use Rattle.turn_desk.proofs.Joining.{keeps_nothing, is_back, gathers_first, gathers_more}
use Rattle.turn_desk.proofs.Lists.{all_front, all_last}
use Rattle.turn_desk.proofs.Seats.{can_join}
use Rattle.turn_desk.proofs.closing.join_all.Goals as goal

pub loop-pass-init : goal.loop-pass-init
loop-pass-init g c = let l = g.O.Logged in let k = c.last.invariant in let popped = c.in-Some.ensures.items in let inside = c.last.inside in let me = inside.seat.me in let rest = c.pop.new.self.items in let last = c.in-Some.last in
    let own = all_last (λ p. p.desk ≡ record { table = c.args.table.now.shared.table_id; seats = vec_len c.args.rows.now }) rest last (subst (All (λ p. p.desk ≡ record { table = c.args.table.now.shared.table_id; seats = vec_len c.args.rows.now })) popped c.requires.own) in
    let free = all_last (λ p. HoldsNothing p.view) rest last (subst (All (λ p. HoldsNothing p.view)) popped c.requires.free) in
    let view = ap (λ p. p.view) (sym c.last.view_is) in let idle = subst HoldsNothing view free in
    let table = ap (λ p. p.desk.table) c.last.view_is ∙ ap (λ d. d.table) own in let seats = ap (λ p. p.desk.seats) c.last.view_is ∙ ap (λ d. d.seats) own in record {
      own = table;
      desk = all_front (λ p. p.desk ≡ record { table = c.args.table.now.shared.table_id; seats = vec_len c.args.rows.now }) rest last (subst (All (λ p. p.desk ≡ record { table = c.args.table.now.shared.table_id; seats = vec_len c.args.rows.now })) popped c.requires.own);
      free = all_front (λ p. HoldsNothing p.view) rest last (subst (All (λ p. HoldsNothing p.view)) popped c.requires.free);
      rows = refl;
      gathered = gathers_first _ _ inside.number _ (views_of rest) _ _ inside.fronts.items me (ap views_of popped ∙ (map-append (λ p. p.view) rest (last ∷ []) ∙ ap (λ v. views_of rest ++ v ∷ []) view))
          (keeps_nothing inside.number inside.fronts.items inside.kept.items _ inside.seat.table_id me k idle) (is_back _ _ inside.number inside.fronts.items inside.kept.items _ inside.seat.table_id me k idle seats (ap (λ t. t.slots) table))
          k.named k.seen (map-set (λ r. r.items) c.args.rows.now.items (inside.number - 1) inside.fronts);
    }

pub join_seat-requires : goal.join_seat-requires
join_seat-requires g c = let l = g.O.Logged in let k = c.pass.invariant in let popped = c.in-Some-pop.ensures.items in let inside = c.pass.inside in let me = inside.seat.me in let rest = c.pop-in-loop-pass.new.self.items in let pass = c.in-Some-pop.pass in let so_far = c.loop-pass.invariant in let seat = c.loop-pass.seat in
    let own = all_last (λ p. p.desk ≡ record { table = c.args.table.now.shared.table_id; seats = vec_len c.args.rows.now }) rest pass (subst (All (λ p. p.desk ≡ record { table = c.args.table.now.shared.table_id; seats = vec_len c.args.rows.now })) popped so_far.desk) in
    let free = all_last (λ p. HoldsNothing p.view) rest pass (subst (All (λ p. HoldsNothing p.view)) popped so_far.free) in
    let idle = subst HoldsNothing (ap (λ p. p.view) (sym c.pass.view_is)) free in
    let table = ap (λ p. p.desk.table) c.pass.view_is ∙ ap (λ d. d.table) own in (
      so_far.own,
      table,
      keeps_nothing inside.number inside.fronts.items inside.kept.items _ inside.seat.table_id me k idle,
      c.requires.words,
      can_join l.history l.fixed_number l.summed l.between seat.id inside.seat.id seat.me.0 me.0 (gathers_real _ _ _ _ _ _ seat.me so_far.gathered) (subst (λ n. 0 < n) k.named k.real) idle,
    )

pub index_mut-requires-in-Some-pop : goal.index_mut-requires-in-Some-pop
index_mut-requires-in-Some-pop g c = let k = c.pass.invariant in let popped = c.in-Some-pop.ensures.items in let inside = c.pass.inside in let rest = c.pop-in-loop-pass.new.self.items in let pass = c.in-Some-pop.pass in let so_far = c.loop-pass.invariant in
    let own = all_last (λ p. p.desk ≡ record { table = c.args.table.now.shared.table_id; seats = vec_len c.args.rows.now }) rest pass (subst (All (λ p. p.desk ≡ record { table = c.args.table.now.shared.table_id; seats = vec_len c.args.rows.now })) popped so_far.desk) in
    let seats = ap (λ p. p.desk.seats) c.pass.view_is ∙ ap (λ d. d.seats) own in let rows = so_far.rows in let low = k.real in let high = k.within in omega arith

pub loop-pass-preserved : goal.loop-pass-preserved
loop-pass-preserved g c = let k = c.pass.invariant in let popped = c.in-Some-pop.ensures.items in let inside = c.pass.inside in let me = inside.seat.me in let rest = c.pop-in-loop-pass.new.self.items in let pass = c.in-Some-pop.pass in let so_far = c.loop-pass.invariant in
    let own = all_last (λ p. p.desk ≡ record { table = c.args.table.now.shared.table_id; seats = vec_len c.args.rows.now }) rest pass (subst (All (λ p. p.desk ≡ record { table = c.args.table.now.shared.table_id; seats = vec_len c.args.rows.now })) popped so_far.desk) in
    let free = all_last (λ p. HoldsNothing p.view) rest pass (subst (All (λ p. HoldsNothing p.view)) popped so_far.free) in
    let view = ap (λ p. p.view) (sym c.pass.view_is) in let idle = subst HoldsNothing view free in
    let table = ap (λ p. p.desk.table) c.pass.view_is ∙ ap (λ d. d.table) own in let seats = ap (λ p. p.desk.seats) c.pass.view_is ∙ ap (λ d. d.seats) own in record {
      own = c.join_seat.ensures.0 ∙ so_far.own;
      desk = all_front (λ p. p.desk ≡ record { table = c.args.table.now.shared.table_id; seats = vec_len c.args.rows.now }) rest pass (subst (All (λ p. p.desk ≡ record { table = c.args.table.now.shared.table_id; seats = vec_len c.args.rows.now })) popped so_far.desk);
      free = all_front (λ p. HoldsNothing p.view) rest pass (subst (All (λ p. HoldsNothing p.view)) popped so_far.free);
      rows = so_far.rows;
      gathered = gathers_more _ _ inside.number _ (views_of c.loop-pass.passes.items) (views_of rest) _ _ _ inside.fronts.items c.loop-pass.seat.me _ me.0 so_far.gathered
          (ap views_of popped ∙ (map-append (λ p. p.view) rest (pass ∷ []) ∙ ap (λ v. views_of rest ++ v ∷ []) view))
          (is_back _ _ inside.number inside.fronts.items inside.kept.items _ inside.seat.table_id me k idle seats (ap (λ t. t.slots) table)) c.join_seat.ensures.2
          k.named k.seen (map-set (λ r. r.items) c.loop-pass.rows.items (inside.number - 1) inside.fronts);
    }
