use Rattle.std.proofs.Common.{◌≡◌, ℕ, List, [], ◌++◌, All, map, replicate, vec_len}
use Rattle.turn_desk.specs.View.{opening}
use Rattle.turn_desk.proofs.opening.put_all.Given as goal

abbrev pub invariant-loop-value : goal.invariant-loop-value
invariant-loop-value g l =
    (l.seat.table_id ≡ l.fn.seat.table_id)
    × All (λ x. g.O.Logged.history x ≡ []) l.objects.items
    × (done : List ℕ)
    × (map g.O.Logged.fixed_number l.objects.items ++ done ≡ map g.O.Logged.fixed_number l.fn.objects.items)
    × (l.seat.me ≡ (opening 1 2 l.fn.seat.me.0.seats (vec_len l.objects) (replicate (vec_len l.objects) 0 ++ done), []))

abbrev pub decreases-loop-value : goal.decreases-loop-value
decreases-loop-value g l = vec_len l.objects

abbrev pub ghosts-put_in : goal.ghosts-put_in
ghosts-put_in g a = record { object = a.object; number = g.O.Logged.fixed_number a.value; log = [] }
