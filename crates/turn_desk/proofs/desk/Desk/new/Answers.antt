use Rattle.std.proofs.Common.{rules, ◌≡◌, [], map, arith, true, sym, ap, ◌∙◌}
use Rattle.std.proofs.lemmas.List.{length-map}
use Rattle.turn_desk.proofs.Callers.{opening_members}
use Rattle.turn_desk.proofs.Vacant.{opens}
use Rattle.turn_desk.proofs.desk.Desk.new.Goals as goal

pub vacant-requires : goal.vacant-requires
vacant-requires g c = let l = g.O.Logged in let count = c.len-count.result in let first = c.index.result.now in
    let fresh : l.history first ≡ [] = search rules in let between : l.between (l.history first) ≡ true = search rules in
    rw c.as_slice.ensures.value (opens l.history l.fixed_number l.summed l.between count c.summary.result c.in_ok-words.words.items c.in_ok-words.ensures (ap l.between (sym fresh) ∙ between) (ap l.summed (sym fresh) ∙ sym c.summary.ensures.summary) c.summary.ensures.fits)

pub returns-clause-members : goal.returns-clause-members
returns-clause-members g c = let l = g.O.Logged in let many = c.in_ok-rows.rows.ok.0 in let rows = c.in_ok-rows.ensures in let few = c.requires.seats.1 in
    opening_members _ (map l.fixed_number c.args.objects.items) _ (search rules) (omega arith) (length-map c.args.objects.items l.fixed_number ∙ (sym c.args.objects.ok.0 ∙ search rules))
