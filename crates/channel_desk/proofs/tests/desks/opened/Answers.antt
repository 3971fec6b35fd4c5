use Rattle.std.proofs.Common.{◌≡◌, ◌+◌, ◌<◌, ◌∙◌, ap, length, List, arith}
use Rattle.turn_desk.specs.Passes.{object_count}
use Rattle.channel_desk.specs.declared.shared.Shared.{Shared}
use Rattle.channel_desk.specs.Opened.{laid_out}
use Rattle.channel_desk.proofs.Opened.{all_between, all_fresh, length_laid, opening_laid}
use Rattle.channel_desk.proofs.tests.desks.opened.Goals as goal

pub new-requires-clause-fresh : goal.new-requires-clause-fresh
new-requires-clause-fresh c = all_fresh 1 1024 _ c.in_ok-objects.ensures

pub new-requires-clause-between : goal.new-requires-clause-between
new-requires-clause-between c = all_between 1 1024 _ c.in_ok-objects.ensures

pub returns : goal.returns
returns c =
    let count = c.in_ok-desk.ensures.objects in let long = c.in_ok-objects.objects.ok.0 in
    let l : length c.in_ok-objects.objects.items ≡ 1024 + 1 = ap (λ (xs : List Shared). length xs) c.in_ok-objects.ensures ∙ length_laid 1 1024 in
    let wide : 1024 < object_count c.in_ok-desk.desk = omega (arith, count, long, l) in
    record { laid = opening_laid c.in_ok-desk.desk 1 1024 c.in_ok-objects.objects.items c.in_ok-desk.passes.items c.in_ok-desk.ensures.passes c.in_ok-objects.ensures (omega arith) wide }
