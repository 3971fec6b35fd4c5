use Rattle.std.proofs.Common.{◌+◌, ◌≤◌, None, arith}
use Rattle.std.specs.Arc.{arc_value}
use Rattle.love_base.proofs.Parts.{slice_range-slice_range}
use Rattle.love_base.proofs.data.Data.view.Goals as goal

pub returns-clause-part : goal.returns-clause-part
returns-clause-part c =
    let within : c.args.offset + c.args.size ≤ c.self.inside.size = omega arith in
    let same = slice_range-slice_range (arc_value c.self.inside.whole).bytes.items c.self.inside.offset c.self.inside.size c.args.offset c.args.size within in
    rw (c.in_ok-try_clone.ensures, ← c.self.view_is) (λ i. record { bytes = same i; name = None })
