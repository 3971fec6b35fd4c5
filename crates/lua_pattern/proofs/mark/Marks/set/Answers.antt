use Rattle.std.proofs.Common.{◌<◌, ap, ◌∙◌, length, arith, List}
use Rattle.std.proofs.lemmas.List.{length-take}
use Rattle.std.proofs.Math.Seq.{take-set-lt}
use Rattle.std.specs.Prelude.{slice_set}
use Rattle.lua_pattern.specs.declared.mark.Mark.{Mark}
use Rattle.lua_pattern.proofs.mark.Marks.set.Goals as goal

pub returns : goal.returns
returns c =
    let small : c.args.i < c.self.inside.count = omega (arith, c.requires, ap length c.self.view_is, length-take c.self.inside.count c.self.inside.marks) in
    take-set-lt c.self.inside.count c.self.inside.marks c.args.i c.args.mark small ∙ ap (λ (ms : List Mark). slice_set ms c.args.i c.args.mark) c.self.view_is
