use Rattle.std.proofs.Common.{ℤ, ap, sym, subst}
use Rattle.lua_meaning.specs.Data.{part_of}
use Rattle.lua_lib.specs.Parts.{IsPart}
use Rattle.lua_lib.proofs.Parts.{part-minus}
use Rattle.lua_lib.proofs.call.contents.part_of.Goals as goal

pub returns-in-Plus : goal.returns-in-Plus
returns-in-Plus c =
    let P : ℤ → Type 0 = λ z. IsPart (part_of c.args.whole.now z c.args.size) c.part_from.result in
    subst P (sym c.in-Plus.ensures) c.part_from.ensures

pub returns-in-Minus : goal.returns-in-Minus
returns-in-Minus c = λ texts s. ap (λ part. part s) (part-minus c.args.whole.now _ c.args.offset c.args.size c.in-Minus.ensures)
