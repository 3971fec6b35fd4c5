use Rattle.std.proofs.Common.{ℤ, pos, ◌<◌, ◌≤◌, length, arith, ap, sym, subst}
use Rattle.lua_meaning.specs.Data.{part_of}
use Rattle.lua_lib.specs.Parts.{IsPart}
use Rattle.lua_lib.proofs.Parts.{part-past, part-no_size}
use Rattle.lua_lib.proofs.call.contents.part_from.Goals as goal

pub returns-then-offset-size : goal.returns-then-offset-size
returns-then-offset-size c = λ texts s.
    let past : length c.args.whole.now.bytes < c.args.offset = let e = c.size.ensures in let b = c.if-offset-size.true in omega arith in
    ap (λ part. part s) (part-past c.args.whole.now c.args.offset c.args.size past)

pub returns-in-Plus : goal.returns-in-Plus
returns-in-Plus c =
    let P : ℤ → Type 0 = λ z. IsPart (part_of c.args.whole.now (pos c.args.offset) z) c.part_at.result in
    subst P (sym c.in-Plus.ensures) c.part_at.ensures

pub returns-in-Minus : goal.returns-in-Minus
returns-in-Minus c = λ texts s.
    let within : c.args.offset ≤ length c.args.whole.now.bytes = let e = c.size.ensures in let b = c.if-offset-size.false in omega arith in
    ap (λ part. part s) (part-no_size c.args.whole.now c.args.offset _ c.args.size c.in-Minus.ensures within)
