use Rattle.std.proofs.Common.{refl}
use Rattle.crossing.proofs.Walk.{none-unknown}
use Rattle.crossing.proofs.pairs.pair_behind.Goals as goal

pub returns-in-Err : goal.returns-in-Err
returns-in-Err c = none-unknown c.args.table.now c.args.after (c.in-Err.ensures.unknown.0 refl)
