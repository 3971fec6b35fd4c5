use Rattle.std.proofs.Common.{refl}
use Rattle.lua_lib.proofs.Walked.{none-unknown}
use Rattle.lua_lib.proofs.call.keys.key_behind.Goals as goal

pub returns-in-Err : goal.returns-in-Err
returns-in-Err c = none-unknown c.args.table.now c.args.after (c.in-Err.ensures.unknown.0 refl)
