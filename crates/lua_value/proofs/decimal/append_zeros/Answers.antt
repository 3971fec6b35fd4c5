use Rattle.std.proofs.Common.{arith}
use Rattle.lua_value.proofs.Scaling.{shifted-gt}
use Rattle.lua_value.proofs.decimal.append_zeros.Goals as goal

pub returns-then-zeros-gt13 : goal.returns-then-zeros-gt13
returns-then-zeros-gt13 c = λ small. omega (arith, shifted-gt c.args.number c.args.zeros (omega arith) (omega arith))
