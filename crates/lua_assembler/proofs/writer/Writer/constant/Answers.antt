use Rattle.std.proofs.Common.{sym}
use Rattle.lua_assembler.proofs.Writing.{constant_ok}
use Rattle.lua_assembler.proofs.writer.Writer.constant.Goals as goal

pub returns-clause-ok : goal.returns-clause-ok
returns-clause-ok c = constant_ok _ _ _ _ _ (sym c.self.view_is) c.in_ok-number.ensures.same_code c.in_ok-number.ensures.ok
