use Rattle.std.proofs.Common.{sym}
use Rattle.lua_assembler.proofs.Jumping.{replaced}
use Rattle.lua_assembler.proofs.writer.Writer.replace.Goals as goal

pub returns : goal.returns
returns c = replaced _ _ _ _ _ _ (sym c.self.view_is) c.replace.ensures
