use Rattle.std.proofs.Common.{sym}
use Rattle.lua_assembler.proofs.Writing.{put_ok}
use Rattle.lua_assembler.proofs.writer.Writer.put.Goals as goal

pub returns : goal.returns
returns c = put_ok _ _ _ _ _ _ (sym c.self.view_is) c.in_ok-put.ensures.ok
