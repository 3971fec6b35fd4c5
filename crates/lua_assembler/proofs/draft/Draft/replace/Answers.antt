use Rattle.lua_assembler.proofs.Jumping.{draft_replaced}
use Rattle.lua_assembler.proofs.draft.Draft.replace.Goals as goal

pub returns : goal.returns
returns c = (c.index.result.now.site, draft_replaced _ _ _ _ c.self.view_is)
