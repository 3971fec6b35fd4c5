use Rattle.std.proofs.Common.{sym}
use Rattle.std.proofs.lemmas.Result.{on_ok_weaker}
use Rattle.lua_assembler.proofs.Drafts.{known_same}
use Rattle.lua_assembler.proofs.draft.Draft.add_constant.Goals as goal

pub returns-clause-same_code : goal.returns-clause-same_code
returns-clause-same_code c = on_ok_weaker c.add_constant.result (λ h. known_same _ _ _ _ (sym c.self.view_is) c.self.invariant h) c.add_constant.ensures.ok
