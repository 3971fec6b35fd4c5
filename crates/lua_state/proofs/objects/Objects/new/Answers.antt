use Rattle.lua_state.proofs.Keeping.{kept_new}
use Rattle.lua_state.proofs.objects.Objects.new.Goals as goal

pub returns-clause-kept : goal.returns-clause-kept
returns-clause-kept c = kept_new _ c.empty.ensures c.new.ensures.items c.new-2.ensures.items c.new-3.ensures.items c.new-4.ensures.items c.new-5.ensures
