use Rattle.std.proofs.Common.{refl}
use Rattle.lua_state.proofs.Keeping.{kept_put}
use Rattle.lua_state.proofs.objects.Objects.put.Goals as goal

pub returns-clause-kept : goal.returns-clause-kept
returns-clause-kept c = kept_put c.args.self.now c.put.new.self c.args.ask c.args.acted _ c.requires.acted c.requires.done c.requires.goes_on c.requires.room (rw (c.requires.acted.object, c.requires.acted.place, c.stamp-by.ensures) refl) c.put.ensures.actions c.put.ensures.room
