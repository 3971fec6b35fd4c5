use Rattle.lua_meaning.proofs.Views.{messages_seen as proved}
use Rattle.lua_meaning.proofs.laws.messages_seen.Goals as goal

pub returns : goal.returns
returns c = proved
