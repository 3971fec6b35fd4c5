use Rattle.lua_lib.proofs.Calling.{called-here, called-elsewhere, called-untouched, called-made, called-extends, called-functions}
use Rattle.lua_lib.proofs.call.call.Goals as goal

pub returns-clause-calls : goal.returns-clause-calls
returns-clause-calls c = called-here _ _ _ _ _ _ c.given.ensures

pub returns-clause-elsewhere : goal.returns-clause-elsewhere
returns-clause-elsewhere c = called-elsewhere _ _ _ _ _ _ c.given.ensures

pub returns-clause-untouched : goal.returns-clause-untouched
returns-clause-untouched c = called-untouched _ _ _ _ _ _ c.given.ensures

pub returns-clause-made : goal.returns-clause-made
returns-clause-made c = called-made _ _ _ _ _ _ c.given.ensures

pub returns-clause-extends : goal.returns-clause-extends
returns-clause-extends c = called-extends _ _ _ _ _ _ c.given.ensures

pub returns-clause-functions : goal.returns-clause-functions
returns-clause-functions c = called-functions _ _ _ _ _ _ c.given.ensures
