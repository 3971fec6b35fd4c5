use Rattle.lua_meaning.specs.Data as meaning
use Rattle.lua_lib.specs.Causes.{values_of}
use Rattle.lua_lib.proofs.Calling.{called-same}
use Rattle.lua_lib.proofs.call.object_type.Goals as goal

pub returns-in-Ok : goal.returns-in-Ok
returns-in-Ok c =
    let h = c.args.heap.now in
    record { calls = c.text.ensures.calls (meaning.type (values_of h c.args.args.now)) c.in-Ok.ensures; made = c.text.ensures.made; extends = c.text.ensures.extends; functions = c.text.ensures.functions }

pub returns-in-Err : goal.returns-in-Err
returns-in-Err c = called-same _ c.args.heap.now _ _ c.in-Err.ensures tt
