use Rattle.lua_lib.proofs.call.data.type_argument.Goals as goal

pub object_type-requires : goal.object_type-requires
object_type-requires c = c.argument-value.ensures.made c.args.heap.now c.requires
