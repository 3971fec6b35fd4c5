use Rattle.std.proofs.Common.{◌≡◌, drop}
use Rattle.lua_meaning.specs.Names.{is_among}
use Rattle.lua_upvalues.proofs.name_list.is_among.Given as goal

abbrev pub invariant-loop-one : goal.invariant-loop-one
invariant-loop-one l = is_among l.names l.name ≡ is_among (drop l.one-index l.names) l.name
