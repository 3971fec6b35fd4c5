use Rattle.std.proofs.Common.{◌≡◌, drop, map}
use Rattle.lua_meaning.specs.Names.{is_among}
use Rattle.lua_upvalues.proofs.locals.Locals.has.Given as goal

abbrev pub invariant-loop-one : goal.invariant-loop-one
invariant-loop-one l = is_among (map (λ name. name.now) l.one-items) l.name ≡ is_among (map (λ name. name.now) (drop l.one-index l.one-items)) l.name
