-- The rows on what is counted, computed.
use Rattle.std.proofs.Common.{refl}
use Rattle.lua_tree.specs.Rows.{Sums, Parens, Locals, Blocks, Arms300, Ends, Breaks}

pub sums : Sums
sums z = (refl, refl)

pub parens : Parens
parens z = (refl, refl)

pub local_names : Locals
local_names a = (refl, refl)

pub blocks : Blocks
blocks = (refl, refl)

pub arms : Arms300
arms a = refl

pub ends : Ends
ends a = (refl, refl)

pub breaks : Breaks
breaks a = (refl, refl)
