use Rattle.lua_meaning.proofs.of_rows.Order.{rows_of_order as proved}
use Rattle.lua_meaning.proofs.rows.rows_of_order.Goals as goal

pub returns : goal.returns
returns c = proved
