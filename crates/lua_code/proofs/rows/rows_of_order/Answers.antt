use Rattle.lua_code.proofs.of_rows.Order.{rows_of_order as proved}
use Rattle.lua_code.proofs.rows.rows_of_order.Goals as goal

pub returns : goal.returns
returns c = proved
