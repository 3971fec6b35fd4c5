use Rattle.lua_tree.proofs.FaultRows as proved
use Rattle.lua_tree.proofs.laws.faults.Goals as goal

pub returns-clause-break_alone : goal.returns-clause-break_alone
returns-clause-break_alone c = proved.break_alone

pub returns-clause-name_behind_return : goal.returns-clause-name_behind_return
returns-clause-name_behind_return c = proved.name_behind_return

pub returns-clause-dots_inside : goal.returns-clause-dots_inside
returns-clause-dots_inside c = proved.dots_inside

pub returns-clause-call_on_next_line : goal.returns-clause-call_on_next_line
returns-clause-call_on_next_line c = proved.call_on_next_line
