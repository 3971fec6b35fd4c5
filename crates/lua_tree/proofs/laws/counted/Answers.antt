use Rattle.lua_tree.proofs.Rows as proved
use Rattle.lua_tree.proofs.laws.counted.Goals as goal

pub returns-clause-sums : goal.returns-clause-sums
returns-clause-sums c = proved.sums

pub returns-clause-parens : goal.returns-clause-parens
returns-clause-parens c = proved.parens

pub returns-clause-local_names : goal.returns-clause-local_names
returns-clause-local_names c = proved.local_names

pub returns-clause-blocks : goal.returns-clause-blocks
returns-clause-blocks c = proved.blocks

pub returns-clause-arms : goal.returns-clause-arms
returns-clause-arms c = proved.arms

pub returns-clause-ends : goal.returns-clause-ends
returns-clause-ends c = proved.ends

pub returns-clause-breaks : goal.returns-clause-breaks
returns-clause-breaks c = proved.breaks
