use Rattle.lua_state.proofs.Beginning.{faulty_result, has_start, not_none, ready_result}
use Rattle.lua_state.proofs.alone.run_alone.Goals as goal

pub unreachable-requires : goal.unreachable-requires
unreachable-requires c = not_none c.args.program.now c.main_file.result.now c.requires.built c.main_file.ensures c.in-NotLua.is

pub returns-in-Faulty-clause-run : goal.returns-in-Faulty-clause-run
returns-in-Faulty-clause-run c = faulty_result c.args.program.now c.args.steps c.main_file.result.now c.in-Faulty.text c.requires.built c.main_file.ensures c.in-Faulty.is c.faulty.result c.faulty.ensures.none c.faulty.ensures.out c.faulty.ensures.end c.faulty.ensures.waiting

pub run-requires-clause-starts : goal.run-requires-clause-starts
run-requires-clause-starts c = has_start c.args.program.now c.args.steps c.main_file.result.now c.in-Ready.code c.requires.built c.main_file.ensures c.in-Ready.is

pub returns-in-Ready-clause-run : goal.returns-in-Ready-clause-run
returns-in-Ready-clause-run c = ready_result c.args.program.now c.args.steps c.main_file.result.now c.in-Ready.code c.requires.built c.main_file.ensures c.in-Ready.is c.run.result c.run.ensures.ran
