use Rattle.lua_state.proofs.Beginning.{none_main}
use Rattle.lua_state.proofs.alone.main_file.Goals as goal

pub unreachable-requires : goal.unreachable-requires
unreachable-requires c = none_main c.as_slice-files.result.now c.args.program.now.files c.loop-file.file-index c.loop-file-test.false c.loop-file.invariant c.as_slice-files.ensures c.requires.main
