use Rattle.lua_machine.proofs.Sound.{SoundUpTo}
use Rattle.lua_machine.proofs.machine.is_sound.Given as goal

abbrev pub invariant-loop-file : goal.invariant-loop-file
invariant-loop-file l = SoundUpTo l.program.files l.file-index
