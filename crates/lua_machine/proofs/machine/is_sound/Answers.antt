use Rattle.std.proofs.Common.{◌≡◌, List, length, sym, ap, subst, arith}
use Rattle.lua_code.specs.declared.program.File.{File}
use Rattle.lua_machine.proofs.Sound.{SoundUpTo, all_files}
use Rattle.lua_machine.proofs.machine.is_sound.Goals as goal

pub returns : goal.returns
returns c =
    let files = c.args.program.now.files in
    let long : length c.as_slice-file-items.result.now ≡ length files = ap (λ (fs : List File). length fs) c.as_slice-file-items.ensures in
    let end = c.loop-file.auto.file-index-end in
    let over = c.loop-file-test.false in
    λ state. all_files files c.loop-file.file-index (omega (arith, long, end, over)) c.loop-file.invariant
