use Rattle.std.proofs.Common.{refl}
use Rattle.love_base.proofs.Distinct.{two_files_differ}
use Rattle.love_base_tests.proofs.memory_folders.asked_quiet.Goals as goal

pub new-folder-requires : goal.new-folder-requires
new-folder-requires c = two_files_differ _ _ _ c.in_ok-game.ensures refl
