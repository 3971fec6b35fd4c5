use Rattle.std.proofs.Common.{ap}
use Rattle.love_base.specs.Folder.{stored}
use Rattle.love_base.proofs.Distinct.{no_files_differ}
use Rattle.love_base_tests.proofs.memory_folders.a_folder_may_be_empty.Goals as goal

pub new-quiet-requires : goal.new-quiet-requires
new-quiet-requires g c = no_files_differ _ (ap stored c.new.ensures.items)
