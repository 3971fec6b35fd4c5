use Rattle.love_run.proofs.OneFile.{one_path}
use Rattle.love_run.proofs.tests.folder.Goals as goal

pub new-requires : goal.new-requires
new-requires c = one_path _ _ c.in_ok-files.ensures.items
