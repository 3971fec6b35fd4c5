use Rattle.love_base.proofs.folder_walk.walk.Given as goal

abbrev pub decreases-loop-folder : goal.decreases-loop-folder
decreases-loop-folder g l = l.left
