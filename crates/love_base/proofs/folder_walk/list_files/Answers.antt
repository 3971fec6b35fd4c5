use Rattle.love_base.proofs.Distinct.{distinct_after_dedup, rising_after_dedup}
use Rattle.love_base.proofs.folder_walk.list_files.Goals as goal

pub returns-clause-sorted : goal.returns-clause-sorted
returns-clause-sorted g c = rising_after_dedup _ _ c.in_ok-sort.ensures.sorted c.dedup.ensures.filtered

pub returns-clause-differ : goal.returns-clause-differ
returns-clause-differ g c = distinct_after_dedup _ _ c.in_ok-sort.ensures.sorted c.dedup.ensures.filtered
