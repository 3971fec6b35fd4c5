use Rattle.love_run.proofs.MainFile.{main_among, main_missing}
use Rattle.love_run.proofs.names.list_names.Goals as goal

pub returns-then-not-contains-clause-no_main : goal.returns-then-not-contains-clause-no_main
returns-then-not-contains-clause-no_main g c _ =
    main_missing _ _ _ _ c.in_ok-main.ensures c.in_ok-names.ensures.told (rw (← c.deref.ensures.value) c.contains.ensures.value) c.if-not-contains.true

pub returns-clause-main : goal.returns-clause-main
returns-clause-main g c =
    main_among _ _ _ _ c.in_ok-main.ensures c.sort.ensures.permutation (rw (← c.deref.ensures.value) c.contains.ensures.value) c.if-not-contains.false
