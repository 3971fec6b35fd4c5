use Rattle.std.proofs.Common.{ap}
use Rattle.love_run.proofs.MainFile.{all_listed, game_has_main, same_fault, too_large_by}
use Rattle.love_run.proofs.load.load.Goals as goal

pub read_files-requires : goal.read_files-requires
read_files-requires g c = record {
  listed = all_listed _ _ _ (ap (λ told. told c.args.at.now) c.in_ok-names.ensures.kept) c.in_ok-names.ensures.all;
}

pub returns-in-Err-clause-too_large : goal.returns-in-Err-clause-too_large
returns-in-Err-clause-too_large g c is =
    too_large_by _ _ _ (ap (λ told. told c.args.at.now) c.in_ok-names.ensures.kept) c.in_ok-names.ensures.all (c.in-Err.ensures.too_large (same_fault _ _ is))

pub returns-in_ok-build-in-Ok-clause-main : goal.returns-in_ok-build-in-Ok-clause-main
returns-in_ok-build-in-Ok-clause-main g c =
    game_has_main _ _ _ c.in_ok-build-in-Ok.ensures.files c.in-Ok.ensures.names c.in_ok-names.ensures.main
