use Rattle.std.proofs.Common.{List, Option, not, IfSome, arith, ap, ◌∙◌, subst}
use Rattle.love_base.specs.Folder.{File}
use Rattle.love_run.specs.Game.{IsFileOf}
use Rattle.love_run.proofs.Loading.{read_more, one_longer}
use Rattle.love_run.proofs.files.read_files.Goals as goal

pub loop-name-preserved : goal.loop-name-preserved
loop-name-preserved g c =
    let before = c.loop-name.invariant in
    let now = c.in_ok-file.ensures in
    let file = c.in_ok-file.file in
    let ok = c.is_err.ensures.negation ∙ ap not c.if-is_err.false in
    let items = rw ok at c.push.ensures.items in
    let Holds : (List _ → Option (List File)) → Type 0 = λ told. IfSome (told c.args.at.now) (λ files. IsFileOf files file) in
    record {
      read = read_more _ _ _ _ _ _ _ file before.read c.in-Some.ensures.steps.0 now.name (subst Holds before.kept now.content) items c.size-size.ensures;
      small = c.if-size-gt-MOST_BYTES.false;
      steady = now.steady (λ is. cc) ∙ before.steady;
      kept = now.kept ∙ before.kept;
      called = omega (arith, now.called, before.called, one_longer _ _ _ items);
    }
