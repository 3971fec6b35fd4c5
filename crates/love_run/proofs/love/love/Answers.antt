use Rattle.std.proofs.Common.{inl, inr}
use Rattle.love_run.specs.Command.{line_of}
use Rattle.love_run.proofs.Outcomes.{has_run}
use Rattle.love_run.proofs.love.love.Goals as goal

pub returns-in-Ok-clause-ran : goal.returns-in-Ok-clause-ran
returns-in-Ok-clause-ran g c said =
    has_run (g.F.Folder.files c.args.folder.now) c.args.words.now (line_of c.in-Some.command) _ _ _ _ c.in-Some.ensures.line c.in-Ok.ensures.game (c.play.ensures.ran said)

pub returns-in-Ok-clause-ran_or_not : goal.returns-in-Ok-clause-ran_or_not
returns-in-Ok-clause-ran_or_not g c said = elim c.play.ensures.ran_or_not [
  | inl unbegun ↦ inl unbegun
  | inr ran ↦ inr (has_run (g.F.Folder.files c.args.folder.now) c.args.words.now (line_of c.in-Some.command) _ _ _ _ c.in-Some.ensures.line c.in-Ok.ensures.game ran)
]
