use Rattle.std.proofs.Common.{◌∙◌, sym}
use Rattle.turn_desk.proofs.Callers.{all_numbers}
use Rattle.turn_desk.proofs.tests.desks.closed.Goals as goal

pub close-requires-clause-all : goal.close-requires-clause-all
close-requires-clause-all c = all_numbers _ _ c.requires.numbered (sym c.args.passes.ok.0 ∙ c.requires.all)
