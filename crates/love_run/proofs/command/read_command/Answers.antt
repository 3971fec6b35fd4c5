use Rattle.std.proofs.Common.{◌∙◌, ap}
use Rattle.std.specs.Prelude.{option_and_then}
use Rattle.love_run.specs.Command.{SaidView, ended, hears_all}
use Rattle.love_run.proofs.Steps.{few_steps}
use Rattle.love_run.proofs.command.read_command.Goals as goal

pub returns-clause-steps : goal.returns-clause-steps
returns-clause-steps c =
    let words = c.args.words.now in
    few_steps words c.read_behind.result (c.read_behind.ensures ∙ ap (λ (said : SaidView). option_and_then ended (hears_all words said)) c.nothing.ensures)
