use Rattle.lua_pattern.proofs.Fits.{answer-fits}
use Rattle.lua_pattern.proofs.pattern.Pattern.find.Goals as goal

pub returns-clause-fits : goal.returns-clause-fits
returns-clause-fits c = answer-fits c.args.self.now c.args.text.now c.args.from c.found.result c.found.ensures
