use Rattle.lua_pattern.proofs.Once.{gives_only}
use Rattle.lua_pattern.proofs.pattern.Pattern.read.Goals as goal

pub returns-clause-only : goal.returns-clause-only
returns-clause-only c = λ answer h. gives_only c.args.source.now c.args.anchors c.spelled.result answer c.spelled.ensures.pattern c.spelled.ensures.fault h
