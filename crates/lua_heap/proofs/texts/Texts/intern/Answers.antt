use Rattle.std.proofs.Common.{sym}
use Rattle.lua_heap.proofs.TextsLemmas.{interned-there}
use Rattle.lua_heap.proofs.texts.Texts.intern.Goals as goal

pub returns-in-Some-clause-texts : goal.returns-in-Some-clause-texts
returns-in-Some-clause-texts c = sym (interned-there c.args.self.now c.args.text.now c.in-Some.place c.in-Some.ensures.found)
