use Rattle.std.proofs.Common.{◌∙◌, sym}
use Rattle.event_queue.proofs.Callers.{all_back}
use Rattle.event_queue.proofs.tests.posts.closed.Goals as goal

pub left-requires-clause-all : goal.left-requires-clause-all
left-requires-clause-all g c = all_back c.args.queue c.args.passes.items c.requires.numbered (sym c.args.passes.ok.0 ∙ c.requires.all)
