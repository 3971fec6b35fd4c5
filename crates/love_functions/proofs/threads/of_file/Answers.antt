use Rattle.std.proofs.Common.{List, ℕ, Option, subst}
use Rattle.love_functions.specs.Asking.{new_thread_of_file}
use Rattle.love_functions.specs.View.{Comes}
use Rattle.love_functions.proofs.threads.of_file.Goals as goal

pub returns-in-None-clause-comes : goal.returns-in-None-clause-comes
returns-in-None-clause-comes c = λ h.
    let P : Option (List ℕ) → Type 0 = λ o. Comes h h (new_thread_of_file c.args.path.now o) c.missing.result in
    subst P c.in-None.ensures (c.missing.ensures.comes h)
