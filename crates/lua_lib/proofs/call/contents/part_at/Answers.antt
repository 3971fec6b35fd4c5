use Rattle.std.proofs.Common.{ap, refl, sym, ◌∙◌}
use Rattle.std.proofs.lemmas.Bool.{false≢true}
use Rattle.lua_meaning.specs.Data.{new_data}
use Rattle.lua_lib.proofs.Parts.{part-within, part-none}
use Rattle.lua_lib.proofs.call.contents.part_at.Goals as goal

pub returns-in-Some : goal.returns-in-Some
returns-in-Some c = λ s.
    let made = rw c.in-Some.is at c.in_ok-view.ensures.part in
    let within = c.in_ok-view.ensures.within.0 (rw c.in-Some.is refl) in
    ap (λ part. part s) (part-within c.args.whole.now c.args.offset c.args.size c.requires within) ∙ ap (λ m. new_data m s) (sym made)

pub returns-in-None : goal.returns-in-None
returns-in-None c = λ texts s.
    ap (λ part. part s) (part-none c.args.whole.now c.args.offset c.args.size c.requires (λ within. false≢true (rw c.in-None.is at (c.in_ok-view.ensures.within.1 within))))
