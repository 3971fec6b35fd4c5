use Rattle.std.proofs.Common.{Bool, ap, sym, ◌∙◌}
use Rattle.std.specs.Prelude.{length, ◌||◌}
use Rattle.std.proofs.lemmas.Bool.{lt-leb}
use Rattle.lua_meaning.specs.Strings.{is_one_of}
use Rattle.love_functions.proofs.Steps.{has-newline}
use Rattle.love_functions.proofs.threads.is_code.Goals as goal

pub returns-else-text-ge-CODE_LENGTH : goal.returns-else-text-ge-CODE_LENGTH
returns-else-text-ge-CODE_LENGTH c =
    let text = c.args.text.now in
    c.contains.ensures.value ∙ (has-newline text ∙ ap (λ (b : Bool). b || is_one_of text 10) (sym (lt-leb 1024 (length text) c.if-text-ge-CODE_LENGTH.false)))
