use Rattle.std.proofs.Common.{◌≡◌, Ok, sym, ◌∙◌, ap}
use Rattle.std.proofs.lemmas.Option.{none-some}
use Rattle.std.specs.Result.{result_ok}
use Rattle.lua_value.proofs.Words.{signed-none}
use Rattle.lua_value.proofs.number_text.signed.Goals as goal

pub returns-in_err-size : goal.returns-in_err-size
returns-in_err-size c =
    let split = c.split_sign-is_negative.ensures in
    rw c.from_residual.ensures (λ n denotes num.
    let found = signed-none c.args.word.now c.split_sign-is_negative.result.1.now split.0 split.1 split.2 n denotes num in
    let ok : c.numeral.result ≡ Ok found.0 = (c.numeral.ensures.ok found.0).1 (found.1, found.2) in
    none-some found.0 (sym c.in_err-size.was ∙ c.ok.ensures.value ∙ ap result_ok ok))
