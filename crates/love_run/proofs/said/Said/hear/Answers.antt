use Rattle.std.proofs.Common.{◌≡◌, true, sym, ◌∙◌, ap}
use Rattle.std.specs.Str.{is_utf8}
use Rattle.love_run.specs.Command.{gives, said_of}
use Rattle.love_run.proofs.said.Said.hear.Goals as goal

pub returns-in-Number : goal.returns-in-Number
returns-in-Number c =
    let utf8 : is_utf8 c.args.word.now ≡ true = ap is_utf8 (sym c.bytes.ensures) ∙ sym c.is_utf8.ensures ∙ c.if-not-is_utf8.false in
    rw (utf8, c.in-Number.is) (c.give.ensures ∙ ap (λ text. gives c.in-Number.option text (said_of c.args.self)) c.bytes-in-Number.ensures)
