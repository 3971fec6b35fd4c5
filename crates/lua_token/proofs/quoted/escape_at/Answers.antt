use Rattle.std.proofs.Common.{◌<◌, arith}
use Rattle.std.specs.Char.{is_ascii_digit}
use Rattle.std.specs.List.{prefix_len}
use Rattle.std.proofs.lemmas.List.{get_or-take, length-take}
use Rattle.std.proofs.lemmas.List.Sums.{prefix_len_passes}
use Rattle.lua_token.proofs.quoted.escape_at.Goals as goal

pub decimal_escape-requires-clause-decimal : goal.decimal_escape-requires-clause-decimal
decimal_escape-requires-clause-decimal c = λ k d within.
    let text = c.args.text.now in
    let taken : k < c.min-count.result = omega (arith, within, length-take c.min-count.result text) in
    let counted : k < prefix_len is_ascii_digit text = omega (arith, taken, c.min-count.ensures, c.run_length.ensures.value) in
    rw (get_or-take c.min-count.result text k d taken) (prefix_len_passes is_ascii_digit text k d counted)
