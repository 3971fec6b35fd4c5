use Rattle.std.proofs.Common.{sym}
use Rattle.lua_token.proofs.BeginsLemmas.{is_something, word_is_some, number_is_some, comment_is_two}
use Rattle.lua_token.proofs.Lines.{long_opens}
use Rattle.lua_token.proofs.step.step_at.Goals as goal

pub unreachable-requires : goal.unreachable-requires
unreachable-requires c = is_something c.args.text.now (sym c.in-Nothing.ensures.value) c.requires

pub word-requires : goal.word-requires
word-requires c = word_is_some c.args.text.now (sym c.in-Word.ensures.value)

pub number-requires : goal.number-requires
number-requires c = number_is_some c.args.text.now (sym c.in-Digits.ensures.value)

pub comment-requires-clause-within : goal.comment-requires-clause-within
comment-requires-clause-within c = comment_is_two c.args.text.now (sym c.in-Comment.ensures.value)

pub long_string-requires-clause-opens : goal.long_string-requires-clause-opens
long_string-requires-clause-opens c = long_opens c.args.text.now c.in-Long.opened (sym c.in-Long.ensures.value)
