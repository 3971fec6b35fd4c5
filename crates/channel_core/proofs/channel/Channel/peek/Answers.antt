use Rattle.std.proofs.Common.{◌≡◌, ap, ◌∙◌, slice_get, Some, None}
use Rattle.std.specs.Option.{option_copied}
use Rattle.channel_core.specs.History.{front}
use Rattle.channel_core.specs.Index.{message_at}
use Rattle.channel_core.proofs.Indexes.{front-past, front-found}
use Rattle.channel_core.proofs.Answering.{Answers-peek}
use Rattle.channel_core.proofs.channel.Channel.peek.Goals as goal

pub returns-in_err-place-clause-front : goal.returns-in_err-place-clause-front
returns-in_err-place-clause-front c =
    let past : None ≡ slice_get c.self.inside.puts.items c.self.inside.taken = cc (c.in_err-place.was, c.place_of.ensures, c.deref.ensures.value) in
    ap option_copied c.from_residual.ensures ∙ front-past _ _ _ _ _ c.self.invariant past ∙ ap front c.self.view_is

pub returns-in_err-place-clause-answer : goal.returns-in_err-place-clause-answer
returns-in_err-place-clause-answer c = λ channel state admitted. Answers-peek channel state c.args.self.now _ admitted (returns-in_err-place-clause-front c)

pub returns-clause-front : goal.returns-clause-front
returns-clause-front c =
    let found : Some c.in_ok-place.place ≡ slice_get c.self.inside.puts.items c.self.inside.taken = cc (c.in_ok-place.was, c.place_of.ensures, c.deref.ensures.value) in
    c.message_at.ensures ∙ ap (λ h. message_at h c.in_ok-place.place) c.deref-2.ensures.value ∙ front-found _ _ _ _ _ _ c.self.invariant found ∙ ap front c.self.view_is

pub returns-clause-answer : goal.returns-clause-answer
returns-clause-answer c = λ channel state admitted. Answers-peek channel state c.args.self.now _ admitted (returns-clause-front c)
