use Rattle.std.proofs.Common.{◌≡◌, ◌+◌, ◌<◌, ◌++◌, ◌∷◌, [], ap, ◌∙◌, arith, length, vec_capacity}
use Rattle.std.proofs.lemmas.Grind.{common_steps}
use Rattle.channel_core.specs.History.{sent, put_by}
use Rattle.channel_core.specs.Lawful.{entry_limit}
use Rattle.channel_core.proofs.Histories.{message-put}
use Rattle.channel_core.proofs.Lawfulness.{room_below}
use Rattle.channel_core.proofs.Indexes.{length-puts, length-puts-le, IsIndexed-put}
use Rattle.channel_core.proofs.Answering.{answer-push}
use Rattle.channel_core.proofs.channel.Channel.put.Goals as goal

-- the entry is the last one of the history
entry : (c : goal.After-len-2) → c.append-place.new.history.items ≡ c.self.inside.history.items ++ put_by c.args.by c.args.value ∷ []
entry c = c.append-place.ensures.items ∙ ap (λ h. h ++ put_by c.args.by c.args.value ∷ []) c.reserve.ensures.items

-- its place is the last one of the puts
places : (c : goal.After-len-2) → c.push.new.self.items ≡ c.self.inside.puts.items ++ length c.self.inside.history.items ∷ []
places c =
    let i = c.self.inside in
    let place : c.len.result ≡ length i.history.items = omega (arith, i.history.ok.0) in
    (rw c.unwrap.ensures at c.push.ensures.items)
    ∙ ap (λ ps. ps ++ c.len.result ∷ []) c.reserve-else-is_err.ensures.items
    ∙ ap (λ n. i.puts.items ++ n ∷ []) place

-- the message's number is one more than were sent
number : (c : goal.After-len-2) → c.len-2.result ≡ sent c.self.inside.history.items + 1
number c = omega (arith, c.self.inside.puts.ok.0, rw c.unwrap.ensures at c.push.ensures.len, length-puts _ _ _ _ _ c.self.invariant)

room : (c : goal.After-len-2) → length c.args.self.now < entry_limit
room c = room_below _ _ c.is_full.ensures c.if-is_full.false

pub overflow_cast-result : goal.overflow_cast-result
overflow_cast-result c =
    let pushed = rw c.unwrap.ensures at c.push.ensures.len in
    omega (arith, c.self.inside.puts.ok.0, pushed, ap length c.self.view_is, length-puts-le _ _ _ _ _ c.self.invariant, room_below _ _ c.is_full.ensures c.if-is_full.false)

pub invariant_of-self-2 : goal.invariant_of-self-2
invariant_of-self-2 c =
    let below : length c.self.inside.history.items < entry_limit = rw c.self.view_is (room c) in
    let spare : length c.self.inside.history.items + 1 < vec_capacity c.append-place.new.history = grind (arith, common_steps) in
    rw (entry c, places c) (IsIndexed-put _ _ _ _ _ _ c.args.by c.args.value c.self.invariant (rw c.self.view_is c.requires.admitted) below (rw c.self.view_is c.requires.later) spare)

pub returns-clause-id : goal.returns-clause-id
returns-clause-id c = number c ∙ ap (λ h. sent h + 1) c.self.view_is

pub returns-clause-numbered : goal.returns-clause-numbered
returns-clause-numbered c = rw (entry c, number c) (message-put c.self.inside.history.items c.args.by c.args.value)

pub returns-clause-answer : goal.returns-clause-answer
returns-clause-answer c = λ channel depth. rw (returns-clause-id c) (answer-push channel c.args.value c.args.by.state depth c.args.self.now c.requires.admitted (room c))
