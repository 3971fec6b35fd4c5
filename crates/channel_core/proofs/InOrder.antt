-- Messages are received in the order in which they were sent, and none is lost or doubled.
use Rattle.std.proofs.Common.{◌≡◌, List, [], ◌∷◌, ◌++◌, drop, Some, None, refl, sym, ap, ap₂, ◌∙◌, append-nil, append_assoc}
use Rattle.std.specs.List.{slice_get}
use Rattle.std.specs.Option.{option_to_list}
use Rattle.love_base.specs.declared.stamp.Stamp.{Stamp}
use Rattle.variant.specs.declared.message.Variant.{Variant}
use Rattle.channel_core.specs.declared.entry.Entry.{Entry}
use Rattle.channel_core.specs.declared.entry.Change.TheVariants.{Put, Take, Clear, Enter, Leave}
use Rattle.channel_core.specs.History.{put_by, take_by, clear_by, sent_by, counts, counts_after, sent_messages, queue, front, received_by, received_through, received_messages}
use Rattle.channel_core.specs.Lawful.{HasMessages}
use Rattle.variant.proofs.Histories.{by_entries, AtEach-before}
use Rattle.channel_core.proofs.Histories.{sent_messages-put, sent_messages-take, sent_messages-quiet, queue-put, queue-take, queue-clear, queue-same}
use Rattle.channel_core.proofs.Lawfulness.{Finds, received-le-sent}

received_through-push : (before es : List Entry) (e : Entry) → received_through before (es ++ e ∷ []) ≡ received_through before es ++ received_by (before ++ es) e.what
received_through-push before [] e = append-nil (received_by before e.what) ∙ ap (λ b. received_by b e.what) (sym (append-nil before))
received_through-push before (x ∷ xs) e =
    ap (λ ms. received_by before x.what ++ ms) (received_through-push (before ++ x ∷ []) xs e)
    ∙ sym (append_assoc (received_by before x.what) (received_through (before ++ x ∷ []) xs) (received_by ((before ++ x ∷ []) ++ xs) e.what))
    ∙ ap (λ b. (received_by before x.what ++ received_through (before ++ x ∷ []) xs) ++ received_by b e.what) (append_assoc before (x ∷ []) xs)

pub received_messages-push : (h : List Entry) (e : Entry) → received_messages (h ++ e ∷ []) ≡ received_messages h ++ received_by h e.what
received_messages-push h e = received_through-push [] h e

pub received_messages-put : (h : List Entry) (by : Stamp) (m : Variant) → received_messages (h ++ put_by by m ∷ []) ≡ received_messages h
received_messages-put h by m = received_messages-push h (put_by by m) ∙ append-nil (received_messages h)

pub received_messages-take : (h : List Entry) (by : Stamp) (m : Variant) → front h ≡ Some m → received_messages (h ++ take_by by ∷ []) ≡ received_messages h ++ m ∷ []
received_messages-take h by m found = received_messages-push h (take_by by) ∙ ap (λ f. received_messages h ++ option_to_list f) found

-- what was sent is what was received, in that order, and then what waits
pub sent_in_order : (h : List Entry) → HasMessages h → sent_messages h ≡ received_messages h ++ queue h
sent_in_order = by_entries (λ h. HasMessages h → sent_messages h ≡ received_messages h ++ queue h) (λ _. refl) (λ h e earlier each. step h e (earlier (AtEach-before Finds h (e ∷ []) each)) (AtEach-before Finds h (e ∷ []) each))
  where
    first_and_rest : (q : List Variant) → option_to_list (slice_get q 0) ++ drop 1 q ≡ q
    first_and_rest [] = refl
    first_and_rest (m ∷ ms) = refl

    with_put : (h : List Entry) (by : Stamp) (m : Variant) → sent_messages h ≡ received_messages h ++ queue h → HasMessages h → sent_messages (h ++ put_by by m ∷ []) ≡ received_messages (h ++ put_by by m ∷ []) ++ queue (h ++ put_by by m ∷ [])
    with_put h by m so_far each =
        sent_messages-put h by m
        ∙ ap (λ ms. ms ++ m ∷ []) so_far
        ∙ append_assoc (received_messages h) (queue h) (m ∷ [])
        ∙ ap₂ ◌++◌ (sym (received_messages-put h by m)) (sym (queue-put h by m (received-le-sent h each)))

    with_take : (h : List Entry) (by : Stamp) → sent_messages h ≡ received_messages h ++ queue h → sent_messages (h ++ take_by by ∷ []) ≡ received_messages (h ++ take_by by ∷ []) ++ queue (h ++ take_by by ∷ [])
    with_take h by so_far =
        sent_messages-take h by
        ∙ so_far
        ∙ ap (λ q. received_messages h ++ q) (sym (first_and_rest (queue h)))
        ∙ sym (append_assoc (received_messages h) (option_to_list (front h)) (drop 1 (queue h)))
        ∙ ap₂ ◌++◌ (sym (received_messages-push h (take_by by))) (sym (queue-take h by))

    with_clear : (h : List Entry) (by : Stamp) → sent_messages h ≡ received_messages h ++ queue h → sent_messages (h ++ clear_by by ∷ []) ≡ received_messages (h ++ clear_by by ∷ []) ++ queue (h ++ clear_by by ∷ [])
    with_clear h by so_far =
        sent_messages-quiet h (clear_by by) refl
        ∙ so_far
        ∙ sym (append-nil (received_messages h ++ queue h))
        ∙ ap₂ ◌++◌ (sym (received_messages-push h (clear_by by))) (sym (queue-clear h by))

    with_section : (h : List Entry) (e : Entry) → sent_by e.what ≡ None → counts_after (counts h) e.what ≡ counts h → received_by h e.what ≡ [] → sent_messages h ≡ received_messages h ++ queue h → sent_messages (h ++ e ∷ []) ≡ received_messages (h ++ e ∷ []) ++ queue (h ++ e ∷ [])
    with_section h e none same nothing so_far =
        sent_messages-quiet h e none
        ∙ so_far
        ∙ ap₂ ◌++◌ (sym (received_messages-push h e ∙ ap (λ ms. received_messages h ++ ms) nothing ∙ append-nil (received_messages h))) (sym (queue-same h e none same))

    step : (h : List Entry) (e : Entry) → sent_messages h ≡ received_messages h ++ queue h → HasMessages h → sent_messages (h ++ e ∷ []) ≡ received_messages (h ++ e ∷ []) ++ queue (h ++ e ∷ [])
    step h e so_far each = elim e.what as (λ w. sent_messages (h ++ record e { what = w } ∷ []) ≡ received_messages (h ++ record e { what = w } ∷ []) ++ queue (h ++ record e { what = w } ∷ [])) [
      | Put m ↦ with_put h e.by m so_far each
      | Take ↦ with_take h e.by so_far
      | Clear ↦ with_clear h e.by so_far
      | Enter ↦ with_section h (record { by = e.by; what = Enter }) refl refl refl so_far
      | Leave ↦ with_section h (record { by = e.by; what = Leave }) refl refl refl so_far
    ]
