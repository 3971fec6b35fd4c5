-- The places of the messages, after one more entry.
use Rattle.std.proofs.Common.{◌≡◌, ◌≢◌, ℕ, ◌+◌, ◌<◌, ◌≤◌, suc, zero, List, [], ◌∷◌, ◌++◌, length, Option, Some, None, refl, sym, ap, subst, ◌∙◌, arith, length-append}
use Rattle.std.specs.Prelude.{IfSome}
use Rattle.std.specs.List.{slice_get, AllZip}
use Rattle.std.specs.Option.{option_and_then}
use Rattle.love_base.specs.declared.stamp.Stamp.{Stamp}
use Rattle.variant.specs.declared.message.Variant.{Variant}
use Rattle.channel_core.specs.declared.entry.Entry.{Entry}
use Rattle.channel_core.specs.History.{sent_by, sent_messages, received, sent, front, queue, holder, put_by, take_by, clear_by, enter_by, leave_by}
use Rattle.channel_core.specs.Lawful.{entry_limit, IsAdmitted, IsLater, MayFollow}
use Rattle.channel_core.specs.Index.{message_at, IsIndexed}
use Rattle.variant.proofs.Histories.{AtEach-push}
use Rattle.channel_core.proofs.Histories.{sent_messages-put, sent_messages-quiet, received-put, received-take, received-push, holder-push, length-sent_messages, sent-le-length, front-sent_messages}

-- an entry keeps its place
message_at-append : (h more : List Entry) (place : ℕ) (m : Variant) → message_at h place ≡ Some m → message_at (h ++ more) place ≡ Some m
message_at-append [] more place m at = absurd (cc)
message_at-append (e ∷ es) more zero m at = at
message_at-append (e ∷ es) more (suc place) m at = message_at-append es more place m at

-- the place of a new entry is the number of those before it
message_at-put : (h : List Entry) (by : Stamp) (m : Variant) → message_at (h ++ put_by by m ∷ []) (length h) ≡ Some m
message_at-put [] by m = refl
message_at-put (e ∷ es) by m = message_at-put es by m

-- the places stay those of these messages in a longer history
places-append : (h more : List Entry) (puts : List ℕ) (ms : List Variant) → AllZip (λ place m. message_at h place ≡ Some m) puts ms → AllZip (λ place m. message_at (h ++ more) place ≡ Some m) puts ms
places-append h more [] [] all = all
places-append h more [] (m ∷ ms) all = all
places-append h more (p ∷ ps) [] all = all
places-append h more (p ∷ ps) (m ∷ ms) all = (message_at-append h more p m all.0, places-append h more ps ms all.1)

-- one more message, at its place
places-push : (h : List Entry) (puts : List ℕ) (ms : List Variant) (place : ℕ) (m : Variant) → AllZip (λ place m. message_at h place ≡ Some m) puts ms → message_at h place ≡ Some m → AllZip (λ place m. message_at h place ≡ Some m) (puts ++ place ∷ []) (ms ++ m ∷ [])
places-push h [] [] place m all at = (at, all)
places-push h [] (x ∷ xs) place m all at = absurd all
places-push h (p ∷ ps) [] place m all at = absurd all
places-push h (p ∷ ps) (x ∷ xs) place m all at = (all.0, places-push h ps xs place m all.1 at)

-- a message is looked up by its place
message-by_place : (h : List Entry) (puts : List ℕ) (ms : List Variant) (k : ℕ) → AllZip (λ place m. message_at h place ≡ Some m) puts ms → slice_get ms k ≡ option_and_then (message_at h) (slice_get puts k)
message-by_place h [] [] k all = refl
message-by_place h [] (m ∷ ms) k all = absurd all
message-by_place h (p ∷ ps) [] k all = absurd all
message-by_place h (p ∷ ps) (m ∷ ms) zero all = sym all.0
message-by_place h (p ∷ ps) (m ∷ ms) (suc k) all = message-by_place h ps ms k all.1

length-places : (h : List Entry) (puts : List ℕ) (ms : List Variant) → AllZip (λ place m. message_at h place ≡ Some m) puts ms → length puts ≡ length ms
length-places h [] [] all = refl
length-places h [] (m ∷ ms) all = absurd all
length-places h (p ∷ ps) [] all = absurd all
length-places h (p ∷ ps) (m ∷ ms) all = ap (λ n. suc n) (length-places h ps ms all.1)

pub length-puts : (h : List Entry) (puts : List ℕ) (taken : ℕ) (held : Option ℕ) (room : ℕ) → IsIndexed h puts taken held room → length puts ≡ sent h
length-puts h puts taken held room index = length-places h puts (sent_messages h) index.places ∙ length-sent_messages h

pub front-by_place : (h : List Entry) (puts : List ℕ) (taken : ℕ) (held : Option ℕ) (room : ℕ) → IsIndexed h puts taken held room → front h ≡ option_and_then (message_at h) (slice_get puts taken)
front-by_place h puts taken held room index = rw index.count (front-sent_messages h ∙ message-by_place h puts (sent_messages h) (received h) index.places)

-- where there is room for one entry more, there is so in a section too
if_held : (held : Option ℕ) (length' room : ℕ) → length' < room → IfSome held (λ state. length' < room)
if_held None length' room below = tt
if_held (Some state) length' room below = below

-- room for an entry and one more
room_after : (h : List Entry) (e : Entry) (room : ℕ) → length h + 1 < room → length (h ++ e ∷ []) < room
room_after h e room below = omega (arith, length-append h (e ∷ []))

pub IsIndexed-put : (h : List Entry) (puts : List ℕ) (taken : ℕ) (held : Option ℕ) (room more : ℕ) (by : Stamp) (m : Variant)
    → IsIndexed h puts taken held room → IsAdmitted h by.state → length h < entry_limit → IsLater h by → length h + 1 < more
    → IsIndexed (h ++ put_by by m ∷ []) (puts ++ length h ∷ []) taken held more
IsIndexed-put h puts taken held room more by m index admitted below later spare = record {
  lawful = AtEach-push MayFollow h (put_by by m) index.lawful (record { admitted = admitted; message = tt; section = tt; room = below; number = later });
  places = rw (sent_messages-put h by m) (places-push _ puts (sent_messages h) (length h) m (places-append h _ puts (sent_messages h) index.places) (message_at-put h by m));
  count = index.count ∙ sym (received-put h by m);
  section = index.section ∙ sym (holder-push h (put_by by m));
  spare = if_held held _ more (room_after h (put_by by m) more spare);
}

-- an entry that sends no message
IsIndexed-quiet : (h : List Entry) (puts : List ℕ) (taken now : ℕ) (held after : Option ℕ) (room more : ℕ) (e : Entry)
    → IsIndexed h puts taken held room → sent_by e.what ≡ None → MayFollow h e → now ≡ received (h ++ e ∷ []) → after ≡ holder (h ++ e ∷ [])
    → IfSome after (λ state. length (h ++ e ∷ []) < more) → IsIndexed (h ++ e ∷ []) puts now after more
IsIndexed-quiet h puts taken now held after room more e index none may count section spare = record {
  lawful = AtEach-push MayFollow h e index.lawful may;
  places = rw (sent_messages-quiet h e none) (places-append h _ puts (sent_messages h) index.places);
  count = count;
  section = section;
  spare = spare;
}

pub IsIndexed-take : (h : List Entry) (puts : List ℕ) (taken : ℕ) (held : Option ℕ) (room more : ℕ) (by : Stamp)
    → IsIndexed h puts taken held room → IsAdmitted h by.state → queue h ≢ [] → length h < entry_limit → IsLater h by → length h + 1 < more
    → IsIndexed (h ++ take_by by ∷ []) puts (taken + 1) held more
IsIndexed-take h puts taken held room more by index admitted waits below later spare =
    IsIndexed-quiet h puts taken (taken + 1) held held room more (take_by by) index refl
    (record { admitted = admitted; message = waits; section = tt; room = below; number = later })
    (ap (λ n. n + 1) index.count ∙ sym (received-take h by)) (index.section ∙ sym (holder-push h (take_by by)))
    (if_held held _ more (room_after h (take_by by) more spare))

pub IsIndexed-clear : (h : List Entry) (puts : List ℕ) (taken now : ℕ) (held : Option ℕ) (room more : ℕ) (by : Stamp)
    → IsIndexed h puts taken held room → now ≡ sent h → IsAdmitted h by.state → queue h ≢ [] → length h < entry_limit → IsLater h by → length h + 1 < more
    → IsIndexed (h ++ clear_by by ∷ []) puts now held more
IsIndexed-clear h puts taken now held room more by index all admitted waits below later spare =
    IsIndexed-quiet h puts taken now held held room more (clear_by by) index refl
    (record { admitted = admitted; message = waits; section = tt; room = below; number = later })
    (all ∙ sym (received-push h (clear_by by))) (index.section ∙ sym (holder-push h (clear_by by)))
    (if_held held _ more (room_after h (clear_by by) more spare))

pub IsIndexed-enter : (h : List Entry) (puts : List ℕ) (taken : ℕ) (held : Option ℕ) (room more : ℕ) (by : Stamp)
    → IsIndexed h puts taken held room → holder h ≡ None → length h < entry_limit → IsLater h by → length h + 1 < more
    → IsIndexed (h ++ enter_by by ∷ []) puts taken (Some by.state) more
IsIndexed-enter h puts taken held room more by index alone below later spare =
    IsIndexed-quiet h puts taken taken held (Some by.state) room more (enter_by by) index refl
    (record { admitted = (let P : Option ℕ → Type 0 = λ held. IfSome held (λ other. other ≡ by.state) in subst P (sym alone) tt); message = tt; section = alone; room = below; number = later })
    (index.count ∙ sym (received-push h (enter_by by))) (sym (holder-push h (enter_by by)))
    (room_after h (enter_by by) more spare)

pub IsIndexed-leave : (h : List Entry) (puts : List ℕ) (taken : ℕ) (held : Option ℕ) (room more : ℕ) (by : Stamp)
    → IsIndexed h puts taken held room → holder h ≡ Some by.state → IsLater h by → IsIndexed (h ++ leave_by by ∷ []) puts taken None more
IsIndexed-leave h puts taken held room more by index inside later =
    IsIndexed-quiet h puts taken taken held None room more (leave_by by) index refl
    (record { admitted = (let P : Option ℕ → Type 0 = λ held. IfSome held (λ other. other ≡ by.state) in subst P (sym inside) refl); message = tt; section = inside; room = tt; number = later })
    (index.count ∙ sym (received-push h (leave_by by))) (sym (holder-push h (leave_by by))) tt

-- each message has one place, and the places are fewer than the entries
pub length-puts-le : (h : List Entry) (puts : List ℕ) (taken : ℕ) (held : Option ℕ) (room : ℕ) → IsIndexed h puts taken held room → length puts ≤ length h
length-puts-le h puts taken held room index = omega (arith, length-puts h puts taken held room index, sent-le-length h)

-- what is in front, as the code looks it up
pub front-past : (h : List Entry) (puts : List ℕ) (taken : ℕ) (held : Option ℕ) (room : ℕ) → IsIndexed h puts taken held room → None ≡ slice_get puts taken → None ≡ front h
front-past h puts taken held room index past = sym (front-by_place h puts taken held room index ∙ ap (option_and_then (message_at h)) (sym past))

pub front-found : (h : List Entry) (puts : List ℕ) (taken place : ℕ) (held : Option ℕ) (room : ℕ) → IsIndexed h puts taken held room → Some place ≡ slice_get puts taken → message_at h place ≡ front h
front-found h puts taken place held room index found = sym (front-by_place h puts taken held room index ∙ ap (option_and_then (message_at h)) (sym found))
