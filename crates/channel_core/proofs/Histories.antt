-- What one more entry makes of the messages, the counts, the queue and the holder.
use Rattle.std.proofs.Common.{◌≡◌, ◌≢◌, ℕ, ◌+◌, ◌<◌, ◌≤◌, suc, zero, List, [], ◌∷◌, ◌++◌, length, drop, Some, None, refl, sym, ap, ◌∙◌, inl, inr, arith, add-zero, add-one, append-nil, drop-drop, length-drop}
use Rattle.std.specs.List.{fold, slice_get, filter_map}
use Rattle.std.proofs.lemmas.Bool.{cases_lt}
use Rattle.std.proofs.lemmas.List.{drop_all, drop-append-le}
use Rattle.std.proofs.lemmas.List.Elements.{filter_map-append}
use Rattle.std.proofs.lemmas.List.Sums.{fold_push}
use Rattle.love_base.specs.declared.stamp.Stamp.{Stamp}
use Rattle.variant.specs.declared.message.Variant.{Variant}
use Rattle.channel_core.specs.declared.entry.Entry.{Entry}
use Rattle.channel_core.specs.declared.entry.Change.TheVariants.{Put, Take, Clear, Enter, Leave}
use Rattle.channel_core.specs.History.{put_by, take_by, clear_by, sent_by, sent_messages, message, Counts, counts_after, counts, sent, received, queue, front, holder_after, holder}

pub counts-push : (h : List Entry) (e : Entry) → counts (h ++ e ∷ []) ≡ counts_after (counts h) e.what
counts-push h e = fold_push (λ (n : Counts) (x : Entry). counts_after n x.what) _ h e

pub holder-push : (h : List Entry) (e : Entry) → holder (h ++ e ∷ []) ≡ holder_after (holder h) e
holder-push h e = fold_push holder_after None h e

pub received-push : (h : List Entry) (e : Entry) → received (h ++ e ∷ []) ≡ (counts_after (counts h) e.what).received
received-push h e = ap (λ (n : Counts). n.received) (counts-push h e)

pub sent-put : (h : List Entry) (by : Stamp) (m : Variant) → sent (h ++ put_by by m ∷ []) ≡ sent h + 1
sent-put h by m = ap (λ (n : Counts). n.sent) (counts-push h (put_by by m))

pub sent-take : (h : List Entry) (by : Stamp) → sent (h ++ take_by by ∷ []) ≡ sent h
sent-take h by = ap (λ (n : Counts). n.sent) (counts-push h (take_by by))

pub received-put : (h : List Entry) (by : Stamp) (m : Variant) → received (h ++ put_by by m ∷ []) ≡ received h
received-put h by m = received-push h (put_by by m)

pub received-take : (h : List Entry) (by : Stamp) → received (h ++ take_by by ∷ []) ≡ received h + 1
received-take h by = received-push h (take_by by)

pub sent_messages-put : (h : List Entry) (by : Stamp) (m : Variant) → sent_messages (h ++ put_by by m ∷ []) ≡ sent_messages h ++ m ∷ []
sent_messages-put h by m = filter_map-append (λ (e : Entry). sent_by e.what) h (put_by by m ∷ [])

-- an entry that sends no message leaves those that were sent
pub sent_messages-quiet : (h : List Entry) (e : Entry) → sent_by e.what ≡ None → sent_messages (h ++ e ∷ []) ≡ sent_messages h
sent_messages-quiet h e none = filter_map-append (λ (e : Entry). sent_by e.what) h (e ∷ []) ∙ ap (λ ms. sent_messages h ++ ms) (alone none) ∙ append-nil (sent_messages h)
  where
    alone : sent_by e.what ≡ None → filter_map (λ (e : Entry). sent_by e.what) (e ∷ []) ≡ []
    alone none = rw none refl

pub sent_messages-take : (h : List Entry) (by : Stamp) → sent_messages (h ++ take_by by ∷ []) ≡ sent_messages h
sent_messages-take h by = sent_messages-quiet h (take_by by) refl

-- the sent count, going on from any counts
counted_sent : (n : Counts) (h : List Entry) → (fold (λ (n : Counts) (e : Entry). counts_after n e.what) n h).sent ≡ n.sent + length (sent_messages h)
counted_sent n [] = sym (add-zero n.sent)
counted_sent n (e ∷ es) =
    elim e.what as (λ w. (fold (λ (n : Counts) (e : Entry). counts_after n e.what) (counts_after n w) es).sent ≡ n.sent + length (filter_map (λ (e : Entry). sent_by e.what) (record e { what = w } ∷ es))) [
      | Put m ↦ (let rest = counted_sent (counts_after n (Put m)) es in omega arith)
      | Take ↦ (let rest = counted_sent (counts_after n Take) es in omega arith)
      | Clear ↦ (let rest = counted_sent (counts_after n Clear) es in omega arith)
      | Enter ↦ (let rest = counted_sent n es in omega arith)
      | Leave ↦ (let rest = counted_sent n es in omega arith)
    ]

pub length-sent_messages : (h : List Entry) → length (sent_messages h) ≡ sent h
length-sent_messages h = let all = counted_sent (record { sent = 0; received = 0 }) h in omega arith

-- an entry sends one message at most
pub sent-le-length : (h : List Entry) → sent h ≤ length h
sent-le-length h = rw (← (length-sent_messages h)) (few h)
  where
    few : (h : List Entry) → length (sent_messages h) ≤ length h
    few [] = omega arith
    few (e ∷ es) = elim e.what as (λ w. length (filter_map (λ (e : Entry). sent_by e.what) (record e { what = w } ∷ es)) ≤ suc (length es)) [
      | Put m ↦ (let rest = few es in omega arith)
      | Take ↦ (let rest = few es in omega arith)
      | Clear ↦ (let rest = few es in omega arith)
      | Enter ↦ (let rest = few es in omega arith)
      | Leave ↦ (let rest = few es in omega arith)
    ]

-- a message waits exactly where fewer were received than sent
pub waits-lt : (h : List Entry) → queue h ≢ [] → received h < sent h
waits-lt h waits = elim (cases_lt (received h) (sent h)) [
  | inl below ↦ below
  | inr above ↦ absurd (waits (drop_all (received h) (sent_messages h) (omega (arith, length-sent_messages h))))
]

pub lt-waits : (h : List Entry) → received h < sent h → queue h ≢ []
lt-waits h below none = absurd (omega (arith, ap length none, length-drop (received h) (sent_messages h), length-sent_messages h))

pub queue-put : (h : List Entry) (by : Stamp) (m : Variant) → received h ≤ sent h → queue (h ++ put_by by m ∷ []) ≡ queue h ++ m ∷ []
queue-put h by m below = rw (received-put h by m, sent_messages-put h by m) (drop-append-le (received h) (sent_messages h) (m ∷ []) (omega (arith, length-sent_messages h)))

pub queue-take : (h : List Entry) (by : Stamp) → queue (h ++ take_by by ∷ []) ≡ drop 1 (queue h)
queue-take h by = rw (received-take h by, sent_messages-take h by) (sym (drop-drop 1 (received h) (sent_messages h)))

-- a clear receives all that waits
pub queue-clear : (h : List Entry) (by : Stamp) → queue (h ++ clear_by by ∷ []) ≡ []
queue-clear h by = rw (received-push h (clear_by by), sent_messages-quiet h (clear_by by) refl) (drop_all (sent h) (sent_messages h) (omega (arith, length-sent_messages h)))

-- an entry that sends and receives nothing leaves what waits
pub queue-same : (h : List Entry) (e : Entry) → sent_by e.what ≡ None → counts_after (counts h) e.what ≡ counts h → queue (h ++ e ∷ []) ≡ queue h
queue-same h e none same = rw (received-push h e, sent_messages-quiet h e none, same) refl

-- the first of the rest of a list
slice_get-drop : {A : Type 0} → (n : ℕ) (xs : List A) → slice_get (drop n xs) 0 ≡ slice_get xs n
slice_get-drop zero xs = refl
slice_get-drop (suc n) [] = refl
slice_get-drop (suc n) (x ∷ xs) = slice_get-drop n xs

-- an item that was put behind a list
slice_get-push : {A : Type 0} → (xs : List A) (x : A) → slice_get (xs ++ x ∷ []) (length xs) ≡ Some x
slice_get-push [] x = refl
slice_get-push (y ∷ ys) x = slice_get-push ys x

pub front-sent_messages : (h : List Entry) → front h ≡ slice_get (sent_messages h) (received h)
front-sent_messages h = slice_get-drop (received h) (sent_messages h)

-- the message in front is the one after those that were received
pub front-message : (h : List Entry) → front h ≡ message h (received h + 1)
front-message h = rw add-one (front-sent_messages h)

-- a message that is put has the sent count as its number
pub message-put : (h : List Entry) (by : Stamp) (m : Variant) → message (h ++ put_by by m ∷ []) (sent h + 1) ≡ Some m
message-put h by m = rw (add-one, sent_messages-put h by m, ← (length-sent_messages h)) (slice_get-push (sent_messages h) m)

-- nothing is in front where no message waits, and the first one where some do
pub front-none : (h : List Entry) → front h ≡ None → queue h ≡ []
front-none h = first_of_none (queue h)
  where
    first_of_none : (q : List Variant) → slice_get q 0 ≡ None → q ≡ []
    first_of_none [] none = refl
    first_of_none (m ∷ ms) none = absurd (cc)

pub front-some : (h : List Entry) (m : Variant) → front h ≡ Some m → queue h ≡ m ∷ drop 1 (queue h)
front-some h m = first_of_some (queue h)
  where
    first_of_some : (q : List Variant) → slice_get q 0 ≡ Some m → q ≡ m ∷ drop 1 q
    first_of_some [] some = absurd (cc)
    first_of_some (x ∷ xs) some = cc

pub front-waits : (h : List Entry) (m : Variant) → Some m ≡ front h → queue h ≢ []
front-waits h m some empty = absurd (nothing (queue h) empty some)
  where
    nothing : (q : List Variant) → q ≡ [] → Some m ≡ slice_get q 0 → ⊥
    nothing [] empty some = cc
    nothing (x ∷ xs) empty some = cc
