-- What a row of calls through pass 1 comes to, each made by an action of the state that the pass serves.
use Rattle.std.specs.Prelude.{◌≡◌, ℕ, ◌+◌, ◌<◌, ◌≤◌, List, [], ◌∷◌}
use Rattle.variant.specs.declared.event.Sent.{Sent}
use Rattle.event_queue.specs.Passes.{PassView, after_send, GivesFront, GivesKept, FindsNothing}

-- a call: an event was sent; or a poll gave one that the ruled queue held, gave one that the pass
-- kept, or found nothing
pub data Call : Type 0 where
  sends : Sent → Call
  gives_front : Sent → Call
  gives_kept : Sent → Call
  finds_nothing : Call

-- a call, and the number of the action that made it
pub record Numbered : Type 0 where
  pub number : ℕ
  pub call : Call

-- what a call made of the pass
abbrev pub Made : PassView → Call → PassView → Type 0
Made old (sends x) new = new ≡ after_send x old
Made old (gives_front x) new = (new.number ≡ old.number) × GivesFront old x new
Made old (gives_kept x) new = (new.number ≡ old.number) × GivesKept old x new
Made old finds_nothing new = (new.number ≡ old.number) × FindsNothing old new

-- what calls made of the pass, one behind another
abbrev pub Went : PassView → List Numbered → PassView → Type 0
Went old [] new = new ≡ old
Went old (c ∷ cs) new = (between : PassView) × Made old c.call between × Went between cs new

-- the events that were sent
abbrev pub onto_sent : Call → List Sent → List Sent
onto_sent (sends x) xs = x ∷ xs
onto_sent (gives_front x) xs = xs
onto_sent (gives_kept x) xs = xs
onto_sent finds_nothing xs = xs

abbrev pub sent_of : List Numbered → List Sent
sent_of [] = []
sent_of (c ∷ cs) = onto_sent c.call (sent_of cs)

-- the kept events that were given
abbrev pub onto_given : Call → List Sent → List Sent
onto_given (sends x) xs = xs
onto_given (gives_front x) xs = xs
onto_given (gives_kept x) xs = x ∷ xs
onto_given finds_nothing xs = xs

abbrev pub given_of : List Numbered → List Sent
given_of [] = []
given_of (c ∷ cs) = onto_given c.call (given_of cs)

-- events that have numbers below this one
abbrev pub AreBefore : ℕ → List Sent → Type 0
AreBefore n [] = Unit {0}
AreBefore n (x ∷ xs) = (x.number < n) × AreBefore n xs

-- the numbers rise from call to call, none below the first
abbrev pub AreRising : ℕ → List Numbered → Type 0
AreRising low [] = Unit {0}
AreRising low (c ∷ cs) = (low ≤ c.number) × AreRising (c.number + 1) cs

-- an event that is sent has its action's number
abbrev pub BearsIts : ℕ → Call → Type 0
BearsIts n (sends x) = x.number ≡ n
BearsIts n (gives_front x) = Unit {0}
BearsIts n (gives_kept x) = Unit {0}
BearsIts n finds_nothing = Unit {0}

abbrev pub BearTheirs : List Numbered → Type 0
BearTheirs [] = Unit {0}
BearTheirs (c ∷ cs) = BearsIts c.number c.call × BearTheirs cs

-- a kept event is given by a later action than the one that sent it
abbrev pub IsLater : ℕ → Call → Type 0
IsLater n (sends x) = Unit {0}
IsLater n (gives_front x) = Unit {0}
IsLater n (gives_kept x) = x.number < n
IsLater n finds_nothing = Unit {0}

abbrev pub AreLater : List Numbered → Type 0
AreLater [] = Unit {0}
AreLater (c ∷ cs) = IsLater c.number c.call × AreLater cs
