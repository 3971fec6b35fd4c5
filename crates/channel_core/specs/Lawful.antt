-- Which histories a Channel can have.
use Rattle.std.specs.Prelude.{◌≡◌, ◌≢◌, ℕ, ◌<◌, List, [], Some, None, length, All, IfSome, ⊤}
use Rattle.love_base.specs.declared.stamp.Stamp.{Stamp}
use Rattle.variant.specs.Histories.{AtEach}
use Rattle.channel_core.specs.declared.entry.Entry.{Entry}
use Rattle.channel_core.specs.declared.entry.Change.{Change}
use Rattle.channel_core.specs.declared.entry.Change.TheVariants.{Put, Take, Clear, Enter, Leave}
use Rattle.channel_core.specs.History.{queue, holder}

-- the number of entries from which on a history takes no further message, and gives none
abbrev pub entry_limit : ℕ
entry_limit = 2000000

-- the state in whose section the Channel is, if there is one, is this one
abbrev pub IsAdmitted : List Entry → ℕ → Type 0
IsAdmitted before state = IfSome (holder before) (λ held. held ≡ state)

-- a change that receives messages finds one that waits
abbrev pub FindsMessage : List Entry → Change → Type 0
FindsMessage before (Put message) = ⊤
FindsMessage before Take = queue before ≢ []
FindsMessage before Clear = queue before ≢ []
FindsMessage before Enter = ⊤
FindsMessage before Leave = ⊤

-- a section begins where there is none, and its own state ends it
abbrev pub FindsSection : List Entry → ℕ → Change → Type 0
FindsSection before state (Put message) = ⊤
FindsSection before state Take = ⊤
FindsSection before state Clear = ⊤
FindsSection before state Enter = holder before ≡ None
FindsSection before state Leave = holder before ≡ Some state

-- the change finds fewer entries than the limit, unless it ends a section
abbrev pub FindsRoom : List Entry → Change → Type 0
FindsRoom before (Put message) = length before < entry_limit
FindsRoom before Take = length before < entry_limit
FindsRoom before Clear = length before < entry_limit
FindsRoom before Enter = length before < entry_limit
FindsRoom before Leave = ⊤

-- a stamp whose number is greater than each number of its state in these entries
abbrev pub IsLater : List Entry → Stamp → Type 0
IsLater before by = All (λ e. e.by.state ≡ by.state → e.by.number < by.number) before

-- entries whose numbers are all below n, whatever their states
abbrev pub NumbersBelow : ℕ → List Entry → Type 0
NumbersBelow n h = All (λ e. e.by.number < n) h

-- an entry that may follow these ones
pub record MayFollow (before : List Entry) (e : Entry) : Type 0 where
  pub admitted : IsAdmitted before e.by.state
  pub message : FindsMessage before e.what
  pub section : FindsSection before e.by.state e.what
  pub room : FindsRoom before e.what
  pub number : IsLater before e.by

-- a history in which each change that receives messages finds one
abbrev pub HasMessages : List Entry → Type 0
HasMessages h = AtEach (λ before e. FindsMessage before e.what) h

-- a history in which each entry may follow the ones before it
abbrev pub IsLawful : List Entry → Type 0
IsLawful h = AtEach MayFollow h
