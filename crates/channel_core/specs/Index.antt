-- What a Channel keeps beside its history.
use Rattle.std.specs.Prelude.{◌≡◌, ℕ, ◌<◌, List, Option, Some, length, slice_get, option_and_then, IfSome}
use Rattle.std.specs.List.{AllZip}
use Rattle.variant.specs.declared.message.Variant.{Variant}
use Rattle.channel_core.specs.declared.entry.Entry.{Entry}
use Rattle.channel_core.specs.History.{sent_by, sent_messages, received, holder}
use Rattle.channel_core.specs.Lawful.{IsLawful}

-- the message of the entry at this place, counted from 0
abbrev pub message_at : List Entry → ℕ → Option Variant
message_at h place = option_and_then (λ e. sent_by e.what) (slice_get h place)

-- a lawful history, with the places of its messages in order, how many of these were received, and the
-- state in whose section it is; where there is one, there is room for the entry that ends the section
pub record IsIndexed (h : List Entry) (puts : List ℕ) (taken : ℕ) (held : Option ℕ) (room : ℕ) : Type 0 where
  pub lawful : IsLawful h
  pub places : AllZip (λ place message. message_at h place ≡ Some message) puts (sent_messages h)
  pub count : taken ≡ received h
  pub section : held ≡ holder h
  pub spare : IfSome held (λ state. length h < room)
