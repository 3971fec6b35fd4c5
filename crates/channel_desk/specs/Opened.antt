-- A desk of a board and empty Channels.
use Rattle.std.specs.Prelude.{ℕ, List, [], ◌∷◌, replicate, All}
use Rattle.turn_desk.specs.Closing.{HoldsNothing}
use Rattle.turn_desk.specs.Passes.{DeskId, Standing}
use Rattle.channel_desk.specs.declared.shared.Shared.{Shared}
use Rattle.channel_desk.specs.declared.shared.Shared.TheVariants.{Board, Channel}
use Rattle.channel_desk.specs.declared.shared.SharedEntry.{SharedEntry}
use Rattle.channel_desk.specs.Holding.{IsLaid}

-- a board of so many workers without a history, and so many empty Channels
abbrev pub laid_out : ℕ → ℕ → List Shared
laid_out workers channels = Board (record { workers = workers; history = [] }) ∷ replicate channels (Channel [])

-- the desk is laid for each of these passes, which have no object
abbrev pub AreLaid : DeskId → List (Standing SharedEntry) → Type 0
AreLaid desk passes = All (λ (p : Standing SharedEntry). IsLaid desk p × HoldsNothing p.view) passes
