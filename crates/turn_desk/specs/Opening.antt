-- The passes of a desk that was just made.
use Rattle.std.specs.Prelude.{◌≡◌, ℕ, ◌+◌, ◌*◌, ◌<◌, ◌≤◌, ◌==◌, List, [], ◌∷◌, map, length, replicate, slice_index, Option, if◌then◌else◌}
use Rattle.std.specs.List.{range_with_len}
use Rattle.atomic_table.specs.Seated.{TableId}
use Rattle.atomic_table.specs.Table.{Me}
use Rattle.turn_desk.specs.declared.view.View.{View}
use Rattle.turn_desk.specs.View.{blank, opening}
use Rattle.turn_desk.specs.Passes.{DeskId, Standing}

-- the words of a desk of free objects with empty histories, of which each has this summary
pub record AreFree (objects summary : ℕ) (words : List ℕ) : Type 0 where
  pub wide : length words ≡ 8 * objects
  pub turns : (o : ℕ) → o < objects → slice_index words (8 * o) ≡ 0
  pub tallies : (o : ℕ) → o < objects → slice_index words (8 * o + 1) ≡ summary

-- the seat of a pass that was just made, with this number
pub record IsNew {O E : Type 0} (number : ℕ) (table : TableId) (me : Me (Option O) (View E)) : Type 0 where
  pub named : me.0.number ≡ number
  pub real : 0 < number
  pub within : number ≤ me.0.seats
  pub few : me.0.seats ≤ 17
  pub alone : me.0.numbers ≡ number ∷ []
  pub ready : me.0.awaited ≡ 0
  pub kinds : length me.0.fixed ≡ table.slots
  pub spots : me.0.spots ≡ replicate table.slots blank
  pub refused : me.0.refused ≡ []
  pub looks : me.0.looks ≡ []
  pub actions : me.0.actions ≡ []
  pub slots : me.1 ≡ []

-- the pass of this number at a desk whose objects have these fixed numbers; the first is the one that made the others
abbrev pub opening_pass : {E : Type 0} → DeskId → List ℕ → ℕ → Standing E
opening_pass desk fixed number = record {
  desk = desk;
  view = opening number (if number == 1 then desk.seats + 1 else 0) desk.seats 0 fixed;
}

-- the passes are numbered from 1, in order
abbrev pub opening_passes : {E : Type 0} → DeskId → List ℕ → List (Standing E)
opening_passes desk fixed = map (opening_pass desk fixed) (range_with_len 1 desk.seats)
