use Rattle.std.proofs.Common.{◌≡◌, ℕ, ◌<◌, false, Some, get_or, map, take, vec_len, vec_capacity}
use Rattle.std.specs.Slots.{slots_filled, slots_items, slots_len}
use Rattle.std.specs.Slots.Ownership.{Filled}
use Rattle.turn_desk.proofs.closing.take_all.Given as goal

abbrev pub invariant-loop-object : goal.invariant-loop-object
invariant-loop-object g l = record {
  filled : Filled (slots_filled l.closed.slots) l.object (slots_len l.closed.slots);
  emptied : (k : ℕ) → k < l.object → get_or (slots_filled l.closed.slots) k false ≡ false;
  items : slots_items l.closed.slots ≡ slots_items l.fn.closed.slots;
  len : slots_len l.closed.slots ≡ slots_len l.fn.closed.slots;
  taken : map Some l.objects.items ≡ take l.object (slots_items l.fn.closed.slots);
  count : vec_len l.objects ≡ l.object;
  room : vec_capacity l.objects ≡ vec_capacity l.fn.objects;
}
