-- What turns at a Channel come to as actions.
use Rattle.std.specs.Prelude.{slice_index}
use Rattle.std.proofs.Common.{set, ◌≡◌, ◌∙◌, ℕ, ◌+◌, ◌<◌, ◌≤◌, true, false, is_none, List, [], ◌∷◌, ◌++◌, map, length, Option, Some, None, Result, Ok, Err, refl, sym, ap, subst, arith}
use Rattle.std.proofs.lemmas.List.{length-map}
use Rattle.love_base.specs.Prefix.{IsPrefix}
use Rattle.love_base.specs.declared.memory.Memory.{Memory}
use Rattle.love_base.specs.declared.stamp.Stamp.{Stamp}
use Rattle.love_base.proofs.Prefixes.{whole}
use Rattle.variant.specs.declared.ask.Ask.{Ask}
use Rattle.variant.specs.declared.ask.Ask.TheVariants.{Push, Supply, Pop, Peek, Clear, Enter, Leave}
use Rattle.variant.specs.declared.action.Deed.TheVariants.{Asked}
use Rattle.channel_core.specs.declared.entry.Entry.{Entry}
use Rattle.channel_core.specs.History.{holder}
use Rattle.turn_desk.specs.declared.view.View.{View}
use Rattle.turn_desk.specs.View.{spot, freed, published}
use Rattle.turn_desk.specs.Passes.{DeskId, Standing, fixed_at}
use Rattle.channel_desk.specs.declared.given.Given.{Given}
use Rattle.channel_desk.specs.declared.sections.Section.{Section}
use Rattle.channel_desk.specs.declared.shared.Shared.{Shared}
use Rattle.channel_desk.specs.declared.shared.Shared.TheVariants.{Board, Channel}
use Rattle.channel_desk.specs.declared.shared.SharedEntry.{SharedEntry}
use Rattle.channel_desk.specs.declared.shared.SharedEntry.TheVariants.{Channel as OnChannel}
use Rattle.channel_desk.specs.Shared.{history_of, kind_of, channel_in, rests}
use Rattle.channel_desk.specs.Deeds.{IsDeed, IsInside, IsPlaced, StaysOutside, StaysInside, Comes, Outcome, object_of}
use Rattle.channel_desk.specs.Holding.{IsLaid, IsOf}
use Rattle.channel_desk.specs.Turns.{IsAt, Took, Turned, Left, Waited, in_turn, inside, entering, leaving, depth_after}
use Rattle.channel_desk.specs.Acting.{Acted, action_of}
pub use Rattle.channel_desk.proofs.Coming.{comes_leave}
use Rattle.channel_desk.proofs.Objects.{rests_channel}
use Rattle.channel_desk.proofs.Sectioned.{grown_after, holder_outside}
use Rattle.channel_desk.proofs.Waiting.{took_fixed, waited_idle}

pub history_channel : (x : Shared) → kind_of x ≡ 0 → history_of x ≡ map OnChannel (channel_in x)
history_channel (Board board) kind = absurd (omega arith)
history_channel (Channel entries) kind = refl

pub length_channel : (x : Shared) → kind_of x ≡ 0 → length (history_of x) ≡ length (channel_in x)
length_channel x kind = ap length (history_channel x kind) ∙ length-map (channel_in x) (λ (e : Entry). OnChannel e)

-- a Channel is nothing but its history
pub same_channel_in : (x y : Shared) → kind_of x ≡ 0 → kind_of y ≡ 0 → channel_in y ≡ channel_in x → y ≡ x
same_channel_in (Board b) y kx ky e = absurd (omega arith)
same_channel_in (Channel es) (Board b) kx ky e = absurd (omega arith)
same_channel_in (Channel es) (Channel fs) kx ky e = ap Channel e

pub none_of : (held : Option ℕ) → is_none held ≡ true → held ≡ None
none_of None e = refl
none_of (Some state) e = absurd (no e)
  where
    no : false ≡ true → ⊥
    no e = cc

-- a Channel in which nobody is inside a section
pub holder_rests : (x : Shared) → kind_of x ≡ 0 → rests (history_of x) ≡ true → holder (channel_in x) ≡ None
holder_rests x kind r = none_of (holder (channel_in x)) (sym (rests_channel (channel_in x)) ∙ (ap rests (sym (history_channel x kind)) ∙ r))

pub rests_holder : (x : Shared) → kind_of x ≡ 0 → holder (channel_in x) ≡ None → rests (history_of x) ≡ true
rests_holder x kind none = ap rests (history_channel x kind) ∙ (rests_channel (channel_in x) ∙ ap is_none none)

pub placed_outside : (x : Shared) (by : Stamp) → kind_of x ≡ 0 → rests (history_of x) ≡ true → IsPlaced (channel_in x) by 0
placed_outside x by kind r = record {
  outside = λ e. holder_rests x kind r;
  inside = λ deep. absurd (omega arith);
  later = λ deep. absurd (omega arith);
}

pub placed_inside : (state next : ℕ) (v : View SharedEntry) (s : Section) → IsOf state next v s → IsPlaced (channel_in s.held.value) (record { state = state; number = next }) s.depth
placed_inside state next v s i = record {
  outside = λ e. let deep = i.depth in absurd (omega arith);
  inside = λ deep. i.mine;
  later = λ deep. i.later;
}

pub outcome_grown : (ask : Ask) (by : Stamp) (depth : ℕ) (x y : Shared) (r : Result Given Memory) → kind_of x ≡ 0 → kind_of y ≡ 0 → Outcome ask by depth (channel_in x) (channel_in y) r → IsPrefix (history_of x) (history_of y)
outcome_grown ask by depth x y (Ok given) kx ky came = subst (λ (l : List SharedEntry). IsPrefix l (history_of y)) (sym (history_channel x kx)) (subst (IsPrefix (map OnChannel (channel_in x))) (sym (history_channel y ky)) (grown_after (Asked ask) by depth (channel_in x) (channel_in y) given came))
outcome_grown ask by depth x y (Err memory) kx ky same = subst (λ (z : Shared). IsPrefix (history_of x) (history_of z)) (sym (same_channel_in x y kx ky same)) (whole (history_of x))

pub outcome_rests : (ask : Ask) (by : Stamp) (x y : Shared) (r : Result Given Memory) → IsDeed ask → StaysOutside ask → kind_of x ≡ 0 → kind_of y ≡ 0 → rests (history_of x) ≡ true → Outcome ask by 0 (channel_in x) (channel_in y) r → rests (history_of y) ≡ true
outcome_rests ask by x y (Ok given) deed stays kx ky r came = rests_holder y ky (holder_outside ask by (channel_in x) (channel_in y) given deed stays (holder_rests x kx r) came)
outcome_rests ask by x y (Err memory) deed stays kx ky r same = subst (λ (z : Shared). rests (history_of z) ≡ true) (sym (same_channel_in x y kx ky same)) r

-- an object in a turn is the pass's, and goes on from what it knows
pub grown_took : (v w : View SharedEntry) (o : ℕ) (x y : Shared) → Took v w o (history_of x) → IsPrefix (history_of x) (history_of y) → IsPrefix (spot w o).known (history_of y)
grown_took v w o x y took grown = subst (λ (l : List SharedEntry). IsPrefix l (history_of y)) (sym took.kept.known) grown

pub fixed_took : (desk : DeskId) (p q : Standing SharedEntry) (o : ℕ) (log : List SharedEntry) → IsLaid desk p → 0 < o → o ≤ 1024 → Took p.view q.view o log → fixed_at q.view o ≡ 0
fixed_took desk p q o log laid low high took = ap (λ (l : List ℕ). slice_index l o) (took_fixed p.view q.view o log took) ∙ laid.channels o low high

pub turned_by : (v u w : View SharedEntry) (o o' : ℕ) (log log' : List SharedEntry) → Took v u o log → o' ≡ o → w ≡ freed o' (published o' log' u) → Turned v w o log log'
turned_by v u w o o' log log' took same gave = record { taken = u; took = took; gave = gave ∙ ap (λ (n : ℕ). freed n (published n log' u)) same }

-- a turn in which no memory was found
pub waited_turned : (v w : View SharedEntry) (o : ℕ) (x y : Shared) → kind_of x ≡ 0 → kind_of y ≡ 0 → channel_in y ≡ channel_in x → Turned v w o (history_of x) (history_of y) → Waited v w
waited_turned v w o x y kx ky same t = waited_idle v w o (history_of x) (subst (λ (z : Shared). Turned v w o (history_of x) (history_of z)) (same_channel_in x y kx ky same) t)

-- the action of an ask in one turn
pub acted_turn : (by : Stamp) (v w : View SharedEntry) (held held' : List Section) (ask : Ask) (object place : ℕ) (given : Given) (x y : Shared) → kind_of x ≡ 0 → kind_of y ≡ 0 → object ≡ object_of ask → Comes (Asked ask) by 0 (channel_in x) (channel_in y) given → place ≡ length (history_of y)
    → Turned v w object (history_of x) (history_of y) → held' ≡ held → Acted by v w held held' ask (action_of by object place ask given)
acted_turn by v w held held' ask object place given x y kx ky at came long turned same = record {
  number = refl;
  object = at;
  deed = refl;
  readings = refl;
  depth = 0;
  before = channel_in x;
  after = channel_in y;
  comes = came;
  place = long ∙ length_channel y ky;
  step = in_turn refl (subst (λ (l : List SharedEntry). Turned v w object l (map OnChannel (channel_in y))) (history_channel x kx) (subst (Turned v w object (history_of x)) (history_channel y ky) turned)) same;
}

-- the action that begins an outermost section
pub acted_enter : (by : Stamp) (v w : View SharedEntry) (held held' : List Section) (ask : Ask) (object place : ℕ) (given : Given) (x : Shared) (s : Section) → kind_of x ≡ 0 → kind_of s.held.value ≡ 0 → object ≡ object_of ask → Comes (Asked ask) by 0 (channel_in x) (channel_in s.held.value) given → place ≡ length (history_of s.held.value)
    → Took v w object (history_of x) → s.held.object ≡ object → s.depth ≡ 1 → held' ≡ held ++ s ∷ [] → Acted by v w held held' ask (action_of by object place ask given)
acted_enter by v w held held' ask object place given x s kx ky at came long took here deep last = record {
  number = refl;
  object = at;
  deed = refl;
  readings = refl;
  depth = 0;
  before = channel_in x;
  after = channel_in s.held.value;
  comes = came;
  place = long ∙ length_channel s.held.value ky;
  step = entering refl (record {
    took = subst (Took v w object) (history_channel x kx) took;
    section = s;
    object = here;
    deep = deep;
    after = history_channel s.held.value ky;
    items = last;
  });
}

-- the action of an ask inside a section
pub acted_inside : (by : Stamp) (v w : View SharedEntry) (held held' : List Section) (ask : Ask) (object place k : ℕ) (given : Given) (s new : Section) → kind_of s.held.value ≡ 0 → kind_of new.held.value ≡ 0 → object ≡ object_of ask → Comes (Asked ask) by s.depth (channel_in s.held.value) (channel_in new.held.value) given
    → place ≡ length (history_of new.held.value) → IsAt held object k s → 0 < s.depth → new.held.object ≡ s.held.object → new.depth ≡ depth_after ask s.depth → w ≡ v → held' ≡ set held k new → Acted by v w held held' ask (action_of by object place ask given)
acted_inside by v w held held' ask object place k given s new kx ky here came long at deep same deep_after view items = record {
  number = refl;
  object = here;
  deed = refl;
  readings = refl;
  depth = s.depth;
  before = channel_in s.held.value;
  after = channel_in new.held.value;
  comes = came;
  place = long ∙ length_channel new.held.value ky;
  step = inside deep view (record {
    place = k;
    section = s;
    changed = new;
    at = at;
    deep = refl;
    before = history_channel s.held.value kx;
    object = same ∙ at.object;
    deep_after = deep_after;
    after = history_channel new.held.value ky;
    items = items;
  });
}

-- the action that ends an outermost section
pub acted_leave : (by : Stamp) (v w : View SharedEntry) (held held' : List Section) (ask : Ask) (place : ℕ) (given : Given) (s : Section) (y : Shared) → kind_of y ≡ 0 → s.depth ≡ 1 → s.held.object ≡ object_of ask → Comes (Asked ask) by 1 (channel_in s.held.value) (channel_in y) given → place ≡ length (channel_in y)
    → Left v w held held' s.held.object 1 (map OnChannel (channel_in s.held.value)) (map OnChannel (channel_in y)) → Acted by v w held held' ask (action_of by s.held.object place ask given)
acted_leave by v w held held' ask place given s y ky deep here came long left = record {
  number = refl;
  object = here;
  deed = refl;
  readings = refl;
  depth = 1;
  before = channel_in s.held.value;
  after = channel_in y;
  comes = came;
  place = long;
  step = leaving refl left;
}

-- the step by which a section's object is given back
pub left_by : (v w : View SharedEntry) (held held' : List Section) (state next depth : ℕ) (s : Section) (y : Shared) (o : ℕ) → IsOf state next v s → s.depth ≡ depth → kind_of y ≡ 0 → o ≡ s.held.object → held ≡ held' ++ s ∷ [] → (spot v o).front ≤ length (history_of y) → w ≡ freed o (published o (history_of y) v) → Left v w held held' s.held.object depth (map OnChannel (channel_in s.held.value)) (map OnChannel (channel_in y))
left_by v w held held' state next depth s y o i deep ky same last ahead gave = record {
  section = s;
  object = refl;
  deep = deep;
  before = history_channel s.held.value i.kind;
  taken = i.phase;
  grown = subst (IsPrefix (spot v s.held.object).known) (history_channel s.held.value i.kind) i.grown;
  ahead = subst (λ (l : List SharedEntry). (spot v s.held.object).front ≤ length l) (history_channel y ky) (subst (λ (n : ℕ). (spot v n).front ≤ length (history_of y)) same ahead);
  gave = gave ∙ (ap (λ (n : ℕ). freed n (published n (history_of y) v)) same ∙ ap (λ (l : List SharedEntry). freed s.held.object (published s.held.object l v)) (history_channel y ky));
  items = last;
}

-- no ask that stays outside ends a section
pub inside_of_outside : (ask : Ask) → StaysOutside ask → IsInside ask 0
inside_of_outside (Leave channel) stays = absurd stays
inside_of_outside ask stays = tt

-- and one that stays inside is inside
pub inside_of_inside : (ask : Ask) (depth : ℕ) → StaysInside ask depth → IsInside ask depth
inside_of_inside (Leave channel) depth stays = omega arith
inside_of_inside ask depth stays = tt

pub deep_of_inside : (ask : Ask) (depth : ℕ) → IsDeed ask → StaysInside ask depth → (0 < depth) × (0 < depth_after ask depth) × (depth_after ask depth ≤ depth + 1)
deep_of_inside (Push channel message) depth deed stays = (stays, stays, omega arith)
deep_of_inside (Supply channel message) depth deed stays = (stays, stays, omega arith)
deep_of_inside (Pop channel) depth deed stays = (stays, stays, omega arith)
deep_of_inside (Peek channel) depth deed stays = (stays, stays, omega arith)
deep_of_inside (Clear channel) depth deed stays = (stays, stays, omega arith)
deep_of_inside (Enter channel) depth deed stays = (stays, omega arith, omega arith)
deep_of_inside (Leave channel) depth deed stays = (omega arith, omega arith, omega arith)
deep_of_inside ask depth deed stays = absurd deed
