-- What is kept of the objects.
use Rattle.std.specs.Prelude.{All}
use Rattle.std.proofs.Common.{◌≡◌, ◌∙◌, ℕ, suc, ◌+◌, ◌<◌, ◌≤◌, ◌^◌, ◌==◌, Bool, true, false, cond, List, [], ◌∷◌, ◌++◌, length, sym, ap, subst, arith, length-append}
use Rattle.std.proofs.lemmas.List.Elements.{All-push}
use Rattle.variant.specs.Histories.{AtEach}
use Rattle.variant.proofs.Histories.{AtEach-nil, AtEach-push, by_entries}
use Rattle.variant.specs.declared.ask.Ask.{Ask}
use Rattle.variant.specs.declared.action.Action.{Action}
use Rattle.variant.specs.Log.{Log}
use Rattle.channel_core.specs.declared.entry.Entry.{Entry}
use Rattle.lua_state.specs.declared.objects.Objects.{Objects}
use Rattle.lua_state.specs.declared.objects.Acted.{Acted}
use Rattle.channel_core.specs.Lawful.{IsLawful}
use Rattle.channel_core.proofs.Lawfulness.{length-lawful}
use Rattle.variant.specs.declared.action.Deed.{Deed}
use Rattle.variant.specs.declared.action.Deed.TheVariants.{Asked, CutLeave}
use Rattle.variant.specs.declared.ask.Ask.TheVariants.{Enter, Leave}
use Rattle.lua_state.specs.Solo.{IsDone, held_after, held_with, left_from}
use Rattle.lua_state.proofs.Growing.{held-more}
use Rattle.lua_state.specs.Kept.{Stand, IsKept, IsOpen, HasActed, acted_as, history_at, depth_at}

-- a Channel's history is short
pub length_fits : (h : List Entry) → IsLawful h → length h < 2 ^ 22
length_fits h lawful = let l = (length-lawful h lawful).0 in omega arith

-- no more Channels are held than actions were done
shorter : (n : ℕ) (held : List ℕ) → length (left_from n held) ≤ length held
shorter n [] = omega arith
shorter n (x ∷ xs) = elim (x == n) as (λ b. length (cond b (left_from n xs) (x ∷ left_from n xs)) ≤ suc (length xs)) [
  | true ↦ (let l = shorter n xs in omega arith)
  | false ↦ (let l = shorter n xs in omega arith)
]

with_ask : (held : List ℕ) (ask : Ask) → length (held_with held (Asked ask)) ≤ length held + 1
with_ask held (Enter n) = rw (length-append held (n ∷ [])) (omega arith)
with_ask held (Leave n) = (let l = shorter n held in omega arith)
with_ask held ask = omega arith

with_deed : (held : List ℕ) (deed : Deed) → length (held_with held deed) ≤ length held + 1
with_deed held (Asked ask) = with_ask held ask
with_deed held (CutLeave n) = (let l = shorter n held in omega arith)
with_deed held deed = omega arith

if_changed : (held : List ℕ) (deed : Deed) (changed : Bool) → length (cond changed (held_with held deed) held) ≤ length held + 1
if_changed held deed true = with_deed held deed
if_changed held deed false = omega arith

pub held_few : (actions : List Action) → length (held_after actions) ≤ length actions
held_few actions = by_entries (λ (l : List Action). length (held_after l) ≤ length l) (omega arith)
    (λ l a few. rw (held-more l a, length-append l (a ∷ [])) (let more = if_changed (held_after l) a.deed a.changed in omega arith))
    actions

-- nothing was done
pub kept_new : (o : Objects) → o.board ≡ record { workers = 0; history = [] } → o.channels.items ≡ [] → o.depths.items ≡ [] → o.held.items ≡ [] → o.events.items ≡ [] → o.trace ≡ record { actions = []; spare = 0 } → IsKept o
kept_new o board channels depths held events trace =
    let none : o.trace.actions ≡ [] = ap (λ (l : Log). l.actions) trace in
    record {
      stand = subst (λ (l : List Action). Stand l o) (sym none) (record {
        board = board;
        histories = λ n range. ap (λ (l : List (List Entry)). history_at l n) channels;
        depths = λ n range. ap (λ (l : List ℕ). depth_at l n) depths;
        same = ap length depths ∙ sym (ap length channels);
        made = ap length channels;
        few = rw channels (omega arith);
        held = held;
        events = events;
      });
      done = subst (AtEach IsDone) (sym none) (AtEach-nil IsDone);
      goes_on = subst (All (λ (a : Action). IsOpen a.deed)) (sym none) (λ k d lt. absurd (no k lt));
      room = rw held (omega arith);
    }
  where
    no : (k : ℕ) → k < 0 → ⊥
    no k lt = omega arith

-- the objects don't depend on the log
pub stand_log : (o : Objects) (log : Log) (actions : List Action) → Stand actions o → Stand actions (record o { trace = log })
stand_log o log actions s = record { board = s.board; histories = s.histories; depths = s.depths; same = s.same; made = s.made; few = s.few; held = s.held; events = s.events }

-- an action was put
pub kept_put : (o : Objects) (log : Log) (ask : Ask) (acted : Acted) (a : Action) → HasActed o.trace.actions ask acted o → AtEach IsDone o.trace.actions → All (λ a. IsOpen a.deed) o.trace.actions → length o.held.items + 1 ≤ o.trace.spare
    → a ≡ acted_as o.trace.actions ask acted → log.actions ≡ o.trace.actions ++ a ∷ [] → o.trace.spare ≤ log.spare + 1 → IsKept (record o { trace = log })
kept_put o log ask acted a did done goes_on room is put spare =
    let whole : log.actions ≡ o.trace.actions ++ acted_as o.trace.actions ask acted ∷ [] = put ∙ ap (λ (x : Action). o.trace.actions ++ x ∷ []) is in
    record {
      stand = subst (λ (l : List Action). Stand l (record o { trace = log })) (sym whole) (stand_log o log (o.trace.actions ++ acted_as o.trace.actions ask acted ∷ []) did.stand);
      done = subst (AtEach IsDone) (sym whole) (AtEach-push IsDone o.trace.actions (acted_as o.trace.actions ask acted) done did.done);
      goes_on = subst (All (λ (a : Action). IsOpen a.deed)) (sym whole) (All-push (λ (a : Action). IsOpen a.deed) o.trace.actions (acted_as o.trace.actions ask acted) goes_on tt);
      room = omega arith;
    }

pub held_short : (o : Objects) → IsKept o → length o.held.items ≤ length o.trace.actions
held_short o kept = rw kept.stand.held (held_few o.trace.actions)
