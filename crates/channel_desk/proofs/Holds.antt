-- What a state has, as it takes turns, and enters and leaves sections.
use Rattle.std.proofs.Common.{◌≡◌, ◌≢◌, ◌∙◌, ℕ, suc, ◌+◌, ◌<◌, ◌≤◌, Bool, cond, eqb, List, [], ◌∷◌, ◌++◌, length, get_or, set, sym, refl, ap, subst, arith, All, Some, sum_by, eq-eqb, ne_eqb}
use Rattle.std.proofs.lemmas.List.Elements.{All-push, All-set}
use Rattle.std.proofs.lemmas.List.Sums.{sum_by_push, sum_by-cons, sum_by-set, get_or-le-sum_by}
use mathlib.Core.Logic.{dite}
use native.Mathlib.Decide.{ℕ_discrete}
use Rattle.love_base.specs.Prefix.{IsPrefix}
use Rattle.love_base.proofs.Prefixes.{further, longer}
use Rattle.channel_core.specs.declared.entry.Entry.{Entry}
use Rattle.channel_core.specs.History.{holder}
use Rattle.channel_core.specs.Lawful.{IsLater}
use Rattle.turn_desk.specs.declared.view.Phase.{Phase}
use Rattle.turn_desk.specs.declared.view.Phase.TheVariants.{Free, Taken, Published}
use Rattle.turn_desk.specs.declared.view.Spot.{Spot}
use Rattle.turn_desk.specs.declared.view.View.{View}
use Rattle.turn_desk.specs.View.{spot, freed, published}
use Rattle.turn_desk.specs.Passes.{DeskId, Standing, is_free}
use Rattle.turn_desk.specs.Closing.{HoldsNothing}
use Rattle.turn_desk.proofs.Callers.{all_front, all_last, takes_else, released_else, released_free, taken_is_busy}
use Rattle.channel_desk.specs.declared.shared.SharedEntry.{SharedEntry}
use Rattle.channel_desk.specs.declared.sections.Section.{Section}
use Rattle.channel_desk.specs.Shared.{history_of, kind_of, channel_in}
use Rattle.channel_desk.specs.Holding.{IsLaid, IsOf, IsHolding, sections_on, one_if_busy}
use Rattle.channel_desk.specs.Turns.{IsAt, Took, Turned, Waited}
use Rattle.channel_desk.proofs.Waiting.{laid_same, laid_took, laid_waited, took_fixed}

abbrev pub cnt : ℕ → Section → ℕ
cnt o s = cond {A = ℕ} (eqb s.held.object o) 1 0

abbrev busy_at : View SharedEntry → ℕ → ℕ
busy_at v o = one_if_busy (is_free (spot v o).phase)

pub cnt_here : (o : ℕ) (s : Section) → s.held.object ≡ o → cnt o s ≡ 1
cnt_here o s e = ap (λ (b : Bool). cond {A = ℕ} b 1 0) (eq-eqb s.held.object o e)

cnt_else : (o : ℕ) (s : Section) → s.held.object ≢ o → cnt o s ≡ 0
cnt_else o s ne = ap (λ (b : Bool). cond {A = ℕ} b 1 0) (ne_eqb s.held.object o ne)

busy_free : (v : View SharedEntry) (o : ℕ) → (spot v o).phase ≡ Free → busy_at v o ≡ 0
busy_free v o e = ap (λ (p : Phase). one_if_busy (is_free p)) e

busy_taken : (v : View SharedEntry) (o : ℕ) → (spot v o).phase ≡ Taken → busy_at v o ≡ 1
busy_taken v o e = ap (λ (p : Phase). one_if_busy (is_free p)) e

busy_same : (v w : View SharedEntry) (o : ℕ) → (spot w o).phase ≡ (spot v o).phase → busy_at w o ≡ busy_at v o
busy_same v w o e = ap (λ (p : Phase). one_if_busy (is_free p)) e

pub none_at : (ss : List Section) (o : ℕ) → sum_by (cnt o) ss ≡ 0 → (k : ℕ) (d : Section) → k < length ss → (get_or ss k d).held.object ≢ o
none_at ss o z k d lt e = let h = get_or-le-sum_by (cnt o) ss k d lt in let one = cnt_here o (get_or ss k d) e in let no : ⊥ = omega arith in no

free_of : (p : Phase) → 0 ≡ one_if_busy (is_free p) → p ≡ Free
free_of Free e = refl
free_of Taken e = absurd (let n : 0 ≡ 1 = e in omega arith)
free_of Published e = absurd (let n : 0 ≡ 1 = e in omega arith)

-- an object on which a state has no section is free for it
pub free_outside : (desk : DeskId) (state next : ℕ) (p : Standing SharedEntry) (held : List Section) (o : ℕ) → IsHolding desk state next p held → sections_on o held ≡ 0 → (spot p.view o).phase ≡ Free
free_outside desk state next p held o h none = free_of (spot p.view o).phase (sym none ∙ h.counted o)

all_rest : (P : Section → Type 0) (s : Section) (ss : List Section) → All P (s ∷ ss) → All P ss
all_rest P s ss all = λ k d lt. all (suc k) d (omega arith)

none_there : (o : ℕ) (ss : List Section) → All (λ (s : Section). s.held.object ≢ o) ss → sum_by (cnt o) ss ≡ 0
none_there o [] all = refl
none_there o (s ∷ ss) all =
    let here = cnt_else o s (all 0 s (omega arith)) in let rest = none_there o ss (all_rest (λ (x : Section). x.held.object ≢ o) s ss all) in
    let sum : cnt o s + sum_by (cnt o) ss ≡ 0 = omega arith in sum_by-cons (cnt o) s ss ∙ sum

-- no state has a section on the board
pub board_free : (desk : DeskId) (state next : ℕ) (p : Standing SharedEntry) (held : List Section) → IsHolding desk state next p held → (spot p.view 0).phase ≡ Free
board_free desk state next p held h = free_outside desk state next p held 0 h (none_there 0 held (λ k d lt e. let r = (h.each k d lt).real in let no : ⊥ = omega arith in no))

-- a state that is inside no section has no object
pub holds_nothing : (desk : DeskId) (state next : ℕ) (p : Standing SharedEntry) (held : List Section) → IsHolding desk state next p held → held ≡ [] → HoldsNothing p.view
holds_nothing desk state next p held h none o = free_outside desk state next p held o h (ap (sections_on o) none)

pub holds_first : (desk : DeskId) (state next : ℕ) (p : Standing SharedEntry) (held : List Section) → IsLaid desk p → HoldsNothing p.view → held ≡ [] → IsHolding desk state next p held
holds_first desk state next p held laid idle none = record {
  laid = laid;
  each = subst (All (IsOf state next p.view)) (sym none) (λ k d lt. absurd (omega arith));
  counted = λ o. ap (sections_on o) none ∙ sym (busy_free p.view o (idle o));
}

later_weaker : (h : List Entry) (state n m : ℕ) → n ≤ m → IsLater h (record { state = state; number = n }) → IsLater h (record { state = state; number = m })
later_weaker h state n m le later = λ k d lt e. let below = later k d lt e in omega arith

-- a section of which the pass knows as before
stays : (state next more : ℕ) (v w : View SharedEntry) (s : Section) → IsOf state next v s → next ≤ more → spot w s.held.object ≡ spot v s.held.object → IsOf state more w s
stays state next more v w s i le same = record {
  real = i.real;
  within = i.within;
  phase = ap (λ (x : Spot SharedEntry). x.phase) same ∙ i.phase;
  grown = subst (λ (x : Spot SharedEntry). IsPrefix x.known (history_of s.held.value)) (sym same) i.grown;
  front = subst (λ (x : Spot SharedEntry). x.front ≤ length (history_of s.held.value)) (sym same) i.front;
  kind = i.kind;
  depth = i.depth;
  few = let f = i.few in omega arith;
  mine = i.mine;
  later = later_weaker (channel_in s.held.value) state next more le i.later;
}

-- calls that leave all objects with whom they were
pub holds_alike : (desk : DeskId) (state next more : ℕ) (p q : Standing SharedEntry) (held : List Section) → IsHolding desk state next p held → next ≤ more → IsLaid desk q → ((o : ℕ) → (spot q.view o).phase ≡ (spot p.view o).phase) → ((o : ℕ) → (spot p.view o).phase ≡ Taken → spot q.view o ≡ spot p.view o) → IsHolding desk state more q held
holds_alike desk state next more p q held h le laid phases same = record {
  laid = laid;
  each = λ k d lt. let i = h.each k d lt in stays state next more p.view q.view (get_or held k d) i le (same (get_or held k d).held.object i.phase);
  counted = λ o. h.counted o ∙ sym (busy_same p.view q.view o (phases o));
}

-- the state goes on to its next number
pub holds_on : (desk : DeskId) (state next : ℕ) (p : Standing SharedEntry) (held : List Section) → IsHolding desk state next p held → IsHolding desk state (next + 1) p held
holds_on desk state next p held h = holds_alike desk state next (next + 1) p p held h (omega arith) h.laid (λ o. refl) (λ o busy. refl)

-- the same, said of equal things
pub holds_as : (desk desk' : DeskId) (state state' next next' : ℕ) (p : Standing SharedEntry) (held held' : List Section) → desk' ≡ desk → state' ≡ state → next' ≡ next → held' ≡ held → IsHolding desk state next p held → IsHolding desk' state' next' p held'
holds_as desk desk' state state' next next' p held held' a b c d h =
    subst (λ (x : DeskId). IsHolding x state' next' p held') (sym a) (subst (λ (x : ℕ). IsHolding desk x next' p held') (sym b) (subst (λ (x : ℕ). IsHolding desk state x p held') (sym c) (subst (IsHolding desk state next p) (sym d) h)))

pub holds_waited : (desk : DeskId) (state next : ℕ) (p q : Standing SharedEntry) (held : List Section) → IsHolding desk state next p held → q.desk ≡ p.desk → Waited p.view q.view → IsHolding desk state next q held
holds_waited desk state next p q held h own w = holds_alike desk state next next p q held h (omega arith) (laid_waited desk p q h.laid own w) w.phases w.held

pub turned_phases : (v w : View SharedEntry) (o : ℕ) (log log' : List SharedEntry) → Turned v w o log log' → (p : ℕ) → (spot w p).phase ≡ (spot v p).phase
turned_phases v w o log log' t p = let k = t.took in dite (ℕ_discrete p o)
    (λ q. ap (λ (n : ℕ). (spot w n).phase) q ∙ (released_free t.taken w o log' t.gave ∙ (sym k.free ∙ ap (λ (n : ℕ). (spot v n).phase) (sym q))))
    (λ ne. ap (λ (x : Spot SharedEntry). x.phase) (released_else t.taken w o p log' t.gave ne ∙ takes_else k.began t.taken o p log k.takes ne) ∙ k.waited.phases p)

pub turned_held : (v w : View SharedEntry) (o : ℕ) (log log' : List SharedEntry) → Turned v w o log log' → (p : ℕ) → (spot v p).phase ≡ Taken → spot w p ≡ spot v p
turned_held v w o log log' t p busy = let k = t.took in dite (ℕ_discrete p o)
    (λ q. absurd (taken_is_busy (sym busy ∙ (ap (λ (n : ℕ). (spot v n).phase) q ∙ k.free))))
    (λ ne. released_else t.taken w o p log' t.gave ne ∙ (takes_else k.began t.taken o p log k.takes ne ∙ k.waited.held p busy))

pub turned_fixed : (v w : View SharedEntry) (o : ℕ) (log log' : List SharedEntry) → Turned v w o log log' → w.fixed ≡ v.fixed
turned_fixed v w o log log' t = ap (λ (z : View SharedEntry). z.fixed) t.gave ∙ took_fixed v t.taken o log t.took

-- a turn at an object on which the state has no section
pub holds_turned : (desk : DeskId) (state next more : ℕ) (p q : Standing SharedEntry) (held : List Section) (o : ℕ) (log log' : List SharedEntry) → IsHolding desk state next p held → next ≤ more → q.desk ≡ p.desk → Turned p.view q.view o log log' → IsHolding desk state more q held
holds_turned desk state next more p q held o log log' h le own t =
    holds_alike desk state next more p q held h le (laid_same desk p q h.laid own (turned_fixed p.view q.view o log log' t)) (turned_phases p.view q.view o log log' t) (turned_held p.view q.view o log log' t)

took_else : (v w : View SharedEntry) (o p : ℕ) (log : List SharedEntry) → Took v w o log → p ≢ o → ((spot w p).phase ≡ (spot v p).phase) × ((spot v p).phase ≡ Taken → spot w p ≡ spot v p)
took_else v w o p log t ne = let same = takes_else t.began w o p log t.takes ne in (
  ap (λ (x : Spot SharedEntry). x.phase) same ∙ t.waited.phases p,
  λ busy. same ∙ t.waited.held p busy,
)

-- a section is entered
pub holds_more : (desk : DeskId) (state next : ℕ) (p q : Standing SharedEntry) (held held' : List Section) (o : ℕ) (log : List SharedEntry) (s : Section) → IsHolding desk state next p held → 0 < o → o ≤ 1024 → q.desk ≡ p.desk → Took p.view q.view o log → s.held.object ≡ o → s.depth ≡ 1
    → IsPrefix log (history_of s.held.value) → kind_of s.held.value ≡ 0 → holder (channel_in s.held.value) ≡ Some state → IsLater (channel_in s.held.value) (record { state = state; number = next + 1 }) → held' ≡ held ++ s ∷ [] → IsHolding desk state (next + 1) q held'
holds_more desk state next p q held held' o log s h low high own t object deep grown kind held_by later e =
    let v = p.view in let w = q.view in let k = t.kept in
    let before : (x : ℕ) → sum_by (cnt x) held ≡ busy_at v x = h.counted in
    let zero_here : sum_by (cnt o) held ≡ 0 = before o ∙ busy_free v o t.free in
    subst (IsHolding desk state (next + 1) q) (sym e) (record {
      laid = laid_took desk p q o log h.laid own t;
      each = All-push (IsOf state (next + 1) w) held s
          (λ i d lt. let there = took_else v w o (get_or held i d).held.object log t (none_at held o zero_here i d lt) in let was = h.each i d lt in stays state next (next + 1) v w (get_or held i d) was (omega arith) (there.1 was.phase))
          (record {
            real = subst (λ (n : ℕ). 0 < n) (sym object) low;
            within = subst (λ (n : ℕ). n ≤ 1024) (sym object) high;
            phase = ap (λ (n : ℕ). (spot w n).phase) object ∙ k.phase;
            grown = subst (λ (l : List SharedEntry). IsPrefix l (history_of s.held.value)) (sym (ap (λ (n : ℕ). (spot w n).known) object ∙ k.known)) grown;
            front = let f : (spot w s.held.object).front ≡ length log = ap (λ (n : ℕ). (spot w n).front) object ∙ k.front in let l = longer log (history_of s.held.value) grown in omega arith;
            kind = kind;
            depth = omega arith;
            few = omega arith;
            mine = held_by;
            later = later;
          });
      counted = λ x. let sum : sum_by (cnt x) (held ++ s ∷ []) ≡ sum_by (cnt x) held + cnt x s = sum_by_push (cnt x) held s in let was = before x in
          let all : sum_by (cnt x) (held ++ s ∷ []) ≡ busy_at w x = dite (ℕ_discrete x o)
          (λ q. let one = cnt_here x s (object ∙ sym q) in let z = busy_free v x (ap (λ (n : ℕ). (spot v n).phase) q ∙ t.free) in let b = busy_taken w x (ap (λ (n : ℕ). (spot w n).phase) q ∙ k.phase) in omega arith)
          (λ ne. let none = cnt_else x s (λ c. ne (sym c ∙ object)) in let b = busy_same v w x (took_else v w o x log t ne).0 in omega arith) in all;
    })

-- the last section is left
pub holds_fewer : (desk : DeskId) (state next : ℕ) (p q : Standing SharedEntry) (held before : List Section) (s : Section) (log : List SharedEntry) → IsHolding desk state next p before → before ≡ held ++ s ∷ [] → q.desk ≡ p.desk → q.view ≡ freed s.held.object (published s.held.object log p.view) → IsHolding desk state (next + 1) q held
holds_fewer desk state next p q held before s log h b own e =
    let v = p.view in let w = q.view in let o = s.held.object in
    let each = subst (All (IsOf state next v)) b h.each in let last = all_last (IsOf state next v) held s each in let front = all_front (IsOf state next v) held s each in
    let counted : (x : ℕ) → sum_by (cnt x) (held ++ s ∷ []) ≡ busy_at v x = λ x. ap (sum_by (cnt x)) (sym b) ∙ h.counted x in
    let zero_here : sum_by (cnt o) held ≡ 0 = (let sum = sum_by_push (cnt o) held s in let c = counted o in let one = cnt_here o s refl in let t = busy_taken v o last.phase in omega arith) in
    record {
      laid = laid_same desk p q h.laid own (ap (λ (z : View SharedEntry). z.fixed) e);
      each = λ i d lt. let same = released_else v w o (get_or held i d).held.object log e (none_at held o zero_here i d lt) in
          stays state next (next + 1) v w (get_or held i d) (front i d lt) (omega arith) same;
      counted = λ x. let all : sum_by (cnt x) held ≡ busy_at w x = dite (ℕ_discrete x o)
          (λ q. let z : sum_by (cnt x) held ≡ 0 = ap (λ (n : ℕ). sum_by (cnt n) held) q ∙ zero_here in let f = busy_free w x (ap (λ (n : ℕ). (spot w n).phase) q ∙ released_free v w o log e) in omega arith)
          (λ ne. let sum = sum_by_push (cnt x) held s in let c = counted x in let none = cnt_else x s (λ c. ne (sym c)) in let f = busy_same v w x (ap (λ (y : Spot SharedEntry). y.phase) (released_else v w o x log e ne)) in omega arith) in all;
    }

-- one section's object is changed, or only looked at
pub holds_set : (desk : DeskId) (state next more : ℕ) (p : Standing SharedEntry) (held held' : List Section) (o k : ℕ) (s new : Section) → IsHolding desk state next p held → next ≤ more → IsAt held o k s → new.held.object ≡ s.held.object → IsPrefix (history_of s.held.value) (history_of new.held.value) → kind_of new.held.value ≡ 0
    → 0 < new.depth → new.depth ≤ more → holder (channel_in new.held.value) ≡ Some state → IsLater (channel_in new.held.value) (record { state = state; number = more }) → held' ≡ set held k new → IsHolding desk state more p held'
holds_set desk state next more p held held' o k s new h le at object grown kind deep few held_by later e =
    let v = p.view in
    let here : IsOf state next v s = subst (IsOf state next v) (at.item s) (h.each k s at.within) in
    let weaker : All (IsOf state more v) held = λ i d lt. stays state next more v v (get_or held i d) (h.each i d lt) le refl in
    let one : IsOf state more v new = record {
      real = subst (λ (n : ℕ). 0 < n) (sym object) here.real;
      within = subst (λ (n : ℕ). n ≤ 1024) (sym object) here.within;
      phase = ap (λ (n : ℕ). (spot v n).phase) object ∙ here.phase;
      grown = further (spot v new.held.object).known (history_of s.held.value) (history_of new.held.value) (subst (λ (n : ℕ). IsPrefix (spot v n).known (history_of s.held.value)) (sym object) here.grown) grown;
      front = let f : (spot v new.held.object).front ≡ (spot v s.held.object).front = ap (λ (n : ℕ). (spot v n).front) object in let g = here.front in let l = longer (history_of s.held.value) (history_of new.held.value) grown in omega arith;
      kind = kind;
      depth = deep;
      few = few;
      mine = held_by;
      later = later;
    } in
    subst (IsHolding desk state more p) (sym e) (record {
      laid = h.laid;
      each = All-set (IsOf state more v) held k new one weaker;
      counted = λ x. let sum : sum_by (cnt x) (set held k new) + cnt x (get_or held k s) ≡ sum_by (cnt x) held + cnt x new = sum_by-set (cnt x) held k new s at.within in
          let was : cnt x (get_or held k s) ≡ cnt x s = ap (cnt x) (at.item s) in
          let same : cnt x new ≡ cnt x s = ap (λ (n : ℕ). cond {A = ℕ} (eqb n x) 1 0) object in
          let before : sum_by (cnt x) held ≡ busy_at v x = h.counted x in
          let all : sum_by (cnt x) (set held k new) ≡ busy_at v x = omega arith in all;
    })

-- what is known of the section at a place
pub section_at : (desk : DeskId) (state next : ℕ) (p : Standing SharedEntry) (held : List Section) (o k : ℕ) (s : Section) → IsHolding desk state next p held → IsAt held o k s → IsOf state next p.view s
section_at desk state next p held o k s h at = subst (IsOf state next p.view) (at.item s) (h.each k s at.within)

pub section_last : (desk : DeskId) (state next : ℕ) (p : Standing SharedEntry) (held before : List Section) (s : Section) → IsHolding desk state next p before → before ≡ held ++ s ∷ [] → IsOf state next p.view s
section_last desk state next p held before s h b = all_last (IsOf state next p.view) held s (subst (All (IsOf state next p.view)) b h.each)
