-- What a state has after each kind of step, by what the calls of the step say.
use Rattle.std.proofs.Common.{◌≡◌, ◌∙◌, ℕ, ◌+◌, ◌-◌, ◌<◌, ◌≤◌, Bool, true, false, nat_eq, not, List, [], ◌∷◌, ◌++◌, map, length, get_or, set, take, drop, Option, Some, None, Result, Ok, Err, refl, sym, ap, subst, arith, ◌⊎◌, inl, inr, sum_by, length-append, length-drop, get_or-drop}
use Rattle.std.specs.Prelude.{IfNone, OnErr, IsTrue}
use Rattle.std.proofs.lemmas.Bool.Decides.{nat_tests}
use Rattle.std.proofs.lemmas.List.{get_or_push, set-get_or}
use Rattle.std.proofs.lemmas.List.Sums.{sum_by_more, sum_by-take-drop, get_or-le-sum_by}
use mathlib.Core.Logic.{dite}
use native.Mathlib.Decide.{ℕ_discrete, dec_le}
use Rattle.love_base.specs.Prefix.{IsPrefix}
use Rattle.love_base.specs.declared.stamp.Stamp.{Stamp}
use Rattle.love_base.proofs.Prefixes.{further}
use Rattle.variant.specs.declared.ask.Ask.{Ask}
use Rattle.variant.specs.declared.ask.Ask.TheVariants.{Push, Supply, Pop, Peek, Clear, Enter, Leave}
use Rattle.variant.specs.declared.action.Action.{Action}
use Rattle.variant.specs.declared.action.Deed.TheVariants.{Asked}
use Rattle.variant.specs.declared.reply.Reply.TheVariants.{Done}
use Rattle.channel_core.specs.declared.entry.Entry.{Entry}
use Rattle.channel_core.specs.declared.entry.Change.TheVariants.{Leave as Leaving}
use Rattle.channel_core.specs.Answers.{answer, adds}
use Rattle.channel_core.specs.History.{holder, leave_by}
use Rattle.channel_core.specs.Lawful.{IsLawful}
use Rattle.channel_core.proofs.Histories.{holder-push}
use Rattle.turn_desk.specs.declared.view.View.{View}
use Rattle.turn_desk.specs.View.{spot, freed, published}
use Rattle.turn_desk.specs.Passes.{DeskId, Standing, fixed_at, is_free}
use Rattle.channel_desk.specs.declared.given.Given.{Given}
use Rattle.channel_desk.specs.declared.sections.Section.{Section}
use Rattle.channel_desk.specs.declared.shared.Shared.{Shared}
use Rattle.channel_desk.specs.declared.shared.SharedEntry.{SharedEntry}
use Rattle.channel_desk.specs.declared.shared.SharedEntry.TheVariants.{Channel as OnChannel}
use Rattle.channel_desk.specs.Shared.{history_of, kind_of, channel_in, rests}
use Rattle.channel_desk.specs.Deeds.{IsDeed, IsNoEnter, StaysOutside, StaysInside, Comes, object_of}
use Rattle.channel_desk.specs.Holding.{IsOf, IsHolding, sections_on, one_if_busy}
use Rattle.channel_desk.specs.Turns.{IsAt, Took, depth_after}
use Rattle.channel_desk.specs.Acting.{Acted, MayLeave, action_of}
use Rattle.channel_desk.proofs.Acts.{acted_leave, comes_leave, left_by, deep_of_inside, history_channel, holder_rests, outcome_grown, rests_holder, same_channel_in}
use Rattle.channel_desk.proofs.Holds.{cnt, cnt_here, holds_more, holds_set, none_at, section_at, section_last}
use Rattle.channel_desk.proofs.Sectioned.{holder_entered, holder_inside, later_after, later_entered}

-- nothing is said of a value that isn't there
pub if_none : {X : Type 0} (o : Option X) (P : Type 0) → P → IfNone o P
if_none None P p = p
if_none (Some x) P p = tt

pub if_err : {X Y : Type 0} (r : Result X Y) (P : Type 0) → P → OnErr r P
if_err (Ok x) P p = tt
if_err (Err y) P p = p

pub not_both : (v : Bool) → v ≡ true → v ≡ false → ⊥
not_both v p q = cc

pub is_not : (v b : Bool) → v ≡ not b → v ≡ false → b ≡ true
is_not v true is none = refl
is_not v false is none = absurd (not_both v is none)

-- an action, said of equal things
pub acted_as : (by by' : Stamp) (v w : View SharedEntry) (held held' : List Section) (ask : Ask) (a a' : Action) → by ≡ by' → a' ≡ a → Acted by v w held held' ask a → Acted by' v w held held' ask a'
acted_as by by' v w held held' ask a a' same is acted =
    subst (λ (b : Stamp). Acted b v w held held' ask a') same (subst (Acted by v w held held' ask) (sym is) acted)

-- an outermost section was entered
pub holds_entered : (desk : DeskId) (state next : ℕ) (p q : Standing SharedEntry) (held held' : List Section) (o : ℕ) (x : Shared) (s : Section) (by : Stamp) (ask : Ask) (given : Given) → IsHolding desk state next p held → 0 < o → o ≤ 1024 → q.desk ≡ p.desk → Took p.view q.view o (history_of x) → s.held.object ≡ o → s.depth ≡ 1
    → kind_of x ≡ 0 → kind_of s.held.value ≡ 0 → rests (history_of x) ≡ true → by ≡ record { state = state; number = next } → ask ≡ Enter o → given.changed ≡ true → IsLawful (channel_in s.held.value) → Comes (Asked ask) by 0 (channel_in x) (channel_in s.held.value) given → held' ≡ held ++ s ∷ []
    → IsHolding desk state (next + 1) q held'
holds_entered desk state next p q held held' o x s by ask given h low high own took object deep kx ky r stamp is changed lawful came last =
    let mine : Stamp = record { state = state; number = next } in
    let here : Comes (Asked (Enter o)) mine 0 (channel_in x) (channel_in s.held.value) given =
    subst (λ (a : Ask). Comes (Asked a) mine 0 (channel_in x) (channel_in s.held.value) given) is (subst (λ (b : Stamp). Comes (Asked ask) b 0 (channel_in x) (channel_in s.held.value) given) stamp came) in
    let none : holder (channel_in x) ≡ None = holder_rests x kx r in
    holds_more desk state next p q held held' o (history_of x) s h low high own took object deep (outcome_grown ask by 0 x s.held.value (Ok given) kx ky came) ky
    (holder_entered o mine (channel_in x) (channel_in s.held.value) given none changed here) (later_entered o mine (channel_in x) (channel_in s.held.value) given none changed lawful here) last

-- the section at a place, as it was read there
pub at_read : (held : List Section) (o k : ℕ) (s old : Section) → IsAt held o k s → old ≡ get_or held k old → IsAt held o k old
at_read held o k s old at e = subst (IsAt held o k) (sym (e ∙ at.item old)) at

pub stays_read : (held : List Section) (o k : ℕ) (s old : Section) (ask : Ask) → IsAt held o k s → old ≡ get_or held k old → StaysInside ask s.depth → StaysInside ask old.depth
stays_read held o k s old ask at e stays = subst (λ (x : Section). StaysInside ask x.depth) (sym (e ∙ at.item old)) stays

-- a deed inside a section was done
pub holds_inside : (desk : DeskId) (state next : ℕ) (p : Standing SharedEntry) (held : List Section) (o k : ℕ) (old new : Section) (by : Stamp) (ask : Ask) (given : Given) → IsHolding desk state next p held → IsAt held o k old → IsDeed ask → StaysInside ask old.depth → by ≡ record { state = state; number = next } → new.held.object ≡ old.held.object → kind_of new.held.value ≡ 0
    → Comes (Asked ask) by old.depth (channel_in old.held.value) (channel_in new.held.value) given → new.depth ≡ depth_after ask old.depth → IsHolding desk state (next + 1) p (set held k new)
holds_inside desk state next p held o k old new by ask given h at deed stays stamp object kind came after =
    let mine : Stamp = record { state = state; number = next } in
    let i : IsOf state next p.view old = section_at desk state next p held o k old h at in
    let here : Comes (Asked ask) mine old.depth (channel_in old.held.value) (channel_in new.held.value) given = subst (λ (b : Stamp). Comes (Asked ask) b old.depth (channel_in old.held.value) (channel_in new.held.value) given) stamp came in
    let deep = deep_of_inside ask old.depth deed stays in let low : 0 < depth_after ask old.depth = deep.1 in let high : depth_after ask old.depth ≤ old.depth + 1 = deep.2 in let few = i.few in
    holds_set desk state next (next + 1) p held (set held k new) o k old new h (omega arith) at object (outcome_grown ask by old.depth old.held.value new.held.value (Ok given) i.kind kind came) kind
    (subst (λ (n : ℕ). 0 < n) (sym after) low) (subst (λ (n : ℕ). n ≤ next + 1) (sym after) (omega arith))
    (holder_inside ask mine old.depth (channel_in old.held.value) (channel_in new.held.value) given deed stays i.mine here) (later_after (Asked ask) mine old.depth (channel_in old.held.value) (channel_in new.held.value) given i.later here) refl

section_same : (a b : Section) → a.held.object ≡ b.held.object → a.held.value ≡ b.held.value → a.depth ≡ b.depth → a ≡ b
section_same a b p q r = λ i. record { held = record { object = p i; value = q i }; depth = r i }

-- a deed inside a section for which there was no memory
pub kept_inside : (desk : DeskId) (state next : ℕ) (p : Standing SharedEntry) (held : List Section) (o k : ℕ) (old new : Section) → IsHolding desk state next p held → IsAt held o k old → new.held.object ≡ old.held.object → kind_of new.held.value ≡ 0 → channel_in new.held.value ≡ channel_in old.held.value → new.depth ≡ old.depth → set held k new ≡ held
kept_inside desk state next p held o k old new h at object kind same depth =
    let i : IsOf state next p.view old = section_at desk state next p held o k old h at in
    let is : new ≡ get_or held k old = section_same new old object (same_channel_in old.held.value new.held.value i.kind kind same) depth ∙ sym (at.item old) in
    ap (λ (x : Section). set held k x) is ∙ set-get_or held k old

-- an outermost section was left: what its object is given back as
pub left_grown : (state next : ℕ) (v : View SharedEntry) (s : Section) (by : Stamp) (y : Shared) (o : ℕ) → IsOf state next v s → kind_of y ≡ 0 → channel_in y ≡ channel_in s.held.value ++ leave_by by ∷ [] → o ≡ s.held.object → IsPrefix (spot v o).known (history_of y)
left_grown state next v s by y o i ky entry same =
    let h : List Entry = channel_in s.held.value in
    let added : IsPrefix (history_of s.held.value) (history_of y) = subst (λ (l : List SharedEntry). IsPrefix l (history_of y)) (sym (history_channel s.held.value i.kind))
    (subst (IsPrefix (map OnChannel h)) (sym (history_channel y ky)) (map OnChannel (leave_by by ∷ []), ap (map OnChannel) entry ∙ map_append h (leave_by by ∷ []))) in
    subst (λ (n : ℕ). IsPrefix (spot v n).known (history_of y)) (sym same) (further (spot v s.held.object).known (history_of s.held.value) (history_of y) i.grown added)
  where
    map_append : (xs ys : List Entry) → map OnChannel (xs ++ ys) ≡ map OnChannel xs ++ map OnChannel ys
    map_append [] ys = refl
    map_append (x ∷ xs) ys = ap (λ (l : List SharedEntry). OnChannel x ∷ l) (map_append xs ys)

pub left_rests : (h : List Entry) (by : Stamp) (y : Shared) → kind_of y ≡ 0 → channel_in y ≡ h ++ leave_by by ∷ [] → rests (history_of y) ≡ true
left_rests h by y ky entry = rests_holder y ky (ap holder entry ∙ holder-push h (leave_by by))

pub left_fixed : (desk : DeskId) (state next : ℕ) (p : Standing SharedEntry) (held : List Section) (s : Section) (y : Shared) (o : ℕ) → IsHolding desk state next p held → IsOf state next p.view s → kind_of y ≡ 0 → o ≡ s.held.object → kind_of y ≡ fixed_at p.view o
left_fixed desk state next p held s y o h i ky same =
    ky ∙ (sym (h.laid.channels s.held.object i.real i.within) ∙ ap (λ (n : ℕ). fixed_at p.view n) (sym same))

-- what stands last
pub last_read : (held init : List Section) (s : Section) (k : ℕ) (d : Section) → held ≡ init ++ s ∷ [] → k + 1 ≡ length held → get_or held k d ≡ s
last_read held init s k d e long = ap (λ (l : List Section). get_or l k d) e ∙ get_or_push init s d k (let l : length held ≡ length init + 1 = ap length e ∙ length-append init (s ∷ []) in omega arith)

-- there is one section on an object at most
lower_twice : (f : Section → ℕ) (ss : List Section) (k l : ℕ) (d : Section) → l < length ss → k < l → f (get_or ss k d) ≡ 1 → f (get_or ss l d) ≡ 1 → 2 ≤ sum_by f ss
lower_twice f ss k l d lt below here there =
    let more : sum_by f (take (k + 1) ss) ≡ sum_by f (take k ss) + f (get_or ss k d) = sum_by_more f ss k d (omega arith) in
    let both : sum_by f (take (k + 1) ss) + sum_by f (drop (k + 1) ss) ≡ sum_by f ss = sum_by-take-drop f ss (k + 1) in
    let long : length (drop (k + 1) ss) ≡ length ss - (k + 1) = length-drop (k + 1) ss in
    let at : get_or (drop (k + 1) ss) (l - (k + 1)) d ≡ get_or ss (k + 1 + (l - (k + 1))) d = get_or-drop (k + 1) ss (l - (k + 1)) d in
    let place : k + 1 + (l - (k + 1)) ≡ l = omega arith in
    let one : f (get_or (drop (k + 1) ss) (l - (k + 1)) d) ≡ 1 = ap f (at ∙ ap (λ (n : ℕ). get_or ss n d) place) ∙ there in
    let some : f (get_or (drop (k + 1) ss) (l - (k + 1)) d) ≤ sum_by f (drop (k + 1) ss) = get_or-le-sum_by f (drop (k + 1) ss) (l - (k + 1)) d (omega arith) in
    omega arith

busy_le : (b : Bool) → one_if_busy b ≤ 1
busy_le true = omega arith
busy_le false = omega arith

pub one_place : (desk : DeskId) (state next : ℕ) (p : Standing SharedEntry) (held : List Section) (o k l : ℕ) (s t : Section) → IsHolding desk state next p held → IsAt held o k s → IsAt held o l t → k ≡ l
one_place desk state next p held o k l s t h a b =
    let one : cnt o (get_or held k s) ≡ 1 = cnt_here o (get_or held k s) (ap (λ (x : Section). x.held.object) (a.item s) ∙ a.object) in
    let two : cnt o (get_or held l s) ≡ 1 = cnt_here o (get_or held l s) (ap (λ (x : Section). x.held.object) (b.item s) ∙ b.object) in
    let count : sum_by (cnt o) held ≡ one_if_busy (is_free (spot p.view o).phase) = h.counted o in let most = busy_le (is_free (spot p.view o).phase) in
    let wa = a.within in let wb = b.within in
    dite (ℕ_discrete k l) (λ e. e)
    (λ ne. dite (dec_le (k + 1) l)
    (λ lt. let no = lower_twice (cnt o) held k l s wb (omega arith) one two in absurd (omega arith))
    (λ nlt. let no = lower_twice (cnt o) held l k s wa (omega arith) two one in absurd (omega arith)))

-- an outermost section that may be left stands last
pub may_leave_last : (desk : DeskId) (state next : ℕ) (p : Standing SharedEntry) (held : List Section) (ask : Ask) (o k : ℕ) (s : Section) → IsHolding desk state next p held → ask ≡ Leave o → MayLeave ask held → IsAt held o k s → s.depth ≤ 1
    → (n : ℕ) × (t : Section) × IsAt held o n t × (n + 1 ≡ length held) × (t.depth ≡ 1)
may_leave_last desk state next p held ask o k s h is may at flat = found (subst (λ (a : Ask). MayLeave a held) is may)
  where
    found : (n : ℕ) × (t : Section) × IsAt held o n t × ((1 < t.depth) ⊎ (n + 1 ≡ length held)) → (n : ℕ) × (t : Section) × IsAt held o n t × (n + 1 ≡ length held) × (t.depth ≡ 1)
    found m =
        let same : k ≡ m.0 = one_place desk state next p held o k m.0 s m.1 h at m.2 in
        let is_s : m.1 ≡ s = sym (m.2.item s) ∙ (ap (λ (n : ℕ). get_or held n s) (sym same) ∙ at.item s) in
        let depth : m.1.depth ≡ s.depth = ap (λ (x : Section). x.depth) is_s in
        let deep = (section_at desk state next p held o k s h at).depth in
        let last : m.0 + 1 ≡ length held = (elim m.3 [ inl more ↦ absurd (omega arith) | inr e ↦ e ]) in
        (m.0, m.1, m.2, last, omega arith)

-- whether the section that was found may be left is told by its depth and its place
abbrev MayLeaveOn : ℕ → List Section → Type 0
MayLeaveOn o held = (n : ℕ) × (t : Section) × IsAt held o n t × ((1 < t.depth) ⊎ (n + 1 ≡ length held))

pub may_leave_found : (desk : DeskId) (state next : ℕ) (p : Standing SharedEntry) (held : List Section) (o o' k count : ℕ) (s : Section) → IsHolding desk state next p held → o' ≡ o → IsAt held o' k s → s.depth ≤ 1 → count ≡ length held → (IsTrue (nat_eq (k + 1) count) → MayLeaveOn o held) × (MayLeaveOn o held → IsTrue (nat_eq (k + 1) count))
may_leave_found desk state next p held o o' k count s h on at' flat long = (
  λ t. (let last : k + 1 ≡ length held = grind (arith, nat_tests) in (k, s, at, inr last)),
  λ m. (let same : k ≡ m.0 = one_place desk state next p held o k m.0 s m.1 h at m.2 in
      let is_s : m.1 ≡ s = sym (m.2.item s) ∙ (ap (λ (n : ℕ). get_or held n s) (sym same) ∙ at.item s) in
      let depth : m.1.depth ≡ s.depth = ap (λ (x : Section). x.depth) is_s in
      let last : m.0 + 1 ≡ length held = (elim m.3 [ inl more ↦ absurd (omega arith) | inr e ↦ e ]) in
      let up : k + 1 ≡ count = omega arith in tests up),
)
  where
    at : IsAt held o k s
    at = subst (λ (n : ℕ). IsAt held n k s) on at'

    tests : k + 1 ≡ count → IsTrue (nat_eq (k + 1) count)
    tests e = grind (arith, nat_tests)

pub may_leave_none : (held : List Section) (o o' : ℕ) → o' ≡ o → sections_on o' held ≡ 0 → (IsTrue false → MayLeaveOn o held) × (MayLeaveOn o held → IsTrue false)
may_leave_none held o o' on none = (
  λ t. absurd (not_both false t refl),
  λ m. (let at : IsAt held o m.0 m.1 = m.2 in absurd (none_at held o (ap (λ (n : ℕ). sections_on n held) (sym on) ∙ none) m.0 m.1 at.within (ap (λ (x : Section). x.held.object) (at.item m.1) ∙ at.object))),
)

-- an ask about a Channel that the state isn't inside begins a section or stays outside
pub stays_outside : (ask : Ask) (held : List Section) → IsDeed ask → IsNoEnter ask → MayLeave ask held → sections_on (object_of ask) held ≡ 0 → StaysOutside ask
stays_outside (Push channel message) held deed begins may none = tt
stays_outside (Supply channel message) held deed begins may none = tt
stays_outside (Pop channel) held deed begins may none = tt
stays_outside (Peek channel) held deed begins may none = tt
stays_outside (Clear channel) held deed begins may none = tt
stays_outside (Enter channel) held deed begins may none = absurd begins
stays_outside (Leave channel) held deed begins may none =
    let at : IsAt held channel may.0 may.1 = may.2 in absurd (none_at held channel none may.0 may.1 at.within (ap (λ (x : Section). x.held.object) (at.item may.1) ∙ at.object))
stays_outside ask held deed begins may none = absurd deed

-- the action by which an outermost section was left
pub acted_left : (desk : DeskId) (state next : ℕ) (p q : Standing SharedEntry) (held held' : List Section) (ask : Ask) (channel k place : ℕ) (by : Stamp) (given : Given) (t s : Section) (y : Shared) (o : ℕ) (a : Action) → IsHolding desk state next p held → held ≡ held' ++ s ∷ [] → IsAt held channel k t → k + 1 ≡ length held → t.depth ≡ 1
    → ask ≡ Leave channel → by ≡ record { state = state; number = next } → o ≡ s.held.object → kind_of y ≡ 0 → channel_in y ≡ channel_in s.held.value ++ leave_by by ∷ [] → place ≡ length (channel_in y) → answer (Asked (Leave channel)) by.state 1 (channel_in s.held.value) ≡ adds Done Leaving
    → given.reply ≡ Done → given.changed ≡ true → (spot p.view o).front ≤ length (history_of y) → q.view ≡ freed o (published o (history_of y) p.view) → a ≡ action_of by channel place ask given → Acted (record { state = state; number = next }) p.view q.view held held' ask a
acted_left desk state next p q held held' ask channel k place by given t s y o a h last at long one is stamp same ky entry lengthy answered reply changed ahead gave acts =
    let there : t ≡ s = sym (at.item s) ∙ last_read held held' s k s last long in
    let deep : s.depth ≡ 1 = ap (λ (x : Section). x.depth) (sym there) ∙ one in
    let on : s.held.object ≡ channel = ap (λ (x : Section). x.held.object) (sym there) ∙ at.object in
    let i : IsOf state next p.view s = section_last desk state next p held' held s h last in
    let came : Comes (Asked ask) by 1 (channel_in s.held.value) (channel_in y) given =
    subst (λ (x : Ask). Comes (Asked x) by 1 (channel_in s.held.value) (channel_in y) given) (sym is) (comes_leave channel by 1 (channel_in s.held.value) (channel_in y) given refl answered entry reply changed) in
    let left = left_by p.view q.view held held' state next 1 s y o i deep ky same last ahead gave in
    acted_as by (record { state = state; number = next }) p.view q.view held held' ask (action_of by s.held.object place ask given) a stamp (acts ∙ ap (λ (n : ℕ). action_of by n place ask given) (sym on))
    (acted_leave by p.view q.view held held' ask place given s y ky deep (on ∙ sym (ap object_of is)) came lengthy left)
