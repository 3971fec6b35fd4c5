-- What stands in registers, and what stays there.
use Rattle.std.proofs.Common.{ℕ, zero, suc, ◌+◌, ◌≡◌, ◌≤◌, ◌<◌, refl, ap, ◌∙◌, subst, List, [], ◌∷◌, Option, Some, None, Bool, true, false, arith}
use Rattle.std.proofs.lemmas.Bool.{eq-eqb, eqb-true}
use Rattle.std.specs.Prelude.{if◌then◌else◌, ◌==◌, drop, bytes_eq}
use Rattle.lua_tree.specs.Tree.{Bytes}
use Rattle.lua_meaning.specs.Value.{Value, first}
use Rattle.lua_meaning.specs.Locals.{Env, Slot, held, cell, find}
use Rattle.lua_code.specs.Scope.{Kind, in_slot, in_cell, outside, named, hidden, Scope, slot_count, cell_count, Seat, at_slot, at_cell, seat_behind, seat_of}
use Rattle.lua_code.specs.State.{put, put_values, put_all, Registers, with_slots, with_tail, put_slot}

-- ---- lists without an end

not_true : (b : Bool) → (b ≡ true → ⊥) → b ≡ false
not_true true h = absurd (h refl)
not_true false h = refl

pub differs : (i n : ℕ) → i < n → (i == n) ≡ false
differs i n l = not_true (i == n) (λ e. let x : ⊥ = omega (arith, l, eqb-true i n e) in x)

pub differs_above : (i n : ℕ) → n < i → (i == n) ≡ false
differs_above i n l = not_true (i == n) (λ e. let x : ⊥ = omega (arith, l, eqb-true i n e) in x)

pub put_same : {A : Type 0} (s : ℕ → A) (n : ℕ) (a : A) → put s n a n ≡ a
put_same s n a = ap (λ b. if b then a else s n) (eq-eqb n n refl)

pub put_other : {A : Type 0} (s : ℕ → A) (n : ℕ) (a : A) (i : ℕ) → (i == n) ≡ false → put s n a i ≡ s i
put_other s n a i h = ap (λ b. if b then a else s i) h

-- below a place everything is the same
abbrev pub Below : {A : Type 0} → (s t : ℕ → A) → ℕ → Type 0
Below s t h = (i : ℕ) → i < h → t i ≡ s i

pub below_self : {A : Type 0} (s : ℕ → A) (h : ℕ) → Below s s h
below_self s h i l = refl

pub below_on : {A : Type 0} (s t u : ℕ → A) (h g : ℕ) → h ≤ g → Below s t h → Below t u g → Below s u h
below_on s t u h g m x y i l = y i (omega (arith, m, l)) ∙ x i l

pub below_put : {A : Type 0} (s t : ℕ → A) (h n : ℕ) (a : A) → h ≤ n → Below s t h → Below s (put t n a) h
below_put s t h n a m x i l = put_other t n a i (differs i n (omega (arith, m, l))) ∙ x i l

pub below_less : {A : Type 0} (s t : ℕ → A) (h g : ℕ) → g ≤ h → Below s t h → Below s t g
below_less s t h g m x i l = x i (omega (arith, m, l))

pub below_values : (s t : ℕ → Value) (h at n : ℕ) (vs : List Value) → h ≤ at → Below s t h → Below s (put_values t at n vs) h
below_values s t h at zero vs l x = x
below_values s t h at (suc n) vs l x =
    below_values s (put t at (first vs)) h (suc at) n (drop 1 vs) (omega (arith, l)) (below_put s t h at (first vs) l x)

pub below_all : (s t : ℕ → ℕ) (h at : ℕ) (cs : List ℕ) → h ≤ at → Below s t h → Below s (put_all t at cs) h
below_all s t h at [] l x = x
below_all s t h at (c ∷ cs) l x = below_all s (put t at c) h (suc at) cs (omega (arith, l)) (below_put s t h at c l x)

-- ---- registers

-- the slots below a place and the cells below another one stay
pub record Stays (r t : Registers) (low some : ℕ) : Type 0 where
  pub slots : Below r.slots t.slots low
  pub cells : Below r.cells t.cells some

pub stays_self : (r : Registers) (low cells : ℕ) → Stays r r low cells
stays_self r low cells = record { slots = below_self r.slots low; cells = below_self r.cells cells }

pub stays_on : (r t u : Registers) (low high cells more : ℕ) → low ≤ high → cells ≤ more → Stays r t low cells → Stays t u high more → Stays r u low cells
stays_on r t u low high cells more l m x y = record {
  slots = below_on r.slots t.slots u.slots low high l x.slots y.slots;
  cells = below_on r.cells t.cells u.cells cells more m x.cells y.cells;
}

pub stays_less : (r t : Registers) (high low more cells : ℕ) → low ≤ high → cells ≤ more → Stays r t high more → Stays r t low cells
stays_less r t high low more cells l m x = record {
  slots = below_less r.slots t.slots high low l x.slots;
  cells = below_less r.cells t.cells more cells m x.cells;
}

pub stays_put : (r t : Registers) (low cells n : ℕ) (v : Value) → low ≤ n → Stays r t low cells → Stays r (put_slot t n v) low cells
stays_put r t low cells n v l x = record { slots = below_put r.slots t.slots low n v l x.slots; cells = x.cells }

pub stays_values : (r t : Registers) (low cells at n : ℕ) (vs : List Value) → low ≤ at → Stays r t low cells → Stays r (with_slots t (put_values t.slots at n vs)) low cells
stays_values r t low cells at n vs l x = record { slots = below_values r.slots t.slots low at n vs l x.slots; cells = x.cells }

pub stays_tail : (r t : Registers) (low cells : ℕ) (vs : List Value) → Stays r t low cells → Stays r (with_tail t vs) low cells
stays_tail r t low cells vs x = record { slots = x.slots; cells = x.cells }

-- ---- locals

-- a local is where its kind says
abbrev pub At : Registers → (base cell_base : ℕ) → Kind → Scope → Slot → Type 0
At r base cell_base in_slot scope (held v) = r.slots (base + slot_count scope) ≡ v
At r base cell_base in_slot scope (cell c) = ⊥
At r base cell_base in_cell scope (held v) = ⊥
At r base cell_base in_cell scope (cell c) = r.cells (cell_base + cell_count scope) ≡ c
At r base cell_base outside scope (held v) = ⊥
At r base cell_base outside scope (cell c) = r.cells (cell_base + cell_count scope) ≡ c

-- the locals in scope stand in registers
abbrev pub Holds : Registers → (base cell_base : ℕ) → Scope → Env → Type 0
Holds r base cell_base [] [] = Unit {0}
Holds r base cell_base [] (entry ∷ env) = ⊥
Holds r base cell_base (hidden ∷ scope) env = Holds r base cell_base scope env
Holds r base cell_base (named x kind ∷ scope) [] = ⊥
Holds r base cell_base (named x kind ∷ scope) (entry ∷ env) =
    (x ≡ entry.0) × At r base cell_base kind scope entry.1 × Holds r base cell_base scope env

at_stays : (r t : Registers) (base cell_base : ℕ) (kind : Kind) (scope : Scope) (s : Slot) (low cells : ℕ) → base + slot_count (named [] kind ∷ scope) ≤ low → cell_base + cell_count (named [] kind ∷ scope) ≤ cells → Stays r t low cells → At r base cell_base kind scope s → At t base cell_base kind scope s
at_stays r t base cell_base in_slot scope (held v) low cells l m x h = x.slots (base + slot_count scope) (omega (arith, l)) ∙ h
at_stays r t base cell_base in_slot scope (cell c) low cells l m x h = h
at_stays r t base cell_base in_cell scope (held v) low cells l m x h = h
at_stays r t base cell_base in_cell scope (cell c) low cells l m x h = x.cells (cell_base + cell_count scope) (omega (arith, m)) ∙ h
at_stays r t base cell_base outside scope (held v) low cells l m x h = h
at_stays r t base cell_base outside scope (cell c) low cells l m x h = x.cells (cell_base + cell_count scope) (omega (arith, m)) ∙ h

slots_behind : (kind : Kind) (x : Bytes) (scope : Scope) → slot_count scope ≤ slot_count (named x kind ∷ scope)
slots_behind in_slot x scope = omega arith
slots_behind in_cell x scope = omega arith
slots_behind outside x scope = omega arith

cells_behind : (kind : Kind) (x : Bytes) (scope : Scope) → cell_count scope ≤ cell_count (named x kind ∷ scope)
cells_behind in_slot x scope = omega arith
cells_behind in_cell x scope = omega arith
cells_behind outside x scope = omega arith

slots_unnamed : (kind : Kind) (x : Bytes) (scope : Scope) → slot_count (named [] kind ∷ scope) ≡ slot_count (named x kind ∷ scope)
slots_unnamed in_slot x scope = refl
slots_unnamed in_cell x scope = refl
slots_unnamed outside x scope = refl

cells_unnamed : (kind : Kind) (x : Bytes) (scope : Scope) → cell_count (named [] kind ∷ scope) ≡ cell_count (named x kind ∷ scope)
cells_unnamed in_slot x scope = refl
cells_unnamed in_cell x scope = refl
cells_unnamed outside x scope = refl

pub holds_stays : (r t : Registers) (base cell_base : ℕ) (scope : Scope) (env : Env) (low cells : ℕ) → base + slot_count scope ≤ low → cell_base + cell_count scope ≤ cells → Stays r t low cells → Holds r base cell_base scope env → Holds t base cell_base scope env
holds_stays r t base cell_base [] [] low cells l m x h = h
holds_stays r t base cell_base [] (entry ∷ env) low cells l m x h = h
holds_stays r t base cell_base (hidden ∷ scope) env low cells l m x h = holds_stays r t base cell_base scope env low cells (omega (arith, l)) (omega (arith, m)) x h
holds_stays r t base cell_base (named y kind ∷ scope) [] low cells l m x h = h
holds_stays r t base cell_base (named y kind ∷ scope) (entry ∷ env) low cells l m x h = (
  h.0,
  at_stays r t base cell_base kind scope entry.1 low cells (omega (arith, l, slots_unnamed kind y scope)) (omega (arith, m, cells_unnamed kind y scope)) x h.1,
  holds_stays r t base cell_base scope env low cells (omega (arith, l, slots_behind kind y scope)) (omega (arith, m, cells_behind kind y scope)) x h.2,
)

-- where a name's local is found
abbrev pub Reads : Registers → (base cell_base : ℕ) → Option Seat → Option Slot → Type 0
Reads r base cell_base None None = Unit {0}
Reads r base cell_base None (Some s) = ⊥
Reads r base cell_base (Some (at_slot n)) None = ⊥
Reads r base cell_base (Some (at_slot n)) (Some (held v)) = r.slots (base + n) ≡ v
Reads r base cell_base (Some (at_slot n)) (Some (cell c)) = ⊥
Reads r base cell_base (Some (at_cell n)) None = ⊥
Reads r base cell_base (Some (at_cell n)) (Some (held v)) = ⊥
Reads r base cell_base (Some (at_cell n)) (Some (cell c)) = r.cells (cell_base + n) ≡ c

reads_here : (r : Registers) (base cell_base : ℕ) (kind : Kind) (scope : Scope) (s : Slot) → At r base cell_base kind scope s → Reads r base cell_base (Some (seat_behind kind scope)) (Some s)
reads_here r base cell_base in_slot scope (held v) h = h
reads_here r base cell_base in_slot scope (cell c) h = h
reads_here r base cell_base in_cell scope (held v) h = h
reads_here r base cell_base in_cell scope (cell c) h = h
reads_here r base cell_base outside scope (held v) h = h
reads_here r base cell_base outside scope (cell c) h = h

reads_if : (b : Bool) (r : Registers) (base cell_base : ℕ) (o o' : Option Seat) (s s' : Option Slot) → Reads r base cell_base o s → Reads r base cell_base o' s' → Reads r base cell_base (if b then o else o') (if b then s else s')
reads_if true r base cell_base o o' s s' x y = x
reads_if false r base cell_base o o' s s' x y = y

pub reads : (r : Registers) (base cell_base : ℕ) (scope : Scope) (env : Env) (x : Bytes) → Holds r base cell_base scope env → Reads r base cell_base (seat_of scope x) (find x env)
reads r base cell_base [] [] x h = tt
reads r base cell_base [] (entry ∷ env) x h = absurd h
reads r base cell_base (hidden ∷ scope) env x h = reads r base cell_base scope env x h
reads r base cell_base (named y kind ∷ scope) [] x h = absurd h
reads r base cell_base (named y kind ∷ scope) (entry ∷ env) x h =
    subst (λ z. Reads r base cell_base (if bytes_eq y x then Some (seat_behind kind scope) else seat_of scope x) (if bytes_eq z x then Some entry.1 else find x env)) h.0
    (reads_if (bytes_eq y x) r base cell_base (Some (seat_behind kind scope)) (seat_of scope x) (Some entry.1) (find x env) (reads_here r base cell_base kind scope entry.1 h.1) (reads r base cell_base scope env x h.2))

-- a seat is among those of its scope
abbrev pub SeatBelow : Option Seat → (slots cells : ℕ) → Type 0
SeatBelow None slots cells = Unit {0}
SeatBelow (Some (at_slot n)) slots cells = n < slots
SeatBelow (Some (at_cell n)) slots cells = n < cells

seat_more : (o : Option Seat) (slots cells more some : ℕ) → slots ≤ more → cells ≤ some → SeatBelow o slots cells → SeatBelow o more some
seat_more None slots cells more some l m h = tt
seat_more (Some (at_slot n)) slots cells more some l m h = omega (arith, l, h)
seat_more (Some (at_cell n)) slots cells more some l m h = omega (arith, m, h)

seat_here : (kind : Kind) (x : Bytes) (scope : Scope) → SeatBelow (Some (seat_behind kind scope)) (slot_count (named x kind ∷ scope)) (cell_count (named x kind ∷ scope))
seat_here in_slot x scope = omega arith
seat_here in_cell x scope = omega arith
seat_here outside x scope = omega arith

seat_if : (b : Bool) (o o' : Option Seat) (slots cells : ℕ) → SeatBelow o slots cells → SeatBelow o' slots cells → SeatBelow (if b then o else o') slots cells
seat_if true o o' slots cells x y = x
seat_if false o o' slots cells x y = y

pub seat_below : (scope : Scope) (x : Bytes) → SeatBelow (seat_of scope x) (slot_count scope) (cell_count scope)
seat_below [] x = tt
seat_below (hidden ∷ scope) x = seat_more (seat_of scope x) (slot_count scope) (cell_count scope) (suc (slot_count scope)) (cell_count scope) (omega arith) (omega arith) (seat_below scope x)
seat_below (named y kind ∷ scope) x =
    seat_if (bytes_eq y x) (Some (seat_behind kind scope)) (seat_of scope x) (slot_count (named y kind ∷ scope)) (cell_count (named y kind ∷ scope)) (seat_here kind y scope)
    (seat_more (seat_of scope x) (slot_count scope) (cell_count scope) (slot_count (named y kind ∷ scope)) (cell_count (named y kind ∷ scope)) (slots_behind kind y scope) (cells_behind kind y scope) (seat_below scope x))
