-- What operators and fields come to.
use Rattle.std.proofs.Common.{◌≡◌, ℕ, ◌+◌, ◌≤◌, List, length, set, refl, sym, ap, ◌∙◌, subst, arith}
use Rattle.std.specs.Prelude.{ℤ, Result, Ok, Err, IfOk}
use Rattle.std.specs.List.{AllByRecursion}
use Rattle.lua_tree.specs.Tree.{Bytes, UnOp}
use Rattle.lua_tree.specs.View.{binary_view}
use Rattle.lua_tree.specs.declared.tree.BinOp.{BinOp}
use Rattle.lua_meaning.specs.Value as meant
use Rattle.lua_machine.specs.Past.{Past}
use Rattle.lua_heap.specs.declared.value.Value.{Value}
use Rattle.lua_heap.specs.declared.value.Value.TheVariants.{Num}
use Rattle.lua_heap.specs.Value.{value_view}
use Rattle.lua_heap.specs.Heap.{HeapView, store_of, Extends}
use Rattle.lua_code.specs.declared.instr.Instr.{Instr}
use Rattle.lua_code.specs.Valid.{cells_at}
use Rattle.lua_code.specs.State as s
use Rattle.lua_code.specs.State.{Running, Active, Config, Step, on, stop, stuck}
use Rattle.lua_code.specs.Frames.{raised}
use Rattle.lua_code.specs.Doing as code
use Rattle.lua_code.specs.Act as act
use Rattle.lua_code.specs.Instr as i
use Rattle.lua_operators.specs.declared.doing.Doing.{Doing}
use Rattle.lua_operators.specs.declared.doing.Doing.TheVariants.{Gives, Fails}
use Rattle.lua_operators.specs.declared.fault.Fault.{Fault}
use Rattle.lua_operators.specs.Doing.{does}
use Rattle.lua_operators.specs.Faults.{fault_text}
use Rattle.lua_machine.specs.declared.status.Status.{Status}
use Rattle.lua_machine.specs.declared.status.Status.TheVariants.{Goes, Raises}
use Rattle.lua_machine.specs.View.{EngineView, registers_of, run_of, frames_of, state_of}
use Rattle.lua_machine.specs.Ready.{IsCode, IsReady}
use Rattle.lua_machine.specs.Made.{IsEngine}
use Rattle.lua_machine.specs.Does.{Came, Takes, HasSlot, with_slot, site_at, step_at}
use Rattle.lua_machine.specs.Errors.{Raised}
use Rattle.lua_machine.specs.Numbers.{GivesOfNumbers}
use Rattle.lua_machine.specs.Settled.{GoesOn, doing_step, Settles, operation, operation_step, Operates}
use Rattle.lua_machine.proofs.Doing.{puts, gives_did}
use Rattle.lua_machine.proofs.Growing.{grown}
use Rattle.lua_machine.proofs.Keeping.{goes_on, loaded_later}
use Rattle.lua_machine.proofs.Taking.{stays_at, length_set}

-- ---- what came about is what an instruction takes

pub came_as : (did does : Past → Step) (status : Status) (new : EngineView) → ((past : Past) → did past ≡ does past) → Came does status new → Came did status new
came_as did does status new same c = record { step = λ past. same past ∙ c.step past; kept = c.kept }

pub came_of : {E : Type 0} (o : Result Status E) (new : EngineView) (did does : Past → Step) → ((past : Past) → did past ≡ does past) → IfOk o (λ status. Came does status new) → IfOk o (λ status. Came did status new)
came_of (Ok status) new did does same c = came_as did does status new same c
came_of (Err e) new did does same c = c

-- ---- a slot gets a value

ready_next : (m : EngineView) (to : ℕ) (v : Value) → IsReady m → GoesOn m → IsReady (with_slot m to v)
ready_next m to v r leads =
    let long = length_set m.values (m.base + to) v in
    goes_on m (with_slot m to v) (cells_at m.proto m.pc) r r.fit.chunks (stays_at m (set m.values (m.base + to) v) (m.pc + 1) m.ticks (omega (arith, long)))
    (subst (λ p. m.cell_base + cells_at p m.pc ≤ length m.cells) (sym r.proto) r.placed.height) leads

pub settles_value : (m : EngineView) (to : ℕ) (v : Value) → IsReady m → GoesOn m → HasSlot m to → Settles to (Gives v) Goes m (with_slot m to v)
settles_value m to v r leads slot =
    record { step = λ past. puts m to v (value_view m.heap.texts v) slot refl past; kept = ready_next m to v r leads }

-- an error is raised
pub came_raised : (m new : EngineView) (text : Bytes) (v : Value) → Raised text v m new → Came (λ past. act.fault (run_of m) (frames_of m) (registers_of m) (state_of past m) (site_at m.proto m.pc) text) (Raises v) new
came_raised m new text v s =
    record {
      step = λ past.
          ap (λ (w : meant.Value). raised (frames_of m) (registers_of m) w (state_of past m)) (sym s.text_is)
          ∙ ap (λ (c : Config). raised c.frames c.registers (value_view new.heap.texts v) c.state) (sym (s.same past));
      kept = (s.made, s.fit);
    }

-- ---- a heap that got strings alone

module _ (m : EngineView) (h : HeapView) (is : IsEngine m) (more : Extends m.heap h) (store : store_of h ≡ store_of m.heap) (functions : h.functions ≡ m.heap.functions) where
  abbrev later : EngineView
  later = record m { heap = h }

  pub ready_later : IsReady m → IsReady later
  ready_later r =
      record {
        placed = r.placed;
        proto = r.proto;
        fit = record {
          frames = r.fit.frames;
          functions = subst (AllByRecursion (IsCode m.chunks)) (sym functions) r.fit.functions;
          chunks = loaded_later m.heap h more m.chunks is.chunks r.fit.chunks;
        };
      }

  abbrev does_in : i.Site → ℕ → code.Doing → Active → Config → Step
  does_in site to d (s.lua run) c = act.does run c.frames c.registers c.state site to d
  does_in site to d (s.library f args base cell_base) c = stop stuck

  -- an operator's step is the same before and after
  pub doing_later : (to : ℕ) (d : code.Doing) (past : Past) → act.does (run_of m) (frames_of m) (registers_of m) (state_of past m) (site_at m.proto m.pc) to d ≡ act.does (run_of later) (frames_of later) (registers_of later) (state_of past later) (site_at m.proto m.pc) to d
  doing_later to d past = ap (λ (c : Config). does_in (site_at m.proto m.pc) to d c.active c) (sym (grown m h is more store functions past))

-- ---- what an operator came to, by its kind

module _ (m new : EngineView) (to : ℕ) (doing : Doing) where
  pub settles_gives : (v : Value) → doing ≡ Gives v → new ≡ with_slot m to v → IsReady m → GoesOn m → HasSlot m to → Settles to doing Goes m new
  settles_gives v is same r leads slot =
      subst (Settles to doing Goes m) (sym same) (subst (λ (d : Doing). Settles to d Goes m (with_slot m to v)) (sym is) (settles_value m to v r leads slot))

  pub settles_fails : (fault : Fault) (error : Value) → doing ≡ Fails fault → Raised (fault_text fault) error m new → Settles to doing (Raises error) m new
  settles_fails fault error is raised =
      subst (λ (d : Doing). Settles to d (Raises error) m new) (sym is) (came_raised m new (fault_text fault) error raised)

-- ---- instructions that do what an operator came to

module _ {E : Type 0} (o : Result Status E) (x : Instr) (m new : EngineView) (to : ℕ) where
  abbrev step_for : code.Doing → Past → Step
  step_for d past = act.does (run_of m) (frames_of m) (registers_of m) (state_of past m) (site_at m.proto m.pc) to d

  pub takes_settled : (doing : Doing) (d : code.Doing) → does m.heap doing ≡ d → ((past : Past) → step_at x past m ≡ step_for d past) → IfOk o (λ status. Settles to doing status m new) → IfOk o (λ status. Takes x status m new)
  takes_settled doing d is so c =
      came_of o new (λ past. step_at x past m) (doing_step to doing m)
      (λ past. so past ∙ ap (λ (d : code.Doing). step_for d past) (sym is))
      c

  -- a unary operator
  pub takes_unary : (e : EngineView) → e ≡ m → (op : UnOp) (doing : Doing) (from : Value) (v : meant.Value) → does e.heap doing ≡ code.unary_doing op (store_of e.heap) (value_view e.heap.texts from) → value_view m.heap.texts from ≡ v → ((past : Past) → step_at x past m ≡ step_for (code.unary_doing op (store_of m.heap) v) past) → IfOk o (λ status. Settles to doing status m new) → IfOk o (λ status. Takes x status m new)
  takes_unary e seen op doing from v is is_from so c =
      takes_settled doing (code.unary_doing op (store_of m.heap) v)
      (subst (λ (y : EngineView). does y.heap doing ≡ code.unary_doing op (store_of y.heap) (value_view y.heap.texts from)) seen is
      ∙ ap (code.unary_doing op (store_of m.heap)) is_from) so c

  -- a field is read
  pub takes_read : (e : EngineView) → e ≡ m → (doing : Doing) (base key : Value) (b k : meant.Value) → does e.heap doing ≡ code.field_doing (store_of e.heap) (value_view e.heap.texts base) (value_view e.heap.texts key) → value_view m.heap.texts base ≡ b → value_view m.heap.texts key ≡ k → ((past : Past) → step_at x past m ≡ step_for (code.field_doing (store_of m.heap) b k) past) → IfOk o (λ status. Settles to doing status m new) → IfOk o (λ status. Takes x status m new)
  takes_read e seen doing base key b k is is_base is_key so c =
      takes_settled doing (code.field_doing (store_of m.heap) b k)
      (subst (λ (y : EngineView). does y.heap doing ≡ code.field_doing (store_of y.heap) (value_view y.heap.texts base) (value_view y.heap.texts key)) seen is
      ∙ ap (λ (v : meant.Value). code.field_doing (store_of m.heap) v (value_view m.heap.texts key)) is_base
      ∙ ap (λ (v : meant.Value). code.field_doing (store_of m.heap) b v) is_key) so c

  -- a binary operator
  pub takes_operated : (op : BinOp) (left right : Value) (a b : meant.Value) → value_view m.heap.texts left ≡ a → value_view m.heap.texts right ≡ b → ((past : Past) → step_at x past m ≡ step_for (code.binary_doing (binary_view op) (store_of m.heap) a b) past) → IfOk o (λ status. Operates op to left right status m new) → IfOk o (λ status. Takes x status m new)
  takes_operated op left right a b is_left is_right so c =
      let is : operation op left right m ≡ code.binary_doing (binary_view op) (store_of m.heap) a b =
      ap (λ (v : meant.Value). code.binary_doing (binary_view op) (store_of m.heap) v (value_view m.heap.texts right)) is_left
      ∙ ap (λ (v : meant.Value). code.binary_doing (binary_view op) (store_of m.heap) a v) is_right in
      came_of o new (λ past. step_at x past m) (operation_step op to left right m)
      (λ past. so past ∙ ap (λ (d : code.Doing). step_for d past) (sym is))
      c

-- ---- binary operators

-- two numbers give a value
pub operates_numbers : (op : BinOp) (m : EngineView) (to : ℕ) (left right v : Value) (x y : ℤ) → left ≡ Num x → right ≡ Num y → GivesOfNumbers (binary_view op) x y v → IsReady m → GoesOn m → HasSlot m to → Operates op to left right Goes m (with_slot m to v)
operates_numbers op m to left right v x y is_left is_right g r leads slot =
    let is : operation op left right m ≡ code.gives (value_view m.heap.texts v) =
    ap (λ (w : Value). code.binary_doing (binary_view op) (store_of m.heap) (value_view m.heap.texts w) (value_view m.heap.texts right)) is_left
    ∙ ap (λ (w : Value). code.binary_doing (binary_view op) (store_of m.heap) (meant.num x) (value_view m.heap.texts w)) is_right
    ∙ g.gives m.heap (store_of m.heap) in
    record {
      step = λ past. gives_did m (site_at m.proto m.pc) to (operation op left right m) v slot is past;
      kept = ready_next m to v r leads;
    }

-- another one, by what it came to in a heap that may have got a string
module _ (m : EngineView) (h : HeapView) (is : IsEngine m) (more : Extends m.heap h) (store : store_of h ≡ store_of m.heap) (functions : h.functions ≡ m.heap.functions) where
  abbrev found : EngineView
  found = record m { heap = h }

  module _ (op : BinOp) (new : EngineView) (to : ℕ) (left right : Value) (doing : Doing) (does_it : does h doing ≡ operation op left right m) where
    step_found : (past : Past) → operation_step op to left right m past ≡ doing_step to doing found past
    step_found past =
        doing_later m h is more store functions to (operation op left right m) past
        ∙ ap (λ (d : code.Doing). act.does (run_of found) (frames_of found) (registers_of found) (state_of past found) (site_at m.proto m.pc) to d) (sym does_it)

    operates_so : {E : Type 0} (o : Result Status E) → IfOk o (λ status. Settles to doing status found new) → IfOk o (λ status. Operates op to left right status m new)
    operates_so (Ok status) c = record { step = λ past. step_found past ∙ c.step past; kept = c.kept }
    operates_so (Err e) c = c

-- for an engine that is seen by its parts
module _ (e m : EngineView) (seen : e ≡ m) (h : HeapView) (is : IsEngine e) (more : Extends e.heap h) (store : store_of h ≡ store_of e.heap) (functions : h.functions ≡ e.heap.functions) where
  pub ready_found : IsReady m → IsReady (record e { heap = h })
  ready_found r = ready_later e h is more store functions (subst IsReady (sym seen) r)

  pub operates_found : {E : Type 0} (o : Result Status E) (op : BinOp) (new : EngineView) (to : ℕ) (left right : Value) (doing : Doing) → does h doing ≡ operation op left right e → IfOk o (λ status. Settles to doing status (record e { heap = h }) new) → IfOk o (λ status. Operates op to left right status m new)
  operates_found o op new to left right doing does_it c =
      subst (λ (y : EngineView). IfOk o (λ status. Operates op to left right status y new)) seen
      (operates_so e h is more store functions op new to left right doing does_it o c)
