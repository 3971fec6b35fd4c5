-- Each instruction adds to the past only, and goes down; so each run comes to an end, whose past goes on from where it began.
use Rattle.std.proofs.Common.{ℕ, zero, suc, ◌+◌, ◌-◌, ◌≡◌, ◌<◌, ◌≤◌, refl, sym, ap, ◌∙◌, subst, List, [], ◌∷◌, ◌++◌, length, ◌⊎◌, inl, inr, ⊎_elim, Option, Some, None, Bool, true, false, Result, Ok, Err, slice_get, Contains, arith}
use Rattle.std.specs.Prelude.{ℤ}
use Rattle.std.proofs.lemmas.Option.{none-some}
use Rattle.std.proofs.lemmas.List.Elements.{Contains-push, Contains-append_left, Contains-append_right}
use Rattle.lua_value.specs.Arithmetic as arithmetic
use Rattle.lua_value.specs.declared.arithmetic.NumFault.{NumFault}
use Rattle.love_base.specs.Prefix.{IsPrefix}
use Rattle.lua_tree.specs.Tree.{Block}
use Rattle.lua_meaning.specs.Value.{Value, nil, num, table, is_true, is_nil}
use Rattle.lua_meaning.specs.Text.{as_number}
use Rattle.lua_meaning.specs.Store.{Store}
use Rattle.lua_meaning.specs.Message.{Ask, Reply}
use Rattle.lua_meaning.specs.World as world
use Rattle.lua_meaning.specs.World.{Ends}
use Rattle.lua_meaning.specs.Handlers as handlers
use Rattle.lua_meaning.specs.Handlers.{Setting}
use Rattle.lua_meaning.specs.Locals.{Flow}
use Rattle.lua_meaning.specs.Control.{ready}
use Rattle.lua_meaning.specs.Run.{Start, run_code, meant, ended as ended_run}
use Rattle.lua_meaning.specs.Running.{is_counting}
use Rattle.lua_code.specs.Instr as i
use Rattle.lua_code.specs.Instr.{Site, Operand, Wants, Instr, Proto, code_of}
use Rattle.lua_code.specs.State.{Registers, State, Running, Frame, waits, Active, lua, library, Config, End, ended, failed, no_ticks, needed, stuck, Pending, Step, on, stop, asks}
use Rattle.lua_code.specs.Frames.{raised, finish, calling}
use Rattle.lua_code.specs.Doing as doing
use Rattle.lua_code.specs.Doing.{Doing}
use Rattle.lua_code.specs.Natives.{Program, asked, resume}
use Rattle.lua_code.specs.Act as act
use Rattle.lua_code.specs.Act.{next, after, exec}
use Rattle.lua_code.specs.Follows.{program_of, end_of}
use Rattle.lua_code.specs.Talks.{fed, Reached}
use Rattle.lua_code.specs.Growing.{Past, past_of, last_or, IsWhole, Grows, EndHas, GrowsTo, IsBeginning, AllGrow}
use Rattle.lua_code.proofs.Talking.{means}
use Rattle.lua_code.proofs.Growing.{grows_self, grows_on, asked_grows, left_of, still, active_weight, weight, Later, Onward, less, either, ticking_on, calls_on, finish_on, serves_on, attends}

inside_some : {A : Type 0} (xs : List A) (n : ℕ) (x : A) → slice_get xs n ≡ Some x → n < length xs
inside_some [] n x e = absurd (none-some x e)
inside_some (y ∷ xs) zero x e = omega arith
inside_some (y ∷ xs) (suc n) x e = let lt = inside_some xs n x e in omega (arith, lt)

-- a function of Lua at an instruction that there is
module _ (run : Running) (frames : List Frame) (r : Registers) (st : State) (here : run.pc < length (code_of run.code)) where
  abbrev len : ℕ
  len = length (code_of run.code)

  abbrev past : Past
  past = past_of st

  abbrev w : ℕ
  w = (len - run.pc) + still frames

  abbrev Goes : Step → Type 0
  Goes x = Onward past st.ticks w x

  abbrev Since : State → Type 0
  Since later = Later past st.ticks later

  -- it goes on at an instruction, whatever its registers are
  abbrev At : ℕ → State → Type 0
  At pc later = Since later × (later.ticks ≡ st.ticks → (len - pc) + still frames < w)

  -- further on, or anywhere with a tick less
  goes : (pc : ℕ) (later : State) → run.pc < pc → Since later → At pc later
  goes pc later a l = (l, λ e. omega (arith, a, here))

  spends : (pc u : ℕ) → suc u ≡ st.ticks → At pc (record st { ticks = u })
  spends pc u e = (record { grown = grows_self past; ticks = omega (arith, e) }, λ f. let x : ⊥ = omega (arith, e, f) in absurd x)

  same : Since st
  same = record { grown = grows_self past; ticks = omega arith }

  changed : (later : State) → past_of later ≡ past → later.ticks ≡ st.ticks → Since later
  changed later e t = record { grown = subst (Grows past) (sym e) (grows_self past); ticks = omega (arith, t) }

  onward : (later : State) → Since later → At (run.pc + 1) later
  onward later l = goes (run.pc + 1) later (omega arith) l

  raises : (v : Value) (later : State) → Since later → Goes (raised frames r v later)
  raises v later l = less past st.ticks _ w (finish (world.failed v) frames r later) (omega (arith, here)) (finish_on past st.ticks frames (world.failed v) r later l)

  -- the caller waits
  abbrev caller : Wants → Site → List Frame
  caller wants s = waits (next run) wants (act.at_line run s) ∷ frames

  calls : (f : Value) (args : List Value) (wants : Wants) (s : Site) (base cell_base : ℕ) → Goes (calling f args (caller wants s) base cell_base r st)
  calls f args wants s base cell_base =
      calls_on past st.ticks w _ (caller wants s) base cell_base r
      (λ v later l. less past st.ticks _ w (finish (world.failed v) (caller wants s) r later) (omega (arith, here)) (finish_on past st.ticks (caller wants s) (world.failed v) r later l))
      f args st same

  jumps : (b : Bool) (pc : ℕ) → run.pc < pc → Goes (act.jumps run frames r st b pc)
  jumps true pc a = goes pc st a same
  jumps false pc a = onward st same

  returns : (b : Bool) (pc : ℕ) → Goes (act.returns run frames r st b pc)
  returns true pc = ticking_on past st.ticks w st.ticks st _ (grows_self past) (λ u e. spends pc u e)
  returns false pc = onward st same

  does : (s : Site) (to : ℕ) (d : Doing) → Goes (act.does run frames r st s to d)
  does s to (doing.gives v) = onward st same
  does s to (doing.faults text) = raises _ st same
  does s to (doing.asks h args use_) = calls h args _ s _ _

  stores : (s : Store) → Goes (act.stores run frames r st s)
  stores s = onward _ (changed _ refl refl)

  sets_raw : (s : Site) (t : ℕ) (key v : Value) → Goes (act.sets_raw run frames r st s t key v)
  sets_raw s t nil v = raises _ st same
  sets_raw s t key v = stores _

  sets_new : (s : Site) (t key v : Value) → Goes (act.sets_new run frames r st s t key v)
  sets_new s (table t) key v = sets_raw s t key v
  sets_new s t key v = onward st same

  sets : (s : Site) (key v : Value) (o : Setting) → Goes (act.sets run frames r st s key v o)
  sets s key v (handlers.in_table t) = sets_raw s t key v
  sets s key v (handlers.asks_set h base) = calls h _ _ s _ _
  sets s key v (handlers.unindexed_set base) = raises _ st same
  sets s key v handlers.endless_set = raises _ st same

  turns : (at body exit : ℕ) (n m k : ℤ) → run.pc < exit → Goes (act.turns run frames r st at body exit n m k)
  turns at body exit n m k b = either past st.ticks w (is_counting n m k) _ _
      (ticking_on past st.ticks w st.ticks st _ (grows_self past) (λ u e. spends body u e))
      (goes exit st b same)

  begins : (s : Site) (at count : ℕ) (n m k : Option ℤ) → Goes (act.begins run frames r st s at count n m k)
  begins s at count None m k = raises _ st same
  begins s at count (Some n) None k = raises _ st same
  begins s at count (Some n) (Some m) None = raises _ st same
  begins s at count (Some n) (Some m) (Some k) = turns at _ _ n m k (omega arith)

  counts : (at count : ℕ) (m k : ℤ) (o : Result ℤ NumFault) → Goes (act.counts run frames r st at count m k o)
  counts at count m k (Ok n) = turns at _ _ n m k (omega arith)
  counts at count m k (Err e) = onward st same

  counts_on : (at count : ℕ) (n m k : Value) → Goes (act.counts_on run frames r st at count n m k)
  counts_on at count (num n) (num m) (num k) = counts at count m k (arithmetic.add n k)
  counts_on at count n m k = onward st same

  each : (at count : ℕ) (v : Value) → Goes (act.each run frames r st at count v)
  each at count v = either past st.ticks w (is_nil v) _ _ (onward st same)
      (ticking_on past st.ticks w st.ticks st _ (grows_self past) (λ u e. spends _ u e))

  abbrev slot_at : ℕ → Value
  slot_at = act.slot_at run frames r st

  acts : (x : Instr) → Goes (act.act_on run frames r st x)
  acts (i.load to o) = onward st same
  acts (i.get_cell to c) = onward st same
  acts (i.set_cell c o) = stores _
  acts (i.new_cell c from) = onward _ (changed _ refl refl)
  acts (i.close to code cells) = onward _ (changed _ refl refl)
  acts (i.new_table to) = onward _ (changed _ refl refl)
  acts (i.set_item t n o) = stores _
  acts (i.set_rest t n) = stores _
  acts (i.set_new s t key v) = sets_new s _ _ _
  acts (i.first_extra to) = onward st same
  acts i.all_extra = onward st same
  acts (i.unary s op to o) = does s to _
  acts (i.binary s op to a b) = does s to _
  acts (i.get_field s to base key) = does s to _
  acts (i.set_field s base key v) = sets s _ _ _
  acts (i.invoke s wants at count tailed) = calls _ _ wants s _ _
  acts (i.spread from count tailed) = onward st same
  acts i.tick = ticking_on past st.ticks w st.ticks st _ (grows_self past) (λ u e. spends _ u e)
  acts (i.skip count) = goes _ st (omega arith) same
  acts (i.skip_if from count) = jumps (is_true (slot_at from)) _ (omega arith)
  acts (i.skip_unless from count) = either past st.ticks w (is_true (slot_at from)) _ _ (onward st same) (goes _ st (omega arith) same)
  acts (i.back_if from count) = returns (is_true (slot_at from)) _
  acts (i.back_unless from count) = either past st.ticks w (is_true (slot_at from)) _ _ (onward st same) (ticking_on past st.ticks w st.ticks st _ (grows_self past) (λ u e. spends _ u e))
  acts (i.for_begin s at count) = begins s at count (as_number (slot_at at)) (as_number (slot_at (at + 1))) (as_number (slot_at (at + 2)))
  acts (i.for_next at count) = counts_on at count (slot_at at) (slot_at (at + 1)) (slot_at (at + 2))
  acts (i.each_next at count) = each at count _
  acts (i.leave from count tailed) = less past st.ticks _ w _ (omega (arith, here)) (finish_on past st.ticks frames _ r st same)

at_on : (run : Running) (frames : List Frame) (r : Registers) (st : State) (o : Option Instr) → slice_get (code_of run.code) run.pc ≡ o → Onward (past_of st) st.ticks (left_of run + still frames) (act.act_at run frames r st o)
at_on run frames r st None e = tt
at_on run frames r st (Some x) e = acts run frames r st (inside_some (code_of run.code) run.pc x e) x

active_on : (program : Program) (active : Active) (frames : List Frame) (r : Registers) (st : State) → Onward (past_of st) st.ticks (active_weight active + still frames) (act.act_active program active frames r st)
active_on program (lua run) frames r st = at_on run frames r st (slice_get (code_of run.code) run.pc) refl
active_on program (library f args base cell_base) frames r st =
    less (past_of st) st.ticks (suc (still frames)) _ _ (omega arith)
    (serves_on (past_of st) st.ticks program base cell_base frames r f args st (record { grown = grows_self (past_of st); ticks = omega arith }))

step_on : (program : Program) (c : Config) → Onward (past_of c.state) c.state.ticks (weight c) (act.act program c)
step_on program c = active_on program c.active c.frames c.registers c.state

grows_to : (p : Past) (n w : ℕ) (x : Step) → Onward p n w x → GrowsTo p x
grows_to p n w (on c) k = k.0.grown
grows_to p n w (stop e) k = k
grows_to p n w (asks q pending) k = k

resume_grows : (program : Program) (question : Ask) (reply : Reply) (p : Pending) → GrowsTo (past_of (asked question p.state)) (resume program question reply p)
resume_grows program question reply p =
    let st = asked question p.state in
    grows_to (past_of st) st.ticks (suc (still p.frames)) _
    (attends (past_of st) st.ticks program p.base p.cell_base p.frames p.registers p.errand reply st (record { grown = grows_self (past_of st); ticks = omega arith }))

-- ---- runs

end_further : (p q : Past) (e : End) → Grows p q → EndHas (λ st. Grows q (past_of st)) e → EndHas (λ st. Grows p (past_of st)) e
end_further p q (ended vs st) a b = grows_on p q _ a b
end_further p q (failed v st) a b = grows_on p q _ a b
end_further p q (no_ticks st) a b = grows_on p q _ a b
end_further p q (needed ask st) a b = grows_on p q _ a b
end_further p q stuck a b = tt

pub further : (p q : Past) (x : Step) → Grows p q → GrowsTo q x → GrowsTo p x
further p q (on c) a b = grows_on p q _ a b
further p q (stop e) a b = end_further p q e a b
further p q (asks question pending) a b = grows_on p q _ a b

module _ (program : Program) where
  -- with these replies a step comes to an end, and its past goes on
  abbrev Comes : List Reply → Step → Type 0
  Comes rs x = (n : ℕ) × (end : End) × (after program (exec program n) x rs ≡ Some end) × ((p : Past) → GrowsTo p x → EndHas (λ st. Grows p (past_of st)) end)

  module _ (rs : List Reply) (told : (q : Ask) (p : Pending) → Comes rs (asks q p)) where
    -- a configuration, once what it leads to does
    one_more : (c : Config) → Comes rs (act.act program c) → Comes rs (on c)
    one_more c y = (suc y.0, y.1, y.2, λ p g. y.3 p (further p (past_of c.state) (act.act program c) g (grows_to _ _ _ _ (step_on program c))))

    abbrev Below : ℕ → ℕ → Type 0
    Below n w = (c : Config) → c.state.ticks ≤ n → (c.state.ticks ≡ n → weight c < w) → Comes rs (on c)

    abbrev Lower : ℕ → Type 0
    Lower n = (c : Config) → c.state.ticks < n → Comes rs (on c)

    at_most : (a n : ℕ) → a ≤ n → (a < n) ⊎ (a ≡ n)
    at_most zero zero le = inr refl
    at_most zero (suc n) le = inl (omega arith)
    at_most (suc a) zero le = absurd (let e : ⊥ = omega (arith, le) in e)
    at_most (suc a) (suc n) le = ⊎_elim (λ lt. inl (omega (arith, lt))) (λ e. inr (ap suc e)) (at_most a n (omega (arith, le)))

    step_comes : (n w m v : ℕ) (past : Past) (x : Step) → Below n w → m ≤ n → (m ≡ n → v < suc w) → Onward past m v x → Comes rs x
    step_comes n w m v past (on c) below le lt k =
        below c (let a = k.0.ticks in omega (arith, a, le)) (λ e.
        let a = k.0.ticks in
        let here : c.state.ticks ≡ m = omega (arith, a, e, le) in
        let there : m ≡ n = omega (arith, a, e, le) in
        let x = k.1 here in
        let y = lt there in
        omega (arith, x, y))
    step_comes n w m v past (stop e) below le lt k = (0, e, refl, λ p g. g)
    step_comes n w m v past (asks q p) below le lt k = told q p

    below_comes : (n w : ℕ) → Lower n → Below n w
    below_comes n zero lower c le lt =
        ⊎_elim (λ less. lower c less) (λ e. let x = lt e in absurd (let y : ⊥ = omega (arith, x) in y)) (at_most c.state.ticks n le)
    below_comes n (suc w) lower c le lt =
        one_more c (step_comes n w c.state.ticks (weight c) (past_of c.state) (act.act program c) (below_comes n w lower) le lt (step_on program c))

    lower_comes : (n : ℕ) → Lower n
    lower_comes zero c lt = absurd (let e : ⊥ = omega (arith, lt) in e)
    lower_comes (suc n) c lt = below_comes n (suc (weight c)) (lower_comes n) c (omega (arith, lt)) (λ e. omega arith)

    any_comes : (x : Step) → Comes rs x
    any_comes (on c) = lower_comes (suc c.state.ticks) c (omega arith)
    any_comes (stop e) = (0, e, refl, λ p g. g)
    any_comes (asks q p) = told q p

  comes : (rs : List Reply) (x : Step) → Comes rs x
  comes [] x = any_comes [] (λ q p. (0, needed q p.state, refl, λ past g. g)) x
  comes (r ∷ rs) x = any_comes (r ∷ rs) (λ q p.
      let y = comes rs (resume program q r p) in (
        y.0,
        y.1,
        y.2,
        λ past g.
            y.3 past (further past (past_of (asked q p.state)) (resume program q r p)
            (grows_on past (past_of p.state) (past_of (asked q p.state)) g (asked_grows q p.state)) (resume_grows program q r p)),
      )) x

-- ---- what the run of a start means

last_in : (n : ℕ) (ns : List ℕ) → Contains (n ∷ ns) (last_or n ns)
last_in n [] = Contains-push [] n
last_in n (m ∷ ns) = Contains-append_right (n ∷ []) (m ∷ ns) (last_or m ns) (last_in m ns)

empty : (xs : List ℕ) → length xs ≡ 0 → xs ≡ []
empty [] e = refl
empty (x ∷ xs) e = absurd (let y : ⊥ = omega (arith, e) in y)

last_is_there : (output ends : List ℕ) → length output ≡ last_or 0 ends → (output ≡ []) ⊎ Contains ends (length output)
last_is_there output [] w = inl (empty output w)
last_is_there output (n ∷ ns) w = inr (subst (Contains (n ∷ ns)) (sym w) (last_in n ns))

whole_ends : (p : Past) (ends : List ℕ) → IsPrefix p.ends ends → IsWhole p → (p.output ≡ []) ⊎ Contains ends (length p.output)
whole_ends p ends x w =
    ⊎_elim (λ e. inl e)
    (λ h. inr (subst (λ l. Contains l (length p.output)) (sym x.1) (Contains-append_left p.ends x.0 (length p.output) h)))
    (last_is_there p.output p.ends w)

begins_in : (p : Past) (e : Ends Flow) → EndHas (λ st. Grows p (past_of st)) (end_of e) → IsBeginning p (ended_run e)
begins_in p (world.gives flow w) g = record { asks = g.asks; output = g.output; ends = g.ends; whole = whole_ends p w.ends g.ends }
begins_in p (world.fails v w) g = record { asks = g.asks; output = g.output; ends = g.ends; whole = whole_ends p w.ends g.ends }
begins_in p (world.out_of_steps w) g = record { asks = g.asks; output = g.output; ends = g.ends; whole = whole_ends p w.ends g.ends }
begins_in p (world.needs ask w) g = record { asks = g.asks; output = g.output; ends = g.ends; whole = whole_ends p w.ends g.ends }

-- the end that a step comes to is that of the meaning
meets : (start : Start) (b : Block) (replies : List Reply) (x : Step) → Reached start b replies x → (p : Past) → GrowsTo p x → (more : List Reply) → IsBeginning p (run_code (fed start (replies ++ more)) (ready b))
meets start b replies x h p g more =
    let y = comes (program_of start.game) more x in
    let z = h more y.0 in
    begins_in p (meant (fed start (replies ++ more)) b)
    (subst (EndHas (λ st. Grows p (past_of st))) (sym (means start b (replies ++ more) z.0 y.1 (z.1 ∙ y.2))) (y.3 p g))

finish_grows : (o : world.Outcome (List Value)) (frames : List Frame) (r : Registers) (st : State) → GrowsTo (past_of st) (finish o frames r st)
finish_grows o frames r st =
    grows_to (past_of st) st.ticks (suc (still frames)) (finish o frames r st) (finish_on (past_of st) st.ticks frames o r st (record { grown = grows_self (past_of st); ticks = omega arith }))

pub growing : AllGrow
growing = record {
  steps = λ program c. grows_to _ _ _ _ (step_on program c);
  resumes = resume_grows;
  finishes = finish_grows;
  end_comes = λ program c replies. let y = comes program replies (on c) in (y.0, y.1, y.2);
  begins = λ start b. refl;
  reached = meets;
}
