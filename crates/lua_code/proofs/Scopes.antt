-- Locals that are declared, and those that are gone behind a block.
use Rattle.std.proofs.Common.{ℕ, zero, suc, ◌+◌, ◌-◌, ◌≡◌, ◌≤◌, refl, sym, ap, ◌∙◌, subst, List, [], ◌∷◌, ◌++◌, length, false, arith, append_assoc}
use Rattle.std.specs.Prelude.{drop}
use Rattle.lua_tree.specs.Tree.{Bytes, Stat, assign, local, call_stat, do_block, while_loop, repeat_loop, if_stat, num_for, num_for_by, gen_for, function_stat, local_function, return_stat, break_stat, Block, no_stats, stat_and}
use Rattle.lua_meaning.specs.Value.{Value, first}
use Rattle.lua_meaning.specs.Names.{is_captured, block_names, func_names}
use Rattle.lua_meaning.specs.Locals.{Env, Flow, normal, broken, returned, outer, closed}
use Rattle.lua_code.specs.Scope.{in_slot, in_cell, outside, named, hidden, Scope, slot_count, kind_of, declared}
use Rattle.lua_code.specs.Code.{scope_behind, scope_at_end}
use Rattle.lua_code.specs.State.{put, put_values, row, Registers, Running}
use Rattle.lua_code.proofs.Registers.{Below, below_self, below_values, put_same, Holds}

-- ---- scopes grow in front

pub declared_more : (xs captured : List Bytes) (scope : Scope) → (more : Scope) × (declared xs captured scope ≡ more ++ scope)
declared_more [] captured scope = ([], refl)
declared_more (x ∷ xs) captured scope =
    let k = kind_of (is_captured xs captured x) in
    let h = declared_more xs captured (named x k ∷ scope) in
    (h.0 ++ named x k ∷ [], h.1 ∙ sym (append_assoc h.0 (named x k ∷ []) scope))

pub behind_more : (s : Stat) (later : List Bytes) (scope : Scope) → (more : Scope) × (scope_behind s later scope ≡ more ++ scope)
behind_more (assign line ts es) later scope = ([], refl)
behind_more (local line xs es) later scope = declared_more xs later scope
behind_more (call_stat line e) later scope = ([], refl)
behind_more (do_block line b) later scope = ([], refl)
behind_more (while_loop line e b) later scope = ([], refl)
behind_more (repeat_loop line b e) later scope = ([], refl)
behind_more (if_stat line arms) later scope = ([], refl)
behind_more (num_for line x a b c) later scope = ([], refl)
behind_more (num_for_by line x a b c d) later scope = ([], refl)
behind_more (gen_for line xs es b) later scope = ([], refl)
behind_more (function_stat line e f) later scope = ([], refl)
behind_more (local_function line x f) later scope = declared_more (x ∷ []) (func_names f ++ later) scope
behind_more (return_stat line es) later scope = ([], refl)
behind_more (break_stat line) later scope = ([], refl)

pub end_more : (b : Block) (after : List Bytes) (scope : Scope) → (more : Scope) × (scope_at_end b after scope ≡ more ++ scope)
end_more no_stats after scope = ([], refl)
end_more (stat_and s b) after scope =
    let x = behind_more s (block_names false b after) scope in
    let y = end_more b after (scope_behind s (block_names false b after) scope) in
    (y.0 ++ x.0, y.1 ∙ ap (λ l. y.0 ++ l) x.1 ∙ sym (append_assoc y.0 x.0 scope))

-- ---- what a block leaves

-- Where a statement goes on, the locals behind it stand; where it leaves a loop, those in front of it and some more do.
abbrev pub After : Running → (outer scope : Scope) → Flow → Registers → Type 0
After run outer scope (normal env) t = Holds t run.base run.cell_base scope env
After run outer scope (broken env) t = (more : Scope) × Holds t run.base run.cell_base (more ++ outer) env
After run outer scope (returned vs) t = Unit {0}

abbrev pub name_count : Scope → ℕ
name_count [] = zero
name_count (named x k ∷ scope) = suc (name_count scope)
name_count (hidden ∷ scope) = name_count scope

holds_count : (r : Registers) (base cell_base : ℕ) (scope : Scope) (env : Env) → Holds r base cell_base scope env → length env ≡ name_count scope
holds_count r base cell_base [] [] h = refl
holds_count r base cell_base [] (e ∷ env) h = absurd h
holds_count r base cell_base (hidden ∷ scope) env h = holds_count r base cell_base scope env h
holds_count r base cell_base (named x k ∷ scope) [] h = absurd h
holds_count r base cell_base (named x k ∷ scope) (e ∷ env) h = ap suc (holds_count r base cell_base scope env h.2)

count_more : (more scope : Scope) → name_count (more ++ scope) ≡ name_count more + name_count scope
count_more [] scope = omega arith
count_more (named x k ∷ more) scope = omega (arith, count_more more scope)
count_more (hidden ∷ more) scope = count_more more scope

dropped : (more scope : Scope) (r : Registers) (base cell_base : ℕ) (env : Env) → Holds r base cell_base (more ++ scope) env → Holds r base cell_base scope (drop (name_count more) env)
dropped [] scope r base cell_base env h = h
dropped (hidden ∷ more) scope r base cell_base env h = dropped more scope r base cell_base env h
dropped (named x k ∷ more) scope r base cell_base [] h = absurd h
dropped (named x k ∷ more) scope r base cell_base (e ∷ env) h = dropped more scope r base cell_base env h.2

pub outer_holds : (more scope : Scope) (r t : Registers) (base cell_base : ℕ) (before env : Env) → Holds r base cell_base scope before → Holds t base cell_base (more ++ scope) env → Holds t base cell_base scope (outer before env)
outer_holds more scope r t base cell_base before env hb h =
    let e : name_count more ≡ length env - length before = omega (arith, holds_count r base cell_base scope before hb, holds_count t base cell_base (more ++ scope) env h, count_more more scope) in
    subst (λ n. Holds t base cell_base scope (drop n env)) e (dropped more scope t base cell_base env h)

-- What a block leaves when its own locals are gone.
abbrev pub Closed : Running → Scope → Flow → Registers → Type 0
Closed run scope (normal env) t = Holds t run.base run.cell_base scope env
Closed run scope (broken env) t = Holds t run.base run.cell_base scope env
Closed run scope (returned vs) t = Unit {0}

pub closed_after : (run : Running) (more scope inner : Scope) (r t : Registers) (before : Env) (flow : Flow) → inner ≡ more ++ scope → Holds r run.base run.cell_base scope before → After run scope inner flow t → Closed run scope (closed before flow) t
closed_after run more scope inner r t before (normal env) e hb h = outer_holds more scope r t run.base run.cell_base before env hb (subst (λ s. Holds t run.base run.cell_base s env) e h)
closed_after run more scope inner r t before (broken env) e hb h = outer_holds h.0 scope r t run.base run.cell_base before env hb h.1
closed_after run more scope inner r t before (returned vs) e hb h = tt

pub after_closed : (run : Running) (scope : Scope) (flow : Flow) (t : Registers) → Closed run scope flow t → After run scope scope flow t
after_closed run scope (normal env) t h = h
after_closed run scope (broken env) t h = ([], h)
after_closed run scope (returned vs) t h = tt

-- the hidden slots of loops keep what they have
abbrev pub Unmoved : (r t : Registers) → (base : ℕ) → Scope → Type 0
Unmoved r t base [] = Unit {0}
Unmoved r t base (hidden ∷ scope) = (t.slots (base + slot_count scope) ≡ r.slots (base + slot_count scope)) × Unmoved r t base scope
Unmoved r t base (named x k ∷ scope) = Unmoved r t base scope

pub unmoved_below : (r t : Registers) (base low : ℕ) (scope : Scope) → base + slot_count scope ≤ low → Below r.slots t.slots low → Unmoved r t base scope
unmoved_below r t base low [] l x = tt
unmoved_below r t base low (hidden ∷ scope) l x = (x (base + slot_count scope) (omega (arith, l)), unmoved_below r t base low scope (omega (arith, l)) x)
unmoved_below r t base low (named y in_slot ∷ scope) l x = unmoved_below r t base low scope (omega (arith, l)) x
unmoved_below r t base low (named y in_cell ∷ scope) l x = unmoved_below r t base low scope (omega (arith, l)) x
unmoved_below r t base low (named y outside ∷ scope) l x = unmoved_below r t base low scope l x

pub unmoved_self : (r : Registers) (base : ℕ) (scope : Scope) → Unmoved r r base scope
unmoved_self r base scope = unmoved_below r r base (base + slot_count scope) scope (omega arith) (below_self r.slots (base + slot_count scope))

pub unmoved_on : (r t u : Registers) (base : ℕ) (scope : Scope) → Unmoved r t base scope → Unmoved t u base scope → Unmoved r u base scope
unmoved_on r t u base [] x y = tt
unmoved_on r t u base (hidden ∷ scope) x y = (y.0 ∙ x.0, unmoved_on r t u base scope x.1 y.1)
unmoved_on r t u base (named z k ∷ scope) x y = unmoved_on r t u base scope x y

pub unmoved_outer : (r t : Registers) (base : ℕ) (more scope : Scope) → Unmoved r t base (more ++ scope) → Unmoved r t base scope
unmoved_outer r t base [] scope x = x
unmoved_outer r t base (hidden ∷ more) scope x = unmoved_outer r t base more scope x.1
unmoved_outer r t base (named z k ∷ more) scope x = unmoved_outer r t base more scope x

-- what holds behind a statement of the scope in front of it
pub after_less : (run : Running) (more scope inner end : Scope) (flow : Flow) (t : Registers) → inner ≡ more ++ scope → After run inner end flow t → After run scope end flow t
after_less run more scope inner end (normal env) t e h = h
after_less run more scope inner end (broken env) t e h = (h.0 ++ more, subst (λ s. Holds t run.base run.cell_base s env) (ap (λ s. h.0 ++ s) e ∙ sym (append_assoc h.0 more scope)) h.1)
after_less run more scope inner end (returned vs) t e h = tt

-- ---- values in a row

-- so many values, nil where there are no more, stand from a place on
abbrev pub Rowed : (ℕ → Value) → (at count : ℕ) → List Value → Type 0
Rowed s at zero vs = Unit {0}
Rowed s at (suc count) vs = (s at ≡ first vs) × Rowed s (suc at) count (drop 1 vs)

pub rowed_put : (s : ℕ → Value) (at count : ℕ) (vs : List Value) → Rowed (put_values s at count vs) at count vs
rowed_put s at zero vs = tt
rowed_put s at (suc count) vs = (
  below_values (put s at (first vs)) (put s at (first vs)) (suc at) (suc at) count (drop 1 vs) (omega arith) (below_self (put s at (first vs)) (suc at)) at (omega arith) ∙ put_same s at (first vs),
  rowed_put (put s at (first vs)) (suc at) count (drop 1 vs),
)

pub rowed : (s : ℕ → Value) (given at wanted : ℕ) (vs : List Value) → Rowed (put_values s (at + given) (wanted - given) vs) at wanted (row s at given ++ vs)
rowed s given at zero vs = tt
rowed s zero at (suc wanted) vs =
    let e : at ≡ at + 0 = omega arith in
    let m : suc wanted ≡ suc wanted - 0 = omega arith in
    subst (λ k. Rowed (put_values s k (suc wanted - 0) vs) at (suc wanted) vs) e (subst (λ m. Rowed (put_values s at m vs) at (suc wanted) vs) m (rowed_put s at (suc wanted) vs))
rowed s (suc given) at (suc wanted) vs =
    let e : suc at + given ≡ at + suc given = omega arith in
    let m : wanted - given ≡ suc wanted - suc given = omega arith in (
      below_values s s (suc at) (at + suc given) (suc wanted - suc given) vs (omega arith) (below_self s (suc at)) at (omega arith),
      subst (λ k. Rowed (put_values s k (suc wanted - suc given) vs) (suc at) wanted (row s (suc at) given ++ vs)) e (subst (λ m. Rowed (put_values s (suc at + given) m vs) (suc at) wanted (row s (suc at) given ++ vs)) m (rowed s given (suc at) wanted vs)),
    )

-- where there are as many as are wanted
pub rowed_all : (s : ℕ → Value) (count at : ℕ) (vs : List Value) → Rowed s at count (row s at count ++ vs)
rowed_all s zero at vs = tt
rowed_all s (suc count) at vs = (refl, rowed_all s count (suc at) vs)
