-- Locals that come into scope and go out of it.
use Rattle.std.proofs.Common.{◌≡◌, ℕ, zero, suc, ◌+◌, ◌-◌, ◌<◌, false, List, [], ◌∷◌, ◌++◌, length, drop, map, get_or, refl, sym, ap, subst, ◌∙◌, append_assoc, arith}
use Rattle.std.proofs.lemmas.List.{append-nil, map-append}
use Rattle.std.proofs.Math.Seq.{drop-cons}
use Rattle.lua_tree.specs.Tree.{Bytes}
use Rattle.lua_tree.specs.declared.tree.Stat.{Stat}
use Rattle.lua_tree.specs.View.{stat_view, block_of}
use Rattle.lua_meaning.specs.Names.{block_names, stat_names, is_captured}
use Rattle.lua_code.specs.Instr as i
use Rattle.lua_code.specs.Scope as scopes
use Rattle.lua_code.specs.Scope.{Scope, named, hidden, kind_of, declared, declare_code}
use Rattle.lua_code.specs.Code.{scope_behind, scope_at_end, block_code, stat_code}
use Rattle.lua_assembler.specs.declared.scope.Entry.{Entry}
use Rattle.lua_assembler.specs.Seats.{entry_view}
use Rattle.lua_assembler.specs.Writing.{Written, code_of, Adds}
use Rattle.lua_compile.specs.Locals.{on_top, Precedes, TakesEntry, TakesLocals, TakesStat, TakesBlock, entry_code}
use Rattle.lua_assembler.proofs.Adding.{both_added, one_in_front, nothing_added, adds_length}
use Rattle.lua_assembler.proofs.Remaining.{Remains, remains_all, remains_less, remains_as, remains_none}

-- ---- lists from a place on

pub here_on : {A : Type 0} (xs : List A) (at : ℕ) (x : A) → at < length xs → x ≡ get_or xs at x → drop at xs ≡ x ∷ drop (suc at) xs
here_on xs at x l g = drop-cons xs at x l ∙ ap (λ y. y ∷ drop (suc at) xs) (sym g)

-- ---- into scope

pub precedes_local : (xs : List Bytes) (at : ℕ) (x : Bytes) (captured : List Bytes) (old mid : List Entry) (e : Entry) → at < length xs → x ≡ get_or xs at x → entry_view e ≡ named x (kind_of (is_captured (drop (suc at) xs) captured x)) → Precedes (declared (drop (suc at) xs) captured) old mid
    → Precedes (declared (drop at xs) captured) old (mid ++ e ∷ [])
precedes_local xs at x captured old mid e l g v h scope =
    ap (λ es. es ++ scope) (map-append entry_view mid (e ∷ []))
    ∙ append_assoc (map entry_view mid) (entry_view e ∷ []) scope
    ∙ h (entry_view e ∷ scope)
    ∙ ap (λ n. on_top old (declared (drop (suc at) xs) captured (n ∷ scope))) v
    ∙ ap (λ ys. on_top old (declared ys captured scope)) (sym (here_on xs at x l g))

pub names_step : (ss : List Stat) (at : ℕ) (s : Stat) (after : List Bytes) → at < length ss → s ≡ get_or ss at s → block_names false (block_of (map stat_view (drop at ss))) after ≡ stat_names false (stat_view s) (block_names false (block_of (map stat_view (drop (suc at) ss))) after)
names_step ss at s after l g = ap (λ ys. block_names false (block_of (map stat_view ys)) after) (here_on ss at s l g)

-- what a block has in scope from a statement on
abbrev pub EndsAs : (ss : List Stat) (after : List Bytes) → List Entry → Type 0
EndsAs ss after locals = (scope : Scope) → scope_at_end (block_of (map stat_view ss)) after scope ≡ on_top locals scope

pub ends_step : (ss : List Stat) (at : ℕ) (s : Stat) (after later : List Bytes) (mid new : List Entry) → at < length ss → s ≡ get_or ss at s → later ≡ block_names false (block_of (map stat_view (drop (suc at) ss))) after
    → EndsAs (drop (suc at) ss) after mid → Precedes (scope_behind (stat_view s) later) mid new → EndsAs (drop at ss) after new
ends_step ss at s after later mid new l g e h p scope =
    ap (λ ys. scope_at_end (block_of (map stat_view ys)) after scope) (here_on ss at s l g)
    ∙ h (scope_behind (stat_view s) (block_names false (block_of (map stat_view (drop (suc at) ss))) after) scope)
    ∙ ap (λ n. on_top mid (scope_behind (stat_view s) n scope)) (sym e)
    ∙ sym (p scope)

pub add_one : (front : List Entry) (e : Entry) (scope : Scope) → on_top (front ++ e ∷ []) scope ≡ on_top front (entry_view e ∷ scope)
add_one front e scope = ap (λ es. es ++ scope) (map-append entry_view front (e ∷ [])) ∙ append_assoc (map entry_view front) (entry_view e ∷ []) scope

-- ---- out of scope

declared_behind : (xs captured : List Bytes) (front scope : Scope) → declared xs captured (front ++ scope) ≡ declared xs captured front ++ scope
declared_behind [] captured front scope = refl
declared_behind (x ∷ xs) captured front scope = declared_behind xs captured (named x (kind_of (is_captured xs captured x)) ∷ front) scope

declared_length : (xs captured : List Bytes) (scope : Scope) → length (declared xs captured scope) ≡ length xs + length scope
declared_length [] captured scope = omega arith
declared_length (x ∷ xs) captured scope = let e = declared_length xs captured (named x (kind_of (is_captured xs captured x)) ∷ scope) in omega (arith, e)

-- what gives entries in front of a scope their cells
abbrev pub cells_code : (entries before : Scope) → List i.Instr
cells_code [] before = []
cells_code (e ∷ es) before = cells_code es before ++ entry_code e (es ++ before)

declared_cells : (xs captured : List Bytes) (front scope : Scope) → cells_code (declared xs captured front) scope ≡ cells_code front scope ++ declare_code xs captured (front ++ scope)
declared_cells [] captured front scope = sym (append-nil (cells_code front scope))
declared_cells (x ∷ xs) captured front scope =
    let n : scopes.Entry = named x (kind_of (is_captured xs captured x)) in
    declared_cells xs captured (n ∷ front) scope
    ∙ append_assoc (cells_code front scope) (entry_code n (front ++ scope)) (declare_code xs captured (n ∷ (front ++ scope)))

-- so many entries are in front still, and the code of the others is there
pub record CellsLeft (left : ℕ) (code : List i.Instr) (before now : Scope) (old new : Written) : Type 0 where
  pub entries : Scope
  pub count : length entries ≡ left
  pub scope : now ≡ entries ++ before
  pub remains : Remains code (cells_code entries before) old new

abbrev pub TakesSoFar : (count left : ℕ) → (inner now : Scope) → (old new : Written) → Type 0
TakesSoFar count left inner now old new =
    (names captured : List Bytes) (before : Scope) → length names ≡ count → inner ≡ declared names captured before →
    CellsLeft left (declare_code names captured before) before now old new

pub takes_begin : (count : ℕ) (inner : Scope) (w : Written) → TakesSoFar count count inner inner w w
takes_begin count inner w names captured before n e = record {
  entries = declared names captured [];
  count = declared_length names captured [] ∙ (omega (arith, n));
  scope = e ∙ declared_behind names captured [] before;
  remains = remains_as (declare_code names captured before) (declare_code names captured before) (cells_code (declared names captured []) before) w w (sym (declared_cells names captured [] before)) (remains_all (declare_code names captured before) w);
}

one_taken : (entries : Scope) (left : ℕ) (code : List i.Instr) (before now next : Scope) (old mid new : Written) → length entries ≡ suc left → now ≡ entries ++ before → Remains code (cells_code entries before) old mid → TakesEntry now next mid new → CellsLeft left code before next old new
one_taken [] left code before now next old mid new n e r t = absurd (let z : ⊥ = omega (arith, n) in z)
one_taken (x ∷ es) left code before now next old mid new n e r t =
    let taken = t x (es ++ before) e in
    record {
      entries = es;
      count = omega (arith, n);
      scope = taken.0;
      remains = remains_less code (cells_code es before) (entry_code x (es ++ before)) old mid new r taken.1;
    }

pub takes_one : (count left : ℕ) (inner now next : Scope) (old mid new : Written) → TakesSoFar count (suc left) inner now old mid → TakesEntry now next mid new → TakesSoFar count left inner next old new
takes_one count left inner now next old mid new h t names captured before n e =
    let c = h names captured before n e in
    one_taken c.entries left (declare_code names captured before) before now next old mid new c.count c.scope c.remains t

none_left : (entries : Scope) (code : List i.Instr) (before now : Scope) (old new : Written) → length entries ≡ 0 → now ≡ entries ++ before → Remains code (cells_code entries before) old new → (now ≡ before) × Adds code old new
none_left [] code before now old new n e r = (e, remains_none code old new r)
none_left (x ∷ es) code before now old new n e r = absurd (let z : ⊥ = omega (arith, n) in z)

pub takes_end : (count : ℕ) (inner now : Scope) (old new : Written) → TakesSoFar count 0 inner now old new → TakesLocals count inner now old new
takes_end count inner now old new h names captured before n e =
    let c = h names captured before n e in
    none_left c.entries (declare_code names captured before) before now old new c.count c.scope c.remains

-- ---- a block

-- what is in scope before the statement of a number
abbrev pub scope_before : ℕ → List Stat → (after : List Bytes) → Scope → Scope
scope_before zero ss after scope = scope
scope_before (suc n) [] after scope = scope
scope_before (suc n) (s ∷ ss) after scope =
    scope_before n ss after (scope_behind (stat_view s) (block_names false (block_of (map stat_view ss)) after) scope)

pub before_all : (ss : List Stat) (after : List Bytes) (scope : Scope) → scope_before (length ss) ss after scope ≡ scope_at_end (block_of (map stat_view ss)) after scope
before_all [] after scope = refl
before_all (s ∷ ss) after scope = before_all ss after (scope_behind (stat_view s) (block_names false (block_of (map stat_view ss)) after) scope)

before_step : (ss : List Stat) (n : ℕ) (s : Stat) (after : List Bytes) (scope : Scope) → n < length ss → s ≡ get_or ss n s → scope_before (suc n) ss after scope ≡ scope_behind (stat_view s) (block_names false (block_of (map stat_view (drop (suc n) ss))) after) (scope_before n ss after scope)
before_step [] n s after scope l g = absurd (let z : ⊥ = omega (arith, l) in z)
before_step (y ∷ ys) zero s after scope l g = ap (λ z. scope_behind (stat_view z) (block_names false (block_of (map stat_view ys)) after) scope) (sym g)
before_step (y ∷ ys) (suc n) s after scope l g = before_step ys n s after (scope_behind (stat_view y) (block_names false (block_of (map stat_view ys)) after) scope) (omega (arith, l)) g

-- the statements from a place on are there, and the locals of those before it are in scope
abbrev pub BlockFrom : (at : ℕ) → List Stat → (exit : ℕ) → (file : Bytes) → (inner now : Scope) → (old new : Written) → Type 0
BlockFrom at ss exit file inner now old new =
    (after : List Bytes) (before : Scope) → inner ≡ scope_at_end (block_of (map stat_view ss)) after before →
    (now ≡ scope_before at ss after before) × Adds (block_code (block_of (map stat_view (drop at ss))) after exit file (scope_before at ss after before)) old new

none_behind : (ss : List Stat) (after : List Bytes) (exit : ℕ) (file : Bytes) (scope : Scope) → block_code (block_of (map stat_view (drop (length ss) ss))) after exit file scope ≡ []
none_behind [] after exit file scope = refl
none_behind (s ∷ ss) after exit file scope = none_behind ss after exit file scope

pub block_begins : (ss : List Stat) (exit : ℕ) (file : Bytes) (inner : Scope) (w : Written) → BlockFrom (length ss) ss exit file inner inner w w
block_begins ss exit file inner w after before e =
    (e ∙ sym (before_all ss after before), subst (λ (l : List i.Instr). Adds l w w) (sym (none_behind ss after exit file (scope_before (length ss) ss after before))) (nothing_added w))

pub block_step : (ss : List Stat) (at : ℕ) (s : Stat) (exit behind : ℕ) (file : Bytes) (inner now next : Scope) (w0 w1 w2 w3 : Written) → at < length ss → s ≡ get_or ss at s
    → behind ≡ (length (code_of w1) - length (code_of w0)) + exit
    → BlockFrom (suc at) ss exit file inner now w0 w1 → TakesStat (stat_view s) behind file now next w1 w2 → Adds (i.tick ∷ []) w2 w3
    → BlockFrom at ss exit file inner next w0 w3
block_step ss at s exit behind file inner now next w0 w1 w2 w3 l g b h t k after before e =
    let from = h after before e in
    let later : List Bytes = block_names false (block_of (map stat_view (drop (suc at) ss))) after in
    let scope : Scope = scope_before at ss after before in
    let rest : List i.Instr = block_code (block_of (map stat_view (drop (suc at) ss))) after exit file (scope_behind (stat_view s) later scope) in
    let inside : scope_before (suc at) ss after before ≡ scope_behind (stat_view s) later scope = before_step ss at s after before l g in
    let added : Adds rest w0 w1 = subst (λ (sc : Scope). Adds (block_code (block_of (map stat_view (drop (suc at) ss))) after exit file sc) w0 w1) inside from.1 in
    let long : length (code_of w1) ≡ length rest + length (code_of w0) = adds_length rest w0 w1 added in
    let jump : behind ≡ length rest + exit = omega (arith, b, long) in
    let taken = t later scope (from.0 ∙ inside) in
    let own : Adds (stat_code (stat_view s) later (length rest + exit) file scope) w1 w2 = subst (λ (n : ℕ). Adds (stat_code (stat_view s) later n file scope) w1 w2) jump taken.1 in
    let whole : Adds (i.tick ∷ (stat_code (stat_view s) later (length rest + exit) file scope ++ rest)) w0 w3 = one_in_front i.tick (stat_code (stat_view s) later (length rest + exit) file scope ++ rest) w0 w2 w3 (both_added (stat_code (stat_view s) later (length rest + exit) file scope) rest w0 w1 w2 added own) k in
    (taken.0, subst (λ (ys : List Stat). Adds (block_code (block_of (map stat_view ys)) after exit file scope) w0 w3) (sym (here_on ss at s l g)) whole)

pub block_ends : (ss : List Stat) (exit : ℕ) (file : Bytes) (inner now : Scope) (old new : Written) → BlockFrom 0 ss exit file inner now old new → TakesBlock (block_of (map stat_view ss)) exit file inner now old new
block_ends ss exit file inner now old new h after before e = h after before e
