-- What is counted further inside, of a scope and as the rules have it.
use Rattle.std.proofs.Common.{◌≡◌, ℕ, suc, ◌+◌, Bool, true, false, List, length, refl, sym, ap, arith}
use Rattle.std.specs.Prelude.{if◌then◌else◌, not}
use Rattle.std.proofs.lemmas.Bool.{false≢true}
use Rattle.lua_tree.specs.Tree.{Bytes, Stat}
use Rattle.lua_tree.specs.declared.scope.Scope.{Scope}
use Rattle.lua_tree.specs.Attributes.{Limit, breaks, varargs, nodes, locals, calls, Counts, at_chunk, declared}
use Rattle.lua_tree.specs.Reading.{down, in_loop, in_body, behind}
use Rattle.lua_tree.specs.Answer.{counts}

same_counts : {c d : Counts} → ((x : Limit) → c x ≡ d x) → c ≡ d
same_counts h = λ i x. h x i

at_start : (s : Scope) → s.depth ≡ 0 → s.dots ≡ true → s.in_loop ≡ false → s.locals ≡ 0 → (x : Limit) → counts s x ≡ at_chunk x
at_start s d v l n breaks = ap (λ b. if b then 0 else 1) l
at_start s d v l n varargs = ap (λ b. if b then 0 else 1) v
at_start s d v l n nodes = d
at_start s d v l n locals = n
at_start s d v l n calls = refl

pub chunk_counts : (s : Scope) → s.depth ≡ 0 → s.dots ≡ true → s.in_loop ≡ false → s.locals ≡ 0 → counts s ≡ at_chunk
chunk_counts s d v l n = same_counts (at_start s d v l n)

deeper_at : (s q : Scope) → q.depth ≡ s.depth + 1 → q.dots ≡ s.dots → q.in_loop ≡ s.in_loop → q.locals ≡ s.locals → (x : Limit) → counts q x ≡ down (counts s) x
deeper_at s q d v l n breaks = ap (λ b. if b then 0 else 1) l
deeper_at s q d v l n varargs = ap (λ b. if b then 0 else 1) v
deeper_at s q d v l n nodes = omega (arith, d)
deeper_at s q d v l n locals = n
deeper_at s q d v l n calls = refl

pub deeper_counts : (s q : Scope) → q.depth ≡ s.depth + 1 → q.dots ≡ s.dots → q.in_loop ≡ s.in_loop → q.locals ≡ s.locals → counts q ≡ down (counts s)
deeper_counts s q d v l n = same_counts (deeper_at s q d v l n)

looped_at : (k : ℕ) (s q : Scope) → q.depth ≡ s.depth + 1 → q.dots ≡ s.dots → q.in_loop ≡ true → q.locals ≡ s.locals + k → (x : Limit) → counts q x ≡ in_loop k (counts s) x
looped_at k s q d v l n breaks = ap (λ b. if b then 0 else 1) l
looped_at k s q d v l n varargs = ap (λ b. if b then 0 else 1) v
looped_at k s q d v l n nodes = omega (arith, d)
looped_at k s q d v l n locals = n
looped_at k s q d v l n calls = refl

pub looped_counts : (k : ℕ) (s q : Scope) → q.depth ≡ s.depth + 1 → q.dots ≡ s.dots → q.in_loop ≡ true → q.locals ≡ s.locals + k → counts q ≡ in_loop k (counts s)
looped_counts k s q d v l n = same_counts (looped_at k s q d v l n)

behind_at : (st : Stat) (s q : Scope) → q.depth ≡ s.depth → q.dots ≡ s.dots → q.in_loop ≡ s.in_loop → q.locals ≡ s.locals + declared st → (x : Limit) → counts q x ≡ behind st (counts s) x
behind_at st s q d v l n breaks = ap (λ b. if b then 0 else 1) l
behind_at st s q d v l n varargs = ap (λ b. if b then 0 else 1) v
behind_at st s q d v l n nodes = d
behind_at st s q d v l n locals = n
behind_at st s q d v l n calls = refl

pub behind_counts : (st : Stat) (s q : Scope) → q.depth ≡ s.depth → q.dots ≡ s.dots → q.in_loop ≡ s.in_loop → q.locals ≡ s.locals + declared st → counts q ≡ behind st (counts s)
behind_counts st s q d v l n = same_counts (behind_at st s q d v l n)

body_at : (ps : List Bytes) (has_dots : Bool) (c : Counts) (q : Scope) → q.depth ≡ c nodes + 1 → q.dots ≡ has_dots → q.in_loop ≡ false → q.locals ≡ length ps → c calls ≡ 0 → (x : Limit) → counts q x ≡ in_body ps has_dots c x
body_at ps b c q d v l n z breaks = ap (λ b. if b then 0 else 1) l
body_at ps true c q d v l n z varargs = ap (λ b. if b then 0 else 1) v
body_at ps false c q d v l n z varargs = ap (λ b. if b then 0 else 1) v
body_at ps b c q d v l n z nodes = omega (arith, d)
body_at ps b c q d v l n z locals = n
body_at ps b c q d v l n z calls = sym z

pub body_counts : (ps : List Bytes) (has_dots : Bool) (c : Counts) (q : Scope) → q.depth ≡ c nodes + 1 → q.dots ≡ has_dots → q.in_loop ≡ false → q.locals ≡ length ps → c calls ≡ 0 → counts q ≡ in_body ps has_dots c
body_counts ps b c q d v l n z = same_counts (body_at ps b c q d v l n z)

-- what a scope counts where it has a loop or a `...`, and where it doesn't
abbrev flag : Bool → ℕ
flag b = if b then 0 else 1

flag_not : (b : Bool) → not b ≡ true → flag b ≡ 1
flag_not true e = absurd (false≢true e)
flag_not false e = refl

flag_set : (b : Bool) → not b ≡ false → flag b ≡ 0
flag_set true e = refl
flag_set false e = absurd (false≢true (sym e))

pub no_dots : (s : Scope) → not s.dots ≡ true → counts s varargs ≡ 1
no_dots s e = flag_not s.dots e

pub has_dots : (s : Scope) → not s.dots ≡ false → counts s varargs ≡ 0
has_dots s e = flag_set s.dots e

pub no_loop : (s : Scope) → not s.in_loop ≡ true → counts s breaks ≡ 1
no_loop s e = flag_not s.in_loop e

pub has_loop : (s : Scope) → not s.in_loop ≡ false → counts s breaks ≡ 0
has_loop s e = flag_set s.in_loop e
