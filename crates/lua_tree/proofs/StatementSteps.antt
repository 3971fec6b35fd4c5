-- How statements and blocks are seen, and how high they are.
use Rattle.std.proofs.Common.{◌≡◌, ℕ, suc, ◌+◌, max, Bool, true, false, not, List, [], ◌∷◌, ◌++◌, map, Option, Some, None, refl, sym, ap, ◌∙◌, subst, option_map, rules, arith}
use Rattle.std.specs.Ordering.{ord_max, nat_cmp}
use Rattle.std.proofs.lemmas.Bool.{false≢true}
use Rattle.lua_tree.specs.declared.tree.Expr.{Expr}
use Rattle.lua_tree.specs.declared.tree.ExprKind as kind
use Rattle.lua_tree.specs.declared.tree.ExprKind.TheViews.{out-Arm, roll-Arm, roll-Block}
use Rattle.lua_tree.specs.declared.tree.Stat.{Stat}
use Rattle.lua_tree.specs.declared.tree.Stat as stat
use Rattle.lua_tree.specs.declared.tree.StatKind as stat_kind
use Rattle.lua_tree.specs.declared.tree.StatKind.TheVariants as stats
use Rattle.lua_tree.specs.declared.tree.Arm.{Arm}
use Rattle.lua_tree.specs.declared.tree.Arm as arm
use Rattle.lua_tree.specs.declared.tree.Block.{Block}
use Rattle.lua_tree.specs.declared.tree.Block as block
use Rattle.lua_tree.specs.Tree as t
use Rattle.lua_tree.specs.Words.{Tok}
use Rattle.lua_tree.specs.Attributes.{nodes, most_arms, most_block, most_stat}
use Rattle.lua_tree.specs.Reading.{Answer, got, stuck, a_block, some_arms, Prog, Reads}
use Rattle.lua_tree.specs.View.{arm_view, arms_of, block_of, block_view, else_of, expr_view, exprs_view, stat_view}
use Rattle.lua_tree.specs.Answer.{as_part, arm_tall, block_tall, else_tall, expr_tall, exprs_tall, limits, stat_tall}
use Rattle.lua_tree.proofs.Lists.{arms_end, stats_end, arms_last, arms_onto, arms_tall, part_of_part, stats_last, stats_onto, stats_tall}
use Rattle.lua_tree.proofs.Descent.{greater_is}
use Rattle.lua_tree.proofs.Tall.{tall_arm, tall_do, tall_else}

pub view_do : (l : ℕ) (b : Block) → stat_view (record { line = l; what = stats.Do b }) ≡ t.do_block l (block_view b)
view_do l b = search (rules, kind.the_lemmas, stat.the_lemmas, stat_kind.the_lemmas)

pub view_return : (l : ℕ) (es : List Expr) → stat_view (record { line = l; what = stats.Return es }) ≡ t.return_stat l (exprs_view es)
view_return l es = search (rules, kind.the_lemmas, stat.the_lemmas, stat_kind.the_lemmas)

pub view_if : (l : ℕ) (xs : List Arm) (o : Option Block)
    → stat_view (record { line = l; what = stats.If xs o }) ≡ t.if_stat l (arms_of (map arm_view xs) (else_of (option_map block_view o)))
view_if l xs o = search (rules, kind.the_lemmas, stat.the_lemmas, stat_kind.the_lemmas)

pub view_arm : (e : Expr) (b : Block) (rest : t.Arms) → arm_view (roll-Arm (record { test = e; block = b })) rest ≡ t.arm_and (expr_view e) (block_view b) rest
view_arm e b rest = search (rules, kind.the_lemmas, stat.the_lemmas, stat_kind.the_lemmas, arm.the_lemmas)

pub view_arm_of : (a : Arm) (rest : t.Arms) → arm_view a rest ≡ t.arm_and (expr_view (out-Arm a).test) (block_view (out-Arm a).block) rest
view_arm_of a rest = search (rules, kind.the_lemmas, stat.the_lemmas, stat_kind.the_lemmas, arm.the_lemmas)

pub view_block : (ss : List Stat) → block_view (roll-Block (record { stats = ss })) ≡ block_of (map stat_view ss)
view_block ss = search (rules, kind.the_lemmas, stat.the_lemmas, stat_kind.the_lemmas, block.the_lemmas)

pub high_do : (l n : ℕ) (b : Block) → n ≡ block_tall b → 1 + n ≡ stat_tall (record { line = l; what = stats.Do b })
high_do l n b h = let x = ap (most_stat nodes 0) (view_do l b) in let y = tall_do l (block_view b) in omega (arith, x, y, h)

pub high_arm : (n m : ℕ) (e : Expr) (b : Block) → n ≡ expr_tall e → m ≡ block_tall b → max n (1 + m) ≡ arm_tall (roll-Arm (record { test = e; block = b }))
high_arm n m e b h i = let x = ap (most_arms nodes 0) (view_arm e b t.no_else) in let y = tall_arm (expr_view e) (block_view b) t.no_else in omega (arith, x, y, h, i)

pub high_else : (n : ℕ) (b : Block) → n ≡ block_tall b → 1 + n ≡ else_tall (Some b)
high_else n b h = let y = tall_else (block_view b) in omega (arith, y, h)

-- an arm in front of others
pub tall_arm_and : (a : Arm) (rest : t.Arms) → most_arms nodes 0 (arm_view a rest) ≡ max (arm_tall a) (most_arms nodes 0 rest)
tall_arm_and a rest =
    let x = ap (most_arms nodes 0) (view_arm_of a rest) in
    let y = ap (most_arms nodes 0) (view_arm_of a t.no_else) in
    let z = tall_arm (expr_view (out-Arm a).test) (block_view (out-Arm a).block) rest in
    let u = tall_arm (expr_view (out-Arm a).test) (block_view (out-Arm a).block) t.no_else in omega (arith, x, y, z, u)

-- one more arm, and an `else` behind arms
pub arms_tall_last : (xs : List Arm) (a : Arm) → arms_tall (xs ++ a ∷ []) ≡ max (arms_tall xs) (arm_tall a)
arms_tall_last [] a = omega arith
arms_tall_last (d ∷ xs) a =
    let h = arms_tall_last xs a in
    let x = tall_arm_and d (arms_of (map arm_view (xs ++ a ∷ [])) t.no_else) in
    let y = tall_arm_and d (arms_of (map arm_view xs) t.no_else) in omega (arith, h, x, y)

pub arms_tall_else : (xs : List Arm) (last : t.Arms) → most_arms nodes 0 (arms_of (map arm_view xs) last) ≡ max (arms_tall xs) (most_arms nodes 0 last)
arms_tall_else [] last = omega arith
arms_tall_else (d ∷ xs) last =
    let h = arms_tall_else xs last in
    let x = tall_arm_and d (arms_of (map arm_view xs) last) in
    let y = tall_arm_and d (arms_of (map arm_view xs) t.no_else) in omega (arith, h, x, y)

pub high_if : (l n m : ℕ) (xs : List Arm) (o : Option Block) → n ≡ arms_tall xs → m ≡ else_tall o → max n m ≡ stat_tall (record { line = l; what = stats.If xs o })
high_if l n m xs o h i =
    let x = ap (most_stat nodes 0) (view_if l xs o) in
    let y = arms_tall_else xs (else_of (option_map block_view o)) in omega (arith, x, y, h, i)

-- one more statement
pub stats_tall_last : (ss : List Stat) (s : Stat) → stats_tall (ss ++ s ∷ []) ≡ max (stats_tall ss) (stat_tall s)
stats_tall_last [] s = omega arith
stats_tall_last (d ∷ ss) s = let h = stats_tall_last ss s in omega (arith, h)

pub high_block : (n : ℕ) (ss : List Stat) → n ≡ stats_tall ss → n ≡ block_tall (roll-Block (record { stats = ss }))
high_block n ss h = let x = ap (most_block nodes 0) (view_block ss) in omega (arith, x, h)

-- what stands in front of what was read goes on to one more
pub one_more_stat : {p : Prog a_block} {ts : List Tok} (ss : List Stat) (s : Stat) (r : Answer t.Block)
    → Reads limits a_block p ts (as_part (stats_onto ss) (as_part (t.stat_and (stat_view s)) r)) → Reads limits a_block p ts (as_part (stats_onto (ss ++ s ∷ [])) r)
one_more_stat {p = p} {ts = ts} ss s r d =
    subst (λ (o : Answer t.Block). Reads limits a_block p ts o) (part_of_part (stats_onto ss) (t.stat_and (stat_view s)) r ∙ ap (λ (f : t.Block → t.Block). as_part f r) (λ i b. sym (stats_last ss s b) i)) d

pub one_more_arm : {p : Prog some_arms} {ts : List Tok} (xs : List Arm) (a : Arm) (r : Answer t.Arms)
    → Reads limits some_arms p ts (as_part (arms_onto xs) (as_part (arm_view a) r)) → Reads limits some_arms p ts (as_part (arms_onto (xs ++ a ∷ [])) r)
one_more_arm {p = p} {ts = ts} xs a r d =
    subst (λ (o : Answer t.Arms). Reads limits some_arms p ts o) (part_of_part (arms_onto xs) (arm_view a) r ∙ ap (λ (f : t.Arms → t.Arms). as_part f r) (λ i b. sym (arms_last xs a b) i)) d

-- an arm in front of what follows it
pub as_arm : {p : Prog some_arms} {ts : List Tok} (e : Expr) (b : Block) (r : Answer t.Arms)
    → Reads limits some_arms p ts (as_part (t.arm_and (expr_view e) (block_view b)) r) → Reads limits some_arms p ts (as_part (arm_view (roll-Arm (record { test = e; block = b }))) r)
as_arm {p = p} {ts = ts} e b r d =
    subst (λ (o : Answer t.Arms). Reads limits some_arms p ts o) (ap (λ (f : t.Arms → t.Arms). as_part f r) (λ i rest. sym (view_arm e b rest) i)) d

-- the statements that were read are the block
pub whole_block : {p : Prog a_block} {ts us : List Tok} (ss : List Stat) → Reads limits a_block p ts (got (stats_onto ss t.no_stats) us)
    → Reads limits a_block p ts (got (block_view (roll-Block (record { stats = ss }))) us)
whole_block {p = p} {ts = ts} {us = us} ss d = subst (λ (b : t.Block). Reads limits a_block p ts (got b us)) (stats_end ss ∙ sym (view_block ss)) d

pub whole_last : {p : Prog a_block} {ts us : List Tok} (ss : List Stat) (s : Stat) → Reads limits a_block p ts (got (stats_onto ss (t.stat_and (stat_view s) t.no_stats)) us)
    → Reads limits a_block p ts (got (block_view (roll-Block (record { stats = ss ++ s ∷ [] }))) us)
whole_last {p = p} {ts = ts} {us = us} ss s d =
    whole_block (ss ++ s ∷ []) (subst (λ (b : t.Block). Reads limits a_block p ts (got b us)) (sym (stats_last ss s t.no_stats)) d)

-- so are the arms
pub whole_if : (l m : ℕ) (xs : List Arm) (o : Option Block) → l ≡ m
    → t.if_stat l (arms_onto xs (else_of (option_map block_view o))) ≡ stat_view (record { line = m; what = stats.If xs o })
whole_if l m xs o e = ap (λ (k : ℕ). t.if_stat k (arms_onto xs (else_of (option_map block_view o)))) e ∙ (ap (t.if_stat m) (arms_end xs (else_of (option_map block_view o))) ∙ sym (view_if m xs o))

-- an arm and an `else` as what a rule reads
abbrev pub arm_shown : Arm → t.Arms
arm_shown a = arm_view a t.no_else

abbrev pub else_shown : Option Block → t.Arms
else_shown o = else_of (option_map block_view o)

-- nothing was read yet
pub no_stats_high : (ss : List Stat) → ss ≡ [] → 0 ≡ stats_tall ss
no_stats_high ss e = ap stats_tall (sym e)

pub no_stats_yet : {p : Prog a_block} {ts : List Tok} (ss : List Stat) (r : Answer t.Block) → ss ≡ [] → Reads limits a_block p ts r
    → Reads limits a_block p ts (as_part (stats_onto ss) r)
no_stats_yet {p = p} {ts = ts} ss (got b us) e d = subst (λ (xs : List Stat). Reads limits a_block p ts (got (stats_onto xs b) us)) (sym e) d
no_stats_yet ss (stuck x us) e d = d

-- one more statement, in a list that was lengthened
pub longer_stats : {p : Prog a_block} {ts : List Tok} (us ss : List Stat) (s : Stat) (r : Answer t.Block) → us ≡ ss ++ s ∷ []
    → Reads limits a_block p ts (as_part (stats_onto ss) (as_part (t.stat_and (stat_view s)) r)) → Reads limits a_block p ts (as_part (stats_onto us) r)
longer_stats {p = p} {ts = ts} us ss s r e d = subst (λ (xs : List Stat). Reads limits a_block p ts (as_part (stats_onto xs) r)) (sym e) (one_more_stat ss s r d)

pub longer_high : (us ss : List Stat) (s : Stat) (k n m : ℕ) → us ≡ ss ++ s ∷ [] → k ≡ ord_max nat_cmp n m → n ≡ stats_tall ss → m ≡ stat_tall s → k ≡ stats_tall us
longer_high us ss s k n m e g h i =
    let x = ap stats_tall e in let y = stats_tall_last ss s in let z = greater_is k n m g in omega (arith, x, y, z, h, i)

-- the block of what was read, and of that with one more
pub block_is : {p : Prog a_block} {ts rest : List Tok} (us ss : List Stat) → us ≡ ss → Reads limits a_block p ts (got (stats_onto ss t.no_stats) rest)
    → Reads limits a_block p ts (got (block_view (roll-Block (record { stats = us }))) rest)
block_is {p = p} {ts = ts} {rest = rest} us ss e d =
    subst (λ (xs : List Stat). Reads limits a_block p ts (got (block_view (roll-Block (record { stats = xs }))) rest)) (sym e) (whole_block ss d)

pub block_with : {p : Prog a_block} {ts rest : List Tok} (vs us ss : List Stat) (s : Stat) → vs ≡ us → us ≡ ss ++ s ∷ []
    → Reads limits a_block p ts (got (stats_onto ss (t.stat_and (stat_view s) t.no_stats)) rest)
    → Reads limits a_block p ts (got (block_view (roll-Block (record { stats = vs }))) rest)
block_with {p = p} {ts = ts} {rest = rest} vs us ss s f e d =
    subst (λ (xs : List Stat). Reads limits a_block p ts (got (block_view (roll-Block (record { stats = xs }))) rest)) (sym (f ∙ e)) (whole_last ss s d)

pub block_high : (vs us ss : List Stat) (s : Stat) (k n m : ℕ) → vs ≡ us → us ≡ ss ++ s ∷ [] → k ≡ max n m → n ≡ stats_tall ss → m ≡ stat_tall s
    → k ≡ block_tall (roll-Block (record { stats = vs }))
block_high vs us ss s k n m f e g h i =
    let x = ap stats_tall (f ∙ e) in let y = stats_tall_last ss s in
    let z : k ≡ stats_tall vs = omega (arith, x, y, g, h, i) in high_block k vs z

-- the same of arms
pub first_arm_high : (us vs : List Arm) (a : Arm) (n : ℕ) → us ≡ vs ++ a ∷ [] → vs ≡ [] → n ≡ arm_tall a → n ≡ arms_tall us
first_arm_high us vs a n e f h =
    let same : us ≡ a ∷ [] = e ∙ ap (λ (xs : List Arm). xs ++ a ∷ []) f in
    let x = ap arms_tall same in omega (arith, x, h)

pub first_arm : {p : Prog some_arms} {ts : List Tok} (us vs : List Arm) (a : Arm) (r : Answer t.Arms) → us ≡ vs ++ a ∷ [] → vs ≡ []
    → Reads limits some_arms p ts (as_part (arm_view a) r) → Reads limits some_arms p ts (as_part (arms_onto us) r)
first_arm {p = p} {ts = ts} us vs a r e f d =
    subst (λ (xs : List Arm). Reads limits some_arms p ts (as_part (arms_onto xs) r)) (sym (e ∙ ap (λ (xs : List Arm). xs ++ a ∷ []) f)) d

pub longer_arms : {p : Prog some_arms} {ts : List Tok} (us xs : List Arm) (a : Arm) (r : Answer t.Arms) → us ≡ xs ++ a ∷ []
    → Reads limits some_arms p ts (as_part (arms_onto xs) (as_part (arm_view a) r)) → Reads limits some_arms p ts (as_part (arms_onto us) r)
longer_arms {p = p} {ts = ts} us xs a r e d = subst (λ (ys : List Arm). Reads limits some_arms p ts (as_part (arms_onto ys) r)) (sym e) (one_more_arm xs a r d)

pub longer_arms_high : (us xs : List Arm) (a : Arm) (k n m : ℕ) → us ≡ xs ++ a ∷ [] → k ≡ max n m → n ≡ arms_tall xs → m ≡ arm_tall a → k ≡ arms_tall us
longer_arms_high us xs a k n m e g h i =
    let x = ap arms_tall e in let y = arms_tall_last xs a in omega (arith, x, y, g, h, i)

pub if_is : (l m : ℕ) (us xs : List Arm) (o : Option Block) → l ≡ m → us ≡ xs
    → t.if_stat l (arms_onto xs (else_of (option_map block_view o))) ≡ stat_view (record { line = m; what = stats.If us o })
if_is l m us xs o e f = whole_if l m xs o e ∙ ap (λ (ys : List Arm). stat_view (record { line = m; what = stats.If ys o })) (sym f)

pub if_high : (l k n m : ℕ) (us xs : List Arm) (o : Option Block) → us ≡ xs → k ≡ max n m → n ≡ arms_tall xs → m ≡ else_tall o
    → k ≡ stat_tall (record { line = l; what = stats.If us o })
if_high l k n m us xs o f g h i = g ∙ high_if l n m us o (h ∙ ap arms_tall (sym f)) i

pub arm_high : (k n m : ℕ) (e : Expr) (b : Block) → k ≡ max n (1 + m) → n ≡ expr_tall e → m ≡ block_tall b → k ≡ arm_tall (roll-Arm (record { test = e; block = b }))
arm_high k n m e b g h i = g ∙ high_arm n m e b h i

-- a `return` without expressions
pub bare_return : (l m : ℕ) (es : List Expr) → l ≡ m → es ≡ [] → t.return_stat l t.no_exprs ≡ stat_view (record { line = m; what = stats.Return es })
bare_return l m es e f = ap (λ (k : ℕ). t.return_stat k t.no_exprs) e ∙ (ap (λ (xs : List Expr). t.return_stat m (exprs_view xs)) (sym f) ∙ sym (view_return m es))

pub return_is : (l m : ℕ) (es : List Expr) → l ≡ m → t.return_stat l (exprs_view es) ≡ stat_view (record { line = m; what = stats.Return es })
return_is l m es e = ap (λ (k : ℕ). t.return_stat k (exprs_view es)) e ∙ sym (view_return m es)
