-- Loops, part by part.
use Rattle.std.proofs.Common.{◌≡◌, ℕ, suc, ◌+◌, ◌-◌, ◌≤◌, max, Bool, true, false, List, [], ◌∷◌, ◌++◌, length, refl, sym, ap, subst, ◌∙◌, append_assoc, arith}
use Rattle.std.specs.Prelude.{Option, Some, None}
use Rattle.std.proofs.lemmas.List.{length-append}
use Rattle.lua_tree.specs.Tree as t
use Rattle.lua_tree.specs.Tree.{Bytes, Expr, Exprs, Block}
use Rattle.lua_tree.specs.View.{num_for_of}
use Rattle.lua_meaning.specs.Names.{expr_names, captured_in}
use Rattle.lua_code.specs.Instr as i
use Rattle.lua_code.specs.Scope.{Scope, slot_count, declared, declare_code}
use Rattle.lua_code.specs.Code.{expr_code, exprs_code, block_code, stat_code, unless_ready, ready_slot, slot_place, scope_behind, scope_at_end, numbers_in, count_code, each_code, fitted, count, tailed, site}
use Rattle.lua_assembler.specs.Writing.{Written, code_of, Adds}
use Rattle.lua_assembler.specs.Jumps.{Mends}
use Rattle.lua_compile.specs.Locals.{TakesLocals, TakesBlock}
use Rattle.lua_compile.specs.Loops.{step_code, turn_code}
use Rattle.lua_assembler.proofs.Adding.{both_added, one_in_front, three_added, four_added, adds_as, adds_length}

-- ---- jumps back

-- a jump back over two parts
looped : (jump : ℕ → i.Instr) (body test : List i.Instr) (w0 w1 w2 w3 w4 : Written) → Adds (jump 0 ∷ []) w0 w1 → Adds test w1 w2 → Adds body w2 w3 → Mends jump (length (code_of w0)) w3 w4
    → Adds (body ++ (test ++ jump (length body + length test) ∷ [])) w0 w4
looped jump body test w0 w1 w2 w3 w4 a b c m =
    let all : Adds ((body ++ test) ++ jump 0 ∷ []) w0 w3 = adds_as (body ++ (test ++ jump 0 ∷ [])) ((body ++ test) ++ jump 0 ∷ []) w0 w3 (sym (append_assoc body test (jump 0 ∷ []))) (three_added body test (jump 0 ∷ []) w0 w1 w2 w3 a b c) in
    adds_as ((body ++ test) ++ jump (length (body ++ test)) ∷ []) (body ++ (test ++ jump (length body + length test) ∷ [])) w0 w4
    (append_assoc body test (jump (length (body ++ test)) ∷ []) ∙ ap (λ n. body ++ (test ++ jump n ∷ [])) (length-append body test))
    (m (body ++ test) w0 refl all)

-- the end of a loop's block is so far from the loop's end
behind_test : (x : i.Instr) (test : List i.Instr) (w0 w1 w2 : Written) (n : ℕ) → Adds (x ∷ []) w0 w1 → Adds test w1 w2 → n ≡ length (code_of w2) - length (code_of w0) → n ≡ length test + 1
behind_test x test w0 w1 w2 n a b e =
    let p = adds_length (x ∷ []) w0 w1 a in
    let q = adds_length test w1 w2 b in
    omega (arith, p, q, e)

-- and its block is so long
before_test : (x y : i.Instr) (body test : List i.Instr) (w0 w1 w2 w4 : Written) (n : ℕ) → Adds (x ∷ []) w0 w1 → Adds test w1 w2 → Adds (body ++ (test ++ y ∷ [])) w0 w4 → n ≡ length (code_of w4) - length (code_of w2) → n ≡ length body
before_test x y body test w0 w1 w2 w4 n a b c e =
    let p = adds_length (x ∷ []) w0 w1 a in
    let q = adds_length test w1 w2 b in
    let r = adds_length (body ++ (test ++ y ∷ [])) w0 w4 c in
    let s = length-append body (test ++ y ∷ []) in
    let u = length-append test (y ∷ []) in
    omega (arith, p, q, r, s, u, e)

-- ---- while, repeat

while_added : (line : ℕ) (e : Expr) (b : Block) (file : Bytes) (scope : Scope) (n k : ℕ) (w0 w1 w2 w3 w4 w5 : Written)
    → Adds (i.back_if (slot_place (ready_slot e scope) (slot_count scope)) 0 ∷ []) w0 w1
    → Adds (unless_ready (ready_slot e scope) (expr_code e file scope (slot_count scope) (slot_count scope))) w1 w2
    → n ≡ length (code_of w2) - length (code_of w0)
    → Adds (block_code b [] n file scope) w2 w3
    → Mends (λ count. i.back_if (slot_place (ready_slot e scope) (slot_count scope)) count) (length (code_of w0)) w3 w4
    → k ≡ length (code_of w4) - length (code_of w2)
    → Adds (i.skip k ∷ []) w4 w5
    → Adds (stat_code (t.while_loop line e b) [] 0 file scope) w0 w5
while_added line e b file scope n k w0 w1 w2 w3 w4 w5 a1 a2 en a3 m ek a5 =
    let from : ℕ = slot_place (ready_slot e scope) (slot_count scope) in
    let test : List i.Instr = unless_ready (ready_slot e scope) (expr_code e file scope (slot_count scope) (slot_count scope)) in
    let body : List i.Instr = block_code b [] (length test + 1) file scope in
    let inside : Adds body w2 w3 = subst (λ (m : ℕ). Adds (block_code b [] m file scope) w2 w3) (behind_test (i.back_if from 0) test w0 w1 w2 n a1 a2 en) a3 in
    let all : Adds (body ++ (test ++ i.back_if from (length body + length test) ∷ [])) w0 w4 = looped (λ count. i.back_if from count) body test w0 w1 w2 w3 w4 a1 a2 inside m in
    let over : Adds (i.skip (length body) ∷ []) w4 w5 = subst (λ (m : ℕ). Adds (i.skip m ∷ []) w4 w5) (before_test (i.back_if from 0) (i.back_if from (length body + length test)) body test w0 w1 w2 w4 k a1 a2 all ek) a5 in
    one_in_front (i.skip (length body)) (body ++ (test ++ i.back_if from (length body + length test) ∷ [])) w0 w4 w5 all over

-- a `repeat` whose test has some locals in scope
abbrev repeat_with : Expr → Block → (file : Bytes) → (scope inner : Scope) → List i.Instr
repeat_with e b file scope inner =
    let test : List i.Instr = unless_ready (ready_slot e inner) (expr_code e file inner (slot_count inner) (slot_count inner)) in
    let body : List i.Instr = block_code b (expr_names false e) (length test + 1) file scope in
    i.tick ∷ (body ++ (test ++ i.back_unless (slot_place (ready_slot e inner) (slot_count inner)) (length body + length test) ∷ []))

repeat_added : (line : ℕ) (e : Expr) (b : Block) (file : Bytes) (scope inner outer : Scope) (n : ℕ) (w0 w1 w2 w3 w4 w5 : Written)
    → inner ≡ scope_at_end b (expr_names false e) scope
    → Adds (i.back_unless (slot_place (ready_slot e inner) (slot_count inner)) 0 ∷ []) w0 w1
    → Adds (unless_ready (ready_slot e inner) (expr_code e file inner (slot_count inner) (slot_count inner))) w1 w2
    → n ≡ length (code_of w2) - length (code_of w0)
    → TakesBlock b n file inner outer w2 w3
    → Mends (λ count. i.back_unless (slot_place (ready_slot e inner) (slot_count inner)) count) (length (code_of w0)) w3 w4
    → Adds (i.tick ∷ []) w4 w5
    → Adds (stat_code (t.repeat_loop line b e) [] 0 file scope) w0 w5
repeat_added line e b file scope inner outer n w0 w1 w2 w3 w4 w5 is a1 a2 en tb m a5 =
    let from : ℕ = slot_place (ready_slot e inner) (slot_count inner) in
    let test : List i.Instr = unless_ready (ready_slot e inner) (expr_code e file inner (slot_count inner) (slot_count inner)) in
    let body : List i.Instr = block_code b (expr_names false e) (length test + 1) file scope in
    let inside : Adds body w2 w3 = subst (λ (m : ℕ). Adds (block_code b (expr_names false e) m file scope) w2 w3) (behind_test (i.back_unless from 0) test w0 w1 w2 n a1 a2 en) (tb (expr_names false e) scope is).1 in
    let all : Adds (body ++ (test ++ i.back_unless from (length body + length test) ∷ [])) w0 w4 = looped (λ count. i.back_unless from count) body test w0 w1 w2 w3 w4 a1 a2 inside m in
    subst (λ (sc : Scope). Adds (repeat_with e b file scope sc) w0 w5) is
    (one_in_front i.tick (body ++ (test ++ i.back_unless from (length body + length test) ∷ [])) w0 w4 w5 all a5)

-- the jump back of a `repeat` is there when its block is
repeat_long : (e : Expr) (b : Block) (file : Bytes) (scope inner outer : Scope) (n : ℕ) (x : i.Instr) (test : List i.Instr) (w0 w1 w2 w3 : Written)
    → inner ≡ scope_at_end b (expr_names false e) scope → Adds (x ∷ []) w0 w1 → Adds test w1 w2 → TakesBlock b n file inner outer w2 w3 → suc (length (code_of w0)) ≤ length (code_of w3)
repeat_long e b file scope inner outer n x test w0 w1 w2 w3 is a1 a2 tb =
    let p = adds_length (x ∷ []) w0 w1 a1 in
    let q = adds_length test w1 w2 a2 in
    let r = adds_length (block_code b (expr_names false e) n file scope) w2 w3 (tb (expr_names false e) scope is).1 in
    omega (arith, p, q, r)

-- the jump back of another loop
loop_long : (x : i.Instr) (body test : List i.Instr) (w0 w1 w2 w3 : Written) → Adds (x ∷ []) w0 w1 → Adds test w1 w2 → Adds body w2 w3 → suc (length (code_of w0)) ≤ length (code_of w3)
loop_long x body test w0 w1 w2 w3 a1 a2 a3 =
    let p = adds_length (x ∷ []) w0 w1 a1 in
    let q = adds_length test w1 w2 a2 in
    let r = adds_length body w2 w3 a3 in
    omega (arith, p, q, r)

turn_long : (x : i.Instr) (turn : List i.Instr) (w0 w1 w2 : Written) → Adds (x ∷ []) w0 w1 → Adds turn w1 w2 → suc (length (code_of w0)) ≤ length (code_of w2)
turn_long x turn w0 w1 w2 a1 a2 =
    let p = adds_length (x ∷ []) w0 w1 a1 in
    let q = adds_length turn w1 w2 a2 in
    omega (arith, p, q)

-- ---- numeric loops

turn_added : (names : List Bytes) (b : Block) (exit : ℕ) (file : Bytes) (scope inner after left out : Scope) (w0 w1 w2 : Written)
    → inner ≡ declared names (captured_in b) (numbers_in scope)
    → Adds (block_code b [] exit file inner) w0 w1 → after ≡ inner
    → TakesLocals (length names) after left w1 w2
    → ((outer : Scope) → left ≡ numbers_in outer → out ≡ outer)
    → (out ≡ scope) × Adds (turn_code names b exit file scope) w0 w2
turn_added names b exit file scope inner after left out w0 w1 w2 is a1 same tl leave =
    let taken = tl names (captured_in b) (numbers_in scope) refl (same ∙ is) in (
      leave scope taken.0,
      both_added (declare_code names (captured_in b) (numbers_in scope)) (block_code b [] exit file (declared names (captured_in b) (numbers_in scope))) w0 w1 w2
          (subst (λ (sc : Scope). Adds (block_code b [] exit file sc) w0 w1) is a1) taken.1,
    )

count_added : (s : i.Site) (h k : ℕ) (turn : List i.Instr) (w0 w1 w2 w3 w4 : Written)
    → Adds (i.for_next h 0 ∷ []) w0 w1 → Adds turn w1 w2 → Mends (λ count. i.for_next h count) (length (code_of w0)) w2 w3
    → k ≡ length (code_of w3) - length (code_of w0) → Adds (i.for_begin s h k ∷ []) w3 w4
    → Adds (count_code s h turn) w0 w4
count_added s h k turn w0 w1 w2 w3 w4 a1 a2 m ek a4 =
    let all : Adds (turn ++ i.for_next h (length turn) ∷ []) w0 w3 = m turn w0 refl (both_added turn (i.for_next h 0 ∷ []) w0 w1 w2 a1 a2) in
    let p = adds_length (turn ++ i.for_next h (length turn) ∷ []) w0 w3 all in
    let q = length-append turn (i.for_next h (length turn) ∷ []) in
    let is : k ≡ length turn + 1 = omega (arith, p, q, ek) in
    one_in_front (i.for_begin s h (length turn + 1)) (turn ++ i.for_next h (length turn) ∷ []) w0 w3 w4 all
    (subst (λ (n : ℕ). Adds (i.for_begin s h n ∷ []) w3 w4) is a4)

-- three numbers in front of a loop
abbrev numbers_code : Bytes → Expr → Expr → Option Expr → Block → (line : ℕ) → (file : Bytes) → Scope → (second third : ℕ) → List i.Instr
numbers_code x a b c body line file scope second third =
    expr_code a file scope (slot_count scope) (slot_count scope)
    ++ (expr_code b file scope second second
    ++ (step_code c file scope third
    ++ count_code (site line (slot_count scope + 3) scope) (slot_count scope) (turn_code (x ∷ []) body 1 file scope)))

numbers_seen : (x : Bytes) (a b : Expr) (c : Option Expr) (body : Block) (line : ℕ) (file : Bytes) (scope : Scope) → numbers_code x a b c body line file scope (slot_count scope + 1) (slot_count scope + 2) ≡ stat_code (num_for_of x a b c body line) [] 0 file scope
numbers_seen x a b None body line file scope = refl
numbers_seen x a b (Some c) body line file scope = refl

numeric_added : (x : Bytes) (a b : Expr) (c : Option Expr) (body : Block) (line : ℕ) (file : Bytes) (scope : Scope) (second third : ℕ) (w0 w1 w2 w3 w4 : Written)
    → second ≡ suc (slot_count scope) → third ≡ suc second
    → Adds (count_code (site line (slot_count scope + 3) scope) (slot_count scope) (turn_code (x ∷ []) body 1 file scope)) w0 w1
    → Adds (step_code c file scope third) w1 w2
    → Adds (expr_code b file scope second second) w2 w3
    → Adds (expr_code a file scope (slot_count scope) (slot_count scope)) w3 w4
    → Adds (stat_code (num_for_of x a b c body line) [] 0 file scope) w0 w4
numeric_added x a b c body line file scope second third w0 w1 w2 w3 w4 e2 e3 a1 a2 a3 a4 =
    let s2 : second ≡ slot_count scope + 1 = omega (arith, e2) in
    let s3 : third ≡ slot_count scope + 2 = omega (arith, e2, e3) in
    adds_as (numbers_code x a b c body line file scope second third) (stat_code (num_for_of x a b c body line) [] 0 file scope) w0 w4
    (ap (λ n. numbers_code x a b c body line file scope n third) s2 ∙ ap (λ n. numbers_code x a b c body line file scope (slot_count scope + 1) n) s3 ∙ numbers_seen x a b c body line file scope)
    (four_added (expr_code a file scope (slot_count scope) (slot_count scope)) (expr_code b file scope second second) (step_code c file scope third) (count_code (site line (slot_count scope + 3) scope) (slot_count scope) (turn_code (x ∷ []) body 1 file scope)) w0 w1 w2 w3 w4 a1 a2 a3 a4)

-- ---- generic loops

generic_added : (line : ℕ) (xs : List Bytes) (es : Exprs) (body : Block) (file : Bytes) (scope : Scope) (n k names : ℕ) (w0 w1 w2 w3 w4 w5 w6 w7 : Written)
    → names ≡ length xs
    → Adds (i.each_next (slot_count scope) 0 ∷ []) w0 w1
    → Adds (each_code (site line (slot_count scope + 3) scope) (slot_count scope) names) w1 w2
    → n ≡ length (code_of w2) - length (code_of w0)
    → Adds (turn_code xs body n file scope) w2 w3
    → Mends (λ count. i.each_next (slot_count scope) count) (length (code_of w0)) w3 w4
    → k ≡ length (code_of w4) - length (code_of w2)
    → Adds (i.skip k ∷ []) w4 w5
    → Adds (fitted (slot_count scope) 3 (count es) (tailed es)) w5 w6
    → Adds (exprs_code es file scope (slot_count scope)) w6 w7
    → Adds (stat_code (t.gen_for line xs es body) [] 0 file scope) w0 w7
generic_added line xs es body file scope n k names w0 w1 w2 w3 w4 w5 w6 w7 ex a1 a2 en a3 m ek a5 a6 a7 =
    let h : ℕ = slot_count scope in
    let control : List i.Instr = each_code (site line (h + 3) scope) h (length xs) in
    let turn : List i.Instr = turn_code xs body (length control + 1) file scope in
    let called : Adds control w1 w2 = subst (λ (m : ℕ). Adds (each_code (site line (h + 3) scope) h m) w1 w2) ex a2 in
    let inside : Adds turn w2 w3 = subst (λ (m : ℕ). Adds (turn_code xs body m file scope) w2 w3) (behind_test (i.each_next h 0) control w0 w1 w2 n a1 called en) a3 in
    let all : Adds (turn ++ (control ++ i.each_next h (length turn + length control) ∷ [])) w0 w4 = looped (λ count. i.each_next h count) turn control w0 w1 w2 w3 w4 a1 called inside m in
    let over : Adds (i.skip (length turn) ∷ []) w4 w5 = subst (λ (m : ℕ). Adds (i.skip m ∷ []) w4 w5) (before_test (i.each_next h 0) (i.each_next h (length turn + length control)) turn control w0 w1 w2 w4 k a1 called all ek) a5 in
    three_added (exprs_code es file scope h) (fitted h 3 (count es) (tailed es)) (i.skip (length turn) ∷ (turn ++ (control ++ i.each_next h (length turn + length control) ∷ []))) w0 w5 w6 w7
    (one_in_front (i.skip (length turn)) (turn ++ (control ++ i.each_next h (length turn + length control) ∷ [])) w0 w4 w5 all over) a6 a7

-- ---- the same, as the functions have it

pub while_put : (line : ℕ) (e : Expr) (b : Block) (file : Bytes) (scope : Scope) (h from end head n k : ℕ) (w0 w1 w2 w3 w4 w5 : Written)
    → h ≡ slot_count scope → from ≡ slot_place (ready_slot e scope) h → end ≡ length (code_of w0) → head ≡ length (code_of w2)
    → Adds (i.back_if from 0 ∷ []) w0 w1
    → Adds (unless_ready (ready_slot e scope) (expr_code e file scope h h)) w1 w2
    → n ≡ length (code_of w2) - end
    → Adds (block_code b [] n file scope) w2 w3
    → Mends (λ count. i.back_if from count) end w3 w4
    → k ≡ length (code_of w4) - head
    → Adds (i.skip k ∷ []) w4 w5
    → Adds (stat_code (t.while_loop line e b) [] 0 file scope) w0 w5
while_put line e b file scope h from end head n k w0 w1 w2 w3 w4 w5 eh ef ee ed a1 a2 en a3 m ek a5 =
    let slot_is : from ≡ slot_place (ready_slot e scope) (slot_count scope) = ef ∙ ap (λ x. slot_place (ready_slot e scope) x) eh in
    while_added line e b file scope n k w0 w1 w2 w3 w4 w5
    (subst (λ (x : ℕ). Adds (i.back_if x 0 ∷ []) w0 w1) slot_is a1)
    (subst (λ (x : ℕ). Adds (unless_ready (ready_slot e scope) (expr_code e file scope x x)) w1 w2) eh a2)
    (omega (arith, en, ee))
    a3
    (subst (λ (x : ℕ). Mends (λ count. i.back_if (slot_place (ready_slot e scope) (slot_count scope)) count) x w3 w4) ee
    (subst (λ (x : ℕ). Mends (λ count. i.back_if x count) end w3 w4) slot_is m))
    (omega (arith, ek, ed))
    a5

pub while_long : (from end n : ℕ) (test : List i.Instr) (b : Block) (file : Bytes) (scope : Scope) (w0 w1 w2 w3 : Written)
    → end ≡ length (code_of w0) → Adds (i.back_if from 0 ∷ []) w0 w1 → Adds test w1 w2 → Adds (block_code b [] n file scope) w2 w3 → suc end ≤ length (code_of w3)
while_long from end n test b file scope w0 w1 w2 w3 ee a1 a2 a3 =
    let l = loop_long (i.back_if from 0) (block_code b [] n file scope) test w0 w1 w2 w3 a1 a2 a3 in omega (arith, l, ee)

pub repeat_put : (line : ℕ) (e : Expr) (b : Block) (file : Bytes) (scope inner outer : Scope) (h from end n : ℕ) (w0 w1 w2 w3 w4 w5 : Written)
    → inner ≡ scope_at_end b (expr_names false e) scope
    → h ≡ slot_count inner → from ≡ slot_place (ready_slot e inner) h → end ≡ length (code_of w0)
    → Adds (i.back_unless from 0 ∷ []) w0 w1
    → Adds (unless_ready (ready_slot e inner) (expr_code e file inner h h)) w1 w2
    → n ≡ length (code_of w2) - end
    → TakesBlock b n file inner outer w2 w3
    → Mends (λ count. i.back_unless from count) end w3 w4
    → Adds (i.tick ∷ []) w4 w5
    → Adds (stat_code (t.repeat_loop line b e) [] 0 file scope) w0 w5
repeat_put line e b file scope inner outer h from end n w0 w1 w2 w3 w4 w5 is eh ef ee a1 a2 en tb m a5 =
    let slot_is : from ≡ slot_place (ready_slot e inner) (slot_count inner) = ef ∙ ap (λ x. slot_place (ready_slot e inner) x) eh in
    repeat_added line e b file scope inner outer n w0 w1 w2 w3 w4 w5 is
    (subst (λ (x : ℕ). Adds (i.back_unless x 0 ∷ []) w0 w1) slot_is a1)
    (subst (λ (x : ℕ). Adds (unless_ready (ready_slot e inner) (expr_code e file inner x x)) w1 w2) eh a2)
    (omega (arith, en, ee))
    tb
    (subst (λ (x : ℕ). Mends (λ count. i.back_unless (slot_place (ready_slot e inner) (slot_count inner)) count) x w3 w4) ee
    (subst (λ (x : ℕ). Mends (λ count. i.back_unless x count) end w3 w4) slot_is m))
    a5

pub repeat_leaves : (e : Expr) (b : Block) (file : Bytes) (scope inner outer : Scope) (n : ℕ) (old new : Written)
    → inner ≡ scope_at_end b (expr_names false e) scope → TakesBlock b n file inner outer old new → outer ≡ scope
repeat_leaves e b file scope inner outer n old new is tb = (tb (expr_names false e) scope is).0

pub repeat_mends : (e : Expr) (b : Block) (file : Bytes) (scope inner outer : Scope) (from end n : ℕ) (test : List i.Instr) (w0 w1 w2 w3 : Written)
    → inner ≡ scope_at_end b (expr_names false e) scope → end ≡ length (code_of w0)
    → Adds (i.back_unless from 0 ∷ []) w0 w1 → Adds test w1 w2 → TakesBlock b n file inner outer w2 w3 → suc end ≤ length (code_of w3)
repeat_mends e b file scope inner outer from end n test w0 w1 w2 w3 is ee a1 a2 tb =
    let l = repeat_long e b file scope inner outer n (i.back_unless from 0) test w0 w1 w2 w3 is a1 a2 tb in omega (arith, l, ee)

pub turn_put : (names : List Bytes) (b : Block) (exit count : ℕ) (file : Bytes) (scope inner after left out : Scope) (w0 w1 w2 : Written)
    → inner ≡ declared names (captured_in b) (numbers_in scope)
    → Adds (block_code b [] exit file inner) w0 w1 → after ≡ inner
    → count ≡ length names → TakesLocals count after left w1 w2
    → ((outer : Scope) → left ≡ numbers_in outer → out ≡ outer)
    → (out ≡ scope) × Adds (turn_code names b exit file scope) w0 w2
turn_put names b exit count file scope inner after left out w0 w1 w2 is a1 same ec tl leave =
    turn_added names b exit file scope inner after left out w0 w1 w2 is a1 same (subst (λ (n : ℕ). TakesLocals n after left w1 w2) ec tl) leave

pub count_put : (line : ℕ) (scope : Scope) (s : i.Site) (h third end k : ℕ) (turn : List i.Instr) (w0 w1 w2 w3 w4 : Written)
    → h ≡ slot_count scope → third ≡ h + 3 → s ≡ site line third scope → end ≡ length (code_of w0)
    → Adds (i.for_next h 0 ∷ []) w0 w1 → Adds turn w1 w2 → Mends (λ count. i.for_next h count) end w2 w3
    → k ≡ length (code_of w3) - end → Adds (i.for_begin s h k ∷ []) w3 w4
    → Adds (count_code (site line (slot_count scope + 3) scope) (slot_count scope) turn) w0 w4
count_put line scope s h third end k turn w0 w1 w2 w3 w4 eh et es ee a1 a2 m ek a4 =
    let site_is : s ≡ site line (slot_count scope + 3) scope = es ∙ ap (λ n. site line n scope) (et ∙ ap (λ n. n + 3) eh) in
    subst (λ (n : ℕ). Adds (count_code (site line (slot_count scope + 3) scope) n turn) w0 w4) eh
    (subst (λ (x : i.Site). Adds (count_code x h turn) w0 w4) site_is
    (count_added s h k turn w0 w1 w2 w3 w4 a1 a2 (subst (λ (x : ℕ). Mends (λ count. i.for_next h count) x w2 w3) ee m) (omega (arith, ek, ee)) a4))

pub count_mends : (h end : ℕ) (turn : List i.Instr) (w0 w1 w2 : Written) → end ≡ length (code_of w0) → Adds (i.for_next h 0 ∷ []) w0 w1 → Adds turn w1 w2 → suc end ≤ length (code_of w2)
count_mends h end turn w0 w1 w2 ee a1 a2 = let l = turn_long (i.for_next h 0) turn w0 w1 w2 a1 a2 in omega (arith, l, ee)

pub numeric_put : (x : Bytes) (a b : Expr) (c : Option Expr) (body : Block) (line : ℕ) (file : Bytes) (scope behind : Scope) (h second third : ℕ) (w0 w1 w2 w3 w4 : Written)
    → h ≡ slot_count scope → second ≡ suc h → third ≡ suc second → behind ≡ scope
    → Adds (count_code (site line (slot_count scope + 3) scope) (slot_count scope) (turn_code (x ∷ []) body 1 file scope)) w0 w1
    → Adds (step_code c file behind third) w1 w2
    → Adds (expr_code b file behind second second) w2 w3
    → Adds (expr_code a file behind h h) w3 w4
    → Adds (stat_code (num_for_of x a b c body line) [] 0 file scope) w0 w4
numeric_put x a b c body line file scope behind h second third w0 w1 w2 w3 w4 eh e2 e3 es a1 a2 a3 a4 =
    numeric_added x a b c body line file scope second third w0 w1 w2 w3 w4 (omega (arith, e2, eh)) e3 a1
    (subst (λ (sc : Scope). Adds (step_code c file sc third) w1 w2) es a2)
    (subst (λ (sc : Scope). Adds (expr_code b file sc second second) w2 w3) es a3)
    (subst (λ (n : ℕ). Adds (expr_code a file scope n n) w3 w4) eh (subst (λ (sc : Scope). Adds (expr_code a file sc h h) w3 w4) es a4))

pub generic_put : (line : ℕ) (xs : List Bytes) (es : Exprs) (body : Block) (file : Bytes) (scope behind : Scope) (s : i.Site) (h third end head n k names given : ℕ) (many : Bool) (w0 w1 w2 w3 w4 w5 w6 w7 : Written)
    → h ≡ slot_count scope → third ≡ h + 3 → s ≡ site line third scope → end ≡ length (code_of w0) → head ≡ length (code_of w2)
    → names ≡ length xs → given ≡ count es → many ≡ tailed es → behind ≡ scope
    → Adds (i.each_next h 0 ∷ []) w0 w1
    → Adds (each_code s h names) w1 w2
    → n ≡ length (code_of w2) - end
    → Adds (turn_code xs body n file scope) w2 w3
    → Mends (λ count. i.each_next h count) end w3 w4
    → k ≡ length (code_of w4) - head
    → Adds (i.skip k ∷ []) w4 w5
    → Adds (fitted h 3 given many) w5 w6
    → Adds (exprs_code es file behind h) w6 w7
    → Adds (stat_code (t.gen_for line xs es body) [] 0 file scope) w0 w7
generic_put line xs es body file scope behind s h third end head n k names given many w0 w1 w2 w3 w4 w5 w6 w7 eh et esite ee ed ex eg em eb a1 a2 en a3 m ek a5 a6 a7 =
    let site_is : s ≡ site line (slot_count scope + 3) scope = esite ∙ ap (λ n. site line n scope) (et ∙ ap (λ n. n + 3) eh) in
    generic_added line xs es body file scope n k names w0 w1 w2 w3 w4 w5 w6 w7 ex
    (subst (λ (x : ℕ). Adds (i.each_next x 0 ∷ []) w0 w1) eh a1)
    (subst (λ (x : ℕ). Adds (each_code (site line (slot_count scope + 3) scope) x names) w1 w2) eh (subst (λ (x : i.Site). Adds (each_code x h names) w1 w2) site_is a2))
    (omega (arith, en, ee))
    a3
    (subst (λ (x : ℕ). Mends (λ count. i.each_next x count) (length (code_of w0)) w3 w4) eh (subst (λ (x : ℕ). Mends (λ count. i.each_next h count) x w3 w4) ee m))
    (omega (arith, ek, ed))
    a5
    (subst (λ (x : ℕ). Adds (fitted x 3 (count es) (tailed es)) w5 w6) eh (subst (λ (b : Bool). Adds (fitted h 3 (count es) b) w5 w6) em (subst (λ (x : ℕ). Adds (fitted h 3 x many) w5 w6) eg a6)))
    (subst (λ (x : ℕ). Adds (exprs_code es file scope x) w6 w7) eh (subst (λ (sc : Scope). Adds (exprs_code es file sc h) w6 w7) eb a7))

-- the control of a generic loop, from slots that are reckoned one by one
abbrev each_with : i.Site → (at state variable call first second count : ℕ) → List i.Instr
each_with s at state variable call first second count =
    i.load call (i.slot at) ∷ i.load first (i.slot state) ∷ i.load second (i.slot variable)
    ∷ i.invoke s i.to_tail call 2 false ∷ i.spread call count true ∷ []

each_as : (s : i.Site) (at names state variable call first second count : ℕ)
    → state ≡ at + 1 → variable ≡ at + 2 → call ≡ at + 3 → first ≡ at + 4 → second ≡ at + 5 → count ≡ max 1 names
    → each_with s at state variable call first second count ≡ each_code s at names
each_as s at names state variable call first second count e1 e2 e3 e4 e5 en =
    ap (λ x. each_with s at x variable call first second count) e1
    ∙ ap (λ x. each_with s at (at + 1) x call first second count) e2
    ∙ ap (λ x. each_with s at (at + 1) (at + 2) x first second count) e3
    ∙ ap (λ x. each_with s at (at + 1) (at + 2) (at + 3) x second count) e4
    ∙ ap (λ x. each_with s at (at + 1) (at + 2) (at + 3) (at + 4) x count) e5
    ∙ ap (λ x. each_with s at (at + 1) (at + 2) (at + 3) (at + 4) (at + 5) x) en

pub each_put : (s : i.Site) (at names state variable call first second number : ℕ) (w0 w1 w2 w3 w4 w5 : Written)
    → state ≡ suc at → variable ≡ suc state → call ≡ suc variable → first ≡ suc call → second ≡ suc first → number ≡ max 1 names
    → Adds (i.spread call number true ∷ []) w0 w1
    → Adds (i.invoke s i.to_tail call 2 false ∷ []) w1 w2
    → Adds (i.load second (i.slot variable) ∷ []) w2 w3
    → Adds (i.load first (i.slot state) ∷ []) w3 w4
    → Adds (i.load call (i.slot at) ∷ []) w4 w5
    → Adds (each_code s at names) w0 w5
each_put s at names state variable call first second number w0 w1 w2 w3 w4 w5 e1 e2 e3 e4 e5 en a1 a2 a3 a4 a5 =
    let two : List i.Instr = i.invoke s i.to_tail call 2 false ∷ i.spread call number true ∷ [] in
    let three : List i.Instr = i.load second (i.slot variable) ∷ two in
    let four : List i.Instr = i.load first (i.slot state) ∷ three in
    adds_as (each_with s at state variable call first second number) (each_code s at names) w0 w5
    (each_as s at names state variable call first second number (omega (arith, e1)) (omega (arith, e1, e2)) (omega (arith, e1, e2, e3)) (omega (arith, e1, e2, e3, e4)) (omega (arith, e1, e2, e3, e4, e5)) en)
    (one_in_front (i.load call (i.slot at)) four w0 w4 w5
    (one_in_front (i.load first (i.slot state)) three w0 w3 w4
    (one_in_front (i.load second (i.slot variable)) two w0 w2 w3
    (one_in_front (i.invoke s i.to_tail call 2 false) (i.spread call number true ∷ []) w0 w1 w2 a1 a2) a3) a4) a5)

pub generic_mends : (s : i.Site) (h end names n : ℕ) (xs : List Bytes) (b : Block) (file : Bytes) (scope : Scope) (w0 w1 w2 w3 : Written) → end ≡ length (code_of w0)
    → Adds (i.each_next h 0 ∷ []) w0 w1 → Adds (each_code s h names) w1 w2 → Adds (turn_code xs b n file scope) w2 w3 → suc end ≤ length (code_of w3)
generic_mends s h end names n xs b file scope w0 w1 w2 w3 ee a1 a2 a3 =
    let l = loop_long (i.each_next h 0) (turn_code xs b n file scope) (each_code s h names) w0 w1 w2 w3 a1 a2 a3 in omega (arith, l, ee)

-- a numeric loop needs no names and no exit, whatever its step is

pub numeric_scope : (x : Bytes) (a b : Expr) (c : Option Expr) (body : Block) (line : ℕ) (later : List Bytes) (scope : Scope) → scope_behind (num_for_of x a b c body line) later scope ≡ scope
numeric_scope x a b None body line later scope = refl
numeric_scope x a b (Some c) body line later scope = refl

pub numeric_same : (x : Bytes) (a b : Expr) (c : Option Expr) (body : Block) (line exit : ℕ) (file : Bytes) (later : List Bytes) (scope : Scope) → stat_code (num_for_of x a b c body line) [] exit file scope ≡ stat_code (num_for_of x a b c body line) later exit file scope
numeric_same x a b None body line exit file later scope = refl
numeric_same x a b (Some c) body line exit file later scope = refl

pub numeric_exit : (x : Bytes) (a b : Expr) (c : Option Expr) (body : Block) (line exit : ℕ) (file : Bytes) (scope : Scope) (old new : Written) → Adds (stat_code (num_for_of x a b c body line) [] 0 file scope) old new → Adds (stat_code (num_for_of x a b c body line) [] exit file scope) old new
numeric_exit x a b None body line exit file scope old new h = h
numeric_exit x a b (Some c) body line exit file scope old new h = h
