-- Arms of an `if`.
use Rattle.std.proofs.Common.{◌≡◌, ℕ, suc, ◌+◌, ◌-◌, ◌<◌, List, [], ◌∷◌, ◌++◌, length, drop, map, get_or, refl, sym, ap, subst, ◌∙◌, arith}
use Rattle.std.proofs.lemmas.List.{length-append}
use Rattle.lua_tree.specs.Tree as t
use Rattle.lua_tree.specs.Tree.{Bytes, Expr, Block, Arms}
use Rattle.lua_tree.specs.declared.tree.Arm.{Arm}
use Rattle.lua_tree.specs.View.{arm_view, arms_of}
use Rattle.lua_code.specs.Instr as i
use Rattle.lua_code.specs.Scope.{Scope, slot_count}
use Rattle.lua_code.specs.Code.{expr_code, block_code, arms_code, unless_ready, ready_slot, slot_place, skip_over}
use Rattle.lua_compile.specs.Arms.{AddsArm}
use Rattle.lua_assembler.specs.Jumps.{Fronts}
use Rattle.lua_assembler.specs.Writing.{Written, code_of, Adds}
use Rattle.lua_assembler.proofs.Adding.{both_added, one_in_front, adds_length}
use Rattle.lua_compile.proofs.Scoping.{here_on}

-- an arm's code in front of that of the others
abbrev arm_front : Expr → Block → (exit : ℕ) → (file : Bytes) → Scope → (rest : List i.Instr) → List i.Instr
arm_front e b exit file scope rest =
    let h : ℕ = slot_count scope in
    let over : List i.Instr = skip_over rest in
    let body : List i.Instr = block_code b [] (length over + (length rest + exit)) file scope in
    unless_ready (ready_slot e scope) (expr_code e file scope h h)
    ++ i.skip_unless (slot_place (ready_slot e scope) h) (length body + length over)
    ∷ (body ++ (over ++ rest))

arm_in_front : (e : Expr) (b : Block) (exit : ℕ) (file : Bytes) (scope : Scope) (end n m k : ℕ) (w0 w1 w2 w3 w4 : Written)
    → Fronts (λ rest. skip_over rest ++ rest) end w0 w1
    → n ≡ length (code_of w1) - end → m ≡ n + exit
    → Adds (block_code b [] m file scope) w1 w2
    → k ≡ length (code_of w2) - length (code_of w0)
    → Adds (i.skip_unless (slot_place (ready_slot e scope) (slot_count scope)) k ∷ []) w2 w3
    → Adds (unless_ready (ready_slot e scope) (expr_code e file scope (slot_count scope) (slot_count scope))) w3 w4
    → Fronts (arm_front e b exit file scope) end w0 w4
arm_in_front e b exit file scope end n m k w0 w1 w2 w3 w4 f en em a2 ek a3 a4 rest before eb ar =
    let h : ℕ = slot_count scope in
    let from : ℕ = slot_place (ready_slot e scope) h in
    let over : List i.Instr = skip_over rest in
    let body : List i.Instr = block_code b [] (length over + (length rest + exit)) file scope in
    let behind : Adds (over ++ rest) before w1 = f rest before eb ar in
    let p = adds_length rest before w0 ar in
    let q = adds_length (over ++ rest) before w1 behind in
    let r = length-append over rest in
    let out : m ≡ length over + (length rest + exit) = omega (arith, en, em, eb, q, r) in
    let inside : Adds body w1 w2 = subst (λ (j : ℕ). Adds (block_code b [] j file scope) w1 w2) out a2 in
    let s = adds_length body w1 w2 inside in
    let past : k ≡ length body + length over = omega (arith, ek, eb, p, q, r, s) in
    let jump : Adds (i.skip_unless from (length body + length over) ∷ []) w2 w3 = subst (λ (j : ℕ). Adds (i.skip_unless from j ∷ []) w2 w3) past a3 in
    both_added (unless_ready (ready_slot e scope) (expr_code e file scope h h)) (i.skip_unless from (length body + length over) ∷ (body ++ (over ++ rest))) before w3 w4
    (one_in_front (i.skip_unless from (length body + length over)) (body ++ (over ++ rest)) before w2 w3 (both_added body (over ++ rest) before w1 w2 behind inside) jump)
    a4

arm_added : (arm : Arms → Arms) (e : Expr) (b : Block) (exit : ℕ) (file : Bytes) (scope : Scope) (end n m k : ℕ) (w0 w1 w2 w3 w4 : Written)
    → arm ≡ (λ (rest : Arms). t.arm_and e b rest)
    → Fronts (λ rest. skip_over rest ++ rest) end w0 w1
    → n ≡ length (code_of w1) - end → m ≡ n + exit
    → Adds (block_code b [] m file scope) w1 w2
    → k ≡ length (code_of w2) - length (code_of w0)
    → Adds (i.skip_unless (slot_place (ready_slot e scope) (slot_count scope)) k ∷ []) w2 w3
    → Adds (unless_ready (ready_slot e scope) (expr_code e file scope (slot_count scope) (slot_count scope))) w3 w4
    → AddsArm arm exit file scope end w0 w4
arm_added arm e b exit file scope end n m k w0 w1 w2 w3 w4 is f en em a2 ek a3 a4 rest before eb ar =
    subst (λ (a : Arms → Arms). Adds (arms_code (a rest) exit file scope) before w4) (sym is)
    (arm_in_front e b exit file scope end n m k w0 w1 w2 w3 w4 f en em a2 ek a3 a4 (arms_code rest exit file scope) before eb ar)

pub no_arms : (arms : List Arm) (last : Arms) → arms_of (map arm_view (drop (length arms) arms)) last ≡ last
no_arms [] last = refl
no_arms (a ∷ arms) last = no_arms arms last

pub arms_step : (arms : List Arm) (at : ℕ) (a : Arm) (last : Arms) (exit : ℕ) (file : Bytes) (scope : Scope) (end : ℕ) (w0 w1 w2 : Written) → at < length arms → a ≡ get_or arms at a
    → end ≡ length (code_of w0)
    → Adds (arms_code (arms_of (map arm_view (drop (suc at) arms)) last) exit file scope) w0 w1
    → AddsArm (arm_view a) exit file scope end w1 w2
    → Adds (arms_code (arms_of (map arm_view (drop at arms)) last) exit file scope) w0 w2
arms_step arms at a last exit file scope end w0 w1 w2 l g e x f =
    subst (λ (ys : List Arm). Adds (arms_code (arms_of (map arm_view ys) last) exit file scope) w0 w2) (sym (here_on arms at a l g))
    (f (arms_of (map arm_view (drop (suc at) arms)) last) w0 (sym e) x)

pub arm_put : (arm : Arms → Arms) (e : Expr) (b : Block) (exit : ℕ) (file : Bytes) (scope inner : Scope) (h from end rest n m k : ℕ) (w0 w1 w2 w3 w4 : Written)
    → arm ≡ (λ (rest : Arms). t.arm_and e b rest)
    → h ≡ slot_count scope → inner ≡ scope → from ≡ slot_place (ready_slot e inner) h → rest ≡ length (code_of w0)
    → Fronts (λ rest. skip_over rest ++ rest) end w0 w1
    → n ≡ length (code_of w1) - end → m ≡ n + exit
    → Adds (block_code b [] m file scope) w1 w2
    → k ≡ length (code_of w2) - rest
    → Adds (i.skip_unless from k ∷ []) w2 w3
    → Adds (unless_ready (ready_slot e inner) (expr_code e file inner h h)) w3 w4
    → AddsArm arm exit file scope end w0 w4
arm_put arm e b exit file scope inner h from end rest n m k w0 w1 w2 w3 w4 is eh ei ef er f en em a2 ek a3 a4 =
    let slot_is : from ≡ slot_place (ready_slot e scope) (slot_count scope) = ef ∙ ap (λ x. slot_place (ready_slot e inner) x) eh ∙ ap (λ (sc : Scope). slot_place (ready_slot e sc) (slot_count scope)) ei in
    arm_added arm e b exit file scope end n m k w0 w1 w2 w3 w4 is f en em a2 (omega (arith, ek, er))
    (subst (λ (x : ℕ). Adds (i.skip_unless x k ∷ []) w2 w3) slot_is a3)
    (subst (λ (x : ℕ). Adds (unless_ready (ready_slot e scope) (expr_code e file scope x x)) w3 w4) eh
    (subst (λ (sc : Scope). Adds (unless_ready (ready_slot e sc) (expr_code e file sc h h)) w3 w4) ei a4))
