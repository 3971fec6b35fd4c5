-- The next instruction is that of the definitions.
use Rattle.std.proofs.Common.{◌≡◌, ℕ, zero, suc, ◌+◌, List, [], ◌∷◌, ◌++◌, length, take, refl, sym, ap, ◌∙◌, subst, Option, Some, slice_get, arith}
use Rattle.std.specs.Prelude.{Result, Ok, Err, IfOk}
use Rattle.std.proofs.lemmas.Option.{none-some, same_Some}
use Rattle.std.proofs.lemmas.List.{append-nil, append_assoc, length-append}
use Rattle.lua_machine.specs.Past.{Past}
use Rattle.lua_code.specs.Instr as i
use Rattle.lua_code.specs.Instr.{instrs_of, list_of}
use Rattle.lua_code.specs.declared.constant.Constant.{Constant}
use Rattle.lua_code.specs.declared.instr.Instr.{Instr}
use Rattle.lua_code.specs.declared.instr.Site.{Site}
use Rattle.lua_code.specs.View.{ProtoView, Inner, inner_at, site_view, instr_view, instrs_view, body_view, proto_view, inner_view, inners_behind, inners, code_at}
use Rattle.lua_code.specs.Natives.{Program}
use Rattle.lua_code.specs.Act as act
use Rattle.lua_machine.specs.View.{EngineView, protos_at, no_proto, code_of, run_of, frames_of, registers_of, state_of, config_of}
use Rattle.lua_machine.specs.declared.status.Status.{Status}
use Rattle.lua_machine.specs.Ready.{IsReady, IsReadyFor}
use Rattle.lua_machine.specs.Runs.{Steps}
use Rattle.lua_machine.specs.Does.{site_or, made_before, instr_of, step_at, Takes}
use Rattle.lua_machine.proofs.Keeping.{get_in, sound_here}

-- ---- a function among those of its chunk

-- the functions behind some begin with these
inners_more : (ps : List ProtoView) (made : List Inner) → (more : List Inner) × (inners_behind made ps ≡ made ++ more)
inners_more [] made = ([], sym (append-nil made))
inners_more (p ∷ ps) made =
    let rest = inners_more ps (made ++ inner_view made p ∷ []) in
    (inner_view made p ∷ rest.0, rest.1 ∙ append_assoc made (inner_view made p ∷ []) rest.0)

at_last : (made more : List Inner) (x : Inner) → inner_at (made ++ x ∷ more) (length made) ≡ x
at_last [] more x = refl
at_last (y ∷ made) more x = at_last made more x

taken : (made more : List Inner) → take (length made) (made ++ more) ≡ made
taken [] more = refl
taken (x ∷ made) more = ap (λ ys. x ∷ ys) (taken made more)

-- the function of a number is made among those before it
inner_is : (ps : List ProtoView) (made : List Inner) (n : ℕ) (p : ProtoView) → slice_get ps n ≡ Some p → inner_at (inners_behind made ps) (length made + n) ≡ inner_view (take (length made + n) (inners_behind made ps)) p
inner_is [] made n p e = absurd (none-some p e)
inner_is (q ∷ ps) made zero p e =
    let more = inners_more ps (made ++ inner_view made q ∷ []) in
    let all : inners_behind made (q ∷ ps) ≡ made ++ inner_view made q ∷ more.0 = more.1 ∙ append_assoc made (inner_view made q ∷ []) more.0 in
    let here : length made + zero ≡ length made = omega arith in
    ap (λ n. inner_at (inners_behind made (q ∷ ps)) n) here
    ∙ ap (λ xs. inner_at xs (length made)) all
    ∙ at_last made more.0 (inner_view made q)
    ∙ ap (λ xs. inner_view xs q) (sym (ap (λ n. take n (inners_behind made (q ∷ ps))) here ∙ ap (take (length made)) all ∙ taken made (inner_view made q ∷ more.0)))
    ∙ ap (λ r. inner_view (take (length made + zero) (inners_behind made (q ∷ ps))) r) (same_Some q p e)
inner_is (q ∷ ps) made (suc n) p e =
    let longer : length (made ++ inner_view made q ∷ []) ≡ length made + 1 = length-append made (inner_view made q ∷ []) in
    let same : length (made ++ inner_view made q ∷ []) + n ≡ length made + suc n = omega (arith, longer) in
    subst (λ k. inner_at (inners_behind made (q ∷ ps)) k ≡ inner_view (take k (inners_behind made (q ∷ ps))) p) same
    (inner_is ps (made ++ inner_view made q ∷ []) n p e)

-- ---- its instructions

list_same : (xs : List i.Instr) → list_of (instrs_of xs) ≡ xs
list_same [] = refl
list_same (x ∷ xs) = ap (λ ys. x ∷ ys) (list_same xs)

instr_is : (cs : List Constant) (made : List Inner) (xs : List Instr) (sites : List Site) (n : ℕ) (x : Instr) → length sites ≡ length xs → slice_get xs n ≡ Some x → slice_get (instrs_view cs made xs sites) n ≡ Some (instr_view cs made (site_or (slice_get sites n)) x)
instr_is cs made [] sites n x long e = absurd (none-some x e)
instr_is cs made (y ∷ xs) [] n x long e = absurd (let z : ⊥ = omega (arith, long) in z)
instr_is cs made (y ∷ xs) (s ∷ sites) zero x long e = ap (λ z. Some (instr_view cs made (site_view s) z)) (same_Some y x e)
instr_is cs made (y ∷ xs) (s ∷ sites) (suc n) x long e = instr_is cs made xs sites n x (omega (arith, long)) e

instrs_length : (cs : List Constant) (made : List Inner) (xs : List Instr) (sites : List Site) → length sites ≡ length xs → length (instrs_view cs made xs sites) ≡ length xs
instrs_length cs made [] sites long = refl
instrs_length cs made (x ∷ xs) [] long = absurd (let z : ⊥ = omega (arith, long) in z)
instrs_length cs made (x ∷ xs) (s ∷ sites) long = ap suc (instrs_length cs made xs sites (omega (arith, long)))

module _ (ps : List ProtoView) (n : ℕ) (p : ProtoView) (here : slice_get ps n ≡ Some p) where
  -- the code of a function of a chunk
  pub code_is : code_at ps n ≡ proto_view (take n (inners ps)) p
  code_is =
      ap (λ k. (inner_at (inners ps) k).code) (let e : n ≡ 0 + n = omega arith in e)
      ∙ ap (λ (y : Inner). y.code) (inner_is ps [] n p here)
      ∙ ap (λ k. proto_view (take k (inners ps)) p) (let e : 0 + n ≡ n = omega arith in e)

  pub captures_is : (inner_at (inners ps) n).captures ≡ p.captures
  captures_is =
      ap (λ k. (inner_at (inners ps) k).captures) (let e : n ≡ 0 + n = omega arith in e)
      ∙ ap (λ (y : Inner). y.captures) (inner_is ps [] n p here)

  body_is : i.code_of (code_at ps n) ≡ body_view (take n (inners ps)) p
  body_is = ap i.code_of code_is ∙ list_same (body_view (take n (inners ps)) p)

  pub code_length : length p.sites ≡ length p.instrs → length (i.code_of (code_at ps n)) ≡ length p.instrs
  code_length long = ap (λ (xs : List i.Instr). length xs) body_is ∙ instrs_length p.constants (take n (inners ps)) p.instrs p.sites long

module _ (m : EngineView) (r : IsReady m) (x : Instr) (next : slice_get m.proto.instrs m.pc ≡ Some x) where
  abbrev ps : List ProtoView
  ps = protos_at m.chunks m.chunk

  here : slice_get ps m.func ≡ Some m.proto
  here = get_in ps m.func no_proto r.placed.known ∙ ap (λ (p : ProtoView). Some p) (sym r.proto)

  pub fetched : slice_get (i.code_of (code_of m.chunks m.chunk m.func)) m.pc ≡ Some (instr_of x m)
  fetched =
      ap (λ (xs : List i.Instr). slice_get xs m.pc) (body_is ps m.func m.proto here)
      ∙ instr_is m.proto.constants (made_before m) m.proto.instrs m.proto.sites m.pc x (sound_here m r).held.sites next

  -- a step of the definitions' machine is that instruction
  pub stepped : (program : Program) (past : Past) → act.act program (config_of past m) ≡ step_at x past m
  stepped program past = ap (λ (o : Option i.Instr). act.act_at (run_of m) (frames_of m) (registers_of m) (state_of past m) o) fetched

-- what an instruction takes is what a step takes
module _ (m new : EngineView) (r : IsReady m) (x : Instr) (ready : IsReadyFor x m) where
  pub steps_of : {E : Type 0} (o : Result Status E) → IfOk o (λ status. Takes x status m new) → IfOk o (λ status. Steps status m new)
  steps_of (Ok status) t = λ program. record {
    step = λ past. stepped m r x ready.next program past ∙ t.step past;
    kept = t.kept;
  }
  steps_of (Err e) t = t
