-- What a writer's calls are to its code.
use Rattle.std.proofs.Common.{◌≡◌, ℕ, List, [], ◌∷◌, ◌++◌, length, map, refl, sym, ap, subst, ◌∙◌, arith}
use Rattle.std.proofs.lemmas.List.{length-append, length-map, length-reverse}
use Rattle.lua_code.specs.Instr as i
use Rattle.lua_code.specs.Instr.{proto}
use Rattle.lua_code.specs.declared.constant.Constant.{Constant}
use Rattle.lua_code.specs.declared.instr.Instr.{Instr}
use Rattle.lua_code.specs.declared.instr.Site.{Site}
use Rattle.lua_code.specs.View.{ProtoView, Inner, MakesBefore, site_view, instr_view, body_view, inner_at, inner_view, inners, code_at}
use Rattle.lua_code.proofs.Callers.{inners_last}
use Rattle.lua_assembler.specs.Drafts.{Drafted, Head, proto_head, empty_draft, draft_code, step_view, SameCode, MakesAmong, IsFinished}
use Rattle.lua_assembler.specs.Writing.{Written, code_of, head_of, constants_of, made_of, IsWritten, Puts, Knows, Opens, Closes, inner_of}
use Rattle.lua_assembler.proofs.Drafts.{draft_put, put_among, among_stays, inners_length}

pub put_ok : (protos : List ProtoView) (d q : Drafted) (x : Instr) (s : Site) (old : Written) → old ≡ record { protos = protos; body = d } → q ≡ record d { steps = d.steps ++ record { instr = x; site = s } ∷ [] }
    → Puts (instr_view (constants_of old) (made_of old) (site_view s) x ∷ []) old (record { protos = protos; body = q })
put_ok protos d q x s old e f =
    subst (λ (o : Written). Puts (instr_view (constants_of o) (made_of o) (site_view s) x ∷ []) o (record { protos = protos; body = q })) (sym e)
    (subst (λ (q : Drafted). Puts (instr_view d.proto.constants (inners protos) (site_view s) x ∷ []) (record { protos = protos; body = d }) (record { protos = protos; body = q })) (sym f)
    (record { code = draft_put (inners protos) d (record { instr = x; site = s }); head = refl; constants = refl; protos = refl }))

pub put_held : (protos : List ProtoView) (d q : Drafted) (x : Instr) (s : Site) → IsWritten (record { protos = protos; body = d }) → MakesBefore (length protos) x → q ≡ record d { steps = d.steps ++ record { instr = x; site = s } ∷ [] }
    → IsWritten (record { protos = protos; body = q })
put_held protos d q x s is m f = record {
  among = subst (λ (q : Drafted). MakesAmong (length protos) q) (sym f) (put_among (length protos) d (record { instr = x; site = s }) is.among m);
}

pub same_held : (protos : List ProtoView) (d q : Drafted) → IsWritten (record { protos = protos; body = d }) → q ≡ d → IsWritten (record { protos = protos; body = q })
same_held protos d q is f = subst (λ (q : Drafted). IsWritten (record { protos = protos; body = q })) (sym f) is

pub constant_ok : (protos : List ProtoView) (d q : Drafted) (c : Constant) (old : Written) → old ≡ record { protos = protos; body = d } → SameCode d q → q ≡ record d { proto = record d.proto { constants = d.proto.constants ++ c ∷ [] } }
    → Knows c old (record { protos = protos; body = q })
constant_ok protos d q c old e same f =
    subst (λ (o : Written). Knows c o (record { protos = protos; body = q })) (sym e)
    (record {
      code = same (inners protos);
      head = ap (λ (q : Drafted). proto_head q.proto) f;
      constants = ap (λ (q : Drafted). q.proto.constants) f;
      protos = refl;
    })

pub constant_held : (protos : List ProtoView) (d q : Drafted) (c : Constant) → IsWritten (record { protos = protos; body = d }) → q ≡ record d { proto = record d.proto { constants = d.proto.constants ++ c ∷ [] } } → IsWritten (record { protos = protos; body = q })
constant_held protos d q c is f = record { among = subst (λ (q : Drafted). MakesAmong (length protos) q) (sym f) is.among }

pub code_length : (made : List Inner) (d : Drafted) → length d.steps ≡ length (draft_code made d)
code_length made d = sym (length-reverse (map (step_view d.proto.constants made) d.steps) ∙ length-map d.steps (step_view d.proto.constants made))

-- ---- a function that is made

last_inner : (made : List Inner) (x : Inner) → inner_at (made ++ x ∷ []) (length made) ≡ x
last_inner [] x = refl
last_inner (y ∷ made) x = last_inner made x

head_inner : (h : Head) (p : ProtoView) (made : List Inner) (code : List i.Instr) → proto_head p ≡ h → body_view made p ≡ code → inner_view made p ≡ inner_of h code
head_inner h p made code e b = ap (inner_of (proto_head p)) b ∙ ap (λ (g : Head). inner_of g code) e

-- behind the others
pub inner_made : (protos : List ProtoView) (d : Drafted) (p : ProtoView) → IsFinished d p → inner_at (inners (protos ++ p ∷ [])) (length protos) ≡ inner_of (proto_head d.proto) (draft_code (inners protos) d)
inner_made protos d p f =
    ap (λ (made : List Inner). inner_at made (length protos)) (inners_last protos p)
    ∙ ap (λ (n : ℕ). inner_at (inners protos ++ inner_view (inners protos) p ∷ []) n) (sym (inners_length protos))
    ∙ last_inner (inners protos) (inner_view (inners protos) p)
    ∙ head_inner (proto_head d.proto) p (inners protos) (draft_code (inners protos) d) f.head (f.code (inners protos))

pub closed : (protos : List ProtoView) (d around : Drafted) (p : ProtoView) → IsFinished d p → Closes around (record { protos = protos; body = d }) (record { protos = protos ++ p ∷ []; body = around })
closed protos d around p f = record {
  body = refl;
  protos = (p, refl);
  inner = inner_made protos d p f;
}

pub closed_held : (protos : List ProtoView) (d : Drafted) (p : ProtoView) → MakesAmong (length protos) d → IsWritten (record { protos = protos ++ p ∷ []; body = d })
closed_held protos d p among = record { among = among_stays (length protos) (length (protos ++ p ∷ [])) d (let l = length-append protos (p ∷ []) in omega (arith, l)) among }

pub opened_held : (protos : List ProtoView) (h : Head) → IsWritten (record { protos = protos; body = empty_draft h })
opened_held protos h = record { among = tt }

pub opened : (protos : List ProtoView) (d q : Drafted) (h : Head) (old : Written) → old ≡ record { protos = protos; body = d } → IsWritten (record { protos = protos; body = d }) → q ≡ empty_draft h → Opens h d old (record { protos = protos; body = q })
opened protos d q h old e is f =
    subst (λ (o : Written). Opens h d o (record { protos = protos; body = q })) (sym e)
    (subst (λ (q : Drafted). Opens h d (record { protos = protos; body = d }) (record { protos = protos; body = q })) (sym f)
    (record { code = refl; head = refl; protos = refl; stands = refl; among = is.among }))

pub close_ok : (protos ps : List ProtoView) (d done aside body : Drafted) (p : ProtoView) (old : Written) → old ≡ record { protos = protos; body = d } → done ≡ d → body ≡ aside → IsFinished done p → ps ≡ protos ++ p ∷ [] → Closes aside old (record { protos = ps; body = body })
close_ok protos ps d done aside body p old e f g is h =
    subst (λ (o : Written). Closes aside o (record { protos = ps; body = body })) (sym e)
    (subst (λ (qs : List ProtoView). Closes aside (record { protos = protos; body = d }) (record { protos = qs; body = body })) (sym h)
    (subst (λ (b : Drafted). Closes aside (record { protos = protos; body = d }) (record { protos = protos ++ p ∷ []; body = b })) (sym g)
    (closed protos d aside p (subst (λ (b : Drafted). IsFinished b p) f is))))

-- the main function, the last one
pub main_is : (protos ps : List ProtoView) (d : Drafted) (p : ProtoView) (w : Written) → w ≡ record { protos = protos; body = d } → IsFinished d p → ps ≡ protos ++ p ∷ [] → code_at ps (length w.protos) ≡ (inner_of (head_of w) (code_of w)).code
main_is protos ps d p w e is h =
    subst (λ (o : Written). code_at ps (length o.protos) ≡ (inner_of (head_of o) (code_of o)).code) (sym e)
    (subst (λ (qs : List ProtoView). code_at qs (length protos) ≡ (inner_of (proto_head d.proto) (draft_code (inners protos) d)).code) (sym h)
    (ap (λ (x : Inner). x.code) (inner_made protos d p is)))
