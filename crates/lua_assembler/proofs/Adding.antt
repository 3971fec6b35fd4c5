-- What is added by an instruction, also behind a constant, and by several parts.
use Rattle.std.proofs.Common.{◌≡◌, ℕ, zero, suc, ◌+◌, ◌≤◌, ◌<◌, List, [], ◌∷◌, ◌++◌, refl, ap, sym, ◌∙◌, subst, length, append_assoc, arith}
use Rattle.std.proofs.lemmas.List.{append-nil, length-append}
use Rattle.lua_code.specs.Instr as i
use Rattle.lua_code.specs.declared.constant.Constant.{Constant}
use Rattle.lua_code.specs.View.{ProtoView, constant_at, constant_view, inner_at, inners}
use Rattle.lua_code.proofs.Callers.{constant_last}
use Rattle.lua_assembler.specs.declared.place.Place.{Place}
use Rattle.lua_assembler.specs.declared.place.Place.TheVariants as places
use Rattle.lua_assembler.specs.Places.{place_view, IsKnown}
use Rattle.lua_assembler.specs.Drafts.{Drafted, Head, proto_head, draft_code, MakesAmong}
use Rattle.lua_assembler.specs.Writing.{Written, code_of, made_of, constants_of, inner_of, Extends, Adds, Puts, Knows, MoreConstants, Opens, Closes}
use Rattle.lua_assembler.proofs.Drafts.{among_stays, draft_among}

-- ---- functions that are made

same_extends : (old new : List ProtoView) → new ≡ old → Extends old new
same_extends old new e = ([], e ∙ sym (append-nil old))

extends_both : (a b c : List ProtoView) → Extends a b → Extends b c → Extends a c
extends_both a b c x y = (x.0 ++ y.0, y.1 ∙ ap (λ l. l ++ y.0) x.1 ∙ append_assoc a x.0 y.0)

-- ---- instructions

pub one_put : (code : List i.Instr) (old new : Written) → Puts code old new → Adds code old new
one_put code old new p = record { code = p.code; head = p.head; protos = same_extends old.protos new.protos p.protos }

pub behind_known : (c : Constant) (code : List i.Instr) (old mid new : Written) → Knows c old mid → Puts code mid new → Adds code old new
behind_known c code old mid new k p = record {
  code = p.code ∙ ap (λ l. code ++ l) k.code;
  head = p.head ∙ k.head;
  protos = same_extends old.protos new.protos (p.protos ∙ k.protos);
}

pub last_known : (c : Constant) (old mid : Written) → Knows c old mid → constant_at (constants_of mid) (length (constants_of old)) ≡ constant_view c
last_known c old mid k = ap (λ cs. constant_at cs (length (constants_of old))) k.constants ∙ constant_last (constants_of old) c

pub none_added : (c : Constant) (old mid : Written) → Knows c old mid → Adds [] old mid
none_added c old mid k = record { code = k.code; head = k.head; protos = same_extends old.protos mid.protos k.protos }

-- ---- parts, the last one first

pub both_added : (front back : List i.Instr) (old mid new : Written) → Adds back old mid → Adds front mid new → Adds (front ++ back) old new
both_added front back old mid new a b = record {
  code = b.code ∙ ap (λ l. front ++ l) a.code ∙ sym (append_assoc front back (code_of old));
  head = b.head ∙ a.head;
  protos = extends_both old.protos mid.protos new.protos a.protos b.protos;
}

pub one_in_front : (x : i.Instr) (back : List i.Instr) (old mid new : Written) → Adds back old mid → Adds (x ∷ []) mid new → Adds (x ∷ back) old new
one_in_front x back old mid new a b = both_added (x ∷ []) back old mid new a b

pub nothing_added : (w : Written) → Adds [] w w
nothing_added w = record { code = refl; head = refl; protos = same_extends w.protos w.protos refl }

pub behind_nothing : (code : List i.Instr) (old mid new : Written) → Adds [] old mid → Adds code mid new → Adds code old new
behind_nothing code old mid new a b = record {
  code = b.code ∙ ap (λ l. code ++ l) a.code;
  head = b.head ∙ a.head;
  protos = extends_both old.protos mid.protos new.protos a.protos b.protos;
}

pub three_added : (a b c : List i.Instr) (w0 w1 w2 w3 : Written) → Adds c w0 w1 → Adds b w1 w2 → Adds a w2 w3 → Adds (a ++ (b ++ c)) w0 w3
three_added a b c w0 w1 w2 w3 x y z = both_added a (b ++ c) w0 w2 w3 (both_added b c w0 w1 w2 x y) z

pub four_added : (a b c d : List i.Instr) (w0 w1 w2 w3 w4 : Written) → Adds d w0 w1 → Adds c w1 w2 → Adds b w2 w3 → Adds a w3 w4 → Adds (a ++ (b ++ (c ++ d))) w0 w4
four_added a b c d w0 w1 w2 w3 w4 x y z u = both_added a (b ++ (c ++ d)) w0 w3 w4 (three_added b c d w0 w1 w2 w3 x y z) u

-- code that is the same is added as well
pub adds_as : (a b : List i.Instr) (old new : Written) → a ≡ b → Adds a old new → Adds b old new
adds_as a b old new e x = subst (λ l. Adds l old new) e x

-- ---- a function inside

extends_length : (old new : List ProtoView) → Extends old new → length old ≤ length new
extends_length old new e = let n : length new ≡ length (old ++ e.0) = ap (λ (l : List ProtoView). length l) e.1 in let m = length-append old e.0 in omega (arith, n, m)

-- the function around stands aside while the one inside is written
pub aside : (h : Head) (around : Drafted) (code : List i.Instr) (w0 w1 w2 : Written) → Opens h around w0 w1 → Adds code w1 w2 → MakesAmong (length w2.protos) around
aside h around code w0 w1 w2 o a =
    let e : length w1.protos ≡ length w0.protos = ap (λ (l : List ProtoView). length l) o.protos in
    among_stays (length w0.protos) (length w2.protos) around (let l = extends_length w1.protos w2.protos a.protos in omega (arith, e, l)) o.among

-- and goes on behind it
pub function_inside : (h : Head) (around : Drafted) (code : List i.Instr) (w0 w1 w2 w3 : Written) → Opens h around w0 w1 → Adds code w1 w2 → Closes around w2 w3 → Adds [] w0 w3
function_inside h around code w0 w1 w2 w3 o a c =
    let more : Extends w0.protos w3.protos = extends_both w0.protos w1.protos w3.protos (same_extends w0.protos w1.protos o.protos) (extends_both w1.protos w2.protos w3.protos a.protos (c.protos.0 ∷ [], c.protos.1)) in
    let body : w3.body ≡ w0.body = c.body ∙ o.stands in
    record {
      code = ap (λ (d : Drafted). draft_code (inners w3.protos) d) body
          ∙ ap (λ (ps : List ProtoView). draft_code (inners ps) w0.body) more.1
          ∙ draft_among w0.protos more.0 w0.body (subst (λ (d : Drafted). MakesAmong (length w0.protos) d) o.stands o.among);
      head = ap (λ (d : Drafted). proto_head d.proto) body;
      protos = more;
    }

-- what a closure of it is made of
pub function_made : (h : Head) (around : Drafted) (code : List i.Instr) (w0 w1 w2 w3 : Written) → Opens h around w0 w1 → Adds code w1 w2 → Closes around w2 w3 → inner_at (made_of w3) (length w2.protos) ≡ inner_of h code
function_made h around code w0 w1 w2 w3 o a c =
    c.inner
    ∙ ap (λ (g : Head). inner_of g (code_of w2)) (a.head ∙ o.head)
    ∙ ap (inner_of h) (a.code ∙ ap (λ l. code ++ l) o.code ∙ append-nil code)

-- ---- jumps

pub adds_length : (added : List i.Instr) (old new : Written) → Adds added old new → length (code_of new) ≡ length added + length (code_of old)
adds_length added old new a = ap (λ (l : List i.Instr). length l) a.code ∙ length-append added (code_of old)

-- ---- constants

pub same_constants : (old new : Written) → new ≡ old → MoreConstants old new
same_constants old new e = ([], ap (λ (w : Written). constants_of w) e ∙ sym (append-nil (constants_of old)))

pub one_constant : (c : Constant) (old new : Written) → Knows c old new → MoreConstants old new
one_constant c old new k = (c ∷ [], k.constants)

constant_stays : (cs more : List Constant) (n : ℕ) → n < length cs → constant_at (cs ++ more) n ≡ constant_at cs n
constant_stays [] more n lt = absurd (let z : ⊥ = omega (arith, lt) in z)
constant_stays (c ∷ cs) more zero lt = refl
constant_stays (c ∷ cs) more (suc n) lt = constant_stays cs more n (omega (arith, lt))

known_among : (cs more : List Constant) (p : Place) → IsKnown cs p → IsKnown (cs ++ more) p
known_among cs more (places.Slot n) k = tt
known_among cs more (places.Constant n) k = let l = length-append cs more in omega (arith, l, k)

place_among : (cs more : List Constant) (p : Place) → IsKnown cs p → place_view (cs ++ more) p ≡ place_view cs p
place_among cs more (places.Slot n) k = refl
place_among cs more (places.Constant n) k = ap (λ v. i.constant v) (constant_stays cs more n k)

pub known_stays : (old new : Written) (p : Place) → MoreConstants old new → IsKnown (constants_of old) p → IsKnown (constants_of new) p
known_stays old new p m k = subst (λ cs. IsKnown cs p) (sym m.1) (known_among (constants_of old) m.0 p k)

pub place_stays : (old new : Written) (p : Place) → MoreConstants old new → IsKnown (constants_of old) p → place_view (constants_of new) p ≡ place_view (constants_of old) p
place_stays old new p m k = ap (λ cs. place_view cs p) m.1 ∙ place_among (constants_of old) m.0 p k

pub pair_put : (w0 w1 w2 w3 : Written) (s given : i.Site) (table : ℕ) (key value : Place) (k v : i.Operand)
    → Adds [] w0 w1 → IsKnown (constants_of w1) key → place_view (constants_of w1) key ≡ k
    → Adds [] w1 w2 → MoreConstants w1 w2 → place_view (constants_of w2) value ≡ v → given ≡ s
    → Adds (i.set_new given table (place_view (constants_of w2) key) (place_view (constants_of w2) value) ∷ []) w2 w3
    → Adds (i.set_new s table k v ∷ []) w0 w3
pair_put w0 w1 w2 w3 s given table key value k v a known e b more f g c =
    behind_nothing _ w0 w1 w3 a (behind_nothing _ w1 w2 w3 b (adds_as _ _ w2 w3 (
    ap (λ (o : i.Site). i.set_new o table (place_view (constants_of w2) key) (place_view (constants_of w2) value) ∷ []) g
    ∙ ap (λ (o : i.Operand). i.set_new s table o (place_view (constants_of w2) value) ∷ []) (place_stays w1 w2 key more known ∙ e)
    ∙ ap (λ (o : i.Operand). i.set_new s table k o ∷ []) f) c))
