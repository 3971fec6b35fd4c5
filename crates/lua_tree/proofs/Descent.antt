-- What the steps of a function that reads come to, as steps of its rule's program.
use Rattle.std.proofs.Common.{◌≡◌, ℕ, suc, ◌+◌, ◌<◌, ◌≤◌, max, List, [], ◌∷◌, Result, Ok, Err, Option, Some, None, drop, refl, sym, ap, ◌∙◌, subst, arith}
use Rattle.std.specs.Prelude.{slice_get, IfErr}
use Rattle.std.specs.Result.{IsErrAnd}
use Rattle.std.specs.Ordering.{ord_max, nat_cmp}
use Rattle.std.proofs.lemmas.Bool.Decides.{nat_tests}
use Rattle.lua_token.specs.declared.kind.Kind.{Kind}
use Rattle.lua_token.specs.declared.kind.Kind.TheVariants as kinds
use Rattle.lua_token.specs.declared.token.Token.{Token}
use Rattle.lua_tree.specs.declared.source.Read.{Read}
use Rattle.lua_tree.specs.declared.source.Source.{Source}
use Rattle.lua_tree.specs.declared.stop.Stop.{Stop}
use Rattle.lua_tree.specs.declared.stop.Stop.TheVariants as stops
use Rattle.lua_tree.specs.declared.stop.Fault.TheVariants as faults
use Rattle.lua_tree.specs.declared.stop.Fault as declared
use Rattle.lua_tree.specs.Tree.{Bytes}
use Rattle.lua_tree.specs.Words as w
use Rattle.lua_tree.specs.Words.{Word, Key, key, Spot, Tok, tok, word_of, spot_of}
use Rattle.lua_tree.specs.Attributes.{Limit, breaks, varargs, nodes, locals, calls, Counts}
use Rattle.lua_tree.specs.Reading.{Sort, Value, Rule, Prog, give, take, look, expect, expect_name, then, Needs, free, deep, many, for_break, for_dots, Fault, Answer, got, stuck, unexpected, over, fault_number, Keeps, Passes, Reads, gives, not_that, thens, stops, program}
use Rattle.lua_tree.specs.Spelled.{Spelled, kind_at, word_of_kind}
use Rattle.lua_tree.specs.Answer.{limits, Answers, answer_of, as_part, fault_of, NoNameAt, Parts, StoppedAt}
use Rattle.lua_tree.proofs.Taking.{passes_deep, passed_at, look_at}
use Rattle.lua_tree.proofs.Marks.{Stands, key_stands, IsKey}

-- the value that is given
pub gave : {s : Sort} {a b : Value s} {ts : List Tok} → a ≡ b → Reads limits s (give a) ts (got b ts)
gave {s = s} {a = a} {ts = ts} e = subst (λ (v : Value s). Reads limits s (give a) ts (got v ts)) e gives

-- the value that is given, at the place behind it
pub ended : {s : Sort} {a b : Value s} (at next : ℕ) (words : List Tok) → a ≡ b → at + 1 ≡ next → Reads limits s (give a) (drop (suc at) words) (got b (drop next words))
ended {s = s} {a = a} {b = b} at next words e n =
    let same : suc at ≡ next = omega (arith, n) in
    subst (λ (k : ℕ). Reads limits s (give a) (drop (suc at) words) (got b (drop k words))) same (gave e)

-- what follows is read from further on
pub onward : {T : Type 0} {s : Sort} {p q : Prog s} (view : T → Value s) (at start : ℕ) (words : List Tok) (result : Result (Read T) Stop)
    → ((r : Answer (Value s)) → Reads limits s q (drop at words) r → Reads limits s p (drop start words) r)
    → Answers view q at result words → Answers view p start result words
onward view at start words (Ok read) k d = k (answer_of view words read) d
onward view at start words (Err (stops.At f place)) k d = k (stuck (fault_of f) (drop place words)) d
onward view at start words (Err stops.Memory) k d = tt

-- an error that is handed on
pub handed : {T : Type 0} (r : Result T Stop) (stop : Stop) (P : Result T Stop → Type 0) → IsErrAnd r (λ y. y ≡ stop) → P (Err stop) → P r
handed (Ok x) stop P is p = absurd is
handed (Err y) stop P is p = subst (λ s. P (Err s)) (sym is) p

why_stopped : {T U : Type 0} {s q : Sort} {p : Prog q} {whole : Prog s} (view : T → Value q) (shown : U → Value s) (at start : ℕ) (words : List Tok) (stop : Stop)
    → ((x : Fault) (us : List Tok) → Reads limits q p (drop at words) (stuck x us) → Reads limits s whole (drop start words) (stuck x us))
    → Answers view p at (Err stop) words → Answers shown whole start (Err stop) words
why_stopped view shown at start words (stops.At f place) k d = k (fault_of f) (drop place words) d
why_stopped view shown at start words stops.Memory k d = tt

-- why a part stopped is why the whole does
pub stopped : {T U : Type 0} {s q : Sort} {p : Prog q} {whole : Prog s} (view : T → Value q) (shown : U → Value s) (at start : ℕ) (words : List Tok) (stop : Stop) (r : Result (Read U) Stop)
    → IsErrAnd r (λ y. y ≡ stop)
    → ((x : Fault) (us : List Tok) → Reads limits q p (drop at words) (stuck x us) → Reads limits s whole (drop start words) (stuck x us))
    → Answers view p at (Err stop) words → Answers shown whole start r words
stopped {whole = whole} view shown at start words stop r is k d =
    handed r stop (λ o. Answers shown whole start o words) is (why_stopped view shown at start words stop k d)

why_faulted : {U : Type 0} {s : Sort} {whole : Prog s} (shown : U → Value s) (start : ℕ) (words : List Tok) (fault : declared.Fault) (at : ℕ) (P : Type 0) (stop : Stop)
    → StoppedAt fault at P stop → (P → Reads limits s whole (drop start words) (stuck (fault_of fault) (drop at words))) → Answers shown whole start (Err stop) words
why_faulted {s = s} {whole = whole} shown start words fault at P (stops.At found place) h k =
    subst (λ (f : declared.Fault). Reads limits s whole (drop start words) (stuck (fault_of f) (drop place words))) (sym h.0)
    (subst (λ (n : ℕ). Reads limits s whole (drop start words) (stuck (fault_of fault) (drop n words))) (sym h.1) (k h.2))
why_faulted shown start words fault at P stops.Memory h k = tt

-- a fault of this kind at this place
pub faulted : {U : Type 0} {s : Sort} {whole : Prog s} (shown : U → Value s) (start : ℕ) (words : List Tok) (fault : declared.Fault) (at : ℕ) (P : Type 0) (stop : Stop) (r : Result (Read U) Stop)
    → IsErrAnd r (λ y. y ≡ stop) → StoppedAt fault at P stop
    → (P → Reads limits s whole (drop start words) (stuck (fault_of fault) (drop at words))) → Answers shown whole start r words
faulted {whole = whole} shown start words fault at P stop r is h k =
    handed r stop (λ o. Answers shown whole start o words) is (why_faulted shown start words fault at P stop h k)

-- a rule whose value is part of another's
pub given : {s q : Sort} {r : Rule q} {f : Value q → Value s} {ts : List Tok} (o : Answer (Value q)) → Reads limits q (program r) ts o
    → Reads limits s (then r (λ v. give (f v))) ts (as_part f o)
given (got a us) d = thens d gives
given (stuck x us) d = stops d

lower_dots : (c : Counts) → c varargs ≡ 0 → (y : Limit) → fault_number y < fault_number nodes → for_dots c y ≤ limits y
lower_dots c e breaks l = omega arith
lower_dots c e varargs l = omega (arith, e)
lower_dots c e nodes l = absurd (omega (arith, l))
lower_dots c e locals l = absurd (omega (arith, l))
lower_dots c e calls l = absurd (omega (arith, l))

-- `...` too deep
pub deep_dots : (c : Counts) → c varargs ≡ 0 → 200 < suc (c nodes) → Passes limits (for_dots c) nodes
deep_dots c e d = (d, lower_dots c e)

below_varargs : (c : Counts) (y : Limit) → fault_number y < fault_number varargs → for_dots c y ≤ limits y
below_varargs c breaks l = omega arith
below_varargs c varargs l = absurd (omega (arith, l))
below_varargs c nodes l = absurd (omega (arith, l))
below_varargs c locals l = absurd (omega (arith, l))
below_varargs c calls l = absurd (omega (arith, l))

-- `...` in a function that has none
pub outside_dots : (c : Counts) → 0 < c varargs → Passes limits (for_dots c) varargs
outside_dots c d = (d, below_varargs c)

pub keeps_dots : (c : Counts) → c varargs ≡ 0 → suc (c nodes) ≤ 200 → Keeps limits (for_dots c)
keeps_dots c e d breaks = omega arith
keeps_dots c e d varargs = omega (arith, e)
keeps_dots c e d nodes = d
keeps_dots c e d locals = omega arith
keeps_dots c e d calls = omega arith

below_breaks : (c : Counts) (y : Limit) → fault_number y < fault_number breaks → for_break c y ≤ limits y
below_breaks c breaks l = absurd (omega (arith, l))
below_breaks c varargs l = absurd (omega (arith, l))
below_breaks c nodes l = absurd (omega (arith, l))
below_breaks c locals l = absurd (omega (arith, l))
below_breaks c calls l = absurd (omega (arith, l))

-- `break` outside of a loop
pub outside_break : (c : Counts) → 0 < c breaks → Passes limits (for_break c) breaks
outside_break c d = (d, below_breaks c)

pub keeps_break : (c : Counts) → c breaks ≡ 0 → Keeps limits (for_break c)
keeps_break c e breaks = omega (arith, e)
keeps_break c e varargs = omega arith
keeps_break c e nodes = omega arith
keeps_break c e locals = omega arith
keeps_break c e calls = omega arith

-- another token than the one that is looked for
pub not_there : {s : Sort} {k : Key} {n : Needs} {f : Spot → Prog s} {ts : List Tok} → (word_of ts ≡ key k → ⊥) → Reads limits s (expect k n f) ts (stuck unexpected ts)
not_there h = not_that h

-- want of memory says nothing
pub forgotten : {U : Type 0} {s : Sort} (whole : Prog s) (shown : U → Value s) (start : ℕ) (words : List Tok) (stop : Stop) (r : Result (Read U) Stop)
    → IsErrAnd r (λ y. y ≡ stop) → stop ≡ stops.Memory → Answers shown whole start r words
forgotten whole shown start words stop r is e =
    handed r stop (λ o. Answers shown whole start o words) is (subst (λ x. Answers shown whole start (Err x) words) (sym e) tt)

-- what is said of an error that is handed on
pub handed_on : {T : Type 0} (r : Result T Stop) (stop : Stop) (P : Stop → Type 0) → IsErrAnd r (λ y. y ≡ stop) → P stop → IfErr r P
handed_on (Ok x) stop P is p = tt
handed_on (Err y) stop P is p = subst P (sym is) p

-- a name that isn't there, or is too deep
pub no_name_here : (source : Source) (at depth : ℕ) (stop : Stop) → StoppedAt faults.Unexpected at (kind_at source.tokens.now at ≡ Some kinds.Name → ⊥) stop → NoNameAt source at depth stop
no_name_here source at depth (stops.At f place) h = subst (λ (f : declared.Fault). NoNameAt source at depth (stops.At f place)) (sym h.0) (h.1, h.2)
no_name_here source at depth stops.Memory h = tt

pub too_deep_here : (source : Source) (at depth : ℕ) (stop : Stop) → kind_at source.tokens.now at ≡ Some kinds.Name → StoppedAt faults.TooDeep at (200 < depth + 1) stop → NoNameAt source at depth stop
too_deep_here source at depth (stops.At f place) is h = subst (λ (f : declared.Fault). NoNameAt source at depth (stops.At f place)) (sym h.0) (h.1, is, omega (arith, h.2))
too_deep_here source at depth stops.Memory is h = tt

-- the token behind one
pub next : {s : Sort} {p : Prog s} {r : Answer (Value s)} (at : ℕ) (words : List Tok) → Reads limits s p (drop (at + 1) words) r → Reads limits s p (drop (suc at) words) r
next {s = s} {p = p} {r = r} at words d =
    let same : at + 1 ≡ suc at = omega arith in
    subst (λ (k : ℕ). Reads limits s p (drop k words) r) same d

-- what a rule answers at these counts, which are the same
pub at_counts : {T : Type 0} {s : Sort} (view : T → Value s) (rule : Counts → Rule s) (c d : Counts) (at : ℕ) (words : List Tok) (result : Result (Read T) Stop)
    → c ≡ d → Answers view (program (rule c)) at result words → Answers view (program (rule d)) at result words
at_counts view rule c d at words result e h = subst (λ (x : Counts). Answers view (program (rule x)) at result words) e h

-- the token behind one, at a place that is named otherwise
pub moved : {s : Sort} {p : Prog s} {r : Answer (Value s)} (at later : ℕ) (words : List Tok) → later ≡ at + 1 → Reads limits s p (drop later words) r → Reads limits s p (drop (suc at) words) r
moved {s = s} {p = p} {r = r} at later words e d =
    let same : later ≡ suc at = omega (arith, e) in
    subst (λ (k : ℕ). Reads limits s p (drop k words) r) same d

-- why a part of a rule stopped is said as of a whole one
as_part_stopped : {T U : Type 0} {s q : Sort} (whole : Prog s) (shown : U → Value s) (after : T → Prog q) (put : T → Value q → Value s) (start : ℕ) (words : List Tok) (stop : Stop)
    → Answers shown whole start (Err stop) words → Parts after put whole start (Err stop) words
as_part_stopped whole shown after put start words (stops.At f place) d = d
as_part_stopped whole shown after put start words stops.Memory d = tt

-- `stopped`, `faulted` and `forgotten` for a part of a rule
pub part_stopped : {T U : Type 0} {s q m : Sort} {p : Prog m} {whole : Prog s} (view : T → Value m) (after : U → Prog q) (put : U → Value q → Value s) (at start : ℕ) (words : List Tok) (stop : Stop) (r : Result (Read U) Stop)
    → IsErrAnd r (λ y. y ≡ stop)
    → ((x : Fault) (us : List Tok) → Reads limits m p (drop at words) (stuck x us) → Reads limits s whole (drop start words) (stuck x us))
    → Answers view p at (Err stop) words → Parts after put whole start r words
part_stopped {U = U} {s = s} {q = q} {whole = whole} view after put at start words stop r is k d =
    handed r stop (λ o. Parts after put whole start o words) is
    (as_part_stopped whole (λ (u : Value s). u) after put start words stop (why_stopped view (λ (u : Value s). u) at start words stop k d))

pub part_faulted : {U : Type 0} {s q : Sort} {whole : Prog s} (after : U → Prog q) (put : U → Value q → Value s) (start : ℕ) (words : List Tok) (fault : declared.Fault) (at : ℕ) (P : Type 0) (stop : Stop) (r : Result (Read U) Stop)
    → IsErrAnd r (λ y. y ≡ stop) → StoppedAt fault at P stop
    → (P → Reads limits s whole (drop start words) (stuck (fault_of fault) (drop at words))) → Parts after put whole start r words
part_faulted {s = s} {whole = whole} after put start words fault at P stop r is h k =
    handed r stop (λ o. Parts after put whole start o words) is
    (as_part_stopped whole (λ (u : Value s). u) after put start words stop (why_faulted (λ (u : Value s). u) start words fault at P stop h k))

-- why a part stopped is said as of a whole one
pub of_part : {T U : Type 0} {s q : Sort} (p : Prog s) (after : T → Prog q) (put : T → Value q → Value s) (shown : U → Value s) (at : ℕ) (words : List Tok) (stop : Stop)
    → Parts after put p at (Err stop) words → Answers shown p at (Err stop) words
of_part p after put shown at words (stops.At f place) d = d
of_part p after put shown at words stops.Memory d = tt

-- the greater of two numbers, as the code has it
pub greater_is : (n a b : ℕ) → n ≡ ord_max nat_cmp a b → n ≡ max a b
greater_is n a b e = grind (arith, nat_tests)
