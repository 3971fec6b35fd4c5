-- A function with too many upvalues is found in a part, and handed on.
use Rattle.std.proofs.Common.{◌≡◌, ℕ, ◌<◌, suc, List, ◌∷◌, length, drop, get_or, map, ap, sym, subst, ◌∙◌, drop-cons}
use Rattle.std.specs.Prelude.{Result, Ok, Err, Option, None, MatchResult}
use Rattle.std.specs.Result.{IsErrAnd}
use Rattle.lua_tree.specs.Tree as t
use Rattle.lua_tree.specs.Tree.{Bytes}
use Rattle.lua_tree.specs.declared.tree.Stat.{Stat}
use Rattle.lua_tree.specs.declared.tree.Arm.{Arm}
use Rattle.lua_tree.specs.declared.tree.Block.{Block}
use Rattle.lua_tree.specs.declared.tree.Field.{Field}
use Rattle.lua_tree.specs.declared.tree.StatKind.TheVariants as variant
use Rattle.lua_tree.specs.View.{arm_view, field_view, stat_view, arms_of, fields_of, else_of}
use Rattle.lua_upvalues.specs.Parts.{block_option}
use Rattle.lua_upvalues.specs.declared.fault.UpvalueFault.{UpvalueFault}
use Rattle.lua_upvalues.specs.Upvalues.{arms_fault, fields_fault, stat_fault, IsFault}
use Rattle.lua_upvalues.proofs.Views.{if_seen}

here_on : {A : Type 0} (xs : List A) (at : ℕ) (x : A) → at < length xs → x ≡ get_or xs at x → drop at xs ≡ x ∷ drop (suc at) xs
here_on xs at x l g = drop-cons xs at x l ∙ ap (λ y. y ∷ drop (suc at) xs) (sym g)

-- what was found stands where it is looked for too
found_there : (found there : Option ℕ) (fault : UpvalueFault) → there ≡ found → IsFault found fault → IsFault there fault
found_there found there fault e h = subst (λ (o : Option ℕ). IsFault o fault) (sym e) h

-- in one of some arms
pub arms_refused : {T : Type 0} (arms : List Arm) (n : ℕ) (arm : Arm) (here locals : List Bytes) (fault : UpvalueFault) (r : Result T UpvalueFault) → n < length arms → arm ≡ get_or arms n arm → here ≡ locals
    → ((last : t.Arms) → arms_fault (arms_of (map arm_view arms) last) locals ≡ arms_fault (arms_of (map arm_view (drop n arms)) last) locals)
    → ((rest : t.Arms) → IsFault (arms_fault (arm_view arm rest) here) fault)
    → IsErrAnd r (λ f. f ≡ fault)
    → MatchResult r (λ _. (last : t.Arms) → arms_fault (arms_of (map arm_view arms) last) locals ≡ arms_fault last locals) (λ f. (last : t.Arms) → IsFault (arms_fault (arms_of (map arm_view arms) last) locals) f)
arms_refused arms n arm here locals fault (Ok v) l g same before found is = absurd is
arms_refused arms n arm here locals fault (Err f) l g same before found is = λ last.
    let rest : t.Arms = arms_of (map arm_view (drop (suc n) arms)) last in
    let there : arms_fault (arms_of (map arm_view arms) last) locals ≡ arms_fault (arm_view arm rest) here =
    before last ∙ ap (λ (xs : List Arm). arms_fault (arms_of (map arm_view xs) last) locals) (here_on arms n arm l g) ∙ ap (λ (ls : List Bytes). arms_fault (arm_view arm rest) ls) (sym same) in
    subst (λ (x : UpvalueFault). IsFault (arms_fault (arms_of (map arm_view arms) last) locals) x) (sym is)
    (found_there (arms_fault (arm_view arm rest) here) (arms_fault (arms_of (map arm_view arms) last) locals) fault there (found rest))

-- in one of some fields
pub fields_refused : {T : Type 0} (fields : List Field) (n : ℕ) (field : Field) (here locals : List Bytes) (fault : UpvalueFault) (r : Result T UpvalueFault) → n < length fields → field ≡ get_or fields n field → here ≡ locals
    → fields_fault (fields_of (map field_view fields)) locals ≡ fields_fault (fields_of (map field_view (drop n fields))) locals
    → ((rest : t.Fields) → IsFault (fields_fault (field_view field rest) here) fault)
    → IsErrAnd r (λ f. f ≡ fault)
    → MatchResult r (λ _. fields_fault (fields_of (map field_view fields)) locals ≡ None) (λ f. IsFault (fields_fault (fields_of (map field_view fields)) locals) f)
fields_refused fields n field here locals fault (Ok v) l g same before found is = absurd is
fields_refused fields n field here locals fault (Err f) l g same before found is =
    let rest : t.Fields = fields_of (map field_view (drop (suc n) fields)) in
    let there : fields_fault (fields_of (map field_view fields)) locals ≡ fields_fault (field_view field rest) here =
    before ∙ ap (λ (xs : List Field). fields_fault (fields_of (map field_view xs)) locals) (here_on fields n field l g) ∙ ap (λ (ls : List Bytes). fields_fault (field_view field rest) ls) (sym same) in
    subst (λ (x : UpvalueFault). IsFault (fields_fault (fields_of (map field_view fields)) locals) x) (sym is)
    (found_there (fields_fault (field_view field rest) here) (fields_fault (fields_of (map field_view fields)) locals) fault there (found rest))

-- in the arms of an `if`
pub if_refused : {T : Type 0} (s : Stat) (arms given : List Arm) (last : Option Block) (locals : List Bytes) (fault : UpvalueFault) (r : Result T UpvalueFault) → s.what ≡ variant.If arms last → given ≡ arms
    → ((rest : t.Arms) → IsFault (arms_fault (arms_of (map arm_view given) rest) locals) fault)
    → IsErrAnd r (λ f. f ≡ fault)
    → MatchResult r (λ _. stat_fault (stat_view s) locals ≡ None) (λ f. IsFault (stat_fault (stat_view s) locals) f)
if_refused s arms given last locals fault (Ok v) h e found is = absurd is
if_refused s arms given last locals fault (Err f) h e found is =
    let behind : t.Arms = else_of (block_option last) in
    let there : stat_fault (stat_view s) locals ≡ arms_fault (arms_of (map arm_view given) behind) locals =
    ap (λ (x : t.Stat). stat_fault x locals) (if_seen s arms last h) ∙ ap (λ (xs : List Arm). arms_fault (arms_of (map arm_view xs) behind) locals) (sym e) in
    subst (λ (x : UpvalueFault). IsFault (stat_fault (stat_view s) locals) x) (sym is)
    (found_there (arms_fault (arms_of (map arm_view given) behind) locals) (stat_fault (stat_view s) locals) fault there (found behind))
