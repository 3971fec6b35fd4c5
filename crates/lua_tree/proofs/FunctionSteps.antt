-- Steps of functions: their names, parameters and bodies.
use Rattle.std.proofs.Common.{◌≡◌, ℕ, suc, ◌+◌, ◌<◌, ◌≤◌, max, Bool, true, false, List, [], ◌∷◌, ◌++◌, append-nil, append_assoc, Option, Some, None, Result, Ok, Err, drop, take, length, refl, sym, ap, ◌∙◌, subst, arith, rules}
use Rattle.std.specs.Prelude.{slice_get, IfErr}
use Rattle.std.specs.Result.{IsErrAnd}
use Rattle.lua_token.specs.declared.kind.Kind.TheVariants as kinds
use Rattle.lua_token.specs.declared.token.Token.{Token}
use Rattle.lua_tree.specs.declared.source.Read.{Read}
use Rattle.lua_tree.specs.declared.source.Source.{Source}
use Rattle.lua_tree.specs.declared.functions.FunctionName.{FunctionName}
use Rattle.lua_tree.specs.declared.functions.Parameters.{Parameters}
use Rattle.lua_tree.specs.declared.stop.Stop.{Stop}
use Rattle.lua_tree.specs.declared.stop.Stop.TheVariants as stop
use Rattle.lua_tree.specs.declared.stop.Fault.TheVariants as faults
use Rattle.lua_tree.specs.declared.stop.Fault as declared
use Rattle.lua_tree.specs.declared.tree.Expr.{Expr}
use Rattle.lua_tree.specs.declared.tree.Expr as expr_of
use Rattle.lua_tree.specs.declared.tree.ExprKind as kind
use Rattle.lua_tree.specs.Tree as t
use Rattle.lua_tree.specs.Tree.{Bytes}
use Rattle.lua_tree.specs.Words as w
use Rattle.lua_tree.specs.Words.{Word, Spot, Tok, tok, key}
use Rattle.lua_tree.specs.Grammar.{self}
use Rattle.lua_tree.specs.Attributes.{Counts, nodes, height}
use Rattle.lua_tree.specs.Reading.{Sort, Value, Rule, Prog, give, take as take_token, look, expect, expect_name, then, free, deep, many, a_target, some_params, func_name, func_name_of, params, next_param, more_params, program, Answer, got, stuck, unexpected, over, Reads, gives, fails, thens, stops, no_name}
use Rattle.lua_tree.specs.Spelled.{Spelled, kind_at, kind_of}
use Rattle.lua_tree.specs.View.{expr_view}
use Rattle.lua_tree.specs.Begins.{hidden_of}
use Rattle.lua_tree.specs.Heads.{FunctionNameAt, ParametersAt, named_then}
use Rattle.lua_tree.specs.Answer.{MemberAt, NameAt, NamedAt, NoLocalAt, NoMemberAt, NoNameAt, StoppedAt, as_part, expr_tall, fault_of, limits, line_of}
use Rattle.lua_tree.proofs.Taking.{expect_at, just, keeps_deep, keeps_free, keeps_many, look_at, name_at, passed_at, passes_deep, passes_many, take_at}
use Rattle.lua_tree.proofs.Marks.{Stands, key_stands, name_stands, no_key, no_name_there}
use Rattle.lua_tree.proofs.Descent.{ended, given, handed, moved, next, not_there}
use Rattle.lua_tree.proofs.Lists.{part_of_part}
use Rattle.lua_tree.proofs.Others.{func_name_other, look_as, more_params_other, next_param_other, params_other}

-- ---- parameters

-- in front of those that follow
abbrev pub params_onto : List Bytes → List Bytes × Bool → List Bytes × Bool
params_onto names r = (names ++ r.0, r.1)

-- parameters that are read so far, behind those that a function has by itself
pub record ReadSoFar (source : Source) (start at : ℕ) (hidden read : List Bytes) : Type 0 where
  pub names : List Bytes
  pub all : read ≡ hidden ++ names
  pub goes_on : (words : List Tok) → Spelled source.bytes.now 1 source.tokens.now words → (r : Answer (List Bytes × Bool))
      → Reads limits some_params (program (next_param (length read))) (drop at words) r
      → Reads limits some_params (program (next_param (length hidden))) (drop start words) (as_part (params_onto names) r)

no_param : {p : Prog some_params} {ts : List Tok} (r : Answer (List Bytes × Bool)) → Reads limits some_params p ts r → Reads limits some_params p ts (as_part (params_onto []) r)
no_param (got a us) d = d
no_param (stuck x us) d = d

pub none_yet : (source : Source) (at : ℕ) (hidden read : List Bytes) → read ≡ hidden → ReadSoFar source at at hidden read
none_yet source at hidden read e = record {
  names = [];
  all = e ∙ sym (append-nil hidden);
  goes_on = λ words sp r d. no_param r (subst (λ (xs : List Bytes). Reads limits some_params (program (next_param (length xs))) (drop at words) r) e d);
}

-- a parameter
pub one_param : (source : Source) (words : List Tok) → Spelled source.bytes.now 1 source.tokens.now words → (at n : ℕ) (x : Bytes) → NamedAt source at x → n < 200
    → (r : Answer (List Bytes × Bool)) → Reads limits some_params (program (more_params (suc n))) (drop (at + 1) words) r
    → Reads limits some_params (program (next_param n)) (drop at words) (as_part (params_onto (x ∷ [])) r)
one_param source words sp at n x is lt r d =
    let h = name_stands sp at is.0 x is.1 is.2 is.3 in
    look_at h.is (take_at h.is (keeps_many (suc n) lt) (next at words (given r d)))

lengthened : (xs : List Bytes) (x : Bytes) → length (xs ++ x ∷ []) ≡ suc (length xs)
lengthened [] x = refl
lengthened (y ∷ xs) x = ap suc (lengthened xs x)

onto_one : (names : List Bytes) (x : Bytes) (a : List Bytes × Bool) → params_onto names (params_onto (x ∷ []) a) ≡ params_onto (names ++ x ∷ []) a
onto_one names x a = ap (λ (xs : List Bytes). (xs, a.1)) (sym (append_assoc names (x ∷ []) a.0))

and_one : {p : Prog some_params} {ts : List Tok} (names : List Bytes) (x : Bytes) (r : Answer (List Bytes × Bool))
    → Reads limits some_params p ts (as_part (params_onto names) (as_part (params_onto (x ∷ [])) r)) → Reads limits some_params p ts (as_part (params_onto (names ++ x ∷ [])) r)
and_one {p = p} {ts = ts} names x (got a us) d = subst (λ (b : List Bytes × Bool). Reads limits some_params p ts (got b us)) (onto_one names x a) d
and_one names x (stuck y us) d = d

all_and_one : (hidden names read more : List Bytes) (x : Bytes) → read ≡ hidden ++ names → more ≡ read ++ x ∷ [] → more ≡ hidden ++ (names ++ x ∷ [])
all_and_one hidden names read more x e f = f ∙ ap (λ (xs : List Bytes). xs ++ x ∷ []) e ∙ append_assoc hidden names (x ∷ [])

-- what follows one more parameter
pub behind_param : (source : Source) (words : List Tok) → Spelled source.bytes.now 1 source.tokens.now words → (start at : ℕ) (hidden read : List Bytes) (so : ReadSoFar source start at hidden read)
    → (x : Bytes) → NamedAt source at x → length read < 200
    → (r : Answer (List Bytes × Bool)) → Reads limits some_params (program (more_params (suc (length read)))) (drop (at + 1) words) r
    → Reads limits some_params (program (next_param (length hidden))) (drop start words) (as_part (params_onto (so.names ++ x ∷ [])) r)
behind_param source words sp start at hidden read so x is lt r d =
    and_one so.names x r (so.goes_on words sp _ (one_param source words sp at (length read) x is lt r d))

pub one_more_param : (source : Source) (start at later : ℕ) (hidden read more : List Bytes) → ReadSoFar source start at hidden read → (x : Bytes) → NamedAt source at x → length read < 200
    → more ≡ read ++ x ∷ [] → kind_at source.tokens.now (at + 1) ≡ Some kinds.Comma → later ≡ at + 1 + 1 → ReadSoFar source start later hidden more
one_more_param source start at later hidden read more so x is lt e comma to = record {
  names = so.names ++ x ∷ [];
  all = all_and_one hidden so.names read more x so.all e;
  goes_on = λ words sp r d.
      let h = key_stands sp (at + 1) kinds.Comma tt comma in
      let f = subst (λ (n : ℕ). Reads limits some_params (program (next_param n)) (drop later words) r) (ap length e ∙ lengthened read x) d in
      behind_param source words sp start at hidden read so x is lt r (look_at h.is (take_at h.is keeps_free (moved (at + 1) later words to (just f))));
}

-- the parameters begin with no ')'
pub params_begin : (source : Source) (words : List Tok) → Spelled source.bytes.now 1 source.tokens.now words → (at n : ℕ) → (kind_at source.tokens.now at ≡ Some kinds.CloseParen → ⊥)
    → (r : Answer (List Bytes × Bool)) → Reads limits some_params (program (next_param n)) (drop at words) r → Reads limits some_params (program (params n)) (drop at words) r
params_begin source words sp at n none r d = look_as (params_other n _ _ (no_key sp at kinds.CloseParen (key w.close_paren) refl none)) (just d)

-- there are none
pub no_params : (source : Source) (words : List Tok) → Spelled source.bytes.now 1 source.tokens.now words → (at n : ℕ) → kind_at source.tokens.now at ≡ Some kinds.CloseParen
    → Reads limits some_params (program (params n)) (drop at words) (got ([], false) (drop (at + 1) words))
no_params source words sp at n e = let h = key_stands sp at kinds.CloseParen tt e in look_at h.is (take_at h.is keeps_free (ended at (at + 1) words refl refl))

-- they end behind one
pub params_end : (source : Source) (words : List Tok) → Spelled source.bytes.now 1 source.tokens.now words → (start at : ℕ) (hidden read more : List Bytes) → ReadSoFar source start at hidden read
    → (x : Bytes) → NamedAt source at x → length read < 200 → more ≡ read ++ x ∷ [] → kind_at source.tokens.now (at + 1) ≡ Some kinds.CloseParen → (kind_at source.tokens.now start ≡ Some kinds.CloseParen → ⊥)
    → (names : List Bytes) × (more ≡ hidden ++ names) × Reads limits some_params (program (params (length hidden))) (drop start words) (got (names, false) (drop (at + 1 + 1) words))
params_end source words sp start at hidden read more so x is lt e close none =
    let h = key_stands sp (at + 1) kinds.CloseParen tt close in
    let d = behind_param source words sp start at hidden read so x is lt (got ([], false) (drop (at + 1 + 1) words)) (look_at h.is (take_at h.is keeps_free (ended (at + 1) (at + 1 + 1) words refl refl))) in (
      so.names ++ x ∷ [],
      all_and_one hidden so.names read more x so.all e,
      params_begin source words sp start (length hidden) none _ (subst (λ (xs : List Bytes). Reads limits some_params (program (next_param (length hidden))) (drop start words) (got (xs, false) (drop (at + 1 + 1) words))) (append-nil (so.names ++ x ∷ [])) d),
    )

-- they end with '...'
pub dots_end : (source : Source) (words : List Tok) → Spelled source.bytes.now 1 source.tokens.now words → (start at : ℕ) (hidden read : List Bytes) (so : ReadSoFar source start at hidden read)
    → kind_at source.tokens.now at ≡ Some kinds.Dots → (kind_at source.tokens.now start ≡ Some kinds.CloseParen → ⊥)
    → (r : Answer (List Bytes × Bool)) → Reads limits some_params (expect w.close_paren free (λ s. give ([], true))) (drop (at + 1) words) r
    → Reads limits some_params (program (params (length hidden))) (drop start words) (as_part (params_onto so.names) r)
dots_end source words sp start at hidden read so dots none r d =
    let h = key_stands sp at kinds.Dots tt dots in
    params_begin source words sp start (length hidden) none _ (so.goes_on words sp r (look_at h.is (take_at h.is keeps_free (next at words d))))

pub dots_close : (source : Source) (words : List Tok) → Spelled source.bytes.now 1 source.tokens.now words → (start at later : ℕ) (hidden read : List Bytes) → ReadSoFar source start at hidden read
    → kind_at source.tokens.now at ≡ Some kinds.Dots → (kind_at source.tokens.now start ≡ Some kinds.CloseParen → ⊥) → kind_at source.tokens.now (at + 1) ≡ Some kinds.CloseParen → later ≡ at + 1 + 1
    → (names : List Bytes) × (read ≡ hidden ++ names) × Reads limits some_params (program (params (length hidden))) (drop start words) (got (names, true) (drop later words))
dots_close source words sp start at later hidden read so dots none close to =
    let h = key_stands sp (at + 1) kinds.CloseParen tt close in
    let d = dots_end source words sp start at hidden read so dots none (got ([], true) (drop later words)) (expect_at h.is keeps_free (ended (at + 1) later words refl (sym to))) in
    (so.names, so.all, subst (λ (xs : List Bytes). Reads limits some_params (program (params (length hidden))) (drop start words) (got (xs, true) (drop later words))) (append-nil so.names) d)

-- why they are none
why_no_params : (method : Bool) (start : ℕ) (words : List Tok) (fault : declared.Fault) (at : ℕ) (P : Type 0) (why : Stop)
    → StoppedAt fault at P why → (P → Reads limits some_params (program (params (length (hidden_of method)))) (drop start words) (stuck (fault_of fault) (drop at words))) → ParametersAt method start (Err why) words
why_no_params method start words fault at P (stop.At found place) h k =
    subst (λ (f : declared.Fault). Reads limits some_params (program (params (length (hidden_of method)))) (drop start words) (stuck (fault_of f) (drop place words))) (sym h.0)
    (subst (λ (n : ℕ). Reads limits some_params (program (params (length (hidden_of method)))) (drop start words) (stuck (fault_of fault) (drop n words))) (sym h.1) (k h.2))
why_no_params method start words fault at P stop.Memory h k = tt

-- no name of one more local stands there
pub no_local : (source : Source) (words : List Tok) → Spelled source.bytes.now 1 source.tokens.now words → (start at m : ℕ) (method : Bool) (read : List Bytes)
    → ReadSoFar source start at (hidden_of method) read → m ≡ length read → (kind_at source.tokens.now at ≡ Some kinds.Dots → ⊥) → (kind_at source.tokens.now start ≡ Some kinds.CloseParen → ⊥)
    → (why : Stop) → NoLocalAt source at m why → ParametersAt method start (Err why) words
no_local source words sp start at m method read so e dots none (stop.At faults.Unexpected place) h =
    subst (λ (n : ℕ). Reads limits some_params (program (params (length (hidden_of method)))) (drop start words) (stuck unexpected (drop n words))) (sym h.0)
    (params_begin source words sp start (length (hidden_of method)) none _ (so.goes_on words sp (stuck unexpected (drop at words))
    (look_as (next_param_other (length read) _ _ (no_key sp at kinds.Dots (key w.dots) refl dots) (no_name_there sp at h.1)) fails)))
no_local source words sp start at m method read so e dots none (stop.At faults.TooManyLocals place) h =
    let x = h.1 in
    let n = name_stands sp at x.1.0 x.0 x.1.1 x.1.2 x.1.3 in
    subst (λ (n : ℕ). Reads limits some_params (program (params (length (hidden_of method)))) (drop start words) (stuck (fault_of faults.TooManyLocals) (drop n words))) (sym h.0)
    (params_begin source words sp start (length (hidden_of method)) none _ (so.goes_on words sp (stuck (fault_of faults.TooManyLocals) (drop at words))
    (look_at n.is (passed_at n.is (passes_many (suc (length read)) (omega (arith, h.2, e)))))))
no_local source words sp start at m method read so e dots none stop.Memory h = tt
no_local source words sp start at m method read so e dots none (stop.At f place) h = absurd h

-- neither ',' nor ')' stands behind one
pub no_comma : (source : Source) (words : List Tok) → Spelled source.bytes.now 1 source.tokens.now words → (start at : ℕ) (method : Bool) (read : List Bytes)
    → ReadSoFar source start at (hidden_of method) read → (x : Bytes) → NamedAt source at x → length read < 200
    → (kind_at source.tokens.now start ≡ Some kinds.CloseParen → ⊥) → (kind_at source.tokens.now (at + 1) ≡ Some kinds.CloseParen → ⊥)
    → (why : Stop) → StoppedAt faults.Unexpected (at + 1) (kind_at source.tokens.now (at + 1) ≡ Some kinds.Comma → ⊥) why → ParametersAt method start (Err why) words
no_comma source words sp start at method read so x is lt none close why h =
    why_no_params method start words faults.Unexpected (at + 1) (kind_at source.tokens.now (at + 1) ≡ Some kinds.Comma → ⊥) why h
    (λ comma. params_begin source words sp start (length (hidden_of method)) none _ (behind_param source words sp start at (hidden_of method) read so x is lt (stuck unexpected (drop (at + 1) words))
    (look_as (more_params_other (suc (length read)) _ _ (no_key sp (at + 1) kinds.Comma (key w.comma) refl comma) (no_key sp (at + 1) kinds.CloseParen (key w.close_paren) refl close)) fails)))

-- no ')' stands behind '...'
pub no_close : (source : Source) (words : List Tok) → Spelled source.bytes.now 1 source.tokens.now words → (start at : ℕ) (method : Bool) (read : List Bytes)
    → ReadSoFar source start at (hidden_of method) read → kind_at source.tokens.now at ≡ Some kinds.Dots → (kind_at source.tokens.now start ≡ Some kinds.CloseParen → ⊥)
    → (why : Stop) → StoppedAt faults.Unexpected (at + 1) (kind_at source.tokens.now (at + 1) ≡ Some kinds.CloseParen → ⊥) why → ParametersAt method start (Err why) words
no_close source words sp start at method read so dots none why h =
    why_no_params method start words faults.Unexpected (at + 1) (kind_at source.tokens.now (at + 1) ≡ Some kinds.CloseParen → ⊥) why h
    (λ close. dots_end source words sp start at (hidden_of method) read so dots none (stuck unexpected (drop (at + 1) words)) (not_there (no_key sp (at + 1) kinds.CloseParen (key w.close_paren) refl close)))

-- ---- names

-- a rule that is called in the place of another one
then_by : {s q : Sort} (one two : Rule q) (f : Value q → Prog s) (ts us : List Tok) (r : Answer (Value s))
    → ((o : Answer (Value q)) → Reads limits q (program one) us o → Reads limits q (program two) ts o) → Reads limits s (then one f) us r → Reads limits s (then two f) ts r
then_by one two f ts us r k (thens d e) = thens (k _ d) e
then_by one two f ts us r k (stops d) = stops (k _ d)

-- the name of a function that is read so far
pub record NamedSoFar (source : Source) (c : Counts) (start at : ℕ) (e : t.Expr) : Type 0 where
  pub goes_on : (words : List Tok) → Spelled source.bytes.now 1 source.tokens.now words → (s : Sort) (f : Value a_target → Prog s) (r : Answer (Value s))
      → Reads limits s (then (func_name c e) f) (drop at words) r → Reads limits s (named_then s c f) (drop start words) r

pub name_begins : (source : Source) (c : Counts) (at later : ℕ) (e : Expr) → NameAt source at e → later ≡ at + 1 → NamedSoFar source c at later (expr_view e)
name_begins source c at later e is to = record {
  goes_on = λ words sp s f r d.
      let x = take is.0.length (drop is.0.start source.bytes.now) in
      let h = name_stands sp at is.0 x is.1 is.2 refl in
      let same : expr_view e ≡ t.name h.spot.line x = is.3 ∙ ap (λ (l : ℕ). t.name l x) (sym (h.line ∙ ap line_of is.1)) in
      name_at h.is keeps_free (moved at later words to (subst (λ (a : t.Expr). Reads limits s (then (func_name c a) f) (drop later words) r) same d));
}

-- an index in it, as the rule has it
member_is : (source : Source) (base : Read Expr) (e : Expr) (m : MemberAt source base e) (l k : ℕ) → l ≡ line_of (slice_get source.tokens.now base.at) → k ≡ line_of (slice_get source.tokens.now (base.at + 1))
    → expr_view e ≡ t.index l (expr_view base.node) (t.str k (take m.0.length (drop m.0.start source.bytes.now)))
member_is source base e m l k is of =
    let x = take m.0.length (drop m.0.start source.bytes.now) in
    m.3 ∙ ap (λ (n : ℕ). t.index n (expr_view base.node) (t.str m.0.line x)) (sym is) ∙ ap (λ (n : ℕ). t.index l (expr_view base.node) (t.str n x)) (sym (of ∙ ap line_of m.1))

pub member_follows : (source : Source) (c : Counts) (start later : ℕ) (base : Read Expr) (e : Expr) → NamedSoFar source c start base.at (expr_view base.node)
    → kind_at source.tokens.now base.at ≡ Some kinds.Dot → MemberAt source base e → later ≡ base.at + 2 → suc (c nodes) + expr_tall base.node ≤ 200
    → NamedSoFar source c start later (expr_view e)
member_follows source c start later base e so dot m to low = record {
  goes_on = λ words sp s f r d.
      let x = take m.0.length (drop m.0.start source.bytes.now) in
      let h = key_stands sp base.at kinds.Dot tt dot in
      let n = name_stands sp (base.at + 1) m.0 x m.1 m.2 refl in
      let same = member_is source base e m h.spot.line n.spot.line h.line n.line in
      let further : later ≡ base.at + 1 + 1 = omega (arith, to) in
      so.goes_on words sp s f r (then_by (func_name c (expr_view e)) (func_name c (expr_view base.node)) f _ _ r
      (λ o k. look_at h.is (take_at h.is (keeps_deep _ low) (next base.at words (name_at n.is keeps_free (moved (base.at + 1) later words further
      (just (subst (λ (a : t.Expr). Reads limits a_target (program (func_name c a)) (drop later words) o) same k))))))) d);
}

-- it ends with a part behind ':'
pub method_ends : (source : Source) (words : List Tok) → Spelled source.bytes.now 1 source.tokens.now words → (c : Counts) (start later : ℕ) (base : Read Expr) (e : Expr)
    → NamedSoFar source c start base.at (expr_view base.node) → kind_at source.tokens.now base.at ≡ Some kinds.Colon → MemberAt source base e → later ≡ base.at + 2 → suc (c nodes) + expr_tall base.node ≤ 200
    → (s : Sort) (f : Value a_target → Prog s) (r : Answer (Value s)) → Reads limits s (f (expr_view e, self ∷ [])) (drop later words) r → Reads limits s (named_then s c f) (drop start words) r
method_ends source words sp c start later base e so colon m to low s f r d =
    let x = take m.0.length (drop m.0.start source.bytes.now) in
    let h = key_stands sp base.at kinds.Colon tt colon in
    let n = name_stands sp (base.at + 1) m.0 x m.1 m.2 refl in
    let same = member_is source base e m h.spot.line n.spot.line h.line n.line in
    let further : base.at + 1 + 1 ≡ later = omega (arith, to) in
    so.goes_on words sp s f r (thens (look_at h.is (take_at h.is (keeps_deep _ low) (next base.at words (name_at n.is (keeps_many 1 (omega arith))
    (ended (base.at + 1) later words (ap (λ (a : t.Expr). (a, self ∷ [])) (sym same)) further))))) d)

-- it ends with no such part
pub name_ends : (source : Source) (words : List Tok) → Spelled source.bytes.now 1 source.tokens.now words → (c : Counts) (start at : ℕ) (e : t.Expr)
    → NamedSoFar source c start at e → (kind_at source.tokens.now at ≡ Some kinds.Dot → ⊥) → (kind_at source.tokens.now at ≡ Some kinds.Colon → ⊥)
    → (s : Sort) (f : Value a_target → Prog s) (r : Answer (Value s)) → Reads limits s (f (e, [])) (drop at words) r → Reads limits s (named_then s c f) (drop start words) r
name_ends source words sp c start at e so dot colon s f r d =
    so.goes_on words sp s f r (thens (look_as (func_name_other c e _ _ (no_key sp at kinds.Dot (key w.dot) refl dot) (no_key sp at kinds.Colon (key w.colon) refl colon)) gives) d)

-- no name stands there
pub no_function_name : (source : Source) (words : List Tok) → Spelled source.bytes.now 1 source.tokens.now words → (c : Counts) (at depth : ℕ) → depth + 1 ≤ 200
    → (why : Stop) → NoNameAt source at depth why → FunctionNameAt c at (Err why) words
no_function_name source words sp c at depth low (stop.At faults.Unexpected place) h =
    λ s f. subst (λ (n : ℕ). Reads limits s (named_then s c f) (drop at words) (stuck unexpected (drop n words))) (sym h.0) (no_name (no_name_there sp at h.1))
no_function_name source words sp c at depth low (stop.At faults.TooDeep place) h = absurd (omega (arith, low, h.2))
no_function_name source words sp c at depth low stop.Memory h = tt
no_function_name source words sp c at depth low (stop.At f place) h = absurd h

-- nor behind '.'
pub no_member : (source : Source) (words : List Tok) → Spelled source.bytes.now 1 source.tokens.now words → (c : Counts) (start : ℕ) (base : Read Expr)
    → NamedSoFar source c start base.at (expr_view base.node) → kind_at source.tokens.now base.at ≡ Some kinds.Dot → base.height ≡ expr_tall base.node
    → (why : Stop) → NoMemberAt source base (c nodes) why → FunctionNameAt c start (Err why) words
no_member source words sp c start base so dot high (stop.At faults.TooDeep place) h =
    let k = key_stands sp base.at kinds.Dot tt dot in
    λ s f. subst (λ (n : ℕ). Reads limits s (named_then s c f) (drop start words) (stuck (over nodes) (drop n words))) (sym h.0)
    (so.goes_on words sp s f (stuck (over nodes) (drop base.at words)) (stops (look_at k.is (passed_at k.is (passes_deep _ (omega (arith, h.1, high)))))))
no_member source words sp c start base so dot high (stop.At faults.Unexpected place) h =
    let k = key_stands sp base.at kinds.Dot tt dot in
    λ s f. subst (λ (n : ℕ). Reads limits s (named_then s c f) (drop start words) (stuck unexpected (drop n words))) (sym h.0)
    (so.goes_on words sp s f (stuck unexpected (drop (base.at + 1) words)) (stops (look_at k.is (take_at k.is (keeps_deep _ (omega (arith, h.2, high))) (next base.at words (no_name (no_name_there sp (base.at + 1) h.1)))))))
no_member source words sp c start base so dot high stop.Memory h = tt
no_member source words sp c start base so dot high (stop.At f place) h = absurd h

-- nor behind ':'
pub no_method : (source : Source) (words : List Tok) → Spelled source.bytes.now 1 source.tokens.now words → (c : Counts) (start : ℕ) (base : Read Expr)
    → NamedSoFar source c start base.at (expr_view base.node) → kind_at source.tokens.now base.at ≡ Some kinds.Colon → base.height ≡ expr_tall base.node
    → (why : Stop) → NoMemberAt source base (c nodes) why → FunctionNameAt c start (Err why) words
no_method source words sp c start base so colon high (stop.At faults.TooDeep place) h =
    let k = key_stands sp base.at kinds.Colon tt colon in
    λ s f. subst (λ (n : ℕ). Reads limits s (named_then s c f) (drop start words) (stuck (over nodes) (drop n words))) (sym h.0)
    (so.goes_on words sp s f (stuck (over nodes) (drop base.at words)) (stops (look_at k.is (passed_at k.is (passes_deep _ (omega (arith, h.1, high)))))))
no_method source words sp c start base so colon high (stop.At faults.Unexpected place) h =
    let k = key_stands sp base.at kinds.Colon tt colon in
    λ s f. subst (λ (n : ℕ). Reads limits s (named_then s c f) (drop start words) (stuck unexpected (drop n words))) (sym h.0)
    (so.goes_on words sp s f (stuck unexpected (drop (base.at + 1) words)) (stops (look_at k.is (take_at k.is (keeps_deep _ (omega (arith, h.2, high))) (next base.at words (no_name (no_name_there sp (base.at + 1) h.1)))))))
no_method source words sp c start base so colon high stop.Memory h = tt
no_method source words sp c start base so colon high (stop.At f place) h = absurd h
