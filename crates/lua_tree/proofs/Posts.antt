-- What is shown of each rule: what it reads is spelled, and what its tokens make unavoidable is what is counted in the tree.
use Rattle.std.proofs.Common.{ℕ, suc, ◌+◌, ◌≤◌, ◌≡◌, max, length, List, [], ◌∷◌}
use Rattle.lua_tree.specs.Tree.{Bytes, BinOp, Expr, expr_and, local}
use Rattle.lua_tree.specs.Words as w
use Rattle.lua_tree.specs.Words.{Word, key, Spot, Tok, tok, word_of, spot_of}
use Rattle.lua_tree.specs.Grammar.{unary_level, left_level, call_line, first_line, NotOpen, NameList, Params, NamePath, FuncName, Semi, Exp, Prefix, Var, Args, ExpList, FieldList, MoreFields, Body, Stats, StatOf, LastOf, VarList, ArmsOf, MoreArms}
use Rattle.lua_tree.specs.Attributes.{Limit, nodes, at_chunk, named, node, at_end, declared, most, most_exprs, most_fields, most_func, most_block, most_stat, most_arms, most_chunk}
use Rattle.lua_tree.specs.Reading as r
use Rattle.lua_tree.specs.Reading.{Sort, Value, Place, leading, Shape, shape, unfinished, Rule, Needs, Prog, give, fail, take, look, expect, expect_name, at_last, then, free, opening, held, in_loop, program}
use Rattle.lua_tree.proofs.Comes.{both}
use Rattle.lua_tree.proofs.Follow.{NotFrom, NotSuffix}

-- the operand is spelled at the level that the operator behind it asks for, if one follows
abbrev pub Ready : Expr → List Tok → List Tok → Type 0
Ready e ts us = (o : BinOp) → word_of us ≡ w.op o → Exp (left_level o) e ts us

abbrev pub Post : (s : Sort) → Rule s → List Tok → Value s → List Tok → Needs → Type 0
Post s (r.expr p c) ts e us l = p ≤ unary_level → Exp p e ts us × NotFrom p (word_of us) × ((x : Limit) → l x ≡ most x (c x) e)
Post s (r.more p c a) ts e us l = ((ts0 : List Tok) → Exp p a ts0 ts → Ready a ts0 ts → Exp p e ts0 us) × NotFrom p (word_of us) × ((x : Limit) → max (most x (c x) a) (l x) ≡ most x (c x) e)
Post s (r.first c) ts e us l = ((q : ℕ) → q ≤ unary_level → Exp q e ts us) × Ready e ts us × ((x : Limit) → l x ≡ most x (c x) e)
Post s (r.prefix k c) ts e us l = Prefix e ts us × NotSuffix (word_of us) × ((x : Limit) → l x ≡ most x (held (unfinished k (shape e)) c x) e)
Post s (r.suffixes k c a) ts e us l =
    ((ts0 : List Tok) → Prefix a ts0 ts → Prefix e ts0 us) × NotSuffix (word_of us)
    × ((x : Limit) → max (most x (held (unfinished k (shape a)) c x) a) (l x) ≡ most x (held (unfinished k (shape e)) c x) e)
Post s (r.args n c) ts v us l = Args v.0 v.1 ts us × (suc (c nodes) ≤ n → (x : Limit) → l x ≡ max (opening n v.0 x) (most_exprs x (c x) v.1))
Post s (r.paren_args line c) ts v us l =
    (v.0 ≡ line) × ((at : Spot) → line ≡ call_line at → Args (call_line at) v.1 (tok (key w.open_paren) at ∷ ts) us) × ((x : Limit) → l x ≡ most_exprs x (c x) v.1)
Post s (r.exprs c) ts es us l = ExpList es ts us × ((x : Limit) → l x ≡ most_exprs x (c x) es)
Post s (r.more_exprs c) ts es us l = ((e : Expr) (ts0 : List Tok) → Exp 0 e ts0 ts → ExpList (expr_and e es) ts0 us) × ((x : Limit) → l x ≡ most_exprs x (c x) es)
Post s (r.fields c) ts fs us l = (at : Spot) × FieldList fs ts (tok (key w.close_brace) at ∷ us) × ((x : Limit) → l x ≡ most_fields x (c x) fs)
Post s (r.more_fields c) ts fs us l = (at : Spot) × MoreFields fs ts (tok (key w.close_brace) at ∷ us) × ((x : Limit) → l x ≡ most_fields x (c x) fs)
Post s (r.name_field line b c) ts fs us l =
    (at2 : Spot) × ((at : Spot) → line ≡ at.line → FieldList fs (tok (w.name b) at ∷ ts) (tok (key w.close_brace) at2 ∷ us)) × ((x : Limit) → max (node x (c x)) (l x) ≡ most_fields x (c x) fs)
Post s (r.func_body line hidden c) ts f us l = Body line hidden f ts us × ((x : Limit) → max (max (node x (c x)) (at_end x (length hidden))) (l x) ≡ most_func x (c x) f)
Post s (r.params n) ts v us l = Params v.0 v.1 ts us × ((x : Limit) → max (at_end x n) (l x) ≡ at_end x (n + length v.0))
Post s (r.next_param n) ts v us l =
    Params v.0 v.1 ts us × ((b : Bytes) (at at2 : Spot) → Params (b ∷ v.0) v.1 (tok (w.name b) at ∷ tok (key w.comma) at2 ∷ ts) us) × ((x : Limit) → max (at_end x n) (l x) ≡ at_end x (n + length v.0))
Post s (r.more_params n) ts v us l = ((b : Bytes) (at : Spot) → Params (b ∷ v.0) v.1 (tok (w.name b) at ∷ ts) us) × ((x : Limit) → max (at_end x n) (l x) ≡ at_end x (n + length v.0))
Post s (r.more_names n) ts xs us l = ((b : Bytes) (at : Spot) → NameList (b ∷ xs) (tok (w.name b) at ∷ ts) us) × ((x : Limit) → max (at_end x n) (l x) ≡ at_end x (n + length xs))
Post s r.chunk ts b us l = Stats b ts [] × (us ≡ []) × ((x : Limit) → max (at_end x (at_chunk x)) (l x) ≡ most_chunk x b)
Post s (r.block c) ts b us l = Stats b ts us × ((x : Limit) → max (at_end x (c x)) (l x) ≡ most_block x (c x) b)
Post s r.semi ts v us l = Semi ts us × ((x : Limit) → l x ≡ 0)
Post s (r.loop_block k c) ts b us l =
    (at : Spot) × (m : List Tok) × (at2 : Spot) × (ts ≡ tok (key w.do_) at ∷ m) × Stats b m (tok (key w.end_) at2 ∷ us) × ((x : Limit) → max (at_end x (in_loop k c x)) (l x) ≡ most_block x (in_loop k c x) b)
Post s (r.stat c) ts st us l = StatOf st ts us × ((x : Limit) → max (at_end x (c x)) (l x) ≡ max (most_stat x (c x) st) (at_end x (named x (declared st) (c x))))
Post s (r.prefix_stat line c e) ts st us l =
    ((ts0 : List Tok) → NotOpen (word_of ts) → Prefix e ts0 ts → line ≡ first_line ts0 → StatOf st ts0 us)
    × ((x : Limit) → max (max (at_end x (c x)) (most x (held (unfinished leading (shape e)) c x) e)) (l x) ≡ max (most_stat x (c x) st) (at_end x (named x (declared st) (c x))))
Post s (r.for_rest line b c) ts st us l =
    ((at at2 : Spot) → line ≡ at.line → StatOf st (tok (key w.for_) at ∷ tok (w.name b) at2 ∷ ts) us)
    × ((x : Limit) → max (max (at_end x (suc (c x))) (node x (c x))) (l x) ≡ max (most_stat x (c x) st) (at_end x (named x (declared st) (c x))))
Post s (r.num_for_rest line b a e c) ts st us l =
    ((at at2 at3 at4 : Spot) (m n : List Tok) → line ≡ at.line → Exp 0 a m (tok (key w.comma) at4 ∷ n) → Exp 0 e n ts → StatOf st (tok (key w.for_) at ∷ tok (w.name b) at2 ∷ tok (key w.assign) at3 ∷ m) us)
    × ((x : Limit) → max (max (max (at_end x (suc (c x))) (node x (c x))) (max (most x (c x) a) (most x (c x) e))) (l x) ≡ max (most_stat x (c x) st) (at_end x (named x (declared st) (c x))))
Post s (r.local_rest line c) ts st us l =
    ((at : Spot) → line ≡ at.line → StatOf st (tok (key w.local_) at ∷ ts) us) × ((x : Limit) → max (at_end x (c x)) (l x) ≡ max (most_stat x (c x) st) (at_end x (named x (declared st) (c x))))
Post s (r.last c) ts st us l = LastOf st ts us × (declared st ≡ 0) × ((x : Limit) → l x ≡ most_stat x (c x) st)
Post s (r.return_rest line c) ts st us l = ((at : Spot) → line ≡ at.line → LastOf st (tok (key w.return_) at ∷ ts) us) × (declared st ≡ 0) × ((x : Limit) → l x ≡ most_stat x (c x) st)
Post s (r.more_targets c) ts es us l = ((e : Expr) (ts0 : List Tok) → Var e ts0 ts → VarList (expr_and e es) ts0 us) × ((x : Limit) → l x ≡ most_exprs x (c x) es)
Post s (r.init c) ts es us l = ((at : Spot) (xs : List Bytes) (m : List Tok) → NameList xs m ts → StatOf (local at.line xs es) (tok (key w.local_) at ∷ m) us) × ((x : Limit) → l x ≡ most_exprs x (c x) es)
Post s (r.arms c) ts xs us l = ArmsOf xs ts us × ((x : Limit) → max (at_end x (c x)) (l x) ≡ max (at_end x (c x)) (most_arms x (c x) xs))
Post s (r.more_arms c) ts xs us l = MoreArms xs ts us × ((x : Limit) → max (max (at_end x (c x)) (node x (c x))) (l x) ≡ max (max (at_end x (c x)) (node x (c x))) (most_arms x (c x) xs))
Post s (r.func_name c a) ts v us l = ((ts0 : List Tok) → NamePath a ts0 ts → FuncName v.0 v.1 ts0 us) × ((x : Limit) → max (most x (c x) a) (l x) ≡ max (most x (c x) v.0) (at_end x (length v.1)))

-- what is to be shown of a program, so that what it reads is such
abbrev pub wp : (s : Sort) → Prog s → List Tok → (Value s → List Tok → Needs → Type 0) → Type 0
wp s (give a) ts P = P a ts free
wp s fail ts P = Unit {0}
wp s (take n p) [] P = Unit {0}
wp s (take n p) (t ∷ ts) P = wp s p ts (λ a us l. P a us (both n l))
wp s (look f) ts P = wp s (f (word_of ts) (spot_of ts)) ts P
wp s (expect k n f) ts P = (at : Spot) (us : List Tok) → ts ≡ tok (key k) at ∷ us → wp s (f at) us (λ a vs l. P a vs (both n l))
wp s (expect_name n f) ts P = (b : Bytes) (at : Spot) (us : List Tok) → ts ≡ tok (w.name b) at ∷ us → wp s (f b at) us (λ a vs l. P a vs (both n l))
wp s (at_last a) ts P = ts ≡ [] → P a [] free
wp s (then {q = q} r f) ts P = (a : Value q) (us : List Tok) (l : Needs) → Post q r ts a us l → wp s (f a) us (λ b vs m. P b vs (both l m))

-- every rule's program is such
abbrev pub AllSound : Type 0
AllSound = (s : Sort) (r : Rule s) (ts : List Tok) → wp s (program r) ts (Post s r ts)
