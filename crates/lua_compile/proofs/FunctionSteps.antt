-- What a function is made of.
use Rattle.std.proofs.Common.{◌≡◌, ℕ, List, [], ◌∷◌, ◌++◌, length, refl, ap, sym, subst, ◌∙◌, arith}
use Rattle.std.proofs.lemmas.List.{length-append}
use Rattle.lua_tree.specs.Tree as t
use Rattle.lua_tree.specs.Tree.{Bytes}
use Rattle.lua_tree.specs.declared.tree.Func.{Func}
use Rattle.lua_tree.specs.declared.tree.ExprKind.TheFolds.{fold_out-Func}
use Rattle.lua_tree.specs.declared.tree.ExprKind.TheViews.{out-Func}
use Rattle.lua_tree.specs.View.{expr_kind_step, field_step, stat_kind_step, arm_step, block_step, expr_step, func_step, stat_step, func_view, block_view}
use Rattle.lua_meaning.specs.Names.{func_names, captured_in}
use Rattle.lua_code.specs.Instr as i
use Rattle.lua_code.specs.Scope.{Scope, around, declared, declare_code, cell_names, cell_places}
use Rattle.lua_code.specs.Code.{block_code, last}
use Rattle.lua_code.specs.View.{ProtoView, Inner, inner_at}
use Rattle.lua_assembler.specs.Drafts.{Drafted, Head}
use Rattle.lua_compile.specs.Functions.{IsMade, func_body, func_inner}
use Rattle.lua_compile.specs.Locals.{TakesLocals}
use Rattle.lua_assembler.specs.Writing.{Written, made_of, inner_of, Adds, Opens, Closes}
use Rattle.lua_assembler.proofs.Adding.{adds_as, behind_nothing, three_added, function_made}

pub func_seen : (f : Func) → func_view f ≡ t.func (out-Func f).line (out-Func f).params (out-Func f).dots (block_view (out-Func f).body)
func_seen = fold_out-Func (ℕ → t.Expr) (t.Fields → t.Fields) (ℕ → t.Stat) (t.Arms → t.Arms) t.Block t.Expr t.Func t.Stat expr_kind_step field_step stat_kind_step arm_step block_step expr_step func_step stat_step

-- what a function begins with that stands in a scope
abbrev pub func_head : Func → (file : Bytes) → Scope → Head
func_head f file scope = record {
  file = file;
  params = length (out-Func f).params;
  varargs = (out-Func f).dots;
  captures = cell_places scope (func_names (func_view f));
}

inner_is : (f : Func) (file : Bytes) (scope : Scope) → inner_of (func_head f file scope) (func_body (func_view f) file (around (cell_names scope (func_names (func_view f))))) ≡ func_inner (func_view f) file scope
inner_is f file scope =
    subst (λ (v : t.Func). inner_of (record { file = file; params = length (out-Func f).params; varargs = (out-Func f).dots; captures = cell_places scope (func_names v) }) (func_body v file (around (cell_names scope (func_names v)))) ≡ func_inner v file scope) (sym (func_seen f)) refl

pub function_is : (f : Func) (file : Bytes) (scope inside : Scope) (head : Head) (aside : Drafted) (w0 w1 w2 w3 : Written)
    → head ≡ func_head f file scope → inside ≡ around (cell_names scope (func_names (func_view f)))
    → Opens head aside w0 w1 → Adds (func_body (func_view f) file inside) w1 w2 → Closes aside w2 w3
    → IsMade (length w2.protos) (func_inner (func_view f) file scope) w3
function_is f file scope inside head aside w0 w1 w2 w3 e s o a c = record {
  among = let l : length w3.protos ≡ length (w2.protos ++ c.protos.0 ∷ []) = ap (λ (l : List ProtoView). length l) c.protos.1 in let m = length-append w2.protos (c.protos.0 ∷ []) in omega (arith, l, m);
  is = function_made head aside _ w0 w1 w2 w3 o a c
      ∙ ap (λ (h : Head). inner_of h (func_body (func_view f) file inside)) e
      ∙ ap (λ (s : Scope). inner_of (func_head f file scope) (func_body (func_view f) file s)) s
      ∙ inner_is f file scope;
}

-- a function's body is its parameters' cells, its block, and its end
pub body_adds : (f : Func) (file : Bytes) (scope : Scope) (w0 w1 w2 w3 : Written)
    → Adds (last ∷ []) w0 w1
    → Adds (block_code (block_view (out-Func f).body) [] 0 file (declared (out-Func f).params (captured_in (block_view (out-Func f).body)) scope)) w1 w2
    → Adds (declare_code (out-Func f).params (captured_in (block_view (out-Func f).body)) scope) w2 w3
    → Adds (func_body (func_view f) file scope) w0 w3
body_adds f file scope w0 w1 w2 w3 a b c =
    adds_as _ _ w0 w3 (ap (λ (v : t.Func). func_body v file scope) (sym (func_seen f))) (three_added _ _ _ w0 w1 w2 w3 a b c)

pub body_takes : (f : Func) (file : Bytes) (scope inner behind out : Scope) (count : ℕ) (w0 w1 w2 w3 : Written)
    → inner ≡ declared (out-Func f).params (captured_in (block_view (out-Func f).body)) scope → behind ≡ inner → length (out-Func f).params ≡ count
    → Adds (last ∷ []) w0 w1 → Adds (block_code (block_view (out-Func f).body) [] 0 file inner) w1 w2 → TakesLocals count behind out w2 w3
    → Adds (func_body (func_view f) file scope) w0 w3
body_takes f file scope inner behind out count w0 w1 w2 w3 e g l a b takes =
    body_adds f file scope w0 w1 w2 w3 a
    (adds_as _ _ w1 w2 (ap (λ (s : Scope). block_code (block_view (out-Func f).body) [] 0 file s) e) b)
    ((takes (out-Func f).params (captured_in (block_view (out-Func f).body)) scope l (g ∙ e)).1)

pub head_as : (f : Func) (file text : Bytes) (scope : Scope) (n : ℕ) (cells : List ℕ) → text ≡ file → n ≡ length (out-Func f).params → cells ≡ cell_places scope (func_names (func_view f))
    → record { file = text; params = n; varargs = (out-Func f).dots; captures = cells } ≡ func_head f file scope
head_as f file text scope n cells a b c =
    let H : Bytes → ℕ → List ℕ → Head = λ x m cs. record { file = x; params = m; varargs = (out-Func f).dots; captures = cs } in
    ap (λ x. H x n cells) a ∙ ap (λ m. H file m cells) b ∙ ap (λ cs. H file (length (out-Func f).params) cs) c

-- a closure of a function that is made
pub closure_adds : (to n : ℕ) (inner : Inner) (w0 w1 w2 : Written) → Adds [] w0 w1 → IsMade n inner w1 → Adds (i.close to (inner_at (made_of w1) n).code (inner_at (made_of w1) n).captures ∷ []) w1 w2 → Adds (i.close to inner.code inner.captures ∷ []) w0 w2
closure_adds to n inner w0 w1 w2 a m b = behind_nothing _ w0 w1 w2 a (adds_as _ _ w1 w2 (ap (λ (x : Inner). i.close to x.code x.captures ∷ []) m.is) b)
