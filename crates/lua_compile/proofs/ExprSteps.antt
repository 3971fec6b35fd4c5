-- What the parts of an expression add is its code.
use Rattle.std.proofs.Common.{◌≡◌, ℕ, suc, ◌+◌, ◌-◌, List, [], ◌∷◌, ◌++◌, length, refl, ap, sym, subst, ◌∙◌, arith}
use Rattle.lua_tree.specs.Tree as t
use Rattle.lua_tree.specs.Tree.{Bytes}
use Rattle.lua_tree.specs.declared.tree.BinOp.{BinOp}
use Rattle.lua_tree.specs.declared.tree.BinOp.TheVariants.{And, Or}
use Rattle.lua_tree.specs.declared.tree.Expr.{Expr}
use Rattle.lua_tree.specs.View.{binary_view, expr_view}
use Rattle.lua_code.specs.Instr as i
use Rattle.lua_code.specs.Instr.{slot}
use Rattle.lua_code.specs.Scope.{Scope}
use Rattle.lua_code.specs.Code.{expr_code, tail_code, exprs_code, fields_code, settle, site, ready, ready_slot, unless_ready, place, slot_place}
use Rattle.lua_assembler.specs.Writing.{Written, code_of, Adds}
use Rattle.lua_assembler.proofs.Adding.{adds_as, both_added, three_added, four_added, adds_length}

-- ---- an expression that is seen

pub seen_adds : (x : Expr) (e : t.Expr) (file : Bytes) (scope : Scope) (h to : ℕ) (old new : Written) → expr_view x ≡ e → Adds (expr_code e file scope h to) old new → Adds (expr_code (expr_view x) file scope h to) old new
seen_adds x e file scope h to old new s a = adds_as _ _ old new (ap (λ (y : t.Expr). expr_code y file scope h to) (sym s)) a

pub seen_tail : (x : Expr) (e : t.Expr) (file : Bytes) (scope : Scope) (h : ℕ) (old new : Written) → expr_view x ≡ e → Adds (tail_code e file scope h) old new → Adds (tail_code (expr_view x) file scope h) old new
seen_tail x e file scope h old new s a = adds_as _ _ old new (ap (λ (y : t.Expr). tail_code y file scope h) (sym s)) a

-- ---- jumps over what was added

length_back : (n m k : ℕ) → m ≡ n + k → m - k ≡ n
length_back n m k e = omega (arith, e)

pub since_added : (added : List i.Instr) (old new : Written) → Adds added old new → length (code_of new) - length (code_of old) ≡ length added
since_added added old new a = length_back (length added) _ (length (code_of old)) (adds_length added old new a)

-- ---- nodes

-- code for a slot is that for the same slot
pub moved : (n m : ℕ) (code : ℕ → List i.Instr) (old new : Written) → n ≡ m → Adds (code n) old new → Adds (code m) old new
moved n m code old new e a = subst (λ k. Adds (code k) old new) e a

-- ---- an expression that is the same one

pub same_code : (x y : Expr) (file : Bytes) (scope : Scope) (h to : ℕ) (old new : Written) → x ≡ y → Adds (expr_code (expr_view x) file scope h to) old new → Adds (expr_code (expr_view y) file scope h to) old new
same_code x y file scope h to old new e a = subst (λ (z : Expr). Adds (expr_code (expr_view z) file scope h to) old new) e a

pub same_right : (x y : Expr) (file : Bytes) (scope : Scope) (n : ℕ) (old new : Written) → x ≡ y
    → Adds (unless_ready (ready (expr_view x) scope) (expr_code (expr_view x) file scope n n)) old new
    → Adds (unless_ready (ready (expr_view y) scope) (expr_code (expr_view y) file scope n n)) old new
same_right x y file scope n old new e a = subst (λ (z : Expr). Adds (unless_ready (ready (expr_view z) scope) (expr_code (expr_view z) file scope n n)) old new) e a

pub same_left : (x y : Expr) (file : Bytes) (scope : Scope) (n : ℕ) (old new : Written) → x ≡ y
    → Adds (unless_ready (ready_slot (expr_view x) scope) (expr_code (expr_view x) file scope n n)) old new
    → Adds (unless_ready (ready_slot (expr_view y) scope) (expr_code (expr_view y) file scope n n)) old new
same_left x y file scope n old new e a = subst (λ (z : Expr). Adds (unless_ready (ready_slot (expr_view z) scope) (expr_code (expr_view z) file scope n n)) old new) e a

-- an instruction of a left and a right operand
pub same_operands : (x a y b : Expr) (scope : Scope) (h : ℕ) (node : i.Operand → i.Operand → i.Instr) (old new : Written) → x ≡ a → y ≡ b
    → Adds (node (slot (slot_place (ready_slot (expr_view x) scope) h)) (place (ready (expr_view y) scope) (suc h)) ∷ []) old new
    → Adds (node (slot (slot_place (ready_slot (expr_view a) scope) h)) (place (ready (expr_view b) scope) (suc h)) ∷ []) old new
same_operands x a y b scope h node old new e f p =
    subst (λ (z : Expr). Adds (node (slot (slot_place (ready_slot (expr_view a) scope) h)) (place (ready (expr_view z) scope) (suc h)) ∷ []) old new) f
    (subst (λ (z : Expr). Adds (node (slot (slot_place (ready_slot (expr_view z) scope) h)) (place (ready (expr_view y) scope) (suc h)) ∷ []) old new) e p)

pub same_operand : (x a : Expr) (scope : Scope) (h : ℕ) (node : i.Operand → i.Instr) (old new : Written) → x ≡ a
    → Adds (node (slot (slot_place (ready_slot (expr_view x) scope) h)) ∷ []) old new
    → Adds (node (slot (slot_place (ready_slot (expr_view a) scope) h)) ∷ []) old new
same_operand x a scope h node old new e p = subst (λ (z : Expr). Adds (node (slot (slot_place (ready_slot (expr_view z) scope) h)) ∷ []) old new) e p

module _ (line : ℕ) (file : Bytes) (scope : Scope) (h to : ℕ) where
  pub index_adds : (e k : t.Expr) (n : ℕ) (w0 w1 w2 w3 : Written) → n ≡ suc h
      → Adds (i.get_field (site line (h + 2) scope) to (slot (slot_place (ready_slot e scope) h)) (place (ready k scope) (suc h)) ∷ []) w0 w1
      → Adds (unless_ready (ready k scope) (expr_code k file scope n n)) w1 w2
      → Adds (unless_ready (ready_slot e scope) (expr_code e file scope h h)) w2 w3
      → Adds (expr_code (t.index line e k) file scope h to) w0 w3
  index_adds e k n w0 w1 w2 w3 g a b c = three_added _ _ _ w0 w1 w2 w3 a (moved n (suc h) (λ m. unless_ready (ready k scope) (expr_code k file scope m m)) w1 w2 g b) c

  -- a call: `back` has the call itself and what is behind it
  pub call_adds : (f : t.Expr) (es : t.Exprs) (back : List i.Instr) (n : ℕ) (w0 w1 w2 w3 : Written) → n ≡ suc h
      → Adds back w0 w1
      → Adds (exprs_code es file scope n) w1 w2
      → Adds (expr_code f file scope h h) w2 w3
      → Adds (expr_code f file scope h h ++ (exprs_code es file scope (suc h) ++ back)) w0 w3
  call_adds f es back n w0 w1 w2 w3 g a b c = three_added _ _ _ w0 w1 w2 w3 a (moved n (suc h) (λ m. exprs_code es file scope m) w1 w2 g b) c

  pub method_adds : (e : t.Expr) (es : t.Exprs) (name : i.Instr) (back : List i.Instr) (n m : ℕ) (w0 w1 w2 w3 w4 : Written) → n ≡ suc h → m ≡ suc n
      → Adds back w0 w1
      → Adds (exprs_code es file scope m) w1 w2
      → Adds (name ∷ []) w2 w3
      → Adds (expr_code e file scope n n) w3 w4
      → Adds (expr_code e file scope (suc h) (suc h) ++ name ∷ (exprs_code es file scope (h + 2) ++ back)) w0 w4
  method_adds e es name back n m w0 w1 w2 w3 w4 f g a b c d =
      four_added _ (name ∷ []) _ _ w0 w1 w2 w3 w4 a
      (moved m (h + 2) (λ k. exprs_code es file scope k) w1 w2 (omega (arith, f, g)) b) c
      (moved n (suc h) (λ k. expr_code e file scope k k) w3 w4 f d)

  pub table_adds : (fs : t.Fields) (w0 w1 w2 w3 : Written)
      → Adds (settle to h) w0 w1
      → Adds (fields_code fs line 1 file scope h) w1 w2
      → Adds (i.new_table h ∷ []) w2 w3
      → Adds (expr_code (t.table line fs) file scope h to) w0 w3
  table_adds fs w0 w1 w2 w3 a b c = three_added (i.new_table h ∷ []) _ _ w0 w1 w2 w3 a b c

  pub unary_adds : (op : t.UnOp) (e : t.Expr) (w0 w1 w2 : Written)
      → Adds (i.unary (site line (suc h) scope) op to (slot (slot_place (ready_slot e scope) h)) ∷ []) w0 w1
      → Adds (unless_ready (ready_slot e scope) (expr_code e file scope h h)) w1 w2
      → Adds (expr_code (t.unary line op e) file scope h to) w0 w2
  unary_adds op e w0 w1 w2 a b = both_added _ _ w0 w1 w2 a b

  -- the right operand stands behind a jump over it
  jump_adds : (jump : ℕ → i.Instr) (left right back : List i.Instr) (end : ℕ) (w0 w1 w2 w3 w4 : Written)
      → Adds back w0 w1 → end ≡ length (code_of w1) → Adds right w1 w2
      → Adds (jump (length (code_of w2) - end) ∷ []) w2 w3 → Adds left w3 w4
      → Adds (left ++ jump (length right) ∷ (right ++ back)) w0 w4
  jump_adds jump left right back end w0 w1 w2 w3 w4 a e b j c =
      let n : length (code_of w2) - end ≡ length right = ap (λ k. length (code_of w2) - k) e ∙ since_added right w1 w2 b in
      four_added left (jump (length right) ∷ []) right back w0 w1 w2 w3 w4 a b (subst (λ k. Adds (jump k ∷ []) w2 w3) n j) c

  pub and_adds : (a b : t.Expr) (end : ℕ) (w0 w1 w2 w3 w4 : Written)
      → Adds (settle to h) w0 w1 → end ≡ length (code_of w1) → Adds (expr_code b file scope h h) w1 w2
      → Adds (i.skip_unless h (length (code_of w2) - end) ∷ []) w2 w3 → Adds (expr_code a file scope h h) w3 w4
      → Adds (expr_code (t.binary line t.and_ a b) file scope h to) w0 w4
  and_adds a b end w0 w1 w2 w3 w4 x e y j z = jump_adds (λ n. i.skip_unless h n) _ _ _ end w0 w1 w2 w3 w4 x e y j z

  pub or_adds : (a b : t.Expr) (end : ℕ) (w0 w1 w2 w3 w4 : Written)
      → Adds (settle to h) w0 w1 → end ≡ length (code_of w1) → Adds (expr_code b file scope h h) w1 w2
      → Adds (i.skip_if h (length (code_of w2) - end) ∷ []) w2 w3 → Adds (expr_code a file scope h h) w3 w4
      → Adds (expr_code (t.binary line t.or_ a b) file scope h to) w0 w4
  or_adds a b end w0 w1 w2 w3 w4 x e y j z = jump_adds (λ n. i.skip_if h n) _ _ _ end w0 w1 w2 w3 w4 x e y j z

  -- an operator that isn't `and` or `or`
  plain_code : (op : BinOp) (a b : t.Expr) → (op ≡ And → ⊥) → (op ≡ Or → ⊥)
      → unless_ready (ready_slot a scope) (expr_code a file scope h h) ++ (unless_ready (ready b scope) (expr_code b file scope (suc h) (suc h)) ++ i.binary (site line (h + 2) scope) (binary_view op) to (slot (slot_place (ready_slot a scope) h)) (place (ready b scope) (suc h)) ∷ []) ≡ expr_code (t.binary line (binary_view op) a b) file scope h to
  plain_code And a b n m = absurd (n refl)
  plain_code Or a b n m = absurd (m refl)
  plain_code op a b n m = refl

  pub binary_adds : (op : BinOp) (a b : t.Expr) (n : ℕ) (w0 w1 w2 w3 : Written) → (op ≡ And → ⊥) → (op ≡ Or → ⊥) → n ≡ suc h
      → Adds (i.binary (site line (h + 2) scope) (binary_view op) to (slot (slot_place (ready_slot a scope) h)) (place (ready b scope) (suc h)) ∷ []) w0 w1
      → Adds (unless_ready (ready b scope) (expr_code b file scope n n)) w1 w2
      → Adds (unless_ready (ready_slot a scope) (expr_code a file scope h h)) w2 w3
      → Adds (expr_code (t.binary line (binary_view op) a b) file scope h to) w0 w3
  binary_adds op a b n w0 w1 w2 w3 p q g x y z =
      adds_as _ _ w0 w3 (plain_code op a b p q)
      (three_added _ _ _ w0 w1 w2 w3 x (moved n (suc h) (λ m. unless_ready (ready b scope) (expr_code b file scope m m)) w1 w2 g y) z)
