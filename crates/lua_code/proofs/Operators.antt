-- Operators and fields do in the machine what they mean.
use Rattle.std.proofs.Common.{ℕ, ◌≡◌, refl, ap, ◌∙◌, List, [], ◌∷◌, Option, Some, None, Bool, true, false, Result, Ok, Err, ℤ}
use Rattle.std.specs.Prelude.{not, if◌then◌else◌, codes}
use Rattle.lua_value.specs.Arithmetic as arithmetic
use Rattle.lua_value.specs.declared.arithmetic.NumFault.{NumFault}
use Rattle.lua_tree.specs.Tree.{Bytes, UnOp, BinOp}
use Rattle.lua_meaning.specs.Value.{Value, nil, flag, str, table, is_true, first, same}
use Rattle.lua_meaning.specs.Text.{as_number, as_text}
use Rattle.lua_meaning.specs.World.{World, Ends, gives, fails, out_of_steps, needs, ◌>>>◌, Act, ◌>>=◌, give}
use Rattle.lua_meaning.specs.Handlers as handlers
use Rattle.lua_meaning.specs.Handlers.{Lookup, lookup, is_function}
use Rattle.lua_meaning.specs.Calls.{Later, Here, fault_at, call_at}
use Rattle.lua_meaning.specs.Operators as meaning
use Rattle.lua_meaning.specs.Operators.{shared_handler, is_less, is_not_greater, unary_value, binary_value}
use Rattle.lua_code.specs.Doing as doing
use Rattle.lua_code.specs.Doing.{Use, plain, truth, untruth, Doing, gives as gives_value, faults, asks, other_use, opposite, unary_doing, binary_doing, field_doing}

used_on : (e : Ends (List Value)) (f : Value → Act Value) → ((e >>> λ vs w. gives (first vs) w) >>> λ v w. f v w) ≡ (e >>> λ vs w. f (first vs) w)
used_on (gives vs w) f = refl
used_on (fails v w) f = refl
used_on (out_of_steps w) f = refl
used_on (needs ask w) f = refl

not_not : (b : Bool) → not (not b) ≡ b
not_not true = refl
not_not false = refl

module _ (again : Later) (here : Here) (line : ℕ) where
  abbrev pub used : Use → Value → Act Value
  used plain v = give v
  used truth v = meaning.truth again here line v
  used untruth v = meaning.untruth again here line v

  -- what a doing means
  abbrev pub means : Doing → Act Value
  means (gives_value v) = give v
  means (faults text) = fault_at here line text
  means (asks h args u) = call_at again here line h args >>= λ vs. used u (first vs)

  ask_plain : (h : Value) (text : Bytes) (args : List Value) (w : World) → meaning.ask_or_fault again here line h text args w ≡ means (doing.ask_or_fault h text args plain) w
  ask_plain nil text args w = refl
  ask_plain h text args w = refl

  ask_truth : (h : Value) (text : Bytes) (args : List Value) (w : World) → (meaning.ask_or_fault again here line h text args w >>> λ v w. meaning.truth again here line v w) ≡ means (doing.ask_or_fault h text args truth) w
  ask_truth nil text args w = refl
  ask_truth h text args w = used_on (call_at again here line h args w) (λ v. meaning.truth again here line v)

  ask_untruth : (h : Value) (text : Bytes) (args : List Value) (w : World) → (meaning.ask_or_fault again here line h text args w >>> λ v w. meaning.untruth again here line v w) ≡ means (doing.ask_or_fault h text args untruth) w
  ask_untruth nil text args w = refl
  ask_untruth h text args w = used_on (call_at again here line h args w) (λ v. meaning.untruth again here line v)

  exact_is : (x : Result ℤ NumFault) (w : World) → meaning.exact again here line x w ≡ means (doing.exact x) w
  exact_is (Ok z) w = refl
  exact_is (Err e) w = refl

  by_numbers_is : (op : ℤ → ℤ → Result ℤ NumFault) (event : Bytes) (a b : Value) (x y : Option ℤ) (w : World) → meaning.by_numbers again here line op event a b x y w ≡ means (doing.by_numbers op event w.store a b x y) w
  by_numbers_is op event a b (Some x) (Some y) w = exact_is (op x y) w
  by_numbers_is op event a b (Some x) None w = ask_plain _ _ _ w
  by_numbers_is op event a b None y w = ask_plain _ _ _ w

  negative_is : (v : Value) (x : Option ℤ) (w : World) → meaning.by_number again here line v x w ≡ means (doing.negative w.store v x) w
  negative_is v (Some n) w = refl
  negative_is v None w = ask_plain _ _ _ w

  by_texts_if : (b : Bool) (v : Value) (text : Bytes) (w : World) → (if b then give v else fault_at here line text) w ≡ means (if b then gives_value v else faults text) w
  by_texts_if true v text w = refl
  by_texts_if false v text w = refl

  by_texts_is : (a b : Value) (x y : Option Bytes) (w : World) → meaning.by_texts again here line a b x y w ≡ means (doing.by_texts w.store a b x y) w
  by_texts_is a b (Some x) (Some y) w = by_texts_if _ _ _ w
  by_texts_is a b (Some x) None w = ask_plain _ _ _ w
  by_texts_is a b None y w = ask_plain _ _ _ w

  size_is : (v : Value) (w : World) → meaning.size again here line v w ≡ means (doing.size w.store v) w
  size_is (str s) w = refl
  size_is (table t) w = refl
  size_is v w = refl

  equal_by_if : (c : Bool) (h : Value) (args : List Value) (w : World) → (if c then (meaning.ask_handler again here line h args >>= λ v. meaning.truth again here line v) else give (flag false)) w ≡ means (if c then asks h args truth else gives_value (flag false)) w
  equal_by_if true h args w = used_on (call_at again here line h args w) (λ v. meaning.truth again here line v)
  equal_by_if false h args w = refl

  equal_if : (c : Bool) (a b : Value) (w : World) → (if c then give (flag true) else (λ w. meaning.equal_by again here line (shared_handler w.store (codes "__eq") a b) (a ∷ b ∷ []) w)) w ≡ means (if c then gives_value (flag true) else doing.equal_by (shared_handler w.store (codes "__eq") a b) (a ∷ b ∷ [])) w
  equal_if true a b w = refl
  equal_if false a b w = equal_by_if (is_function (shared_handler w.store (codes "__eq") a b)) (shared_handler w.store (codes "__eq") a b) (a ∷ b ∷ []) w

  equal_is : (a b : Value) (w : World) → meaning.equal again here line a b w ≡ means (doing.equal w.store a b) w
  equal_is a b w = equal_if (same a b) a b w

  opposite_use : (e : Ends (List Value)) (u : Use) → ((e >>> λ vs w. used u (first vs) w) >>> λ v w. meaning.untruth again here line v w) ≡ (e >>> λ vs w. used (other_use u) (first vs) w)
  opposite_use (gives vs w) plain = refl
  opposite_use (gives vs w) truth = refl
  opposite_use (gives vs w) untruth = ap (λ b. gives (flag b) w) (not_not (is_true (first vs)))
  opposite_use (fails v w) u = refl
  opposite_use (out_of_steps w) u = refl
  opposite_use (needs ask w) u = refl

  opposite_is : (d : Doing) (w : World) → (means d w >>> λ v w. meaning.untruth again here line v w) ≡ means (opposite d) w
  opposite_is (gives_value v) w = refl
  opposite_is (faults text) w = refl
  opposite_is (asks h args u) w = opposite_use (call_at again here line h args w) u

  less_by_is : (known : Option Bool) (a b : Value) (w : World) → meaning.less_by again here line known a b w ≡ means (doing.less_by known w.store a b) w
  less_by_is (Some known) a b w = refl
  less_by_is None a b w = ask_truth _ _ _ w

  up_to_by_is : (h a b : Value) (w : World) → meaning.up_to_by again here line h a b w ≡ means (doing.up_to_by h w.store a b) w
  up_to_by_is nil a b w = ask_untruth _ _ _ w
  up_to_by_is h a b w = used_on (call_at again here line h (a ∷ b ∷ []) w) (λ v. meaning.truth again here line v)

  up_to_known_is : (known : Option Bool) (a b : Value) (w : World) → meaning.up_to_known again here line known a b w ≡ means (doing.up_to_known known w.store a b) w
  up_to_known_is (Some known) a b w = refl
  up_to_known_is None a b w = up_to_by_is (shared_handler w.store (codes "__le") a b) a b w

  pub unary_is : (op : UnOp) (v : Value) (w : World) → unary_value again here line op v w ≡ means (unary_doing op w.store v) w
  unary_is UnOp.not_ v w = refl
  unary_is UnOp.length_of v w = size_is v w
  unary_is UnOp.negate v w = negative_is v (as_number v) w

  pub binary_is : (op : BinOp) (a b : Value) (w : World) → binary_value again here line op a b w ≡ means (binary_doing op w.store a b) w
  binary_is BinOp.or_ a b w = refl
  binary_is BinOp.and_ a b w = refl
  binary_is BinOp.less a b w = less_by_is (is_less a b) a b w
  binary_is BinOp.greater a b w = less_by_is (is_less b a) b a w
  binary_is BinOp.less_equal a b w = up_to_known_is (is_not_greater a b) a b w
  binary_is BinOp.greater_equal a b w = up_to_known_is (is_not_greater b a) b a w
  binary_is BinOp.not_equal a b w = ap (λ e. e >>> λ v w. meaning.untruth again here line v w) (equal_is a b w) ∙ opposite_is (doing.equal w.store a b) w
  binary_is BinOp.equal a b w = equal_is a b w
  binary_is BinOp.concat a b w = by_texts_is a b (as_text a) (as_text b) w
  binary_is BinOp.add a b w = by_numbers_is arithmetic.add (codes "__add") a b (as_number a) (as_number b) w
  binary_is BinOp.sub a b w = by_numbers_is arithmetic.sub (codes "__sub") a b (as_number a) (as_number b) w
  binary_is BinOp.mul a b w = by_numbers_is arithmetic.mul (codes "__mul") a b (as_number a) (as_number b) w
  binary_is BinOp.div a b w = by_numbers_is arithmetic.div (codes "__div") a b (as_number a) (as_number b) w
  binary_is BinOp.mod_ a b w = by_numbers_is arithmetic.rem (codes "__mod") a b (as_number a) (as_number b) w
  binary_is BinOp.pow a b w = by_numbers_is arithmetic.pow (codes "__pow") a b (as_number a) (as_number b) w

  looked_up_is : (key : Value) (l : Lookup) (w : World) → meaning.looked_up again here line key l w ≡ means (doing.looked_up key l) w
  looked_up_is key (handlers.found v) w = refl
  looked_up_is key (handlers.asks h base) w = refl
  looked_up_is key (handlers.unindexed v) w = refl
  looked_up_is key handlers.endless w = refl

  pub field_is : (base key : Value) (w : World) → meaning.field again here line base key w ≡ means (field_doing w.store base key) w
  field_is base key w = looked_up_is key (lookup w.store base key) w
