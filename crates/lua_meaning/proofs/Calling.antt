-- Locals, calls and operators are lawful.
use Rattle.std.proofs.Common.{ℕ, ◌+◌, List, [], ◌∷◌, length, Bool, true, false, Option, Some, None, Result, Ok, Err, arith, ℤ}
use Rattle.lua_value.specs.declared.arithmetic.NumFault.{NumFault}
use Rattle.lua_tree.specs.Tree.{Bytes, Func, UnOp, BinOp}
use Rattle.lua_meaning.specs.Value.{Value, nil, str, table, func}
use Rattle.lua_meaning.specs.World.{Act}
use Rattle.lua_meaning.specs.Fault.{Place}
use Rattle.lua_meaning.specs.Locals.{Env, Slot, held, cell, Flow, normal, broken, returned, slot_value, set_slot, set_found, set_local, find, make_slot, declare, in_scope, go_on, make_function, cells_of}
use Rattle.lua_meaning.specs.Names.{func_names}
use Rattle.lua_meaning.specs.Store.{add_cell}
use Rattle.lua_meaning.specs.Calls.{Calls, Here, Callee, Task, Later, fault_at, results, enter, enter_called, call, call_at, call_back, place}
use Rattle.lua_meaning.specs.Handlers.{Lookup, found, asks, unindexed, endless, Setting, in_table, asks_set, unindexed_set, endless_set}
use Rattle.lua_meaning.specs.Operators.{ask_handler, ask_or_fault, exact, by_numbers, calculate, by_number, by_texts, size, truth, untruth, equal_by, equal, less_by, less, not_greater, up_to_by, up_to_known, up_to, unary_value, binary_value, operate, looked_up, field, set_raw, set_by, set_field}
use Rattle.lua_meaning.proofs.Lawful.{Lawful, chain, costs, followed, behind, either, gives_lawful, raises_lawful, looks, looks_around, changes, keeps, ticked, ones}

-- ---- locals

pub slot_lawful : (s : Slot) → Lawful 0 (slot_value s)
slot_lawful (held v) = gives_lawful v
slot_lawful (cell c) = looks _

set_slot_lawful : (x : Bytes) (v : Value) (env : Env) (s : Slot) → Lawful 0 (set_slot x v env s)
set_slot_lawful x v env (held old) = gives_lawful _
set_slot_lawful x v env (cell c) = behind 0 (changes _) (gives_lawful _)

set_found_lawful : (x : Bytes) (v : Value) (env : Env) (s : Option Slot) →
    Lawful 0 (set_found x v env s)
set_found_lawful x v env None = gives_lawful _
set_found_lawful x v env (Some s) = set_slot_lawful x v env s

pub set_local_lawful : (x : Bytes) (v : Value) (env : Env) → Lawful 0 (set_local x v env)
set_local_lawful x v env = set_found_lawful x v env (find x env)

make_slot_lawful : (b : Bool) (v : Value) → Lawful 0 (make_slot b v)
make_slot_lawful false v = gives_lawful _
make_slot_lawful true v =
    followed 0 (looks (λ s. length s.cells)) (λ c. behind 0 (changes (λ s. add_cell s v))
    (gives_lawful (cell c)))

pub declare_lawful : (xs captured : List Bytes) (vs : List Value) (env : Env) →
    Lawful 0 (declare xs captured vs env)
declare_lawful [] captured vs env = gives_lawful _
declare_lawful (x ∷ xs) captured vs env =
    followed 0 (make_slot_lawful _ _) (λ s. declare_lawful xs captured _ _)

pub in_scope_lawful : (k : ℕ) (before : Env) (m : Act Flow) → Lawful k m →
    Lawful k (in_scope before m)
in_scope_lawful k before m l = costs (k + 0) k (omega arith) (chain k 0 l (λ flow. gives_lawful _))

pub go_on_lawful : (flow : Flow) (next : Env → Act Flow) → ((env : Env) → Lawful 0 (next env)) →
    Lawful 0 (go_on flow next)
go_on_lawful (normal env) next h = h env
go_on_lawful (broken env) next h = gives_lawful _
go_on_lawful (returned vs) next h = gives_lawful _

pub make_function_lawful : (file : Bytes) (f : Func) (env : Env) →
    Lawful 0 (make_function file f env)
make_function_lawful file f env =
    followed 0 (looks_around (λ functions s. length functions)) (λ place. behind 0 (keeps
    (record { file = file; node = f; cells = cells_of (func_names f) env })) (gives_lawful
    (func place)))

pub fault_lawful : {A : Type 0} (here : Here) (line : ℕ) (text : Bytes) →
    Lawful 0 (fault_at {A = A} here line text)
fault_lawful here line text = raises_lawful _

pub results_lawful : (k : ℕ) (m : Act Flow) → Lawful k m → Lawful k (results m)
results_lawful k m l = costs (k + 0) k (omega arith) (chain k 0 l (λ flow. gives_lawful _))

-- a later tick's meaning may make two asks for nothing
abbrev pub Paid : Later → Type 0
Paid again = (t : Task) → Lawful 2 (again t)

module _ (again : Later) (h : Paid again) where
  -- ---- calls

  pub enter_lawful : (at : Option Place) (calls : Calls) (callee : Callee) (args : List Value) →
      Lawful 0 (enter again at calls callee args)
  enter_lawful at calls callee args =
      ticked 0 (either 2 _ (results_lawful 2 _ (h _)) (costs 0 2 (omega arith) (raises_lawful _)))

  enter_called_lawful : (at : Option Place) (calls : Calls) (f : Value) (c : Option
      (Callee × List Value)) → Lawful 0 (enter_called again at calls f c)
  enter_called_lawful at calls f None = raises_lawful _
  enter_called_lawful at calls f (Some c) = enter_lawful at calls c.0 c.1

  pub call_lawful : (at : Option Place) (calls : Calls) (f : Value) (args : List Value) →
      Lawful 0 (call again at calls f args)
  call_lawful at calls f args = followed 0 (looks_around _) (λ c. enter_called_lawful at calls f c)

  pub call_at_lawful : (here : Here) (line : ℕ) (f : Value) (args : List Value) →
      Lawful 0 (call_at again here line f args)
  call_at_lawful here line f args = call_lawful (place here line) here.calls f args

  pub call_back_lawful : (calls : Calls) (f : Value) (args : List Value) →
      Lawful 0 (call_back again calls f args)
  call_back_lawful calls f args = call_lawful None calls f args

  -- ---- operators

  module _ (here : Here) (line : ℕ) where
    ask_lawful : (f : Value) (args : List Value) → Lawful 0 (ask_handler again here line f args)
    ask_lawful f args = ones 0 (call_at_lawful here line f args)

    ask_or_fault_lawful : (f : Value) (text : Bytes) (args : List Value) →
        Lawful 0 (ask_or_fault again here line f text args)
    ask_or_fault_lawful nil text args = fault_lawful here line text
    ask_or_fault_lawful f text args = ask_lawful f args

    exact_lawful : (r : Result ℤ NumFault) → Lawful 0 (exact again here line r)
    exact_lawful (Ok z) = gives_lawful _
    exact_lawful (Err e) = fault_lawful here line _

    by_numbers_lawful : (op : ℤ → ℤ → Result ℤ NumFault) (event : Bytes) (a b : Value)
        (x y : Option ℤ) → Lawful 0 (by_numbers again here line op event a b x y)
    by_numbers_lawful op event a b (Some x) (Some y) = exact_lawful _
    by_numbers_lawful op event a b x y = search (followed, looks, ask_or_fault_lawful)

    calculate_lawful : (op : ℤ → ℤ → Result ℤ NumFault) (event : Bytes) (a b : Value) →
        Lawful 0 (calculate again here line op event a b)
    calculate_lawful op event a b = by_numbers_lawful op event a b _ _

    by_number_lawful : (v : Value) (x : Option ℤ) → Lawful 0 (by_number again here line v x)
    by_number_lawful v (Some n) = gives_lawful _
    by_number_lawful v None = search (followed, looks, ask_or_fault_lawful)

    by_texts_lawful : (a b : Value) (x y : Option Bytes) →
        Lawful 0 (by_texts again here line a b x y)
    by_texts_lawful a b (Some x) (Some y) = either 0 _ (gives_lawful _) (fault_lawful here line _)
    by_texts_lawful a b x y = search (followed, looks, ask_or_fault_lawful)

    size_lawful : (v : Value) → Lawful 0 (size again here line v)
    size_lawful (str s) = gives_lawful _
    size_lawful (table t) = looks _
    size_lawful v = fault_lawful here line _

    truth_lawful : (v : Value) → Lawful 0 (truth again here line v)
    truth_lawful v = gives_lawful _

    untruth_lawful : (v : Value) → Lawful 0 (untruth again here line v)
    untruth_lawful v = gives_lawful _

    equal_by_lawful : (f : Value) (args : List Value) → Lawful 0 (equal_by again here line f args)
    equal_by_lawful f args =
        either 0 _ (followed 0 (ask_lawful f args) (λ v. truth_lawful v)) (gives_lawful _)

    equal_lawful : (a b : Value) → Lawful 0 (equal again here line a b)
    equal_lawful a b = search (either, followed, looks, equal_by_lawful, gives_lawful)

    less_by_lawful : (x : Option Bool) (a b : Value) → Lawful 0 (less_by again here line x a b)
    less_by_lawful (Some known) a b = gives_lawful _
    less_by_lawful None a b = search (followed, looks, ask_or_fault_lawful, truth_lawful)

    less_lawful : (a b : Value) → Lawful 0 (less again here line a b)
    less_lawful a b = less_by_lawful _ a b

    not_greater_lawful : (f a b : Value) → Lawful 0 (not_greater again here line f a b)
    not_greater_lawful f a b = followed 0 (ask_or_fault_lawful f _ _) (λ v. untruth_lawful v)

    up_to_by_lawful : (f a b : Value) → Lawful 0 (up_to_by again here line f a b)
    up_to_by_lawful nil a b = followed 0 (looks _) (λ f. not_greater_lawful f a b)
    up_to_by_lawful f a b = search (followed, ask_lawful, truth_lawful)

    up_to_known_lawful : (x : Option Bool) (a b : Value) →
        Lawful 0 (up_to_known again here line x a b)
    up_to_known_lawful (Some known) a b = gives_lawful _
    up_to_known_lawful None a b = search (followed, looks, up_to_by_lawful)

    up_to_lawful : (a b : Value) → Lawful 0 (up_to again here line a b)
    up_to_lawful a b = up_to_known_lawful _ a b

    pub unary_lawful : (op : UnOp) (v : Value) → Lawful 0 (unary_value again here line op v)
    unary_lawful UnOp.not_ v = untruth_lawful v
    unary_lawful UnOp.length_of v = size_lawful v
    unary_lawful UnOp.negate v = by_number_lawful v _

    binary_lawful : (op : BinOp) (a b : Value) → Lawful 0 (binary_value again here line op a b)
    binary_lawful BinOp.or_ a b = gives_lawful _
    binary_lawful BinOp.and_ a b = gives_lawful _
    binary_lawful BinOp.less a b = less_lawful a b
    binary_lawful BinOp.greater a b = less_lawful b a
    binary_lawful BinOp.less_equal a b = up_to_lawful a b
    binary_lawful BinOp.greater_equal a b = up_to_lawful b a
    binary_lawful BinOp.not_equal a b = followed 0 (equal_lawful a b) (λ v. untruth_lawful v)
    binary_lawful BinOp.equal a b = equal_lawful a b
    binary_lawful BinOp.concat a b = search by_texts_lawful
    binary_lawful BinOp.add a b = calculate_lawful _ _ a b
    binary_lawful BinOp.sub a b = calculate_lawful _ _ a b
    binary_lawful BinOp.mul a b = calculate_lawful _ _ a b
    binary_lawful BinOp.div a b = calculate_lawful _ _ a b
    binary_lawful BinOp.mod_ a b = calculate_lawful _ _ a b
    binary_lawful BinOp.pow a b = calculate_lawful _ _ a b

    pub operate_lawful : (op : BinOp) (l r : Act Value) → Lawful 0 l → Lawful 0 r →
        Lawful 0 (operate again here line op l r)
    operate_lawful BinOp.and_ l r x y = followed 0 x (λ a. either 0 _ y (gives_lawful _))
    operate_lawful BinOp.or_ l r x y = followed 0 x (λ a. either 0 _ (gives_lawful _) y)
    operate_lawful op l r x y = followed 0 x (λ a. followed 0 y (λ b. binary_lawful op a b))

    looked_up_lawful : (key : Value) (r : Lookup) → Lawful 0 (looked_up again here line key r)
    looked_up_lawful key (found v) = gives_lawful _
    looked_up_lawful key (asks f base) = ask_lawful f _
    looked_up_lawful key (unindexed v) = fault_lawful here line _
    looked_up_lawful key endless = fault_lawful here line _

    pub field_lawful : (base key : Value) → Lawful 0 (field again here line base key)
    field_lawful base key = followed 0 (looks _) (λ r. looked_up_lawful key r)

    pub set_raw_lawful : (t : ℕ) (key v : Value) → Lawful 0 (set_raw again here line t key v)
    set_raw_lawful t nil v = fault_lawful here line _
    set_raw_lawful t key v = changes _

    set_by_lawful : (key v : Value) (r : Setting) → Lawful 0 (set_by again here line key v r)
    set_by_lawful key v (in_table t) = set_raw_lawful t key v
    set_by_lawful key v (asks_set f base) = behind 0 (call_at_lawful here line f _) (gives_lawful _)
    set_by_lawful key v (unindexed_set base) = fault_lawful here line _
    set_by_lawful key v endless_set = fault_lawful here line _

    pub set_field_lawful : (base key v : Value) → Lawful 0 (set_field again here line base key v)
    set_field_lawful base key v = followed 0 (looks _) (λ r. set_by_lawful key v r)
