-- Tasks are lawful at every number of ticks, and so are runs.
use Rattle.std.proofs.Common.{ℕ, zero, suc, ◌+◌, ◌*◌, ◌-◌, ◌≤◌, ◌≡◌, refl, sym, ap, subst, List, [], ◌∷◌, length, false, Result, Ok, Err, arith, ℤ}
use Rattle.lua_value.specs.Arithmetic.{add}
use Rattle.lua_value.specs.declared.arithmetic.NumFault.{NumFault}
use Rattle.love_base.specs.Prefix.{IsPrefix}
use Rattle.lua_tree.specs.Tree.{Bytes, Expr, Func, func, Block}
use Rattle.lua_meaning.specs.Value.{Value, num, is_true}
use Rattle.lua_meaning.specs.Names.{expr_names}
use Rattle.lua_meaning.specs.Store.{Store, Closure}
use Rattle.lua_meaning.specs.Message.{Reply}
use Rattle.lua_meaning.specs.World.{World, Act, Ends, gives, fails, out_of_steps, needs}
use Rattle.lua_meaning.specs.Locals.{Env, Flow, normal, broken, returned}
use Rattle.lua_meaning.specs.Calls.{Calls, Here, Callee, made, library, chunk, Task, invoke, while_turn, repeat_turn, count_turn, each_turn, clear_turn, Later}
use Rattle.lua_meaning.specs.Control.{Game, Code, ready, faulty, not_lua}
use Rattle.lua_meaning.specs.Running.{run_function, run_callee, looped, turn, while_true, until, counted, count_on, each_on, task, within}
use Rattle.lua_meaning.specs.Run.{Start, no_steps, first_store, first_world, run_of, ended, meant, run_code, run}
use Rattle.lua_meaning.specs.Packing.{unpack_all}
use Rattle.lua_meaning.specs.Laws.{left, Grows, Extends, waiting, with_replies}
use Rattle.lua_meaning.proofs.Lawful.{Lawful, Step, Extended, pending, same_prefix, chain, costs, free, followed, either, gives_lawful, ticked, ones}
use Rattle.lua_meaning.proofs.Calling.{Paid, declare_lawful, in_scope_lawful, call_at_lawful}
use Rattle.lua_meaning.proofs.Evaluating.{eval_lawful, block_lawful}
use Rattle.lua_meaning.proofs.Functions.{run_library_lawful, clear_lawful}

module _ (game : Game) (again : Later) (h : Paid again) where
  function_lawful : (closure : Closure) (f : Func) (args : List Value) (calls : Calls) →
      Lawful 0 (run_function again closure f args calls)
  function_lawful closure (func line params varargs body) args calls =
      followed 0 (declare_lawful params _ args _) (λ env. block_lawful again h _ [] body env)

  pub chunk_lawful : (file : Bytes) (b : Block) (args : List Value) (calls : Calls) →
      Lawful 0 (run_callee game again (chunk file b) args calls)
  chunk_lawful file b args calls = block_lawful again h _ [] b []

  callee_lawful : (callee : Callee) (args : List Value) (calls : Calls) →
      Lawful 2 (run_callee game again callee args calls)
  callee_lawful (made closure) args calls = free (function_lawful closure closure.node args calls)
  callee_lawful (library f) args calls =
      costs (2 + 0) 2 (omega arith) (chain 2 0 (run_library_lawful game again h f args calls)
      (λ vs. gives_lawful (returned vs)))
  callee_lawful (chunk file b) args calls = free (chunk_lawful file b args calls)

  looped_lawful : (flow : Flow) (next : Env → Act Flow) → ((env : Env) → Lawful 2 (next env)) →
      Lawful 2 (looped flow next)
  looped_lawful (normal env) next l = l env
  looped_lawful (broken env) next l = free (gives_lawful _)
  looped_lawful (returned vs) next l = free (gives_lawful _)

  turn_lawful : (here : Here) (xs : List Bytes) (vs : List Value) (b : Block) (env : Env) →
      Lawful 0 (turn again here xs vs b env)
  turn_lawful here xs vs b env =
      ticked 0 (free (followed 0 (declare_lawful xs _ vs env) (λ inner. in_scope_lawful 0 env _
      (block_lawful again h here [] b inner))))

  while_lawful : (here : Here) (env : Env) (e : Expr) (b : Block) (v : Value) →
      Lawful 2 (while_true again here env e b v)
  while_lawful here env e b v =
      either 2 (is_true v) (followed 2 (turn_lawful here [] [] b env) (λ flow. looped_lawful flow _
      (λ env. h (while_turn here env e b)))) (free (gives_lawful _))

  until_lawful : (here : Here) (before : Env) (b : Block) (e : Expr) (flow : Flow) →
      Lawful 2 (until again here before b e flow)
  until_lawful here before b e (normal env) =
      followed 2 (ones 0 (eval_lawful again h here e env)) (λ v. either 2 (is_true v) (free
      (gives_lawful _)) (h _))
  until_lawful here before b e (broken env) = free (gives_lawful _)
  until_lawful here before b e (returned vs) = free (gives_lawful _)

  counted_lawful : (here : Here) (env : Env) (x : Bytes) (b : Block) (m k : ℤ)
      (r : Result ℤ NumFault) → Lawful 2 (counted again here env x b m k r)
  counted_lawful here env x b m k (Ok n) = h _
  counted_lawful here env x b m k (Err e) = free (gives_lawful _)

  count_on_lawful : (here : Here) (env : Env) (x : Bytes) (b : Block) (n m k : ℤ) →
      Lawful 2 (count_on again here env x b n m k)
  count_on_lawful here env x b n m k =
      followed 2 (turn_lawful here (x ∷ []) (num n ∷ []) b env) (λ flow. looped_lawful flow _
      (λ env. counted_lawful here env x b m k (add n k)))

  each_on_lawful : (here : Here) (env : Env) (line : ℕ) (xs : List Bytes) (b : Block) (f s : Value)
      (vs : List Value) → Lawful 2 (each_on again here env line xs b f s vs)
  each_on_lawful here env line xs b f s vs =
      either 2 _ (free (gives_lawful _)) (followed 2 (turn_lawful here xs vs b env)
      (λ flow. looped_lawful flow _ (λ env. h _)))

  task_lawful : (t : Task) → Lawful 2 (task game again t)
  task_lawful (invoke callee args calls) = callee_lawful callee args calls
  task_lawful (while_turn here env e b) =
      followed 2 (ones 0 (eval_lawful again h here e env)) (λ v. while_lawful here env e b v)
  task_lawful (repeat_turn here env b e) =
      costs 0 2 (omega arith) (ticked 0 (followed 2 (block_lawful again h here
      (expr_names false e) b env) (λ flow. until_lawful here env b e flow)))
  task_lawful (count_turn here env x b n m k) =
      either 2 _ (count_on_lawful here env x b n m k) (free (gives_lawful _))
  task_lawful (each_turn here env line xs b f s v) =
      followed 2 (call_at_lawful again h here line f _)
      (λ vs. each_on_lawful here env line xs b f s vs)
  task_lawful clear_turn = costs 1 2 (omega arith) (clear_lawful again h)

nothing_lawful : Lawful 0 {A = Flow} (λ w. out_of_steps w)
nothing_lawful = record {
  step = λ w. record {
    ticks =
        omega arith;
    output = same_prefix w.output;
    asks = same_prefix w.asks;
    cost = omega arith;
  };
  more = λ w rs. refl;
}

pub within_lawful : (game : Game) (n : ℕ) → Paid (within game n)
within_lawful game zero t = free nothing_lawful
within_lawful game (suc n) t = task_lawful game (within game n) (within_lawful game n) t

-- ---- laws

pub each_grows : (game : Game) (n : ℕ) (t : Task) (w : World) → Grows w (left (within game n t w))
each_grows game n t w =
    let s = (within_lawful game n t).step w in record { ticks = s.ticks; output = s.output }

ended_ticks : (e : Ends Flow) → (ended e).ticks ≡ (left e).ticks
ended_ticks (gives flow w) = refl
ended_ticks (fails v w) = refl
ended_ticks (out_of_steps w) = refl
ended_ticks (needs ask w) = refl

ended_asks : (e : Ends Flow) → (ended e).asks ≡ (left e).asks
ended_asks (gives flow w) = refl
ended_asks (fails v w) = refl
ended_asks (out_of_steps w) = refl
ended_asks (needs ask w) = refl

ended_output : (e : Ends Flow) → (ended e).output ≡ (left e).output
ended_output (gives flow w) = refl
ended_output (fails v w) = refl
ended_output (out_of_steps w) = refl
ended_output (needs ask w) = refl

ended_pending : (e : Ends Flow) → waiting (ended e).end ≡ pending e
ended_pending (gives flow w) = refl
ended_pending (fails v w) = refl
ended_pending (out_of_steps w) = refl
ended_pending (needs ask w) = refl

-- the main function's run from its first world
module _ (start : Start) (b : Block) where
  abbrev first_args : List Value × Store
  first_args = unpack_all start.args (first_store start.game.state)

  abbrev from_start : World
  from_start = first_world start first_args.1

  main_lawful : Lawful 0 (run_callee start.game (within start.game start.ticks)
      (chunk start.file b) first_args.0 [])
  main_lawful = chunk_lawful start.game (within start.game start.ticks)
      (within_lawful start.game start.ticks) start.file b first_args.0 []

  main_step : Step 0 from_start (meant start b)
  main_step = main_lawful.step from_start

  main_more : (more : List Reply) → Extended more (meant start b) (meant
      (with_replies start more) b)
  main_more more = main_lawful.more from_start more

code_spends : (start : Start) (c : Code) → (run_code start c).ticks ≤ start.ticks
code_spends start (ready b) = omega (arith, (main_step start b).ticks, ended_ticks (meant start b))
code_spends start (faulty text) = omega arith
code_spends start not_lua = omega arith

pub runs_spend : (start : Start) → (run start).ticks ≤ start.ticks
runs_spend start = code_spends start start.code

code_asks : (start : Start) (c : Code) → length (run_code start c).asks + waiting
    (run_code start c).end ≤ 2 * (start.ticks - (run_code start c).ticks)
code_asks start (ready b) =
    let s = main_step start b in
    let e = meant start b in
    omega (arith, s.cost, s.ticks, ended_ticks e, ended_pending e, ap length (ended_asks e))
code_asks start (faulty text) = omega arith
code_asks start not_lua = omega arith

pub asks_are_few : (start : Start) → length (run start).asks + waiting (run start).end ≤ 2 *
    (start.ticks - (run start).ticks)
asks_are_few start = code_asks start start.code

extends : (more : List Reply) (e e' : Ends Flow) → Extended more e e' → Extends (ended e) (ended e')
extends more (gives flow w) e' x =
    subst (λ y. Extends (ended (gives flow w)) (ended y)) (sym x)
    (record { asks = same_prefix w.asks; output = same_prefix w.output })
extends more (fails v w) e' x =
    subst (λ y. Extends (ended (fails v w)) (ended y)) (sym x)
    (record { asks = same_prefix w.asks; output = same_prefix w.output })
extends more (out_of_steps w) e' x =
    subst (λ y. Extends (run_of no_steps w) (ended y)) (sym x)
    (record { asks = same_prefix w.asks; output = same_prefix w.output })
extends more (needs ask w) e' x = record {
  asks = subst (λ l. IsPrefix w.asks l) (sym (ended_asks e')) x.0;
  output = subst (λ l. IsPrefix w.output l) (sym (ended_output e')) x.1;
}

code_extends : (start : Start) (c : Code) (more : List Reply) →
    Extends (run_code start c) (run_code (with_replies start more) c)
code_extends start (ready b) more =
    extends more (meant start b) (meant (with_replies start more) b) (main_more start b more)
code_extends start (faulty text) more = record { asks = same_prefix _; output = same_prefix _ }
code_extends start not_lua more = record { asks = same_prefix _; output = same_prefix _ }

pub replies_extend : (start : Start) (more : List Reply) →
    Extends (run start) (run (with_replies start more))
replies_extend start more = code_extends start start.code more

stays : (more : List Reply) (e e' : Ends Flow) → Extended more e e' → waiting (ended e).end ≡ 0 →
    ended e' ≡ ended e
stays more (gives flow w) e' x z = ap ended x
stays more (fails v w) e' x z = ap ended x
stays more (out_of_steps w) e' x z = ap ended x
stays more (needs ask w) e' x z = absurd (let e : ⊥ = omega (arith, z) in e)

code_stays : (start : Start) (c : Code) (more : List Reply) → waiting (run_code start c).end ≡ 0 →
    run_code (with_replies start more) c ≡ run_code start c
code_stays start (ready b) more z =
    stays more (meant start b) (meant (with_replies start more) b) (main_more start b more) z
code_stays start (faulty text) more z = refl
code_stays start not_lua more z = refl

pub ends_stay : (start : Start) (more : List Reply) → waiting (run start).end ≡ 0 →
    run (with_replies start more) ≡ run start
ends_stay start more z = code_stays start start.code more z
