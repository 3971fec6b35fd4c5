-- A run that is played among a state's own objects, turn by turn.
use Rattle.std.specs.Prelude.{⊤, IfSome}
use Rattle.std.proofs.Common.{◌≡◌, ◌∙◌, ℕ, zero, suc, ◌+◌, ◌-◌, ◌*◌, ◌<◌, ◌≤◌, Bool, true, false, cond, List, [], ◌∷◌, ◌++◌, map, length, ◌⊎◌, inl, inr, Option, Some, None, refl, sym, ap, subst, arith, append-nil, append_assoc, length-append}
use Rattle.std.proofs.lemmas.List.{map-append, length-map, same_from_push}
use Rattle.love_base.specs.Prefix.{IsPrefix}
use Rattle.love_base.proofs.Prefixes.{further}
use Rattle.lua_tree.specs.Tree.{Block}
use Rattle.variant.specs.declared.ask.Ask as variant_ask
use Rattle.variant.specs.declared.reply.Reply as variant_reply
use Rattle.variant.specs.declared.action.Action.{Action}
use Rattle.variant.specs.declared.action.Deed.{Deed}
use Rattle.variant.specs.declared.action.Deed.TheVariants.{Asked}
use Rattle.variant.specs.declared.end_kind.EndKind.{EndKind}
use Rattle.variant.specs.declared.end_kind.EndKind.TheVariants.{Done, Error, OutOfSteps, Stopped, Memory}
use Rattle.lua_meaning.specs.Message.{Ask, Reply}
use Rattle.lua_meaning.specs.MessageView.{ask_view, reply_view}
use Rattle.lua_meaning.specs.Run.{Start, Run, run, run_code, waits as waits_for}
use Rattle.lua_meaning.specs.Laws.{waiting, AsksAreFew}
use Rattle.lua_meaning.specs.Control.{Code, ready}
use Rattle.lua_meaning.proofs.Runs.{asks_are_few}
use Rattle.lua_code.specs.Talks.{fed}
use Rattle.lua_machine.specs.declared.machine.Step.{Step}
use Rattle.lua_machine.specs.declared.machine.Step.TheVariants as comes
use Rattle.lua_machine.specs.Machine as machine
use Rattle.lua_machine.specs.Standing.{FitsAt}
use Rattle.lua_machine.specs.Machine.{MachineView, IsFresh, IsIn, Says, Stand, fresh, waits}
use Rattle.lua_state.specs.Cuts.{AreAsked, LeavesAll, deeds_of, is_asked}
use Rattle.lua_state.proofs.Closing.{asked_as}
use Rattle.variant.specs.Fits.{fits}
use Rattle.variant.specs.Histories.{AtEach}
use Rattle.lua_state.proofs.Fitting.{fits_done}
use Rattle.lua_state.specs.Solo.{IsDone, done, held_after}
use Rattle.lua_state.specs.Kept.{HasReplied}
use Rattle.lua_state.specs.Runs.{Ends, IsCut, Ran, Shows, replies_of, run_on}
use Rattle.lua_state.specs.Played.{FitsTurn, IsPlaying, KeepsPrinted, Played, StartsAt, Turned, ask_in, asks_in, end_of, played_run, waiting_of}
use Rattle.lua_state.specs.declared.playing.Turn.TheVariants.{Told, Stands}
use Rattle.lua_state.specs.declared.playing.Finish.{Finish}
use Rattle.lua_state.specs.declared.playing.Finish.TheVariants.{Ended, Waits}

-- ---- lists of actions

asks_push : (actions : List Action) (a : Action) (ask : variant_ask.Ask) → a.deed ≡ Asked ask → asks_in (actions ++ a ∷ []) ≡ asks_in actions ++ ask ∷ []
asks_push [] a ask deed = ap (λ (d : Deed). ask_in d ++ []) deed
asks_push (x ∷ xs) a ask deed = ap (λ (l : List variant_ask.Ask). ask_in x.deed ++ l) (asks_push xs a ask deed) ∙ sym (append_assoc (ask_in x.deed) (asks_in xs) (ask ∷ []))

all_push : (actions : List Action) (a : Action) (ask : variant_ask.Ask) → a.deed ≡ Asked ask → AreAsked actions → AreAsked (actions ++ a ∷ [])
all_push [] a ask deed all = (ap is_asked deed, tt)
all_push (x ∷ xs) a ask deed all = (all.0, all_push xs a ask deed all.1)

one_ask : (d : Deed) → is_asked d ≡ true → length (ask_in d) ≡ 1
one_ask (Asked ask) is = refl
one_ask d is = absurd (no is)
  where
    no : false ≡ true → ⊥
    no e = cc

asks_length : (actions : List Action) → AreAsked actions → length (asks_in actions) ≡ length actions
asks_length [] all = refl
asks_length (x ∷ xs) all = length-append (ask_in x.deed) (asks_in xs) ∙ (let a = one_ask x.deed all.0 in let b = asks_length xs all.1 in omega arith)

-- ---- turns

pub begins : (start : Start) (b : Block) (m : MachineView) → IsFresh m → IsIn start b [] [] m → IsPlaying start b [] None m
begins start b m new at = record {
  asks = [];
  replies = [];
  at = at;
  asked = ap (λ (s : Stand). machine.asked_at s []) new.stand;
  told = refl;
  all = tt;
  few = omega arith;
  printed = λ before a e. absurd (nothing before a e);
}
  where
    nothing : (before : List Action) (a : Action) → [] ≡ before ++ a ∷ [] → ⊥
    nothing [] a e = cc
    nothing (x ∷ xs) a e = cc

module _ (start : Start) (b : Block) (actions : List Action) (reply : Option variant_reply.Reply) (m m' : MachineView) (step : Step) (playing : IsPlaying start b actions reply m)
    (says : (asks : List Ask) (replies : List Reply) → IsIn start b asks replies m → Says step start b (machine.asked m asks) (machine.told reply replies) m') (output : IsPrefix m.output m'.output) where
  -- what the step says, of the actions
  says_so : Says step start b (map ask_view (asks_in actions)) (replies_of actions) m'
  says_so = subst (λ (l : List Reply). Says step start b (map ask_view (asks_in actions)) l m') playing.told
      (subst (λ (l : List Ask). Says step start b l (machine.told reply playing.replies) m') playing.asked (says playing.asks playing.replies playing.at))

  printed_on : KeepsPrinted start b actions m'.output
  printed_on = λ before a e. further _ m.output m'.output (playing.printed before a e) output

asked_few : (start : Start) (b : Block) (replies : List Reply) (asks : List Ask) (ask : Ask) → AsksAreFew → (run_code (fed start replies) (ready b)).asks ≡ asks → (run_code (fed start replies) (ready b)).end ≡ waits_for ask → length asks + 1 ≤ 2 * start.ticks
asked_few start b replies asks ask law same waiting_end =
    let few = law (record (fed start replies) { code = ready b }) in
    let count = ap length same in
    let one = ap waiting waiting_end in
    omega arith

-- it goes on
pub goes_on : (start : Start) (b : Block) (actions after : List Action) (reply : Option variant_reply.Reply) (m m' : MachineView) (ask : variant_ask.Ask) (told : variant_reply.Reply) → AsksAreFew → IsPlaying start b actions reply m
    → ((asks : List Ask) (replies : List Reply) → IsIn start b asks replies m → Says (comes.Ask ask) start b (machine.asked m asks) (machine.told reply replies) m') → IsPrefix m.output m'.output → machine.stand_at m' ≡ waits ask → HasReplied actions after ask told → IsPlaying start b after (Some told) m'
goes_on start b actions after reply m m' ask told law playing says output stand did =
    let said = says_so start b actions reply m m' (comes.Ask ask) playing says output in
    let put = did.put in
    record {
      asks = map ask_view (asks_in actions);
      replies = replies_of actions;
      at = said.0;
      asked = ap (λ (s : Stand). machine.asked_at s (map ask_view (asks_in actions))) stand ∙ sym (ap (λ (l : List Action). map ask_view (asks_in l)) put ∙ (ap (map ask_view) (asks_push actions did.action ask did.deed) ∙ map-append ask_view (asks_in actions) (ask ∷ [])));
      told = sym (ap replies_of put ∙ (map-append (λ (a : Action). reply_view a.reply) actions (did.action ∷ []) ∙ ap (λ (r : variant_reply.Reply). replies_of actions ++ reply_view r ∷ []) did.replied));
      all = subst AreAsked (sym put) (all_push actions did.action ask did.deed playing.all);
      few = (let f = asked_few start b (replies_of actions) (map ask_view (asks_in actions)) (ask_view ask) law said.1.asks said.1.end in let l = length-map (asks_in actions) ask_view ∙ asks_length actions playing.all in let p = ap length put ∙ length-append actions (did.action ∷ []) in omega arith);
      printed = λ before a e. (let parts = same_from_push actions before did.action a (sym put ∙ e) in subst (λ (l : List Action). IsPrefix (played_run start b l).output m'.output) parts.0 ([], sym said.1.output ∙ sym (append-nil _)));
    }

-- it waits
pub it_waits : (start : Start) (b : Block) (actions after : List Action) (reply : Option variant_reply.Reply) (m m' : MachineView) (ask same : variant_ask.Ask) → IsPlaying start b actions reply m
    → ((asks : List Ask) (replies : List Reply) → IsIn start b asks replies m → Says (comes.Ask ask) start b (machine.asked m asks) (machine.told reply replies) m') → IsPrefix m.output m'.output → same ≡ ask → done actions (Asked ask) ≡ None → after ≡ actions → Played start b after m' (Waits same)
it_waits start b actions after reply m m' ask same playing says output e none unchanged =
    let said = says_so start b actions reply m m' (comes.Ask ask) playing says output in
    subst (λ (l : List Action). Played start b l m' (Waits same)) (sym unchanged) (subst (λ (a : variant_ask.Ask). Played start b actions m' (Waits a)) (sym e) (record {
      ends = (record { asks = said.1.asks; output = said.1.output; end = said.1.end }, none);
      all = playing.all;
      printed = printed_on start b actions reply m m' (comes.Ask ask) playing says output;
    }))

-- there was no memory for an ask
pub no_memory : (start : Start) (b : Block) (actions after : List Action) (reply : Option variant_reply.Reply) (m m' : MachineView) (ask : variant_ask.Ask) (end : EndKind) → IsPlaying start b actions reply m
    → ((asks : List Ask) (replies : List Reply) → IsIn start b asks replies m → Says (comes.Ask ask) start b (machine.asked m asks) (machine.told reply replies) m') → IsPrefix m.output m'.output → end ≡ Memory → after ≡ actions → Played start b after m' (Ended end)
no_memory start b actions after reply m m' ask end playing says output e unchanged =
    let said = says_so start b actions reply m m' (comes.Ask ask) playing says output in
    subst (λ (l : List Action). Played start b l m' (Ended end)) (sym unchanged) (subst (λ (k : EndKind). Played start b actions m' (Ended k)) (sym e) (record {
      ends = record { asks = ([], said.1.asks ∙ sym (append-nil _)); output = ([], said.1.output ∙ sym (append-nil _)); whole = inl (sym said.1.output) };
      all = playing.all;
      printed = printed_on start b actions reply m m' (comes.Ask ask) playing says output;
    }))

ends_as : (end : EndKind) (actions : List Action) (m : MachineView) (r : Run) → machine.Ends end (map ask_view (asks_in actions)) m r → Ends end None actions (asks_in actions) m.output r
ends_as (Done n) actions m r s = record { asks = s.asks; output = s.output; end = s.end }
ends_as (Error text) actions m r s = record { asks = s.asks; output = s.output; end = s.end }
ends_as OutOfSteps actions m r s = record { asks = s.asks; output = s.output; end = s.end }
ends_as Stopped actions m r s = absurd s
ends_as Memory actions m r s = record { asks = s.asks; output = s.output; whole = inr s.whole }

-- the machine ended
pub it_ends : (start : Start) (b : Block) (actions after : List Action) (reply : Option variant_reply.Reply) (m m' : MachineView) (end same : EndKind) → IsPlaying start b actions reply m
    → ((asks : List Ask) (replies : List Reply) → IsIn start b asks replies m → Says (comes.Ended end) start b (machine.asked m asks) (machine.told reply replies) m') → IsPrefix m.output m'.output → same ≡ end → after ≡ actions → Played start b after m' (Ended same)
it_ends start b actions after reply m m' end same playing says output e unchanged =
    let said = says_so start b actions reply m m' (comes.Ended end) playing says output in
    subst (λ (l : List Action). Played start b l m' (Ended same)) (sym unchanged) (subst (λ (k : EndKind). Played start b actions m' (Ended k)) (sym e) (record {
      ends = ends_as end actions m' _ (subst (λ (l : List Reply). machine.Ends end (map ask_view (asks_in actions)) m' (run_code (fed start l) (ready b))) (append-nil (replies_of actions)) (said []));
      all = playing.all;
      printed = printed_on start b actions reply m m' (comes.Ended end) playing says output;
    }))

-- ---- a whole run

-- what stands between turns
pub record Turning (steps : ℕ) (begun m : MachineView) (actions : List Action) (reply : Option variant_reply.Reply) : Type 0 where
  pub playing : (start : Start) (b : Block) → start.ticks ≡ steps → IsIn start b [] [] begun → IsPlaying start b actions reply m
  pub few : length actions ≤ 2 * steps
  pub expects : machine.Expects reply m

pub turning_begins : (steps : ℕ) (m : MachineView) (actions : List Action) → IsFresh m → actions ≡ [] → Turning steps m m actions None
turning_begins steps m actions new none = record {
  playing = λ start b ticks at. subst (λ (l : List Action). IsPlaying start b l None m) (sym none) (begins start b m new at);
  few = (let n = ap length none in omega arith);
  expects = subst (λ (s : Stand). FitsAt s None) (sym new.stand) tt;
}

-- a reply fits its ask
pub fits_reply : (before after : List Action) (ask : variant_ask.Ask) (reply : variant_reply.Reply) → AtEach IsDone after → HasReplied before after ask reply → fits ask reply ≡ true
fits_reply before after ask reply each did =
    subst (λ (r : variant_reply.Reply). fits ask r ≡ true) did.replied (fits_done before ask did.action (each before did.action [] did.put) did.deed)

module _ (steps : ℕ) (begun m m' : MachineView) (before after : List Action) (reply : Option variant_reply.Reply) (from : StartsAt steps begun) (turning : Turning steps begun m before reply) where
  -- what the machine says of each run that it is in
  abbrev SaysOf : Step → Type 0
  SaysOf step = (start : Start) (b : Block) (asks : List Ask) (replies : List Reply) → IsIn start b asks replies m → Says step start b (machine.asked m asks) (machine.told reply replies) m'

  pub turn_told : (step : Step) (told : variant_reply.Reply) → SaysOf step → IsPrefix m.output m'.output → machine.stand_at m' ≡ machine.stand_after step → Turned step before after (Told told) → FitsTurn step (Told told) → Turning steps begun m' after (Some told)
  turn_told (comes.Ask ask) told says output stand did fit =
      let on = λ (start : Start) (b : Block) (ticks : start.ticks ≡ steps) (at : IsIn start b [] [] begun). goes_on start b before after reply m m' ask told asks_are_few (turning.playing start b ticks at) (says start b) output stand did in
      record {
        playing = on;
        few = (let n = (on from.start from.block from.ticks from.at).few in let t = from.ticks in omega arith);
        expects = subst (λ (s : Stand). FitsAt s (Some told)) (sym stand) fit;
      }
  turn_told (comes.Ended end) told says output stand did fit = absurd did

  pub turn_stands : (step : Step) (finish : Finish) → SaysOf step → IsPrefix m.output m'.output → Turned step before after (Stands finish) → (start : Start) (b : Block) → start.ticks ≡ steps → IsIn start b [] [] begun → Played start b after m' finish
  turn_stands (comes.Ask ask) (Waits same) says output did start b ticks at = it_waits start b before after reply m m' ask same (turning.playing start b ticks at) (says start b) output did.0 did.1 did.2
  turn_stands (comes.Ask ask) (Ended end) says output did start b ticks at = no_memory start b before after reply m m' ask end (turning.playing start b ticks at) (says start b) output did.0 did.1
  turn_stands (comes.Ended end) (Ended same) says output did start b ticks at = it_ends start b before after reply m m' end same (turning.playing start b ticks at) (says start b) output did.0 did.1
  turn_stands (comes.Ended end) (Waits ask) says output did start b ticks at = absurd did

  -- and there are no more actions than before
  pub stands_few : (step : Step) (finish : Finish) → Turned step before after (Stands finish) → length after ≤ 2 * steps
  stands_few (comes.Ask ask) (Waits same) did = subst (λ (l : List Action). length l ≤ 2 * steps) (sym did.2) turning.few
  stands_few (comes.Ask ask) (Ended end) did = subst (λ (l : List Action). length l ≤ 2 * steps) (sym did.1) turning.few
  stands_few (comes.Ended end) (Ended same) did = subst (λ (l : List Action). length l ≤ 2 * steps) (sym did.1) turning.few
  stands_few (comes.Ended end) (Waits ask) did = absurd did

-- ---- what is left of it

deeds_asked : (actions : List Action) → AreAsked actions → deeds_of actions ≡ map Asked (asks_in actions)
deeds_asked [] all = refl
deeds_asked (a ∷ actions) all = by (deeds_asked actions all.1) a.deed all.0
  where
    by : deeds_of actions ≡ map Asked (asks_in actions) → (d : Deed) → is_asked d ≡ true → d ∷ deeds_of actions ≡ map Asked (ask_in d ++ asks_in actions)
    by rest (Asked ask) is = ap (λ (l : List Deed). Asked ask ∷ l) rest
    by rest d is = absurd (no is)
      where
        no : false ≡ true → ⊥
        no e = cc

-- once all that was held is left, this is what the state ran
pub ran_left : (start : Start) (b : Block) (actions after : List Action) (m : MachineView) (finish : Finish) (end : EndKind) (waiting_by : Option variant_ask.Ask) → start.code ≡ ready b → Played start b actions m finish
    → ((asked : List Action) (asks : List variant_ask.Ask) (out : List ℕ) (r : Run) → Ends (end_of finish) (waiting_of finish) asked asks out r → Ends end waiting_by asked asks out r)
    → LeavesAll actions after (held_after actions) → Ran start after m.output end waiting_by
ran_left start b actions after m finish end waiting_by code played settled left =
    let same = asked_as actions after (held_after actions) played.all left in
    record {
      asks = asks_in actions;
      asked = ap deeds_of same ∙ deeds_asked actions played.all;
      ends = subst (λ (l : List Action). Ends end waiting_by l (asks_in actions) m.output (run_on start l)) (sym same) (settled actions (asks_in actions) m.output _
          (subst (λ (c : Code). Ends (end_of finish) (waiting_of finish) actions (asks_in actions) m.output (run_code (fed start (replies_of actions)) c)) (sym code) played.ends));
      printed = λ before a e. subst (λ (c : Code). IsPrefix (run_code (fed start (replies_of before)) c).output m.output) (sym code) (played.printed before a (sym same ∙ e));
    }

-- the same of what is told
pub ran_as : (start : Start) (actions told : List Action) (out printed : List ℕ) (end ended : EndKind) (waiting_by waits_by : Option variant_ask.Ask) → told ≡ actions → printed ≡ out → ended ≡ end → waits_by ≡ waiting_by → Ran start actions out end waiting_by → Ran start told printed ended waits_by
ran_as start actions told out printed end ended waiting_by waits_by same_actions same_out same_end same_ask ran =
    subst (λ (l : List Action). Ran start l printed ended waits_by) (sym same_actions) (subst (λ (o : List ℕ). Ran start actions o ended waits_by) (sym same_out) (subst (λ (e : EndKind). Ran start actions out e waits_by) (sym same_end) (subst (λ (w : Option variant_ask.Ask). Ran start actions out end w) (sym same_ask) ran)))
