-- Runs of an engine past its prints.
use Rattle.std.proofs.Common.{Vec, Global, Result, Ok, Err, IfOk, IsErrAnd, ◌≡◌, ℕ, zero, suc, List, [], ◌∷◌, ◌++◌, map, Option, Some, None, true, refl, sym, ap, ◌∙◌, subst, append-nil, append_assoc}
use Rattle.love_base.specs.Prefix.{IsPrefix}
use Rattle.variant.specs.declared.ask.Ask.{Ask}
use Rattle.variant.specs.declared.reply.Reply.{Reply}
use Rattle.lua_meaning.specs.Value as meant
use Rattle.lua_meaning.specs.World.{given, failed}
use Rattle.lua_meaning.specs.MessageView.{ask_view, reply_view}
use Rattle.lua_meaning.proofs.Lawful.{same_prefix, prefix_on}
use Rattle.lua_heap.specs.declared.value.Value.{Value}
use Rattle.lua_heap.specs.Value.{value_view}
use Rattle.lua_code.specs.State.{Step, on, stop, asks}
use Rattle.lua_code.specs.Natives.{Program}
use Rattle.lua_code.specs.Act.{act}
use Rattle.lua_code.specs.Growing.{Past, IsWhole, GrowsTo}
use Rattle.lua_code.proofs.Growing.{grows_self, line_grows}
use Rattle.lua_code.proofs.Advancing.{growing, further}
use Rattle.lua_machine.specs.declared.errand.Errand.{Errand}
use Rattle.lua_machine.specs.declared.standing.Standing.{Standing}
use Rattle.lua_machine.specs.declared.standing.Standing.TheVariants.{Fresh, Waits, Over}
use Rattle.lua_machine.specs.declared.status.Status.{Status}
use Rattle.lua_machine.specs.declared.status.Status.TheVariants as status
use Rattle.lua_machine.specs.declared.status.Pause.{Pause}
use Rattle.lua_machine.specs.declared.status.Pause.TheVariants as pauses
use Rattle.lua_machine.specs.View.{EngineView, frames_of, registers_of, state_of}
use Rattle.lua_machine.specs.Ready.{AreFit, IsReady}
use Rattle.lua_machine.specs.Does.{step_as, finishing, given_args, pending_of, with_line, IsKept}
use Rattle.lua_machine.specs.Runs.{pause_as, IsKeptPause, stepped, Runs}
use Rattle.love_base.specs.declared.memory.Memory.{Memory}
use Rattle.lua_machine.specs.Asking.{with_ask, Attends}
use Rattle.lua_machine.specs.Standing.{FitsAt, stand_of}
use Rattle.lua_machine.specs.Session.{LeadsTo, IsCutAt, Leads, IsCut, Pauses, Stops, HasPrinted, HasTurned, HasRun, HasGone, IsKeptStanding, resumed, told_past, Reaches, Fails}

-- ---- steps one after the other

join : (program : Program) (m : ℕ) (x y z : Step) → stepped program m x ≡ y → (n : ℕ) → stepped program n y ≡ z → (k : ℕ) × (stepped program k x ≡ z)
join program zero x y z e n f = (n, ap (stepped program n) e ∙ f)
join program (suc m) (on c) y z e n f = let k = join program m (act program c) y z e n f in (suc k.0, k.1)
join program (suc m) (stop end) y z e n f = (n, ap (stepped program n) e ∙ f)
join program (suc m) (asks question pending) y z e n f = (n, ap (stepped program n) e ∙ f)

-- ---- what was done goes on

pub step_grows : (s : Status) (past : Past) (m : EngineView) → GrowsTo past (step_as s past m)
step_grows status.Goes past m = grows_self past
step_grows status.NoTick past m = grows_self past
step_grows (status.Serves f) past m = grows_self past
step_grows status.Gives past m = growing.finishes (given_args m) (frames_of m) (registers_of m) (state_of past m)
step_grows (status.Raises v) past m = growing.finishes (failed (value_view m.heap.texts v)) (frames_of m) (registers_of m) (state_of past m)
step_grows (status.Prints line) past m = further past (with_line line.items past) _ (line_grows line.items (state_of past m)) (growing.finishes (given []) (frames_of m) (registers_of m) (state_of (with_line line.items past) m))
step_grows (status.Asks question errand) past m = grows_self past
step_grows status.Ends past m = grows_self past
step_grows (status.Fails v) past m = grows_self past

pub pause_grows : (pause : Pause) (past : Past) (m : EngineView) → GrowsTo past (pause_as pause past m)
pause_grows pauses.Ended past m = grows_self past
pause_grows (pauses.Failed v) past m = grows_self past
pause_grows pauses.NoTick past m = grows_self past
pause_grows (pauses.Prints line) past m = further past (with_line line.items past) _ (line_grows line.items (state_of past m)) (growing.finishes (given []) (frames_of m) (registers_of m) (state_of (with_line line.items past) m))
pause_grows (pauses.Asks question errand) past m = grows_self past

-- ---- leading on

-- to where a run leads, and on from there
pub on_from : (program : Program) (x : Step) (past : Past) (y z : Past → Step) (mid out : List ℕ) → LeadsTo program x past y mid → ((later : Past) → later.output ≡ mid → LeadsTo program (y later) later z out) → LeadsTo program x past z out
on_from program x past y z mid out a b =
    let c = b a.later a.output_is in
    let k = join program a.count x (y a.later) (z c.later) a.comes c.count c.comes in
    record {
      later = c.later;
      output_is = c.output_is;
      asks = c.asks ∙ a.asks;
      whole = λ w. c.whole (a.whole w);
      count = k.0;
      comes = k.1;
    }

pub cut_from : (program : Program) (x : Step) (past : Past) (y : Past → Step) (mid out : List ℕ) → LeadsTo program x past y mid → ((later : Past) → later.output ≡ mid → IsCutAt program (y later) later out) → IsCutAt program x past out
cut_from program x past y mid out a b =
    let c = b a.later a.output_is in
    let k = join program a.count x (y a.later) c.step a.comes c.count c.comes in
    record {
      later = c.later;
      output_is = c.output_is;
      asks = c.asks ∙ a.asks;
      whole = λ w. c.whole (a.whole w);
      count = k.0;
      step = c.step;
      comes = k.1;
      grows = c.grows;
    }

-- where memory is wanted at once
pub cut_here : (program : Program) (x : Step) (past : Past) (out : List ℕ) → past.output ≡ out → GrowsTo past x → IsCutAt program x past out
cut_here program x past out e g = record {
  later = past;
  output_is = e;
  asks = refl;
  whole = λ w. w;
  count = 0;
  step = x;
  comes = refl;
  grows = g;
}

-- where a run that stands still is cut
pub cut_there : (program : Program) (x : Step) (past : Past) (pause : Pause) (m : EngineView) (out : List ℕ) → LeadsTo program x past (λ past. pause_as pause past m) out → IsCutAt program x past out
cut_there program x past pause m out a =
    cut_from program x past (λ past. pause_as pause past m) out out a (λ later e. cut_here program (pause_as pause later m) later out e (pause_grows pause later m))

-- ---- a turn

module _ (program : Program) (from : Status) (old new : EngineView) (before : List ℕ) where
  abbrev start : Past → Step
  start past = step_as from past old

  -- nothing was done that stands
  pub stops_here : Stops program start before before
  stops_here = record {
    cut = λ past e. cut_here program (start past) past before e (step_grows from past old);
    longer = same_prefix before;
  }

  pub pauses_here : (pause : Pause) → Runs program from pause old new → Pauses program start before pause new before
  pauses_here pause runs = record {
    leads = λ past e. let x = runs.comes past in record {
      later = past;
      output_is = e;
      asks = refl;
      whole = λ w. w;
      count = x.0;
      comes = x.1;
    };
    kept = runs.kept;
    longer = same_prefix before;
  }

  gives_none : (past : Past) → new.args ≡ [] → finishing (given []) past new ≡ step_as status.Gives past new
  gives_none past e = sym (ap (λ (vs : List Value). finishing (given (map (value_view new.heap.texts) vs)) past new) e)

  pub prints_here : (line : Vec ℕ Global) (after : List ℕ) → Runs program from (pauses.Prints line) old new → after ≡ before ++ line.items → HasPrinted program start before new after
  prints_here line after runs is = record {
    leads = λ past e. let x = runs.comes past in record {
      later = with_line line.items past;
      output_is = ap (λ (o : List ℕ). o ++ line.items) e ∙ sym is;
      asks = refl;
      whole = λ w. (line_grows line.items (state_of past new)).whole w;
      count = x.0;
      comes = x.1 ∙ gives_none (with_line line.items past) runs.kept.1;
    };
    kept = runs.kept.0;
    longer = (line.items, is);
  }

-- ---- turns

-- turns have come to a status
pub record HasCome (program : Program) (from : Past → Step) (before : List ℕ) (s : Status) (m : EngineView) (after : List ℕ) : Type 0 where
  pub leads : Leads program from before (λ past. step_as s past m) after
  pub kept : IsKept s m
  pub longer : IsPrefix before after

pub comes_first : (program : Program) (s : Status) (m : EngineView) (out : List ℕ) → IsKept s m → HasCome program (λ past. step_as s past m) out s m out
comes_first program s m out kept = record {
  leads = λ past e. record { later = past; output_is = e; asks = refl; whole = λ w. w; count = 0; comes = refl };
  kept = kept;
  longer = same_prefix out;
}

module _ (program : Program) (from : Past → Step) (before : List ℕ) (s : Status) (m new : EngineView) (mid after : List ℕ) (h : HasCome program from before s m mid) where
  abbrev there : Past → Step
  there past = step_as s past m

  pub comes_next : HasPrinted program there mid new after → HasCome program from before status.Gives new after
  comes_next x = record {
    leads = λ past e. on_from program (from past) past there (λ past. step_as status.Gives past new) mid after (h.leads past e) x.leads;
    kept = x.kept;
    longer = prefix_on before mid after h.longer x.longer;
  }

  pub comes_to_pause : (pause : Pause) → Pauses program there mid pause new after → Pauses program from before pause new after
  comes_to_pause pause x = record {
    leads = λ past e. on_from program (from past) past there (λ past. pause_as pause past new) mid after (h.leads past e) x.leads;
    kept = x.kept;
    longer = prefix_on before mid after h.longer x.longer;
  }

  pub comes_to_stop : Stops program there mid after → Stops program from before after
  comes_to_stop x = record {
    cut = λ past e. cut_from program (from past) past there mid after (h.leads past e) x.cut;
    longer = prefix_on before mid after h.longer x.longer;
  }

-- want of memory where it has come to
pub stops_there : (program : Program) (from : Past → Step) (before : List ℕ) (s : Status) (m : EngineView) (mid : List ℕ) → HasCome program from before s m mid → Stops program from before mid
stops_there program from before s m mid h = comes_to_stop program from before s m m mid mid h (stops_here program s m m mid)

-- ---- replies

pub ready_fresh : (standing : Standing) (m : EngineView) → FitsAt (stand_of standing) None → IsKeptStanding standing m → IsReady m
ready_fresh Fresh m fits kept = kept
ready_fresh (Waits question errand) m fits kept = absurd fits
ready_fresh Over m fits kept = absurd fits

pub goes_fresh : (program : Program) (standing : Standing) (m : EngineView) (past : Past) → FitsAt (stand_of standing) None → resumed program standing None m past ≡ step_as status.Goes (told_past standing past) m
goes_fresh program Fresh m past fits = refl
goes_fresh program (Waits question errand) m past fits = absurd fits
goes_fresh program Over m past fits = absurd fits

-- what was done before a reply goes on with it
pub resumed_grows : (program : Program) (standing : Standing) (reply : Option Reply) (m : EngineView) (past : Past) → FitsAt (stand_of standing) reply → GrowsTo (told_past standing past) (resumed program standing reply m past)
resumed_grows program Fresh reply m past fits = grows_self past
resumed_grows program (Waits question errand) (Some reply) m past fits = growing.resumes program (ask_view question) (reply_view reply) (pending_of errand past m)
resumed_grows program (Waits question errand) None m past fits = absurd fits
resumed_grows program Over reply m past fits = grows_self past

told_output : (standing : Standing) (past : Past) → (told_past standing past).output ≡ past.output
told_output Fresh past = refl
told_output (Waits question errand) past = refl
told_output Over past = refl

module _ (program : Program) (standing : Standing) (reply : Option Reply) (old : EngineView) (before : List ℕ) where
  -- memory is wanted before anything goes on
  pub fails_here : FitsAt (stand_of standing) reply → Fails program standing reply old before before
  fails_here fits = record {
    cut = λ past e. cut_here program (resumed program standing reply old past) (told_past standing past) before (told_output standing past ∙ e) (resumed_grows program standing reply old past fits);
    longer = same_prefix before;
  }

  module _ (s : Status) (mid new : EngineView) (out after : List ℕ) (step : (past : Past) → resumed program standing reply old past ≡ step_as s (told_past standing past) mid) (same : out ≡ before) where
    pub reaches_on : (pause : Pause) → Pauses program (λ past. step_as s past mid) out pause new after → Reaches program standing reply old before pause new after
    reaches_on pause x = record {
      leads = λ past e.
          subst (λ (y : Step). LeadsTo program y (told_past standing past) (λ past. pause_as pause past new) after) (sym (step past))
          (x.leads (told_past standing past) (told_output standing past ∙ e ∙ sym same));
      kept = x.kept;
      longer = subst (λ (o : List ℕ). IsPrefix o after) same x.longer;
    }

    pub fails_on : Stops program (λ past. step_as s past mid) out after → Fails program standing reply old before after
    fails_on x = record {
      cut = λ past e.
          subst (λ (y : Step). IsCutAt program y (told_past standing past) after) (sym (step past))
          (x.cut (told_past standing past) (told_output standing past ∙ e ∙ sym same));
      longer = subst (λ (o : List ℕ). IsPrefix o after) same x.longer;
    }

pub attends_on : (program : Program) (question : Ask) (errand : Errand) (reply : Reply) (old new : EngineView) (r : Result Status Memory) → IfOk r (λ s. Attends errand reply s old new) → IfOk r (λ s. (past : Past) → resumed program (Waits question errand) (Some reply) old past ≡ step_as s (told_past (Waits question errand) past) new)
attends_on program question errand reply old new (Ok s) a = λ past. a.step program (ask_view question) past
attends_on program question errand reply old new (Err e) a = tt

-- ---- by what a call answered

pub turned_err : (program : Program) (from : Status) (r : Result (Option Pause) Memory) (Q : Memory → Type 0) (old new : EngineView) (before after : List ℕ) → IsErrAnd r Q → Stops program (λ past. step_as from past old) before after → HasTurned program from r old before new after
turned_err program from (Ok o) Q old new before after is x = absurd is
turned_err program from (Err e) Q old new before after is x = x

pub run_err : (program : Program) (from : Past → Step) (r : Result Pause Memory) (Q : Memory → Type 0) (before : List ℕ) (new : EngineView) (after : List ℕ) → IsErrAnd r Q → Stops program from before after → HasRun program from r before new after
run_err program from (Ok o) Q before new after is x = absurd is
run_err program from (Err e) Q before new after is x = x

pub gone_err : (program : Program) (standing : Standing) (reply : Option Reply) (r : Result Pause Memory) (Q : Memory → Type 0) (old : EngineView) (before : List ℕ) (new : EngineView) (after : List ℕ) → IsErrAnd r Q → Fails program standing reply old before after → HasGone program standing reply r old before new after
gone_err program standing reply (Ok o) Q old before new after is x = absurd is
gone_err program standing reply (Err e) Q old before new after is x = x

pub gone_run : (program : Program) (standing : Standing) (reply : Option Reply) (r : Result Pause Memory) (s : Status) (old : EngineView) (before : List ℕ) (mid new : EngineView) (out after : List ℕ) → ((past : Past) → resumed program standing reply old past ≡ step_as s (told_past standing past) mid) → out ≡ before → HasRun program (λ past. step_as s past mid) r out new after → HasGone program standing reply r old before new after
gone_run program standing reply (Ok pause) s old before mid new out after step same x = reaches_on program standing reply old before s mid new out after step same pause x
gone_run program standing reply (Err e) s old before mid new out after step same x = fails_on program standing reply old before s mid new out after step same x

-- where a machine that stands still is cut
pub fails_there : (program : Program) (standing : Standing) (reply : Option Reply) (old : EngineView) (before : List ℕ) (pause : Pause) (m : EngineView) (after : List ℕ) → Reaches program standing reply old before pause m after → Fails program standing reply old before after
fails_there program standing reply old before pause m after x = record {
  cut = λ past e. cut_there program (resumed program standing reply old past) (told_past standing past) pause m after (x.leads past e);
  longer = x.longer;
}
