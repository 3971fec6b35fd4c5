-- What a machine answers is what the run means that it is in.
use Rattle.std.proofs.Common.{◌≡◌, ℕ, zero, suc, List, [], ◌∷◌, ◌++◌, length, map, ◌⊎◌, Contains, Option, Some, None, refl, sym, ap, ◌∙◌, subst}
use Rattle.love_base.specs.Prefix.{IsPrefix}
use Rattle.lua_tree.specs.Tree.{Block}
use Rattle.variant.specs.declared.ask.Ask as variant
use Rattle.variant.specs.declared.message.Variant.{Variant}
use Rattle.variant.specs.declared.reply.Reply.{Reply}
use Rattle.variant.specs.declared.end_kind.EndKind.{EndKind}
use Rattle.variant.specs.declared.end_kind.EndKind.TheVariants.{Done, Error, OutOfSteps, Stopped, Memory}
use Rattle.lua_meaning.specs.Value as meant
use Rattle.lua_meaning.specs.Message.{Message, Ask, Reply as Answer}
use Rattle.lua_meaning.specs.Packing.{unpack_all}
use Rattle.lua_meaning.specs.MessageView.{message_view, ask_view, reply_view}
use Rattle.lua_meaning.specs.World as world
use Rattle.lua_meaning.specs.World.{Ends as Endings}
use Rattle.lua_meaning.specs.Locals.{Flow}
use Rattle.lua_meaning.specs.Control.{ready}
use Rattle.lua_meaning.specs.Run as run
use Rattle.lua_meaning.specs.Run.{Start, Run, first_store, run_code, meant as meaning, ended as ended_run, done_value, error_text}
use Rattle.lua_heap.specs.declared.value.Value.{Value}
use Rattle.lua_heap.specs.Value.{value_view}
use Rattle.lua_code.specs.State as s
use Rattle.lua_code.specs.State.{State, Pending, Step, on, stop, asks}
use Rattle.lua_code.specs.Natives.{Program, resume}
use Rattle.lua_code.specs.Act.{act}
use Rattle.lua_code.specs.Instr.{Proto}
use Rattle.lua_code.specs.View.{ProtoView}
use Rattle.lua_code.specs.Trees.{chunk_of}
use Rattle.lua_code.specs.Held.{program_view}
use Rattle.lua_code.specs.declared.program.Program as files
use Rattle.lua_code.specs.Follows.{program_of, first_config, end_of}
use Rattle.lua_machine.specs.Past.{no_past}
use Rattle.lua_machine.specs.Starting as starting
use Rattle.lua_machine.specs.Starting.{TakesAll, Begins}
use Rattle.lua_code.specs.Talks.{Reached, fed}
use Rattle.lua_code.specs.Growing.{Past, IsWhole, IsBeginning}
use Rattle.lua_code.proofs.Talking.{talk}
use Rattle.lua_code.proofs.Advancing.{growing}
use Rattle.lua_machine.specs.declared.errand.Errand.{Errand}
use Rattle.lua_machine.specs.declared.standing.Standing.{Standing}
use Rattle.lua_machine.specs.declared.standing.Standing.TheVariants.{Fresh, Waits, Over}
use Rattle.lua_machine.specs.declared.status.Pause.{Pause}
use Rattle.lua_machine.specs.declared.status.Pause.TheVariants as pauses
use Rattle.lua_machine.specs.View.{EngineView, state_of, config_of}
use Rattle.lua_machine.specs.Does.{pending_of}
use Rattle.lua_machine.specs.Runs.{pause_as, stepped}
use Rattle.lua_machine.specs.Standing.{FitsAt, stand_of}
use Rattle.lua_machine.specs.Session.{LeadsTo, IsCutAt, point_of, resumed, told_past, Reaches, Fails}
use Rattle.lua_machine.specs.Ending.{IsEnd}
use Rattle.lua_machine.specs.Machine.{MachineView, program_in, point_in, cells_in, past_with, IsStart, IsIn, Shows, IsCut, Ends, asked_at, asked, told, Expects}
use Rattle.lua_machine.proofs.Sessions.{cut_there}

-- ---- what an end shows

record Sees (st : State) (how : run.End) (r : Run) : Type 0 where
  asks : r.asks ≡ st.asks
  output : r.output ≡ st.output
  end : r.end ≡ how
  cells : r.cells ≡ length st.store.cells

abbrev EndSees : s.End → Run → Type 0
EndSees (s.ended vs st) r = Sees st (run.done (done_value (meant.first vs))) r
EndSees (s.failed v st) r = Sees st (run.failed (error_text v)) r
EndSees (s.no_ticks st) r = Sees st run.no_steps r
EndSees (s.needed question st) r = Sees st (run.waits question) r
EndSees s.stuck r = Unit {0}

all_seen : (e : Endings Flow) → EndSees (end_of e) (ended_run e)
all_seen (world.gives flow w) = record { asks = refl; output = refl; end = refl; cells = refl }
all_seen (world.fails v w) = record { asks = refl; output = refl; end = refl; cells = refl }
all_seen (world.out_of_steps w) = record { asks = refl; output = refl; end = refl; cells = refl }
all_seen (world.needs question w) = record { asks = refl; output = refl; end = refl; cells = refl }

as_many : {A B : Type 0} (f : A → B) (xs : List A) → length (map f xs) ≡ length xs
as_many f [] = refl
as_many f (x ∷ xs) = ap suc (as_many f xs)

-- ---- a run that has come to a step

module _ (start : Start) (b : Block) where
  abbrev P : Program
  P = program_of start.game

  abbrev run_on : List Answer → Run
  run_on replies = run_code (fed start replies) (ready b)

  reached_on : (replies : List Answer) (n : ℕ) (x : Step) → Reached start b replies x → Reached start b replies (stepped P n x)
  reached_on replies zero x h = h
  reached_on replies (suc n) (on c) h = reached_on replies n (act P c) ((talk start b).goes_on replies c h)
  reached_on replies (suc n) (stop end) h = h
  reached_on replies (suc n) (asks question p) h = h

  sees_end : (replies more : List Answer) (end : s.End) → Reached start b replies (stop end) → EndSees end (run_on (replies ++ more))
  sees_end replies more end h =
      subst (λ (e : s.End). EndSees e (run_on (replies ++ more))) ((talk start b).ends_so replies (stop end) 0 end h refl more)
      (all_seen (meaning (fed start (replies ++ more)) b))

  sees_ask : (replies : List Answer) (question : Ask) (p : Pending) → Reached start b replies (asks question p) → Sees p.state (run.waits question) (run_on replies)
  sees_ask replies question p h =
      subst (λ (e : s.End). EndSees e (run_on replies)) ((talk start b).asks_so replies (asks question p) 0 question p h refl)
      (all_seen (meaning (fed start replies) b))

  -- the reply comes
  is_told : (standing : Standing) (reply : Option Reply) (m : EngineView) (past : Past) (replies : List Answer) → FitsAt (stand_of standing) reply → Reached start b replies (point_of standing m past) → Reached start b (told reply replies) (resumed P standing reply m past)
  is_told Fresh None m past replies fits h = h
  is_told Fresh (Some reply) m past replies fits h = absurd fits
  is_told (Waits question errand) (Some reply) m past replies fits h = (talk start b).is_told replies (ask_view question) (pending_of errand past m) (reply_view reply) h
  is_told (Waits question errand) None m past replies fits h = absurd fits
  is_told Over None m past replies fits h = absurd fits
  is_told Over (Some reply) m past replies fits h = absurd fits

  told_asks : (standing : Standing) (past : Past) → (told_past standing past).asks ≡ asked_at (stand_of standing) past.asks
  told_asks Fresh past = refl
  told_asks (Waits question errand) past = refl
  told_asks Over past = refl

  told_whole : (standing : Standing) (past : Past) → IsWhole past → IsWhole (told_past standing past)
  told_whole Fresh past w = w
  told_whole (Waits question errand) past w = w
  told_whole Over past w = w

-- ---- what a machine says

module _ (start : Start) (b : Block) (before : List Ask) (replies : List Answer) (reply : Option Reply) (was now : MachineView) where
  abbrev standing : Standing
  standing = was.standing

  abbrev old : EngineView
  old = was.engine

  abbrev program : Program
  program = program_in was

  abbrev out : List ℕ
  out = was.output

  abbrev asks_now : List Ask
  asks_now = asked_at (stand_of standing) before

  module _ (is : IsIn start b before replies was) (fits : FitsAt (stand_of standing) reply) where
    abbrev past : Past
    past = past_with before out is.ends

    here : Reached start b (told reply replies) (resumed program standing reply old past)
    here =
        subst (λ (p : Program). Reached start b (told reply replies) (resumed p standing reply old past)) is.game
        (is_told start b standing reply old past replies fits is.reached)

    asks_are : (later : Past) → later.asks ≡ (told_past standing past).asks → later.asks ≡ asks_now
    asks_are later e = e ∙ told_asks start b standing past

    whole_is : (later : Past) → (IsWhole (told_past standing past) → IsWhole later) → IsWhole later
    whole_is later f = f (told_whole start b standing past is.whole)

    comes_to : (n : ℕ) (y : Step) → stepped program n (resumed program standing reply old past) ≡ y → Reached start b (told reply replies) y
    comes_to n y e =
        subst (Reached start b (told reply replies)) (ap (λ (p : Program). stepped p n (resumed program standing reply old past)) is.game ∙ e)
        (reached_on start b (told reply replies) n (resumed program standing reply old past) here)

    -- a cut
    pub says_cut : (more : List Answer) → IsCutAt program (resumed program standing reply old past) (told_past standing past) now.output → IsCut asks_now now (run_code (fed start (told reply replies ++ more)) (ready b))
    says_cut more cut =
        let r = run_code (fed start (told reply replies ++ more)) (ready b) in
        let g : IsBeginning cut.later r = growing.reached start b (told reply replies) cut.step (comes_to cut.count cut.step cut.comes) cut.later cut.grows more in
        record {
          asks = subst (λ (l : List Ask). IsPrefix l r.asks) (asks_are cut.later cut.asks) g.asks;
          output = subst (λ (l : List ℕ). IsPrefix l r.output) cut.output_is g.output;
          whole = subst (λ (l : List ℕ). (l ≡ []) ⊎ Contains r.ends (length l)) cut.output_is (g.whole (whole_is cut.later cut.whole));
        }

    module _ where
      abbrev m : EngineView
      m = now.engine

      shows : (later : Past) (end : run.End) (r : Run) → later.output ≡ now.output → later.asks ≡ asks_now → Sees (state_of later m) end r → Shows asks_now now end r
      shows later end r output made sees = record {
        asks = sees.asks ∙ made;
        output = sees.output ∙ output;
        end = sees.end;
        cells = sees.cells ∙ as_many (value_view m.heap.texts) m.heap.cells;
      }

      module _ (pause : Pause) (leads : LeadsTo program (resumed program standing reply old past) (told_past standing past) (λ past. pause_as pause past m) now.output) where
        -- an end
        pub says_end : (end : EndKind) → IsEnd pause m end → (more : List Answer) → Ends end asks_now now (run_code (fed start (told reply replies ++ more)) (ready b))
        says_end end is_end more = by pause end leads is_end
          where
            r : Run
            r = run_code (fed start (told reply replies ++ more)) (ready b)

            by : (pause : Pause) (end : EndKind) → LeadsTo program (resumed program standing reply old past) (told_past standing past) (λ past. pause_as pause past m) now.output → IsEnd pause m end → Ends end asks_now now r
            by pause Memory x i = says_cut more (cut_there program (resumed program standing reply old past) (told_past standing past) pause m now.output x)
            by pauses.Ended (Done n) x i =
                subst (λ k. Shows asks_now now (run.done k) r) (sym i)
                (shows x.later _ r x.output_is (asks_are x.later x.asks) (sees_end start b (told reply replies) more _ (comes_to x.count _ x.comes)))
            by (pauses.Failed v) (Error text) x i =
                subst (λ t. Shows asks_now now (run.failed t) r) (sym i)
                (shows x.later _ r x.output_is (asks_are x.later x.asks) (sees_end start b (told reply replies) more _ (comes_to x.count _ x.comes)))
            by pauses.NoTick OutOfSteps x i =
                shows x.later _ r x.output_is (asks_are x.later x.asks) (sees_end start b (told reply replies) more _ (comes_to x.count _ x.comes))
            by pause end x i = absurd i

      -- an ask
      pub says_ask : (question copy : variant.Ask) (errand : Errand) → LeadsTo program (resumed program standing reply old past) (told_past standing past) (λ past. pause_as (pauses.Asks question errand) past m) now.output → program_in now ≡ program → now.standing ≡ Waits copy errand → copy ≡ question → IsIn start b asks_now (told reply replies) now × Shows asks_now now (run.waits (ask_view question)) (run_code (fed start (told reply replies)) (ready b))
      says_ask question copy errand x same at copied =
          let made = asks_are x.later x.asks in
          let h = comes_to x.count (pause_as (pauses.Asks question errand) x.later m) x.comes in
          let later_is : x.later ≡ past_with asks_now now.output x.later.ends = ap (λ (l : List Ask). past_with l x.later.output x.later.ends) made ∙ ap (λ (o : List ℕ). past_with asks_now o x.later.ends) x.output_is in
          let stands : now.standing ≡ Waits question errand = at ∙ ap (λ (q : variant.Ask). Waits q errand) copied in (
            record {
              game = is.game ∙ sym same;
              ends = x.later.ends;
              whole = subst IsWhole later_is (whole_is x.later x.whole);
              reached =
                  subst (λ (w : Standing). Reached start b (told reply replies) (point_of w m (past_with asks_now now.output x.later.ends))) (sym stands)
                  (subst (λ (p : Past). Reached start b (told reply replies) (point_of (Waits question errand) m p)) later_is h);
            },
            shows x.later (run.waits (ask_view question)) (run_code (fed start (told reply replies)) (ready b)) x.output_is made (sees_ask start b (told reply replies) (ask_view question) (pending_of errand x.later m) h),
          )

-- ---- by what a call came to

module _ (reply : Option Reply) (was now : MachineView) (fits : Expects reply was) where
  pub stop_says : Fails (program_in was) was.standing reply was.engine was.output now.output → (start : Start) (b : Block) (before : List Ask) (replies : List Answer) → IsIn start b before replies was → (more : List Answer) → IsCut (asked was before) now (run_code (fed start (told reply replies ++ more)) (ready b))
  stop_says fails start b before replies is more =
      says_cut start b before replies reply was now is fits more (fails.cut (past_with before was.output is.ends) refl)

  module _ (pause : Pause) (reaches : Reaches (program_in was) was.standing reply was.engine was.output pause now.engine now.output) where
    pub pause_says : (end : EndKind) → IsEnd pause now.engine end → (start : Start) (b : Block) (before : List Ask) (replies : List Answer) → IsIn start b before replies was → (more : List Answer) → Ends end (asked was before) now (run_code (fed start (told reply replies ++ more)) (ready b))
    pause_says end is_end start b before replies is =
        says_end start b before replies reply was now is fits pause (reaches.leads (past_with before was.output is.ends) refl) end is_end

  pub ask_says : (question copy : variant.Ask) (errand : Errand) → Reaches (program_in was) was.standing reply was.engine was.output (pauses.Asks question errand) now.engine now.output → program_in now ≡ program_in was → now.standing ≡ Waits copy errand → copy ≡ question → (start : Start) (b : Block) (before : List Ask) (replies : List Answer) → IsIn start b before replies was → IsIn start b (asked was before) (told reply replies) now × Shows (asked was before) now (run.waits (ask_view question)) (run_code (fed start (told reply replies)) (ready b))
  ask_says question copy errand reaches same at copied start b before replies is =
      says_ask start b before replies reply was now is fits question copy errand (reaches.leads (past_with before was.output is.ends) refl) same at copied

-- ---- a machine at its start

-- the first configuration of a start is that of its main function's code on its arguments
first_is : (program : files.Program) (protos : List ProtoView) (values : List Variant) (steps state : ℕ) (start : Start) (b : Block) → IsStart program protos values steps state start b → first_config start b ≡ starting.first_config (chunk_of protos) (unpack_all (map message_view values) (first_store state)) steps
first_is program protos values steps state start b is =
    ap (λ (p : Proto). starting.first_config p (unpack_all start.args (first_store start.game.state)) start.ticks) is.code
    ∙ ap (λ (ms : List Message). starting.first_config (chunk_of protos) (unpack_all ms (first_store start.game.state)) start.ticks) is.args
    ∙ ap (λ (p : Program). starting.first_config (chunk_of protos) (unpack_all (map message_view values) (first_store p.state)) start.ticks) is.game
    ∙ ap (λ (t : ℕ). starting.first_config (chunk_of protos) (unpack_all (map message_view values) (first_store state)) t) is.ticks

pub starts_in : (program : files.Program) (protos : List ProtoView) (values : List Variant) (steps state : ℕ) (m : EngineView) (now : MachineView) → Begins protos (map message_view values) state steps m → program_in now ≡ program_view program state → ((past : Past) → point_in now past ≡ on (config_of past m)) → now.output ≡ [] → (start : Start) (b : Block) → IsStart program protos values steps state start b → IsIn start b [] [] now
starts_in program protos values steps state m now begins same point empty start b is =
    let takes : TakesAll (chunk_of protos) = subst TakesAll is.code (record { params = refl; varargs = refl }) in
    let c : config_of no_past m ≡ first_config start b = begins takes ∙ sym (first_is program protos values steps state start b is) in
    record {
      game = is.game ∙ sym same;
      ends = [];
      whole = ap (λ (o : List ℕ). length o) empty;
      reached =
          subst (λ (x : Step). Reached start b [] x)
          (ap on (sym c) ∙ ap (λ (o : List ℕ). on (config_of (past_with [] o []) m)) (sym empty) ∙ sym (point (past_with [] now.output [])))
          (talk start b).begins;
    }
