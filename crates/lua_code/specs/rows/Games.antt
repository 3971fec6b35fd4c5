-- Rows of the machine: modules, files, threads and events (LÖVE wiki, `love`). Written by checks/machine-rows/write.py.
use Rattle.std.specs.Prelude.{ℕ, pos, true, false, List, [], ◌∷◌, Some, None, codes}
use Rattle.variant.specs.declared.reply.Refusal.TheVariants.{TooManyRunning, GameEnded}
use Rattle.lua_meaning.specs.Message.{Message, Source, Event, Ask, Reply}
use Rattle.lua_meaning.specs.Control.{ready, faulty, not_lua}
use Rattle.lua_meaning.specs.Run.{End, done, failed}
use Rattle.lua_meaning.specs.rows.Comes.{quit_event}
use Rattle.lua_meaning.specs.rows.Games.{modules_file_1, modules_file_2, modules_program, module_circle_file_1, module_circle_file_2, module_circle_program, faulty_module_program, reads_program, threads_file_1, threads_program, too_many_file_1, too_many_program, thread_state_program, events_program, clear_ticks_program, quits_file_1, boot_program, budget_file_1, budget_file_2, alone_budget_file_1, alone_budget_program}
use Rattle.lua_code.specs.rows.Comes.{Comes}

abbrev pub Modules : Type 0
Modules = Comes {A = List ℕ × End} (λ r. (r.output, r.end)) (record {
  game =
      record {
        files = (record {
          path = codes "m.lua";
          bytes =
              (codes "local name = ...\nprint(name, ...)\nreturn 5");
          code = ready modules_file_1;
        } ∷ record
            { path = codes "sub/x/init.lua"; bytes = []; code = ready modules_file_2 } ∷ []);
        state = 0;
      };
  file = codes "a.lua";
  code = ready modules_program;
  args = ([]);
  ticks = 1000;
  replies =
      ([]);
}) ((codes "m\tm\n5\t5\nfalse\tmodule 'none' not found\ntrue\ntrue\n"), done None)

abbrev pub ModuleCircle : Type 0
ModuleCircle = Comes {A =
    List ℕ × End} (λ r. (r.output, r.end)) (record {
      game = record {
        files =
            (record {
              path = codes "a.lua";
              bytes = (codes "require('b')");
              code = ready
                  module_circle_file_1;
            } ∷ record {
              path = codes "b.lua";
              bytes =
                  (codes "require('a')");
              code = ready module_circle_file_2;
            } ∷ []);
        state = 0;
      };
      file = codes
          "main.lua";
      code = ready module_circle_program;
      args = ([]);
      ticks = 1000;
      replies = ([]);
    })
    ((codes "false\tb.lua:1: loop or previous error loading module 'a'\nfalse\tloop or previous error loading module 'a'\n"), done None)

abbrev pub FaultyModule : Type 0
FaultyModule = Comes {A =
    List ℕ × End} (λ r. (r.output, r.end)) (record {
      game = record {
        files =
            (record {
              path = codes "bad.lua";
              bytes = [];
              code = faulty
                  (codes "bad.lua:2: unexpected symbol");
            } ∷ []);
        state = 0;
      };
      file = codes "main.lua";
      code =
          ready faulty_module_program;
      args = ([]);
      ticks = 1000;
      replies = ([]);
    })
    ((codes "false\tbad.lua:2: unexpected symbol\n"), failed (codes "bad.lua:2: unexpected symbol"))

abbrev pub Reads : Type 0
Reads = Comes {A = List ℕ × End} (λ r. (r.output, r.end)) (record {
  game =
      record {
        files = (record {
          path = codes "t.txt";
          bytes =
              (codes "hey");
          code = not_lua;
        } ∷ []);
        state = 0;
      };
  file = codes "main.lua";
  code = ready
      reads_program;
  args = ([]);
  ticks = 1000;
  replies = ([]);
})
    ((codes "hey\t3\nnil\tno such file: none\nt.txt\t3\tFileData\nab\n"), done None)

abbrev pub Threads : Type 0
Threads = Comes {A = List ℕ × End × List Ask} (λ r. (r.output, r.end, r.asks)) (record {
  game =
      record {
        files = (record { path = codes "w.lua"; bytes = []; code = ready threads_file_1 } ∷
            []);
        state = 0;
      };
  file = codes "main.lua";
  code = ready threads_program;
  args =
      ([]);
  ticks = 1000;
  replies = (Reply.thread 1 ∷ Reply.flag true ∷ Reply.flag false ∷ Reply.flag
      true ∷ Reply.done ∷ Reply.nothing ∷ Reply.thread 2 ∷ []);
}) (
  (codes "true\tfalse\ttrue\tnil\tnil\tThread\nfalse\tno such file: none.lua\n"),
  done None,
  (Ask.new_thread (Source.file (codes "w.lua")) ∷ Ask.start 1 (Message.num (pos 1) ∷ Message.str
      (codes "x") ∷ []) ∷ Ask.start 1 [] ∷ Ask.is_running 1 ∷ Ask.wait_for 1 ∷ Ask.error_of 1 ∷
      Ask.new_thread (Source.code (codes "local x\n")) ∷ []),
)

abbrev pub TooMany : Type 0
TooMany = Comes {A = List ℕ × End} (λ r. (r.output, r.end)) (record {
  game =
      record {
        files = (record { path = codes "w.lua"; bytes = []; code = ready too_many_file_1 } ∷
            []);
        state = 0;
      };
  file = codes "main.lua";
  code = ready too_many_program;
  args =
      ([]);
  ticks = 1000;
  replies = (Reply.thread 1 ∷ Reply.refused
      (TooManyRunning 1) ∷ Reply.refused (GameEnded 4) ∷ []);
}) (
  (codes "false\ttoo many threads are running: 1\n"),
  failed
      (codes "main.lua:3: the game has ended"),
)

abbrev pub ThreadState : Type 0
ThreadState = Comes {A =
    List ℕ × End × List Ask} (λ r. (r.output, r.end, r.asks)) (record {
      game = record {
        files =
            ([]);
        state = 1;
      };
      file = codes "a.lua";
      code = ready thread_state_program;
      args = (Message.num
          (pos 7) ∷ Message.flag true ∷ []);
      ticks = 1000;
      replies = (Reply.done ∷ []);
    }) (
      (codes "nil\t7\ttrue\ntrue\nfalse\tevents are polled by the main state\n"),
      done None,
      (Ask.event_push (codes "done") (Message.num (pos 5) ∷ []) ∷ []),
    )

abbrev pub Events : Type 0
Events = Comes {A = List ℕ × End} (λ r. (r.output, r.end)) (record {
  game =
      record { files = ([]); state = 0 };
  file = codes "a.lua";
  code = ready events_program;
  args =
      ([]);
  ticks = 1000;
  replies = (Reply.event 1 2 (Event.user (codes "go") (Message.num
      (pos 1) ∷ [])) ∷ Reply.event 1 4 (Event.thread_error 3
      (codes "boom")) ∷ Reply.nothing ∷ Reply.event 1 5 (Event.user
      (codes "x") []) ∷ Reply.nothing ∷ []);
}) (
  (codes "go\t1\tnil\nthreaderror\tThread\tboom\n\n"),
  done None,
)

abbrev pub ClearTicks : Type 0
ClearTicks = Comes {A =
    List ℕ × End × List Ask × ℕ} (λ r. (r.output, r.end, r.asks, r.ticks))
    (record {
      game = record { files = ([]); state = 0 };
      file = codes "a.lua";
      code = ready
          clear_ticks_program;
      args = ([]);
      ticks = 4;
      replies = (Reply.event 1 2 (Event.user
          (codes "x") []) ∷ Reply.event 1 3 (Event.user (codes "x") []) ∷ Reply.nothing ∷ []);
    })
    ([], done None, (Ask.event_poll ∷ Ask.event_poll ∷ Ask.event_poll ∷ []), 0)

abbrev pub Quits : Type 0
Quits = Comes {A = List ℕ × End} (λ r. (r.output, r.end)) (record {
  game =
      record {
        files = (record {
          path = codes "main.lua";
          bytes =
              (codes "local n = 0\nfunction love.quit() n = n + 1 print('quit', n) return n == 1 end\nfunction love.update(dt) print('update', dt) love.event.quit(3) end\nprint(pcall(love.event.quit, 64))");
          code = ready quits_file_1;
        } ∷ []);
        state = 0;
      };
  file = codes "boot";
  code = ready boot_program;
  args = (Message.num (pos 60) ∷ []);
  ticks = 1000;
  replies = (Reply.nothing ∷ Reply.done ∷ quit_event ∷ Reply.nothing ∷ Reply.done ∷ quit_event ∷ []);
}) ((codes "false\tbad argument #1 to 'quit' (0 to 63 expected)\nupdate\t1\nquit\t1\nupdate\t1\nquit\t2\n"), done (Some (pos 3)))

abbrev pub Budget : Type 0
Budget = Comes {A = List ℕ × End × ℕ} (λ r. (r.output, r.end, r.ticks)) (record {
  game =
      record {
        files = (record {
          path = codes "main.lua";
          bytes =
              (codes "local c = love.thread.getChannel('c')\nlocal t = love.thread.newThread('w.lua')\nt:start()\nc:demand()\nt:wait()\nc:push(1)\nprint(c:pop(), t:getError())");
          code = ready budget_file_1;
        } ∷ record { path = codes "w.lua"; bytes = []; code = ready budget_file_2 } ∷ []);
        state = 0;
      };
  file = codes "boot";
  code = ready boot_program;
  args = (Message.num (pos 0) ∷ []);
  ticks = 100;
  replies = (Reply.channel 1 ∷ Reply.thread 1 ∷ Reply.flag true ∷ Reply.value (Message.str (codes "go")) ∷ Reply.done ∷ Reply.id 2 ∷ Reply.value (Message.num (pos 1)) ∷ Reply.words (codes "out of steps") ∷ []);
}) ((codes "1\tout of steps\n"), done (Some (pos 0)), 72)

abbrev pub AloneBudget : Type 0
AloneBudget = Comes {A =
    List ℕ × End × ℕ} (λ r. (r.output, r.end, r.ticks)) (record {
      game = record {
        files =
            (record { path = codes "w.lua"; bytes = []; code = ready alone_budget_file_1 } ∷ []);
        state = 0;
      };
      file = codes "main.lua";
      code = ready alone_budget_program;
      args =
          ([]);
      ticks = 16;
      replies = (Reply.channel 1 ∷ Reply.thread 1 ∷ Reply.flag true ∷ Reply.value
          (Message.str (codes "go")) ∷ Reply.done ∷ Reply.id 2 ∷ Reply.value (Message.num
          (pos 1)) ∷ Reply.words (codes "out of steps") ∷ []);
    })
    ((codes "1\tout of steps\n"), done None, 0)

-- all of them
pub record Rows : Type 0 where
  pub modules : Modules
  pub module_circle : ModuleCircle
  pub faulty_module : FaultyModule
  pub reads : Reads
  pub threads : Threads
  pub too_many : TooMany
  pub thread_state : ThreadState
  pub events : Events
  pub clear_ticks : ClearTicks
  pub quits : Quits
  pub budget : Budget
  pub alone_budget : AloneBudget
