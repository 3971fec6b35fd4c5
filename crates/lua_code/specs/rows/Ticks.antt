-- Rows of the machine: ticks: a statement, a turn of a loop and a call take one each. Written by checks/machine-rows/write.py.
use Rattle.std.specs.Prelude.{ℕ, List, [], None, codes}
use Rattle.lua_meaning.specs.Control.{ready}
use Rattle.lua_meaning.specs.Run.{End, done, no_steps}
use Rattle.lua_meaning.specs.rows.Ticks.{ten_program, nine_program, six_program, five_program, one_print_program, one_short_program, for_ever_program, nothing_program, pcall_ticks_program, pcall_short_program, handler_ticks_program, handler_short_program, table_handler_ticks_program, call_event_ticks_program, not_called_ticks_program, each_ticks_program, each_short_program, repeat_ticks_program, statement_ticks_program, tostring_ticks_program}
use Rattle.lua_code.specs.rows.Comes.{Comes}

abbrev pub Ten : Type 0
Ten = Comes {A = List ℕ × End × ℕ} (λ r. (r.output, r.end, r.ticks)) (record {
  game =
      record { files = ([]); state = 0 };
  file = codes "a.lua";
  code = ready ten_program;
  args =
      ([]);
  ticks = 10;
  replies = ([]);
}) ((codes "1\n2\n3\n"), done None, 0)

abbrev pub Nine : Type 0
Nine = Comes {A = List ℕ × End} (λ r. (r.output, r.end)) (record {
  game =
      record { files = ([]); state = 0 };
  file = codes "a.lua";
  code = ready nine_program;
  args =
      ([]);
  ticks = 9;
  replies = ([]);
}) ((codes "1\n2\n"), no_steps)

abbrev pub Six : Type 0
Six = Comes {A = List ℕ × End × ℕ} (λ r. (r.output, r.end, r.ticks)) (record {
  game =
      record { files = ([]); state = 0 };
  file = codes "a.lua";
  code = ready six_program;
  args =
      ([]);
  ticks = 6;
  replies = ([]);
}) ([], done None, 0)

abbrev pub Five : Type 0
Five = Comes {A = List ℕ × End} (λ r. (r.output, r.end)) (record {
  game =
      record { files = ([]); state = 0 };
  file = codes "a.lua";
  code = ready five_program;
  args =
      ([]);
  ticks = 5;
  replies = ([]);
}) ([], no_steps)

abbrev pub OnePrint : Type 0
OnePrint = Comes {A =
    List ℕ × End × ℕ} (λ r. (r.output, r.end, r.ticks)) (record {
      game = record {
        files =
            ([]);
        state = 0;
      };
      file = codes "a.lua";
      code = ready one_print_program;
      args =
          ([]);
      ticks = 2;
      replies = ([]);
    }) ((codes "1\n"), done None, 0)

abbrev pub OneShort : Type 0
OneShort = Comes {A =
    List ℕ × End} (λ r. (r.output, r.end)) (record {
      game = record {
        files =
            ([]);
        state = 0;
      };
      file = codes "a.lua";
      code = ready one_short_program;
      args =
          ([]);
      ticks = 1;
      replies = ([]);
    }) ([], no_steps)

abbrev pub ForEver : Type 0
ForEver = Comes {A = List ℕ × End × ℕ} (λ r. (r.output, r.end, r.ticks)) (record {
  game =
      record { files = ([]); state = 0 };
  file = codes "a.lua";
  code = ready for_ever_program;
  args =
      ([]);
  ticks = 50;
  replies = ([]);
}) ([], no_steps, 0)

abbrev pub Nothing : Type 0
Nothing = Comes {A = List ℕ × End × ℕ} (λ r. (r.output, r.end, r.ticks)) (record {
  game =
      record { files = ([]); state = 0 };
  file = codes "a.lua";
  code = ready nothing_program;
  args =
      ([]);
  ticks = 0;
  replies = ([]);
}) ([], done None, 0)

abbrev pub PcallTicks : Type 0
PcallTicks = Comes {A =
    List ℕ × End × ℕ} (λ r. (r.output, r.end, r.ticks)) (record {
      game = record {
        files =
            ([]);
        state = 0;
      };
      file = codes "a.lua";
      code = ready pcall_ticks_program;
      args =
          ([]);
      ticks = 3;
      replies = ([]);
    }) ([], done None, 0)

abbrev pub PcallShort : Type 0
PcallShort = Comes {A =
    List ℕ × End} (λ r. (r.output, r.end)) (record {
      game = record {
        files =
            ([]);
        state = 0;
      };
      file = codes "a.lua";
      code = ready pcall_short_program;
      args =
          ([]);
      ticks = 40;
      replies = ([]);
    }) ([], no_steps)

abbrev pub HandlerTicks : Type 0
HandlerTicks = Comes {A =
    List ℕ × End × ℕ} (λ r. (r.output, r.end, r.ticks)) (record {
      game = record {
        files =
            ([]);
        state = 0;
      };
      file = codes "a.lua";
      code = ready handler_ticks_program;
      args =
          ([]);
      ticks = 5;
      replies = ([]);
    }) ([], done None, 0)

abbrev pub HandlerShort : Type 0
HandlerShort = Comes {A =
    List ℕ × End} (λ r. (r.output, r.end)) (record {
      game = record {
        files =
            ([]);
        state = 0;
      };
      file = codes "a.lua";
      code = ready handler_short_program;
      args =
          ([]);
      ticks = 4;
      replies = ([]);
    }) ([], no_steps)

abbrev pub TableHandlerTicks : Type 0
TableHandlerTicks = Comes {A =
    List ℕ × End × ℕ} (λ r. (r.output, r.end, r.ticks)) (record {
      game = record {
        files =
            ([]);
        state = 0;
      };
      file = codes "a.lua";
      code = ready table_handler_ticks_program;
      args =
          ([]);
      ticks = 3;
      replies = ([]);
    }) ([], done None, 0)

abbrev pub CallEventTicks : Type 0
CallEventTicks = Comes {A =
    List ℕ × End × ℕ} (λ r. (r.output, r.end, r.ticks)) (record {
      game = record {
        files =
            ([]);
        state = 0;
      };
      file = codes "a.lua";
      code = ready call_event_ticks_program;
      args =
          ([]);
      ticks = 4;
      replies = ([]);
    }) ([], done None, 0)

abbrev pub NotCalledTicks : Type 0
NotCalledTicks = Comes {A =
    List ℕ × End × ℕ} (λ r. (r.output, r.end, r.ticks)) (record {
      game = record {
        files =
            ([]);
        state = 0;
      };
      file = codes "a.lua";
      code = ready not_called_ticks_program;
      args =
          ([]);
      ticks = 6;
      replies = ([]);
    }) (
      (codes "false\ta.lua:1: attempt to call a nil value\n"),
      done None,
      0,
    )

abbrev pub EachTicks : Type 0
EachTicks = Comes {A =
    List ℕ × End × ℕ} (λ r. (r.output, r.end, r.ticks)) (record {
      game = record {
        files =
            ([]);
        state = 0;
      };
      file = codes "a.lua";
      code = ready each_ticks_program;
      args =
          ([]);
      ticks = 5;
      replies = ([]);
    }) ([], done None, 0)

abbrev pub EachShort : Type 0
EachShort = Comes {A =
    List ℕ × End} (λ r. (r.output, r.end)) (record {
      game = record {
        files =
            ([]);
        state = 0;
      };
      file = codes "a.lua";
      code = ready each_short_program;
      args =
          ([]);
      ticks = 4;
      replies = ([]);
    }) ([], no_steps)

abbrev pub RepeatTicks : Type 0
RepeatTicks = Comes {A =
    List ℕ × End × ℕ} (λ r. (r.output, r.end, r.ticks)) (record {
      game = record {
        files =
            ([]);
        state = 0;
      };
      file = codes "a.lua";
      code = ready repeat_ticks_program;
      args =
          ([]);
      ticks = 2;
      replies = ([]);
    }) ([], done None, 0)

abbrev pub StatementTicks : Type 0
StatementTicks = Comes {A =
    List ℕ × End × ℕ} (λ r. (r.output, r.end, r.ticks)) (record {
      game = record {
        files =
            ([]);
        state = 0;
      };
      file = codes "a.lua";
      code = ready statement_ticks_program;
      args =
          ([]);
      ticks = 4;
      replies = ([]);
    }) ([], done None, 0)

abbrev pub TostringTicks : Type 0
TostringTicks = Comes {A =
    List ℕ × End × ℕ} (λ r. (r.output, r.end, r.ticks)) (record {
      game = record {
        files =
            ([]);
        state = 0;
      };
      file = codes "a.lua";
      code = ready tostring_ticks_program;
      args =
          ([]);
      ticks = 5;
      replies = ([]);
    }) ((codes "x\n"), done None, 0)

-- all of them
pub record Rows : Type 0 where
  pub ten : Ten
  pub nine : Nine
  pub six : Six
  pub five : Five
  pub one_print : OnePrint
  pub one_short : OneShort
  pub for_ever : ForEver
  pub nothing : Nothing
  pub pcall_ticks : PcallTicks
  pub pcall_short : PcallShort
  pub handler_ticks : HandlerTicks
  pub handler_short : HandlerShort
  pub table_handler_ticks : TableHandlerTicks
  pub call_event_ticks : CallEventTicks
  pub not_called_ticks : NotCalledTicks
  pub each_ticks : EachTicks
  pub each_short : EachShort
  pub repeat_ticks : RepeatTicks
  pub statement_ticks : StatementTicks
  pub tostring_ticks : TostringTicks
