-- Rows of the machine: metamethods (manual §2.8). Written by checks/machine-rows/write.py.
use Rattle.std.specs.Prelude.{ℕ, List, [], None, codes}
use Rattle.lua_meaning.specs.Control.{ready}
use Rattle.lua_meaning.specs.Run.{End, done}
use Rattle.lua_meaning.specs.rows.Handlers.{index_call_program, chain_program, index_loop_program, newindex_table_program, arithmetic_events_program, first_operand_program, equality_program, order_events_program, le_event_program, concat_middle_program, tostring_event_program, tostring_bad_program, protected_program, text_methods_program, call_chain_program, handler_called_program, raw_program, length_ignored_program}
use Rattle.lua_code.specs.rows.Comes.{Comes}

abbrev pub IndexCall : Type 0
IndexCall = Comes {A =
    List ℕ × End} (λ r. (r.output, r.end)) (record {
      game = record {
        files =
            ([]);
        state = 0;
      };
      file = codes "a.lua";
      code = ready index_call_program;
      args =
          ([]);
      ticks = 1000;
      replies = ([]);
    }) ((codes "x!\t5\n"), done None)

abbrev pub Chain : Type 0
Chain = Comes {A = List ℕ × End} (λ r. (r.output, r.end)) (record {
  game =
      record { files = ([]); state = 0 };
  file = codes "a.lua";
  code = ready chain_program;
  args =
      ([]);
  ticks = 1000;
  replies = ([]);
}) ((codes "1\t2\tnil\n"), done None)

abbrev pub IndexLoop : Type 0
IndexLoop = Comes {A =
    List ℕ × End} (λ r. (r.output, r.end)) (record {
      game = record {
        files =
            ([]);
        state = 0;
      };
      file = codes "a.lua";
      code = ready index_loop_program;
      args =
          ([]);
      ticks = 1000;
      replies = ([]);
    }) ((codes "false\ta.lua:3: index loop\n"), done None)

abbrev pub NewindexTable : Type 0
NewindexTable = Comes {A =
    List ℕ × End} (λ r. (r.output, r.end)) (record {
      game = record {
        files =
            ([]);
        state = 0;
      };
      file = codes "a.lua";
      code = ready newindex_table_program;
      args =
          ([]);
      ticks = 1000;
      replies = ([]);
    }) ((codes "2\tnil\tnil\t3\n"), done None)

abbrev pub ArithmeticEvents : Type 0
ArithmeticEvents = Comes {A =
    List ℕ × End} (λ r. (r.output, r.end)) (record {
      game = record {
        files =
            ([]);
        state = 0;
      };
      file = codes "a.lua";
      code = ready arithmetic_events_program;
      args =
          ([]);
      ticks = 1000;
      replies = ([]);
    }) (
      (codes "add\tsub\tmul\tdiv\tmod\tpow\tconcat\ttrue\n"),
      done None,
    )

abbrev pub FirstOperand : Type 0
FirstOperand = Comes {A =
    List ℕ × End} (λ r. (r.output, r.end)) (record {
      game = record {
        files =
            ([]);
        state = 0;
      };
      file = codes "a.lua";
      code = ready first_operand_program;
      args =
          ([]);
      ticks = 1000;
      replies = ([]);
    }) ((codes "a\tb\tb\n"), done None)

abbrev pub Equality : Type 0
Equality = Comes {A =
    List ℕ × End} (λ r. (r.output, r.end)) (record {
      game = record {
        files =
            ([]);
        state = 0;
      };
      file = codes "a.lua";
      code = ready equality_program;
      args =
          ([]);
      ticks = 1000;
      replies = ([]);
    }) ((codes "true\tfalse\tfalse\tfalse\tfalse\n"), done None)

abbrev pub OrderEvents : Type 0
OrderEvents = Comes {A =
    List ℕ × End} (λ r. (r.output, r.end)) (record {
      game = record {
        files =
            ([]);
        state = 0;
      };
      file = codes "a.lua";
      code = ready order_events_program;
      args =
          ([]);
      ticks = 1000;
      replies = ([]);
    }) ((codes "true\tfalse\ttrue\tfalse\n"), done None)

abbrev pub LeEvent : Type 0
LeEvent = Comes {A = List ℕ × End} (λ r. (r.output, r.end)) (record {
  game =
      record { files = ([]); state = 0 };
  file = codes "a.lua";
  code = ready le_event_program;
  args =
      ([]);
  ticks = 1000;
  replies = ([]);
}) ((codes "true\tfalse\n"), done None)

abbrev pub ConcatMiddle : Type 0
ConcatMiddle = Comes {A =
    List ℕ × End} (λ r. (r.output, r.end)) (record {
      game = record {
        files =
            ([]);
        state = 0;
      };
      file = codes "a.lua";
      code = ready concat_middle_program;
      args =
          ([]);
      ticks = 1000;
      replies = ([]);
    }) ((codes "aT+bc\n"), done None)

abbrev pub TostringEvent : Type 0
TostringEvent = Comes {A =
    List ℕ × End} (λ r. (r.output, r.end)) (record {
      game = record {
        files =
            ([]);
        state = 0;
      };
      file = codes "a.lua";
      code = ready tostring_event_program;
      args =
          ([]);
      ticks = 1000;
      replies = ([]);
    }) ((codes "me\tme\ttrue\n"), done None)

abbrev pub TostringBad : Type 0
TostringBad = Comes {A =
    List ℕ × End} (λ r. (r.output, r.end)) (record {
      game = record {
        files =
            ([]);
        state = 0;
      };
      file = codes "a.lua";
      code = ready tostring_bad_program;
      args =
          ([]);
      ticks = 1000;
      replies = ([]);
    }) (
      (codes
          "false\t'tostring' must return a string to 'print'\ntable\n"),
      done None,
    )

abbrev pub Protected : Type 0
Protected = Comes {A =
    List ℕ × End} (λ r. (r.output, r.end)) (record {
      game = record {
        files =
            ([]);
        state = 0;
      };
      file = codes "a.lua";
      code = ready protected_program;
      args =
          ([]);
      ticks = 1000;
      replies = ([]);
    }) (
      (codes
          "no\tfalse\tcannot change a protected metatable\n"),
      done None,
    )

abbrev pub TextMethods : Type 0
TextMethods = Comes {A =
    List ℕ × End} (λ r. (r.output, r.end)) (record {
      game = record {
        files =
            ([]);
        state = 0;
      };
      file = codes "a.lua";
      code = ready text_methods_program;
      args =
          ([]);
      ticks = 1000;
      replies = ([]);
    }) ((codes "3\tABC\txxx\t3\tnil\ttrue\n"), done None)

abbrev pub CallChain : Type 0
CallChain = Comes {A =
    List ℕ × End} (λ r. (r.output, r.end)) (record {
      game = record {
        files =
            ([]);
        state = 0;
      };
      file = codes "a.lua";
      code = ready call_chain_program;
      args =
          ([]);
      ticks = 1000;
      replies = ([]);
    }) (
      (codes "false\tattempt to call a table value\n"),
      done
          None,
    )

abbrev pub HandlerCalled : Type 0
HandlerCalled = Comes {A =
    List ℕ × End} (λ r. (r.output, r.end)) (record {
      game = record {
        files =
            ([]);
        state = 0;
      };
      file = codes "a.lua";
      code = ready handler_called_program;
      args =
          ([]);
      ticks = 1000;
      replies = ([]);
    }) ((codes "7\n"), done None)

abbrev pub Raw : Type 0
Raw = Comes {A = List ℕ × End} (λ r. (r.output, r.end)) (record {
  game =
      record { files = ([]); state = 0 };
  file = codes "a.lua";
  code = ready raw_program;
  args =
      ([]);
  ticks = 1000;
  replies = ([]);
}) ((codes "2\tnil\t1\n"), done None)

abbrev pub LengthIgnored : Type 0
LengthIgnored = Comes {A =
    List ℕ × End} (λ r. (r.output, r.end)) (record {
      game = record {
        files =
            ([]);
        state = 0;
      };
      file = codes "a.lua";
      code = ready length_ignored_program;
      args =
          ([]);
      ticks = 1000;
      replies = ([]);
    }) ((codes "2\n"), done None)

-- all of them
pub record Rows : Type 0 where
  pub index_call : IndexCall
  pub chain : Chain
  pub index_loop : IndexLoop
  pub newindex_table : NewindexTable
  pub arithmetic_events : ArithmeticEvents
  pub first_operand : FirstOperand
  pub equality : Equality
  pub order_events : OrderEvents
  pub le_event : LeEvent
  pub concat_middle : ConcatMiddle
  pub tostring_event : TostringEvent
  pub tostring_bad : TostringBad
  pub protected : Protected
  pub text_methods : TextMethods
  pub call_chain : CallChain
  pub handler_called : HandlerCalled
  pub raw : Raw
  pub length_ignored : LengthIgnored
