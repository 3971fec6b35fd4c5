-- Rows of the machine: errors, their places, and pcall (manual §2.7, §5.1). Written by checks/machine-rows/write.py.
use Rattle.std.specs.Prelude.{ℕ, List, [], None, codes}
use Rattle.lua_meaning.specs.Control.{ready}
use Rattle.lua_meaning.specs.Run.{End, done, failed}
use Rattle.lua_meaning.specs.rows.Errors.{levels_program, level_one_program, error_values_program, level_two_pcall_program, main_level_two_program, pcall_pcall_program, not_called_program, operator_places_program, compare_texts_program, index_texts_program, nil_key_program, number_faults_program, for_texts_program, object_end_program, number_end_program, text_end_program, library_place_program, assert_plain_program, handler_error_program, error_through_program, overflow_program, overflow_caught_program, iterator_place_program, method_place_program}
use Rattle.lua_code.specs.rows.Comes.{Comes}

abbrev pub Levels : Type 0
Levels = Comes {A = List ℕ × End} (λ r. (r.output, r.end)) (record {
  game =
      record { files = ([]); state = 0 };
  file = codes "a.lua";
  code = ready levels_program;
  args =
      ([]);
  ticks = 1000;
  replies = ([]);
}) ((codes "false\ta.lua:3: bad\n"), done None)

abbrev pub LevelOne : Type 0
LevelOne = Comes {A =
    List ℕ × End} (λ r. (r.output, r.end)) (record {
      game = record {
        files =
            ([]);
        state = 0;
      };
      file = codes "a.lua";
      code = ready level_one_program;
      args =
          ([]);
      ticks = 1000;
      replies = ([]);
    }) (
      (codes "false\ta.lua:2: x\nfalse\tfalse\tz\n"),
      done
          None,
    )

abbrev pub ErrorValues : Type 0
ErrorValues = Comes {A =
    List ℕ × End} (λ r. (r.output, r.end)) (record {
      game = record {
        files =
            ([]);
        state = 0;
      };
      file = codes "a.lua";
      code = ready error_values_program;
      args =
          ([]);
      ticks = 1000;
      replies = ([]);
    }) ((codes "false\tnil\t5\ttrue\n"), done None)

abbrev pub LevelTwoPcall : Type 0
LevelTwoPcall = Comes {A =
    List ℕ × End} (λ r. (r.output, r.end)) (record {
      game = record {
        files =
            ([]);
        state = 0;
      };
      file = codes "a.lua";
      code = ready level_two_pcall_program;
      args =
          ([]);
      ticks = 1000;
      replies = ([]);
    }) ((codes "false\ta.lua:1: x\n"), done None)

abbrev pub MainLevelTwo : Type 0
MainLevelTwo = Comes {A =
    List ℕ × End} (λ r. (r.output, r.end)) (record {
      game = record {
        files =
            ([]);
        state = 0;
      };
      file = codes "a.lua";
      code = ready main_level_two_program;
      args =
          ([]);
      ticks = 1000;
      replies = ([]);
    }) ([], failed (codes "x"))

abbrev pub PcallPcall : Type 0
PcallPcall = Comes {A =
    List ℕ × End} (λ r. (r.output, r.end)) (record {
      game = record {
        files =
            ([]);
        state = 0;
      };
      file = codes "a.lua";
      code = ready pcall_pcall_program;
      args =
          ([]);
      ticks = 1000;
      replies = ([]);
    }) ((codes "true\tfalse\tx\n"), done None)

abbrev pub NotCalled : Type 0
NotCalled = Comes {A =
    List ℕ × End} (λ r. (r.output, r.end)) (record {
      game = record {
        files =
            ([]);
        state = 0;
      };
      file = codes "a.lua";
      code = ready not_called_program;
      args =
          ([]);
      ticks = 1000;
      replies = ([]);
    }) (
      (codes
          "false\tattempt to call a nil value\nfalse\tattempt to call a number value\nfalse\tattempt to call a nil value\n"),
      done None,
    )

abbrev pub OperatorPlaces : Type 0
OperatorPlaces = Comes {A =
    List ℕ × End} (λ r. (r.output, r.end)) (record {
      game = record {
        files =
            ([]);
        state = 0;
      };
      file = codes "a.lua";
      code = ready operator_places_program;
      args =
          ([]);
      ticks = 1000;
      replies = ([]);
    }) (
      (codes
          "false\ta.lua:3: attempt to perform arithmetic on a table value\nfalse\ta.lua:6: attempt to concatenate a table value\nfalse\ta.lua:7: attempt to get length of a number value\n"),
      done None,
    )

abbrev pub CompareTexts : Type 0
CompareTexts = Comes {A =
    List ℕ × End} (λ r. (r.output, r.end)) (record {
      game = record {
        files =
            ([]);
        state = 0;
      };
      file = codes "a.lua";
      code = ready compare_texts_program;
      args =
          ([]);
      ticks = 1000;
      replies = ([]);
    }) (
      (codes
          "false\ta.lua:1: attempt to compare number with string\nfalse\ta.lua:2: attempt to compare two table values\nfalse\ta.lua:3: attempt to compare string with number\n"),
      done None,
    )

abbrev pub IndexTexts : Type 0
IndexTexts = Comes {A =
    List ℕ × End} (λ r. (r.output, r.end)) (record {
      game = record {
        files =
            ([]);
        state = 0;
      };
      file = codes "a.lua";
      code = ready index_texts_program;
      args =
          ([]);
      ticks = 1000;
      replies = ([]);
    }) (
      (codes
          "false\ta.lua:2: attempt to index a nil value\nfalse\ta.lua:3: attempt to index a nil value\nfalse\ta.lua:4: attempt to call a nil value\n"),
      done None,
    )

abbrev pub NilKey : Type 0
NilKey = Comes {A = List ℕ × End} (λ r. (r.output, r.end)) (record {
  game =
      record { files = ([]); state = 0 };
  file = codes "a.lua";
  code = ready nil_key_program;
  args =
      ([]);
  ticks = 1000;
  replies = ([]);
}) (
  (codes
      "false\ta.lua:2: table index is nil\nfalse\ta.lua:3: table index is nil\nnil\n"),
  done None,
)

abbrev pub NumberFaults : Type 0
NumberFaults = Comes {A =
    List ℕ × End} (λ r. (r.output, r.end)) (record {
      game = record {
        files =
            ([]);
        state = 0;
      };
      file = codes "a.lua";
      code = ready number_faults_program;
      args =
          ([]);
      ticks = 1000;
      replies = ([]);
    }) (
      (codes
          "3\t2\t1024\nfalse\ta.lua:2: number has no whole value\nfalse\ta.lua:3: number has no whole value\nfalse\ta.lua:4: number out of range\n"),
      done None,
    )

abbrev pub ForTexts : Type 0
ForTexts = Comes {A =
    List ℕ × End} (λ r. (r.output, r.end)) (record {
      game = record {
        files =
            ([]);
        state = 0;
      };
      file = codes "a.lua";
      code = ready for_texts_program;
      args =
          ([]);
      ticks = 1000;
      replies = ([]);
    }) (
      (codes
          "false\ta.lua:1: 'for' initial value must be a number\nfalse\ta.lua:2: 'for' limit must be a number\nfalse\ta.lua:3: 'for' step must be a number\n"),
      done None,
    )

abbrev pub ObjectEnd : Type 0
ObjectEnd = Comes {A =
    List ℕ × End} (λ r. (r.output, r.end)) (record {
      game = record {
        files =
            ([]);
        state = 0;
      };
      file = codes "a.lua";
      code = ready object_end_program;
      args =
          ([]);
      ticks = 1000;
      replies = ([]);
    }) ([], failed (codes "(error object is a table value)"))

abbrev pub NumberEnd : Type 0
NumberEnd = Comes {A =
    List ℕ × End} (λ r. (r.output, r.end)) (record {
      game = record {
        files =
            ([]);
        state = 0;
      };
      file = codes "a.lua";
      code = ready number_end_program;
      args =
          ([]);
      ticks = 1000;
      replies = ([]);
    }) ([], failed (codes "42"))

abbrev pub TextEnd : Type 0
TextEnd = Comes {A = List ℕ × End} (λ r. (r.output, r.end)) (record {
  game =
      record { files = ([]); state = 0 };
  file = codes "a.lua";
  code = ready text_end_program;
  args =
      ([]);
  ticks = 1000;
  replies = ([]);
}) (
  [],
  failed
      (codes "a.lua:2: attempt to perform arithmetic on a nil value"),
)

abbrev pub LibraryPlace : Type 0
LibraryPlace = Comes {A =
    List ℕ × End} (λ r. (r.output, r.end)) (record {
      game = record {
        files =
            ([]);
        state = 0;
      };
      file = codes "a.lua";
      code = ready library_place_program;
      args =
          ([]);
      ticks = 1000;
      replies = ([]);
    }) (
      (codes
          "false\ta.lua:2: bad argument #2 to 'rep' (number expected, got table)\nfalse\tbad argument #2 to 'rep' (number expected, got table)\n"),
      done None,
    )

abbrev pub AssertPlain : Type 0
AssertPlain = Comes {A =
    List ℕ × End} (λ r. (r.output, r.end)) (record {
      game = record {
        files =
            ([]);
        state = 0;
      };
      file = codes "a.lua";
      code = ready assert_plain_program;
      args =
          ([]);
      ticks = 1000;
      replies = ([]);
    }) (
      (codes "false\tassertion failed!\nfalse\tm\n3\n"),
      done
          None,
    )

abbrev pub HandlerError : Type 0
HandlerError = Comes {A =
    List ℕ × End} (λ r. (r.output, r.end)) (record {
      game = record {
        files =
            ([]);
        state = 0;
      };
      file = codes "a.lua";
      code = ready handler_error_program;
      args =
          ([]);
      ticks = 1000;
      replies = ([]);
    }) ((codes "false\ta.lua:2: no x\n"), done None)

abbrev pub ErrorThrough : Type 0
ErrorThrough = Comes {A =
    List ℕ × End} (λ r. (r.output, r.end)) (record {
      game = record {
        files =
            ([]);
        state = 0;
      };
      file = codes "a.lua";
      code = ready error_through_program;
      args =
          ([]);
      ticks = 1000;
      replies = ([]);
    }) ((codes "false\ta.lua:1: in+\n"), done None)

abbrev pub Overflow : Type 0
Overflow = Comes {A =
    End} (λ r. (r.end)) (record {
      game = record {
        files =
            ([]);
        state = 0;
      };
      file = codes "a.lua";
      code = ready overflow_program;
      args =
          ([]);
      ticks = 100000;
      replies = ([]);
    }) (failed (codes "a.lua:1: stack overflow"))

abbrev pub OverflowCaught : Type 0
OverflowCaught = Comes {A =
    List ℕ} (λ r. (r.output)) (record {
      game = record {
        files =
            ([]);
        state = 0;
      };
      file = codes "a.lua";
      code = ready overflow_caught_program;
      args =
          ([]);
      ticks = 100000;
      replies = ([]);
    }) ((codes "false\ta.lua:1: stack overflow\n"))

abbrev pub IteratorPlace : Type 0
IteratorPlace = Comes {A =
    List ℕ × End} (λ r. (r.output, r.end)) (record {
      game = record {
        files =
            ([]);
        state = 0;
      };
      file = codes "a.lua";
      code = ready iterator_place_program;
      args =
          ([]);
      ticks = 1000;
      replies = ([]);
    }) (
      (codes
          "false\ta.lua:2: attempt to call a number value\n"),
      done None,
    )

abbrev pub MethodPlace : Type 0
MethodPlace = Comes {A =
    List ℕ × End} (λ r. (r.output, r.end)) (record {
      game = record {
        files =
            ([]);
        state = 0;
      };
      file = codes "a.lua";
      code = ready method_place_program;
      args =
          ([]);
      ticks = 1000;
      replies = ([]);
    }) (
      (codes "false\ta.lua:3: attempt to call a nil value\n"),
      done None,
    )

-- all of them
pub record Rows : Type 0 where
  pub levels : Levels
  pub level_one : LevelOne
  pub error_values : ErrorValues
  pub level_two_pcall : LevelTwoPcall
  pub main_level_two : MainLevelTwo
  pub pcall_pcall : PcallPcall
  pub not_called : NotCalled
  pub operator_places : OperatorPlaces
  pub compare_texts : CompareTexts
  pub index_texts : IndexTexts
  pub nil_key : NilKey
  pub number_faults : NumberFaults
  pub for_texts : ForTexts
  pub object_end : ObjectEnd
  pub number_end : NumberEnd
  pub text_end : TextEnd
  pub library_place : LibraryPlace
  pub assert_plain : AssertPlain
  pub handler_error : HandlerError
  pub error_through : ErrorThrough
  pub overflow : Overflow
  pub overflow_caught : OverflowCaught
  pub iterator_place : IteratorPlace
  pub method_place : MethodPlace
