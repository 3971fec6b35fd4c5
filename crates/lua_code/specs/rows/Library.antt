-- Rows of the machine: functions of the library (manual §5). Written by checks/machine-rows/write.py.
use Rattle.std.specs.Prelude.{ℕ, List, [], None, codes}
use Rattle.lua_meaning.specs.Control.{ready}
use Rattle.lua_meaning.specs.Run.{End, done}
use Rattle.lua_meaning.specs.rows.Library.{format_program, format_more_program, format_faults_program, numbers_program, tonumber_more_program, sorted_program, sort_texts_program, no_patterns_program, found_program, subs_program, bytes_program, insertions_program, removals_program, joins_program, maxn_program, walks_program, cleared_walk_program, next_faults_program, ipairs_stop_program, selects_program, unpacks_program, maths_program, types_program, absent_program, concat_numbers_program, text_order_program, too_long_program, remainders_program}
use Rattle.lua_code.specs.rows.Comes.{Comes}

abbrev pub Format : Type 0
Format = Comes {A = List ℕ × End} (λ r. (r.output, r.end)) (record {
  game =
      record { files = ([]); state = 0 };
  file = codes "a.lua";
  code = ready format_program;
  args =
      ([]);
  ticks = 1000;
  replies = ([]);
}) ((codes "-0042/ab  /ff\n"), done None)

abbrev pub FormatMore : Type 0
FormatMore = Comes {A =
    List ℕ × End} (λ r. (r.output, r.end)) (record {
      game = record {
        files =
            ([]);
        state = 0;
      };
      file = codes "a.lua";
      code = ready format_more_program;
      args =
          ([]);
      ticks = 1000;
      replies = ([]);
    }) ((codes "  7|7  |007|FF|A%|    x|12\n"), done None)

abbrev pub FormatFaults : Type 0
FormatFaults = Comes {A =
    List ℕ × End} (λ r. (r.output, r.end)) (record {
      game = record {
        files =
            ([]);
        state = 0;
      };
      file = codes "a.lua";
      code = ready format_faults_program;
      args =
          ([]);
      ticks = 1000;
      replies = ([]);
    }) (
      (codes
          "false\tinvalid format\nfalse\tbad argument #2 to 'format' (number expected, got string)\nfalse\tbad argument #2 to 'format' (not negative expected)\nfalse\tbad argument #2 to 'format' (0 to 255 expected)\nfalse\tinvalid format\n"),
      done None,
    )

abbrev pub Numbers : Type 0
Numbers = Comes {A = List ℕ × End} (λ r. (r.output, r.end)) (record {
  game =
      record { files = ([]); state = 0 };
  file = codes "a.lua";
  code = ready numbers_program;
  args =
      ([]);
  ticks = 1000;
  replies = ([]);
}) ((codes "1295\t2\t-1\n"), done None)

abbrev pub TonumberMore : Type 0
TonumberMore = Comes {A =
    List ℕ × End} (λ r. (r.output, r.end)) (record {
      game = record {
        files =
            ([]);
        state = 0;
      };
      file = codes "a.lua";
      code = ready tonumber_more_program;
      args =
          ([]);
      ticks = 1000;
      replies = ([]);
    }) ((codes "16\t100\tnil\tnil\t3\tnil\t255\n"), done None)

abbrev pub Sorted : Type 0
Sorted = Comes {A = List ℕ × End} (λ r. (r.output, r.end)) (record {
  game =
      record { files = ([]); state = 0 };
  file = codes "a.lua";
  code = ready sorted_program;
  args =
      ([]);
  ticks = 1000;
  replies = ([]);
}) ((codes "1,2,3\txxx\n"), done None)

abbrev pub SortTexts : Type 0
SortTexts = Comes {A =
    List ℕ × End} (λ r. (r.output, r.end)) (record {
      game = record {
        files =
            ([]);
        state = 0;
      };
      file = codes "a.lua";
      code = ready sort_texts_program;
      args =
          ([]);
      ticks = 1000;
      replies = ([]);
    }) (
      (codes
          ",a,ab,b\nfalse\t'sort' needs all numbers or all strings\nfalse\t'sort' needs all numbers or all strings\nfalse\t'sort' takes no function\n"),
      done None,
    )

abbrev pub NoPatterns : Type 0
NoPatterns = Comes {A =
    List ℕ × End} (λ r. (r.output, r.end)) (record {
      game = record {
        files =
            ([]);
        state = 0;
      };
      file = codes "a.lua";
      code = ready no_patterns_program;
      args =
          ([]);
      ticks = 1000;
      replies = ([]);
    }) (
      (codes "false\tpatterns are not available\n2\t2\n"),
      done None,
    )

abbrev pub Found : Type 0
Found = Comes {A = List ℕ × End} (λ r. (r.output, r.end)) (record {
  game =
      record { files = ([]); state = 0 };
  file = codes "a.lua";
  code = ready found_program;
  args =
      ([]);
  ticks = 1000;
  replies = ([]);
}) ((codes "3\tnil\t6\t4\t4\n"), done None)

abbrev pub Subs : Type 0
Subs = Comes {A = List ℕ × End} (λ r. (r.output, r.end)) (record {
  game =
      record { files = ([]); state = 0 };
  file = codes "a.lua";
  code = ready subs_program;
  args =
      ([]);
  ticks = 1000;
  replies = ([]);
}) ((codes "el\tllo\tell\t\thello\t104\t111\n"), done None)

abbrev pub Bytes : Type 0
Bytes = Comes {A = List ℕ × End} (λ r. (r.output, r.end)) (record {
  game =
      record { files = ([]); state = 0 };
  file = codes "a.lua";
  code = ready bytes_program;
  args =
      ([]);
  ticks = 1000;
  replies = ([]);
}) (
  (codes
      "Hi\t97\t98\t99\nfalse\tbad argument #1 to 'char' (0 to 255 expected)\nABC\tabc\tcba\ttrue\n"),
  done None,
)

abbrev pub Insertions : Type 0
Insertions = Comes {A =
    List ℕ × End} (λ r. (r.output, r.end)) (record {
      game = record {
        files =
            ([]);
        state = 0;
      };
      file = codes "a.lua";
      code = ready insertions_program;
      args =
          ([]);
      ticks = 1000;
      replies = ([]);
    }) (
      (codes
          "5\t0 1 2 3 4\tfar\nfalse\tbad argument #2 to 'insert' (position out of bounds)\n"),
      done None,
    )

abbrev pub Removals : Type 0
Removals = Comes {A =
    List ℕ × End} (λ r. (r.output, r.end)) (record {
      game = record {
        files =
            ([]);
        state = 0;
      };
      file = codes "a.lua";
      code = ready removals_program;
      args =
          ([]);
      ticks = 1000;
      replies = ([]);
    }) ((codes "3\t1\t1\t2\n0\t0\n"), done None)

abbrev pub Joins : Type 0
Joins = Comes {A = List ℕ × End} (λ r. (r.output, r.end)) (record {
  game =
      record { files = ([]); state = 0 };
  file = codes "a.lua";
  code = ready joins_program;
  args =
      ([]);
  ticks = 1000;
  replies = ([]);
}) (
  (codes
      "1-a-2\t\t2,3\nfalse\tinvalid value (table) at index 2 in table for 'concat'\n"),
  done None,
)

abbrev pub Maxn : Type 0
Maxn = Comes {A = List ℕ × End} (λ r. (r.output, r.end)) (record {
  game =
      record { files = ([]); state = 0 };
  file = codes "a.lua";
  code = ready maxn_program;
  args =
      ([]);
  ticks = 1000;
  replies = ([]);
}) ((codes "10\t0\n"), done None)

abbrev pub Walks : Type 0
Walks = Comes {A = List ℕ × End} (λ r. (r.output, r.end)) (record {
  game =
      record { files = ([]); state = 0 };
  file = codes "a.lua";
  code = ready walks_program;
  args =
      ([]);
  ticks = 1000;
  replies = ([]);
}) ((codes "1\t10\n2\t7\n3\t30\nx\t5\n1\n"), done None)

abbrev pub ClearedWalk : Type 0
ClearedWalk = Comes {A =
    List ℕ × End} (λ r. (r.output, r.end)) (record {
      game = record {
        files =
            ([]);
        state = 0;
      };
      file = codes "a.lua";
      code = ready cleared_walk_program;
      args =
          ([]);
      ticks = 1000;
      replies = ([]);
    }) ((codes "3\tnil\n"), done None)

abbrev pub NextFaults : Type 0
NextFaults = Comes {A =
    List ℕ × End} (λ r. (r.output, r.end)) (record {
      game = record {
        files =
            ([]);
        state = 0;
      };
      file = codes "a.lua";
      code = ready next_faults_program;
      args =
          ([]);
      ticks = 1000;
      replies = ([]);
    }) (
      (codes
          "nil\t1\tfalse\tbad argument #2 to 'next' (no such key)\n"),
      done None,
    )

abbrev pub IpairsStop : Type 0
IpairsStop = Comes {A =
    List ℕ × End} (λ r. (r.output, r.end)) (record {
      game = record {
        files =
            ([]);
        state = 0;
      };
      file = codes "a.lua";
      code = ready ipairs_stop_program;
      args =
          ([]);
      ticks = 1000;
      replies = ([]);
    }) ((codes "3\n"), done None)

abbrev pub Selects : Type 0
Selects = Comes {A = List ℕ × End} (λ r. (r.output, r.end)) (record {
  game =
      record { files = ([]); state = 0 };
  file = codes "a.lua";
  code = ready selects_program;
  args =
      ([]);
  ticks = 1000;
  replies = ([]);
}) (
  (codes
      "0\t2\tb\tc\nfalse\tbad argument #1 to 'select' (index out of range)\nfalse\tbad argument #1 to 'select' (index out of range)\n"),
  done None,
)

abbrev pub Unpacks : Type 0
Unpacks = Comes {A = List ℕ × End} (λ r. (r.output, r.end)) (record {
  game =
      record { files = ([]); state = 0 };
  file = codes "a.lua";
  code = ready unpacks_program;
  args =
      ([]);
  ticks = 1000;
  replies = ([]);
}) (
  (codes
      "1\t2\t3\n1\tnil\t3\n2\nfalse\ttoo many values\n"),
  done None,
)

abbrev pub Maths : Type 0
Maths = Comes {A = List ℕ × End} (λ r. (r.output, r.end)) (record {
  game =
      record { files = ([]); state = 0 };
  file = codes "a.lua";
  code = ready maths_program;
  args =
      ([]);
  ticks = 1000;
  replies = ([]);
}) (
  (codes
      "5\t3\t-3\t3\t1\t32\t1\nfalse\tnumber has no whole value\nfalse\tbad argument #1 to 'max' (number expected, got nil)\n"),
  done None,
)

abbrev pub Types : Type 0
Types = Comes {A = List ℕ × End} (λ r. (r.output, r.end)) (record {
  game =
      record { files = ([]); state = 0 };
  file = codes "a.lua";
  code = ready types_program;
  args =
      ([]);
  ticks = 1000;
  replies = ([]);
}) (
  (codes
      "nil\tnumber\tstring\ttable\tfunction\tfunction\tnil\n"),
  done None,
)

abbrev pub Absent : Type 0
Absent = Comes {A = List ℕ × End} (λ r. (r.output, r.end)) (record {
  game =
      record { files = ([]); state = 0 };
  file = codes "a.lua";
  code = ready absent_program;
  args =
      ([]);
  ticks = 1000;
  replies = ([]);
}) (
  (codes "nil\tnil\ttrue\t0\tLua 5.1\nnil\tnil\tnil\n"),
  done None,
)

abbrev pub ConcatNumbers : Type 0
ConcatNumbers = Comes {A =
    List ℕ × End} (λ r. (r.output, r.end)) (record {
      game = record {
        files =
            ([]);
        state = 0;
      };
      file = codes "a.lua";
      code = ready concat_numbers_program;
      args =
          ([]);
      ticks = 1000;
      replies = ([]);
    }) ((codes "12\t15\t12\t-2\t10\n"), done None)

abbrev pub TextOrder : Type 0
TextOrder = Comes {A =
    List ℕ × End} (λ r. (r.output, r.end)) (record {
      game = record {
        files =
            ([]);
        state = 0;
      };
      file = codes "a.lua";
      code = ready text_order_program;
      args =
          ([]);
      ticks = 1000;
      replies = ([]);
    }) ((codes "true\ttrue\ttrue\ttrue\ttrue\n"), done None)

abbrev pub TooLong : Type 0
TooLong = Comes {A = List ℕ × End} (λ r. (r.output, r.end)) (record {
  game =
      record { files = ([]); state = 0 };
  file = codes "a.lua";
  code = ready too_long_program;
  args =
      ([]);
  ticks = 1000;
  replies = ([]);
}) (
  (codes
      "false\tstring too long\n0\tfalse\tbad argument #1 to 'rep' (string expected, got nil)\n"),
  done None,
)

abbrev pub Remainders : Type 0
Remainders = Comes {A =
    List ℕ × End} (λ r. (r.output, r.end)) (record {
      game = record {
        files =
            ([]);
        state = 0;
      };
      file = codes "a.lua";
      code = ready remainders_program;
      args =
          ([]);
      ticks = 1000;
      replies = ([]);
    }) ((codes "1\t2\t-2\t-1\t1\t1\n"), done None)

-- all of them
pub record Rows : Type 0 where
  pub format : Format
  pub format_more : FormatMore
  pub format_faults : FormatFaults
  pub numbers : Numbers
  pub tonumber_more : TonumberMore
  pub sorted : Sorted
  pub sort_texts : SortTexts
  pub no_patterns : NoPatterns
  pub found : Found
  pub subs : Subs
  pub bytes : Bytes
  pub insertions : Insertions
  pub removals : Removals
  pub joins : Joins
  pub maxn : Maxn
  pub walks : Walks
  pub cleared_walk : ClearedWalk
  pub next_faults : NextFaults
  pub ipairs_stop : IpairsStop
  pub selects : Selects
  pub unpacks : Unpacks
  pub maths : Maths
  pub types : Types
  pub absent : Absent
  pub concat_numbers : ConcatNumbers
  pub text_order : TextOrder
  pub too_long : TooLong
  pub remainders : Remainders
