-- Rows of the machine: order of evaluation, assignment and lists (manual §2.4.3, §2.5). Written by checks/machine-rows/write.py.
use Rattle.std.specs.Prelude.{ℕ, pos, List, [], Some, None, codes}
use Rattle.lua_meaning.specs.Control.{ready}
use Rattle.lua_meaning.specs.Run.{End, done}
use Rattle.lua_meaning.specs.rows.Order.{swap_program, operands_program, arguments_program, fields_program, targets_program, last_first_program, same_target_program, and_or_program, middle_program, fewer_program, varargs_program, powers_program, greater_program, method_order_program, concat_order_program}
use Rattle.lua_code.specs.rows.Comes.{Comes}

abbrev pub Swap : Type 0
Swap = Comes {A = List ℕ × End} (λ r. (r.output, r.end)) (record {
  game =
      record { files = ([]); state = 0 };
  file = codes "a.lua";
  code = ready swap_program;
  args =
      ([]);
  ticks = 1000;
  replies = ([]);
}) ((codes "2\t1\n"), done None)

abbrev pub Operands : Type 0
Operands = Comes {A =
    List ℕ × End} (λ r. (r.output, r.end)) (record {
      game = record {
        files =
            ([]);
        state = 0;
      };
      file = codes "a.lua";
      code = ready operands_program;
      args =
          ([]);
      ticks = 1000;
      replies = ([]);
    }) ((codes "1\n2\n3\n"), done (Some (pos 7)))

abbrev pub Arguments : Type 0
Arguments = Comes {A =
    List ℕ × End} (λ r. (r.output, r.end)) (record {
      game = record {
        files =
            ([]);
        state = 0;
      };
      file = codes "a.lua";
      code = ready arguments_program;
      args =
          ([]);
      ticks = 1000;
      replies = ([]);
    }) ((codes "1\n2\n3\n3\n"), done None)

abbrev pub Fields : Type 0
Fields = Comes {A = List ℕ × End} (λ r. (r.output, r.end)) (record {
  game =
      record { files = ([]); state = 0 };
  file = codes "a.lua";
  code = ready fields_program;
  args =
      ([]);
  ticks = 1000;
  replies = ([]);
}) ((codes "1\n2\n3\n4\n2\t4\n"), done None)

abbrev pub Targets : Type 0
Targets = Comes {A = List ℕ × End} (λ r. (r.output, r.end)) (record {
  game =
      record { files = ([]); state = 0 };
  file = codes "a.lua";
  code = ready targets_program;
  args =
      ([]);
  ticks = 1000;
  replies = ([]);
}) ((codes "a\nb\nc\nd\n1\n"), done None)

abbrev pub LastFirst : Type 0
LastFirst = Comes {A =
    List ℕ × End} (λ r. (r.output, r.end)) (record {
      game = record {
        files =
            ([]);
        state = 0;
      };
      file = codes "a.lua";
      code = ready last_first_program;
      args =
          ([]);
      ticks = 1000;
      replies = ([]);
    }) ((codes "c\t3\nb\t2\na\t1\n"), done None)

abbrev pub SameTarget : Type 0
SameTarget = Comes {A =
    List ℕ × End} (λ r. (r.output, r.end)) (record {
      game = record {
        files =
            ([]);
        state = 0;
      };
      file = codes "a.lua";
      code = ready same_target_program;
      args =
          ([]);
      ticks = 1000;
      replies = ([]);
    }) ((codes "2\t20\tnil\n"), done None)

abbrev pub AndOr : Type 0
AndOr = Comes {A = List ℕ × End} (λ r. (r.output, r.end)) (record {
  game =
      record { files = ([]); state = 0 };
  file = codes "a.lua";
  code = ready and_or_program;
  args =
      ([]);
  ticks = 1000;
  replies = ([]);
}) ((codes "f\nf\nfalse\t2\t3\tfalse\n"), done None)

abbrev pub Middle : Type 0
Middle = Comes {A = List ℕ × End} (λ r. (r.output, r.end)) (record {
  game =
      record { files = ([]); state = 0 };
  file = codes "a.lua";
  code = ready middle_program;
  args =
      ([]);
  ticks = 1000;
  replies = ([]);
}) ((codes "3\t1\t1\t2\n"), done None)

abbrev pub Fewer : Type 0
Fewer = Comes {A = List ℕ × End} (λ r. (r.output, r.end)) (record {
  game =
      record { files = ([]); state = 0 };
  file = codes "a.lua";
  code = ready fewer_program;
  args =
      ([]);
  ticks = 1000;
  replies = ([]);
}) ((codes "1\tnil\tnil\t1\t2\n"), done None)

abbrev pub Varargs : Type 0
Varargs = Comes {A = List ℕ × End} (λ r. (r.output, r.end)) (record {
  game =
      record { files = ([]); state = 0 };
  file = codes "a.lua";
  code = ready varargs_program;
  args =
      ([]);
  ticks = 1000;
  replies = ([]);
}) ((codes "1\t2\tnil\t9\n1\n"), done None)

abbrev pub Powers : Type 0
Powers = Comes {A = List ℕ × End} (λ r. (r.output, r.end)) (record {
  game =
      record { files = ([]); state = 0 };
  file = codes "a.lua";
  code = ready powers_program;
  args =
      ([]);
  ticks = 1000;
  replies = ([]);
}) ((codes "512\t-4\t1024\n"), done None)

abbrev pub Greater : Type 0
Greater = Comes {A = List ℕ × End} (λ r. (r.output, r.end)) (record {
  game =
      record { files = ([]); state = 0 };
  file = codes "a.lua";
  code = ready greater_program;
  args =
      ([]);
  ticks = 1000;
  replies = ([]);
}) ((codes "1\n2\n2\n2\nfalse\ttrue\n"), done None)

abbrev pub MethodOrder : Type 0
MethodOrder = Comes {A =
    List ℕ × End} (λ r. (r.output, r.end)) (record {
      game = record {
        files =
            ([]);
        state = 0;
      };
      file = codes "a.lua";
      code = ready method_order_program;
      args =
          ([]);
      ticks = 1000;
      replies = ([]);
    }) ((codes "o\na\nm\n"), done None)

abbrev pub ConcatOrder : Type 0
ConcatOrder = Comes {A =
    List ℕ × End} (λ r. (r.output, r.end)) (record {
      game = record {
        files =
            ([]);
        state = 0;
      };
      file = codes "a.lua";
      code = ready concat_order_program;
      args =
          ([]);
      ticks = 1000;
      replies = ([]);
    }) ((codes "a\nb\n1\nab1\n"), done None)

-- all of them
pub record Rows : Type 0 where
  pub swap : Swap
  pub operands : Operands
  pub arguments : Arguments
  pub fields : Fields
  pub targets : Targets
  pub last_first : LastFirst
  pub same_target : SameTarget
  pub and_or : AndOr
  pub middle : Middle
  pub fewer : Fewer
  pub varargs : Varargs
  pub powers : Powers
  pub greater : Greater
  pub method_order : MethodOrder
  pub concat_order : ConcatOrder
