-- Rows of the machine: locals, closures and loops (manual §2.4, §2.6). Written by checks/machine-rows/write.py.
use Rattle.std.specs.Prelude.{ℕ, List, [], None, codes}
use Rattle.lua_meaning.specs.Control.{ready}
use Rattle.lua_meaning.specs.Run.{End, done}
use Rattle.lua_meaning.specs.rows.Scopes.{loop_closures_program, shared_program, hidden_program, repeat_scope_program, repeat_captured_program, recursive_program, while_closures_program, each_closures_program, break_outer_program, return_inner_program, downwards_program, text_for_program, changed_counter_program, last_numbers_program, globals_program, named_functions_program, no_cells_program, loop_cells_program, parameter_cells_program, twice_declared_program, else_arms_program}
use Rattle.lua_code.specs.rows.Comes.{Comes}

abbrev pub LoopClosures : Type 0
LoopClosures = Comes {A =
    List ℕ × End × ℕ} (λ r. (r.output, r.end, r.cells)) (record {
      game = record {
        files =
            ([]);
        state = 0;
      };
      file = codes "a.lua";
      code = ready loop_closures_program;
      args =
          ([]);
      ticks = 1000;
      replies = ([]);
    }) ((codes "2\t3\t3\n"), done None, 3)

abbrev pub Shared : Type 0
Shared = Comes {A = List ℕ × End × ℕ} (λ r. (r.output, r.end, r.cells)) (record {
  game =
      record { files = ([]); state = 0 };
  file = codes "a.lua";
  code = ready shared_program;
  args =
      ([]);
  ticks = 1000;
  replies = ([]);
}) ((codes "2\t2\n"), done None, 1)

abbrev pub Hidden : Type 0
Hidden = Comes {A = List ℕ × End × ℕ} (λ r. (r.output, r.end, r.cells)) (record {
  game =
      record { files = ([]); state = 0 };
  file = codes "a.lua";
  code = ready hidden_program;
  args =
      ([]);
  ticks = 1000;
  replies = ([]);
}) ((codes "2\n11\n"), done None, 0)

abbrev pub RepeatScope : Type 0
RepeatScope = Comes {A =
    List ℕ × End × ℕ} (λ r. (r.output, r.end, r.cells)) (record {
      game = record {
        files =
            ([]);
        state = 0;
      };
      file = codes "a.lua";
      code = ready repeat_scope_program;
      args =
          ([]);
      ticks = 1000;
      replies = ([]);
    }) ((codes "3\n"), done None, 0)

abbrev pub RepeatCaptured : Type 0
RepeatCaptured = Comes {A =
    List ℕ × End × ℕ} (λ r. (r.output, r.end, r.cells)) (record {
      game = record {
        files =
            ([]);
        state = 0;
      };
      file = codes "a.lua";
      code = ready repeat_captured_program;
      args =
          ([]);
      ticks = 1000;
      replies = ([]);
    }) ((codes "5\n"), done None, 1)

abbrev pub Recursive : Type 0
Recursive = Comes {A =
    List ℕ × End × ℕ} (λ r. (r.output, r.end, r.cells)) (record {
      game = record {
        files =
            ([]);
        state = 0;
      };
      file = codes "a.lua";
      code = ready recursive_program;
      args =
          ([]);
      ticks = 1000;
      replies = ([]);
    }) ((codes "120\n"), done None, 1)

abbrev pub WhileClosures : Type 0
WhileClosures = Comes {A =
    List ℕ × End × ℕ} (λ r. (r.output, r.end, r.cells)) (record {
      game = record {
        files =
            ([]);
        state = 0;
      };
      file = codes "a.lua";
      code = ready while_closures_program;
      args =
          ([]);
      ticks = 1000;
      replies = ([]);
    }) ((codes "2\t3\t3\n"), done None, 2)

abbrev pub EachClosures : Type 0
EachClosures = Comes {A =
    List ℕ × End × ℕ} (λ r. (r.output, r.end, r.cells)) (record {
      game = record {
        files =
            ([]);
        state = 0;
      };
      file = codes "a.lua";
      code = ready each_closures_program;
      args =
          ([]);
      ticks = 1000;
      replies = ([]);
    }) ((codes "10\t20\n"), done None, 2)

abbrev pub BreakOuter : Type 0
BreakOuter = Comes {A =
    List ℕ × End} (λ r. (r.output, r.end)) (record {
      game = record {
        files =
            ([]);
        state = 0;
      };
      file = codes "a.lua";
      code = ready break_outer_program;
      args =
          ([]);
      ticks = 1000;
      replies = ([]);
    }) ((codes "1\n3\n"), done None)

abbrev pub ReturnInner : Type 0
ReturnInner = Comes {A =
    List ℕ × End} (λ r. (r.output, r.end)) (record {
      game = record {
        files =
            ([]);
        state = 0;
      };
      file = codes "a.lua";
      code = ready return_inner_program;
      args =
          ([]);
      ticks = 1000;
      replies = ([]);
    }) ((codes "3\tx\n"), done None)

abbrev pub Downwards : Type 0
Downwards = Comes {A =
    List ℕ × End} (λ r. (r.output, r.end)) (record {
      game = record {
        files =
            ([]);
        state = 0;
      };
      file = codes "a.lua";
      code = ready downwards_program;
      args =
          ([]);
      ticks = 1000;
      replies = ([]);
    }) ((codes "3\n2\n1\n1\n4\n"), done None)

abbrev pub TextFor : Type 0
TextFor = Comes {A = List ℕ × End} (λ r. (r.output, r.end)) (record {
  game =
      record { files = ([]); state = 0 };
  file = codes "a.lua";
  code = ready text_for_program;
  args =
      ([]);
  ticks = 1000;
  replies = ([]);
}) ((codes "1\n2\n"), done None)

abbrev pub ChangedCounter : Type 0
ChangedCounter = Comes {A =
    List ℕ × End} (λ r. (r.output, r.end)) (record {
      game = record {
        files =
            ([]);
        state = 0;
      };
      file = codes "a.lua";
      code = ready changed_counter_program;
      args =
          ([]);
      ticks = 1000;
      replies = ([]);
    }) ((codes "10\t1\n10\t2\n10\t3\n"), done None)

abbrev pub LastNumbers : Type 0
LastNumbers = Comes {A =
    List ℕ × End} (λ r. (r.output, r.end)) (record {
      game = record {
        files =
            ([]);
        state = 0;
      };
      file = codes "a.lua";
      code = ready last_numbers_program;
      args =
          ([]);
      ticks = 1000;
      replies = ([]);
    }) ((codes "99999999999998\n99999999999999\n"), done None)

abbrev pub Globals : Type 0
Globals = Comes {A = List ℕ × End} (λ r. (r.output, r.end)) (record {
  game =
      record { files = ([]); state = 0 };
  file = codes "a.lua";
  code = ready globals_program;
  args =
      ([]);
  ticks = 1000;
  replies = ([]);
}) ((codes "nil\t2\t2\ttrue\n"), done None)

abbrev pub NamedFunctions : Type 0
NamedFunctions = Comes {A =
    List ℕ × End} (λ r. (r.output, r.end)) (record {
      game = record {
        files =
            ([]);
        state = 0;
      };
      file = codes "a.lua";
      code = ready named_functions_program;
      args =
          ([]);
      ticks = 1000;
      replies = ([]);
    }) ((codes "1\ttrue\t2\n"), done None)

abbrev pub NoCells : Type 0
NoCells = Comes {A = List ℕ × End × ℕ} (λ r. (r.output, r.end, r.cells)) (record {
  game =
      record { files = ([]); state = 0 };
  file = codes "a.lua";
  code = ready no_cells_program;
  args =
      ([]);
  ticks = 100;
  replies = ([]);
}) ([], done None, 0)

abbrev pub LoopCells : Type 0
LoopCells = Comes {A =
    List ℕ × End × ℕ} (λ r. (r.output, r.end, r.cells)) (record {
      game = record {
        files =
            ([]);
        state = 0;
      };
      file = codes "a.lua";
      code = ready loop_cells_program;
      args =
          ([]);
      ticks = 1000;
      replies = ([]);
    }) ([], done None, 3)

abbrev pub ParameterCells : Type 0
ParameterCells = Comes {A =
    List ℕ × End × ℕ} (λ r. (r.output, r.end, r.cells)) (record {
      game = record {
        files =
            ([]);
        state = 0;
      };
      file = codes "a.lua";
      code = ready parameter_cells_program;
      args =
          ([]);
      ticks = 1000;
      replies = ([]);
    }) ([], done None, 2)

abbrev pub TwiceDeclared : Type 0
TwiceDeclared = Comes {A =
    List ℕ × End × ℕ} (λ r. (r.output, r.end, r.cells)) (record {
      game = record {
        files =
            ([]);
        state = 0;
      };
      file = codes "a.lua";
      code = ready twice_declared_program;
      args =
          ([]);
      ticks = 1000;
      replies = ([]);
    }) ((codes "2\n"), done None, 1)

abbrev pub ElseArms : Type 0
ElseArms = Comes {A =
    List ℕ × End} (λ r. (r.output, r.end)) (record {
      game = record {
        files =
            ([]);
        state = 0;
      };
      file = codes "a.lua";
      code = ready else_arms_program;
      args =
          ([]);
      ticks = 1000;
      replies = ([]);
    }) ((codes "a\tb\tc\n"), done None)

-- all of them
pub record Rows : Type 0 where
  pub loop_closures : LoopClosures
  pub shared : Shared
  pub hidden : Hidden
  pub repeat_scope : RepeatScope
  pub repeat_captured : RepeatCaptured
  pub recursive : Recursive
  pub while_closures : WhileClosures
  pub each_closures : EachClosures
  pub break_outer : BreakOuter
  pub return_inner : ReturnInner
  pub downwards : Downwards
  pub text_for : TextFor
  pub changed_counter : ChangedCounter
  pub last_numbers : LastNumbers
  pub globals : Globals
  pub named_functions : NamedFunctions
  pub no_cells : NoCells
  pub loop_cells : LoopCells
  pub parameter_cells : ParameterCells
  pub twice_declared : TwiceDeclared
  pub else_arms : ElseArms
