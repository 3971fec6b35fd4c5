-- Rows: ticks: a statement, a turn of a loop and a call take one each. Written by checks/meaning-rows/write.py.
use Rattle.std.specs.Prelude.{ℕ, pos, false, List, [], ◌∷◌, None, codes}
use Rattle.lua_tree.specs.Tree as t
use Rattle.lua_tree.specs.Tree.{Block}
use Rattle.lua_meaning.specs.Control.{ready}
use Rattle.lua_meaning.specs.Run.{End, done, no_steps}
use Rattle.lua_meaning.specs.rows.Comes.{Comes}

-- ---- programs

-- `ten`:
--     for i = 1, 3 do print(i) end
abbrev pub ten_program : Block
ten_program = (t.stat_and (t.num_for 1 (codes "i") (t.number 1 (pos 1)) (t.number 1 (pos 3))
    (t.stat_and (t.call_stat 1 (t.call 1 (t.name 1 (codes "print")) (t.expr_and (t.name 1
    (codes "i")) t.no_exprs))) t.no_stats)) t.no_stats)

-- `nine`:
--     for i = 1, 3 do print(i) end
abbrev pub nine_program : Block
nine_program = (t.stat_and (t.num_for 1 (codes "i") (t.number 1 (pos 1)) (t.number 1 (pos 3))
    (t.stat_and (t.call_stat 1 (t.call 1 (t.name 1 (codes "print")) (t.expr_and (t.name 1
    (codes "i")) t.no_exprs))) t.no_stats)) t.no_stats)

-- `six`:
--     local i = 0 while i < 2 do i = i + 1 end
abbrev pub six_program : Block
six_program = (t.stat_and (t.local 1 ((codes "i") ∷ []) (t.expr_and (t.number 1
    (pos 0)) t.no_exprs)) (t.stat_and (t.while_loop 1 (t.binary 1 t.less (t.name 1 (codes "i"))
    (t.number 1 (pos 2))) (t.stat_and (t.assign 1 (t.expr_and (t.name 1 (codes "i")) t.no_exprs)
    (t.expr_and (t.binary 1 t.add (t.name 1 (codes "i")) (t.number 1
    (pos 1))) t.no_exprs)) t.no_stats)) t.no_stats))

-- `five`:
--     local i = 0 while i < 2 do i = i + 1 end
abbrev pub five_program : Block
five_program = (t.stat_and (t.local 1 ((codes "i") ∷ []) (t.expr_and (t.number 1
    (pos 0)) t.no_exprs)) (t.stat_and (t.while_loop 1 (t.binary 1 t.less (t.name 1 (codes "i"))
    (t.number 1 (pos 2))) (t.stat_and (t.assign 1 (t.expr_and (t.name 1 (codes "i")) t.no_exprs)
    (t.expr_and (t.binary 1 t.add (t.name 1 (codes "i")) (t.number 1
    (pos 1))) t.no_exprs)) t.no_stats)) t.no_stats))

-- `one_print`:
--     print(1)
abbrev pub one_print_program : Block
one_print_program = (t.stat_and (t.call_stat 1 (t.call 1 (t.name 1 (codes "print")) (t.expr_and
    (t.number 1 (pos 1)) t.no_exprs))) t.no_stats)

-- `one_short`:
--     print(1)
abbrev pub one_short_program : Block
one_short_program = (t.stat_and (t.call_stat 1 (t.call 1 (t.name 1 (codes "print")) (t.expr_and
    (t.number 1 (pos 1)) t.no_exprs))) t.no_stats)

-- `for_ever`:
--     while true do end
abbrev pub for_ever_program : Block
for_ever_program = (t.stat_and (t.while_loop 1 (t.true_ 1) t.no_stats) t.no_stats)

-- `nothing`:
abbrev pub nothing_program : Block
nothing_program = t.no_stats

-- `pcall_ticks`:
--     pcall(pcall, nil)
abbrev pub pcall_ticks_program : Block
pcall_ticks_program =
    (t.stat_and (t.call_stat 1 (t.call 1 (t.name 1 (codes "pcall")) (t.expr_and (t.name 1
    (codes "pcall")) (t.expr_and (t.nil 1) t.no_exprs)))) t.no_stats)

-- `pcall_short`:
--     print(pcall(function() while true do end end))
abbrev pub pcall_short_program : Block
pcall_short_program =
    (t.stat_and (t.call_stat 1 (t.call 1 (t.name 1 (codes "print")) (t.expr_and (t.call 1 (t.name 1
    (codes "pcall")) (t.expr_and (t.function 1 (t.func 1 [] false (t.stat_and (t.while_loop 1
    (t.true_ 1) t.no_stats) t.no_stats))) t.no_exprs)) t.no_exprs))) t.no_stats)

-- `handler_ticks`:
--     local t = setmetatable({}, {__index = function() return 1 end})
--     local x = t.y
abbrev pub handler_ticks_program : Block
handler_ticks_program =
    (t.stat_and (t.local 1 ((codes "t") ∷ []) (t.expr_and (t.call 1 (t.name 1
    (codes "setmetatable")) (t.expr_and (t.table 1 t.no_fields) (t.expr_and (t.table 1 (t.keyed_and
    (t.str 1 (codes "__index")) (t.function 1 (t.func 1 [] false (t.stat_and (t.return_stat 1
    (t.expr_and (t.number 1 (pos 1)) t.no_exprs)) t.no_stats))) t.no_fields)) t.no_exprs)))
    t.no_exprs)) (t.stat_and (t.local 2 ((codes "x") ∷ []) (t.expr_and (t.index 2 (t.name 2
    (codes "t")) (t.str 2 (codes "y"))) t.no_exprs)) t.no_stats))

-- `handler_short`:
--     local t = setmetatable({}, {__index = function() return 1 end})
--     local x = t.y
abbrev pub handler_short_program : Block
handler_short_program =
    (t.stat_and (t.local 1 ((codes "t") ∷ []) (t.expr_and (t.call 1 (t.name 1
    (codes "setmetatable")) (t.expr_and (t.table 1 t.no_fields) (t.expr_and (t.table 1 (t.keyed_and
    (t.str 1 (codes "__index")) (t.function 1 (t.func 1 [] false (t.stat_and (t.return_stat 1
    (t.expr_and (t.number 1 (pos 1)) t.no_exprs)) t.no_stats))) t.no_fields)) t.no_exprs)))
    t.no_exprs)) (t.stat_and (t.local 2 ((codes "x") ∷ []) (t.expr_and (t.index 2 (t.name 2
    (codes "t")) (t.str 2 (codes "y"))) t.no_exprs)) t.no_stats))

-- `table_handler_ticks`:
--     local t = setmetatable({}, {__index = {y = 1}})
--     local x = t.y
abbrev pub table_handler_ticks_program : Block
table_handler_ticks_program =
    (t.stat_and (t.local 1 ((codes "t") ∷ []) (t.expr_and (t.call 1 (t.name 1
    (codes "setmetatable")) (t.expr_and (t.table 1 t.no_fields) (t.expr_and (t.table 1 (t.keyed_and
    (t.str 1 (codes "__index")) (t.table 1 (t.keyed_and (t.str 1 (codes "y")) (t.number 1
    (pos 1)) t.no_fields)) t.no_fields)) t.no_exprs))) t.no_exprs)) (t.stat_and (t.local 2
    ((codes "x") ∷ []) (t.expr_and (t.index 2 (t.name 2 (codes "t")) (t.str 2
    (codes "y"))) t.no_exprs)) t.no_stats))

-- `call_event_ticks`:
--     local t = setmetatable({}, {__call = function() end})
--     t()
abbrev pub call_event_ticks_program : Block
call_event_ticks_program =
    (t.stat_and (t.local 1 ((codes "t") ∷ []) (t.expr_and (t.call 1 (t.name 1
    (codes "setmetatable")) (t.expr_and (t.table 1 t.no_fields) (t.expr_and (t.table 1 (t.keyed_and
    (t.str 1 (codes "__call")) (t.function 1 (t.func 1 [] false t.no_stats)) t.no_fields))
    t.no_exprs))) t.no_exprs)) (t.stat_and (t.call_stat 2 (t.call 2 (t.name 2
    (codes "t")) t.no_exprs)) t.no_stats))

-- `not_called_ticks`:
--     print(pcall(function() local x = nil x() end))
abbrev pub not_called_ticks_program : Block
not_called_ticks_program =
    (t.stat_and (t.call_stat 1 (t.call 1 (t.name 1 (codes "print")) (t.expr_and (t.call 1 (t.name 1
    (codes "pcall")) (t.expr_and (t.function 1 (t.func 1 [] false (t.stat_and (t.local 1
    ((codes "x") ∷ []) (t.expr_and (t.nil 1) t.no_exprs)) (t.stat_and (t.call_stat 1 (t.call 1
    (t.name 1 (codes "x")) t.no_exprs)) t.no_stats)))) t.no_exprs)) t.no_exprs))) t.no_stats)

-- `each_ticks`:
--     for k in pairs({5}) do end
abbrev pub each_ticks_program : Block
each_ticks_program = (t.stat_and (t.gen_for 1 ((codes "k") ∷ []) (t.expr_and (t.call 1 (t.name 1
    (codes "pairs")) (t.expr_and (t.table 1 (t.item_and (t.number 1
    (pos 5)) t.no_fields)) t.no_exprs)) t.no_exprs) t.no_stats) t.no_stats)

-- `each_short`:
--     for k in pairs({5}) do end
abbrev pub each_short_program : Block
each_short_program = (t.stat_and (t.gen_for 1 ((codes "k") ∷ []) (t.expr_and (t.call 1 (t.name 1
    (codes "pairs")) (t.expr_and (t.table 1 (t.item_and (t.number 1
    (pos 5)) t.no_fields)) t.no_exprs)) t.no_exprs) t.no_stats) t.no_stats)

-- `repeat_ticks`:
--     repeat until true
abbrev pub repeat_ticks_program : Block
repeat_ticks_program = (t.stat_and (t.repeat_loop 1 t.no_stats (t.true_ 1)) t.no_stats)

-- `statement_ticks`:
--     local function f() end do return f() end
abbrev pub statement_ticks_program : Block
statement_ticks_program =
    (t.stat_and (t.local_function 1 (codes "f") (t.func 1 [] false t.no_stats)) (t.stat_and
    (t.do_block 1 (t.stat_and (t.return_stat 1 (t.expr_and (t.call 1 (t.name 1
    (codes "f")) t.no_exprs) t.no_exprs)) t.no_stats)) t.no_stats))

-- `tostring_ticks`:
--     print(setmetatable({}, {__tostring = function() return 'x' end}))
abbrev pub tostring_ticks_program : Block
tostring_ticks_program =
    (t.stat_and (t.call_stat 1 (t.call 1 (t.name 1 (codes "print")) (t.expr_and (t.call 1 (t.name 1
    (codes "setmetatable")) (t.expr_and (t.table 1 t.no_fields) (t.expr_and (t.table 1 (t.keyed_and
    (t.str 1 (codes "__tostring")) (t.function 1 (t.func 1 [] false (t.stat_and (t.return_stat 1
    (t.expr_and (t.str 1 (codes "x")) t.no_exprs)) t.no_stats))) t.no_fields)) t.no_exprs)))
    t.no_exprs))) t.no_stats)

-- ---- what they come to

abbrev pub Ten : Type 0
Ten = Comes {A = List ℕ × End × ℕ} (λ r. (r.output, r.end, r.ticks)) (record {
  game =
      record { files = ([]); state = 0 };
  file = codes "a.lua";
  code = ready ten_program;
  args =
      ([]);
  ticks = 10;
  replies = ([]);
}) ((codes "1\n2\n3\n"), done None, 0)

abbrev pub Nine : Type 0
Nine = Comes {A = List ℕ × End} (λ r. (r.output, r.end)) (record {
  game =
      record { files = ([]); state = 0 };
  file = codes "a.lua";
  code = ready nine_program;
  args =
      ([]);
  ticks = 9;
  replies = ([]);
}) ((codes "1\n2\n"), no_steps)

abbrev pub Six : Type 0
Six = Comes {A = List ℕ × End × ℕ} (λ r. (r.output, r.end, r.ticks)) (record {
  game =
      record { files = ([]); state = 0 };
  file = codes "a.lua";
  code = ready six_program;
  args =
      ([]);
  ticks = 6;
  replies = ([]);
}) ([], done None, 0)

abbrev pub Five : Type 0
Five = Comes {A = List ℕ × End} (λ r. (r.output, r.end)) (record {
  game =
      record { files = ([]); state = 0 };
  file = codes "a.lua";
  code = ready five_program;
  args =
      ([]);
  ticks = 5;
  replies = ([]);
}) ([], no_steps)

abbrev pub OnePrint : Type 0
OnePrint = Comes {A =
    List ℕ × End × ℕ} (λ r. (r.output, r.end, r.ticks)) (record {
      game = record {
        files =
            ([]);
        state = 0;
      };
      file = codes "a.lua";
      code = ready one_print_program;
      args =
          ([]);
      ticks = 2;
      replies = ([]);
    }) ((codes "1\n"), done None, 0)

abbrev pub OneShort : Type 0
OneShort = Comes {A =
    List ℕ × End} (λ r. (r.output, r.end)) (record {
      game = record {
        files =
            ([]);
        state = 0;
      };
      file = codes "a.lua";
      code = ready one_short_program;
      args =
          ([]);
      ticks = 1;
      replies = ([]);
    }) ([], no_steps)

abbrev pub ForEver : Type 0
ForEver = Comes {A = List ℕ × End × ℕ} (λ r. (r.output, r.end, r.ticks)) (record {
  game =
      record { files = ([]); state = 0 };
  file = codes "a.lua";
  code = ready for_ever_program;
  args =
      ([]);
  ticks = 50;
  replies = ([]);
}) ([], no_steps, 0)

abbrev pub Nothing : Type 0
Nothing = Comes {A = List ℕ × End × ℕ} (λ r. (r.output, r.end, r.ticks)) (record {
  game =
      record { files = ([]); state = 0 };
  file = codes "a.lua";
  code = ready nothing_program;
  args =
      ([]);
  ticks = 0;
  replies = ([]);
}) ([], done None, 0)

abbrev pub PcallTicks : Type 0
PcallTicks = Comes {A =
    List ℕ × End × ℕ} (λ r. (r.output, r.end, r.ticks)) (record {
      game = record {
        files =
            ([]);
        state = 0;
      };
      file = codes "a.lua";
      code = ready pcall_ticks_program;
      args =
          ([]);
      ticks = 3;
      replies = ([]);
    }) ([], done None, 0)

abbrev pub PcallShort : Type 0
PcallShort = Comes {A =
    List ℕ × End} (λ r. (r.output, r.end)) (record {
      game = record {
        files =
            ([]);
        state = 0;
      };
      file = codes "a.lua";
      code = ready pcall_short_program;
      args =
          ([]);
      ticks = 40;
      replies = ([]);
    }) ([], no_steps)

abbrev pub HandlerTicks : Type 0
HandlerTicks = Comes {A =
    List ℕ × End × ℕ} (λ r. (r.output, r.end, r.ticks)) (record {
      game = record {
        files =
            ([]);
        state = 0;
      };
      file = codes "a.lua";
      code = ready handler_ticks_program;
      args =
          ([]);
      ticks = 5;
      replies = ([]);
    }) ([], done None, 0)

abbrev pub HandlerShort : Type 0
HandlerShort = Comes {A =
    List ℕ × End} (λ r. (r.output, r.end)) (record {
      game = record {
        files =
            ([]);
        state = 0;
      };
      file = codes "a.lua";
      code = ready handler_short_program;
      args =
          ([]);
      ticks = 4;
      replies = ([]);
    }) ([], no_steps)

abbrev pub TableHandlerTicks : Type 0
TableHandlerTicks = Comes {A =
    List ℕ × End × ℕ} (λ r. (r.output, r.end, r.ticks)) (record {
      game = record {
        files =
            ([]);
        state = 0;
      };
      file = codes "a.lua";
      code = ready table_handler_ticks_program;
      args =
          ([]);
      ticks = 3;
      replies = ([]);
    }) ([], done None, 0)

abbrev pub CallEventTicks : Type 0
CallEventTicks = Comes {A =
    List ℕ × End × ℕ} (λ r. (r.output, r.end, r.ticks)) (record {
      game = record {
        files =
            ([]);
        state = 0;
      };
      file = codes "a.lua";
      code = ready call_event_ticks_program;
      args =
          ([]);
      ticks = 4;
      replies = ([]);
    }) ([], done None, 0)

abbrev pub NotCalledTicks : Type 0
NotCalledTicks = Comes {A =
    List ℕ × End × ℕ} (λ r. (r.output, r.end, r.ticks)) (record {
      game = record {
        files =
            ([]);
        state = 0;
      };
      file = codes "a.lua";
      code = ready not_called_ticks_program;
      args =
          ([]);
      ticks = 6;
      replies = ([]);
    }) (
      (codes "false\ta.lua:1: attempt to call a nil value\n"),
      done None,
      0,
    )

abbrev pub EachTicks : Type 0
EachTicks = Comes {A =
    List ℕ × End × ℕ} (λ r. (r.output, r.end, r.ticks)) (record {
      game = record {
        files =
            ([]);
        state = 0;
      };
      file = codes "a.lua";
      code = ready each_ticks_program;
      args =
          ([]);
      ticks = 5;
      replies = ([]);
    }) ([], done None, 0)

abbrev pub EachShort : Type 0
EachShort = Comes {A =
    List ℕ × End} (λ r. (r.output, r.end)) (record {
      game = record {
        files =
            ([]);
        state = 0;
      };
      file = codes "a.lua";
      code = ready each_short_program;
      args =
          ([]);
      ticks = 4;
      replies = ([]);
    }) ([], no_steps)

abbrev pub RepeatTicks : Type 0
RepeatTicks = Comes {A =
    List ℕ × End × ℕ} (λ r. (r.output, r.end, r.ticks)) (record {
      game = record {
        files =
            ([]);
        state = 0;
      };
      file = codes "a.lua";
      code = ready repeat_ticks_program;
      args =
          ([]);
      ticks = 2;
      replies = ([]);
    }) ([], done None, 0)

abbrev pub StatementTicks : Type 0
StatementTicks = Comes {A =
    List ℕ × End × ℕ} (λ r. (r.output, r.end, r.ticks)) (record {
      game = record {
        files =
            ([]);
        state = 0;
      };
      file = codes "a.lua";
      code = ready statement_ticks_program;
      args =
          ([]);
      ticks = 4;
      replies = ([]);
    }) ([], done None, 0)

abbrev pub TostringTicks : Type 0
TostringTicks = Comes {A =
    List ℕ × End × ℕ} (λ r. (r.output, r.end, r.ticks)) (record {
      game = record {
        files =
            ([]);
        state = 0;
      };
      file = codes "a.lua";
      code = ready tostring_ticks_program;
      args =
          ([]);
      ticks = 5;
      replies = ([]);
    }) ((codes "x\n"), done None, 0)

-- all of them
pub record Rows : Type 0 where
  pub ten : Ten
  pub nine : Nine
  pub six : Six
  pub five : Five
  pub one_print : OnePrint
  pub one_short : OneShort
  pub for_ever : ForEver
  pub nothing : Nothing
  pub pcall_ticks : PcallTicks
  pub pcall_short : PcallShort
  pub handler_ticks : HandlerTicks
  pub handler_short : HandlerShort
  pub table_handler_ticks : TableHandlerTicks
  pub call_event_ticks : CallEventTicks
  pub not_called_ticks : NotCalledTicks
  pub each_ticks : EachTicks
  pub each_short : EachShort
  pub repeat_ticks : RepeatTicks
  pub statement_ticks : StatementTicks
  pub tostring_ticks : TostringTicks
