-- Rows: order of evaluation, assignment and lists (manual §2.4.3, §2.5). Written by checks/meaning-rows/write.py.
use Rattle.std.specs.Prelude.{ℕ, pos, true, false, List, [], ◌∷◌, Some, None, codes}
use Rattle.lua_tree.specs.Tree as t
use Rattle.lua_tree.specs.Tree.{Block}
use Rattle.lua_meaning.specs.Control.{ready}
use Rattle.lua_meaning.specs.Run.{End, done}
use Rattle.lua_meaning.specs.rows.Comes.{Comes}

-- ---- programs

-- `swap`:
--     local a, b = 1, 2
--     a, b = b, a
--     print(a, b)
abbrev pub swap_program : Block
swap_program = (t.stat_and (t.local 1 ((codes "a") ∷ (codes "b") ∷ []) (t.expr_and (t.number 1
    (pos 1)) (t.expr_and (t.number 1 (pos 2)) t.no_exprs))) (t.stat_and (t.assign 2 (t.expr_and
    (t.name 2 (codes "a")) (t.expr_and (t.name 2 (codes "b")) t.no_exprs)) (t.expr_and (t.name 2
    (codes "b")) (t.expr_and (t.name 2 (codes "a")) t.no_exprs))) (t.stat_and (t.call_stat 3
    (t.call 3 (t.name 3 (codes "print")) (t.expr_and (t.name 3 (codes "a")) (t.expr_and (t.name 3
    (codes "b")) t.no_exprs)))) t.no_stats)))

-- `operands`:
--     local function f(x) print(x) return x end
--     return f(1) + f(2) * f(3)
abbrev pub operands_program : Block
operands_program = (t.stat_and (t.local_function 1 (codes "f") (t.func 1 ((codes "x") ∷ []) false
    (t.stat_and (t.call_stat 1 (t.call 1 (t.name 1 (codes "print")) (t.expr_and (t.name 1
    (codes "x")) t.no_exprs))) (t.stat_and (t.return_stat 1 (t.expr_and (t.name 1
    (codes "x")) t.no_exprs)) t.no_stats)))) (t.stat_and (t.return_stat 2 (t.expr_and
    (t.binary 2 t.add (t.call 2 (t.name 2 (codes "f")) (t.expr_and (t.number 2
    (pos 1)) t.no_exprs)) (t.binary 2 t.mul (t.call 2 (t.name 2 (codes "f")) (t.expr_and
    (t.number 2 (pos 2)) t.no_exprs)) (t.call 2 (t.name 2 (codes "f")) (t.expr_and (t.number 2
    (pos 3)) t.no_exprs)))) t.no_exprs)) t.no_stats))

-- `arguments`:
--     local function f(x) print(x) return x end
--     local function g(...) return select('#', ...) end
--     print(g(f(1), f(2), f(3)))
abbrev pub arguments_program : Block
arguments_program = (t.stat_and (t.local_function 1 (codes "f") (t.func 1 ((codes "x") ∷ []) false
    (t.stat_and (t.call_stat 1 (t.call 1 (t.name 1 (codes "print")) (t.expr_and (t.name 1
    (codes "x")) t.no_exprs))) (t.stat_and (t.return_stat 1 (t.expr_and (t.name 1
    (codes "x")) t.no_exprs)) t.no_stats)))) (t.stat_and (t.local_function 2 (codes "g")
    (t.func 2 [] true (t.stat_and (t.return_stat 2 (t.expr_and (t.call 2 (t.name 2
    (codes "select")) (t.expr_and (t.str 2 (codes "#")) (t.expr_and
    (t.dots 2) t.no_exprs))) t.no_exprs)) t.no_stats))) (t.stat_and (t.call_stat 3 (t.call 3
    (t.name 3 (codes "print")) (t.expr_and (t.call 3 (t.name 3 (codes "g")) (t.expr_and (t.call 3
    (t.name 3 (codes "f")) (t.expr_and (t.number 3 (pos 1)) t.no_exprs)) (t.expr_and (t.call 3
    (t.name 3 (codes "f")) (t.expr_and (t.number 3 (pos 2)) t.no_exprs)) (t.expr_and (t.call 3
    (t.name 3 (codes "f")) (t.expr_and (t.number 3 (pos 3)) t.no_exprs)) t.no_exprs))))
    t.no_exprs))) t.no_stats)))

-- `fields`:
--     local function f(x) print(x) return x end
--     local t = {f(1), [f(2)] = f(3), f(4)}
--     print(#t, t[2])
abbrev pub fields_program : Block
fields_program = (t.stat_and (t.local_function 1 (codes "f") (t.func 1 ((codes "x") ∷ []) false
    (t.stat_and (t.call_stat 1 (t.call 1 (t.name 1 (codes "print")) (t.expr_and (t.name 1
    (codes "x")) t.no_exprs))) (t.stat_and (t.return_stat 1 (t.expr_and (t.name 1
    (codes "x")) t.no_exprs)) t.no_stats)))) (t.stat_and (t.local 2 ((codes "t") ∷ []) (t.expr_and
    (t.table 2 (t.item_and (t.call 2 (t.name 2 (codes "f")) (t.expr_and (t.number 2
    (pos 1)) t.no_exprs)) (t.keyed_and (t.call 2 (t.name 2 (codes "f")) (t.expr_and (t.number 2
    (pos 2)) t.no_exprs)) (t.call 2 (t.name 2 (codes "f")) (t.expr_and (t.number 2
    (pos 3)) t.no_exprs)) (t.item_and (t.call 2 (t.name 2 (codes "f")) (t.expr_and (t.number 2
    (pos 4)) t.no_exprs)) t.no_fields)))) t.no_exprs)) (t.stat_and (t.call_stat 3 (t.call 3
    (t.name 3 (codes "print")) (t.expr_and (t.unary 3 t.length_of (t.name 3 (codes "t")))
    (t.expr_and (t.index 3 (t.name 3 (codes "t")) (t.number 3 (pos 2))) t.no_exprs)))) t.no_stats)))

-- `targets`:
--     local t = {}
--     local function f(x) print(x) return t end
--     f('a')[1], f('b')[1] = f('c') and 1, f('d') and 2
--     print(t[1])
abbrev pub targets_program : Block
targets_program = (t.stat_and (t.local 1 ((codes "t") ∷ []) (t.expr_and
    (t.table 1 t.no_fields) t.no_exprs)) (t.stat_and (t.local_function 2 (codes "f") (t.func 2
    ((codes "x") ∷ []) false (t.stat_and (t.call_stat 2 (t.call 2 (t.name 2 (codes "print"))
    (t.expr_and (t.name 2 (codes "x")) t.no_exprs))) (t.stat_and (t.return_stat 2 (t.expr_and
    (t.name 2 (codes "t")) t.no_exprs)) t.no_stats)))) (t.stat_and (t.assign 3 (t.expr_and
    (t.index 3 (t.call 3 (t.name 3 (codes "f")) (t.expr_and (t.str 3 (codes "a")) t.no_exprs))
    (t.number 3 (pos 1))) (t.expr_and (t.index 3 (t.call 3 (t.name 3 (codes "f")) (t.expr_and
    (t.str 3 (codes "b")) t.no_exprs)) (t.number 3 (pos 1))) t.no_exprs)) (t.expr_and
    (t.binary 3 t.and_ (t.call 3 (t.name 3 (codes "f")) (t.expr_and (t.str 3
    (codes "c")) t.no_exprs)) (t.number 3 (pos 1))) (t.expr_and (t.binary 3 t.and_ (t.call 3
    (t.name 3 (codes "f")) (t.expr_and (t.str 3 (codes "d")) t.no_exprs)) (t.number 3
    (pos 2))) t.no_exprs))) (t.stat_and (t.call_stat 4 (t.call 4 (t.name 4 (codes "print"))
    (t.expr_and (t.index 4 (t.name 4 (codes "t")) (t.number 4 (pos 1))) t.no_exprs))) t.no_stats))))

-- `last_first`:
--     local t = setmetatable({}, {__newindex = function(t, k, v) print(k, v) end})
--     t.a, t.b, t.c = 1, 2, 3
abbrev pub last_first_program : Block
last_first_program = (t.stat_and (t.local 1 ((codes "t") ∷ []) (t.expr_and (t.call 1 (t.name 1
    (codes "setmetatable")) (t.expr_and (t.table 1 t.no_fields) (t.expr_and (t.table 1 (t.keyed_and
    (t.str 1 (codes "__newindex")) (t.function 1 (t.func 1 ((codes "t") ∷ (codes "k") ∷
    (codes "v") ∷ []) false (t.stat_and (t.call_stat 1 (t.call 1 (t.name 1 (codes "print"))
    (t.expr_and (t.name 1 (codes "k")) (t.expr_and (t.name 1
    (codes "v")) t.no_exprs)))) t.no_stats))) t.no_fields)) t.no_exprs))) t.no_exprs)) (t.stat_and
    (t.assign 2 (t.expr_and (t.index 2 (t.name 2 (codes "t")) (t.str 2 (codes "a"))) (t.expr_and
    (t.index 2 (t.name 2 (codes "t")) (t.str 2 (codes "b"))) (t.expr_and (t.index 2 (t.name 2
    (codes "t")) (t.str 2 (codes "c"))) t.no_exprs))) (t.expr_and (t.number 2 (pos 1)) (t.expr_and
    (t.number 2 (pos 2)) (t.expr_and (t.number 2 (pos 3)) t.no_exprs)))) t.no_stats))

-- `same_target`:
--     local i, t = 1, {}
--     i, t[i] = i + 1, 20
--     print(i, t[1], t[2])
abbrev pub same_target_program : Block
same_target_program =
    (t.stat_and (t.local 1 ((codes "i") ∷ (codes "t") ∷ []) (t.expr_and (t.number 1 (pos 1))
    (t.expr_and (t.table 1 t.no_fields) t.no_exprs))) (t.stat_and (t.assign 2 (t.expr_and (t.name 2
    (codes "i")) (t.expr_and (t.index 2 (t.name 2 (codes "t")) (t.name 2 (codes "i"))) t.no_exprs))
    (t.expr_and (t.binary 2 t.add (t.name 2 (codes "i")) (t.number 2 (pos 1))) (t.expr_and
    (t.number 2 (pos 20)) t.no_exprs))) (t.stat_and (t.call_stat 3 (t.call 3 (t.name 3
    (codes "print")) (t.expr_and (t.name 3 (codes "i")) (t.expr_and (t.index 3 (t.name 3
    (codes "t")) (t.number 3 (pos 1))) (t.expr_and (t.index 3 (t.name 3 (codes "t")) (t.number 3
    (pos 2))) t.no_exprs))))) t.no_stats)))

-- `and_or`:
--     local function f(x) print('f') return x end
--     print(false and f(1), nil or f(2), 3 or f(4), 5 and f(false))
abbrev pub and_or_program : Block
and_or_program = (t.stat_and (t.local_function 1 (codes "f") (t.func 1 ((codes "x") ∷ []) false
    (t.stat_and (t.call_stat 1 (t.call 1 (t.name 1 (codes "print")) (t.expr_and (t.str 1
    (codes "f")) t.no_exprs))) (t.stat_and (t.return_stat 1 (t.expr_and (t.name 1
    (codes "x")) t.no_exprs)) t.no_stats)))) (t.stat_and (t.call_stat 2 (t.call 2 (t.name 2
    (codes "print")) (t.expr_and (t.binary 2 t.and_ (t.false_ 2) (t.call 2 (t.name 2 (codes "f"))
    (t.expr_and (t.number 2 (pos 1)) t.no_exprs))) (t.expr_and (t.binary 2 t.or_ (t.nil 2)
    (t.call 2 (t.name 2 (codes "f")) (t.expr_and (t.number 2 (pos 2)) t.no_exprs))) (t.expr_and
    (t.binary 2 t.or_ (t.number 2 (pos 3)) (t.call 2 (t.name 2 (codes "f")) (t.expr_and (t.number 2
    (pos 4)) t.no_exprs))) (t.expr_and (t.binary 2 t.and_ (t.number 2 (pos 5)) (t.call 2 (t.name 2
    (codes "f")) (t.expr_and (t.false_ 2) t.no_exprs))) t.no_exprs)))))) t.no_stats))

-- `middle`:
--     local function f() return 1, 2 end
--     local t = {f(), f()}
--     print(#t, (f()), f())
abbrev pub middle_program : Block
middle_program = (t.stat_and (t.local_function 1 (codes "f") (t.func 1 [] false (t.stat_and
    (t.return_stat 1 (t.expr_and (t.number 1 (pos 1)) (t.expr_and (t.number 1
    (pos 2)) t.no_exprs))) t.no_stats))) (t.stat_and (t.local 2 ((codes "t") ∷ []) (t.expr_and
    (t.table 2 (t.item_and (t.call 2 (t.name 2 (codes "f")) t.no_exprs) (t.item_and (t.call 2
    (t.name 2 (codes "f")) t.no_exprs) t.no_fields))) t.no_exprs)) (t.stat_and (t.call_stat 3
    (t.call 3 (t.name 3 (codes "print")) (t.expr_and (t.unary 3 t.length_of (t.name 3 (codes "t")))
    (t.expr_and (t.paren 3 (t.call 3 (t.name 3 (codes "f")) t.no_exprs)) (t.expr_and (t.call 3
    (t.name 3 (codes "f")) t.no_exprs) t.no_exprs))))) t.no_stats)))

-- `fewer`:
--     local a, b, c = (function() return 1 end)()
--     local d, e = 1, 2, 3
--     print(a, b, c, d, e)
abbrev pub fewer_program : Block
fewer_program = (t.stat_and (t.local 1 ((codes "a") ∷ (codes "b") ∷ (codes "c") ∷ []) (t.expr_and
    (t.call 1 (t.paren 1 (t.function 1 (t.func 1 [] false (t.stat_and (t.return_stat 1 (t.expr_and
    (t.number 1 (pos 1)) t.no_exprs)) t.no_stats)))) t.no_exprs) t.no_exprs)) (t.stat_and
    (t.local 2 ((codes "d") ∷ (codes "e") ∷ []) (t.expr_and (t.number 2 (pos 1)) (t.expr_and
    (t.number 2 (pos 2)) (t.expr_and (t.number 2 (pos 3)) t.no_exprs)))) (t.stat_and (t.call_stat 3
    (t.call 3 (t.name 3 (codes "print")) (t.expr_and (t.name 3 (codes "a")) (t.expr_and (t.name 3
    (codes "b")) (t.expr_and (t.name 3 (codes "c")) (t.expr_and (t.name 3 (codes "d")) (t.expr_and
    (t.name 3 (codes "e")) t.no_exprs))))))) t.no_stats)))

-- `varargs`:
--     local function f(a, ...) local t = {n = select('#', ...), ...} return a, t.n, ..., 9 end
--     print(f(1, nil, 3))
--     print((f(1, 2)))
abbrev pub varargs_program : Block
varargs_program = (t.stat_and (t.local_function 1 (codes "f") (t.func 1 ((codes "a") ∷ []) true
    (t.stat_and (t.local 1 ((codes "t") ∷ []) (t.expr_and (t.table 1 (t.keyed_and (t.str 1
    (codes "n")) (t.call 1 (t.name 1 (codes "select")) (t.expr_and (t.str 1 (codes "#"))
    (t.expr_and (t.dots 1) t.no_exprs))) (t.item_and (t.dots 1) t.no_fields))) t.no_exprs))
    (t.stat_and (t.return_stat 1 (t.expr_and (t.name 1 (codes "a")) (t.expr_and (t.index 1
    (t.name 1 (codes "t")) (t.str 1 (codes "n"))) (t.expr_and (t.dots 1) (t.expr_and (t.number 1
    (pos 9)) t.no_exprs))))) t.no_stats)))) (t.stat_and (t.call_stat 2 (t.call 2 (t.name 2
    (codes "print")) (t.expr_and (t.call 2 (t.name 2 (codes "f")) (t.expr_and (t.number 2 (pos 1))
    (t.expr_and (t.nil 2) (t.expr_and (t.number 2 (pos 3)) t.no_exprs)))) t.no_exprs))) (t.stat_and
    (t.call_stat 3 (t.call 3 (t.name 3 (codes "print")) (t.expr_and (t.paren 3 (t.call 3 (t.name 3
    (codes "f")) (t.expr_and (t.number 3 (pos 1)) (t.expr_and (t.number 3
    (pos 2)) t.no_exprs)))) t.no_exprs))) t.no_stats)))

-- `powers`:
--     print(2 ^ 3 ^ 2, -2 ^ 2, 2 ^ 10)
abbrev pub powers_program : Block
powers_program = (t.stat_and (t.call_stat 1 (t.call 1 (t.name 1 (codes "print")) (t.expr_and
    (t.binary 1 t.pow (t.number 1 (pos 2)) (t.binary 1 t.pow (t.number 1 (pos 3)) (t.number 1
    (pos 2)))) (t.expr_and (t.unary 1 t.negate (t.binary 1 t.pow (t.number 1 (pos 2)) (t.number 1
    (pos 2)))) (t.expr_and (t.binary 1 t.pow (t.number 1 (pos 2)) (t.number 1
    (pos 10))) t.no_exprs))))) t.no_stats)

-- `greater`:
--     local function f(x) print(x) return x end
--     print(f(1) > f(2), f(2) >= f(2))
abbrev pub greater_program : Block
greater_program = (t.stat_and (t.local_function 1 (codes "f") (t.func 1 ((codes "x") ∷ []) false
    (t.stat_and (t.call_stat 1 (t.call 1 (t.name 1 (codes "print")) (t.expr_and (t.name 1
    (codes "x")) t.no_exprs))) (t.stat_and (t.return_stat 1 (t.expr_and (t.name 1
    (codes "x")) t.no_exprs)) t.no_stats)))) (t.stat_and (t.call_stat 2 (t.call 2 (t.name 2
    (codes "print")) (t.expr_and (t.binary 2 t.greater (t.call 2 (t.name 2 (codes "f")) (t.expr_and
    (t.number 2 (pos 1)) t.no_exprs)) (t.call 2 (t.name 2 (codes "f")) (t.expr_and (t.number 2
    (pos 2)) t.no_exprs))) (t.expr_and (t.binary 2 t.greater_equal (t.call 2 (t.name 2 (codes "f"))
    (t.expr_and (t.number 2 (pos 2)) t.no_exprs)) (t.call 2 (t.name 2 (codes "f")) (t.expr_and
    (t.number 2 (pos 2)) t.no_exprs))) t.no_exprs)))) t.no_stats))

-- `method_order`:
--     local o = {m = function(self, a) print(a) return self end}
--     local function f(x) print(x) return o end
--     f('o'):m(f('a') and 'm')
abbrev pub method_order_program : Block
method_order_program =
    (t.stat_and (t.local 1 ((codes "o") ∷ []) (t.expr_and (t.table 1 (t.keyed_and (t.str 1
    (codes "m")) (t.function 1 (t.func 1 ((codes "self") ∷ (codes "a") ∷ []) false (t.stat_and
    (t.call_stat 1 (t.call 1 (t.name 1 (codes "print")) (t.expr_and (t.name 1
    (codes "a")) t.no_exprs))) (t.stat_and (t.return_stat 1 (t.expr_and (t.name 1
    (codes "self")) t.no_exprs)) t.no_stats)))) t.no_fields)) t.no_exprs)) (t.stat_and
    (t.local_function 2 (codes "f") (t.func 2 ((codes "x") ∷ []) false (t.stat_and (t.call_stat 2
    (t.call 2 (t.name 2 (codes "print")) (t.expr_and (t.name 2 (codes "x")) t.no_exprs)))
    (t.stat_and (t.return_stat 2 (t.expr_and (t.name 2 (codes "o")) t.no_exprs)) t.no_stats))))
    (t.stat_and (t.call_stat 3 (t.method 3 (t.call 3 (t.name 3 (codes "f")) (t.expr_and (t.str 3
    (codes "o")) t.no_exprs)) (codes "m") (t.expr_and (t.binary 3 t.and_ (t.call 3 (t.name 3
    (codes "f")) (t.expr_and (t.str 3 (codes "a")) t.no_exprs)) (t.str 3
    (codes "m"))) t.no_exprs))) t.no_stats)))

-- `concat_order`:
--     local function f(x) print(x) return x end
--     print(f('a') .. f('b') .. f(1))
abbrev pub concat_order_program : Block
concat_order_program =
    (t.stat_and (t.local_function 1 (codes "f") (t.func 1 ((codes "x") ∷ []) false (t.stat_and
    (t.call_stat 1 (t.call 1 (t.name 1 (codes "print")) (t.expr_and (t.name 1
    (codes "x")) t.no_exprs))) (t.stat_and (t.return_stat 1 (t.expr_and (t.name 1
    (codes "x")) t.no_exprs)) t.no_stats)))) (t.stat_and (t.call_stat 2 (t.call 2 (t.name 2
    (codes "print")) (t.expr_and (t.binary 2 t.concat (t.call 2 (t.name 2 (codes "f")) (t.expr_and
    (t.str 2 (codes "a")) t.no_exprs)) (t.binary 2 t.concat (t.call 2 (t.name 2 (codes "f"))
    (t.expr_and (t.str 2 (codes "b")) t.no_exprs)) (t.call 2 (t.name 2 (codes "f")) (t.expr_and
    (t.number 2 (pos 1)) t.no_exprs)))) t.no_exprs))) t.no_stats))

-- ---- what they come to

abbrev pub Swap : Type 0
Swap = Comes {A = List ℕ × End} (λ r. (r.output, r.end)) (record {
  game =
      record { files = ([]); state = 0 };
  file = codes "a.lua";
  code = ready swap_program;
  args =
      ([]);
  ticks = 1000;
  replies = ([]);
}) ((codes "2\t1\n"), done None)

abbrev pub Operands : Type 0
Operands = Comes {A =
    List ℕ × End} (λ r. (r.output, r.end)) (record {
      game = record {
        files =
            ([]);
        state = 0;
      };
      file = codes "a.lua";
      code = ready operands_program;
      args =
          ([]);
      ticks = 1000;
      replies = ([]);
    }) ((codes "1\n2\n3\n"), done (Some (pos 7)))

abbrev pub Arguments : Type 0
Arguments = Comes {A =
    List ℕ × End} (λ r. (r.output, r.end)) (record {
      game = record {
        files =
            ([]);
        state = 0;
      };
      file = codes "a.lua";
      code = ready arguments_program;
      args =
          ([]);
      ticks = 1000;
      replies = ([]);
    }) ((codes "1\n2\n3\n3\n"), done None)

abbrev pub Fields : Type 0
Fields = Comes {A = List ℕ × End} (λ r. (r.output, r.end)) (record {
  game =
      record { files = ([]); state = 0 };
  file = codes "a.lua";
  code = ready fields_program;
  args =
      ([]);
  ticks = 1000;
  replies = ([]);
}) ((codes "1\n2\n3\n4\n2\t4\n"), done None)

abbrev pub Targets : Type 0
Targets = Comes {A = List ℕ × End} (λ r. (r.output, r.end)) (record {
  game =
      record { files = ([]); state = 0 };
  file = codes "a.lua";
  code = ready targets_program;
  args =
      ([]);
  ticks = 1000;
  replies = ([]);
}) ((codes "a\nb\nc\nd\n1\n"), done None)

abbrev pub LastFirst : Type 0
LastFirst = Comes {A =
    List ℕ × End} (λ r. (r.output, r.end)) (record {
      game = record {
        files =
            ([]);
        state = 0;
      };
      file = codes "a.lua";
      code = ready last_first_program;
      args =
          ([]);
      ticks = 1000;
      replies = ([]);
    }) ((codes "c\t3\nb\t2\na\t1\n"), done None)

abbrev pub SameTarget : Type 0
SameTarget = Comes {A =
    List ℕ × End} (λ r. (r.output, r.end)) (record {
      game = record {
        files =
            ([]);
        state = 0;
      };
      file = codes "a.lua";
      code = ready same_target_program;
      args =
          ([]);
      ticks = 1000;
      replies = ([]);
    }) ((codes "2\t20\tnil\n"), done None)

abbrev pub AndOr : Type 0
AndOr = Comes {A = List ℕ × End} (λ r. (r.output, r.end)) (record {
  game =
      record { files = ([]); state = 0 };
  file = codes "a.lua";
  code = ready and_or_program;
  args =
      ([]);
  ticks = 1000;
  replies = ([]);
}) ((codes "f\nf\nfalse\t2\t3\tfalse\n"), done None)

abbrev pub Middle : Type 0
Middle = Comes {A = List ℕ × End} (λ r. (r.output, r.end)) (record {
  game =
      record { files = ([]); state = 0 };
  file = codes "a.lua";
  code = ready middle_program;
  args =
      ([]);
  ticks = 1000;
  replies = ([]);
}) ((codes "3\t1\t1\t2\n"), done None)

abbrev pub Fewer : Type 0
Fewer = Comes {A = List ℕ × End} (λ r. (r.output, r.end)) (record {
  game =
      record { files = ([]); state = 0 };
  file = codes "a.lua";
  code = ready fewer_program;
  args =
      ([]);
  ticks = 1000;
  replies = ([]);
}) ((codes "1\tnil\tnil\t1\t2\n"), done None)

abbrev pub Varargs : Type 0
Varargs = Comes {A = List ℕ × End} (λ r. (r.output, r.end)) (record {
  game =
      record { files = ([]); state = 0 };
  file = codes "a.lua";
  code = ready varargs_program;
  args =
      ([]);
  ticks = 1000;
  replies = ([]);
}) ((codes "1\t2\tnil\t9\n1\n"), done None)

abbrev pub Powers : Type 0
Powers = Comes {A = List ℕ × End} (λ r. (r.output, r.end)) (record {
  game =
      record { files = ([]); state = 0 };
  file = codes "a.lua";
  code = ready powers_program;
  args =
      ([]);
  ticks = 1000;
  replies = ([]);
}) ((codes "512\t-4\t1024\n"), done None)

abbrev pub Greater : Type 0
Greater = Comes {A = List ℕ × End} (λ r. (r.output, r.end)) (record {
  game =
      record { files = ([]); state = 0 };
  file = codes "a.lua";
  code = ready greater_program;
  args =
      ([]);
  ticks = 1000;
  replies = ([]);
}) ((codes "1\n2\n2\n2\nfalse\ttrue\n"), done None)

abbrev pub MethodOrder : Type 0
MethodOrder = Comes {A =
    List ℕ × End} (λ r. (r.output, r.end)) (record {
      game = record {
        files =
            ([]);
        state = 0;
      };
      file = codes "a.lua";
      code = ready method_order_program;
      args =
          ([]);
      ticks = 1000;
      replies = ([]);
    }) ((codes "o\na\nm\n"), done None)

abbrev pub ConcatOrder : Type 0
ConcatOrder = Comes {A =
    List ℕ × End} (λ r. (r.output, r.end)) (record {
      game = record {
        files =
            ([]);
        state = 0;
      };
      file = codes "a.lua";
      code = ready concat_order_program;
      args =
          ([]);
      ticks = 1000;
      replies = ([]);
    }) ((codes "a\nb\n1\nab1\n"), done None)

-- all of them
pub record Rows : Type 0 where
  pub swap : Swap
  pub operands : Operands
  pub arguments : Arguments
  pub fields : Fields
  pub targets : Targets
  pub last_first : LastFirst
  pub same_target : SameTarget
  pub and_or : AndOr
  pub middle : Middle
  pub fewer : Fewer
  pub varargs : Varargs
  pub powers : Powers
  pub greater : Greater
  pub method_order : MethodOrder
  pub concat_order : ConcatOrder
