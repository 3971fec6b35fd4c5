-- Rows: locals, closures and loops (manual §2.4, §2.6). Written by checks/meaning-rows/write.py.
use Rattle.std.specs.Prelude.{ℕ, pos, false, List, [], ◌∷◌, None, codes}
use Rattle.lua_tree.specs.Tree as t
use Rattle.lua_tree.specs.Tree.{Block}
use Rattle.lua_meaning.specs.Control.{ready}
use Rattle.lua_meaning.specs.Run.{End, done}
use Rattle.lua_meaning.specs.rows.Comes.{Comes}

-- ---- programs

-- `loop_closures`:
--     local f = {}
--     for i = 1, 3 do f[i] = function() i = i + 1 return i end end
--     print(f[1](), f[1](), f[2]())
abbrev pub loop_closures_program : Block
loop_closures_program =
    (t.stat_and (t.local 1 ((codes "f") ∷ []) (t.expr_and (t.table 1 t.no_fields) t.no_exprs))
    (t.stat_and (t.num_for 2 (codes "i") (t.number 2 (pos 1)) (t.number 2 (pos 3)) (t.stat_and
    (t.assign 2 (t.expr_and (t.index 2 (t.name 2 (codes "f")) (t.name 2 (codes "i"))) t.no_exprs)
    (t.expr_and (t.function 2 (t.func 2 [] false (t.stat_and (t.assign 2 (t.expr_and (t.name 2
    (codes "i")) t.no_exprs) (t.expr_and (t.binary 2 t.add (t.name 2 (codes "i")) (t.number 2
    (pos 1))) t.no_exprs)) (t.stat_and (t.return_stat 2 (t.expr_and (t.name 2
    (codes "i")) t.no_exprs)) t.no_stats)))) t.no_exprs)) t.no_stats)) (t.stat_and (t.call_stat 3
    (t.call 3 (t.name 3 (codes "print")) (t.expr_and (t.call 3 (t.index 3 (t.name 3 (codes "f"))
    (t.number 3 (pos 1))) t.no_exprs) (t.expr_and (t.call 3 (t.index 3 (t.name 3 (codes "f"))
    (t.number 3 (pos 1))) t.no_exprs) (t.expr_and (t.call 3 (t.index 3 (t.name 3 (codes "f"))
    (t.number 3 (pos 2))) t.no_exprs) t.no_exprs))))) t.no_stats)))

-- `shared`:
--     local n = 0
--     local function up() n = n + 1 end
--     local function get() return n end
--     up() up()
--     print(get(), n)
abbrev pub shared_program : Block
shared_program = (t.stat_and (t.local 1 ((codes "n") ∷ []) (t.expr_and (t.number 1
    (pos 0)) t.no_exprs)) (t.stat_and (t.local_function 2 (codes "up") (t.func 2 [] false
    (t.stat_and (t.assign 2 (t.expr_and (t.name 2 (codes "n")) t.no_exprs) (t.expr_and
    (t.binary 2 t.add (t.name 2 (codes "n")) (t.number 2 (pos 1))) t.no_exprs)) t.no_stats)))
    (t.stat_and (t.local_function 3 (codes "get") (t.func 3 [] false (t.stat_and (t.return_stat 3
    (t.expr_and (t.name 3 (codes "n")) t.no_exprs)) t.no_stats))) (t.stat_and (t.call_stat 4
    (t.call 4 (t.name 4 (codes "up")) t.no_exprs)) (t.stat_and (t.call_stat 4 (t.call 4 (t.name 4
    (codes "up")) t.no_exprs)) (t.stat_and (t.call_stat 5 (t.call 5 (t.name 5 (codes "print"))
    (t.expr_and (t.call 5 (t.name 5 (codes "get")) t.no_exprs) (t.expr_and (t.name 5
    (codes "n")) t.no_exprs)))) t.no_stats))))))

-- `hidden`:
--     local x = 1
--     do local x = 2 print(x) end
--     local x = x + 10
--     print(x)
abbrev pub hidden_program : Block
hidden_program = (t.stat_and (t.local 1 ((codes "x") ∷ []) (t.expr_and (t.number 1
    (pos 1)) t.no_exprs)) (t.stat_and (t.do_block 2 (t.stat_and (t.local 2 ((codes "x") ∷ [])
    (t.expr_and (t.number 2 (pos 2)) t.no_exprs)) (t.stat_and (t.call_stat 2 (t.call 2 (t.name 2
    (codes "print")) (t.expr_and (t.name 2 (codes "x")) t.no_exprs))) t.no_stats))) (t.stat_and
    (t.local 3 ((codes "x") ∷ []) (t.expr_and (t.binary 3 t.add (t.name 3 (codes "x")) (t.number 3
    (pos 10))) t.no_exprs)) (t.stat_and (t.call_stat 4 (t.call 4 (t.name 4 (codes "print"))
    (t.expr_and (t.name 4 (codes "x")) t.no_exprs))) t.no_stats))))

-- `repeat_scope`:
--     local i = 0
--     repeat local done = i >= 2 i = i + 1 until done
--     print(i)
abbrev pub repeat_scope_program : Block
repeat_scope_program =
    (t.stat_and (t.local 1 ((codes "i") ∷ []) (t.expr_and (t.number 1 (pos 0)) t.no_exprs))
    (t.stat_and (t.repeat_loop 2 (t.stat_and (t.local 2 ((codes "done") ∷ []) (t.expr_and
    (t.binary 2 t.greater_equal (t.name 2 (codes "i")) (t.number 2 (pos 2))) t.no_exprs))
    (t.stat_and (t.assign 2 (t.expr_and (t.name 2 (codes "i")) t.no_exprs) (t.expr_and
    (t.binary 2 t.add (t.name 2 (codes "i")) (t.number 2 (pos 1))) t.no_exprs)) t.no_stats))
    (t.name 2 (codes "done"))) (t.stat_and (t.call_stat 3 (t.call 3 (t.name 3 (codes "print"))
    (t.expr_and (t.name 3 (codes "i")) t.no_exprs))) t.no_stats)))

-- `repeat_captured`:
--     local f
--     repeat local x = 5 f = function() return x end until x == 5
--     print(f())
abbrev pub repeat_captured_program : Block
repeat_captured_program =
    (t.stat_and (t.local 1 ((codes "f") ∷ []) t.no_exprs) (t.stat_and (t.repeat_loop 2 (t.stat_and
    (t.local 2 ((codes "x") ∷ []) (t.expr_and (t.number 2 (pos 5)) t.no_exprs)) (t.stat_and
    (t.assign 2 (t.expr_and (t.name 2 (codes "f")) t.no_exprs) (t.expr_and (t.function 2
    (t.func 2 [] false (t.stat_and (t.return_stat 2 (t.expr_and (t.name 2
    (codes "x")) t.no_exprs)) t.no_stats))) t.no_exprs)) t.no_stats)) (t.binary 2 t.equal (t.name 2
    (codes "x")) (t.number 2 (pos 5)))) (t.stat_and (t.call_stat 3 (t.call 3 (t.name 3
    (codes "print")) (t.expr_and (t.call 3 (t.name 3
    (codes "f")) t.no_exprs) t.no_exprs))) t.no_stats)))

-- `recursive`:
--     local function fact(n) if n == 0 then return 1 end return n * fact(n - 1) end
--     print(fact(5))
abbrev pub recursive_program : Block
recursive_program = (t.stat_and (t.local_function 1 (codes "fact") (t.func 1
    ((codes "n") ∷ []) false (t.stat_and (t.if_stat 1 (t.arm_and (t.binary 1 t.equal (t.name 1
    (codes "n")) (t.number 1 (pos 0))) (t.stat_and (t.return_stat 1 (t.expr_and (t.number 1
    (pos 1)) t.no_exprs)) t.no_stats) t.no_else)) (t.stat_and (t.return_stat 1 (t.expr_and
    (t.binary 1 t.mul (t.name 1 (codes "n")) (t.call 1 (t.name 1 (codes "fact")) (t.expr_and
    (t.binary 1 t.sub (t.name 1 (codes "n")) (t.number 1
    (pos 1))) t.no_exprs))) t.no_exprs)) t.no_stats)))) (t.stat_and (t.call_stat 2 (t.call 2
    (t.name 2 (codes "print")) (t.expr_and (t.call 2 (t.name 2 (codes "fact")) (t.expr_and
    (t.number 2 (pos 5)) t.no_exprs)) t.no_exprs))) t.no_stats))

-- `while_closures`:
--     local fs, i = {}, 0
--     while i < 2 do i = i + 1 local j = i fs[i] = function() j = j + 1 return j end end
--     print(fs[1](), fs[1](), fs[2]())
abbrev pub while_closures_program : Block
while_closures_program =
    (t.stat_and (t.local 1 ((codes "fs") ∷ (codes "i") ∷ []) (t.expr_and (t.table 1 t.no_fields)
    (t.expr_and (t.number 1 (pos 0)) t.no_exprs))) (t.stat_and (t.while_loop 2 (t.binary 2 t.less
    (t.name 2 (codes "i")) (t.number 2 (pos 2))) (t.stat_and (t.assign 2 (t.expr_and (t.name 2
    (codes "i")) t.no_exprs) (t.expr_and (t.binary 2 t.add (t.name 2 (codes "i")) (t.number 2
    (pos 1))) t.no_exprs)) (t.stat_and (t.local 2 ((codes "j") ∷ []) (t.expr_and (t.name 2
    (codes "i")) t.no_exprs)) (t.stat_and (t.assign 2 (t.expr_and (t.index 2 (t.name 2
    (codes "fs")) (t.name 2 (codes "i"))) t.no_exprs) (t.expr_and (t.function 2 (t.func 2 [] false
    (t.stat_and (t.assign 2 (t.expr_and (t.name 2 (codes "j")) t.no_exprs) (t.expr_and
    (t.binary 2 t.add (t.name 2 (codes "j")) (t.number 2 (pos 1))) t.no_exprs)) (t.stat_and
    (t.return_stat 2 (t.expr_and (t.name 2 (codes "j")) t.no_exprs)) t.no_stats)))) t.no_exprs))
    t.no_stats)))) (t.stat_and (t.call_stat 3 (t.call 3 (t.name 3 (codes "print")) (t.expr_and
    (t.call 3 (t.index 3 (t.name 3 (codes "fs")) (t.number 3 (pos 1))) t.no_exprs) (t.expr_and
    (t.call 3 (t.index 3 (t.name 3 (codes "fs")) (t.number 3 (pos 1))) t.no_exprs) (t.expr_and
    (t.call 3 (t.index 3 (t.name 3 (codes "fs")) (t.number 3
    (pos 2))) t.no_exprs) t.no_exprs))))) t.no_stats)))

-- `each_closures`:
--     local fs = {}
--     for k, v in pairs({10, 20}) do fs[k] = function() return v end end
--     print(fs[1](), fs[2]())
abbrev pub each_closures_program : Block
each_closures_program =
    (t.stat_and (t.local 1 ((codes "fs") ∷ []) (t.expr_and (t.table 1 t.no_fields) t.no_exprs))
    (t.stat_and (t.gen_for 2 ((codes "k") ∷ (codes "v") ∷ []) (t.expr_and (t.call 2 (t.name 2
    (codes "pairs")) (t.expr_and (t.table 2 (t.item_and (t.number 2 (pos 10)) (t.item_and
    (t.number 2 (pos 20)) t.no_fields))) t.no_exprs)) t.no_exprs) (t.stat_and (t.assign 2
    (t.expr_and (t.index 2 (t.name 2 (codes "fs")) (t.name 2 (codes "k"))) t.no_exprs) (t.expr_and
    (t.function 2 (t.func 2 [] false (t.stat_and (t.return_stat 2 (t.expr_and (t.name 2
    (codes "v")) t.no_exprs)) t.no_stats))) t.no_exprs)) t.no_stats)) (t.stat_and (t.call_stat 3
    (t.call 3 (t.name 3 (codes "print")) (t.expr_and (t.call 3 (t.index 3 (t.name 3 (codes "fs"))
    (t.number 3 (pos 1))) t.no_exprs) (t.expr_and (t.call 3 (t.index 3 (t.name 3 (codes "fs"))
    (t.number 3 (pos 2))) t.no_exprs) t.no_exprs)))) t.no_stats)))

-- `break_outer`:
--     for i = 1, 3 do
--       while true do if i == 2 then break end print(i) break end
--     end
abbrev pub break_outer_program : Block
break_outer_program =
    (t.stat_and (t.num_for 1 (codes "i") (t.number 1 (pos 1)) (t.number 1 (pos 3)) (t.stat_and
    (t.while_loop 2 (t.true_ 2) (t.stat_and (t.if_stat 2 (t.arm_and (t.binary 2 t.equal (t.name 2
    (codes "i")) (t.number 2 (pos 2))) (t.stat_and (t.break_stat 2) t.no_stats) t.no_else))
    (t.stat_and (t.call_stat 2 (t.call 2 (t.name 2 (codes "print")) (t.expr_and (t.name 2
    (codes "i")) t.no_exprs))) (t.stat_and (t.break_stat 2) t.no_stats)))) t.no_stats)) t.no_stats)

-- `return_inner`:
--     local function f() for i = 1, 9 do while true do if i == 3 then return i, 'x' end break end end end
--     print(f())
abbrev pub return_inner_program : Block
return_inner_program =
    (t.stat_and (t.local_function 1 (codes "f") (t.func 1 [] false (t.stat_and (t.num_for 1
    (codes "i") (t.number 1 (pos 1)) (t.number 1 (pos 9)) (t.stat_and (t.while_loop 1 (t.true_ 1)
    (t.stat_and (t.if_stat 1 (t.arm_and (t.binary 1 t.equal (t.name 1 (codes "i")) (t.number 1
    (pos 3))) (t.stat_and (t.return_stat 1 (t.expr_and (t.name 1 (codes "i")) (t.expr_and (t.str 1
    (codes "x")) t.no_exprs))) t.no_stats) t.no_else)) (t.stat_and
    (t.break_stat 1) t.no_stats))) t.no_stats)) t.no_stats))) (t.stat_and (t.call_stat 2 (t.call 2
    (t.name 2 (codes "print")) (t.expr_and (t.call 2 (t.name 2
    (codes "f")) t.no_exprs) t.no_exprs))) t.no_stats))

-- `downwards`:
--     for i = 3, 1, -1 do print(i) end
--     for i = 1, 0 do print('never') end
--     for i = 1, 5, 3 do print(i) end
abbrev pub downwards_program : Block
downwards_program = (t.stat_and (t.num_for_by 1 (codes "i") (t.number 1 (pos 3)) (t.number 1
    (pos 1)) (t.unary 1 t.negate (t.number 1 (pos 1))) (t.stat_and (t.call_stat 1 (t.call 1
    (t.name 1 (codes "print")) (t.expr_and (t.name 1 (codes "i")) t.no_exprs))) t.no_stats))
    (t.stat_and (t.num_for 2 (codes "i") (t.number 2 (pos 1)) (t.number 2 (pos 0)) (t.stat_and
    (t.call_stat 2 (t.call 2 (t.name 2 (codes "print")) (t.expr_and (t.str 2
    (codes "never")) t.no_exprs))) t.no_stats)) (t.stat_and (t.num_for_by 3 (codes "i") (t.number 3
    (pos 1)) (t.number 3 (pos 5)) (t.number 3 (pos 3)) (t.stat_and (t.call_stat 3 (t.call 3
    (t.name 3 (codes "print")) (t.expr_and (t.name 3
    (codes "i")) t.no_exprs))) t.no_stats)) t.no_stats)))

-- `text_for`:
--     for i = '1', '2' do print(i) end
abbrev pub text_for_program : Block
text_for_program = (t.stat_and (t.num_for 1 (codes "i") (t.str 1 (codes "1")) (t.str 1 (codes "2"))
    (t.stat_and (t.call_stat 1 (t.call 1 (t.name 1 (codes "print")) (t.expr_and (t.name 1
    (codes "i")) t.no_exprs))) t.no_stats)) t.no_stats)

-- `changed_counter`:
--     for i = 1, 3 do local j = i i = 10 print(i, j) end
abbrev pub changed_counter_program : Block
changed_counter_program =
    (t.stat_and (t.num_for 1 (codes "i") (t.number 1 (pos 1)) (t.number 1 (pos 3)) (t.stat_and
    (t.local 1 ((codes "j") ∷ []) (t.expr_and (t.name 1 (codes "i")) t.no_exprs)) (t.stat_and
    (t.assign 1 (t.expr_and (t.name 1 (codes "i")) t.no_exprs) (t.expr_and (t.number 1
    (pos 10)) t.no_exprs)) (t.stat_and (t.call_stat 1 (t.call 1 (t.name 1 (codes "print"))
    (t.expr_and (t.name 1 (codes "i")) (t.expr_and (t.name 1
    (codes "j")) t.no_exprs)))) t.no_stats)))) t.no_stats)

-- `last_numbers`:
--     for i = 99999999999998, 99999999999999 do print(i) end
abbrev pub last_numbers_program : Block
last_numbers_program =
    (t.stat_and (t.num_for 1 (codes "i") (t.number 1 (pos 99999999999998)) (t.number 1
    (pos 99999999999999)) (t.stat_and (t.call_stat 1 (t.call 1 (t.name 1 (codes "print"))
    (t.expr_and (t.name 1 (codes "i")) t.no_exprs))) t.no_stats)) t.no_stats)

-- `globals`:
--     x = 1
--     function f() x = x + 1 return y end
--     print(f(), x, _G.x, _G._G == _G)
abbrev pub globals_program : Block
globals_program = (t.stat_and (t.assign 1 (t.expr_and (t.name 1 (codes "x")) t.no_exprs)
    (t.expr_and (t.number 1 (pos 1)) t.no_exprs)) (t.stat_and (t.function_stat 2 (t.name 2
    (codes "f")) (t.func 2 [] false (t.stat_and (t.assign 2 (t.expr_and (t.name 2
    (codes "x")) t.no_exprs) (t.expr_and (t.binary 2 t.add (t.name 2 (codes "x")) (t.number 2
    (pos 1))) t.no_exprs)) (t.stat_and (t.return_stat 2 (t.expr_and (t.name 2
    (codes "y")) t.no_exprs)) t.no_stats)))) (t.stat_and (t.call_stat 3 (t.call 3 (t.name 3
    (codes "print")) (t.expr_and (t.call 3 (t.name 3 (codes "f")) t.no_exprs) (t.expr_and (t.name 3
    (codes "x")) (t.expr_and (t.index 3 (t.name 3 (codes "_G")) (t.str 3 (codes "x"))) (t.expr_and
    (t.binary 3 t.equal (t.index 3 (t.name 3 (codes "_G")) (t.str 3 (codes "_G"))) (t.name 3
    (codes "_G"))) t.no_exprs)))))) t.no_stats)))

-- `named_functions`:
--     local t = {u = {}}
--     function t.f(a) return a end
--     function t.u:g(a) return self == t.u, a end
--     print(t.f(1), t.u:g(2))
abbrev pub named_functions_program : Block
named_functions_program =
    (t.stat_and (t.local 1 ((codes "t") ∷ []) (t.expr_and (t.table 1 (t.keyed_and (t.str 1
    (codes "u")) (t.table 1 t.no_fields) t.no_fields)) t.no_exprs)) (t.stat_and (t.function_stat 2
    (t.index 2 (t.name 2 (codes "t")) (t.str 2 (codes "f"))) (t.func 2 ((codes "a") ∷ []) false
    (t.stat_and (t.return_stat 2 (t.expr_and (t.name 2 (codes "a")) t.no_exprs)) t.no_stats)))
    (t.stat_and (t.function_stat 3 (t.index 3 (t.index 3 (t.name 3 (codes "t")) (t.str 3
    (codes "u"))) (t.str 3 (codes "g"))) (t.func 3 ((codes "self") ∷ (codes "a") ∷ []) false
    (t.stat_and (t.return_stat 3 (t.expr_and (t.binary 3 t.equal (t.name 3 (codes "self"))
    (t.index 3 (t.name 3 (codes "t")) (t.str 3 (codes "u")))) (t.expr_and (t.name 3
    (codes "a")) t.no_exprs))) t.no_stats))) (t.stat_and (t.call_stat 4 (t.call 4 (t.name 4
    (codes "print")) (t.expr_and (t.call 4 (t.index 4 (t.name 4 (codes "t")) (t.str 4 (codes "f")))
    (t.expr_and (t.number 4 (pos 1)) t.no_exprs)) (t.expr_and (t.method 4 (t.index 4 (t.name 4
    (codes "t")) (t.str 4 (codes "u"))) (codes "g") (t.expr_and (t.number 4
    (pos 2)) t.no_exprs)) t.no_exprs)))) t.no_stats))))

-- `no_cells`:
--     for i = 1, 20 do local j = i end
abbrev pub no_cells_program : Block
no_cells_program = (t.stat_and (t.num_for 1 (codes "i") (t.number 1 (pos 1)) (t.number 1 (pos 20))
    (t.stat_and (t.local 1 ((codes "j") ∷ []) (t.expr_and (t.name 1
    (codes "i")) t.no_exprs)) t.no_stats)) t.no_stats)

-- `loop_cells`:
--     local f for i = 1, 3 do f = function() return i end end
abbrev pub loop_cells_program : Block
loop_cells_program = (t.stat_and (t.local 1 ((codes "f") ∷ []) t.no_exprs) (t.stat_and (t.num_for 1
    (codes "i") (t.number 1 (pos 1)) (t.number 1 (pos 3)) (t.stat_and (t.assign 1 (t.expr_and
    (t.name 1 (codes "f")) t.no_exprs) (t.expr_and (t.function 1 (t.func 1 [] false (t.stat_and
    (t.return_stat 1 (t.expr_and (t.name 1 (codes "i")) t.no_exprs)) t.no_stats))) t.no_exprs))
    t.no_stats)) t.no_stats))

-- `parameter_cells`:
--     local function f(a) return function() return a end end f(1) f(2)
abbrev pub parameter_cells_program : Block
parameter_cells_program =
    (t.stat_and (t.local_function 1 (codes "f") (t.func 1 ((codes "a") ∷ []) false (t.stat_and
    (t.return_stat 1 (t.expr_and (t.function 1 (t.func 1 [] false (t.stat_and (t.return_stat 1
    (t.expr_and (t.name 1 (codes "a")) t.no_exprs)) t.no_stats))) t.no_exprs)) t.no_stats)))
    (t.stat_and (t.call_stat 1 (t.call 1 (t.name 1 (codes "f")) (t.expr_and (t.number 1
    (pos 1)) t.no_exprs))) (t.stat_and (t.call_stat 1 (t.call 1 (t.name 1 (codes "f")) (t.expr_and
    (t.number 1 (pos 2)) t.no_exprs))) t.no_stats)))

-- `twice_declared`:
--     local a, a = 1, 2
--     local function f() return a end
--     print(f())
abbrev pub twice_declared_program : Block
twice_declared_program =
    (t.stat_and (t.local 1 ((codes "a") ∷ (codes "a") ∷ []) (t.expr_and (t.number 1 (pos 1))
    (t.expr_and (t.number 1 (pos 2)) t.no_exprs))) (t.stat_and (t.local_function 2 (codes "f")
    (t.func 2 [] false (t.stat_and (t.return_stat 2 (t.expr_and (t.name 2
    (codes "a")) t.no_exprs)) t.no_stats))) (t.stat_and (t.call_stat 3 (t.call 3 (t.name 3
    (codes "print")) (t.expr_and (t.call 3 (t.name 3
    (codes "f")) t.no_exprs) t.no_exprs))) t.no_stats)))

-- `else_arms`:
--     local function f(n) if n == 1 then return 'a' elseif n == 2 then return 'b' else return 'c' end end
--     print(f(1), f(2), f(3))
abbrev pub else_arms_program : Block
else_arms_program = (t.stat_and (t.local_function 1 (codes "f") (t.func 1 ((codes "n") ∷ []) false
    (t.stat_and (t.if_stat 1 (t.arm_and (t.binary 1 t.equal (t.name 1 (codes "n")) (t.number 1
    (pos 1))) (t.stat_and (t.return_stat 1 (t.expr_and (t.str 1
    (codes "a")) t.no_exprs)) t.no_stats) (t.arm_and (t.binary 1 t.equal (t.name 1 (codes "n"))
    (t.number 1 (pos 2))) (t.stat_and (t.return_stat 1 (t.expr_and (t.str 1
    (codes "b")) t.no_exprs)) t.no_stats) (t.else_block (t.stat_and (t.return_stat 1 (t.expr_and
    (t.str 1 (codes "c")) t.no_exprs)) t.no_stats))))) t.no_stats))) (t.stat_and (t.call_stat 2
    (t.call 2 (t.name 2 (codes "print")) (t.expr_and (t.call 2 (t.name 2 (codes "f")) (t.expr_and
    (t.number 2 (pos 1)) t.no_exprs)) (t.expr_and (t.call 2 (t.name 2 (codes "f")) (t.expr_and
    (t.number 2 (pos 2)) t.no_exprs)) (t.expr_and (t.call 2 (t.name 2 (codes "f")) (t.expr_and
    (t.number 2 (pos 3)) t.no_exprs)) t.no_exprs))))) t.no_stats))

-- ---- what they come to

abbrev pub LoopClosures : Type 0
LoopClosures = Comes {A =
    List ℕ × End × ℕ} (λ r. (r.output, r.end, r.cells)) (record {
      game = record {
        files =
            ([]);
        state = 0;
      };
      file = codes "a.lua";
      code = ready loop_closures_program;
      args =
          ([]);
      ticks = 1000;
      replies = ([]);
    }) ((codes "2\t3\t3\n"), done None, 3)

abbrev pub Shared : Type 0
Shared = Comes {A = List ℕ × End × ℕ} (λ r. (r.output, r.end, r.cells)) (record {
  game =
      record { files = ([]); state = 0 };
  file = codes "a.lua";
  code = ready shared_program;
  args =
      ([]);
  ticks = 1000;
  replies = ([]);
}) ((codes "2\t2\n"), done None, 1)

abbrev pub Hidden : Type 0
Hidden = Comes {A = List ℕ × End × ℕ} (λ r. (r.output, r.end, r.cells)) (record {
  game =
      record { files = ([]); state = 0 };
  file = codes "a.lua";
  code = ready hidden_program;
  args =
      ([]);
  ticks = 1000;
  replies = ([]);
}) ((codes "2\n11\n"), done None, 0)

abbrev pub RepeatScope : Type 0
RepeatScope = Comes {A =
    List ℕ × End × ℕ} (λ r. (r.output, r.end, r.cells)) (record {
      game = record {
        files =
            ([]);
        state = 0;
      };
      file = codes "a.lua";
      code = ready repeat_scope_program;
      args =
          ([]);
      ticks = 1000;
      replies = ([]);
    }) ((codes "3\n"), done None, 0)

abbrev pub RepeatCaptured : Type 0
RepeatCaptured = Comes {A =
    List ℕ × End × ℕ} (λ r. (r.output, r.end, r.cells)) (record {
      game = record {
        files =
            ([]);
        state = 0;
      };
      file = codes "a.lua";
      code = ready repeat_captured_program;
      args =
          ([]);
      ticks = 1000;
      replies = ([]);
    }) ((codes "5\n"), done None, 1)

abbrev pub Recursive : Type 0
Recursive = Comes {A =
    List ℕ × End × ℕ} (λ r. (r.output, r.end, r.cells)) (record {
      game = record {
        files =
            ([]);
        state = 0;
      };
      file = codes "a.lua";
      code = ready recursive_program;
      args =
          ([]);
      ticks = 1000;
      replies = ([]);
    }) ((codes "120\n"), done None, 1)

abbrev pub WhileClosures : Type 0
WhileClosures = Comes {A =
    List ℕ × End × ℕ} (λ r. (r.output, r.end, r.cells)) (record {
      game = record {
        files =
            ([]);
        state = 0;
      };
      file = codes "a.lua";
      code = ready while_closures_program;
      args =
          ([]);
      ticks = 1000;
      replies = ([]);
    }) ((codes "2\t3\t3\n"), done None, 2)

abbrev pub EachClosures : Type 0
EachClosures = Comes {A =
    List ℕ × End × ℕ} (λ r. (r.output, r.end, r.cells)) (record {
      game = record {
        files =
            ([]);
        state = 0;
      };
      file = codes "a.lua";
      code = ready each_closures_program;
      args =
          ([]);
      ticks = 1000;
      replies = ([]);
    }) ((codes "10\t20\n"), done None, 2)

abbrev pub BreakOuter : Type 0
BreakOuter = Comes {A =
    List ℕ × End} (λ r. (r.output, r.end)) (record {
      game = record {
        files =
            ([]);
        state = 0;
      };
      file = codes "a.lua";
      code = ready break_outer_program;
      args =
          ([]);
      ticks = 1000;
      replies = ([]);
    }) ((codes "1\n3\n"), done None)

abbrev pub ReturnInner : Type 0
ReturnInner = Comes {A =
    List ℕ × End} (λ r. (r.output, r.end)) (record {
      game = record {
        files =
            ([]);
        state = 0;
      };
      file = codes "a.lua";
      code = ready return_inner_program;
      args =
          ([]);
      ticks = 1000;
      replies = ([]);
    }) ((codes "3\tx\n"), done None)

abbrev pub Downwards : Type 0
Downwards = Comes {A =
    List ℕ × End} (λ r. (r.output, r.end)) (record {
      game = record {
        files =
            ([]);
        state = 0;
      };
      file = codes "a.lua";
      code = ready downwards_program;
      args =
          ([]);
      ticks = 1000;
      replies = ([]);
    }) ((codes "3\n2\n1\n1\n4\n"), done None)

abbrev pub TextFor : Type 0
TextFor = Comes {A = List ℕ × End} (λ r. (r.output, r.end)) (record {
  game =
      record { files = ([]); state = 0 };
  file = codes "a.lua";
  code = ready text_for_program;
  args =
      ([]);
  ticks = 1000;
  replies = ([]);
}) ((codes "1\n2\n"), done None)

abbrev pub ChangedCounter : Type 0
ChangedCounter = Comes {A =
    List ℕ × End} (λ r. (r.output, r.end)) (record {
      game = record {
        files =
            ([]);
        state = 0;
      };
      file = codes "a.lua";
      code = ready changed_counter_program;
      args =
          ([]);
      ticks = 1000;
      replies = ([]);
    }) ((codes "10\t1\n10\t2\n10\t3\n"), done None)

abbrev pub LastNumbers : Type 0
LastNumbers = Comes {A =
    List ℕ × End} (λ r. (r.output, r.end)) (record {
      game = record {
        files =
            ([]);
        state = 0;
      };
      file = codes "a.lua";
      code = ready last_numbers_program;
      args =
          ([]);
      ticks = 1000;
      replies = ([]);
    }) ((codes "99999999999998\n99999999999999\n"), done None)

abbrev pub Globals : Type 0
Globals = Comes {A = List ℕ × End} (λ r. (r.output, r.end)) (record {
  game =
      record { files = ([]); state = 0 };
  file = codes "a.lua";
  code = ready globals_program;
  args =
      ([]);
  ticks = 1000;
  replies = ([]);
}) ((codes "nil\t2\t2\ttrue\n"), done None)

abbrev pub NamedFunctions : Type 0
NamedFunctions = Comes {A =
    List ℕ × End} (λ r. (r.output, r.end)) (record {
      game = record {
        files =
            ([]);
        state = 0;
      };
      file = codes "a.lua";
      code = ready named_functions_program;
      args =
          ([]);
      ticks = 1000;
      replies = ([]);
    }) ((codes "1\ttrue\t2\n"), done None)

abbrev pub NoCells : Type 0
NoCells = Comes {A = List ℕ × End × ℕ} (λ r. (r.output, r.end, r.cells)) (record {
  game =
      record { files = ([]); state = 0 };
  file = codes "a.lua";
  code = ready no_cells_program;
  args =
      ([]);
  ticks = 100;
  replies = ([]);
}) ([], done None, 0)

abbrev pub LoopCells : Type 0
LoopCells = Comes {A =
    List ℕ × End × ℕ} (λ r. (r.output, r.end, r.cells)) (record {
      game = record {
        files =
            ([]);
        state = 0;
      };
      file = codes "a.lua";
      code = ready loop_cells_program;
      args =
          ([]);
      ticks = 1000;
      replies = ([]);
    }) ([], done None, 3)

abbrev pub ParameterCells : Type 0
ParameterCells = Comes {A =
    List ℕ × End × ℕ} (λ r. (r.output, r.end, r.cells)) (record {
      game = record {
        files =
            ([]);
        state = 0;
      };
      file = codes "a.lua";
      code = ready parameter_cells_program;
      args =
          ([]);
      ticks = 1000;
      replies = ([]);
    }) ([], done None, 2)

abbrev pub TwiceDeclared : Type 0
TwiceDeclared = Comes {A =
    List ℕ × End × ℕ} (λ r. (r.output, r.end, r.cells)) (record {
      game = record {
        files =
            ([]);
        state = 0;
      };
      file = codes "a.lua";
      code = ready twice_declared_program;
      args =
          ([]);
      ticks = 1000;
      replies = ([]);
    }) ((codes "2\n"), done None, 1)

abbrev pub ElseArms : Type 0
ElseArms = Comes {A =
    List ℕ × End} (λ r. (r.output, r.end)) (record {
      game = record {
        files =
            ([]);
        state = 0;
      };
      file = codes "a.lua";
      code = ready else_arms_program;
      args =
          ([]);
      ticks = 1000;
      replies = ([]);
    }) ((codes "a\tb\tc\n"), done None)

-- all of them
pub record Rows : Type 0 where
  pub loop_closures : LoopClosures
  pub shared : Shared
  pub hidden : Hidden
  pub repeat_scope : RepeatScope
  pub repeat_captured : RepeatCaptured
  pub recursive : Recursive
  pub while_closures : WhileClosures
  pub each_closures : EachClosures
  pub break_outer : BreakOuter
  pub return_inner : ReturnInner
  pub downwards : Downwards
  pub text_for : TextFor
  pub changed_counter : ChangedCounter
  pub last_numbers : LastNumbers
  pub globals : Globals
  pub named_functions : NamedFunctions
  pub no_cells : NoCells
  pub loop_cells : LoopCells
  pub parameter_cells : ParameterCells
  pub twice_declared : TwiceDeclared
  pub else_arms : ElseArms
