-- Rows: errors, their places, and pcall (manual §2.7, §5.1). Written by checks/meaning-rows/write.py.
use Rattle.std.specs.Prelude.{ℕ, pos, false, List, [], ◌∷◌, None, codes}
use Rattle.lua_tree.specs.Tree as t
use Rattle.lua_tree.specs.Tree.{Block}
use Rattle.lua_meaning.specs.Control.{ready}
use Rattle.lua_meaning.specs.Run.{End, done, failed}
use Rattle.lua_meaning.specs.rows.Comes.{Comes}

-- ---- programs

-- `levels`:
--     local function f() error('bad', 2) end
--     local function g()
--       f()
--     end
--     print(pcall(g))
abbrev pub levels_program : Block
levels_program = (t.stat_and (t.local_function 1 (codes "f") (t.func 1 [] false (t.stat_and
    (t.call_stat 1 (t.call 1 (t.name 1 (codes "error")) (t.expr_and (t.str 1 (codes "bad"))
    (t.expr_and (t.number 1 (pos 2)) t.no_exprs)))) t.no_stats))) (t.stat_and (t.local_function 2
    (codes "g") (t.func 2 [] false (t.stat_and (t.call_stat 3 (t.call 3 (t.name 3
    (codes "f")) t.no_exprs)) t.no_stats))) (t.stat_and (t.call_stat 5 (t.call 5 (t.name 5
    (codes "print")) (t.expr_and (t.call 5 (t.name 5 (codes "pcall")) (t.expr_and (t.name 5
    (codes "g")) t.no_exprs)) t.no_exprs))) t.no_stats)))

-- `level_one`:
--     print(pcall(function()
--       error('x')
--     end))
--     print(pcall(error, 'y'), pcall(error, 'z', 0))
abbrev pub level_one_program : Block
level_one_program = (t.stat_and (t.call_stat 1 (t.call 1 (t.name 1 (codes "print")) (t.expr_and
    (t.call 1 (t.name 1 (codes "pcall")) (t.expr_and (t.function 1 (t.func 1 [] false (t.stat_and
    (t.call_stat 2 (t.call 2 (t.name 2 (codes "error")) (t.expr_and (t.str 2
    (codes "x")) t.no_exprs))) t.no_stats))) t.no_exprs)) t.no_exprs))) (t.stat_and (t.call_stat 4
    (t.call 4 (t.name 4 (codes "print")) (t.expr_and (t.call 4 (t.name 4 (codes "pcall"))
    (t.expr_and (t.name 4 (codes "error")) (t.expr_and (t.str 4 (codes "y")) t.no_exprs)))
    (t.expr_and (t.call 4 (t.name 4 (codes "pcall")) (t.expr_and (t.name 4 (codes "error"))
    (t.expr_and (t.str 4 (codes "z")) (t.expr_and (t.number 4
    (pos 0)) t.no_exprs)))) t.no_exprs)))) t.no_stats))

-- `error_values`:
--     print(pcall(error, {}) , select(2, pcall(error, nil)), select(2, pcall(error, 5)), select(2, pcall(error, true)))
abbrev pub error_values_program : Block
error_values_program =
    (t.stat_and (t.call_stat 1 (t.call 1 (t.name 1 (codes "print")) (t.expr_and (t.call 1 (t.name 1
    (codes "pcall")) (t.expr_and (t.name 1 (codes "error")) (t.expr_and
    (t.table 1 t.no_fields) t.no_exprs))) (t.expr_and (t.call 1 (t.name 1 (codes "select"))
    (t.expr_and (t.number 1 (pos 2)) (t.expr_and (t.call 1 (t.name 1 (codes "pcall")) (t.expr_and
    (t.name 1 (codes "error")) (t.expr_and (t.nil 1) t.no_exprs))) t.no_exprs))) (t.expr_and
    (t.call 1 (t.name 1 (codes "select")) (t.expr_and (t.number 1 (pos 2)) (t.expr_and (t.call 1
    (t.name 1 (codes "pcall")) (t.expr_and (t.name 1 (codes "error")) (t.expr_and (t.number 1
    (pos 5)) t.no_exprs))) t.no_exprs))) (t.expr_and (t.call 1 (t.name 1 (codes "select"))
    (t.expr_and (t.number 1 (pos 2)) (t.expr_and (t.call 1 (t.name 1 (codes "pcall")) (t.expr_and
    (t.name 1 (codes "error")) (t.expr_and (t.true_ 1) t.no_exprs))) t.no_exprs))) t.no_exprs))))))
    t.no_stats)

-- `level_two_pcall`:
--     print(pcall(error, 'x', 2))
abbrev pub level_two_pcall_program : Block
level_two_pcall_program =
    (t.stat_and (t.call_stat 1 (t.call 1 (t.name 1 (codes "print")) (t.expr_and (t.call 1 (t.name 1
    (codes "pcall")) (t.expr_and (t.name 1 (codes "error")) (t.expr_and (t.str 1 (codes "x"))
    (t.expr_and (t.number 1 (pos 2)) t.no_exprs)))) t.no_exprs))) t.no_stats)

-- `main_level_two`:
--     error('x', 2)
abbrev pub main_level_two_program : Block
main_level_two_program =
    (t.stat_and (t.call_stat 1 (t.call 1 (t.name 1 (codes "error")) (t.expr_and (t.str 1
    (codes "x")) (t.expr_and (t.number 1 (pos 2)) t.no_exprs)))) t.no_stats)

-- `pcall_pcall`:
--     print(pcall(pcall, error, 'x'))
abbrev pub pcall_pcall_program : Block
pcall_pcall_program =
    (t.stat_and (t.call_stat 1 (t.call 1 (t.name 1 (codes "print")) (t.expr_and (t.call 1 (t.name 1
    (codes "pcall")) (t.expr_and (t.name 1 (codes "pcall")) (t.expr_and (t.name 1 (codes "error"))
    (t.expr_and (t.str 1 (codes "x")) t.no_exprs)))) t.no_exprs))) t.no_stats)

-- `not_called`:
--     print(pcall(nil))
--     print(pcall(5, 1))
--     print(pcall())
abbrev pub not_called_program : Block
not_called_program = (t.stat_and (t.call_stat 1 (t.call 1 (t.name 1 (codes "print")) (t.expr_and
    (t.call 1 (t.name 1 (codes "pcall")) (t.expr_and (t.nil 1) t.no_exprs)) t.no_exprs)))
    (t.stat_and (t.call_stat 2 (t.call 2 (t.name 2 (codes "print")) (t.expr_and (t.call 2 (t.name 2
    (codes "pcall")) (t.expr_and (t.number 2 (pos 5)) (t.expr_and (t.number 2
    (pos 1)) t.no_exprs))) t.no_exprs))) (t.stat_and (t.call_stat 3 (t.call 3 (t.name 3
    (codes "print")) (t.expr_and (t.call 3 (t.name 3
    (codes "pcall")) t.no_exprs) t.no_exprs))) t.no_stats)))

-- `operator_places`:
--     local t = {}
--     print(pcall(function()
--       return 1 +
--         t
--     end))
--     print(pcall(function() return t .. 'x' end))
--     print(pcall(function() return #5 end))
abbrev pub operator_places_program : Block
operator_places_program =
    (t.stat_and (t.local 1 ((codes "t") ∷ []) (t.expr_and (t.table 1 t.no_fields) t.no_exprs))
    (t.stat_and (t.call_stat 2 (t.call 2 (t.name 2 (codes "print")) (t.expr_and (t.call 2 (t.name 2
    (codes "pcall")) (t.expr_and (t.function 2 (t.func 2 [] false (t.stat_and (t.return_stat 3
    (t.expr_and (t.binary 3 t.add (t.number 3 (pos 1)) (t.name 4
    (codes "t"))) t.no_exprs)) t.no_stats))) t.no_exprs)) t.no_exprs))) (t.stat_and (t.call_stat 6
    (t.call 6 (t.name 6 (codes "print")) (t.expr_and (t.call 6 (t.name 6 (codes "pcall"))
    (t.expr_and (t.function 6 (t.func 6 [] false (t.stat_and (t.return_stat 6 (t.expr_and
    (t.binary 6 t.concat (t.name 6 (codes "t")) (t.str 6
    (codes "x"))) t.no_exprs)) t.no_stats))) t.no_exprs)) t.no_exprs))) (t.stat_and (t.call_stat 7
    (t.call 7 (t.name 7 (codes "print")) (t.expr_and (t.call 7 (t.name 7 (codes "pcall"))
    (t.expr_and (t.function 7 (t.func 7 [] false (t.stat_and (t.return_stat 7 (t.expr_and
    (t.unary 7 t.length_of (t.number 7 (pos 5))) t.no_exprs)) t.no_stats))) t.no_exprs))
    t.no_exprs))) t.no_stats))))

-- `compare_texts`:
--     print(pcall(function() return 1 < 'x' end))
--     print(pcall(function() return {} <= {} end))
--     print(pcall(function() return 1 > 'x' end))
abbrev pub compare_texts_program : Block
compare_texts_program =
    (t.stat_and (t.call_stat 1 (t.call 1 (t.name 1 (codes "print")) (t.expr_and (t.call 1 (t.name 1
    (codes "pcall")) (t.expr_and (t.function 1 (t.func 1 [] false (t.stat_and (t.return_stat 1
    (t.expr_and (t.binary 1 t.less (t.number 1 (pos 1)) (t.str 1
    (codes "x"))) t.no_exprs)) t.no_stats))) t.no_exprs)) t.no_exprs))) (t.stat_and (t.call_stat 2
    (t.call 2 (t.name 2 (codes "print")) (t.expr_and (t.call 2 (t.name 2 (codes "pcall"))
    (t.expr_and (t.function 2 (t.func 2 [] false (t.stat_and (t.return_stat 2 (t.expr_and
    (t.binary 2 t.less_equal (t.table 2 t.no_fields)
    (t.table 2 t.no_fields)) t.no_exprs)) t.no_stats))) t.no_exprs)) t.no_exprs))) (t.stat_and
    (t.call_stat 3 (t.call 3 (t.name 3 (codes "print")) (t.expr_and (t.call 3 (t.name 3
    (codes "pcall")) (t.expr_and (t.function 3 (t.func 3 [] false (t.stat_and (t.return_stat 3
    (t.expr_and (t.binary 3 t.greater (t.number 3 (pos 1)) (t.str 3
    (codes "x"))) t.no_exprs)) t.no_stats))) t.no_exprs)) t.no_exprs))) t.no_stats)))

-- `index_texts`:
--     local n
--     print(pcall(function() return n.x end))
--     print(pcall(function() n.x = 1 end))
--     print(pcall(function() n() end))
abbrev pub index_texts_program : Block
index_texts_program =
    (t.stat_and (t.local 1 ((codes "n") ∷ []) t.no_exprs) (t.stat_and (t.call_stat 2 (t.call 2
    (t.name 2 (codes "print")) (t.expr_and (t.call 2 (t.name 2 (codes "pcall")) (t.expr_and
    (t.function 2 (t.func 2 [] false (t.stat_and (t.return_stat 2 (t.expr_and (t.index 2 (t.name 2
    (codes "n")) (t.str 2 (codes "x"))) t.no_exprs)) t.no_stats))) t.no_exprs)) t.no_exprs)))
    (t.stat_and (t.call_stat 3 (t.call 3 (t.name 3 (codes "print")) (t.expr_and (t.call 3 (t.name 3
    (codes "pcall")) (t.expr_and (t.function 3 (t.func 3 [] false (t.stat_and (t.assign 3
    (t.expr_and (t.index 3 (t.name 3 (codes "n")) (t.str 3 (codes "x"))) t.no_exprs) (t.expr_and
    (t.number 3 (pos 1)) t.no_exprs)) t.no_stats))) t.no_exprs)) t.no_exprs))) (t.stat_and
    (t.call_stat 4 (t.call 4 (t.name 4 (codes "print")) (t.expr_and (t.call 4 (t.name 4
    (codes "pcall")) (t.expr_and (t.function 4 (t.func 4 [] false (t.stat_and (t.call_stat 4
    (t.call 4 (t.name 4 (codes "n")) t.no_exprs)) t.no_stats))) t.no_exprs)) t.no_exprs)))
    t.no_stats))))

-- `nil_key`:
--     local t = {}
--     print(pcall(function() t[nil] = 1 end))
--     print(pcall(function() return {[nil] = 1} end))
--     print(t[nil])
abbrev pub nil_key_program : Block
nil_key_program = (t.stat_and (t.local 1 ((codes "t") ∷ []) (t.expr_and
    (t.table 1 t.no_fields) t.no_exprs)) (t.stat_and (t.call_stat 2 (t.call 2 (t.name 2
    (codes "print")) (t.expr_and (t.call 2 (t.name 2 (codes "pcall")) (t.expr_and (t.function 2
    (t.func 2 [] false (t.stat_and (t.assign 2 (t.expr_and (t.index 2 (t.name 2 (codes "t"))
    (t.nil 2)) t.no_exprs) (t.expr_and (t.number 2 (pos 1)) t.no_exprs)) t.no_stats))) t.no_exprs))
    t.no_exprs))) (t.stat_and (t.call_stat 3 (t.call 3 (t.name 3 (codes "print")) (t.expr_and
    (t.call 3 (t.name 3 (codes "pcall")) (t.expr_and (t.function 3 (t.func 3 [] false (t.stat_and
    (t.return_stat 3 (t.expr_and (t.table 3 (t.keyed_and (t.nil 3) (t.number 3
    (pos 1)) t.no_fields)) t.no_exprs)) t.no_stats))) t.no_exprs)) t.no_exprs))) (t.stat_and
    (t.call_stat 4 (t.call 4 (t.name 4 (codes "print")) (t.expr_and (t.index 4 (t.name 4
    (codes "t")) (t.nil 4)) t.no_exprs))) t.no_stats))))

-- `number_faults`:
--     print(6/2, -7 % 3, 2^10)
--     print(pcall(function() return 7/2 end))
--     print(pcall(function() return 1/0 end))
--     print(pcall(function() return 99999999999999+1 end))
abbrev pub number_faults_program : Block
number_faults_program =
    (t.stat_and (t.call_stat 1 (t.call 1 (t.name 1 (codes "print")) (t.expr_and (t.binary 1 t.div
    (t.number 1 (pos 6)) (t.number 1 (pos 2))) (t.expr_and (t.binary 1 t.mod_ (t.unary 1 t.negate
    (t.number 1 (pos 7))) (t.number 1 (pos 3))) (t.expr_and (t.binary 1 t.pow (t.number 1 (pos 2))
    (t.number 1 (pos 10))) t.no_exprs))))) (t.stat_and (t.call_stat 2 (t.call 2 (t.name 2
    (codes "print")) (t.expr_and (t.call 2 (t.name 2 (codes "pcall")) (t.expr_and (t.function 2
    (t.func 2 [] false (t.stat_and (t.return_stat 2 (t.expr_and (t.binary 2 t.div (t.number 2
    (pos 7)) (t.number 2 (pos 2))) t.no_exprs)) t.no_stats))) t.no_exprs)) t.no_exprs)))
    (t.stat_and (t.call_stat 3 (t.call 3 (t.name 3 (codes "print")) (t.expr_and (t.call 3 (t.name 3
    (codes "pcall")) (t.expr_and (t.function 3 (t.func 3 [] false (t.stat_and (t.return_stat 3
    (t.expr_and (t.binary 3 t.div (t.number 3 (pos 1)) (t.number 3
    (pos 0))) t.no_exprs)) t.no_stats))) t.no_exprs)) t.no_exprs))) (t.stat_and (t.call_stat 4
    (t.call 4 (t.name 4 (codes "print")) (t.expr_and (t.call 4 (t.name 4 (codes "pcall"))
    (t.expr_and (t.function 4 (t.func 4 [] false (t.stat_and (t.return_stat 4 (t.expr_and
    (t.binary 4 t.add (t.number 4 (pos 99999999999999)) (t.number 4
    (pos 1))) t.no_exprs)) t.no_stats))) t.no_exprs)) t.no_exprs))) t.no_stats))))

-- `for_texts`:
--     print(pcall(function() for i = {}, 1 do end end))
--     print(pcall(function() for i = 1, 'x', {} do end end))
--     print(pcall(function() for i = 1, 2, {} do end end))
abbrev pub for_texts_program : Block
for_texts_program = (t.stat_and (t.call_stat 1 (t.call 1 (t.name 1 (codes "print")) (t.expr_and
    (t.call 1 (t.name 1 (codes "pcall")) (t.expr_and (t.function 1 (t.func 1 [] false (t.stat_and
    (t.num_for 1 (codes "i") (t.table 1 t.no_fields) (t.number 1
    (pos 1)) t.no_stats) t.no_stats))) t.no_exprs)) t.no_exprs))) (t.stat_and (t.call_stat 2
    (t.call 2 (t.name 2 (codes "print")) (t.expr_and (t.call 2 (t.name 2 (codes "pcall"))
    (t.expr_and (t.function 2 (t.func 2 [] false (t.stat_and (t.num_for_by 2 (codes "i")
    (t.number 2 (pos 1)) (t.str 2 (codes "x")) (t.table 2 t.no_fields) t.no_stats) t.no_stats)))
    t.no_exprs)) t.no_exprs))) (t.stat_and (t.call_stat 3 (t.call 3 (t.name 3 (codes "print"))
    (t.expr_and (t.call 3 (t.name 3 (codes "pcall")) (t.expr_and (t.function 3 (t.func 3 [] false
    (t.stat_and (t.num_for_by 3 (codes "i") (t.number 3 (pos 1)) (t.number 3 (pos 2))
    (t.table 3 t.no_fields) t.no_stats) t.no_stats))) t.no_exprs)) t.no_exprs))) t.no_stats)))

-- `object_end`:
--     error({})
abbrev pub object_end_program : Block
object_end_program = (t.stat_and (t.call_stat 1 (t.call 1 (t.name 1 (codes "error")) (t.expr_and
    (t.table 1 t.no_fields) t.no_exprs))) t.no_stats)

-- `number_end`:
--     error(42)
abbrev pub number_end_program : Block
number_end_program = (t.stat_and (t.call_stat 1 (t.call 1 (t.name 1 (codes "error")) (t.expr_and
    (t.number 1 (pos 42)) t.no_exprs))) t.no_stats)

-- `text_end`:
--     local x
--     x = x + 1
abbrev pub text_end_program : Block
text_end_program = (t.stat_and (t.local 1 ((codes "x") ∷ []) t.no_exprs) (t.stat_and (t.assign 2
    (t.expr_and (t.name 2 (codes "x")) t.no_exprs) (t.expr_and (t.binary 2 t.add (t.name 2
    (codes "x")) (t.number 2 (pos 1))) t.no_exprs)) t.no_stats))

-- `library_place`:
--     local function f()
--       return ('x'):rep({})
--     end
--     print(pcall(f))
--     print(pcall(string.rep, 'x', {}))
abbrev pub library_place_program : Block
library_place_program =
    (t.stat_and (t.local_function 1 (codes "f") (t.func 1 [] false (t.stat_and (t.return_stat 2
    (t.expr_and (t.method 2 (t.paren 2 (t.str 2 (codes "x"))) (codes "rep") (t.expr_and
    (t.table 2 t.no_fields) t.no_exprs)) t.no_exprs)) t.no_stats))) (t.stat_and (t.call_stat 4
    (t.call 4 (t.name 4 (codes "print")) (t.expr_and (t.call 4 (t.name 4 (codes "pcall"))
    (t.expr_and (t.name 4 (codes "f")) t.no_exprs)) t.no_exprs))) (t.stat_and (t.call_stat 5
    (t.call 5 (t.name 5 (codes "print")) (t.expr_and (t.call 5 (t.name 5 (codes "pcall"))
    (t.expr_and (t.index 5 (t.name 5 (codes "string")) (t.str 5 (codes "rep"))) (t.expr_and
    (t.str 5 (codes "x")) (t.expr_and (t.table 5 t.no_fields) t.no_exprs)))) t.no_exprs)))
    t.no_stats)))

-- `assert_plain`:
--     print(pcall(assert, false))
--     print(pcall(assert, nil, 'm'))
--     print(select('#', assert(1, 2, 3)))
abbrev pub assert_plain_program : Block
assert_plain_program =
    (t.stat_and (t.call_stat 1 (t.call 1 (t.name 1 (codes "print")) (t.expr_and (t.call 1 (t.name 1
    (codes "pcall")) (t.expr_and (t.name 1 (codes "assert")) (t.expr_and
    (t.false_ 1) t.no_exprs))) t.no_exprs))) (t.stat_and (t.call_stat 2 (t.call 2 (t.name 2
    (codes "print")) (t.expr_and (t.call 2 (t.name 2 (codes "pcall")) (t.expr_and (t.name 2
    (codes "assert")) (t.expr_and (t.nil 2) (t.expr_and (t.str 2
    (codes "m")) t.no_exprs)))) t.no_exprs))) (t.stat_and (t.call_stat 3 (t.call 3 (t.name 3
    (codes "print")) (t.expr_and (t.call 3 (t.name 3 (codes "select")) (t.expr_and (t.str 3
    (codes "#")) (t.expr_and (t.call 3 (t.name 3 (codes "assert")) (t.expr_and (t.number 3 (pos 1))
    (t.expr_and (t.number 3 (pos 2)) (t.expr_and (t.number 3
    (pos 3)) t.no_exprs)))) t.no_exprs))) t.no_exprs))) t.no_stats)))

-- `handler_error`:
--     local t = setmetatable({}, {__index = function(t, k)
--       error('no ' .. k)
--     end})
--     print(pcall(function() return t.x end))
abbrev pub handler_error_program : Block
handler_error_program =
    (t.stat_and (t.local 1 ((codes "t") ∷ []) (t.expr_and (t.call 1 (t.name 1
    (codes "setmetatable")) (t.expr_and (t.table 1 t.no_fields) (t.expr_and (t.table 1 (t.keyed_and
    (t.str 1 (codes "__index")) (t.function 1 (t.func 1 ((codes "t") ∷ (codes "k") ∷ []) false
    (t.stat_and (t.call_stat 2 (t.call 2 (t.name 2 (codes "error")) (t.expr_and
    (t.binary 2 t.concat (t.str 2 (codes "no ")) (t.name 2
    (codes "k"))) t.no_exprs))) t.no_stats))) t.no_fields)) t.no_exprs))) t.no_exprs)) (t.stat_and
    (t.call_stat 4 (t.call 4 (t.name 4 (codes "print")) (t.expr_and (t.call 4 (t.name 4
    (codes "pcall")) (t.expr_and (t.function 4 (t.func 4 [] false (t.stat_and (t.return_stat 4
    (t.expr_and (t.index 4 (t.name 4 (codes "t")) (t.str 4
    (codes "x"))) t.no_exprs)) t.no_stats))) t.no_exprs)) t.no_exprs))) t.no_stats))

-- `error_through`:
--     local function f() error('in', 1) end
--     print(pcall(function() local ok, e = pcall(f) error(e .. '+', 0) end))
abbrev pub error_through_program : Block
error_through_program =
    (t.stat_and (t.local_function 1 (codes "f") (t.func 1 [] false (t.stat_and (t.call_stat 1
    (t.call 1 (t.name 1 (codes "error")) (t.expr_and (t.str 1 (codes "in")) (t.expr_and (t.number 1
    (pos 1)) t.no_exprs)))) t.no_stats))) (t.stat_and (t.call_stat 2 (t.call 2 (t.name 2
    (codes "print")) (t.expr_and (t.call 2 (t.name 2 (codes "pcall")) (t.expr_and (t.function 2
    (t.func 2 [] false (t.stat_and (t.local 2 ((codes "ok") ∷ (codes "e") ∷ []) (t.expr_and
    (t.call 2 (t.name 2 (codes "pcall")) (t.expr_and (t.name 2
    (codes "f")) t.no_exprs)) t.no_exprs)) (t.stat_and (t.call_stat 2 (t.call 2 (t.name 2
    (codes "error")) (t.expr_and (t.binary 2 t.concat (t.name 2 (codes "e")) (t.str 2 (codes "+")))
    (t.expr_and (t.number 2 (pos 0)) t.no_exprs)))) t.no_stats)))) t.no_exprs)) t.no_exprs)))
    t.no_stats))

-- `overflow`:
--     local function f() return 1 + f() end f()
abbrev pub overflow_program : Block
overflow_program = (t.stat_and (t.local_function 1 (codes "f") (t.func 1 [] false (t.stat_and
    (t.return_stat 1 (t.expr_and (t.binary 1 t.add (t.number 1 (pos 1)) (t.call 1 (t.name 1
    (codes "f")) t.no_exprs)) t.no_exprs)) t.no_stats))) (t.stat_and (t.call_stat 1 (t.call 1
    (t.name 1 (codes "f")) t.no_exprs)) t.no_stats))

-- `overflow_caught`:
--     local function f() return 1 + f() end print(pcall(f))
abbrev pub overflow_caught_program : Block
overflow_caught_program =
    (t.stat_and (t.local_function 1 (codes "f") (t.func 1 [] false (t.stat_and (t.return_stat 1
    (t.expr_and (t.binary 1 t.add (t.number 1 (pos 1)) (t.call 1 (t.name 1
    (codes "f")) t.no_exprs)) t.no_exprs)) t.no_stats))) (t.stat_and (t.call_stat 1 (t.call 1
    (t.name 1 (codes "print")) (t.expr_and (t.call 1 (t.name 1 (codes "pcall")) (t.expr_and
    (t.name 1 (codes "f")) t.no_exprs)) t.no_exprs))) t.no_stats))

-- `iterator_place`:
--     print(pcall(function()
--       for k in
--       5 do end
--     end))
abbrev pub iterator_place_program : Block
iterator_place_program =
    (t.stat_and (t.call_stat 1 (t.call 1 (t.name 1 (codes "print")) (t.expr_and (t.call 1 (t.name 1
    (codes "pcall")) (t.expr_and (t.function 1 (t.func 1 [] false (t.stat_and (t.gen_for 2
    ((codes "k") ∷ []) (t.expr_and (t.number 3 (pos 5)) t.no_exprs) t.no_stats) t.no_stats)))
    t.no_exprs)) t.no_exprs))) t.no_stats)

-- `method_place`:
--     local o = {}
--     print(pcall(function()
--       o:m(1)
--     end))
abbrev pub method_place_program : Block
method_place_program =
    (t.stat_and (t.local 1 ((codes "o") ∷ []) (t.expr_and (t.table 1 t.no_fields) t.no_exprs))
    (t.stat_and (t.call_stat 2 (t.call 2 (t.name 2 (codes "print")) (t.expr_and (t.call 2 (t.name 2
    (codes "pcall")) (t.expr_and (t.function 2 (t.func 2 [] false (t.stat_and (t.call_stat 3
    (t.method 3 (t.name 3 (codes "o")) (codes "m") (t.expr_and (t.number 3
    (pos 1)) t.no_exprs))) t.no_stats))) t.no_exprs)) t.no_exprs))) t.no_stats))

-- ---- what they come to

abbrev pub Levels : Type 0
Levels = Comes {A = List ℕ × End} (λ r. (r.output, r.end)) (record {
  game =
      record { files = ([]); state = 0 };
  file = codes "a.lua";
  code = ready levels_program;
  args =
      ([]);
  ticks = 1000;
  replies = ([]);
}) ((codes "false\ta.lua:3: bad\n"), done None)

abbrev pub LevelOne : Type 0
LevelOne = Comes {A =
    List ℕ × End} (λ r. (r.output, r.end)) (record {
      game = record {
        files =
            ([]);
        state = 0;
      };
      file = codes "a.lua";
      code = ready level_one_program;
      args =
          ([]);
      ticks = 1000;
      replies = ([]);
    }) (
      (codes "false\ta.lua:2: x\nfalse\tfalse\tz\n"),
      done
          None,
    )

abbrev pub ErrorValues : Type 0
ErrorValues = Comes {A =
    List ℕ × End} (λ r. (r.output, r.end)) (record {
      game = record {
        files =
            ([]);
        state = 0;
      };
      file = codes "a.lua";
      code = ready error_values_program;
      args =
          ([]);
      ticks = 1000;
      replies = ([]);
    }) ((codes "false\tnil\t5\ttrue\n"), done None)

abbrev pub LevelTwoPcall : Type 0
LevelTwoPcall = Comes {A =
    List ℕ × End} (λ r. (r.output, r.end)) (record {
      game = record {
        files =
            ([]);
        state = 0;
      };
      file = codes "a.lua";
      code = ready level_two_pcall_program;
      args =
          ([]);
      ticks = 1000;
      replies = ([]);
    }) ((codes "false\ta.lua:1: x\n"), done None)

abbrev pub MainLevelTwo : Type 0
MainLevelTwo = Comes {A =
    List ℕ × End} (λ r. (r.output, r.end)) (record {
      game = record {
        files =
            ([]);
        state = 0;
      };
      file = codes "a.lua";
      code = ready main_level_two_program;
      args =
          ([]);
      ticks = 1000;
      replies = ([]);
    }) ([], failed (codes "x"))

abbrev pub PcallPcall : Type 0
PcallPcall = Comes {A =
    List ℕ × End} (λ r. (r.output, r.end)) (record {
      game = record {
        files =
            ([]);
        state = 0;
      };
      file = codes "a.lua";
      code = ready pcall_pcall_program;
      args =
          ([]);
      ticks = 1000;
      replies = ([]);
    }) ((codes "true\tfalse\tx\n"), done None)

abbrev pub NotCalled : Type 0
NotCalled = Comes {A =
    List ℕ × End} (λ r. (r.output, r.end)) (record {
      game = record {
        files =
            ([]);
        state = 0;
      };
      file = codes "a.lua";
      code = ready not_called_program;
      args =
          ([]);
      ticks = 1000;
      replies = ([]);
    }) (
      (codes
          "false\tattempt to call a nil value\nfalse\tattempt to call a number value\nfalse\tattempt to call a nil value\n"),
      done None,
    )

abbrev pub OperatorPlaces : Type 0
OperatorPlaces = Comes {A =
    List ℕ × End} (λ r. (r.output, r.end)) (record {
      game = record {
        files =
            ([]);
        state = 0;
      };
      file = codes "a.lua";
      code = ready operator_places_program;
      args =
          ([]);
      ticks = 1000;
      replies = ([]);
    }) (
      (codes
          "false\ta.lua:3: attempt to perform arithmetic on a table value\nfalse\ta.lua:6: attempt to concatenate a table value\nfalse\ta.lua:7: attempt to get length of a number value\n"),
      done None,
    )

abbrev pub CompareTexts : Type 0
CompareTexts = Comes {A =
    List ℕ × End} (λ r. (r.output, r.end)) (record {
      game = record {
        files =
            ([]);
        state = 0;
      };
      file = codes "a.lua";
      code = ready compare_texts_program;
      args =
          ([]);
      ticks = 1000;
      replies = ([]);
    }) (
      (codes
          "false\ta.lua:1: attempt to compare number with string\nfalse\ta.lua:2: attempt to compare two table values\nfalse\ta.lua:3: attempt to compare string with number\n"),
      done None,
    )

abbrev pub IndexTexts : Type 0
IndexTexts = Comes {A =
    List ℕ × End} (λ r. (r.output, r.end)) (record {
      game = record {
        files =
            ([]);
        state = 0;
      };
      file = codes "a.lua";
      code = ready index_texts_program;
      args =
          ([]);
      ticks = 1000;
      replies = ([]);
    }) (
      (codes
          "false\ta.lua:2: attempt to index a nil value\nfalse\ta.lua:3: attempt to index a nil value\nfalse\ta.lua:4: attempt to call a nil value\n"),
      done None,
    )

abbrev pub NilKey : Type 0
NilKey = Comes {A = List ℕ × End} (λ r. (r.output, r.end)) (record {
  game =
      record { files = ([]); state = 0 };
  file = codes "a.lua";
  code = ready nil_key_program;
  args =
      ([]);
  ticks = 1000;
  replies = ([]);
}) (
  (codes
      "false\ta.lua:2: table index is nil\nfalse\ta.lua:3: table index is nil\nnil\n"),
  done None,
)

abbrev pub NumberFaults : Type 0
NumberFaults = Comes {A =
    List ℕ × End} (λ r. (r.output, r.end)) (record {
      game = record {
        files =
            ([]);
        state = 0;
      };
      file = codes "a.lua";
      code = ready number_faults_program;
      args =
          ([]);
      ticks = 1000;
      replies = ([]);
    }) (
      (codes
          "3\t2\t1024\nfalse\ta.lua:2: number has no whole value\nfalse\ta.lua:3: number has no whole value\nfalse\ta.lua:4: number out of range\n"),
      done None,
    )

abbrev pub ForTexts : Type 0
ForTexts = Comes {A =
    List ℕ × End} (λ r. (r.output, r.end)) (record {
      game = record {
        files =
            ([]);
        state = 0;
      };
      file = codes "a.lua";
      code = ready for_texts_program;
      args =
          ([]);
      ticks = 1000;
      replies = ([]);
    }) (
      (codes
          "false\ta.lua:1: 'for' initial value must be a number\nfalse\ta.lua:2: 'for' limit must be a number\nfalse\ta.lua:3: 'for' step must be a number\n"),
      done None,
    )

abbrev pub ObjectEnd : Type 0
ObjectEnd = Comes {A =
    List ℕ × End} (λ r. (r.output, r.end)) (record {
      game = record {
        files =
            ([]);
        state = 0;
      };
      file = codes "a.lua";
      code = ready object_end_program;
      args =
          ([]);
      ticks = 1000;
      replies = ([]);
    }) ([], failed (codes "(error object is a table value)"))

abbrev pub NumberEnd : Type 0
NumberEnd = Comes {A =
    List ℕ × End} (λ r. (r.output, r.end)) (record {
      game = record {
        files =
            ([]);
        state = 0;
      };
      file = codes "a.lua";
      code = ready number_end_program;
      args =
          ([]);
      ticks = 1000;
      replies = ([]);
    }) ([], failed (codes "42"))

abbrev pub TextEnd : Type 0
TextEnd = Comes {A = List ℕ × End} (λ r. (r.output, r.end)) (record {
  game =
      record { files = ([]); state = 0 };
  file = codes "a.lua";
  code = ready text_end_program;
  args =
      ([]);
  ticks = 1000;
  replies = ([]);
}) (
  [],
  failed
      (codes "a.lua:2: attempt to perform arithmetic on a nil value"),
)

abbrev pub LibraryPlace : Type 0
LibraryPlace = Comes {A =
    List ℕ × End} (λ r. (r.output, r.end)) (record {
      game = record {
        files =
            ([]);
        state = 0;
      };
      file = codes "a.lua";
      code = ready library_place_program;
      args =
          ([]);
      ticks = 1000;
      replies = ([]);
    }) (
      (codes
          "false\ta.lua:2: bad argument #2 to 'rep' (number expected, got table)\nfalse\tbad argument #2 to 'rep' (number expected, got table)\n"),
      done None,
    )

abbrev pub AssertPlain : Type 0
AssertPlain = Comes {A =
    List ℕ × End} (λ r. (r.output, r.end)) (record {
      game = record {
        files =
            ([]);
        state = 0;
      };
      file = codes "a.lua";
      code = ready assert_plain_program;
      args =
          ([]);
      ticks = 1000;
      replies = ([]);
    }) (
      (codes "false\tassertion failed!\nfalse\tm\n3\n"),
      done
          None,
    )

abbrev pub HandlerError : Type 0
HandlerError = Comes {A =
    List ℕ × End} (λ r. (r.output, r.end)) (record {
      game = record {
        files =
            ([]);
        state = 0;
      };
      file = codes "a.lua";
      code = ready handler_error_program;
      args =
          ([]);
      ticks = 1000;
      replies = ([]);
    }) ((codes "false\ta.lua:2: no x\n"), done None)

abbrev pub ErrorThrough : Type 0
ErrorThrough = Comes {A =
    List ℕ × End} (λ r. (r.output, r.end)) (record {
      game = record {
        files =
            ([]);
        state = 0;
      };
      file = codes "a.lua";
      code = ready error_through_program;
      args =
          ([]);
      ticks = 1000;
      replies = ([]);
    }) ((codes "false\ta.lua:1: in+\n"), done None)

abbrev pub Overflow : Type 0
Overflow = Comes {A =
    End} (λ r. (r.end)) (record {
      game = record {
        files =
            ([]);
        state = 0;
      };
      file = codes "a.lua";
      code = ready overflow_program;
      args =
          ([]);
      ticks = 100000;
      replies = ([]);
    }) (failed (codes "a.lua:1: stack overflow"))

abbrev pub OverflowCaught : Type 0
OverflowCaught = Comes {A =
    List ℕ} (λ r. (r.output)) (record {
      game = record {
        files =
            ([]);
        state = 0;
      };
      file = codes "a.lua";
      code = ready overflow_caught_program;
      args =
          ([]);
      ticks = 100000;
      replies = ([]);
    }) ((codes "false\ta.lua:1: stack overflow\n"))

abbrev pub IteratorPlace : Type 0
IteratorPlace = Comes {A =
    List ℕ × End} (λ r. (r.output, r.end)) (record {
      game = record {
        files =
            ([]);
        state = 0;
      };
      file = codes "a.lua";
      code = ready iterator_place_program;
      args =
          ([]);
      ticks = 1000;
      replies = ([]);
    }) (
      (codes
          "false\ta.lua:2: attempt to call a number value\n"),
      done None,
    )

abbrev pub MethodPlace : Type 0
MethodPlace = Comes {A =
    List ℕ × End} (λ r. (r.output, r.end)) (record {
      game = record {
        files =
            ([]);
        state = 0;
      };
      file = codes "a.lua";
      code = ready method_place_program;
      args =
          ([]);
      ticks = 1000;
      replies = ([]);
    }) (
      (codes "false\ta.lua:3: attempt to call a nil value\n"),
      done None,
    )

-- all of them
pub record Rows : Type 0 where
  pub levels : Levels
  pub level_one : LevelOne
  pub error_values : ErrorValues
  pub level_two_pcall : LevelTwoPcall
  pub main_level_two : MainLevelTwo
  pub pcall_pcall : PcallPcall
  pub not_called : NotCalled
  pub operator_places : OperatorPlaces
  pub compare_texts : CompareTexts
  pub index_texts : IndexTexts
  pub nil_key : NilKey
  pub number_faults : NumberFaults
  pub for_texts : ForTexts
  pub object_end : ObjectEnd
  pub number_end : NumberEnd
  pub text_end : TextEnd
  pub library_place : LibraryPlace
  pub assert_plain : AssertPlain
  pub handler_error : HandlerError
  pub error_through : ErrorThrough
  pub overflow : Overflow
  pub overflow_caught : OverflowCaught
  pub iterator_place : IteratorPlace
  pub method_place : MethodPlace
