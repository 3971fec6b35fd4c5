-- Rows: metamethods (manual §2.8). Written by checks/meaning-rows/write.py.
use Rattle.std.specs.Prelude.{ℕ, pos, false, List, [], ◌∷◌, None, codes}
use Rattle.lua_tree.specs.Tree as t
use Rattle.lua_tree.specs.Tree.{Block}
use Rattle.lua_meaning.specs.Control.{ready}
use Rattle.lua_meaning.specs.Run.{End, done}
use Rattle.lua_meaning.specs.rows.Comes.{Comes}

-- ---- programs

-- `index_call`:
--     local t = setmetatable({}, {__index = function(t, k) return k .. '!' end, __call = function(self, a) return a + 1 end})
--     print(t.x, t(4))
abbrev pub index_call_program : Block
index_call_program = (t.stat_and (t.local 1 ((codes "t") ∷ []) (t.expr_and (t.call 1 (t.name 1
    (codes "setmetatable")) (t.expr_and (t.table 1 t.no_fields) (t.expr_and (t.table 1 (t.keyed_and
    (t.str 1 (codes "__index")) (t.function 1 (t.func 1 ((codes "t") ∷ (codes "k") ∷ []) false
    (t.stat_and (t.return_stat 1 (t.expr_and (t.binary 1 t.concat (t.name 1 (codes "k")) (t.str 1
    (codes "!"))) t.no_exprs)) t.no_stats))) (t.keyed_and (t.str 1 (codes "__call")) (t.function 1
    (t.func 1 ((codes "self") ∷ (codes "a") ∷ []) false (t.stat_and (t.return_stat 1 (t.expr_and
    (t.binary 1 t.add (t.name 1 (codes "a")) (t.number 1
    (pos 1))) t.no_exprs)) t.no_stats))) t.no_fields))) t.no_exprs))) t.no_exprs)) (t.stat_and
    (t.call_stat 2 (t.call 2 (t.name 2 (codes "print")) (t.expr_and (t.index 2 (t.name 2
    (codes "t")) (t.str 2 (codes "x"))) (t.expr_and (t.call 2 (t.name 2 (codes "t")) (t.expr_and
    (t.number 2 (pos 4)) t.no_exprs)) t.no_exprs)))) t.no_stats))

-- `chain`:
--     local a = {x = 1}
--     local b = setmetatable({y = 2}, {__index = a})
--     local c = setmetatable({}, {__index = b})
--     print(c.x, c.y, c.z)
abbrev pub chain_program : Block
chain_program = (t.stat_and (t.local 1 ((codes "a") ∷ []) (t.expr_and (t.table 1 (t.keyed_and
    (t.str 1 (codes "x")) (t.number 1 (pos 1)) t.no_fields)) t.no_exprs)) (t.stat_and (t.local 2
    ((codes "b") ∷ []) (t.expr_and (t.call 2 (t.name 2 (codes "setmetatable")) (t.expr_and
    (t.table 2 (t.keyed_and (t.str 2 (codes "y")) (t.number 2 (pos 2)) t.no_fields)) (t.expr_and
    (t.table 2 (t.keyed_and (t.str 2 (codes "__index")) (t.name 2
    (codes "a")) t.no_fields)) t.no_exprs))) t.no_exprs)) (t.stat_and (t.local 3 ((codes "c") ∷ [])
    (t.expr_and (t.call 3 (t.name 3 (codes "setmetatable")) (t.expr_and (t.table 3 t.no_fields)
    (t.expr_and (t.table 3 (t.keyed_and (t.str 3 (codes "__index")) (t.name 3
    (codes "b")) t.no_fields)) t.no_exprs))) t.no_exprs)) (t.stat_and (t.call_stat 4 (t.call 4
    (t.name 4 (codes "print")) (t.expr_and (t.index 4 (t.name 4 (codes "c")) (t.str 4 (codes "x")))
    (t.expr_and (t.index 4 (t.name 4 (codes "c")) (t.str 4 (codes "y"))) (t.expr_and (t.index 4
    (t.name 4 (codes "c")) (t.str 4 (codes "z"))) t.no_exprs))))) t.no_stats))))

-- `index_loop`:
--     local t = {}
--     setmetatable(t, {__index = t})
--     print(pcall(function() return t.x end))
abbrev pub index_loop_program : Block
index_loop_program = (t.stat_and (t.local 1 ((codes "t") ∷ []) (t.expr_and
    (t.table 1 t.no_fields) t.no_exprs)) (t.stat_and (t.call_stat 2 (t.call 2 (t.name 2
    (codes "setmetatable")) (t.expr_and (t.name 2 (codes "t")) (t.expr_and (t.table 2 (t.keyed_and
    (t.str 2 (codes "__index")) (t.name 2 (codes "t")) t.no_fields)) t.no_exprs)))) (t.stat_and
    (t.call_stat 3 (t.call 3 (t.name 3 (codes "print")) (t.expr_and (t.call 3 (t.name 3
    (codes "pcall")) (t.expr_and (t.function 3 (t.func 3 [] false (t.stat_and (t.return_stat 3
    (t.expr_and (t.index 3 (t.name 3 (codes "t")) (t.str 3
    (codes "x"))) t.no_exprs)) t.no_stats))) t.no_exprs)) t.no_exprs))) t.no_stats)))

-- `newindex_table`:
--     local log = {}
--     local t = setmetatable({old = 1}, {__newindex = log})
--     t.old = 2 t.new = 3
--     print(t.old, t.new, log.old, log.new)
abbrev pub newindex_table_program : Block
newindex_table_program =
    (t.stat_and (t.local 1 ((codes "log") ∷ []) (t.expr_and (t.table 1 t.no_fields) t.no_exprs))
    (t.stat_and (t.local 2 ((codes "t") ∷ []) (t.expr_and (t.call 2 (t.name 2
    (codes "setmetatable")) (t.expr_and (t.table 2 (t.keyed_and (t.str 2 (codes "old")) (t.number 2
    (pos 1)) t.no_fields)) (t.expr_and (t.table 2 (t.keyed_and (t.str 2 (codes "__newindex"))
    (t.name 2 (codes "log")) t.no_fields)) t.no_exprs))) t.no_exprs)) (t.stat_and (t.assign 3
    (t.expr_and (t.index 3 (t.name 3 (codes "t")) (t.str 3 (codes "old"))) t.no_exprs) (t.expr_and
    (t.number 3 (pos 2)) t.no_exprs)) (t.stat_and (t.assign 3 (t.expr_and (t.index 3 (t.name 3
    (codes "t")) (t.str 3 (codes "new"))) t.no_exprs) (t.expr_and (t.number 3 (pos 3)) t.no_exprs))
    (t.stat_and (t.call_stat 4 (t.call 4 (t.name 4 (codes "print")) (t.expr_and (t.index 4
    (t.name 4 (codes "t")) (t.str 4 (codes "old"))) (t.expr_and (t.index 4 (t.name 4 (codes "t"))
    (t.str 4 (codes "new"))) (t.expr_and (t.index 4 (t.name 4 (codes "log")) (t.str 4
    (codes "old"))) (t.expr_and (t.index 4 (t.name 4 (codes "log")) (t.str 4
    (codes "new"))) t.no_exprs)))))) t.no_stats)))))

-- `arithmetic_events`:
--     local m = {}
--     for _, e in ipairs({'add', 'sub', 'mul', 'div', 'mod', 'pow', 'concat'}) do m['__' .. e] = function(a, b) return e end end
--     m.__unm = function(a, b) return a == b end
--     local t = setmetatable({}, m)
--     print(t + 1, 1 - t, t * t, t / 1, t % 1, 2 ^ t, t .. 'x', -t)
abbrev pub arithmetic_events_program : Block
arithmetic_events_program =
    (t.stat_and (t.local 1 ((codes "m") ∷ []) (t.expr_and (t.table 1 t.no_fields) t.no_exprs))
    (t.stat_and (t.gen_for 2 ((codes "_") ∷ (codes "e") ∷ []) (t.expr_and (t.call 2 (t.name 2
    (codes "ipairs")) (t.expr_and (t.table 2 (t.item_and (t.str 2 (codes "add")) (t.item_and
    (t.str 2 (codes "sub")) (t.item_and (t.str 2 (codes "mul")) (t.item_and (t.str 2 (codes "div"))
    (t.item_and (t.str 2 (codes "mod")) (t.item_and (t.str 2 (codes "pow")) (t.item_and (t.str 2
    (codes "concat")) t.no_fields)))))))) t.no_exprs)) t.no_exprs) (t.stat_and (t.assign 2
    (t.expr_and (t.index 2 (t.name 2 (codes "m")) (t.binary 2 t.concat (t.str 2 (codes "__"))
    (t.name 2 (codes "e")))) t.no_exprs) (t.expr_and (t.function 2 (t.func 2 ((codes "a") ∷
    (codes "b") ∷ []) false (t.stat_and (t.return_stat 2 (t.expr_and (t.name 2
    (codes "e")) t.no_exprs)) t.no_stats))) t.no_exprs)) t.no_stats)) (t.stat_and (t.assign 3
    (t.expr_and (t.index 3 (t.name 3 (codes "m")) (t.str 3 (codes "__unm"))) t.no_exprs)
    (t.expr_and (t.function 3 (t.func 3 ((codes "a") ∷ (codes "b") ∷ []) false (t.stat_and
    (t.return_stat 3 (t.expr_and (t.binary 3 t.equal (t.name 3 (codes "a")) (t.name 3
    (codes "b"))) t.no_exprs)) t.no_stats))) t.no_exprs)) (t.stat_and (t.local 4 ((codes "t") ∷ [])
    (t.expr_and (t.call 4 (t.name 4 (codes "setmetatable")) (t.expr_and (t.table 4 t.no_fields)
    (t.expr_and (t.name 4 (codes "m")) t.no_exprs))) t.no_exprs)) (t.stat_and (t.call_stat 5
    (t.call 5 (t.name 5 (codes "print")) (t.expr_and (t.binary 5 t.add (t.name 5 (codes "t"))
    (t.number 5 (pos 1))) (t.expr_and (t.binary 5 t.sub (t.number 5 (pos 1)) (t.name 5
    (codes "t"))) (t.expr_and (t.binary 5 t.mul (t.name 5 (codes "t")) (t.name 5 (codes "t")))
    (t.expr_and (t.binary 5 t.div (t.name 5 (codes "t")) (t.number 5 (pos 1))) (t.expr_and
    (t.binary 5 t.mod_ (t.name 5 (codes "t")) (t.number 5 (pos 1))) (t.expr_and (t.binary 5 t.pow
    (t.number 5 (pos 2)) (t.name 5 (codes "t"))) (t.expr_and (t.binary 5 t.concat (t.name 5
    (codes "t")) (t.str 5 (codes "x"))) (t.expr_and (t.unary 5 t.negate (t.name 5
    (codes "t"))) t.no_exprs)))))))))) t.no_stats)))))

-- `first_operand`:
--     local a = setmetatable({}, {__add = function() return 'a' end})
--     local b = setmetatable({}, {__add = function() return 'b' end})
--     print(a + b, b + a, 1 + b)
abbrev pub first_operand_program : Block
first_operand_program =
    (t.stat_and (t.local 1 ((codes "a") ∷ []) (t.expr_and (t.call 1 (t.name 1
    (codes "setmetatable")) (t.expr_and (t.table 1 t.no_fields) (t.expr_and (t.table 1 (t.keyed_and
    (t.str 1 (codes "__add")) (t.function 1 (t.func 1 [] false (t.stat_and (t.return_stat 1
    (t.expr_and (t.str 1 (codes "a")) t.no_exprs)) t.no_stats))) t.no_fields)) t.no_exprs)))
    t.no_exprs)) (t.stat_and (t.local 2 ((codes "b") ∷ []) (t.expr_and (t.call 2 (t.name 2
    (codes "setmetatable")) (t.expr_and (t.table 2 t.no_fields) (t.expr_and (t.table 2 (t.keyed_and
    (t.str 2 (codes "__add")) (t.function 2 (t.func 2 [] false (t.stat_and (t.return_stat 2
    (t.expr_and (t.str 2 (codes "b")) t.no_exprs)) t.no_stats))) t.no_fields)) t.no_exprs)))
    t.no_exprs)) (t.stat_and (t.call_stat 3 (t.call 3 (t.name 3 (codes "print")) (t.expr_and
    (t.binary 3 t.add (t.name 3 (codes "a")) (t.name 3 (codes "b"))) (t.expr_and (t.binary 3 t.add
    (t.name 3 (codes "b")) (t.name 3 (codes "a"))) (t.expr_and (t.binary 3 t.add (t.number 3
    (pos 1)) (t.name 3 (codes "b"))) t.no_exprs))))) t.no_stats)))

-- `equality`:
--     local eq = function() return 1 end
--     local a, b = setmetatable({}, {__eq = eq}), setmetatable({}, {__eq = eq})
--     local c = setmetatable({}, {__eq = function() return true end})
--     print(a == b, a ~= b, a == c, a == 1, rawequal(a, b))
abbrev pub equality_program : Block
equality_program = (t.stat_and (t.local 1 ((codes "eq") ∷ []) (t.expr_and (t.function 1
    (t.func 1 [] false (t.stat_and (t.return_stat 1 (t.expr_and (t.number 1
    (pos 1)) t.no_exprs)) t.no_stats))) t.no_exprs)) (t.stat_and (t.local 2 ((codes "a") ∷
    (codes "b") ∷ []) (t.expr_and (t.call 2 (t.name 2 (codes "setmetatable")) (t.expr_and
    (t.table 2 t.no_fields) (t.expr_and (t.table 2 (t.keyed_and (t.str 2 (codes "__eq")) (t.name 2
    (codes "eq")) t.no_fields)) t.no_exprs))) (t.expr_and (t.call 2 (t.name 2
    (codes "setmetatable")) (t.expr_and (t.table 2 t.no_fields) (t.expr_and (t.table 2 (t.keyed_and
    (t.str 2 (codes "__eq")) (t.name 2 (codes "eq")) t.no_fields)) t.no_exprs))) t.no_exprs)))
    (t.stat_and (t.local 3 ((codes "c") ∷ []) (t.expr_and (t.call 3 (t.name 3
    (codes "setmetatable")) (t.expr_and (t.table 3 t.no_fields) (t.expr_and (t.table 3 (t.keyed_and
    (t.str 3 (codes "__eq")) (t.function 3 (t.func 3 [] false (t.stat_and (t.return_stat 3
    (t.expr_and (t.true_ 3) t.no_exprs)) t.no_stats))) t.no_fields)) t.no_exprs))) t.no_exprs))
    (t.stat_and (t.call_stat 4 (t.call 4 (t.name 4 (codes "print")) (t.expr_and (t.binary 4 t.equal
    (t.name 4 (codes "a")) (t.name 4 (codes "b"))) (t.expr_and (t.binary 4 t.not_equal (t.name 4
    (codes "a")) (t.name 4 (codes "b"))) (t.expr_and (t.binary 4 t.equal (t.name 4 (codes "a"))
    (t.name 4 (codes "c"))) (t.expr_and (t.binary 4 t.equal (t.name 4 (codes "a")) (t.number 4
    (pos 1))) (t.expr_and (t.call 4 (t.name 4 (codes "rawequal")) (t.expr_and (t.name 4
    (codes "a")) (t.expr_and (t.name 4 (codes "b")) t.no_exprs))) t.no_exprs))))))) t.no_stats))))

-- `order_events`:
--     local m = {__lt = function(a, b) return a.n < b.n end}
--     local a, b = setmetatable({n = 1}, m), setmetatable({n = 2}, m)
--     print(a < b, a > b, a <= b, a >= b)
abbrev pub order_events_program : Block
order_events_program =
    (t.stat_and (t.local 1 ((codes "m") ∷ []) (t.expr_and (t.table 1 (t.keyed_and (t.str 1
    (codes "__lt")) (t.function 1 (t.func 1 ((codes "a") ∷ (codes "b") ∷ []) false (t.stat_and
    (t.return_stat 1 (t.expr_and (t.binary 1 t.less (t.index 1 (t.name 1 (codes "a")) (t.str 1
    (codes "n"))) (t.index 1 (t.name 1 (codes "b")) (t.str 1
    (codes "n")))) t.no_exprs)) t.no_stats))) t.no_fields)) t.no_exprs)) (t.stat_and (t.local 2
    ((codes "a") ∷ (codes "b") ∷ []) (t.expr_and (t.call 2 (t.name 2 (codes "setmetatable"))
    (t.expr_and (t.table 2 (t.keyed_and (t.str 2 (codes "n")) (t.number 2 (pos 1)) t.no_fields))
    (t.expr_and (t.name 2 (codes "m")) t.no_exprs))) (t.expr_and (t.call 2 (t.name 2
    (codes "setmetatable")) (t.expr_and (t.table 2 (t.keyed_and (t.str 2 (codes "n")) (t.number 2
    (pos 2)) t.no_fields)) (t.expr_and (t.name 2 (codes "m")) t.no_exprs))) t.no_exprs)))
    (t.stat_and (t.call_stat 3 (t.call 3 (t.name 3 (codes "print")) (t.expr_and (t.binary 3 t.less
    (t.name 3 (codes "a")) (t.name 3 (codes "b"))) (t.expr_and (t.binary 3 t.greater (t.name 3
    (codes "a")) (t.name 3 (codes "b"))) (t.expr_and (t.binary 3 t.less_equal (t.name 3
    (codes "a")) (t.name 3 (codes "b"))) (t.expr_and (t.binary 3 t.greater_equal (t.name 3
    (codes "a")) (t.name 3 (codes "b"))) t.no_exprs)))))) t.no_stats)))

-- `le_event`:
--     local m = {__le = function(a, b) return 'yes' end, __lt = function() return nil end}
--     local a, b = setmetatable({}, m), setmetatable({}, m)
--     print(a <= b, a < b)
abbrev pub le_event_program : Block
le_event_program = (t.stat_and (t.local 1 ((codes "m") ∷ []) (t.expr_and (t.table 1 (t.keyed_and
    (t.str 1 (codes "__le")) (t.function 1 (t.func 1 ((codes "a") ∷ (codes "b") ∷ []) false
    (t.stat_and (t.return_stat 1 (t.expr_and (t.str 1 (codes "yes")) t.no_exprs)) t.no_stats)))
    (t.keyed_and (t.str 1 (codes "__lt")) (t.function 1 (t.func 1 [] false (t.stat_and
    (t.return_stat 1 (t.expr_and (t.nil 1) t.no_exprs)) t.no_stats))) t.no_fields))) t.no_exprs))
    (t.stat_and (t.local 2 ((codes "a") ∷ (codes "b") ∷ []) (t.expr_and (t.call 2 (t.name 2
    (codes "setmetatable")) (t.expr_and (t.table 2 t.no_fields) (t.expr_and (t.name 2
    (codes "m")) t.no_exprs))) (t.expr_and (t.call 2 (t.name 2 (codes "setmetatable")) (t.expr_and
    (t.table 2 t.no_fields) (t.expr_and (t.name 2 (codes "m")) t.no_exprs))) t.no_exprs)))
    (t.stat_and (t.call_stat 3 (t.call 3 (t.name 3 (codes "print")) (t.expr_and
    (t.binary 3 t.less_equal (t.name 3 (codes "a")) (t.name 3 (codes "b"))) (t.expr_and
    (t.binary 3 t.less (t.name 3 (codes "a")) (t.name 3 (codes "b"))) t.no_exprs)))) t.no_stats)))

-- `concat_middle`:
--     local t = setmetatable({}, {__concat = function(a, b) return (type(a) == 'table' and 'T' or a) .. '+' .. (type(b) == 'table' and 'T' or b) end})
--     print('a' .. t .. 'b' .. 'c')
abbrev pub concat_middle_program : Block
concat_middle_program =
    (t.stat_and (t.local 1 ((codes "t") ∷ []) (t.expr_and (t.call 1 (t.name 1
    (codes "setmetatable")) (t.expr_and (t.table 1 t.no_fields) (t.expr_and (t.table 1 (t.keyed_and
    (t.str 1 (codes "__concat")) (t.function 1 (t.func 1 ((codes "a") ∷ (codes "b") ∷ []) false
    (t.stat_and (t.return_stat 1 (t.expr_and (t.binary 1 t.concat (t.paren 1 (t.binary 1 t.or_
    (t.binary 1 t.and_ (t.binary 1 t.equal (t.call 1 (t.name 1 (codes "type")) (t.expr_and
    (t.name 1 (codes "a")) t.no_exprs)) (t.str 1 (codes "table"))) (t.str 1 (codes "T"))) (t.name 1
    (codes "a")))) (t.binary 1 t.concat (t.str 1 (codes "+")) (t.paren 1 (t.binary 1 t.or_
    (t.binary 1 t.and_ (t.binary 1 t.equal (t.call 1 (t.name 1 (codes "type")) (t.expr_and
    (t.name 1 (codes "b")) t.no_exprs)) (t.str 1 (codes "table"))) (t.str 1 (codes "T"))) (t.name 1
    (codes "b")))))) t.no_exprs)) t.no_stats))) t.no_fields)) t.no_exprs))) t.no_exprs))
    (t.stat_and (t.call_stat 2 (t.call 2 (t.name 2 (codes "print")) (t.expr_and
    (t.binary 2 t.concat (t.str 2 (codes "a")) (t.binary 2 t.concat (t.name 2 (codes "t"))
    (t.binary 2 t.concat (t.str 2 (codes "b")) (t.str 2 (codes "c"))))) t.no_exprs))) t.no_stats))

-- `tostring_event`:
--     local t = setmetatable({}, {__tostring = function() return 'me' end})
--     print(t, tostring(t), tostring({}) == 'table')
abbrev pub tostring_event_program : Block
tostring_event_program =
    (t.stat_and (t.local 1 ((codes "t") ∷ []) (t.expr_and (t.call 1 (t.name 1
    (codes "setmetatable")) (t.expr_and (t.table 1 t.no_fields) (t.expr_and (t.table 1 (t.keyed_and
    (t.str 1 (codes "__tostring")) (t.function 1 (t.func 1 [] false (t.stat_and (t.return_stat 1
    (t.expr_and (t.str 1 (codes "me")) t.no_exprs)) t.no_stats))) t.no_fields)) t.no_exprs)))
    t.no_exprs)) (t.stat_and (t.call_stat 2 (t.call 2 (t.name 2 (codes "print")) (t.expr_and
    (t.name 2 (codes "t")) (t.expr_and (t.call 2 (t.name 2 (codes "tostring")) (t.expr_and
    (t.name 2 (codes "t")) t.no_exprs)) (t.expr_and (t.binary 2 t.equal (t.call 2 (t.name 2
    (codes "tostring")) (t.expr_and (t.table 2 t.no_fields) t.no_exprs)) (t.str 2
    (codes "table"))) t.no_exprs))))) t.no_stats))

-- `tostring_bad`:
--     local t = setmetatable({}, {__tostring = function() return {} end})
--     print(pcall(print, 1, t))
--     print(type(tostring(t)))
abbrev pub tostring_bad_program : Block
tostring_bad_program =
    (t.stat_and (t.local 1 ((codes "t") ∷ []) (t.expr_and (t.call 1 (t.name 1
    (codes "setmetatable")) (t.expr_and (t.table 1 t.no_fields) (t.expr_and (t.table 1 (t.keyed_and
    (t.str 1 (codes "__tostring")) (t.function 1 (t.func 1 [] false (t.stat_and (t.return_stat 1
    (t.expr_and (t.table 1 t.no_fields) t.no_exprs)) t.no_stats))) t.no_fields)) t.no_exprs)))
    t.no_exprs)) (t.stat_and (t.call_stat 2 (t.call 2 (t.name 2 (codes "print")) (t.expr_and
    (t.call 2 (t.name 2 (codes "pcall")) (t.expr_and (t.name 2 (codes "print")) (t.expr_and
    (t.number 2 (pos 1)) (t.expr_and (t.name 2 (codes "t")) t.no_exprs)))) t.no_exprs)))
    (t.stat_and (t.call_stat 3 (t.call 3 (t.name 3 (codes "print")) (t.expr_and (t.call 3 (t.name 3
    (codes "type")) (t.expr_and (t.call 3 (t.name 3 (codes "tostring")) (t.expr_and (t.name 3
    (codes "t")) t.no_exprs)) t.no_exprs)) t.no_exprs))) t.no_stats)))

-- `protected`:
--     local t = setmetatable({}, {__metatable = 'no'})
--     print(getmetatable(t), pcall(setmetatable, t, {}))
abbrev pub protected_program : Block
protected_program = (t.stat_and (t.local 1 ((codes "t") ∷ []) (t.expr_and (t.call 1 (t.name 1
    (codes "setmetatable")) (t.expr_and (t.table 1 t.no_fields) (t.expr_and (t.table 1 (t.keyed_and
    (t.str 1 (codes "__metatable")) (t.str 1 (codes "no")) t.no_fields)) t.no_exprs))) t.no_exprs))
    (t.stat_and (t.call_stat 2 (t.call 2 (t.name 2 (codes "print")) (t.expr_and (t.call 2 (t.name 2
    (codes "getmetatable")) (t.expr_and (t.name 2 (codes "t")) t.no_exprs)) (t.expr_and (t.call 2
    (t.name 2 (codes "pcall")) (t.expr_and (t.name 2 (codes "setmetatable")) (t.expr_and (t.name 2
    (codes "t")) (t.expr_and (t.table 2 t.no_fields) t.no_exprs)))) t.no_exprs)))) t.no_stats))

-- `text_methods`:
--     local s = 'abc'
--     print(s:len(), s:upper(), ('x'):rep(3), #s, s.nothing, getmetatable('').__index == string)
abbrev pub text_methods_program : Block
text_methods_program =
    (t.stat_and (t.local 1 ((codes "s") ∷ []) (t.expr_and (t.str 1 (codes "abc")) t.no_exprs))
    (t.stat_and (t.call_stat 2 (t.call 2 (t.name 2 (codes "print")) (t.expr_and (t.method 2
    (t.name 2 (codes "s")) (codes "len") t.no_exprs) (t.expr_and (t.method 2 (t.name 2 (codes "s"))
    (codes "upper") t.no_exprs) (t.expr_and (t.method 2 (t.paren 2 (t.str 2 (codes "x")))
    (codes "rep") (t.expr_and (t.number 2 (pos 3)) t.no_exprs)) (t.expr_and (t.unary 2 t.length_of
    (t.name 2 (codes "s"))) (t.expr_and (t.index 2 (t.name 2 (codes "s")) (t.str 2
    (codes "nothing"))) (t.expr_and (t.binary 2 t.equal (t.index 2 (t.call 2 (t.name 2
    (codes "getmetatable")) (t.expr_and (t.str 2 (codes "")) t.no_exprs)) (t.str 2
    (codes "__index"))) (t.name 2 (codes "string"))) t.no_exprs)))))))) t.no_stats))

-- `call_chain`:
--     local f = setmetatable({}, {__call = setmetatable({}, {__call = function() return 1 end})})
--     print(pcall(f))
abbrev pub call_chain_program : Block
call_chain_program = (t.stat_and (t.local 1 ((codes "f") ∷ []) (t.expr_and (t.call 1 (t.name 1
    (codes "setmetatable")) (t.expr_and (t.table 1 t.no_fields) (t.expr_and (t.table 1 (t.keyed_and
    (t.str 1 (codes "__call")) (t.call 1 (t.name 1 (codes "setmetatable")) (t.expr_and
    (t.table 1 t.no_fields) (t.expr_and (t.table 1 (t.keyed_and (t.str 1 (codes "__call"))
    (t.function 1 (t.func 1 [] false (t.stat_and (t.return_stat 1 (t.expr_and (t.number 1
    (pos 1)) t.no_exprs)) t.no_stats))) t.no_fields)) t.no_exprs))) t.no_fields)) t.no_exprs)))
    t.no_exprs)) (t.stat_and (t.call_stat 2 (t.call 2 (t.name 2 (codes "print")) (t.expr_and
    (t.call 2 (t.name 2 (codes "pcall")) (t.expr_and (t.name 2
    (codes "f")) t.no_exprs)) t.no_exprs))) t.no_stats))

-- `handler_called`:
--     local h = setmetatable({}, {__call = function(self, a, b) return b end})
--     local t = setmetatable({}, {__add = h})
--     print(t + 7)
abbrev pub handler_called_program : Block
handler_called_program =
    (t.stat_and (t.local 1 ((codes "h") ∷ []) (t.expr_and (t.call 1 (t.name 1
    (codes "setmetatable")) (t.expr_and (t.table 1 t.no_fields) (t.expr_and (t.table 1 (t.keyed_and
    (t.str 1 (codes "__call")) (t.function 1 (t.func 1 ((codes "self") ∷ (codes "a") ∷
    (codes "b") ∷ []) false (t.stat_and (t.return_stat 1 (t.expr_and (t.name 1
    (codes "b")) t.no_exprs)) t.no_stats))) t.no_fields)) t.no_exprs))) t.no_exprs)) (t.stat_and
    (t.local 2 ((codes "t") ∷ []) (t.expr_and (t.call 2 (t.name 2 (codes "setmetatable"))
    (t.expr_and (t.table 2 t.no_fields) (t.expr_and (t.table 2 (t.keyed_and (t.str 2
    (codes "__add")) (t.name 2 (codes "h")) t.no_fields)) t.no_exprs))) t.no_exprs)) (t.stat_and
    (t.call_stat 3 (t.call 3 (t.name 3 (codes "print")) (t.expr_and (t.binary 3 t.add (t.name 3
    (codes "t")) (t.number 3 (pos 7))) t.no_exprs))) t.no_stats)))

-- `raw`:
--     local t = setmetatable({}, {__index = function() return 1 end, __newindex = function() end})
--     rawset(t, 'a', 2)
--     t.b = 3
--     print(rawget(t, 'a'), rawget(t, 'b'), t.b)
abbrev pub raw_program : Block
raw_program = (t.stat_and (t.local 1 ((codes "t") ∷ []) (t.expr_and (t.call 1 (t.name 1
    (codes "setmetatable")) (t.expr_and (t.table 1 t.no_fields) (t.expr_and (t.table 1 (t.keyed_and
    (t.str 1 (codes "__index")) (t.function 1 (t.func 1 [] false (t.stat_and (t.return_stat 1
    (t.expr_and (t.number 1 (pos 1)) t.no_exprs)) t.no_stats))) (t.keyed_and (t.str 1
    (codes "__newindex")) (t.function 1 (t.func 1 [] false t.no_stats)) t.no_fields)))
    t.no_exprs))) t.no_exprs)) (t.stat_and (t.call_stat 2 (t.call 2 (t.name 2 (codes "rawset"))
    (t.expr_and (t.name 2 (codes "t")) (t.expr_and (t.str 2 (codes "a")) (t.expr_and (t.number 2
    (pos 2)) t.no_exprs))))) (t.stat_and (t.assign 3 (t.expr_and (t.index 3 (t.name 3 (codes "t"))
    (t.str 3 (codes "b"))) t.no_exprs) (t.expr_and (t.number 3 (pos 3)) t.no_exprs)) (t.stat_and
    (t.call_stat 4 (t.call 4 (t.name 4 (codes "print")) (t.expr_and (t.call 4 (t.name 4
    (codes "rawget")) (t.expr_and (t.name 4 (codes "t")) (t.expr_and (t.str 4
    (codes "a")) t.no_exprs))) (t.expr_and (t.call 4 (t.name 4 (codes "rawget")) (t.expr_and
    (t.name 4 (codes "t")) (t.expr_and (t.str 4 (codes "b")) t.no_exprs))) (t.expr_and (t.index 4
    (t.name 4 (codes "t")) (t.str 4 (codes "b"))) t.no_exprs))))) t.no_stats))))

-- `length_ignored`:
--     print(#setmetatable({1, 2}, {__len = function() return 9 end}))
abbrev pub length_ignored_program : Block
length_ignored_program =
    (t.stat_and (t.call_stat 1 (t.call 1 (t.name 1 (codes "print")) (t.expr_and
    (t.unary 1 t.length_of (t.call 1 (t.name 1 (codes "setmetatable")) (t.expr_and (t.table 1
    (t.item_and (t.number 1 (pos 1)) (t.item_and (t.number 1 (pos 2)) t.no_fields))) (t.expr_and
    (t.table 1 (t.keyed_and (t.str 1 (codes "__len")) (t.function 1 (t.func 1 [] false (t.stat_and
    (t.return_stat 1 (t.expr_and (t.number 1 (pos 9)) t.no_exprs)) t.no_stats))) t.no_fields))
    t.no_exprs)))) t.no_exprs))) t.no_stats)

-- ---- what they come to

abbrev pub IndexCall : Type 0
IndexCall = Comes {A =
    List ℕ × End} (λ r. (r.output, r.end)) (record {
      game = record {
        files =
            ([]);
        state = 0;
      };
      file = codes "a.lua";
      code = ready index_call_program;
      args =
          ([]);
      ticks = 1000;
      replies = ([]);
    }) ((codes "x!\t5\n"), done None)

abbrev pub Chain : Type 0
Chain = Comes {A = List ℕ × End} (λ r. (r.output, r.end)) (record {
  game =
      record { files = ([]); state = 0 };
  file = codes "a.lua";
  code = ready chain_program;
  args =
      ([]);
  ticks = 1000;
  replies = ([]);
}) ((codes "1\t2\tnil\n"), done None)

abbrev pub IndexLoop : Type 0
IndexLoop = Comes {A =
    List ℕ × End} (λ r. (r.output, r.end)) (record {
      game = record {
        files =
            ([]);
        state = 0;
      };
      file = codes "a.lua";
      code = ready index_loop_program;
      args =
          ([]);
      ticks = 1000;
      replies = ([]);
    }) ((codes "false\ta.lua:3: index loop\n"), done None)

abbrev pub NewindexTable : Type 0
NewindexTable = Comes {A =
    List ℕ × End} (λ r. (r.output, r.end)) (record {
      game = record {
        files =
            ([]);
        state = 0;
      };
      file = codes "a.lua";
      code = ready newindex_table_program;
      args =
          ([]);
      ticks = 1000;
      replies = ([]);
    }) ((codes "2\tnil\tnil\t3\n"), done None)

abbrev pub ArithmeticEvents : Type 0
ArithmeticEvents = Comes {A =
    List ℕ × End} (λ r. (r.output, r.end)) (record {
      game = record {
        files =
            ([]);
        state = 0;
      };
      file = codes "a.lua";
      code = ready arithmetic_events_program;
      args =
          ([]);
      ticks = 1000;
      replies = ([]);
    }) (
      (codes "add\tsub\tmul\tdiv\tmod\tpow\tconcat\ttrue\n"),
      done None,
    )

abbrev pub FirstOperand : Type 0
FirstOperand = Comes {A =
    List ℕ × End} (λ r. (r.output, r.end)) (record {
      game = record {
        files =
            ([]);
        state = 0;
      };
      file = codes "a.lua";
      code = ready first_operand_program;
      args =
          ([]);
      ticks = 1000;
      replies = ([]);
    }) ((codes "a\tb\tb\n"), done None)

abbrev pub Equality : Type 0
Equality = Comes {A =
    List ℕ × End} (λ r. (r.output, r.end)) (record {
      game = record {
        files =
            ([]);
        state = 0;
      };
      file = codes "a.lua";
      code = ready equality_program;
      args =
          ([]);
      ticks = 1000;
      replies = ([]);
    }) ((codes "true\tfalse\tfalse\tfalse\tfalse\n"), done None)

abbrev pub OrderEvents : Type 0
OrderEvents = Comes {A =
    List ℕ × End} (λ r. (r.output, r.end)) (record {
      game = record {
        files =
            ([]);
        state = 0;
      };
      file = codes "a.lua";
      code = ready order_events_program;
      args =
          ([]);
      ticks = 1000;
      replies = ([]);
    }) ((codes "true\tfalse\ttrue\tfalse\n"), done None)

abbrev pub LeEvent : Type 0
LeEvent = Comes {A = List ℕ × End} (λ r. (r.output, r.end)) (record {
  game =
      record { files = ([]); state = 0 };
  file = codes "a.lua";
  code = ready le_event_program;
  args =
      ([]);
  ticks = 1000;
  replies = ([]);
}) ((codes "true\tfalse\n"), done None)

abbrev pub ConcatMiddle : Type 0
ConcatMiddle = Comes {A =
    List ℕ × End} (λ r. (r.output, r.end)) (record {
      game = record {
        files =
            ([]);
        state = 0;
      };
      file = codes "a.lua";
      code = ready concat_middle_program;
      args =
          ([]);
      ticks = 1000;
      replies = ([]);
    }) ((codes "aT+bc\n"), done None)

abbrev pub TostringEvent : Type 0
TostringEvent = Comes {A =
    List ℕ × End} (λ r. (r.output, r.end)) (record {
      game = record {
        files =
            ([]);
        state = 0;
      };
      file = codes "a.lua";
      code = ready tostring_event_program;
      args =
          ([]);
      ticks = 1000;
      replies = ([]);
    }) ((codes "me\tme\ttrue\n"), done None)

abbrev pub TostringBad : Type 0
TostringBad = Comes {A =
    List ℕ × End} (λ r. (r.output, r.end)) (record {
      game = record {
        files =
            ([]);
        state = 0;
      };
      file = codes "a.lua";
      code = ready tostring_bad_program;
      args =
          ([]);
      ticks = 1000;
      replies = ([]);
    }) (
      (codes
          "false\t'tostring' must return a string to 'print'\ntable\n"),
      done None,
    )

abbrev pub Protected : Type 0
Protected = Comes {A =
    List ℕ × End} (λ r. (r.output, r.end)) (record {
      game = record {
        files =
            ([]);
        state = 0;
      };
      file = codes "a.lua";
      code = ready protected_program;
      args =
          ([]);
      ticks = 1000;
      replies = ([]);
    }) (
      (codes
          "no\tfalse\tcannot change a protected metatable\n"),
      done None,
    )

abbrev pub TextMethods : Type 0
TextMethods = Comes {A =
    List ℕ × End} (λ r. (r.output, r.end)) (record {
      game = record {
        files =
            ([]);
        state = 0;
      };
      file = codes "a.lua";
      code = ready text_methods_program;
      args =
          ([]);
      ticks = 1000;
      replies = ([]);
    }) ((codes "3\tABC\txxx\t3\tnil\ttrue\n"), done None)

abbrev pub CallChain : Type 0
CallChain = Comes {A =
    List ℕ × End} (λ r. (r.output, r.end)) (record {
      game = record {
        files =
            ([]);
        state = 0;
      };
      file = codes "a.lua";
      code = ready call_chain_program;
      args =
          ([]);
      ticks = 1000;
      replies = ([]);
    }) (
      (codes "false\tattempt to call a table value\n"),
      done
          None,
    )

abbrev pub HandlerCalled : Type 0
HandlerCalled = Comes {A =
    List ℕ × End} (λ r. (r.output, r.end)) (record {
      game = record {
        files =
            ([]);
        state = 0;
      };
      file = codes "a.lua";
      code = ready handler_called_program;
      args =
          ([]);
      ticks = 1000;
      replies = ([]);
    }) ((codes "7\n"), done None)

abbrev pub Raw : Type 0
Raw = Comes {A = List ℕ × End} (λ r. (r.output, r.end)) (record {
  game =
      record { files = ([]); state = 0 };
  file = codes "a.lua";
  code = ready raw_program;
  args =
      ([]);
  ticks = 1000;
  replies = ([]);
}) ((codes "2\tnil\t1\n"), done None)

abbrev pub LengthIgnored : Type 0
LengthIgnored = Comes {A =
    List ℕ × End} (λ r. (r.output, r.end)) (record {
      game = record {
        files =
            ([]);
        state = 0;
      };
      file = codes "a.lua";
      code = ready length_ignored_program;
      args =
          ([]);
      ticks = 1000;
      replies = ([]);
    }) ((codes "2\n"), done None)

-- all of them
pub record Rows : Type 0 where
  pub index_call : IndexCall
  pub chain : Chain
  pub index_loop : IndexLoop
  pub newindex_table : NewindexTable
  pub arithmetic_events : ArithmeticEvents
  pub first_operand : FirstOperand
  pub equality : Equality
  pub order_events : OrderEvents
  pub le_event : LeEvent
  pub concat_middle : ConcatMiddle
  pub tostring_event : TostringEvent
  pub tostring_bad : TostringBad
  pub protected : Protected
  pub text_methods : TextMethods
  pub call_chain : CallChain
  pub handler_called : HandlerCalled
  pub raw : Raw
  pub length_ignored : LengthIgnored
