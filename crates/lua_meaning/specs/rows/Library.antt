-- Rows: functions of the library (manual §5). Written by checks/meaning-rows/write.py.
use Rattle.std.specs.Prelude.{ℕ, pos, List, [], ◌∷◌, None, codes}
use Rattle.lua_tree.specs.Tree as t
use Rattle.lua_tree.specs.Tree.{Block}
use Rattle.lua_meaning.specs.Control.{ready}
use Rattle.lua_meaning.specs.Run.{End, done}
use Rattle.lua_meaning.specs.rows.Comes.{Comes}

-- ---- programs

-- `format`:
--     print(string.format('%05d/%-4s/%x', -42, 'ab', 255))
abbrev pub format_program : Block
format_program = (t.stat_and (t.call_stat 1 (t.call 1 (t.name 1 (codes "print")) (t.expr_and
    (t.call 1 (t.index 1 (t.name 1 (codes "string")) (t.str 1 (codes "format"))) (t.expr_and
    (t.str 1 (codes "%05d/%-4s/%x")) (t.expr_and (t.unary 1 t.negate (t.number 1 (pos 42)))
    (t.expr_and (t.str 1 (codes "ab")) (t.expr_and (t.number 1
    (pos 255)) t.no_exprs))))) t.no_exprs))) t.no_stats)

-- `format_more`:
--     print(string.format('%3d|%-3d|%03d|%X|%c%%|%5s|%s', 7, 7, 7, 255, 65, 'x', 12))
abbrev pub format_more_program : Block
format_more_program =
    (t.stat_and (t.call_stat 1 (t.call 1 (t.name 1 (codes "print")) (t.expr_and (t.call 1
    (t.index 1 (t.name 1 (codes "string")) (t.str 1 (codes "format"))) (t.expr_and (t.str 1
    (codes "%3d|%-3d|%03d|%X|%c%%|%5s|%s")) (t.expr_and (t.number 1 (pos 7)) (t.expr_and
    (t.number 1 (pos 7)) (t.expr_and (t.number 1 (pos 7)) (t.expr_and (t.number 1 (pos 255))
    (t.expr_and (t.number 1 (pos 65)) (t.expr_and (t.str 1 (codes "x")) (t.expr_and (t.number 1
    (pos 12)) t.no_exprs))))))))) t.no_exprs))) t.no_stats)

-- `format_faults`:
--     print(pcall(string.format, '%q', 1))
--     print(pcall(string.format, '%d', 'x'))
--     print(pcall(string.format, '%x', -1))
--     print(pcall(string.format, '%c', 256))
--     print(pcall(string.format, '%'))
abbrev pub format_faults_program : Block
format_faults_program =
    (t.stat_and (t.call_stat 1 (t.call 1 (t.name 1 (codes "print")) (t.expr_and (t.call 1 (t.name 1
    (codes "pcall")) (t.expr_and (t.index 1 (t.name 1 (codes "string")) (t.str 1 (codes "format")))
    (t.expr_and (t.str 1 (codes "%q")) (t.expr_and (t.number 1
    (pos 1)) t.no_exprs)))) t.no_exprs))) (t.stat_and (t.call_stat 2 (t.call 2 (t.name 2
    (codes "print")) (t.expr_and (t.call 2 (t.name 2 (codes "pcall")) (t.expr_and (t.index 2
    (t.name 2 (codes "string")) (t.str 2 (codes "format"))) (t.expr_and (t.str 2 (codes "%d"))
    (t.expr_and (t.str 2 (codes "x")) t.no_exprs)))) t.no_exprs))) (t.stat_and (t.call_stat 3
    (t.call 3 (t.name 3 (codes "print")) (t.expr_and (t.call 3 (t.name 3 (codes "pcall"))
    (t.expr_and (t.index 3 (t.name 3 (codes "string")) (t.str 3 (codes "format"))) (t.expr_and
    (t.str 3 (codes "%x")) (t.expr_and (t.unary 3 t.negate (t.number 3
    (pos 1))) t.no_exprs)))) t.no_exprs))) (t.stat_and (t.call_stat 4 (t.call 4 (t.name 4
    (codes "print")) (t.expr_and (t.call 4 (t.name 4 (codes "pcall")) (t.expr_and (t.index 4
    (t.name 4 (codes "string")) (t.str 4 (codes "format"))) (t.expr_and (t.str 4 (codes "%c"))
    (t.expr_and (t.number 4 (pos 256)) t.no_exprs)))) t.no_exprs))) (t.stat_and (t.call_stat 5
    (t.call 5 (t.name 5 (codes "print")) (t.expr_and (t.call 5 (t.name 5 (codes "pcall"))
    (t.expr_and (t.index 5 (t.name 5 (codes "string")) (t.str 5 (codes "format"))) (t.expr_and
    (t.str 5 (codes "%")) t.no_exprs))) t.no_exprs))) t.no_stats)))))

-- `numbers`:
--     print(tonumber('zz', 36), select(-1, 1, 2), math.fmod(-7, 3))
abbrev pub numbers_program : Block
numbers_program = (t.stat_and (t.call_stat 1 (t.call 1 (t.name 1 (codes "print")) (t.expr_and
    (t.call 1 (t.name 1 (codes "tonumber")) (t.expr_and (t.str 1 (codes "zz")) (t.expr_and
    (t.number 1 (pos 36)) t.no_exprs))) (t.expr_and (t.call 1 (t.name 1 (codes "select"))
    (t.expr_and (t.unary 1 t.negate (t.number 1 (pos 1))) (t.expr_and (t.number 1 (pos 1))
    (t.expr_and (t.number 1 (pos 2)) t.no_exprs)))) (t.expr_and (t.call 1 (t.index 1 (t.name 1
    (codes "math")) (t.str 1 (codes "fmod"))) (t.expr_and (t.unary 1 t.negate (t.number 1 (pos 7)))
    (t.expr_and (t.number 1 (pos 3)) t.no_exprs))) t.no_exprs))))) t.no_stats)

-- `tonumber_more`:
--     print(tonumber(' 0x10 '), tonumber('1e2'), tonumber('x'), tonumber(nil), tonumber('11', 2), tonumber('8', 8), tonumber(' ff ', 16))
abbrev pub tonumber_more_program : Block
tonumber_more_program =
    (t.stat_and (t.call_stat 1 (t.call 1 (t.name 1 (codes "print")) (t.expr_and (t.call 1 (t.name 1
    (codes "tonumber")) (t.expr_and (t.str 1 (codes " 0x10 ")) t.no_exprs)) (t.expr_and (t.call 1
    (t.name 1 (codes "tonumber")) (t.expr_and (t.str 1 (codes "1e2")) t.no_exprs)) (t.expr_and
    (t.call 1 (t.name 1 (codes "tonumber")) (t.expr_and (t.str 1 (codes "x")) t.no_exprs))
    (t.expr_and (t.call 1 (t.name 1 (codes "tonumber")) (t.expr_and (t.nil 1) t.no_exprs))
    (t.expr_and (t.call 1 (t.name 1 (codes "tonumber")) (t.expr_and (t.str 1 (codes "11"))
    (t.expr_and (t.number 1 (pos 2)) t.no_exprs))) (t.expr_and (t.call 1 (t.name 1
    (codes "tonumber")) (t.expr_and (t.str 1 (codes "8")) (t.expr_and (t.number 1
    (pos 8)) t.no_exprs))) (t.expr_and (t.call 1 (t.name 1 (codes "tonumber")) (t.expr_and (t.str 1
    (codes " ff ")) (t.expr_and (t.number 1 (pos 16)) t.no_exprs))) t.no_exprs))))))))) t.no_stats)

-- `sorted`:
--     local t = {3, 1, 2}
--     table.sort(t)
--     print(table.concat(t, ','), ('x'):rep(3))
abbrev pub sorted_program : Block
sorted_program = (t.stat_and (t.local 1 ((codes "t") ∷ []) (t.expr_and (t.table 1 (t.item_and
    (t.number 1 (pos 3)) (t.item_and (t.number 1 (pos 1)) (t.item_and (t.number 1
    (pos 2)) t.no_fields)))) t.no_exprs)) (t.stat_and (t.call_stat 2 (t.call 2 (t.index 2 (t.name 2
    (codes "table")) (t.str 2 (codes "sort"))) (t.expr_and (t.name 2 (codes "t")) t.no_exprs)))
    (t.stat_and (t.call_stat 3 (t.call 3 (t.name 3 (codes "print")) (t.expr_and (t.call 3
    (t.index 3 (t.name 3 (codes "table")) (t.str 3 (codes "concat"))) (t.expr_and (t.name 3
    (codes "t")) (t.expr_and (t.str 3 (codes ",")) t.no_exprs))) (t.expr_and (t.method 3 (t.paren 3
    (t.str 3 (codes "x"))) (codes "rep") (t.expr_and (t.number 3
    (pos 3)) t.no_exprs)) t.no_exprs)))) t.no_stats)))

-- `sort_texts`:
--     local t = {'b', 'a', 'ab', ''}
--     table.sort(t)
--     print(table.concat(t, ','))
--     print(pcall(table.sort, {1, 'a'}))
--     print(pcall(table.sort, {true}))
--     print(pcall(table.sort, {}, print))
abbrev pub sort_texts_program : Block
sort_texts_program = (t.stat_and (t.local 1 ((codes "t") ∷ []) (t.expr_and (t.table 1 (t.item_and
    (t.str 1 (codes "b")) (t.item_and (t.str 1 (codes "a")) (t.item_and (t.str 1 (codes "ab"))
    (t.item_and (t.str 1 (codes "")) t.no_fields))))) t.no_exprs)) (t.stat_and (t.call_stat 2
    (t.call 2 (t.index 2 (t.name 2 (codes "table")) (t.str 2 (codes "sort"))) (t.expr_and (t.name 2
    (codes "t")) t.no_exprs))) (t.stat_and (t.call_stat 3 (t.call 3 (t.name 3 (codes "print"))
    (t.expr_and (t.call 3 (t.index 3 (t.name 3 (codes "table")) (t.str 3 (codes "concat")))
    (t.expr_and (t.name 3 (codes "t")) (t.expr_and (t.str 3
    (codes ",")) t.no_exprs))) t.no_exprs))) (t.stat_and (t.call_stat 4 (t.call 4 (t.name 4
    (codes "print")) (t.expr_and (t.call 4 (t.name 4 (codes "pcall")) (t.expr_and (t.index 4
    (t.name 4 (codes "table")) (t.str 4 (codes "sort"))) (t.expr_and (t.table 4 (t.item_and
    (t.number 4 (pos 1)) (t.item_and (t.str 4 (codes "a")) t.no_fields))) t.no_exprs)))
    t.no_exprs))) (t.stat_and (t.call_stat 5 (t.call 5 (t.name 5 (codes "print")) (t.expr_and
    (t.call 5 (t.name 5 (codes "pcall")) (t.expr_and (t.index 5 (t.name 5 (codes "table")) (t.str 5
    (codes "sort"))) (t.expr_and (t.table 5 (t.item_and
    (t.true_ 5) t.no_fields)) t.no_exprs))) t.no_exprs))) (t.stat_and (t.call_stat 6 (t.call 6
    (t.name 6 (codes "print")) (t.expr_and (t.call 6 (t.name 6 (codes "pcall")) (t.expr_and
    (t.index 6 (t.name 6 (codes "table")) (t.str 6 (codes "sort"))) (t.expr_and
    (t.table 6 t.no_fields) (t.expr_and (t.name 6 (codes "print")) t.no_exprs)))) t.no_exprs)))
    t.no_stats))))))

-- `no_patterns`:
--     print(pcall(string.find, 'a', '%a'))
--     print(string.find('a+b', '+', 1, true))
abbrev pub no_patterns_program : Block
no_patterns_program =
    (t.stat_and (t.call_stat 1 (t.call 1 (t.name 1 (codes "print")) (t.expr_and (t.call 1 (t.name 1
    (codes "pcall")) (t.expr_and (t.index 1 (t.name 1 (codes "string")) (t.str 1 (codes "find")))
    (t.expr_and (t.str 1 (codes "a")) (t.expr_and (t.str 1
    (codes "%a")) t.no_exprs)))) t.no_exprs))) (t.stat_and (t.call_stat 2 (t.call 2 (t.name 2
    (codes "print")) (t.expr_and (t.call 2 (t.index 2 (t.name 2 (codes "string")) (t.str 2
    (codes "find"))) (t.expr_and (t.str 2 (codes "a+b")) (t.expr_and (t.str 2 (codes "+"))
    (t.expr_and (t.number 2 (pos 1)) (t.expr_and (t.true_ 2) t.no_exprs))))) t.no_exprs)))
    t.no_stats))

-- `found`:
--     print(('hello'):find('l'), ('hello'):find('xyz'), ('hello'):find('', 10), ('hello'):find('l', -2))
abbrev pub found_program : Block
found_program = (t.stat_and (t.call_stat 1 (t.call 1 (t.name 1 (codes "print")) (t.expr_and
    (t.method 1 (t.paren 1 (t.str 1 (codes "hello"))) (codes "find") (t.expr_and (t.str 1
    (codes "l")) t.no_exprs)) (t.expr_and (t.method 1 (t.paren 1 (t.str 1 (codes "hello")))
    (codes "find") (t.expr_and (t.str 1 (codes "xyz")) t.no_exprs)) (t.expr_and (t.method 1
    (t.paren 1 (t.str 1 (codes "hello"))) (codes "find") (t.expr_and (t.str 1 (codes ""))
    (t.expr_and (t.number 1 (pos 10)) t.no_exprs))) (t.expr_and (t.method 1 (t.paren 1 (t.str 1
    (codes "hello"))) (codes "find") (t.expr_and (t.str 1 (codes "l")) (t.expr_and
    (t.unary 1 t.negate (t.number 1 (pos 2))) t.no_exprs))) t.no_exprs)))))) t.no_stats)

-- `subs`:
--     local s = 'hello'
--     print(s:sub(2, 3), s:sub(-3), s:sub(2, -2), s:sub(4, 2), s:sub(-100, 100), s:byte(), s:byte(-1), s:byte(10))
abbrev pub subs_program : Block
subs_program = (t.stat_and (t.local 1 ((codes "s") ∷ []) (t.expr_and (t.str 1
    (codes "hello")) t.no_exprs)) (t.stat_and (t.call_stat 2 (t.call 2 (t.name 2 (codes "print"))
    (t.expr_and (t.method 2 (t.name 2 (codes "s")) (codes "sub") (t.expr_and (t.number 2 (pos 2))
    (t.expr_and (t.number 2 (pos 3)) t.no_exprs))) (t.expr_and (t.method 2 (t.name 2 (codes "s"))
    (codes "sub") (t.expr_and (t.unary 2 t.negate (t.number 2 (pos 3))) t.no_exprs)) (t.expr_and
    (t.method 2 (t.name 2 (codes "s")) (codes "sub") (t.expr_and (t.number 2 (pos 2)) (t.expr_and
    (t.unary 2 t.negate (t.number 2 (pos 2))) t.no_exprs))) (t.expr_and (t.method 2 (t.name 2
    (codes "s")) (codes "sub") (t.expr_and (t.number 2 (pos 4)) (t.expr_and (t.number 2
    (pos 2)) t.no_exprs))) (t.expr_and (t.method 2 (t.name 2 (codes "s")) (codes "sub") (t.expr_and
    (t.unary 2 t.negate (t.number 2 (pos 100))) (t.expr_and (t.number 2 (pos 100)) t.no_exprs)))
    (t.expr_and (t.method 2 (t.name 2 (codes "s")) (codes "byte") t.no_exprs) (t.expr_and
    (t.method 2 (t.name 2 (codes "s")) (codes "byte") (t.expr_and (t.unary 2 t.negate (t.number 2
    (pos 1))) t.no_exprs)) (t.expr_and (t.method 2 (t.name 2 (codes "s")) (codes "byte")
    (t.expr_and (t.number 2 (pos 10)) t.no_exprs)) t.no_exprs)))))))))) t.no_stats))

-- `bytes`:
--     print(string.char(72, 105), ('abc'):byte(1, -1))
--     print(pcall(string.char, 256))
--     print(('aBc'):upper(), ('aBc'):lower(), ('abc'):reverse(), ('ab'):rep(0) == '')
abbrev pub bytes_program : Block
bytes_program = (t.stat_and (t.call_stat 1 (t.call 1 (t.name 1 (codes "print")) (t.expr_and
    (t.call 1 (t.index 1 (t.name 1 (codes "string")) (t.str 1 (codes "char"))) (t.expr_and
    (t.number 1 (pos 72)) (t.expr_and (t.number 1 (pos 105)) t.no_exprs))) (t.expr_and (t.method 1
    (t.paren 1 (t.str 1 (codes "abc"))) (codes "byte") (t.expr_and (t.number 1 (pos 1)) (t.expr_and
    (t.unary 1 t.negate (t.number 1 (pos 1))) t.no_exprs))) t.no_exprs)))) (t.stat_and
    (t.call_stat 2 (t.call 2 (t.name 2 (codes "print")) (t.expr_and (t.call 2 (t.name 2
    (codes "pcall")) (t.expr_and (t.index 2 (t.name 2 (codes "string")) (t.str 2 (codes "char")))
    (t.expr_and (t.number 2 (pos 256)) t.no_exprs))) t.no_exprs))) (t.stat_and (t.call_stat 3
    (t.call 3 (t.name 3 (codes "print")) (t.expr_and (t.method 3 (t.paren 3 (t.str 3
    (codes "aBc"))) (codes "upper") t.no_exprs) (t.expr_and (t.method 3 (t.paren 3 (t.str 3
    (codes "aBc"))) (codes "lower") t.no_exprs) (t.expr_and (t.method 3 (t.paren 3 (t.str 3
    (codes "abc"))) (codes "reverse") t.no_exprs) (t.expr_and (t.binary 3 t.equal (t.method 3
    (t.paren 3 (t.str 3 (codes "ab"))) (codes "rep") (t.expr_and (t.number 3 (pos 0)) t.no_exprs))
    (t.str 3 (codes ""))) t.no_exprs)))))) t.no_stats)))

-- `insertions`:
--     local t = {1, 2, 3}
--     table.insert(t, 4) table.insert(t, 1, 0) table.insert(t, 9, 'far')
--     print(#t, table.concat(t, ' '), t[9])
--     print(pcall(table.insert, t, 0, 'x'))
abbrev pub insertions_program : Block
insertions_program = (t.stat_and (t.local 1 ((codes "t") ∷ []) (t.expr_and (t.table 1 (t.item_and
    (t.number 1 (pos 1)) (t.item_and (t.number 1 (pos 2)) (t.item_and (t.number 1
    (pos 3)) t.no_fields)))) t.no_exprs)) (t.stat_and (t.call_stat 2 (t.call 2 (t.index 2 (t.name 2
    (codes "table")) (t.str 2 (codes "insert"))) (t.expr_and (t.name 2 (codes "t")) (t.expr_and
    (t.number 2 (pos 4)) t.no_exprs)))) (t.stat_and (t.call_stat 2 (t.call 2 (t.index 2 (t.name 2
    (codes "table")) (t.str 2 (codes "insert"))) (t.expr_and (t.name 2 (codes "t")) (t.expr_and
    (t.number 2 (pos 1)) (t.expr_and (t.number 2 (pos 0)) t.no_exprs))))) (t.stat_and
    (t.call_stat 2 (t.call 2 (t.index 2 (t.name 2 (codes "table")) (t.str 2 (codes "insert")))
    (t.expr_and (t.name 2 (codes "t")) (t.expr_and (t.number 2 (pos 9)) (t.expr_and (t.str 2
    (codes "far")) t.no_exprs))))) (t.stat_and (t.call_stat 3 (t.call 3 (t.name 3 (codes "print"))
    (t.expr_and (t.unary 3 t.length_of (t.name 3 (codes "t"))) (t.expr_and (t.call 3 (t.index 3
    (t.name 3 (codes "table")) (t.str 3 (codes "concat"))) (t.expr_and (t.name 3 (codes "t"))
    (t.expr_and (t.str 3 (codes " ")) t.no_exprs))) (t.expr_and (t.index 3 (t.name 3 (codes "t"))
    (t.number 3 (pos 9))) t.no_exprs))))) (t.stat_and (t.call_stat 4 (t.call 4 (t.name 4
    (codes "print")) (t.expr_and (t.call 4 (t.name 4 (codes "pcall")) (t.expr_and (t.index 4
    (t.name 4 (codes "table")) (t.str 4 (codes "insert"))) (t.expr_and (t.name 4 (codes "t"))
    (t.expr_and (t.number 4 (pos 0)) (t.expr_and (t.str 4
    (codes "x")) t.no_exprs))))) t.no_exprs))) t.no_stats))))))

-- `removals`:
--     local t = {1, 2, 3}
--     print(table.remove(t), table.remove(t, 1), #t, t[1])
--     print(select('#', table.remove({})), select('#', table.remove(t, 5)))
abbrev pub removals_program : Block
removals_program = (t.stat_and (t.local 1 ((codes "t") ∷ []) (t.expr_and (t.table 1 (t.item_and
    (t.number 1 (pos 1)) (t.item_and (t.number 1 (pos 2)) (t.item_and (t.number 1
    (pos 3)) t.no_fields)))) t.no_exprs)) (t.stat_and (t.call_stat 2 (t.call 2 (t.name 2
    (codes "print")) (t.expr_and (t.call 2 (t.index 2 (t.name 2 (codes "table")) (t.str 2
    (codes "remove"))) (t.expr_and (t.name 2 (codes "t")) t.no_exprs)) (t.expr_and (t.call 2
    (t.index 2 (t.name 2 (codes "table")) (t.str 2 (codes "remove"))) (t.expr_and (t.name 2
    (codes "t")) (t.expr_and (t.number 2 (pos 1)) t.no_exprs))) (t.expr_and (t.unary 2 t.length_of
    (t.name 2 (codes "t"))) (t.expr_and (t.index 2 (t.name 2 (codes "t")) (t.number 2
    (pos 1))) t.no_exprs)))))) (t.stat_and (t.call_stat 3 (t.call 3 (t.name 3 (codes "print"))
    (t.expr_and (t.call 3 (t.name 3 (codes "select")) (t.expr_and (t.str 3 (codes "#")) (t.expr_and
    (t.call 3 (t.index 3 (t.name 3 (codes "table")) (t.str 3 (codes "remove"))) (t.expr_and
    (t.table 3 t.no_fields) t.no_exprs)) t.no_exprs))) (t.expr_and (t.call 3 (t.name 3
    (codes "select")) (t.expr_and (t.str 3 (codes "#")) (t.expr_and (t.call 3 (t.index 3 (t.name 3
    (codes "table")) (t.str 3 (codes "remove"))) (t.expr_and (t.name 3 (codes "t")) (t.expr_and
    (t.number 3 (pos 5)) t.no_exprs))) t.no_exprs))) t.no_exprs)))) t.no_stats)))

-- `joins`:
--     print(table.concat({1, 'a', 2}, '-'), table.concat({}), table.concat({1, 2, 3}, ',', 2, 3))
--     print(pcall(table.concat, {1, {}, 3}))
abbrev pub joins_program : Block
joins_program = (t.stat_and (t.call_stat 1 (t.call 1 (t.name 1 (codes "print")) (t.expr_and
    (t.call 1 (t.index 1 (t.name 1 (codes "table")) (t.str 1 (codes "concat"))) (t.expr_and
    (t.table 1 (t.item_and (t.number 1 (pos 1)) (t.item_and (t.str 1 (codes "a")) (t.item_and
    (t.number 1 (pos 2)) t.no_fields)))) (t.expr_and (t.str 1 (codes "-")) t.no_exprs)))
    (t.expr_and (t.call 1 (t.index 1 (t.name 1 (codes "table")) (t.str 1 (codes "concat")))
    (t.expr_and (t.table 1 t.no_fields) t.no_exprs)) (t.expr_and (t.call 1 (t.index 1 (t.name 1
    (codes "table")) (t.str 1 (codes "concat"))) (t.expr_and (t.table 1 (t.item_and (t.number 1
    (pos 1)) (t.item_and (t.number 1 (pos 2)) (t.item_and (t.number 1 (pos 3)) t.no_fields))))
    (t.expr_and (t.str 1 (codes ",")) (t.expr_and (t.number 1 (pos 2)) (t.expr_and (t.number 1
    (pos 3)) t.no_exprs))))) t.no_exprs))))) (t.stat_and (t.call_stat 2 (t.call 2 (t.name 2
    (codes "print")) (t.expr_and (t.call 2 (t.name 2 (codes "pcall")) (t.expr_and (t.index 2
    (t.name 2 (codes "table")) (t.str 2 (codes "concat"))) (t.expr_and (t.table 2 (t.item_and
    (t.number 2 (pos 1)) (t.item_and (t.table 2 t.no_fields) (t.item_and (t.number 2
    (pos 3)) t.no_fields)))) t.no_exprs))) t.no_exprs))) t.no_stats))

-- `maxn`:
--     print(table.maxn({1, 2, [10] = 3, x = 4}), table.maxn({}))
abbrev pub maxn_program : Block
maxn_program = (t.stat_and (t.call_stat 1 (t.call 1 (t.name 1 (codes "print")) (t.expr_and
    (t.call 1 (t.index 1 (t.name 1 (codes "table")) (t.str 1 (codes "maxn"))) (t.expr_and
    (t.table 1 (t.item_and (t.number 1 (pos 1)) (t.item_and (t.number 1 (pos 2)) (t.keyed_and
    (t.number 1 (pos 10)) (t.number 1 (pos 3)) (t.keyed_and (t.str 1 (codes "x")) (t.number 1
    (pos 4)) t.no_fields))))) t.no_exprs)) (t.expr_and (t.call 1 (t.index 1 (t.name 1
    (codes "table")) (t.str 1 (codes "maxn"))) (t.expr_and
    (t.table 1 t.no_fields) t.no_exprs)) t.no_exprs)))) t.no_stats)

-- `walks`:
--     local t = {10, 20, 30}
--     t.x = 1 t[2] = nil t.x = 5 t[2] = 7
--     for k, v in pairs(t) do print(k, v) end
--     t[2] = nil print(#t)
abbrev pub walks_program : Block
walks_program = (t.stat_and (t.local 1 ((codes "t") ∷ []) (t.expr_and (t.table 1 (t.item_and
    (t.number 1 (pos 10)) (t.item_and (t.number 1 (pos 20)) (t.item_and (t.number 1
    (pos 30)) t.no_fields)))) t.no_exprs)) (t.stat_and (t.assign 2 (t.expr_and (t.index 2 (t.name 2
    (codes "t")) (t.str 2 (codes "x"))) t.no_exprs) (t.expr_and (t.number 2 (pos 1)) t.no_exprs))
    (t.stat_and (t.assign 2 (t.expr_and (t.index 2 (t.name 2 (codes "t")) (t.number 2
    (pos 2))) t.no_exprs) (t.expr_and (t.nil 2) t.no_exprs)) (t.stat_and (t.assign 2 (t.expr_and
    (t.index 2 (t.name 2 (codes "t")) (t.str 2 (codes "x"))) t.no_exprs) (t.expr_and (t.number 2
    (pos 5)) t.no_exprs)) (t.stat_and (t.assign 2 (t.expr_and (t.index 2 (t.name 2 (codes "t"))
    (t.number 2 (pos 2))) t.no_exprs) (t.expr_and (t.number 2 (pos 7)) t.no_exprs)) (t.stat_and
    (t.gen_for 3 ((codes "k") ∷ (codes "v") ∷ []) (t.expr_and (t.call 3 (t.name 3 (codes "pairs"))
    (t.expr_and (t.name 3 (codes "t")) t.no_exprs)) t.no_exprs) (t.stat_and (t.call_stat 3
    (t.call 3 (t.name 3 (codes "print")) (t.expr_and (t.name 3 (codes "k")) (t.expr_and (t.name 3
    (codes "v")) t.no_exprs)))) t.no_stats)) (t.stat_and (t.assign 4 (t.expr_and (t.index 4
    (t.name 4 (codes "t")) (t.number 4 (pos 2))) t.no_exprs) (t.expr_and (t.nil 4) t.no_exprs))
    (t.stat_and (t.call_stat 4 (t.call 4 (t.name 4 (codes "print")) (t.expr_and
    (t.unary 4 t.length_of (t.name 4 (codes "t"))) t.no_exprs))) t.no_stats))))))))

-- `cleared_walk`:
--     local t = {a = 1, b = 2, c = 3}
--     local n = 0
--     for k in pairs(t) do t[k] = nil n = n + 1 end
--     print(n, next(t))
abbrev pub cleared_walk_program : Block
cleared_walk_program =
    (t.stat_and (t.local 1 ((codes "t") ∷ []) (t.expr_and (t.table 1 (t.keyed_and (t.str 1
    (codes "a")) (t.number 1 (pos 1)) (t.keyed_and (t.str 1 (codes "b")) (t.number 1 (pos 2))
    (t.keyed_and (t.str 1 (codes "c")) (t.number 1 (pos 3)) t.no_fields)))) t.no_exprs))
    (t.stat_and (t.local 2 ((codes "n") ∷ []) (t.expr_and (t.number 2 (pos 0)) t.no_exprs))
    (t.stat_and (t.gen_for 3 ((codes "k") ∷ []) (t.expr_and (t.call 3 (t.name 3 (codes "pairs"))
    (t.expr_and (t.name 3 (codes "t")) t.no_exprs)) t.no_exprs) (t.stat_and (t.assign 3 (t.expr_and
    (t.index 3 (t.name 3 (codes "t")) (t.name 3 (codes "k"))) t.no_exprs) (t.expr_and
    (t.nil 3) t.no_exprs)) (t.stat_and (t.assign 3 (t.expr_and (t.name 3 (codes "n")) t.no_exprs)
    (t.expr_and (t.binary 3 t.add (t.name 3 (codes "n")) (t.number 3
    (pos 1))) t.no_exprs)) t.no_stats))) (t.stat_and (t.call_stat 4 (t.call 4 (t.name 4
    (codes "print")) (t.expr_and (t.name 4 (codes "n")) (t.expr_and (t.call 4 (t.name 4
    (codes "next")) (t.expr_and (t.name 4 (codes "t")) t.no_exprs)) t.no_exprs)))) t.no_stats))))

-- `next_faults`:
--     print(next({}), next({5}), pcall(next, {}, 'x'))
abbrev pub next_faults_program : Block
next_faults_program =
    (t.stat_and (t.call_stat 1 (t.call 1 (t.name 1 (codes "print")) (t.expr_and (t.call 1 (t.name 1
    (codes "next")) (t.expr_and (t.table 1 t.no_fields) t.no_exprs)) (t.expr_and (t.call 1
    (t.name 1 (codes "next")) (t.expr_and (t.table 1 (t.item_and (t.number 1
    (pos 5)) t.no_fields)) t.no_exprs)) (t.expr_and (t.call 1 (t.name 1 (codes "pcall"))
    (t.expr_and (t.name 1 (codes "next")) (t.expr_and (t.table 1 t.no_fields) (t.expr_and (t.str 1
    (codes "x")) t.no_exprs)))) t.no_exprs))))) t.no_stats)

-- `ipairs_stop`:
--     local n = 0
--     for i, v in ipairs({1, 2, nil, 4}) do n = n + v end
--     print(n)
abbrev pub ipairs_stop_program : Block
ipairs_stop_program =
    (t.stat_and (t.local 1 ((codes "n") ∷ []) (t.expr_and (t.number 1 (pos 0)) t.no_exprs))
    (t.stat_and (t.gen_for 2 ((codes "i") ∷ (codes "v") ∷ []) (t.expr_and (t.call 2 (t.name 2
    (codes "ipairs")) (t.expr_and (t.table 2 (t.item_and (t.number 2 (pos 1)) (t.item_and
    (t.number 2 (pos 2)) (t.item_and (t.nil 2) (t.item_and (t.number 2
    (pos 4)) t.no_fields))))) t.no_exprs)) t.no_exprs) (t.stat_and (t.assign 2 (t.expr_and
    (t.name 2 (codes "n")) t.no_exprs) (t.expr_and (t.binary 2 t.add (t.name 2 (codes "n"))
    (t.name 2 (codes "v"))) t.no_exprs)) t.no_stats)) (t.stat_and (t.call_stat 3 (t.call 3
    (t.name 3 (codes "print")) (t.expr_and (t.name 3 (codes "n")) t.no_exprs))) t.no_stats)))

-- `selects`:
--     print(select('#'), select('#', nil, nil), select(2, 'a', 'b', 'c'))
--     print(pcall(select, 0))
--     print(pcall(select, -2, 1))
abbrev pub selects_program : Block
selects_program = (t.stat_and (t.call_stat 1 (t.call 1 (t.name 1 (codes "print")) (t.expr_and
    (t.call 1 (t.name 1 (codes "select")) (t.expr_and (t.str 1 (codes "#")) t.no_exprs))
    (t.expr_and (t.call 1 (t.name 1 (codes "select")) (t.expr_and (t.str 1 (codes "#")) (t.expr_and
    (t.nil 1) (t.expr_and (t.nil 1) t.no_exprs)))) (t.expr_and (t.call 1 (t.name 1
    (codes "select")) (t.expr_and (t.number 1 (pos 2)) (t.expr_and (t.str 1 (codes "a"))
    (t.expr_and (t.str 1 (codes "b")) (t.expr_and (t.str 1
    (codes "c")) t.no_exprs))))) t.no_exprs))))) (t.stat_and (t.call_stat 2 (t.call 2 (t.name 2
    (codes "print")) (t.expr_and (t.call 2 (t.name 2 (codes "pcall")) (t.expr_and (t.name 2
    (codes "select")) (t.expr_and (t.number 2 (pos 0)) t.no_exprs))) t.no_exprs))) (t.stat_and
    (t.call_stat 3 (t.call 3 (t.name 3 (codes "print")) (t.expr_and (t.call 3 (t.name 3
    (codes "pcall")) (t.expr_and (t.name 3 (codes "select")) (t.expr_and (t.unary 3 t.negate
    (t.number 3 (pos 2))) (t.expr_and (t.number 3 (pos 1)) t.no_exprs)))) t.no_exprs)))
    t.no_stats)))

-- `unpacks`:
--     print(unpack({1, 2, 3}))
--     print(unpack({1, nil, 3}, 1, 3))
--     print(unpack({1, 2}, 2))
--     print(pcall(unpack, {}, 1, 1000001))
abbrev pub unpacks_program : Block
unpacks_program = (t.stat_and (t.call_stat 1 (t.call 1 (t.name 1 (codes "print")) (t.expr_and
    (t.call 1 (t.name 1 (codes "unpack")) (t.expr_and (t.table 1 (t.item_and (t.number 1 (pos 1))
    (t.item_and (t.number 1 (pos 2)) (t.item_and (t.number 1
    (pos 3)) t.no_fields)))) t.no_exprs)) t.no_exprs))) (t.stat_and (t.call_stat 2 (t.call 2
    (t.name 2 (codes "print")) (t.expr_and (t.call 2 (t.name 2 (codes "unpack")) (t.expr_and
    (t.table 2 (t.item_and (t.number 2 (pos 1)) (t.item_and (t.nil 2) (t.item_and (t.number 2
    (pos 3)) t.no_fields)))) (t.expr_and (t.number 2 (pos 1)) (t.expr_and (t.number 2
    (pos 3)) t.no_exprs)))) t.no_exprs))) (t.stat_and (t.call_stat 3 (t.call 3 (t.name 3
    (codes "print")) (t.expr_and (t.call 3 (t.name 3 (codes "unpack")) (t.expr_and (t.table 3
    (t.item_and (t.number 3 (pos 1)) (t.item_and (t.number 3 (pos 2)) t.no_fields))) (t.expr_and
    (t.number 3 (pos 2)) t.no_exprs))) t.no_exprs))) (t.stat_and (t.call_stat 4 (t.call 4 (t.name 4
    (codes "print")) (t.expr_and (t.call 4 (t.name 4 (codes "pcall")) (t.expr_and (t.name 4
    (codes "unpack")) (t.expr_and (t.table 4 t.no_fields) (t.expr_and (t.number 4 (pos 1))
    (t.expr_and (t.number 4 (pos 1000001)) t.no_exprs))))) t.no_exprs))) t.no_stats))))

-- `maths`:
--     print(math.abs(-5), math.ceil(3), math.floor(-3), math.max(1, 3, 2), math.min(2, '1'), math.pow(2, 5), math.fmod(7, -3))
--     print(pcall(math.fmod, 1, 0))
--     print(pcall(math.max))
abbrev pub maths_program : Block
maths_program = (t.stat_and (t.call_stat 1 (t.call 1 (t.name 1 (codes "print")) (t.expr_and
    (t.call 1 (t.index 1 (t.name 1 (codes "math")) (t.str 1 (codes "abs"))) (t.expr_and
    (t.unary 1 t.negate (t.number 1 (pos 5))) t.no_exprs)) (t.expr_and (t.call 1 (t.index 1
    (t.name 1 (codes "math")) (t.str 1 (codes "ceil"))) (t.expr_and (t.number 1
    (pos 3)) t.no_exprs)) (t.expr_and (t.call 1 (t.index 1 (t.name 1 (codes "math")) (t.str 1
    (codes "floor"))) (t.expr_and (t.unary 1 t.negate (t.number 1 (pos 3))) t.no_exprs))
    (t.expr_and (t.call 1 (t.index 1 (t.name 1 (codes "math")) (t.str 1 (codes "max"))) (t.expr_and
    (t.number 1 (pos 1)) (t.expr_and (t.number 1 (pos 3)) (t.expr_and (t.number 1
    (pos 2)) t.no_exprs)))) (t.expr_and (t.call 1 (t.index 1 (t.name 1 (codes "math")) (t.str 1
    (codes "min"))) (t.expr_and (t.number 1 (pos 2)) (t.expr_and (t.str 1
    (codes "1")) t.no_exprs))) (t.expr_and (t.call 1 (t.index 1 (t.name 1 (codes "math")) (t.str 1
    (codes "pow"))) (t.expr_and (t.number 1 (pos 2)) (t.expr_and (t.number 1 (pos 5)) t.no_exprs)))
    (t.expr_and (t.call 1 (t.index 1 (t.name 1 (codes "math")) (t.str 1 (codes "fmod")))
    (t.expr_and (t.number 1 (pos 7)) (t.expr_and (t.unary 1 t.negate (t.number 1
    (pos 3))) t.no_exprs))) t.no_exprs))))))))) (t.stat_and (t.call_stat 2 (t.call 2 (t.name 2
    (codes "print")) (t.expr_and (t.call 2 (t.name 2 (codes "pcall")) (t.expr_and (t.index 2
    (t.name 2 (codes "math")) (t.str 2 (codes "fmod"))) (t.expr_and (t.number 2 (pos 1))
    (t.expr_and (t.number 2 (pos 0)) t.no_exprs)))) t.no_exprs))) (t.stat_and (t.call_stat 3
    (t.call 3 (t.name 3 (codes "print")) (t.expr_and (t.call 3 (t.name 3 (codes "pcall"))
    (t.expr_and (t.index 3 (t.name 3 (codes "math")) (t.str 3
    (codes "max"))) t.no_exprs)) t.no_exprs))) t.no_stats)))

-- `types`:
--     print(type(nil), type(1), type('x'), type({}), type(print), type(type), type())
abbrev pub types_program : Block
types_program = (t.stat_and (t.call_stat 1 (t.call 1 (t.name 1 (codes "print")) (t.expr_and
    (t.call 1 (t.name 1 (codes "type")) (t.expr_and (t.nil 1) t.no_exprs)) (t.expr_and (t.call 1
    (t.name 1 (codes "type")) (t.expr_and (t.number 1 (pos 1)) t.no_exprs)) (t.expr_and (t.call 1
    (t.name 1 (codes "type")) (t.expr_and (t.str 1 (codes "x")) t.no_exprs)) (t.expr_and (t.call 1
    (t.name 1 (codes "type")) (t.expr_and (t.table 1 t.no_fields) t.no_exprs)) (t.expr_and
    (t.call 1 (t.name 1 (codes "type")) (t.expr_and (t.name 1 (codes "print")) t.no_exprs))
    (t.expr_and (t.call 1 (t.name 1 (codes "type")) (t.expr_and (t.name 1
    (codes "type")) t.no_exprs)) (t.expr_and (t.call 1 (t.name 1
    (codes "type")) t.no_exprs) t.no_exprs))))))))) t.no_stats)

-- `absent`:
--     print(tostring(), tonumber(), rawequal(), collectgarbage(), _VERSION)
--     local t = setmetatable({}, {})
--     print(getmetatable(setmetatable(t)), xpcall, os)
abbrev pub absent_program : Block
absent_program = (t.stat_and (t.call_stat 1 (t.call 1 (t.name 1 (codes "print")) (t.expr_and
    (t.call 1 (t.name 1 (codes "tostring")) t.no_exprs) (t.expr_and (t.call 1 (t.name 1
    (codes "tonumber")) t.no_exprs) (t.expr_and (t.call 1 (t.name 1 (codes "rawequal")) t.no_exprs)
    (t.expr_and (t.call 1 (t.name 1 (codes "collectgarbage")) t.no_exprs) (t.expr_and (t.name 1
    (codes "_VERSION")) t.no_exprs))))))) (t.stat_and (t.local 2 ((codes "t") ∷ []) (t.expr_and
    (t.call 2 (t.name 2 (codes "setmetatable")) (t.expr_and (t.table 2 t.no_fields) (t.expr_and
    (t.table 2 t.no_fields) t.no_exprs))) t.no_exprs)) (t.stat_and (t.call_stat 3 (t.call 3
    (t.name 3 (codes "print")) (t.expr_and (t.call 3 (t.name 3 (codes "getmetatable")) (t.expr_and
    (t.call 3 (t.name 3 (codes "setmetatable")) (t.expr_and (t.name 3
    (codes "t")) t.no_exprs)) t.no_exprs)) (t.expr_and (t.name 3 (codes "xpcall")) (t.expr_and
    (t.name 3 (codes "os")) t.no_exprs))))) t.no_stats)))

-- `concat_numbers`:
--     print(1 .. 2, '10' + 5, '3' * '4', -'2', 10 .. '')
abbrev pub concat_numbers_program : Block
concat_numbers_program =
    (t.stat_and (t.call_stat 1 (t.call 1 (t.name 1 (codes "print")) (t.expr_and
    (t.binary 1 t.concat (t.number 1 (pos 1)) (t.number 1 (pos 2))) (t.expr_and (t.binary 1 t.add
    (t.str 1 (codes "10")) (t.number 1 (pos 5))) (t.expr_and (t.binary 1 t.mul (t.str 1
    (codes "3")) (t.str 1 (codes "4"))) (t.expr_and (t.unary 1 t.negate (t.str 1 (codes "2")))
    (t.expr_and (t.binary 1 t.concat (t.number 1 (pos 10)) (t.str 1
    (codes ""))) t.no_exprs))))))) t.no_stats)

-- `text_order`:
--     print('a' < 'b', 'Z' < 'a', 'a' < 'aa', '' < 'a', 'b' <= 'b')
abbrev pub text_order_program : Block
text_order_program = (t.stat_and (t.call_stat 1 (t.call 1 (t.name 1 (codes "print")) (t.expr_and
    (t.binary 1 t.less (t.str 1 (codes "a")) (t.str 1 (codes "b"))) (t.expr_and (t.binary 1 t.less
    (t.str 1 (codes "Z")) (t.str 1 (codes "a"))) (t.expr_and (t.binary 1 t.less (t.str 1
    (codes "a")) (t.str 1 (codes "aa"))) (t.expr_and (t.binary 1 t.less (t.str 1 (codes ""))
    (t.str 1 (codes "a"))) (t.expr_and (t.binary 1 t.less_equal (t.str 1 (codes "b")) (t.str 1
    (codes "b"))) t.no_exprs))))))) t.no_stats)

-- `too_long`:
--     print(pcall(string.rep, 'ab', 8388609))
--     print(#('x'):rep(0), pcall(string.rep))
abbrev pub too_long_program : Block
too_long_program = (t.stat_and (t.call_stat 1 (t.call 1 (t.name 1 (codes "print")) (t.expr_and
    (t.call 1 (t.name 1 (codes "pcall")) (t.expr_and (t.index 1 (t.name 1 (codes "string"))
    (t.str 1 (codes "rep"))) (t.expr_and (t.str 1 (codes "ab")) (t.expr_and (t.number 1
    (pos 8388609)) t.no_exprs)))) t.no_exprs))) (t.stat_and (t.call_stat 2 (t.call 2 (t.name 2
    (codes "print")) (t.expr_and (t.unary 2 t.length_of (t.method 2 (t.paren 2 (t.str 2
    (codes "x"))) (codes "rep") (t.expr_and (t.number 2 (pos 0)) t.no_exprs))) (t.expr_and
    (t.call 2 (t.name 2 (codes "pcall")) (t.expr_and (t.index 2 (t.name 2 (codes "string"))
    (t.str 2 (codes "rep"))) t.no_exprs)) t.no_exprs)))) t.no_stats))

-- `remainders`:
--     print(7 % 3, -7 % 3, 7 % -3, -7 % -3, 2 ^ 0, 0 ^ 0)
abbrev pub remainders_program : Block
remainders_program = (t.stat_and (t.call_stat 1 (t.call 1 (t.name 1 (codes "print")) (t.expr_and
    (t.binary 1 t.mod_ (t.number 1 (pos 7)) (t.number 1 (pos 3))) (t.expr_and (t.binary 1 t.mod_
    (t.unary 1 t.negate (t.number 1 (pos 7))) (t.number 1 (pos 3))) (t.expr_and (t.binary 1 t.mod_
    (t.number 1 (pos 7)) (t.unary 1 t.negate (t.number 1 (pos 3)))) (t.expr_and (t.binary 1 t.mod_
    (t.unary 1 t.negate (t.number 1 (pos 7))) (t.unary 1 t.negate (t.number 1 (pos 3))))
    (t.expr_and (t.binary 1 t.pow (t.number 1 (pos 2)) (t.number 1 (pos 0))) (t.expr_and
    (t.binary 1 t.pow (t.number 1 (pos 0)) (t.number 1 (pos 0))) t.no_exprs)))))))) t.no_stats)

-- ---- what they come to

abbrev pub Format : Type 0
Format = Comes {A = List ℕ × End} (λ r. (r.output, r.end)) (record {
  game =
      record { files = ([]); state = 0 };
  file = codes "a.lua";
  code = ready format_program;
  args =
      ([]);
  ticks = 1000;
  replies = ([]);
}) ((codes "-0042/ab  /ff\n"), done None)

abbrev pub FormatMore : Type 0
FormatMore = Comes {A =
    List ℕ × End} (λ r. (r.output, r.end)) (record {
      game = record {
        files =
            ([]);
        state = 0;
      };
      file = codes "a.lua";
      code = ready format_more_program;
      args =
          ([]);
      ticks = 1000;
      replies = ([]);
    }) ((codes "  7|7  |007|FF|A%|    x|12\n"), done None)

abbrev pub FormatFaults : Type 0
FormatFaults = Comes {A =
    List ℕ × End} (λ r. (r.output, r.end)) (record {
      game = record {
        files =
            ([]);
        state = 0;
      };
      file = codes "a.lua";
      code = ready format_faults_program;
      args =
          ([]);
      ticks = 1000;
      replies = ([]);
    }) (
      (codes
          "false\tinvalid format\nfalse\tbad argument #2 to 'format' (number expected, got string)\nfalse\tbad argument #2 to 'format' (not negative expected)\nfalse\tbad argument #2 to 'format' (0 to 255 expected)\nfalse\tinvalid format\n"),
      done None,
    )

abbrev pub Numbers : Type 0
Numbers = Comes {A = List ℕ × End} (λ r. (r.output, r.end)) (record {
  game =
      record { files = ([]); state = 0 };
  file = codes "a.lua";
  code = ready numbers_program;
  args =
      ([]);
  ticks = 1000;
  replies = ([]);
}) ((codes "1295\t2\t-1\n"), done None)

abbrev pub TonumberMore : Type 0
TonumberMore = Comes {A =
    List ℕ × End} (λ r. (r.output, r.end)) (record {
      game = record {
        files =
            ([]);
        state = 0;
      };
      file = codes "a.lua";
      code = ready tonumber_more_program;
      args =
          ([]);
      ticks = 1000;
      replies = ([]);
    }) ((codes "16\t100\tnil\tnil\t3\tnil\t255\n"), done None)

abbrev pub Sorted : Type 0
Sorted = Comes {A = List ℕ × End} (λ r. (r.output, r.end)) (record {
  game =
      record { files = ([]); state = 0 };
  file = codes "a.lua";
  code = ready sorted_program;
  args =
      ([]);
  ticks = 1000;
  replies = ([]);
}) ((codes "1,2,3\txxx\n"), done None)

abbrev pub SortTexts : Type 0
SortTexts = Comes {A =
    List ℕ × End} (λ r. (r.output, r.end)) (record {
      game = record {
        files =
            ([]);
        state = 0;
      };
      file = codes "a.lua";
      code = ready sort_texts_program;
      args =
          ([]);
      ticks = 1000;
      replies = ([]);
    }) (
      (codes
          ",a,ab,b\nfalse\t'sort' needs all numbers or all strings\nfalse\t'sort' needs all numbers or all strings\nfalse\t'sort' takes no function\n"),
      done None,
    )

abbrev pub NoPatterns : Type 0
NoPatterns = Comes {A =
    List ℕ × End} (λ r. (r.output, r.end)) (record {
      game = record {
        files =
            ([]);
        state = 0;
      };
      file = codes "a.lua";
      code = ready no_patterns_program;
      args =
          ([]);
      ticks = 1000;
      replies = ([]);
    }) (
      (codes "false\tpatterns are not available\n2\t2\n"),
      done None,
    )

abbrev pub Found : Type 0
Found = Comes {A = List ℕ × End} (λ r. (r.output, r.end)) (record {
  game =
      record { files = ([]); state = 0 };
  file = codes "a.lua";
  code = ready found_program;
  args =
      ([]);
  ticks = 1000;
  replies = ([]);
}) ((codes "3\tnil\t6\t4\t4\n"), done None)

abbrev pub Subs : Type 0
Subs = Comes {A = List ℕ × End} (λ r. (r.output, r.end)) (record {
  game =
      record { files = ([]); state = 0 };
  file = codes "a.lua";
  code = ready subs_program;
  args =
      ([]);
  ticks = 1000;
  replies = ([]);
}) ((codes "el\tllo\tell\t\thello\t104\t111\n"), done None)

abbrev pub Bytes : Type 0
Bytes = Comes {A = List ℕ × End} (λ r. (r.output, r.end)) (record {
  game =
      record { files = ([]); state = 0 };
  file = codes "a.lua";
  code = ready bytes_program;
  args =
      ([]);
  ticks = 1000;
  replies = ([]);
}) (
  (codes
      "Hi\t97\t98\t99\nfalse\tbad argument #1 to 'char' (0 to 255 expected)\nABC\tabc\tcba\ttrue\n"),
  done None,
)

abbrev pub Insertions : Type 0
Insertions = Comes {A =
    List ℕ × End} (λ r. (r.output, r.end)) (record {
      game = record {
        files =
            ([]);
        state = 0;
      };
      file = codes "a.lua";
      code = ready insertions_program;
      args =
          ([]);
      ticks = 1000;
      replies = ([]);
    }) (
      (codes
          "5\t0 1 2 3 4\tfar\nfalse\tbad argument #2 to 'insert' (position out of bounds)\n"),
      done None,
    )

abbrev pub Removals : Type 0
Removals = Comes {A =
    List ℕ × End} (λ r. (r.output, r.end)) (record {
      game = record {
        files =
            ([]);
        state = 0;
      };
      file = codes "a.lua";
      code = ready removals_program;
      args =
          ([]);
      ticks = 1000;
      replies = ([]);
    }) ((codes "3\t1\t1\t2\n0\t0\n"), done None)

abbrev pub Joins : Type 0
Joins = Comes {A = List ℕ × End} (λ r. (r.output, r.end)) (record {
  game =
      record { files = ([]); state = 0 };
  file = codes "a.lua";
  code = ready joins_program;
  args =
      ([]);
  ticks = 1000;
  replies = ([]);
}) (
  (codes
      "1-a-2\t\t2,3\nfalse\tinvalid value (table) at index 2 in table for 'concat'\n"),
  done None,
)

abbrev pub Maxn : Type 0
Maxn = Comes {A = List ℕ × End} (λ r. (r.output, r.end)) (record {
  game =
      record { files = ([]); state = 0 };
  file = codes "a.lua";
  code = ready maxn_program;
  args =
      ([]);
  ticks = 1000;
  replies = ([]);
}) ((codes "10\t0\n"), done None)

abbrev pub Walks : Type 0
Walks = Comes {A = List ℕ × End} (λ r. (r.output, r.end)) (record {
  game =
      record { files = ([]); state = 0 };
  file = codes "a.lua";
  code = ready walks_program;
  args =
      ([]);
  ticks = 1000;
  replies = ([]);
}) ((codes "1\t10\n2\t7\n3\t30\nx\t5\n1\n"), done None)

abbrev pub ClearedWalk : Type 0
ClearedWalk = Comes {A =
    List ℕ × End} (λ r. (r.output, r.end)) (record {
      game = record {
        files =
            ([]);
        state = 0;
      };
      file = codes "a.lua";
      code = ready cleared_walk_program;
      args =
          ([]);
      ticks = 1000;
      replies = ([]);
    }) ((codes "3\tnil\n"), done None)

abbrev pub NextFaults : Type 0
NextFaults = Comes {A =
    List ℕ × End} (λ r. (r.output, r.end)) (record {
      game = record {
        files =
            ([]);
        state = 0;
      };
      file = codes "a.lua";
      code = ready next_faults_program;
      args =
          ([]);
      ticks = 1000;
      replies = ([]);
    }) (
      (codes
          "nil\t1\tfalse\tbad argument #2 to 'next' (no such key)\n"),
      done None,
    )

abbrev pub IpairsStop : Type 0
IpairsStop = Comes {A =
    List ℕ × End} (λ r. (r.output, r.end)) (record {
      game = record {
        files =
            ([]);
        state = 0;
      };
      file = codes "a.lua";
      code = ready ipairs_stop_program;
      args =
          ([]);
      ticks = 1000;
      replies = ([]);
    }) ((codes "3\n"), done None)

abbrev pub Selects : Type 0
Selects = Comes {A = List ℕ × End} (λ r. (r.output, r.end)) (record {
  game =
      record { files = ([]); state = 0 };
  file = codes "a.lua";
  code = ready selects_program;
  args =
      ([]);
  ticks = 1000;
  replies = ([]);
}) (
  (codes
      "0\t2\tb\tc\nfalse\tbad argument #1 to 'select' (index out of range)\nfalse\tbad argument #1 to 'select' (index out of range)\n"),
  done None,
)

abbrev pub Unpacks : Type 0
Unpacks = Comes {A = List ℕ × End} (λ r. (r.output, r.end)) (record {
  game =
      record { files = ([]); state = 0 };
  file = codes "a.lua";
  code = ready unpacks_program;
  args =
      ([]);
  ticks = 1000;
  replies = ([]);
}) (
  (codes
      "1\t2\t3\n1\tnil\t3\n2\nfalse\ttoo many values\n"),
  done None,
)

abbrev pub Maths : Type 0
Maths = Comes {A = List ℕ × End} (λ r. (r.output, r.end)) (record {
  game =
      record { files = ([]); state = 0 };
  file = codes "a.lua";
  code = ready maths_program;
  args =
      ([]);
  ticks = 1000;
  replies = ([]);
}) (
  (codes
      "5\t3\t-3\t3\t1\t32\t1\nfalse\tnumber has no whole value\nfalse\tbad argument #1 to 'max' (number expected, got nil)\n"),
  done None,
)

abbrev pub Types : Type 0
Types = Comes {A = List ℕ × End} (λ r. (r.output, r.end)) (record {
  game =
      record { files = ([]); state = 0 };
  file = codes "a.lua";
  code = ready types_program;
  args =
      ([]);
  ticks = 1000;
  replies = ([]);
}) (
  (codes
      "nil\tnumber\tstring\ttable\tfunction\tfunction\tnil\n"),
  done None,
)

abbrev pub Absent : Type 0
Absent = Comes {A = List ℕ × End} (λ r. (r.output, r.end)) (record {
  game =
      record { files = ([]); state = 0 };
  file = codes "a.lua";
  code = ready absent_program;
  args =
      ([]);
  ticks = 1000;
  replies = ([]);
}) (
  (codes "nil\tnil\ttrue\t0\tLua 5.1\nnil\tnil\tnil\n"),
  done None,
)

abbrev pub ConcatNumbers : Type 0
ConcatNumbers = Comes {A =
    List ℕ × End} (λ r. (r.output, r.end)) (record {
      game = record {
        files =
            ([]);
        state = 0;
      };
      file = codes "a.lua";
      code = ready concat_numbers_program;
      args =
          ([]);
      ticks = 1000;
      replies = ([]);
    }) ((codes "12\t15\t12\t-2\t10\n"), done None)

abbrev pub TextOrder : Type 0
TextOrder = Comes {A =
    List ℕ × End} (λ r. (r.output, r.end)) (record {
      game = record {
        files =
            ([]);
        state = 0;
      };
      file = codes "a.lua";
      code = ready text_order_program;
      args =
          ([]);
      ticks = 1000;
      replies = ([]);
    }) ((codes "true\ttrue\ttrue\ttrue\ttrue\n"), done None)

abbrev pub TooLong : Type 0
TooLong = Comes {A = List ℕ × End} (λ r. (r.output, r.end)) (record {
  game =
      record { files = ([]); state = 0 };
  file = codes "a.lua";
  code = ready too_long_program;
  args =
      ([]);
  ticks = 1000;
  replies = ([]);
}) (
  (codes
      "false\tstring too long\n0\tfalse\tbad argument #1 to 'rep' (string expected, got nil)\n"),
  done None,
)

abbrev pub Remainders : Type 0
Remainders = Comes {A =
    List ℕ × End} (λ r. (r.output, r.end)) (record {
      game = record {
        files =
            ([]);
        state = 0;
      };
      file = codes "a.lua";
      code = ready remainders_program;
      args =
          ([]);
      ticks = 1000;
      replies = ([]);
    }) ((codes "1\t2\t-2\t-1\t1\t1\n"), done None)

-- all of them
pub record Rows : Type 0 where
  pub format : Format
  pub format_more : FormatMore
  pub format_faults : FormatFaults
  pub numbers : Numbers
  pub tonumber_more : TonumberMore
  pub sorted : Sorted
  pub sort_texts : SortTexts
  pub no_patterns : NoPatterns
  pub found : Found
  pub subs : Subs
  pub bytes : Bytes
  pub insertions : Insertions
  pub removals : Removals
  pub joins : Joins
  pub maxn : Maxn
  pub walks : Walks
  pub cleared_walk : ClearedWalk
  pub next_faults : NextFaults
  pub ipairs_stop : IpairsStop
  pub selects : Selects
  pub unpacks : Unpacks
  pub maths : Maths
  pub types : Types
  pub absent : Absent
  pub concat_numbers : ConcatNumbers
  pub text_order : TextOrder
  pub too_long : TooLong
  pub remainders : Remainders
