-- Rows: asks of Channels and their replies (LÖVE wiki, `Channel`). Written by checks/meaning-rows/write.py.
use Rattle.std.specs.Prelude.{ℕ, pos, negsuc, true, false, List, [], ◌∷◌, Some, None, codes}
use Rattle.variant.specs.declared.reply.Refusal.TheVariants.{Full, WouldWaitInside}
use Rattle.lua_tree.specs.Tree as t
use Rattle.lua_tree.specs.Tree.{Block}
use Rattle.lua_meaning.specs.Message.{Message, Ask, Reply}
use Rattle.lua_meaning.specs.Control.{ready}
use Rattle.lua_meaning.specs.Run.{End, done, failed, waits}
use Rattle.lua_meaning.specs.rows.Comes.{Comes, pair_message, hello_message}

-- ---- programs

-- `counts`:
--     local c = love.thread.newChannel()
--     print(c:push(7))
--     print(c:getCount(), c:hasRead(1), c:pop(), c:hasRead(1), c:pop())
abbrev pub counts_program : Block
counts_program = (t.stat_and (t.local 1 ((codes "c") ∷ []) (t.expr_and (t.call 1 (t.index 1
    (t.index 1 (t.name 1 (codes "love")) (t.str 1 (codes "thread"))) (t.str 1
    (codes "newChannel"))) t.no_exprs) t.no_exprs)) (t.stat_and (t.call_stat 2 (t.call 2 (t.name 2
    (codes "print")) (t.expr_and (t.method 2 (t.name 2 (codes "c")) (codes "push") (t.expr_and
    (t.number 2 (pos 7)) t.no_exprs)) t.no_exprs))) (t.stat_and (t.call_stat 3 (t.call 3 (t.name 3
    (codes "print")) (t.expr_and (t.method 3 (t.name 3 (codes "c")) (codes "getCount") t.no_exprs)
    (t.expr_and (t.method 3 (t.name 3 (codes "c")) (codes "hasRead") (t.expr_and (t.number 3
    (pos 1)) t.no_exprs)) (t.expr_and (t.method 3 (t.name 3 (codes "c")) (codes "pop") t.no_exprs)
    (t.expr_and (t.method 3 (t.name 3 (codes "c")) (codes "hasRead") (t.expr_and (t.number 3
    (pos 1)) t.no_exprs)) (t.expr_and (t.method 3 (t.name 3 (codes "c"))
    (codes "pop") t.no_exprs) t.no_exprs))))))) t.no_stats)))

-- `first_ask`:
--     c = love.thread.newChannel()
abbrev pub first_ask_program : Block
first_ask_program = (t.stat_and (t.assign 1 (t.expr_and (t.name 1 (codes "c")) t.no_exprs)
    (t.expr_and (t.call 1 (t.index 1 (t.index 1 (t.name 1 (codes "love")) (t.str 1
    (codes "thread"))) (t.str 1 (codes "newChannel"))) t.no_exprs) t.no_exprs)) t.no_stats)

-- `after_reply`:
--     c = love.thread.newChannel()
abbrev pub after_reply_program : Block
after_reply_program =
    (t.stat_and (t.assign 1 (t.expr_and (t.name 1 (codes "c")) t.no_exprs) (t.expr_and (t.call 1
    (t.index 1 (t.index 1 (t.name 1 (codes "love")) (t.str 1 (codes "thread"))) (t.str 1
    (codes "newChannel"))) t.no_exprs) t.no_exprs)) t.no_stats)

-- `clears`:
--     local c = love.thread.newChannel()
--     c:push('a') c:push('b') c:push('c')
--     c:clear()
--     print(c:hasRead(3), c:getCount(), c:push('d'))
abbrev pub clears_program : Block
clears_program = (t.stat_and (t.local 1 ((codes "c") ∷ []) (t.expr_and (t.call 1 (t.index 1
    (t.index 1 (t.name 1 (codes "love")) (t.str 1 (codes "thread"))) (t.str 1
    (codes "newChannel"))) t.no_exprs) t.no_exprs)) (t.stat_and (t.call_stat 2 (t.method 2
    (t.name 2 (codes "c")) (codes "push") (t.expr_and (t.str 2 (codes "a")) t.no_exprs)))
    (t.stat_and (t.call_stat 2 (t.method 2 (t.name 2 (codes "c")) (codes "push") (t.expr_and
    (t.str 2 (codes "b")) t.no_exprs))) (t.stat_and (t.call_stat 2 (t.method 2 (t.name 2
    (codes "c")) (codes "push") (t.expr_and (t.str 2 (codes "c")) t.no_exprs))) (t.stat_and
    (t.call_stat 3 (t.method 3 (t.name 3 (codes "c")) (codes "clear") t.no_exprs)) (t.stat_and
    (t.call_stat 4 (t.call 4 (t.name 4 (codes "print")) (t.expr_and (t.method 4 (t.name 4
    (codes "c")) (codes "hasRead") (t.expr_and (t.number 4 (pos 3)) t.no_exprs)) (t.expr_and
    (t.method 4 (t.name 4 (codes "c")) (codes "getCount") t.no_exprs) (t.expr_and (t.method 4
    (t.name 4 (codes "c")) (codes "push") (t.expr_and (t.str 4
    (codes "d")) t.no_exprs)) t.no_exprs))))) t.no_stats))))))

-- `odd_ids`:
--     local c = love.thread.newChannel()
--     c:push(7) c:pop()
--     print(c:hasRead(0), c:hasRead(-1), c:hasRead(9))
abbrev pub odd_ids_program : Block
odd_ids_program = (t.stat_and (t.local 1 ((codes "c") ∷ []) (t.expr_and (t.call 1 (t.index 1
    (t.index 1 (t.name 1 (codes "love")) (t.str 1 (codes "thread"))) (t.str 1
    (codes "newChannel"))) t.no_exprs) t.no_exprs)) (t.stat_and (t.call_stat 2 (t.method 2
    (t.name 2 (codes "c")) (codes "push") (t.expr_and (t.number 2 (pos 7)) t.no_exprs)))
    (t.stat_and (t.call_stat 2 (t.method 2 (t.name 2 (codes "c")) (codes "pop") t.no_exprs))
    (t.stat_and (t.call_stat 3 (t.call 3 (t.name 3 (codes "print")) (t.expr_and (t.method 3
    (t.name 3 (codes "c")) (codes "hasRead") (t.expr_and (t.number 3 (pos 0)) t.no_exprs))
    (t.expr_and (t.method 3 (t.name 3 (codes "c")) (codes "hasRead") (t.expr_and
    (t.unary 3 t.negate (t.number 3 (pos 1))) t.no_exprs)) (t.expr_and (t.method 3 (t.name 3
    (codes "c")) (codes "hasRead") (t.expr_and (t.number 3
    (pos 9)) t.no_exprs)) t.no_exprs))))) t.no_stats))))

-- `nil_message`:
--     local c = love.thread.newChannel()
--     c:push(nil)
--     print(c:getCount(), c:pop(), c:getCount())
abbrev pub nil_message_program : Block
nil_message_program =
    (t.stat_and (t.local 1 ((codes "c") ∷ []) (t.expr_and (t.call 1 (t.index 1 (t.index 1 (t.name 1
    (codes "love")) (t.str 1 (codes "thread"))) (t.str 1
    (codes "newChannel"))) t.no_exprs) t.no_exprs)) (t.stat_and (t.call_stat 2 (t.method 2
    (t.name 2 (codes "c")) (codes "push") (t.expr_and (t.nil 2) t.no_exprs))) (t.stat_and
    (t.call_stat 3 (t.call 3 (t.name 3 (codes "print")) (t.expr_and (t.method 3 (t.name 3
    (codes "c")) (codes "getCount") t.no_exprs) (t.expr_and (t.method 3 (t.name 3 (codes "c"))
    (codes "pop") t.no_exprs) (t.expr_and (t.method 3 (t.name 3 (codes "c"))
    (codes "getCount") t.no_exprs) t.no_exprs))))) t.no_stats)))

-- `copied`:
--     local s = {v = 1}
--     local t = setmetatable({a = s, b = s}, {__index = function() return 9 end})
--     local c = love.thread.newChannel()
--     c:push(t)
--     s.v = 2
--     local r = c:pop()
--     print(r.a.v, r.b.v, r.a == r.b, r.zzz, getmetatable(r))
abbrev pub copied_program : Block
copied_program = (t.stat_and (t.local 1 ((codes "s") ∷ []) (t.expr_and (t.table 1 (t.keyed_and
    (t.str 1 (codes "v")) (t.number 1 (pos 1)) t.no_fields)) t.no_exprs)) (t.stat_and (t.local 2
    ((codes "t") ∷ []) (t.expr_and (t.call 2 (t.name 2 (codes "setmetatable")) (t.expr_and
    (t.table 2 (t.keyed_and (t.str 2 (codes "a")) (t.name 2 (codes "s")) (t.keyed_and (t.str 2
    (codes "b")) (t.name 2 (codes "s")) t.no_fields))) (t.expr_and (t.table 2 (t.keyed_and (t.str 2
    (codes "__index")) (t.function 2 (t.func 2 [] false (t.stat_and (t.return_stat 2 (t.expr_and
    (t.number 2 (pos 9)) t.no_exprs)) t.no_stats))) t.no_fields)) t.no_exprs))) t.no_exprs))
    (t.stat_and (t.local 3 ((codes "c") ∷ []) (t.expr_and (t.call 3 (t.index 3 (t.index 3 (t.name 3
    (codes "love")) (t.str 3 (codes "thread"))) (t.str 3
    (codes "newChannel"))) t.no_exprs) t.no_exprs)) (t.stat_and (t.call_stat 4 (t.method 4
    (t.name 4 (codes "c")) (codes "push") (t.expr_and (t.name 4 (codes "t")) t.no_exprs)))
    (t.stat_and (t.assign 5 (t.expr_and (t.index 5 (t.name 5 (codes "s")) (t.str 5
    (codes "v"))) t.no_exprs) (t.expr_and (t.number 5 (pos 2)) t.no_exprs)) (t.stat_and (t.local 6
    ((codes "r") ∷ []) (t.expr_and (t.method 6 (t.name 6 (codes "c"))
    (codes "pop") t.no_exprs) t.no_exprs)) (t.stat_and (t.call_stat 7 (t.call 7 (t.name 7
    (codes "print")) (t.expr_and (t.index 7 (t.index 7 (t.name 7 (codes "r")) (t.str 7
    (codes "a"))) (t.str 7 (codes "v"))) (t.expr_and (t.index 7 (t.index 7 (t.name 7 (codes "r"))
    (t.str 7 (codes "b"))) (t.str 7 (codes "v"))) (t.expr_and (t.binary 7 t.equal (t.index 7
    (t.name 7 (codes "r")) (t.str 7 (codes "a"))) (t.index 7 (t.name 7 (codes "r")) (t.str 7
    (codes "b")))) (t.expr_and (t.index 7 (t.name 7 (codes "r")) (t.str 7 (codes "zzz")))
    (t.expr_and (t.call 7 (t.name 7 (codes "getmetatable")) (t.expr_and (t.name 7
    (codes "r")) t.no_exprs)) t.no_exprs))))))) t.no_stats)))))))

-- `not_sent`:
--     local c = love.thread.newChannel()
--     local t = {} t.me = t
--     print(pcall(c.push, c, t))
--     print(pcall(c.push, c, {print}))
--     print(pcall(c.push, c, {[{}] = 1}))
--     print(c:getCount())
abbrev pub not_sent_program : Block
not_sent_program = (t.stat_and (t.local 1 ((codes "c") ∷ []) (t.expr_and (t.call 1 (t.index 1
    (t.index 1 (t.name 1 (codes "love")) (t.str 1 (codes "thread"))) (t.str 1
    (codes "newChannel"))) t.no_exprs) t.no_exprs)) (t.stat_and (t.local 2 ((codes "t") ∷ [])
    (t.expr_and (t.table 2 t.no_fields) t.no_exprs)) (t.stat_and (t.assign 2 (t.expr_and (t.index 2
    (t.name 2 (codes "t")) (t.str 2 (codes "me"))) t.no_exprs) (t.expr_and (t.name 2
    (codes "t")) t.no_exprs)) (t.stat_and (t.call_stat 3 (t.call 3 (t.name 3 (codes "print"))
    (t.expr_and (t.call 3 (t.name 3 (codes "pcall")) (t.expr_and (t.index 3 (t.name 3 (codes "c"))
    (t.str 3 (codes "push"))) (t.expr_and (t.name 3 (codes "c")) (t.expr_and (t.name 3
    (codes "t")) t.no_exprs)))) t.no_exprs))) (t.stat_and (t.call_stat 4 (t.call 4 (t.name 4
    (codes "print")) (t.expr_and (t.call 4 (t.name 4 (codes "pcall")) (t.expr_and (t.index 4
    (t.name 4 (codes "c")) (t.str 4 (codes "push"))) (t.expr_and (t.name 4 (codes "c")) (t.expr_and
    (t.table 4 (t.item_and (t.name 4 (codes "print")) t.no_fields)) t.no_exprs)))) t.no_exprs)))
    (t.stat_and (t.call_stat 5 (t.call 5 (t.name 5 (codes "print")) (t.expr_and (t.call 5 (t.name 5
    (codes "pcall")) (t.expr_and (t.index 5 (t.name 5 (codes "c")) (t.str 5 (codes "push")))
    (t.expr_and (t.name 5 (codes "c")) (t.expr_and (t.table 5 (t.keyed_and (t.table 5 t.no_fields)
    (t.number 5 (pos 1)) t.no_fields)) t.no_exprs)))) t.no_exprs))) (t.stat_and (t.call_stat 6
    (t.call 6 (t.name 6 (codes "print")) (t.expr_and (t.method 6 (t.name 6 (codes "c"))
    (codes "getCount") t.no_exprs) t.no_exprs))) t.no_stats)))))))

-- `sections`:
--     local c = love.thread.newChannel()
--     print(pcall(function()
--     c:performAtomic(function(c)
--     c:performAtomic(function(c) c:push(1) error('boom') end)
--     end)
--     end))
--     print(c:push(2), c:getCount())
abbrev pub sections_program : Block
sections_program = (t.stat_and (t.local 1 ((codes "c") ∷ []) (t.expr_and (t.call 1 (t.index 1
    (t.index 1 (t.name 1 (codes "love")) (t.str 1 (codes "thread"))) (t.str 1
    (codes "newChannel"))) t.no_exprs) t.no_exprs)) (t.stat_and (t.call_stat 2 (t.call 2 (t.name 2
    (codes "print")) (t.expr_and (t.call 2 (t.name 2 (codes "pcall")) (t.expr_and (t.function 2
    (t.func 2 [] false (t.stat_and (t.call_stat 3 (t.method 3 (t.name 3 (codes "c"))
    (codes "performAtomic") (t.expr_and (t.function 3 (t.func 3 ((codes "c") ∷ []) false
    (t.stat_and (t.call_stat 4 (t.method 4 (t.name 4 (codes "c")) (codes "performAtomic")
    (t.expr_and (t.function 4 (t.func 4 ((codes "c") ∷ []) false (t.stat_and (t.call_stat 4
    (t.method 4 (t.name 4 (codes "c")) (codes "push") (t.expr_and (t.number 4
    (pos 1)) t.no_exprs))) (t.stat_and (t.call_stat 4 (t.call 4 (t.name 4 (codes "error"))
    (t.expr_and (t.str 4 (codes "boom")) t.no_exprs))) t.no_stats)))) t.no_exprs))) t.no_stats)))
    t.no_exprs))) t.no_stats))) t.no_exprs)) t.no_exprs))) (t.stat_and (t.call_stat 7 (t.call 7
    (t.name 7 (codes "print")) (t.expr_and (t.method 7 (t.name 7 (codes "c")) (codes "push")
    (t.expr_and (t.number 7 (pos 2)) t.no_exprs)) (t.expr_and (t.method 7 (t.name 7 (codes "c"))
    (codes "getCount") t.no_exprs) t.no_exprs)))) t.no_stats)))

-- `waits_inside`:
--     local c = love.thread.newChannel()
--     c:performAtomic(function(c)
--     print(pcall(c.demand, c))
--     print(c:push(5))
--     end)
--     print(c:pop())
abbrev pub waits_inside_program : Block
waits_inside_program =
    (t.stat_and (t.local 1 ((codes "c") ∷ []) (t.expr_and (t.call 1 (t.index 1 (t.index 1 (t.name 1
    (codes "love")) (t.str 1 (codes "thread"))) (t.str 1
    (codes "newChannel"))) t.no_exprs) t.no_exprs)) (t.stat_and (t.call_stat 2 (t.method 2
    (t.name 2 (codes "c")) (codes "performAtomic") (t.expr_and (t.function 2 (t.func 2
    ((codes "c") ∷ []) false (t.stat_and (t.call_stat 3 (t.call 3 (t.name 3 (codes "print"))
    (t.expr_and (t.call 3 (t.name 3 (codes "pcall")) (t.expr_and (t.index 3 (t.name 3 (codes "c"))
    (t.str 3 (codes "demand"))) (t.expr_and (t.name 3 (codes "c")) t.no_exprs))) t.no_exprs)))
    (t.stat_and (t.call_stat 4 (t.call 4 (t.name 4 (codes "print")) (t.expr_and (t.method 4
    (t.name 4 (codes "c")) (codes "push") (t.expr_and (t.number 4
    (pos 5)) t.no_exprs)) t.no_exprs))) t.no_stats)))) t.no_exprs))) (t.stat_and (t.call_stat 6
    (t.call 6 (t.name 6 (codes "print")) (t.expr_and (t.method 6 (t.name 6 (codes "c"))
    (codes "pop") t.no_exprs) t.no_exprs))) t.no_stats)))

-- `section_results`:
--     local c = love.thread.newChannel()
--     print(c:performAtomic(function(d, a) return d == c, a end, 3))
--     print(pcall(c.performAtomic, c, 5))
abbrev pub section_results_program : Block
section_results_program =
    (t.stat_and (t.local 1 ((codes "c") ∷ []) (t.expr_and (t.call 1 (t.index 1 (t.index 1 (t.name 1
    (codes "love")) (t.str 1 (codes "thread"))) (t.str 1
    (codes "newChannel"))) t.no_exprs) t.no_exprs)) (t.stat_and (t.call_stat 2 (t.call 2 (t.name 2
    (codes "print")) (t.expr_and (t.method 2 (t.name 2 (codes "c")) (codes "performAtomic")
    (t.expr_and (t.function 2 (t.func 2 ((codes "d") ∷ (codes "a") ∷ []) false (t.stat_and
    (t.return_stat 2 (t.expr_and (t.binary 2 t.equal (t.name 2 (codes "d")) (t.name 2 (codes "c")))
    (t.expr_and (t.name 2 (codes "a")) t.no_exprs))) t.no_stats))) (t.expr_and (t.number 2
    (pos 3)) t.no_exprs))) t.no_exprs))) (t.stat_and (t.call_stat 3 (t.call 3 (t.name 3
    (codes "print")) (t.expr_and (t.call 3 (t.name 3 (codes "pcall")) (t.expr_and (t.index 3
    (t.name 3 (codes "c")) (t.str 3 (codes "performAtomic"))) (t.expr_and (t.name 3 (codes "c"))
    (t.expr_and (t.number 3 (pos 5)) t.no_exprs)))) t.no_exprs))) t.no_stats)))

-- `refused_push`:
--     local c = love.thread.newChannel()
--     c:push(1)
abbrev pub refused_push_program : Block
refused_push_program =
    (t.stat_and (t.local 1 ((codes "c") ∷ []) (t.expr_and (t.call 1 (t.index 1 (t.index 1 (t.name 1
    (codes "love")) (t.str 1 (codes "thread"))) (t.str 1
    (codes "newChannel"))) t.no_exprs) t.no_exprs)) (t.stat_and (t.call_stat 2 (t.method 2
    (t.name 2 (codes "c")) (codes "push") (t.expr_and (t.number 2
    (pos 1)) t.no_exprs))) t.no_stats))

-- `demanding`:
--     print(1)
--     love.thread.newChannel():demand()
abbrev pub demanding_program : Block
demanding_program = (t.stat_and (t.call_stat 1 (t.call 1 (t.name 1 (codes "print")) (t.expr_and
    (t.number 1 (pos 1)) t.no_exprs))) (t.stat_and (t.call_stat 2 (t.method 2 (t.call 2 (t.index 2
    (t.index 2 (t.name 2 (codes "love")) (t.str 2 (codes "thread"))) (t.str 2
    (codes "newChannel"))) t.no_exprs) (codes "demand") t.no_exprs)) t.no_stats))

-- `timeouts`:
--     local c = love.thread.newChannel()
--     print(c:demand(2))
--     print(c:supply(5, 1), c:getCount(), c:pop())
--     print(pcall(c.demand, c, -1))
abbrev pub timeouts_program : Block
timeouts_program = (t.stat_and (t.local 1 ((codes "c") ∷ []) (t.expr_and (t.call 1 (t.index 1
    (t.index 1 (t.name 1 (codes "love")) (t.str 1 (codes "thread"))) (t.str 1
    (codes "newChannel"))) t.no_exprs) t.no_exprs)) (t.stat_and (t.call_stat 2 (t.call 2 (t.name 2
    (codes "print")) (t.expr_and (t.method 2 (t.name 2 (codes "c")) (codes "demand") (t.expr_and
    (t.number 2 (pos 2)) t.no_exprs)) t.no_exprs))) (t.stat_and (t.call_stat 3 (t.call 3 (t.name 3
    (codes "print")) (t.expr_and (t.method 3 (t.name 3 (codes "c")) (codes "supply") (t.expr_and
    (t.number 3 (pos 5)) (t.expr_and (t.number 3 (pos 1)) t.no_exprs))) (t.expr_and (t.method 3
    (t.name 3 (codes "c")) (codes "getCount") t.no_exprs) (t.expr_and (t.method 3 (t.name 3
    (codes "c")) (codes "pop") t.no_exprs) t.no_exprs))))) (t.stat_and (t.call_stat 4 (t.call 4
    (t.name 4 (codes "print")) (t.expr_and (t.call 4 (t.name 4 (codes "pcall")) (t.expr_and
    (t.index 4 (t.name 4 (codes "c")) (t.str 4 (codes "demand"))) (t.expr_and (t.name 4
    (codes "c")) (t.expr_and (t.unary 4 t.negate (t.number 4
    (pos 1))) t.no_exprs)))) t.no_exprs))) t.no_stats))))

-- `supplied`:
--     local c = love.thread.newChannel()
--     print(c:supply('x'))
abbrev pub supplied_program : Block
supplied_program = (t.stat_and (t.local 1 ((codes "c") ∷ []) (t.expr_and (t.call 1 (t.index 1
    (t.index 1 (t.name 1 (codes "love")) (t.str 1 (codes "thread"))) (t.str 1
    (codes "newChannel"))) t.no_exprs) t.no_exprs)) (t.stat_and (t.call_stat 2 (t.call 2 (t.name 2
    (codes "print")) (t.expr_and (t.method 2 (t.name 2 (codes "c")) (codes "supply") (t.expr_and
    (t.str 2 (codes "x")) t.no_exprs)) t.no_exprs))) t.no_stats))

-- `data_values`:
--     local c = love.thread.newChannel()
--     c:push(love.data.newByteData('hello'))
--     local e = c:pop()
--     print(e:getString(), e:getSize(), love.data.newDataView(e, 1, 3):getString())
--     print(e:type(), e:typeOf('Data'), e.getFilename, pcall(love.data.newDataView, e, 6, 0))
abbrev pub data_values_program : Block
data_values_program =
    (t.stat_and (t.local 1 ((codes "c") ∷ []) (t.expr_and (t.call 1 (t.index 1 (t.index 1 (t.name 1
    (codes "love")) (t.str 1 (codes "thread"))) (t.str 1
    (codes "newChannel"))) t.no_exprs) t.no_exprs)) (t.stat_and (t.call_stat 2 (t.method 2
    (t.name 2 (codes "c")) (codes "push") (t.expr_and (t.call 2 (t.index 2 (t.index 2 (t.name 2
    (codes "love")) (t.str 2 (codes "data"))) (t.str 2 (codes "newByteData"))) (t.expr_and (t.str 2
    (codes "hello")) t.no_exprs)) t.no_exprs))) (t.stat_and (t.local 3 ((codes "e") ∷ [])
    (t.expr_and (t.method 3 (t.name 3 (codes "c")) (codes "pop") t.no_exprs) t.no_exprs))
    (t.stat_and (t.call_stat 4 (t.call 4 (t.name 4 (codes "print")) (t.expr_and (t.method 4
    (t.name 4 (codes "e")) (codes "getString") t.no_exprs) (t.expr_and (t.method 4 (t.name 4
    (codes "e")) (codes "getSize") t.no_exprs) (t.expr_and (t.method 4 (t.call 4 (t.index 4
    (t.index 4 (t.name 4 (codes "love")) (t.str 4 (codes "data"))) (t.str 4 (codes "newDataView")))
    (t.expr_and (t.name 4 (codes "e")) (t.expr_and (t.number 4 (pos 1)) (t.expr_and (t.number 4
    (pos 3)) t.no_exprs)))) (codes "getString") t.no_exprs) t.no_exprs))))) (t.stat_and
    (t.call_stat 5 (t.call 5 (t.name 5 (codes "print")) (t.expr_and (t.method 5 (t.name 5
    (codes "e")) (codes "type") t.no_exprs) (t.expr_and (t.method 5 (t.name 5 (codes "e"))
    (codes "typeOf") (t.expr_and (t.str 5 (codes "Data")) t.no_exprs)) (t.expr_and (t.index 5
    (t.name 5 (codes "e")) (t.str 5 (codes "getFilename"))) (t.expr_and (t.call 5 (t.name 5
    (codes "pcall")) (t.expr_and (t.index 5 (t.index 5 (t.name 5 (codes "love")) (t.str 5
    (codes "data"))) (t.str 5 (codes "newDataView"))) (t.expr_and (t.name 5 (codes "e"))
    (t.expr_and (t.number 5 (pos 6)) (t.expr_and (t.number 5
    (pos 0)) t.no_exprs))))) t.no_exprs)))))) t.no_stats)))))

-- `names`:
--     local c = love.thread.getChannel('x')
--     print(c == love.thread.getChannel('x'), c, c:typeOf('Object'), c.nothing)
abbrev pub names_program : Block
names_program = (t.stat_and (t.local 1 ((codes "c") ∷ []) (t.expr_and (t.call 1 (t.index 1
    (t.index 1 (t.name 1 (codes "love")) (t.str 1 (codes "thread"))) (t.str 1
    (codes "getChannel"))) (t.expr_and (t.str 1 (codes "x")) t.no_exprs)) t.no_exprs)) (t.stat_and
    (t.call_stat 2 (t.call 2 (t.name 2 (codes "print")) (t.expr_and (t.binary 2 t.equal (t.name 2
    (codes "c")) (t.call 2 (t.index 2 (t.index 2 (t.name 2 (codes "love")) (t.str 2
    (codes "thread"))) (t.str 2 (codes "getChannel"))) (t.expr_and (t.str 2
    (codes "x")) t.no_exprs))) (t.expr_and (t.name 2 (codes "c")) (t.expr_and (t.method 2 (t.name 2
    (codes "c")) (codes "typeOf") (t.expr_and (t.str 2 (codes "Object")) t.no_exprs)) (t.expr_and
    (t.index 2 (t.name 2 (codes "c")) (t.str 2 (codes "nothing"))) t.no_exprs)))))) t.no_stats))

-- `deep_tables`:
--     local c, t = love.thread.newChannel(), {}
--     for i = 1, 127 do t = {t} end
--     print(pcall(c.push, c, t))
--     t = {t}
--     print(pcall(c.push, c, t))
abbrev pub deep_tables_program : Block
deep_tables_program =
    (t.stat_and (t.local 1 ((codes "c") ∷ (codes "t") ∷ []) (t.expr_and (t.call 1 (t.index 1
    (t.index 1 (t.name 1 (codes "love")) (t.str 1 (codes "thread"))) (t.str 1
    (codes "newChannel"))) t.no_exprs) (t.expr_and (t.table 1 t.no_fields) t.no_exprs)))
    (t.stat_and (t.num_for 2 (codes "i") (t.number 2 (pos 1)) (t.number 2 (pos 127)) (t.stat_and
    (t.assign 2 (t.expr_and (t.name 2 (codes "t")) t.no_exprs) (t.expr_and (t.table 2 (t.item_and
    (t.name 2 (codes "t")) t.no_fields)) t.no_exprs)) t.no_stats)) (t.stat_and (t.call_stat 3
    (t.call 3 (t.name 3 (codes "print")) (t.expr_and (t.call 3 (t.name 3 (codes "pcall"))
    (t.expr_and (t.index 3 (t.name 3 (codes "c")) (t.str 3 (codes "push"))) (t.expr_and (t.name 3
    (codes "c")) (t.expr_and (t.name 3 (codes "t")) t.no_exprs)))) t.no_exprs))) (t.stat_and
    (t.assign 4 (t.expr_and (t.name 4 (codes "t")) t.no_exprs) (t.expr_and (t.table 4 (t.item_and
    (t.name 4 (codes "t")) t.no_fields)) t.no_exprs)) (t.stat_and (t.call_stat 5 (t.call 5
    (t.name 5 (codes "print")) (t.expr_and (t.call 5 (t.name 5 (codes "pcall")) (t.expr_and
    (t.index 5 (t.name 5 (codes "c")) (t.str 5 (codes "push"))) (t.expr_and (t.name 5 (codes "c"))
    (t.expr_and (t.name 5 (codes "t")) t.no_exprs)))) t.no_exprs))) t.no_stats)))))

-- `bad_objects`:
--     local c = love.thread.newChannel()
--     print(pcall(c.push))
--     print(pcall(c.hasRead, c, 'x'))
abbrev pub bad_objects_program : Block
bad_objects_program =
    (t.stat_and (t.local 1 ((codes "c") ∷ []) (t.expr_and (t.call 1 (t.index 1 (t.index 1 (t.name 1
    (codes "love")) (t.str 1 (codes "thread"))) (t.str 1
    (codes "newChannel"))) t.no_exprs) t.no_exprs)) (t.stat_and (t.call_stat 2 (t.call 2 (t.name 2
    (codes "print")) (t.expr_and (t.call 2 (t.name 2 (codes "pcall")) (t.expr_and (t.index 2
    (t.name 2 (codes "c")) (t.str 2 (codes "push"))) t.no_exprs)) t.no_exprs))) (t.stat_and
    (t.call_stat 3 (t.call 3 (t.name 3 (codes "print")) (t.expr_and (t.call 3 (t.name 3
    (codes "pcall")) (t.expr_and (t.index 3 (t.name 3 (codes "c")) (t.str 3 (codes "hasRead")))
    (t.expr_and (t.name 3 (codes "c")) (t.expr_and (t.str 3
    (codes "x")) t.no_exprs)))) t.no_exprs))) t.no_stats)))

-- ---- what they come to

abbrev pub Counts : Type 0
Counts = Comes {A = List ℕ × End × List Ask} (λ r. (r.output, r.end, r.asks)) (record {
  game =
      record { files = ([]); state = 0 };
  file = codes "a.lua";
  code = ready counts_program;
  args =
      ([]);
  ticks = 1000;
  replies = (Reply.channel 1 ∷ Reply.id 1 ∷ Reply.number 1 ∷ Reply.flag false
      ∷ Reply.value (Message.num (pos 7)) ∷ Reply.flag true ∷ Reply.nothing ∷ []);
}) (
  (codes "1\n1\tfalse\t7\ttrue\tnil\n"),
  done None,
  (Ask.new_channel ∷ Ask.push 1 (Message.num
      (pos 7)) ∷ Ask.count 1 ∷ Ask.has_read 1 (pos 1) ∷ Ask.pop 1 ∷ Ask.has_read 1
      (pos 1) ∷ Ask.pop 1 ∷ []),
)

abbrev pub FirstAsk : Type 0
FirstAsk = Comes {A =
    List ℕ × End × List Ask} (λ r. (r.output, r.end, r.asks)) (record {
      game = record {
        files =
            ([]);
        state = 0;
      };
      file = codes "a.lua";
      code = ready first_ask_program;
      args =
          ([]);
      ticks = 1000;
      replies = ([]);
    }) ([], waits Ask.new_channel, ([]))

abbrev pub AfterReply : Type 0
AfterReply = Comes {A =
    List ℕ × End × List Ask} (λ r. (r.output, r.end, r.asks)) (record {
      game = record {
        files =
            ([]);
        state = 0;
      };
      file = codes "a.lua";
      code = ready after_reply_program;
      args =
          ([]);
      ticks = 1000;
      replies = (Reply.channel 1 ∷ []);
    }) ([], done None, (Ask.new_channel ∷ []))

abbrev pub Clears : Type 0
Clears = Comes {A = List ℕ × End} (λ r. (r.output, r.end)) (record {
  game =
      record { files = ([]); state = 0 };
  file = codes "a.lua";
  code = ready clears_program;
  args =
      ([]);
  ticks = 1000;
  replies = (Reply.channel 1 ∷ Reply.id 1 ∷ Reply.id 2 ∷ Reply.id 3 ∷
      Reply.done ∷ Reply.flag true ∷ Reply.number 0 ∷ Reply.id 4 ∷ []);
})
    ((codes "true\t0\t4\n"), done None)

abbrev pub OddIds : Type 0
OddIds = Comes {A = List ℕ × End × List Ask} (λ r. (r.output, r.end, r.asks)) (record {
  game =
      record { files = ([]); state = 0 };
  file = codes "a.lua";
  code = ready odd_ids_program;
  args =
      ([]);
  ticks = 1000;
  replies = (Reply.channel 1 ∷ Reply.id 1 ∷ Reply.value (Message.num
      (pos 7)) ∷ Reply.flag false ∷ Reply.flag false ∷ Reply.flag false ∷ []);
}) (
  (codes "false\tfalse\tfalse\n"),
  done None,
  (Ask.new_channel ∷ Ask.push 1 (Message.num
      (pos 7)) ∷ Ask.pop 1 ∷ Ask.has_read 1 (pos 0) ∷ Ask.has_read 1 (negsuc 0) ∷ Ask.has_read 1
      (pos 9) ∷ []),
)

abbrev pub NilMessage : Type 0
NilMessage = Comes {A =
    List ℕ × End × List Ask} (λ r. (r.output, r.end, r.asks)) (record {
      game = record {
        files =
            ([]);
        state = 0;
      };
      file = codes "a.lua";
      code = ready nil_message_program;
      args =
          ([]);
      ticks = 1000;
      replies = (Reply.channel 1 ∷ Reply.id 1 ∷ Reply.number 1 ∷ Reply.value
          Message.nil ∷ Reply.number 0 ∷ []);
    }) (
      (codes "1\tnil\t0\n"),
      done None,
      (Ask.new_channel ∷ Ask.push 1 Message.nil ∷ Ask.count 1 ∷ Ask.pop 1 ∷ Ask.count 1 ∷ []),
    )

abbrev pub Copied : Type 0
Copied = Comes {A = List ℕ × End × List Ask} (λ r. (r.output, r.end, r.asks)) (record {
  game =
      record { files = ([]); state = 0 };
  file = codes "a.lua";
  code = ready copied_program;
  args =
      ([]);
  ticks = 1000;
  replies = (Reply.channel 1 ∷ Reply.id 1 ∷ Reply.value pair_message ∷ []);
}) (
  (codes "1\t1\tfalse\tnil\tnil\n"),
  done None,
  (Ask.new_channel ∷ Ask.push 1 pair_message ∷
      Ask.pop 1 ∷ []),
)

abbrev pub NotSent : Type 0
NotSent = Comes {A = List ℕ × End × List Ask} (λ r. (r.output, r.end, r.asks)) (record {
  game =
      record { files = ([]); state = 0 };
  file = codes "a.lua";
  code = ready not_sent_program;
  args =
      ([]);
  ticks = 1000;
  replies = (Reply.channel 1 ∷ Reply.number 0 ∷ []);
})
    ((codes "false\tcannot send a table that holds itself\nfalse\tcannot send a function value\nfalse\tcannot send a table with a table key\n0\n"), done None, (Ask.new_channel ∷ Ask.count 1 ∷ []))

abbrev pub Sections : Type 0
Sections = Comes {A =
    List ℕ × End × List Ask} (λ r. (r.output, r.end, r.asks)) (record {
      game = record {
        files =
            ([]);
        state = 0;
      };
      file = codes "a.lua";
      code = ready sections_program;
      args =
          ([]);
      ticks = 1000;
      replies = (Reply.channel 1 ∷ Reply.done ∷ Reply.done ∷ Reply.id 1 ∷
          Reply.done ∷ Reply.done ∷ Reply.id 2 ∷ Reply.number 2 ∷ []);
    }) (
      (codes "false\ta.lua:4: boom\n2\t2\n"),
      done None,
      (Ask.new_channel ∷ Ask.enter 1 ∷ Ask.enter 1 ∷ Ask.push 1 (Message.num
          (pos 1)) ∷ Ask.leave 1 ∷ Ask.leave 1 ∷ Ask.push 1 (Message.num (pos 2)) ∷ Ask.count 1 ∷ []),
    )

abbrev pub WaitsInside : Type 0
WaitsInside = Comes {A =
    List ℕ × End × List Ask} (λ r. (r.output, r.end, r.asks)) (record {
      game = record {
        files =
            ([]);
        state = 0;
      };
      file = codes "a.lua";
      code = ready waits_inside_program;
      args =
          ([]);
      ticks = 1000;
      replies = (Reply.channel 1 ∷ Reply.done ∷ Reply.refused WouldWaitInside ∷
          Reply.id 1 ∷ Reply.done ∷ Reply.value (Message.num (pos 5)) ∷ []);
    }) (
      (codes "false\twould wait inside its own performAtomic\n1\n5\n"),
      done None,
      (Ask.new_channel ∷ Ask.enter 1 ∷ Ask.demand 1 None ∷ Ask.push 1 (Message.num
          (pos 5)) ∷ Ask.leave 1 ∷ Ask.pop 1 ∷ []),
    )

abbrev pub SectionResults : Type 0
SectionResults = Comes {A =
    List ℕ × End × List Ask} (λ r. (r.output, r.end, r.asks)) (record {
      game = record {
        files =
            ([]);
        state = 0;
      };
      file = codes "a.lua";
      code = ready section_results_program;
      args =
          ([]);
      ticks = 1000;
      replies = (Reply.channel 1 ∷ Reply.done ∷ Reply.done ∷ []);
    })
    ((codes "true\t3\nfalse\tbad argument #1 to 'performAtomic' (function expected, got number)\n"), done None, (Ask.new_channel ∷ Ask.enter 1 ∷ Ask.leave 1 ∷ []))

abbrev pub RefusedPush : Type 0
RefusedPush = Comes {A =
    List ℕ × End} (λ r. (r.output, r.end)) (record {
      game = record {
        files =
            ([]);
        state = 0;
      };
      file = codes "a.lua";
      code = ready refused_push_program;
      args =
          ([]);
      ticks = 1000;
      replies = (Reply.channel 1 ∷ Reply.refused Full ∷ []);
    }) (
      [],
      failed
          (codes "a.lua:2: channel is full"),
    )

abbrev pub Demanding : Type 0
Demanding = Comes {A =
    List ℕ × End × List Ask} (λ r. (r.output, r.end, r.asks)) (record {
      game = record {
        files =
            ([]);
        state = 0;
      };
      file = codes "a.lua";
      code = ready demanding_program;
      args =
          ([]);
      ticks = 1000;
      replies = (Reply.channel 1 ∷ []);
    }) (
      (codes "1\n"),
      waits
          (Ask.demand 1 None),
      (Ask.new_channel ∷ []),
    )

abbrev pub Timeouts : Type 0
Timeouts = Comes {A =
    List ℕ × End × List Ask} (λ r. (r.output, r.end, r.asks)) (record {
      game = record {
        files =
            ([]);
        state = 0;
      };
      file = codes "a.lua";
      code = ready timeouts_program;
      args =
          ([]);
      ticks = 1000;
      replies = (Reply.channel 1 ∷ Reply.nothing ∷ Reply.id 1 ∷ Reply.flag false
          ∷ Reply.number 1 ∷ Reply.value (Message.num (pos 5)) ∷ []);
    }) (
      (codes "nil\nfalse\t1\t5\nfalse\tbad argument #1 to 'demand' (0 to 1000000 expected)\n"),
      done
          None,
      (Ask.new_channel ∷ Ask.demand 1 (Some 2) ∷ Ask.supply 1 (Message.num
          (pos 5)) ∷ Ask.await 1 1 (Some 1) ∷ Ask.count 1 ∷ Ask.pop 1 ∷ []),
    )

abbrev pub Supplied : Type 0
Supplied = Comes {A =
    List ℕ × End × List Ask} (λ r. (r.output, r.end, r.asks)) (record {
      game = record {
        files =
            ([]);
        state = 0;
      };
      file = codes "a.lua";
      code = ready supplied_program;
      args =
          ([]);
      ticks = 1000;
      replies = (Reply.channel 1 ∷ Reply.id 4 ∷ Reply.flag true ∷ []);
    }) (
      (codes "true\n"),
      done None,
      (Ask.new_channel ∷ Ask.supply 1 (Message.str
          (codes "x")) ∷ Ask.await 1 4 None ∷ []),
    )

abbrev pub DataValues : Type 0
DataValues = Comes {A =
    List ℕ × End × List Ask} (λ r. (r.output, r.end, r.asks)) (record {
      game = record {
        files =
            ([]);
        state = 0;
      };
      file = codes "a.lua";
      code = ready data_values_program;
      args =
          ([]);
      ticks = 1000;
      replies = (Reply.channel 1 ∷ Reply.id 1 ∷ Reply.value hello_message ∷ []);
    }) ((codes "hello\t5\tell\nByteData\ttrue\tnil\tfalse\tbad argument #2 to 'newDataView' (out of bounds)\n"), done None, (Ask.new_channel ∷ Ask.push 1 hello_message ∷ Ask.pop 1 ∷ []))

abbrev pub Names : Type 0
Names = Comes {A = List ℕ × End × List Ask} (λ r. (r.output, r.end, r.asks)) (record {
  game =
      record { files = ([]); state = 0 };
  file = codes "a.lua";
  code = ready names_program;
  args =
      ([]);
  ticks = 1000;
  replies = (Reply.channel 1 ∷ Reply.channel 1 ∷ []);
}) (
  (codes "true\tChannel\ttrue\tnil\n"),
  done None,
  (Ask.name (codes "x") ∷ Ask.name
      (codes "x") ∷ []),
)

abbrev pub DeepTables : Type 0
DeepTables = Comes {A =
    List ℕ × End} (λ r. (r.output, r.end)) (record {
      game = record {
        files =
            ([]);
        state = 0;
      };
      file = codes "a.lua";
      code = ready deep_tables_program;
      args =
          ([]);
      ticks = 1000;
      replies = (Reply.channel 1 ∷ Reply.id 1 ∷ []);
    })
    ((codes "true\t1\nfalse\tcannot send tables nested over 128 deep\n"), done None)

abbrev pub BadObjects : Type 0
BadObjects = Comes {A =
    List ℕ × End} (λ r. (r.output, r.end)) (record {
      game = record {
        files =
            ([]);
        state = 0;
      };
      file = codes "a.lua";
      code = ready bad_objects_program;
      args =
          ([]);
      ticks = 1000;
      replies = (Reply.channel 1 ∷ []);
    })
    ((codes "false\tbad argument #0 to 'push' (Channel expected, got nil)\nfalse\tbad argument #1 to 'hasRead' (number expected, got string)\n"), done None)

-- all of them
pub record Rows : Type 0 where
  pub counts : Counts
  pub first_ask : FirstAsk
  pub after_reply : AfterReply
  pub clears : Clears
  pub odd_ids : OddIds
  pub nil_message : NilMessage
  pub copied : Copied
  pub not_sent : NotSent
  pub sections : Sections
  pub waits_inside : WaitsInside
  pub section_results : SectionResults
  pub refused_push : RefusedPush
  pub demanding : Demanding
  pub timeouts : Timeouts
  pub supplied : Supplied
  pub data_values : DataValues
  pub names : Names
  pub deep_tables : DeepTables
  pub bad_objects : BadObjects
