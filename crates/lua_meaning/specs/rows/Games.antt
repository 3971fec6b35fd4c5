-- Rows: modules, files, threads and events (LÖVE wiki, `love`). Written by checks/meaning-rows/write.py.
use Rattle.std.specs.Prelude.{ℕ, pos, true, false, List, [], ◌∷◌, Some, None, codes}
use Rattle.variant.specs.declared.reply.Refusal.TheVariants.{TooManyRunning, GameEnded}
use Rattle.lua_tree.specs.Tree as t
use Rattle.lua_tree.specs.Tree.{Block}
use Rattle.lua_meaning.specs.Message.{Message, Source, Event, Ask, Reply}
use Rattle.lua_meaning.specs.Control.{ready, faulty, not_lua}
use Rattle.lua_meaning.specs.Run.{End, done, failed}
use Rattle.lua_meaning.specs.rows.Comes.{Comes, quit_event}

-- ---- programs

-- `m.lua` of `modules`:
--     local name = ...
--     print(name, ...)
--     return 5
abbrev pub modules_file_1 : Block
modules_file_1 = (t.stat_and (t.local 1 ((codes "name") ∷ []) (t.expr_and (t.dots 1) t.no_exprs))
    (t.stat_and (t.call_stat 2 (t.call 2 (t.name 2 (codes "print")) (t.expr_and (t.name 2
    (codes "name")) (t.expr_and (t.dots 2) t.no_exprs)))) (t.stat_and (t.return_stat 3 (t.expr_and
    (t.number 3 (pos 5)) t.no_exprs)) t.no_stats)))

-- `sub/x/init.lua` of `modules`:
abbrev pub modules_file_2 : Block
modules_file_2 = t.no_stats

-- `modules`:
--     print(require('m'), require('m'))
--     print(pcall(require, 'none'))
--     print(require('sub.x'))
--     print(require('love.thread') == love.thread)
abbrev pub modules_program : Block
modules_program = (t.stat_and (t.call_stat 1 (t.call 1 (t.name 1 (codes "print")) (t.expr_and
    (t.call 1 (t.name 1 (codes "require")) (t.expr_and (t.str 1 (codes "m")) t.no_exprs))
    (t.expr_and (t.call 1 (t.name 1 (codes "require")) (t.expr_and (t.str 1
    (codes "m")) t.no_exprs)) t.no_exprs)))) (t.stat_and (t.call_stat 2 (t.call 2 (t.name 2
    (codes "print")) (t.expr_and (t.call 2 (t.name 2 (codes "pcall")) (t.expr_and (t.name 2
    (codes "require")) (t.expr_and (t.str 2 (codes "none")) t.no_exprs))) t.no_exprs))) (t.stat_and
    (t.call_stat 3 (t.call 3 (t.name 3 (codes "print")) (t.expr_and (t.call 3 (t.name 3
    (codes "require")) (t.expr_and (t.str 3 (codes "sub.x")) t.no_exprs)) t.no_exprs))) (t.stat_and
    (t.call_stat 4 (t.call 4 (t.name 4 (codes "print")) (t.expr_and (t.binary 4 t.equal (t.call 4
    (t.name 4 (codes "require")) (t.expr_and (t.str 4 (codes "love.thread")) t.no_exprs))
    (t.index 4 (t.name 4 (codes "love")) (t.str 4 (codes "thread")))) t.no_exprs))) t.no_stats))))

-- `a.lua` of `module_circle`:
--     require('b')
abbrev pub module_circle_file_1 : Block
module_circle_file_1 =
    (t.stat_and (t.call_stat 1 (t.call 1 (t.name 1 (codes "require")) (t.expr_and (t.str 1
    (codes "b")) t.no_exprs))) t.no_stats)

-- `b.lua` of `module_circle`:
--     require('a')
abbrev pub module_circle_file_2 : Block
module_circle_file_2 =
    (t.stat_and (t.call_stat 1 (t.call 1 (t.name 1 (codes "require")) (t.expr_and (t.str 1
    (codes "a")) t.no_exprs))) t.no_stats)

-- `module_circle`:
--     print(pcall(require, 'a'))
--     print(pcall(require, 'a'))
abbrev pub module_circle_program : Block
module_circle_program =
    (t.stat_and (t.call_stat 1 (t.call 1 (t.name 1 (codes "print")) (t.expr_and (t.call 1 (t.name 1
    (codes "pcall")) (t.expr_and (t.name 1 (codes "require")) (t.expr_and (t.str 1
    (codes "a")) t.no_exprs))) t.no_exprs))) (t.stat_and (t.call_stat 2 (t.call 2 (t.name 2
    (codes "print")) (t.expr_and (t.call 2 (t.name 2 (codes "pcall")) (t.expr_and (t.name 2
    (codes "require")) (t.expr_and (t.str 2 (codes "a")) t.no_exprs))) t.no_exprs))) t.no_stats))

-- `faulty_module`:
--     print(pcall(require, 'bad'))
--     require('bad')
abbrev pub faulty_module_program : Block
faulty_module_program =
    (t.stat_and (t.call_stat 1 (t.call 1 (t.name 1 (codes "print")) (t.expr_and (t.call 1 (t.name 1
    (codes "pcall")) (t.expr_and (t.name 1 (codes "require")) (t.expr_and (t.str 1
    (codes "bad")) t.no_exprs))) t.no_exprs))) (t.stat_and (t.call_stat 2 (t.call 2 (t.name 2
    (codes "require")) (t.expr_and (t.str 2 (codes "bad")) t.no_exprs))) t.no_stats))

-- `reads`:
--     print(love.filesystem.read('t.txt'))
--     print(love.filesystem.read('none'))
--     local f = love.filesystem.newFileData('t.txt')
--     print(f:getFilename(), f:getSize(), f)
--     print(love.filesystem.newFileData('ab', 'n'):getString())
abbrev pub reads_program : Block
reads_program = (t.stat_and (t.call_stat 1 (t.call 1 (t.name 1 (codes "print")) (t.expr_and
    (t.call 1 (t.index 1 (t.index 1 (t.name 1 (codes "love")) (t.str 1 (codes "filesystem")))
    (t.str 1 (codes "read"))) (t.expr_and (t.str 1 (codes "t.txt")) t.no_exprs)) t.no_exprs)))
    (t.stat_and (t.call_stat 2 (t.call 2 (t.name 2 (codes "print")) (t.expr_and (t.call 2
    (t.index 2 (t.index 2 (t.name 2 (codes "love")) (t.str 2 (codes "filesystem"))) (t.str 2
    (codes "read"))) (t.expr_and (t.str 2 (codes "none")) t.no_exprs)) t.no_exprs))) (t.stat_and
    (t.local 3 ((codes "f") ∷ []) (t.expr_and (t.call 3 (t.index 3 (t.index 3 (t.name 3
    (codes "love")) (t.str 3 (codes "filesystem"))) (t.str 3 (codes "newFileData"))) (t.expr_and
    (t.str 3 (codes "t.txt")) t.no_exprs)) t.no_exprs)) (t.stat_and (t.call_stat 4 (t.call 4
    (t.name 4 (codes "print")) (t.expr_and (t.method 4 (t.name 4 (codes "f"))
    (codes "getFilename") t.no_exprs) (t.expr_and (t.method 4 (t.name 4 (codes "f"))
    (codes "getSize") t.no_exprs) (t.expr_and (t.name 4 (codes "f")) t.no_exprs))))) (t.stat_and
    (t.call_stat 5 (t.call 5 (t.name 5 (codes "print")) (t.expr_and (t.method 5 (t.call 5
    (t.index 5 (t.index 5 (t.name 5 (codes "love")) (t.str 5 (codes "filesystem"))) (t.str 5
    (codes "newFileData"))) (t.expr_and (t.str 5 (codes "ab")) (t.expr_and (t.str 5
    (codes "n")) t.no_exprs))) (codes "getString") t.no_exprs) t.no_exprs))) t.no_stats)))))

-- `w.lua` of `threads`:
abbrev pub threads_file_1 : Block
threads_file_1 = t.no_stats

-- `threads`:
--     local t = love.thread.newThread('w.lua')
--     print(t:start(1, 'x'), t:start(), t:isRunning(), t:wait(), t:getError(), t)
--     print(pcall(love.thread.newThread, 'none.lua'))
--     love.thread.newThread('local x\n')
abbrev pub threads_program : Block
threads_program = (t.stat_and (t.local 1 ((codes "t") ∷ []) (t.expr_and (t.call 1 (t.index 1
    (t.index 1 (t.name 1 (codes "love")) (t.str 1 (codes "thread"))) (t.str 1 (codes "newThread")))
    (t.expr_and (t.str 1 (codes "w.lua")) t.no_exprs)) t.no_exprs)) (t.stat_and (t.call_stat 2
    (t.call 2 (t.name 2 (codes "print")) (t.expr_and (t.method 2 (t.name 2 (codes "t"))
    (codes "start") (t.expr_and (t.number 2 (pos 1)) (t.expr_and (t.str 2
    (codes "x")) t.no_exprs))) (t.expr_and (t.method 2 (t.name 2 (codes "t"))
    (codes "start") t.no_exprs) (t.expr_and (t.method 2 (t.name 2 (codes "t"))
    (codes "isRunning") t.no_exprs) (t.expr_and (t.method 2 (t.name 2 (codes "t"))
    (codes "wait") t.no_exprs) (t.expr_and (t.method 2 (t.name 2 (codes "t"))
    (codes "getError") t.no_exprs) (t.expr_and (t.name 2 (codes "t")) t.no_exprs))))))))
    (t.stat_and (t.call_stat 3 (t.call 3 (t.name 3 (codes "print")) (t.expr_and (t.call 3 (t.name 3
    (codes "pcall")) (t.expr_and (t.index 3 (t.index 3 (t.name 3 (codes "love")) (t.str 3
    (codes "thread"))) (t.str 3 (codes "newThread"))) (t.expr_and (t.str 3
    (codes "none.lua")) t.no_exprs))) t.no_exprs))) (t.stat_and (t.call_stat 4 (t.call 4 (t.index 4
    (t.index 4 (t.name 4 (codes "love")) (t.str 4 (codes "thread"))) (t.str 4 (codes "newThread")))
    (t.expr_and (t.str 4 (108 ∷ 111 ∷ 99 ∷ 97 ∷ 108 ∷ 32 ∷ 120 ∷ 10 ∷ [])) t.no_exprs)))
    t.no_stats))))

-- `w.lua` of `too_many`:
abbrev pub too_many_file_1 : Block
too_many_file_1 = t.no_stats

-- `too_many`:
--     local t = love.thread.newThread('w.lua')
--     print(pcall(t.start, t))
--     t:start()
abbrev pub too_many_program : Block
too_many_program = (t.stat_and (t.local 1 ((codes "t") ∷ []) (t.expr_and (t.call 1 (t.index 1
    (t.index 1 (t.name 1 (codes "love")) (t.str 1 (codes "thread"))) (t.str 1 (codes "newThread")))
    (t.expr_and (t.str 1 (codes "w.lua")) t.no_exprs)) t.no_exprs)) (t.stat_and (t.call_stat 2
    (t.call 2 (t.name 2 (codes "print")) (t.expr_and (t.call 2 (t.name 2 (codes "pcall"))
    (t.expr_and (t.index 2 (t.name 2 (codes "t")) (t.str 2 (codes "start"))) (t.expr_and (t.name 2
    (codes "t")) t.no_exprs))) t.no_exprs))) (t.stat_and (t.call_stat 3 (t.method 3 (t.name 3
    (codes "t")) (codes "start") t.no_exprs)) t.no_stats)))

-- `thread_state`:
--     print(love.event, ...)
--     print(require('love.event') == love.event)
--     love.event.push('done', 5)
--     print(pcall(love.event.poll()))
abbrev pub thread_state_program : Block
thread_state_program =
    (t.stat_and (t.call_stat 1 (t.call 1 (t.name 1 (codes "print")) (t.expr_and (t.index 1
    (t.name 1 (codes "love")) (t.str 1 (codes "event"))) (t.expr_and (t.dots 1) t.no_exprs))))
    (t.stat_and (t.call_stat 2 (t.call 2 (t.name 2 (codes "print")) (t.expr_and (t.binary 2 t.equal
    (t.call 2 (t.name 2 (codes "require")) (t.expr_and (t.str 2 (codes "love.event")) t.no_exprs))
    (t.index 2 (t.name 2 (codes "love")) (t.str 2 (codes "event")))) t.no_exprs))) (t.stat_and
    (t.call_stat 3 (t.call 3 (t.index 3 (t.index 3 (t.name 3 (codes "love")) (t.str 3
    (codes "event"))) (t.str 3 (codes "push"))) (t.expr_and (t.str 3 (codes "done")) (t.expr_and
    (t.number 3 (pos 5)) t.no_exprs)))) (t.stat_and (t.call_stat 4 (t.call 4 (t.name 4
    (codes "print")) (t.expr_and (t.call 4 (t.name 4 (codes "pcall")) (t.expr_and (t.call 4
    (t.index 4 (t.index 4 (t.name 4 (codes "love")) (t.str 4 (codes "event"))) (t.str 4
    (codes "poll"))) t.no_exprs) t.no_exprs)) t.no_exprs))) t.no_stats))))

-- `events`:
--     for name, a, b in love.event.poll() do print(name, a, b) end
--     love.event.clear()
--     print(love.event.pump())
abbrev pub events_program : Block
events_program = (t.stat_and (t.gen_for 1 ((codes "name") ∷ (codes "a") ∷ (codes "b") ∷ [])
    (t.expr_and (t.call 1 (t.index 1 (t.index 1 (t.name 1 (codes "love")) (t.str 1
    (codes "event"))) (t.str 1 (codes "poll"))) t.no_exprs) t.no_exprs) (t.stat_and (t.call_stat 1
    (t.call 1 (t.name 1 (codes "print")) (t.expr_and (t.name 1 (codes "name")) (t.expr_and
    (t.name 1 (codes "a")) (t.expr_and (t.name 1 (codes "b")) t.no_exprs))))) t.no_stats))
    (t.stat_and (t.call_stat 2 (t.call 2 (t.index 2 (t.index 2 (t.name 2 (codes "love")) (t.str 2
    (codes "event"))) (t.str 2 (codes "clear"))) t.no_exprs)) (t.stat_and (t.call_stat 3 (t.call 3
    (t.name 3 (codes "print")) (t.expr_and (t.call 3 (t.index 3 (t.index 3 (t.name 3
    (codes "love")) (t.str 3 (codes "event"))) (t.str 3
    (codes "pump"))) t.no_exprs) t.no_exprs))) t.no_stats)))

-- `clear_ticks`:
--     love.event.clear()
abbrev pub clear_ticks_program : Block
clear_ticks_program =
    (t.stat_and (t.call_stat 1 (t.call 1 (t.index 1 (t.index 1 (t.name 1 (codes "love")) (t.str 1
    (codes "event"))) (t.str 1 (codes "clear"))) t.no_exprs)) t.no_stats)

-- `main.lua` of `quits`:
--     local n = 0
--     function love.quit() n = n + 1 print('quit', n) return n == 1 end
--     function love.update(dt) print('update', dt) love.event.quit(3) end
--     print(pcall(love.event.quit, 64))
abbrev pub quits_file_1 : Block
quits_file_1 = (t.stat_and (t.local 1 ((codes "n") ∷ []) (t.expr_and (t.number 1
    (pos 0)) t.no_exprs)) (t.stat_and (t.function_stat 2 (t.index 2 (t.name 2 (codes "love"))
    (t.str 2 (codes "quit"))) (t.func 2 [] false (t.stat_and (t.assign 2 (t.expr_and (t.name 2
    (codes "n")) t.no_exprs) (t.expr_and (t.binary 2 t.add (t.name 2 (codes "n")) (t.number 2
    (pos 1))) t.no_exprs)) (t.stat_and (t.call_stat 2 (t.call 2 (t.name 2 (codes "print"))
    (t.expr_and (t.str 2 (codes "quit")) (t.expr_and (t.name 2 (codes "n")) t.no_exprs))))
    (t.stat_and (t.return_stat 2 (t.expr_and (t.binary 2 t.equal (t.name 2 (codes "n")) (t.number 2
    (pos 1))) t.no_exprs)) t.no_stats))))) (t.stat_and (t.function_stat 3 (t.index 3 (t.name 3
    (codes "love")) (t.str 3 (codes "update"))) (t.func 3 ((codes "dt") ∷ []) false (t.stat_and
    (t.call_stat 3 (t.call 3 (t.name 3 (codes "print")) (t.expr_and (t.str 3 (codes "update"))
    (t.expr_and (t.name 3 (codes "dt")) t.no_exprs)))) (t.stat_and (t.call_stat 3 (t.call 3
    (t.index 3 (t.index 3 (t.name 3 (codes "love")) (t.str 3 (codes "event"))) (t.str 3
    (codes "quit"))) (t.expr_and (t.number 3 (pos 3)) t.no_exprs))) t.no_stats)))) (t.stat_and
    (t.call_stat 4 (t.call 4 (t.name 4 (codes "print")) (t.expr_and (t.call 4 (t.name 4
    (codes "pcall")) (t.expr_and (t.index 4 (t.index 4 (t.name 4 (codes "love")) (t.str 4
    (codes "event"))) (t.str 4 (codes "quit"))) (t.expr_and (t.number 4
    (pos 64)) t.no_exprs))) t.no_exprs))) t.no_stats))))

-- the main function of state 0:
--     local frames = ...
--     love.handlers = {
--       quit = function() end,
--       threaderror = function(thread, text)
--         if love.threaderror then return love.threaderror(thread, text) end
--       end,
--     }
--     function love.run()
--       if love.load then love.load({}) end
--       return function()
--         for name, a, b, c, d, e, f in love.event.poll() do
--           if name == "quit" then
--             if not love.quit or not love.quit() then return a or 0 end
--           elseif love.handlers[name] then
--             love.handlers[name](a, b, c, d, e, f)
--           end
--         end
--         if love.update then love.update(1) end
--       end
--     end
--     require("main")
--     local turn = love.run()
--     for frame = 1, frames do
--       local status = turn()
--       if status ~= nil then return status end
--     end
--     return 0
abbrev pub boot_program : Block
boot_program = (t.stat_and (t.local 1 ((codes "frames") ∷ []) (t.expr_and (t.dots 1) t.no_exprs))
    (t.stat_and (t.assign 2 (t.expr_and (t.index 2 (t.name 2 (codes "love")) (t.str 2
    (codes "handlers"))) t.no_exprs) (t.expr_and (t.table 2 (t.keyed_and (t.str 3 (codes "quit"))
    (t.function 3 (t.func 3 [] false t.no_stats)) (t.keyed_and (t.str 4 (codes "threaderror"))
    (t.function 4 (t.func 4 ((codes "thread") ∷ (codes "text") ∷ []) false (t.stat_and (t.if_stat 5
    (t.arm_and (t.index 5 (t.name 5 (codes "love")) (t.str 5 (codes "threaderror"))) (t.stat_and
    (t.return_stat 5 (t.expr_and (t.call 5 (t.index 5 (t.name 5 (codes "love")) (t.str 5
    (codes "threaderror"))) (t.expr_and (t.name 5 (codes "thread")) (t.expr_and (t.name 5
    (codes "text")) t.no_exprs))) t.no_exprs)) t.no_stats) t.no_else)) t.no_stats))) t.no_fields)))
    t.no_exprs)) (t.stat_and (t.function_stat 8 (t.index 8 (t.name 8 (codes "love")) (t.str 8
    (codes "run"))) (t.func 8 [] false (t.stat_and (t.if_stat 9 (t.arm_and (t.index 9 (t.name 9
    (codes "love")) (t.str 9 (codes "load"))) (t.stat_and (t.call_stat 9 (t.call 9 (t.index 9
    (t.name 9 (codes "love")) (t.str 9 (codes "load"))) (t.expr_and
    (t.table 9 t.no_fields) t.no_exprs))) t.no_stats) t.no_else)) (t.stat_and (t.return_stat 10
    (t.expr_and (t.function 10 (t.func 10 [] false (t.stat_and (t.gen_for 11 ((codes "name") ∷
    (codes "a") ∷ (codes "b") ∷ (codes "c") ∷ (codes "d") ∷ (codes "e") ∷ (codes "f") ∷ [])
    (t.expr_and (t.call 11 (t.index 11 (t.index 11 (t.name 11 (codes "love")) (t.str 11
    (codes "event"))) (t.str 11 (codes "poll"))) t.no_exprs) t.no_exprs) (t.stat_and (t.if_stat 12
    (t.arm_and (t.binary 12 t.equal (t.name 12 (codes "name")) (t.str 12 (codes "quit")))
    (t.stat_and (t.if_stat 13 (t.arm_and (t.binary 13 t.or_ (t.unary 13 t.not_ (t.index 13
    (t.name 13 (codes "love")) (t.str 13 (codes "quit")))) (t.unary 13 t.not_ (t.call 13
    (t.index 13 (t.name 13 (codes "love")) (t.str 13 (codes "quit"))) t.no_exprs))) (t.stat_and
    (t.return_stat 13 (t.expr_and (t.binary 13 t.or_ (t.name 13 (codes "a")) (t.number 13
    (pos 0))) t.no_exprs)) t.no_stats) t.no_else)) t.no_stats) (t.arm_and (t.index 14 (t.index 14
    (t.name 14 (codes "love")) (t.str 14 (codes "handlers"))) (t.name 14 (codes "name")))
    (t.stat_and (t.call_stat 15 (t.call 15 (t.index 15 (t.index 15 (t.name 15 (codes "love"))
    (t.str 15 (codes "handlers"))) (t.name 15 (codes "name"))) (t.expr_and (t.name 15 (codes "a"))
    (t.expr_and (t.name 15 (codes "b")) (t.expr_and (t.name 15 (codes "c")) (t.expr_and (t.name 15
    (codes "d")) (t.expr_and (t.name 15 (codes "e")) (t.expr_and (t.name 15
    (codes "f")) t.no_exprs)))))))) t.no_stats) t.no_else))) t.no_stats)) (t.stat_and (t.if_stat 18
    (t.arm_and (t.index 18 (t.name 18 (codes "love")) (t.str 18 (codes "update"))) (t.stat_and
    (t.call_stat 18 (t.call 18 (t.index 18 (t.name 18 (codes "love")) (t.str 18 (codes "update")))
    (t.expr_and (t.number 18 (pos 1)) t.no_exprs))) t.no_stats) t.no_else)) t.no_stats))))
    t.no_exprs)) t.no_stats)))) (t.stat_and (t.call_stat 21 (t.call 21 (t.name 21
    (codes "require")) (t.expr_and (t.str 21 (codes "main")) t.no_exprs))) (t.stat_and (t.local 22
    ((codes "turn") ∷ []) (t.expr_and (t.call 22 (t.index 22 (t.name 22 (codes "love")) (t.str 22
    (codes "run"))) t.no_exprs) t.no_exprs)) (t.stat_and (t.num_for 23 (codes "frame") (t.number 23
    (pos 1)) (t.name 23 (codes "frames")) (t.stat_and (t.local 24 ((codes "status") ∷ [])
    (t.expr_and (t.call 24 (t.name 24 (codes "turn")) t.no_exprs) t.no_exprs)) (t.stat_and
    (t.if_stat 25 (t.arm_and (t.binary 25 t.not_equal (t.name 25 (codes "status")) (t.nil 25))
    (t.stat_and (t.return_stat 25 (t.expr_and (t.name 25
    (codes "status")) t.no_exprs)) t.no_stats) t.no_else)) t.no_stats))) (t.stat_and
    (t.return_stat 27 (t.expr_and (t.number 27 (pos 0)) t.no_exprs)) t.no_stats)))))))

-- `main.lua` of `budget`:
--     local c = love.thread.getChannel('c')
--     local t = love.thread.newThread('w.lua')
--     t:start()
--     c:demand()
--     t:wait()
--     c:push(1)
--     print(c:pop(), t:getError())
abbrev pub budget_file_1 : Block
budget_file_1 = (t.stat_and (t.local 1 ((codes "c") ∷ []) (t.expr_and (t.call 1 (t.index 1
    (t.index 1 (t.name 1 (codes "love")) (t.str 1 (codes "thread"))) (t.str 1
    (codes "getChannel"))) (t.expr_and (t.str 1 (codes "c")) t.no_exprs)) t.no_exprs)) (t.stat_and
    (t.local 2 ((codes "t") ∷ []) (t.expr_and (t.call 2 (t.index 2 (t.index 2 (t.name 2
    (codes "love")) (t.str 2 (codes "thread"))) (t.str 2 (codes "newThread"))) (t.expr_and (t.str 2
    (codes "w.lua")) t.no_exprs)) t.no_exprs)) (t.stat_and (t.call_stat 3 (t.method 3 (t.name 3
    (codes "t")) (codes "start") t.no_exprs)) (t.stat_and (t.call_stat 4 (t.method 4 (t.name 4
    (codes "c")) (codes "demand") t.no_exprs)) (t.stat_and (t.call_stat 5 (t.method 5 (t.name 5
    (codes "t")) (codes "wait") t.no_exprs)) (t.stat_and (t.call_stat 6 (t.method 6 (t.name 6
    (codes "c")) (codes "push") (t.expr_and (t.number 6 (pos 1)) t.no_exprs))) (t.stat_and
    (t.call_stat 7 (t.call 7 (t.name 7 (codes "print")) (t.expr_and (t.method 7 (t.name 7
    (codes "c")) (codes "pop") t.no_exprs) (t.expr_and (t.method 7 (t.name 7 (codes "t"))
    (codes "getError") t.no_exprs) t.no_exprs)))) t.no_stats)))))))

-- `w.lua` of `budget`:
abbrev pub budget_file_2 : Block
budget_file_2 = t.no_stats

-- `w.lua` of `alone_budget`:
abbrev pub alone_budget_file_1 : Block
alone_budget_file_1 = t.no_stats

-- `alone_budget`:
--     local c = love.thread.getChannel('c')
--     local t = love.thread.newThread('w.lua')
--     t:start()
--     c:demand()
--     t:wait()
--     c:push(1)
--     print(c:pop(), t:getError())
abbrev pub alone_budget_program : Block
alone_budget_program =
    (t.stat_and (t.local 1 ((codes "c") ∷ []) (t.expr_and (t.call 1 (t.index 1 (t.index 1 (t.name 1
    (codes "love")) (t.str 1 (codes "thread"))) (t.str 1 (codes "getChannel"))) (t.expr_and
    (t.str 1 (codes "c")) t.no_exprs)) t.no_exprs)) (t.stat_and (t.local 2 ((codes "t") ∷ [])
    (t.expr_and (t.call 2 (t.index 2 (t.index 2 (t.name 2 (codes "love")) (t.str 2
    (codes "thread"))) (t.str 2 (codes "newThread"))) (t.expr_and (t.str 2
    (codes "w.lua")) t.no_exprs)) t.no_exprs)) (t.stat_and (t.call_stat 3 (t.method 3 (t.name 3
    (codes "t")) (codes "start") t.no_exprs)) (t.stat_and (t.call_stat 4 (t.method 4 (t.name 4
    (codes "c")) (codes "demand") t.no_exprs)) (t.stat_and (t.call_stat 5 (t.method 5 (t.name 5
    (codes "t")) (codes "wait") t.no_exprs)) (t.stat_and (t.call_stat 6 (t.method 6 (t.name 6
    (codes "c")) (codes "push") (t.expr_and (t.number 6 (pos 1)) t.no_exprs))) (t.stat_and
    (t.call_stat 7 (t.call 7 (t.name 7 (codes "print")) (t.expr_and (t.method 7 (t.name 7
    (codes "c")) (codes "pop") t.no_exprs) (t.expr_and (t.method 7 (t.name 7 (codes "t"))
    (codes "getError") t.no_exprs) t.no_exprs)))) t.no_stats)))))))

-- ---- what they come to

abbrev pub Modules : Type 0
Modules = Comes {A = List ℕ × End} (λ r. (r.output, r.end)) (record {
  game =
      record {
        files = (record {
          path = codes "m.lua";
          bytes =
              (codes "local name = ...\nprint(name, ...)\nreturn 5");
          code = ready modules_file_1;
        } ∷ record
            { path = codes "sub/x/init.lua"; bytes = []; code = ready modules_file_2 } ∷ []);
        state = 0;
      };
  file = codes "a.lua";
  code = ready modules_program;
  args = ([]);
  ticks = 1000;
  replies =
      ([]);
}) ((codes "m\tm\n5\t5\nfalse\tmodule 'none' not found\ntrue\ntrue\n"), done None)

abbrev pub ModuleCircle : Type 0
ModuleCircle = Comes {A =
    List ℕ × End} (λ r. (r.output, r.end)) (record {
      game = record {
        files =
            (record {
              path = codes "a.lua";
              bytes = (codes "require('b')");
              code = ready
                  module_circle_file_1;
            } ∷ record {
              path = codes "b.lua";
              bytes =
                  (codes "require('a')");
              code = ready module_circle_file_2;
            } ∷ []);
        state = 0;
      };
      file = codes
          "main.lua";
      code = ready module_circle_program;
      args = ([]);
      ticks = 1000;
      replies = ([]);
    })
    ((codes "false\tb.lua:1: loop or previous error loading module 'a'\nfalse\tloop or previous error loading module 'a'\n"), done None)

abbrev pub FaultyModule : Type 0
FaultyModule = Comes {A =
    List ℕ × End} (λ r. (r.output, r.end)) (record {
      game = record {
        files =
            (record {
              path = codes "bad.lua";
              bytes = [];
              code = faulty
                  (codes "bad.lua:2: unexpected symbol");
            } ∷ []);
        state = 0;
      };
      file = codes "main.lua";
      code =
          ready faulty_module_program;
      args = ([]);
      ticks = 1000;
      replies = ([]);
    })
    ((codes "false\tbad.lua:2: unexpected symbol\n"), failed (codes "bad.lua:2: unexpected symbol"))

abbrev pub Reads : Type 0
Reads = Comes {A = List ℕ × End} (λ r. (r.output, r.end)) (record {
  game =
      record {
        files = (record {
          path = codes "t.txt";
          bytes =
              (codes "hey");
          code = not_lua;
        } ∷ []);
        state = 0;
      };
  file = codes "main.lua";
  code = ready
      reads_program;
  args = ([]);
  ticks = 1000;
  replies = ([]);
})
    ((codes "hey\t3\nnil\tno such file: none\nt.txt\t3\tFileData\nab\n"), done None)

abbrev pub Threads : Type 0
Threads = Comes {A = List ℕ × End × List Ask} (λ r. (r.output, r.end, r.asks)) (record {
  game =
      record {
        files = (record { path = codes "w.lua"; bytes = []; code = ready threads_file_1 } ∷
            []);
        state = 0;
      };
  file = codes "main.lua";
  code = ready threads_program;
  args =
      ([]);
  ticks = 1000;
  replies = (Reply.thread 1 ∷ Reply.flag true ∷ Reply.flag false ∷ Reply.flag
      true ∷ Reply.done ∷ Reply.nothing ∷ Reply.thread 2 ∷ []);
}) (
  (codes "true\tfalse\ttrue\tnil\tnil\tThread\nfalse\tno such file: none.lua\n"),
  done None,
  (Ask.new_thread (Source.file (codes "w.lua")) ∷ Ask.start 1 (Message.num (pos 1) ∷ Message.str
      (codes "x") ∷ []) ∷ Ask.start 1 [] ∷ Ask.is_running 1 ∷ Ask.wait_for 1 ∷ Ask.error_of 1 ∷
      Ask.new_thread (Source.code (codes "local x\n")) ∷ []),
)

abbrev pub TooMany : Type 0
TooMany = Comes {A = List ℕ × End} (λ r. (r.output, r.end)) (record {
  game =
      record {
        files = (record { path = codes "w.lua"; bytes = []; code = ready too_many_file_1 } ∷
            []);
        state = 0;
      };
  file = codes "main.lua";
  code = ready too_many_program;
  args =
      ([]);
  ticks = 1000;
  replies = (Reply.thread 1 ∷ Reply.refused
      (TooManyRunning 1) ∷ Reply.refused (GameEnded 4) ∷ []);
}) (
  (codes "false\ttoo many threads are running: 1\n"),
  failed
      (codes "main.lua:3: the game has ended"),
)

abbrev pub ThreadState : Type 0
ThreadState = Comes {A =
    List ℕ × End × List Ask} (λ r. (r.output, r.end, r.asks)) (record {
      game = record {
        files =
            ([]);
        state = 1;
      };
      file = codes "a.lua";
      code = ready thread_state_program;
      args = (Message.num
          (pos 7) ∷ Message.flag true ∷ []);
      ticks = 1000;
      replies = (Reply.done ∷ []);
    }) (
      (codes "nil\t7\ttrue\ntrue\nfalse\tevents are polled by the main state\n"),
      done None,
      (Ask.event_push (codes "done") (Message.num (pos 5) ∷ []) ∷ []),
    )

abbrev pub Events : Type 0
Events = Comes {A = List ℕ × End} (λ r. (r.output, r.end)) (record {
  game =
      record { files = ([]); state = 0 };
  file = codes "a.lua";
  code = ready events_program;
  args =
      ([]);
  ticks = 1000;
  replies = (Reply.event 1 2 (Event.user (codes "go") (Message.num
      (pos 1) ∷ [])) ∷ Reply.event 1 4 (Event.thread_error 3
      (codes "boom")) ∷ Reply.nothing ∷ Reply.event 1 5 (Event.user
      (codes "x") []) ∷ Reply.nothing ∷ []);
}) (
  (codes "go\t1\tnil\nthreaderror\tThread\tboom\n\n"),
  done None,
)

abbrev pub ClearTicks : Type 0
ClearTicks = Comes {A =
    List ℕ × End × List Ask × ℕ} (λ r. (r.output, r.end, r.asks, r.ticks))
    (record {
      game = record { files = ([]); state = 0 };
      file = codes "a.lua";
      code = ready
          clear_ticks_program;
      args = ([]);
      ticks = 4;
      replies = (Reply.event 1 2 (Event.user
          (codes "x") []) ∷ Reply.event 1 3 (Event.user (codes "x") []) ∷ Reply.nothing ∷ []);
    })
    ([], done None, (Ask.event_poll ∷ Ask.event_poll ∷ Ask.event_poll ∷ []), 0)

abbrev pub Quits : Type 0
Quits = Comes {A = List ℕ × End} (λ r. (r.output, r.end)) (record {
  game =
      record {
        files = (record {
          path = codes "main.lua";
          bytes =
              (codes "local n = 0\nfunction love.quit() n = n + 1 print('quit', n) return n == 1 end\nfunction love.update(dt) print('update', dt) love.event.quit(3) end\nprint(pcall(love.event.quit, 64))");
          code = ready quits_file_1;
        } ∷ []);
        state = 0;
      };
  file = codes "boot";
  code = ready boot_program;
  args = (Message.num (pos 60) ∷ []);
  ticks = 1000;
  replies = (Reply.nothing ∷ Reply.done ∷ quit_event ∷ Reply.nothing ∷ Reply.done ∷ quit_event ∷ []);
}) ((codes "false\tbad argument #1 to 'quit' (0 to 63 expected)\nupdate\t1\nquit\t1\nupdate\t1\nquit\t2\n"), done (Some (pos 3)))

abbrev pub Budget : Type 0
Budget = Comes {A = List ℕ × End × ℕ} (λ r. (r.output, r.end, r.ticks)) (record {
  game =
      record {
        files = (record {
          path = codes "main.lua";
          bytes =
              (codes "local c = love.thread.getChannel('c')\nlocal t = love.thread.newThread('w.lua')\nt:start()\nc:demand()\nt:wait()\nc:push(1)\nprint(c:pop(), t:getError())");
          code = ready budget_file_1;
        } ∷ record { path = codes "w.lua"; bytes = []; code = ready budget_file_2 } ∷ []);
        state = 0;
      };
  file = codes "boot";
  code = ready boot_program;
  args = (Message.num (pos 0) ∷ []);
  ticks = 100;
  replies = (Reply.channel 1 ∷ Reply.thread 1 ∷ Reply.flag true ∷ Reply.value (Message.str (codes "go")) ∷ Reply.done ∷ Reply.id 2 ∷ Reply.value (Message.num (pos 1)) ∷ Reply.words (codes "out of steps") ∷ []);
}) ((codes "1\tout of steps\n"), done (Some (pos 0)), 72)

abbrev pub AloneBudget : Type 0
AloneBudget = Comes {A =
    List ℕ × End × ℕ} (λ r. (r.output, r.end, r.ticks)) (record {
      game = record {
        files =
            (record { path = codes "w.lua"; bytes = []; code = ready alone_budget_file_1 } ∷ []);
        state = 0;
      };
      file = codes "main.lua";
      code = ready alone_budget_program;
      args =
          ([]);
      ticks = 16;
      replies = (Reply.channel 1 ∷ Reply.thread 1 ∷ Reply.flag true ∷ Reply.value
          (Message.str (codes "go")) ∷ Reply.done ∷ Reply.id 2 ∷ Reply.value (Message.num
          (pos 1)) ∷ Reply.words (codes "out of steps") ∷ []);
    })
    ((codes "1\tout of steps\n"), done None, 0)

-- all of them
pub record Rows : Type 0 where
  pub modules : Modules
  pub module_circle : ModuleCircle
  pub faulty_module : FaultyModule
  pub reads : Reads
  pub threads : Threads
  pub too_many : TooMany
  pub thread_state : ThreadState
  pub events : Events
  pub clear_ticks : ClearTicks
  pub quits : Quits
  pub budget : Budget
  pub alone_budget : AloneBudget
