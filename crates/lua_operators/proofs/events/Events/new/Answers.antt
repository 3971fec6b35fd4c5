use Rattle.lua_heap.proofs.Callers.{Extends-same, Extends-trans}
use Rattle.lua_operators.proofs.Names.{later, are_events}
use Rattle.lua_operators.proofs.events.Events.new.Goals as goal

pub returns-clause-events : goal.returns-clause-events
returns-clause-events c =
    let t13 = Extends-same c.intern-13.new.self in
    let t12 = Extends-trans c.intern-12.new.self c.intern-13.new.self c.intern-13.new.self c.intern-13.ensures.extends t13 in
    let t11 = Extends-trans c.intern-11.new.self c.intern-12.new.self c.intern-13.new.self c.intern-12.ensures.extends t12 in
    let t10 = Extends-trans c.intern-10.new.self c.intern-11.new.self c.intern-13.new.self c.intern-11.ensures.extends t11 in
    let t9 = Extends-trans c.intern-9.new.self c.intern-10.new.self c.intern-13.new.self c.intern-10.ensures.extends t10 in
    let t8 = Extends-trans c.intern-8.new.self c.intern-9.new.self c.intern-13.new.self c.intern-9.ensures.extends t9 in
    let t7 = Extends-trans c.intern-7.new.self c.intern-8.new.self c.intern-13.new.self c.intern-8.ensures.extends t8 in
    let t6 = Extends-trans c.intern-6.new.self c.intern-7.new.self c.intern-13.new.self c.intern-7.ensures.extends t7 in
    let t5 = Extends-trans c.intern-5.new.self c.intern-6.new.self c.intern-13.new.self c.intern-6.ensures.extends t6 in
    let t4 = Extends-trans c.intern-4.new.self c.intern-5.new.self c.intern-13.new.self c.intern-5.ensures.extends t5 in
    let t3 = Extends-trans c.intern-3.new.self c.intern-4.new.self c.intern-13.new.self c.intern-4.ensures.extends t4 in
    let t2 = Extends-trans c.intern-2.new.self c.intern-3.new.self c.intern-13.new.self c.intern-3.ensures.extends t3 in
    let t1 = Extends-trans c.intern.new.self c.intern-2.new.self c.intern-13.new.self c.intern-2.ensures.extends t2 in
    are_events _ _
    (later c.intern.new.self c.intern-13.new.self t1 _ _ c.in_ok-add.ensures.id)
    (later c.intern-2.new.self c.intern-13.new.self t2 _ _ c.in_ok-sub.ensures.id)
    (later c.intern-3.new.self c.intern-13.new.self t3 _ _ c.in_ok-mul.ensures.id)
    (later c.intern-4.new.self c.intern-13.new.self t4 _ _ c.in_ok-div.ensures.id)
    (later c.intern-5.new.self c.intern-13.new.self t5 _ _ c.in_ok-modulo.ensures.id)
    (later c.intern-6.new.self c.intern-13.new.self t6 _ _ c.in_ok-pow.ensures.id)
    (later c.intern-7.new.self c.intern-13.new.self t7 _ _ c.in_ok-minus.ensures.id)
    (later c.intern-8.new.self c.intern-13.new.self t8 _ _ c.in_ok-concat.ensures.id)
    (later c.intern-9.new.self c.intern-13.new.self t9 _ _ c.in_ok-equal.ensures.id)
    (later c.intern-10.new.self c.intern-13.new.self t10 _ _ c.in_ok-less.ensures.id)
    (later c.intern-11.new.self c.intern-13.new.self t11 _ _ c.in_ok-up_to.ensures.id)
    (later c.intern-12.new.self c.intern-13.new.self t12 _ _ c.in_ok-call.ensures.id)
    (later c.intern-13.new.self c.intern-13.new.self t13 _ _ c.in_ok-text.ensures.id)

pub returns-clause-extends : goal.returns-clause-extends
returns-clause-extends c =
    let t13 = Extends-same c.intern-13.new.self in
    let t12 = Extends-trans c.intern-12.new.self c.intern-13.new.self c.intern-13.new.self c.intern-13.ensures.extends t13 in
    let t11 = Extends-trans c.intern-11.new.self c.intern-12.new.self c.intern-13.new.self c.intern-12.ensures.extends t12 in
    let t10 = Extends-trans c.intern-10.new.self c.intern-11.new.self c.intern-13.new.self c.intern-11.ensures.extends t11 in
    let t9 = Extends-trans c.intern-9.new.self c.intern-10.new.self c.intern-13.new.self c.intern-10.ensures.extends t10 in
    let t8 = Extends-trans c.intern-8.new.self c.intern-9.new.self c.intern-13.new.self c.intern-9.ensures.extends t9 in
    let t7 = Extends-trans c.intern-7.new.self c.intern-8.new.self c.intern-13.new.self c.intern-8.ensures.extends t8 in
    let t6 = Extends-trans c.intern-6.new.self c.intern-7.new.self c.intern-13.new.self c.intern-7.ensures.extends t7 in
    let t5 = Extends-trans c.intern-5.new.self c.intern-6.new.self c.intern-13.new.self c.intern-6.ensures.extends t6 in
    let t4 = Extends-trans c.intern-4.new.self c.intern-5.new.self c.intern-13.new.self c.intern-5.ensures.extends t5 in
    let t3 = Extends-trans c.intern-3.new.self c.intern-4.new.self c.intern-13.new.self c.intern-4.ensures.extends t4 in
    let t2 = Extends-trans c.intern-2.new.self c.intern-3.new.self c.intern-13.new.self c.intern-3.ensures.extends t3 in
    let t1 = Extends-trans c.intern.new.self c.intern-2.new.self c.intern-13.new.self c.intern-2.ensures.extends t2 in
    Extends-trans c.args.heap.now c.intern.new.self c.intern-13.new.self c.intern.ensures.extends t1
