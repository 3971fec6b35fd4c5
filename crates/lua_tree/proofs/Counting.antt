-- What tokens make unavoidable, and what is counted at the nodes that they make.
use Rattle.std.proofs.Common.{ℕ, suc, ◌+◌, ◌≤◌, ◌≡◌, refl, ap, max, length, List, Bool, true, false, arith}
use Rattle.lua_tree.specs.Tree.{Bytes, Expr}
use Rattle.lua_tree.specs.Attributes.{Limit, breaks, varargs, nodes, locals, calls, Counts, under, looped, named, inside, node, at_dots, at_call, at_end, at_break, most, height}
use Rattle.lua_tree.specs.Reading.{deep, many, for_dots, for_break, opening, held}
use Rattle.lua_tree.proofs.Heights.{raised, node_in}

pub one_deep : (x : Limit) (c : Counts) → deep (suc (c nodes)) x ≡ node x (c x)
one_deep breaks c = refl
one_deep varargs c = refl
one_deep nodes c = refl
one_deep locals c = refl
one_deep calls c = refl

pub two_deep : (x : Limit) (c : Counts) → deep (c nodes + 2) x ≡ node x (under x (c x))
two_deep breaks c = refl
two_deep varargs c = refl
two_deep nodes c = omega arith
two_deep locals c = refl
two_deep calls c = refl

pub dots_need : (x : Limit) (c : Counts) → for_dots c x ≡ max (node x (c x)) (at_dots x (c x))
dots_need breaks c = omega arith
dots_need varargs c = omega arith
dots_need nodes c = omega arith
dots_need locals c = omega arith
dots_need calls c = omega arith

pub break_need : (x : Limit) (c : Counts) → for_break c x ≡ at_break x (c x)
break_need breaks c = refl
break_need varargs c = refl
break_need nodes c = refl
break_need locals c = refl
break_need calls c = refl

pub many_is : (x : Limit) (n : ℕ) → many n x ≡ at_end x n
many_is breaks n = refl
many_is varargs n = refl
many_is nodes n = refl
many_is locals n = refl
many_is calls n = refl

pub many_more : (x : Limit) (c : Counts) → many (suc (c locals)) x ≡ at_end x (suc (c x))
many_more breaks c = refl
many_more varargs c = refl
many_more nodes c = refl
many_more locals c = refl
many_more calls c = refl

pub end_up : (x : Limit) (n m : ℕ) → n ≤ m → at_end x n ≤ at_end x m
end_up breaks n m h = omega arith
end_up varargs n m h = omega arith
end_up nodes n m h = omega arith
end_up locals n m h = omega (arith, h)
end_up calls n m h = omega arith

pub end_of_named : (x : Limit) (k n : ℕ) → at_end x (named x k n) ≡ at_end x (n + k)
end_of_named breaks k n = refl
end_of_named varargs k n = refl
end_of_named nodes k n = refl
end_of_named locals k n = refl
end_of_named calls k n = refl

pub end_of_looped : (x : Limit) (k n : ℕ) → at_end x (looped x k n) ≡ at_end x (n + k)
end_of_looped breaks k n = refl
end_of_looped varargs k n = refl
end_of_looped nodes k n = refl
end_of_looped locals k n = refl
end_of_looped calls k n = refl

pub end_under : (x : Limit) (n : ℕ) → at_end x (under x n) ≡ at_end x n
end_under breaks n = refl
end_under varargs n = refl
end_under nodes n = refl
end_under locals n = refl
end_under calls n = refl

pub end_at : (x : Limit) (n m : ℕ) → n ≡ m → at_end x n ≡ at_end x m
end_at x n m e = ap (at_end x) e

pub end_inside : (x : Limit) (ps : List Bytes) (d : Bool) (n : ℕ) → at_end x (inside x ps d n) ≡ at_end x (length ps)
end_inside breaks ps d n = refl
end_inside varargs ps true n = refl
end_inside varargs ps false n = refl
end_inside nodes ps d n = refl
end_inside locals ps d n = refl
end_inside calls ps d n = refl

-- a node in a node
pub node_under : (x : Limit) (n : ℕ) → node x n ≤ node x (under x n)
node_under breaks n = omega arith
node_under varargs n = omega arith
node_under nodes n = omega arith
node_under locals n = omega arith
node_under calls n = omega arith

pub node_below : (x : Limit) (n : ℕ) (e : Expr) → node x n ≤ most x (under x n) e
node_below x n e = let a = node_under x n in let b = node_in x (under x n) e in omega (arith, a, b)

-- a function's block is a node in its node
pub two_in_function : (x : Limit) (n : ℕ) → node x n ≤ node x (under x n)
two_in_function x n = node_under x n

pub pushed_held : (x : Limit) (b : Bool) (c : Counts) (a : Expr)
    → max (most x (held b c x) a) (deep (suc (c nodes) + height a) x) ≡ most x (under x (c x)) a
pushed_held breaks true c a = omega arith
pushed_held breaks false c a = omega arith
pushed_held varargs true c a = omega arith
pushed_held varargs false c a = omega arith
pushed_held nodes true c a = let y = raised (suc (c nodes)) a in omega (arith, y)
pushed_held nodes false c a = let x = raised (c nodes) a in let y = raised (suc (c nodes)) a in omega (arith, x, y)
pushed_held locals true c a = omega arith
pushed_held locals false c a = omega arith
pushed_held calls true c a = omega arith
pushed_held calls false c a = omega arith

pub opened : (x : Limit) (b b2 : Bool) (c : Counts) (a : Expr) (line : ℕ)
    → max (most x (held b c x) a) (opening (suc (held b2 c nodes) + height a) line x) ≡ max (at_call x line) (most x (under x (held b2 c x)) a)
opened breaks true true c a line = omega arith
opened breaks true false c a line = omega arith
opened breaks false true c a line = omega arith
opened breaks false false c a line = omega arith
opened varargs true true c a line = omega arith
opened varargs true false c a line = omega arith
opened varargs false true c a line = omega arith
opened varargs false false c a line = omega arith
opened nodes true true c a line = let y = raised (suc (c nodes)) a in let z = raised (suc (suc (c nodes))) a in omega (arith, y, z)
opened nodes true false c a line = let y = raised (suc (c nodes)) a in omega (arith, y)
opened nodes false true c a line = let x = raised (c nodes) a in let y = raised (suc (suc (c nodes))) a in omega (arith, x, y)
opened nodes false false c a line = let x = raised (c nodes) a in let y = raised (suc (c nodes)) a in omega (arith, x, y)
opened locals true true c a line = omega arith
opened locals true false c a line = omega arith
opened locals false true c a line = omega arith
opened locals false false c a line = omega arith
opened calls true true c a line = omega arith
opened calls true false c a line = omega arith
opened calls false true c a line = omega arith
opened calls false false c a line = omega arith

pub deep_opening : (x : Limit) (n line : ℕ) → deep n x ≤ opening n line x
deep_opening breaks n line = omega arith
deep_opening varargs n line = omega arith
deep_opening nodes n line = omega arith
deep_opening locals n line = omega arith
deep_opening calls n line = omega arith

pub node_opening : (x : Limit) (c : Counts) (n line : ℕ) → suc (c nodes) ≤ n → node x (c x) ≤ opening n line x
node_opening breaks c n line h = omega arith
node_opening varargs c n line h = omega arith
node_opening nodes c n line h = omega (arith, h)
node_opening locals c n line h = omega arith
node_opening calls c n line h = omega arith

pub end_none : (x : Limit) → at_end x 0 ≡ 0
end_none breaks = refl
end_none varargs = refl
end_none nodes = refl
end_none locals = refl
end_none calls = refl
