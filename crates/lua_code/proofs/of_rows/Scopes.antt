-- Rows of the machine: locals, closures and loops (manual §2.4, §2.6). Written by checks/machine-rows/write.py.
use Rattle.std.proofs.Common.{refl}
use Rattle.std.specs.Fmt.{digits}
use Rattle.lua_value.specs.Arithmetic.{power}
use Rattle.lua_code.specs.rows.Scopes.{Rows, LoopClosures, Shared, Hidden, RepeatScope, RepeatCaptured, Recursive, WhileClosures, EachClosures, BreakOuter, ReturnInner, Downwards, TextFor, ChangedCounter, LastNumbers, Globals, NamedFunctions, NoCells, LoopCells, ParameterCells, TwiceDeclared, ElseArms}

loop_closures : LoopClosures
unfolding digits power
loop_closures = refl

shared : Shared
unfolding digits power
shared = refl

hidden : Hidden
unfolding digits power
hidden = refl

repeat_scope : RepeatScope
unfolding digits power
repeat_scope = refl

repeat_captured : RepeatCaptured
unfolding digits power
repeat_captured = refl

recursive : Recursive
unfolding digits power
recursive = refl

while_closures : WhileClosures
unfolding digits power
while_closures = refl

each_closures : EachClosures
unfolding digits power
each_closures = refl

break_outer : BreakOuter
unfolding digits power
break_outer = refl

return_inner : ReturnInner
unfolding digits power
return_inner = refl

downwards : Downwards
unfolding digits power
downwards = refl

text_for : TextFor
unfolding digits power
text_for = refl

changed_counter : ChangedCounter
unfolding digits power
changed_counter = refl

last_numbers : LastNumbers
unfolding digits power
last_numbers = refl

globals : Globals
unfolding digits power
globals = refl

named_functions : NamedFunctions
unfolding digits power
named_functions = refl

no_cells : NoCells
unfolding digits power
no_cells = refl

loop_cells : LoopCells
unfolding digits power
loop_cells = refl

parameter_cells : ParameterCells
unfolding digits power
parameter_cells = refl

twice_declared : TwiceDeclared
unfolding digits power
twice_declared = refl

else_arms : ElseArms
unfolding digits power
else_arms = refl

pub rows_of_scopes : Rows
rows_of_scopes = record {
  loop_closures =
      loop_closures;
  shared = shared;
  hidden = hidden;
  repeat_scope = repeat_scope;
  repeat_captured =
      repeat_captured;
  recursive = recursive;
  while_closures = while_closures;
  each_closures =
      each_closures;
  break_outer = break_outer;
  return_inner = return_inner;
  downwards = downwards;
  text_for = text_for;
  changed_counter = changed_counter;
  last_numbers = last_numbers;
  globals =
      globals;
  named_functions = named_functions;
  no_cells = no_cells;
  loop_cells = loop_cells;
  parameter_cells = parameter_cells;
  twice_declared = twice_declared;
  else_arms = else_arms;
}
