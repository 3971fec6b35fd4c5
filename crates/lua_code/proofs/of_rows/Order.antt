-- Rows of the machine: order of evaluation, assignment and lists (manual §2.4.3, §2.5). Written by checks/machine-rows/write.py.
use Rattle.std.proofs.Common.{refl}
use Rattle.std.specs.Fmt.{digits}
use Rattle.lua_value.specs.Arithmetic.{power}
use Rattle.lua_code.specs.rows.Order.{Rows, Swap, Operands, Arguments, Fields, Targets, LastFirst, SameTarget, AndOr, Middle, Fewer, Varargs, Powers, Greater, MethodOrder, ConcatOrder}

swap : Swap
unfolding digits power
swap = refl

operands : Operands
unfolding digits power
operands = refl

arguments : Arguments
unfolding digits power
arguments = refl

fields : Fields
unfolding digits power
fields = refl

targets : Targets
unfolding digits power
targets = refl

last_first : LastFirst
unfolding digits power
last_first = refl

same_target : SameTarget
unfolding digits power
same_target = refl

and_or : AndOr
unfolding digits power
and_or = refl

middle : Middle
unfolding digits power
middle = refl

fewer : Fewer
unfolding digits power
fewer = refl

varargs : Varargs
unfolding digits power
varargs = refl

powers : Powers
unfolding digits power
powers = refl

greater : Greater
unfolding digits power
greater = refl

method_order : MethodOrder
unfolding digits power
method_order = refl

concat_order : ConcatOrder
unfolding digits power
concat_order = refl

pub rows_of_order : Rows
rows_of_order = record {
  swap =
      swap;
  operands = operands;
  arguments = arguments;
  fields = fields;
  targets = targets;
  last_first = last_first;
  same_target = same_target;
  and_or = and_or;
  middle = middle;
  fewer =
      fewer;
  varargs = varargs;
  powers = powers;
  greater = greater;
  method_order = method_order;
  concat_order = concat_order;
}
