-- Rows of the machine: ticks: a statement, a turn of a loop and a call take one each. Written by checks/machine-rows/write.py.
use Rattle.std.proofs.Common.{refl}
use Rattle.std.specs.Fmt.{digits}
use Rattle.lua_value.specs.Arithmetic.{power}
use Rattle.lua_code.specs.rows.Ticks.{Rows, Ten, Nine, Six, Five, OnePrint, OneShort, ForEver, Nothing, PcallTicks, PcallShort, HandlerTicks, HandlerShort, TableHandlerTicks, CallEventTicks, NotCalledTicks, EachTicks, EachShort, RepeatTicks, StatementTicks, TostringTicks}

ten : Ten
unfolding digits power
ten = refl

nine : Nine
unfolding digits power
nine = refl

six : Six
unfolding digits power
six = refl

five : Five
unfolding digits power
five = refl

one_print : OnePrint
unfolding digits power
one_print = refl

one_short : OneShort
unfolding digits power
one_short = refl

for_ever : ForEver
unfolding digits power
for_ever = refl

nothing : Nothing
unfolding digits power
nothing = refl

pcall_ticks : PcallTicks
unfolding digits power
pcall_ticks = refl

pcall_short : PcallShort
unfolding digits power
pcall_short = refl

handler_ticks : HandlerTicks
unfolding digits power
handler_ticks = refl

handler_short : HandlerShort
unfolding digits power
handler_short = refl

table_handler_ticks : TableHandlerTicks
unfolding digits power
table_handler_ticks = refl

call_event_ticks : CallEventTicks
unfolding digits power
call_event_ticks = refl

not_called_ticks : NotCalledTicks
unfolding digits power
not_called_ticks = refl

each_ticks : EachTicks
unfolding digits power
each_ticks = refl

each_short : EachShort
unfolding digits power
each_short = refl

repeat_ticks : RepeatTicks
unfolding digits power
repeat_ticks = refl

statement_ticks : StatementTicks
unfolding digits power
statement_ticks = refl

tostring_ticks : TostringTicks
unfolding digits power
tostring_ticks = refl

pub rows_of_ticks : Rows
rows_of_ticks = record {
  ten =
      ten;
  nine = nine;
  six = six;
  five = five;
  one_print = one_print;
  one_short = one_short;
  for_ever = for_ever;
  nothing = nothing;
  pcall_ticks = pcall_ticks;
  pcall_short = pcall_short;
  handler_ticks = handler_ticks;
  handler_short = handler_short;
  table_handler_ticks =
      table_handler_ticks;
  call_event_ticks = call_event_ticks;
  not_called_ticks = not_called_ticks;
  each_ticks = each_ticks;
  each_short = each_short;
  repeat_ticks = repeat_ticks;
  statement_ticks
      = statement_ticks;
  tostring_ticks = tostring_ticks;
}
