-- Rows of the machine: metamethods (manual §2.8). Written by checks/machine-rows/write.py.
use Rattle.std.proofs.Common.{refl}
use Rattle.std.specs.Fmt.{digits}
use Rattle.lua_value.specs.Arithmetic.{power}
use Rattle.lua_code.specs.rows.Handlers.{Rows, IndexCall, Chain, IndexLoop, NewindexTable, ArithmeticEvents, FirstOperand, Equality, OrderEvents, LeEvent, ConcatMiddle, TostringEvent, TostringBad, Protected, TextMethods, CallChain, HandlerCalled, Raw, LengthIgnored}

index_call : IndexCall
unfolding digits power
index_call = refl

chain : Chain
unfolding digits power
chain = refl

index_loop : IndexLoop
unfolding digits power
index_loop = refl

newindex_table : NewindexTable
unfolding digits power
newindex_table = refl

arithmetic_events : ArithmeticEvents
unfolding digits power
arithmetic_events = refl

first_operand : FirstOperand
unfolding digits power
first_operand = refl

equality : Equality
unfolding digits power
equality = refl

order_events : OrderEvents
unfolding digits power
order_events = refl

le_event : LeEvent
unfolding digits power
le_event = refl

concat_middle : ConcatMiddle
unfolding digits power
concat_middle = refl

tostring_event : TostringEvent
unfolding digits power
tostring_event = refl

tostring_bad : TostringBad
unfolding digits power
tostring_bad = refl

protected : Protected
unfolding digits power
protected = refl

text_methods : TextMethods
unfolding digits power
text_methods = refl

call_chain : CallChain
unfolding digits power
call_chain = refl

handler_called : HandlerCalled
unfolding digits power
handler_called = refl

raw : Raw
unfolding digits power
raw = refl

length_ignored : LengthIgnored
unfolding digits power
length_ignored = refl

pub rows_of_handlers : Rows
rows_of_handlers = record {
  index_call =
      index_call;
  chain = chain;
  index_loop = index_loop;
  newindex_table = newindex_table;
  arithmetic_events = arithmetic_events;
  first_operand = first_operand;
  equality = equality;
  order_events = order_events;
  le_event = le_event;
  concat_middle = concat_middle;
  tostring_event
      = tostring_event;
  tostring_bad = tostring_bad;
  protected = protected;
  text_methods =
      text_methods;
  call_chain = call_chain;
  handler_called = handler_called;
  raw = raw;
  length_ignored = length_ignored;
}
