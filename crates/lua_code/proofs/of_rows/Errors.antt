-- Rows of the machine: errors, their places, and pcall (manual §2.7, §5.1). Written by checks/machine-rows/write.py.
use Rattle.std.proofs.Common.{refl}
use Rattle.std.specs.Fmt.{digits}
use Rattle.lua_value.specs.Arithmetic.{power}
use Rattle.lua_code.specs.rows.Errors.{Rows, Levels, LevelOne, ErrorValues, LevelTwoPcall, MainLevelTwo, PcallPcall, NotCalled, OperatorPlaces, CompareTexts, IndexTexts, NilKey, NumberFaults, ForTexts, ObjectEnd, NumberEnd, TextEnd, LibraryPlace, AssertPlain, HandlerError, ErrorThrough, Overflow, OverflowCaught, IteratorPlace, MethodPlace}

levels : Levels
unfolding digits power
levels = refl

level_one : LevelOne
unfolding digits power
level_one = refl

error_values : ErrorValues
unfolding digits power
error_values = refl

level_two_pcall : LevelTwoPcall
unfolding digits power
level_two_pcall = refl

main_level_two : MainLevelTwo
unfolding digits power
main_level_two = refl

pcall_pcall : PcallPcall
unfolding digits power
pcall_pcall = refl

not_called : NotCalled
unfolding digits power
not_called = refl

operator_places : OperatorPlaces
unfolding digits power
operator_places = refl

compare_texts : CompareTexts
unfolding digits power
compare_texts = refl

index_texts : IndexTexts
unfolding digits power
index_texts = refl

nil_key : NilKey
unfolding digits power
nil_key = refl

number_faults : NumberFaults
unfolding digits power
number_faults = refl

for_texts : ForTexts
unfolding digits power
for_texts = refl

object_end : ObjectEnd
unfolding digits power
object_end = refl

number_end : NumberEnd
unfolding digits power
number_end = refl

text_end : TextEnd
unfolding digits power
text_end = refl

library_place : LibraryPlace
unfolding digits power
library_place = refl

assert_plain : AssertPlain
unfolding digits power
assert_plain = refl

handler_error : HandlerError
unfolding digits power
handler_error = refl

error_through : ErrorThrough
unfolding digits power
error_through = refl

overflow : Overflow
unfolding digits power
overflow = refl

overflow_caught : OverflowCaught
unfolding digits power
overflow_caught = refl

iterator_place : IteratorPlace
unfolding digits power
iterator_place = refl

method_place : MethodPlace
unfolding digits power
method_place = refl

pub rows_of_errors : Rows
rows_of_errors = record {
  levels =
      levels;
  level_one = level_one;
  error_values = error_values;
  level_two_pcall = level_two_pcall;
  main_level_two = main_level_two;
  pcall_pcall = pcall_pcall;
  not_called = not_called;
  operator_places = operator_places;
  compare_texts = compare_texts;
  index_texts = index_texts;
  nil_key = nil_key;
  number_faults = number_faults;
  for_texts = for_texts;
  object_end =
      object_end;
  number_end = number_end;
  text_end = text_end;
  library_place = library_place;
  assert_plain = assert_plain;
  handler_error = handler_error;
  error_through = error_through;
  overflow = overflow;
  overflow_caught = overflow_caught;
  iterator_place = iterator_place;
  method_place = method_place;
}
