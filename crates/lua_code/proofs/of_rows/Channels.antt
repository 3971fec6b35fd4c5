-- Rows of the machine: asks of Channels and their replies (LÖVE wiki, `Channel`). Written by checks/machine-rows/write.py.
use Rattle.std.proofs.Common.{refl}
use Rattle.std.specs.Fmt.{digits}
use Rattle.lua_value.specs.Arithmetic.{power}
use Rattle.lua_code.specs.rows.Channels.{Rows, Counts, FirstAsk, AfterReply, Clears, OddIds, NilMessage, Copied, NotSent, Sections, WaitsInside, SectionResults, RefusedPush, Demanding, Timeouts, Supplied, DataValues, Names, DeepTables, BadObjects}

counts : Counts
unfolding digits power
counts = refl

first_ask : FirstAsk
unfolding digits power
first_ask = refl

after_reply : AfterReply
unfolding digits power
after_reply = refl

clears : Clears
unfolding digits power
clears = refl

odd_ids : OddIds
unfolding digits power
odd_ids = refl

nil_message : NilMessage
unfolding digits power
nil_message = refl

copied : Copied
unfolding digits power
copied = refl

not_sent : NotSent
unfolding digits power
not_sent = refl

sections : Sections
unfolding digits power
sections = refl

waits_inside : WaitsInside
unfolding digits power
waits_inside = refl

section_results : SectionResults
unfolding digits power
section_results = refl

refused_push : RefusedPush
unfolding digits power
refused_push = refl

demanding : Demanding
unfolding digits power
demanding = refl

timeouts : Timeouts
unfolding digits power
timeouts = refl

supplied : Supplied
unfolding digits power
supplied = refl

data_values : DataValues
unfolding digits power
data_values = refl

names : Names
unfolding digits power
names = refl

deep_tables : DeepTables
unfolding digits power
deep_tables = refl

bad_objects : BadObjects
unfolding digits power
bad_objects = refl

pub rows_of_channels : Rows
rows_of_channels = record {
  counts =
      counts;
  first_ask = first_ask;
  after_reply = after_reply;
  clears = clears;
  odd_ids = odd_ids;
  nil_message = nil_message;
  copied = copied;
  not_sent = not_sent;
  sections = sections;
  waits_inside = waits_inside;
  section_results = section_results;
  refused_push = refused_push;
  demanding = demanding;
  timeouts = timeouts;
  supplied = supplied;
  data_values = data_values;
  names = names;
  deep_tables = deep_tables;
  bad_objects = bad_objects;
}
