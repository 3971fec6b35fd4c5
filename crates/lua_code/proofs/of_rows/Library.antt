-- Rows of the machine: functions of the library (manual §5). Written by checks/machine-rows/write.py.
use Rattle.std.proofs.Common.{refl}
use Rattle.std.specs.Fmt.{digits}
use Rattle.lua_value.specs.Arithmetic.{power}
use Rattle.lua_code.specs.rows.Library.{Rows, Format, FormatMore, FormatFaults, Numbers, TonumberMore, Sorted, SortTexts, NoPatterns, Found, Subs, Bytes, Insertions, Removals, Joins, Maxn, Walks, ClearedWalk, NextFaults, IpairsStop, Selects, Unpacks, Maths, Types, Absent, ConcatNumbers, TextOrder, TooLong, Remainders}

format : Format
unfolding digits power
format = refl

format_more : FormatMore
unfolding digits power
format_more = refl

format_faults : FormatFaults
unfolding digits power
format_faults = refl

numbers : Numbers
unfolding digits power
numbers = refl

tonumber_more : TonumberMore
unfolding digits power
tonumber_more = refl

sorted : Sorted
unfolding digits power
sorted = refl

sort_texts : SortTexts
unfolding digits power
sort_texts = refl

no_patterns : NoPatterns
unfolding digits power
no_patterns = refl

found : Found
unfolding digits power
found = refl

subs : Subs
unfolding digits power
subs = refl

bytes : Bytes
unfolding digits power
bytes = refl

insertions : Insertions
unfolding digits power
insertions = refl

removals : Removals
unfolding digits power
removals = refl

joins : Joins
unfolding digits power
joins = refl

maxn : Maxn
unfolding digits power
maxn = refl

walks : Walks
unfolding digits power
walks = refl

cleared_walk : ClearedWalk
unfolding digits power
cleared_walk = refl

next_faults : NextFaults
unfolding digits power
next_faults = refl

ipairs_stop : IpairsStop
unfolding digits power
ipairs_stop = refl

selects : Selects
unfolding digits power
selects = refl

unpacks : Unpacks
unfolding digits power
unpacks = refl

maths : Maths
unfolding digits power
maths = refl

types : Types
unfolding digits power
types = refl

absent : Absent
unfolding digits power
absent = refl

concat_numbers : ConcatNumbers
unfolding digits power
concat_numbers = refl

text_order : TextOrder
unfolding digits power
text_order = refl

too_long : TooLong
unfolding digits power
too_long = refl

remainders : Remainders
unfolding digits power
remainders = refl

pub rows_of_library : Rows
rows_of_library = record {
  format =
      format;
  format_more = format_more;
  format_faults = format_faults;
  numbers = numbers;
  tonumber_more = tonumber_more;
  sorted = sorted;
  sort_texts = sort_texts;
  no_patterns =
      no_patterns;
  found = found;
  subs = subs;
  bytes = bytes;
  insertions = insertions;
  removals =
      removals;
  joins = joins;
  maxn = maxn;
  walks = walks;
  cleared_walk = cleared_walk;
  next_faults =
      next_faults;
  ipairs_stop = ipairs_stop;
  selects = selects;
  unpacks = unpacks;
  maths = maths;
  types = types;
  absent = absent;
  concat_numbers = concat_numbers;
  text_order = text_order;
  too_long = too_long;
  remainders = remainders;
}
