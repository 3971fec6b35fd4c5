-- The functions of the library that call nothing back and ask nothing: each is its definition.
use Rattle.std.specs.Prelude.{List, []}
use Rattle.lua_meaning.specs.Native.{Native}
use Rattle.lua_meaning.specs.Value.{Value}
use Rattle.lua_meaning.specs.Arguments.{Lib, answer}
use Rattle.lua_meaning.specs.Basic as basic
use Rattle.lua_meaning.specs.Strings as strings
use Rattle.lua_meaning.specs.Format as formats
use Rattle.lua_meaning.specs.Tables as tables
use Rattle.lua_meaning.specs.Math as maths
use Rattle.lua_meaning.specs.Data as datas

-- what a function answers to arguments; those that call back or ask stand elsewhere
abbrev pub library : Native → List Value → Lib (List Value)
library Native.assert args = basic.assert args
library Native.collectgarbage args = basic.collectgarbage args
library Native.getmetatable args = basic.getmetatable args
library Native.ipairs args = basic.ipairs args
library Native.ipairs_walk args = basic.walk_positions args
library Native.next args = basic.next_pair args
library Native.pairs args = basic.pairs args
library Native.rawequal args = basic.rawequal args
library Native.rawget args = basic.rawget args
library Native.rawset args = basic.rawset args
library Native.select args = basic.select args
library Native.setmetatable args = basic.setmetatable args
library Native.tonumber args = basic.tonumber args
library Native.type args = basic.type args
library Native.unpack args = basic.unpack args
library Native.string_byte args = strings.byte args
library Native.string_char args = strings.char args
library Native.string_find args = strings.find args
library Native.string_format args = formats.format args
library Native.string_len args = strings.len args
library Native.string_lower args = strings.lower args
library Native.string_rep args = strings.rep args
library Native.string_reverse args = strings.reversed args
library Native.string_sub args = strings.sub args
library Native.string_upper args = strings.upper args
library Native.table_concat args = tables.concat args
library Native.table_insert args = tables.insert_item args
library Native.table_maxn args = tables.maxn args
library Native.table_remove args = tables.remove_item args
library Native.table_sort args = tables.sort args
library Native.math_abs args = maths.abs args
library Native.math_ceil args = maths.whole args
library Native.math_floor args = maths.whole args
library Native.math_fmod args = maths.fmod args
library Native.math_max args = maths.greatest args
library Native.math_min args = maths.least args
library Native.math_pow args = maths.pow args
library Native.love_data_new_byte_data args = datas.new_byte_data args
library Native.love_data_new_data_view args = datas.new_data_view args
library Native.data_get_filename args = datas.get_filename args
library Native.data_get_size args = datas.get_size args
library Native.data_get_string args = datas.get_string args
library Native.object_type args = datas.type args
library Native.object_type_of args = datas.type_of args
library Native.love_event_pump args = answer []
library f args = answer []
