-- The functions of the library: where each one stands, and by which name.
use Rattle.std.specs.Prelude.{ℕ, Bool, true, false, List, [], ◌∷◌, ◌&&◌, codes, bytes_eq, nat_eq, filter, Option, Some, None, if◌then◌else◌}

-- where a function stands: among the globals, in a table of the library, among the methods of Channels, of Threads, of
-- Data or of all three, or nowhere: what `ipairs` and `love.event.poll` give to walk with
pub data Shelf : Type 0 where
  globals : Shelf
  string_table : Shelf
  table_table : Shelf
  math_table : Shelf
  love_thread : Shelf
  love_data : Shelf
  love_filesystem : Shelf
  love_event : Shelf
  channel_methods : Shelf
  thread_methods : Shelf
  data_methods : Shelf
  object_methods : Shelf
  walks : Shelf

-- the functions of Lua's library that there are (manual §5), and those of LÖVE's modules and objects (LÖVE wiki)
pub data Native : Type 0 where
  assert : Native
  collectgarbage : Native
  error : Native
  getmetatable : Native
  ipairs : Native
  next : Native
  pairs : Native
  pcall : Native
  print : Native
  rawequal : Native
  rawget : Native
  rawset : Native
  require : Native
  select : Native
  setmetatable : Native
  tonumber : Native
  tostring : Native
  type : Native
  unpack : Native
  string_byte : Native
  string_char : Native
  string_find : Native
  string_format : Native
  string_len : Native
  string_lower : Native
  string_rep : Native
  string_reverse : Native
  string_sub : Native
  string_upper : Native
  table_concat : Native
  table_insert : Native
  table_maxn : Native
  table_remove : Native
  table_sort : Native
  math_abs : Native
  math_ceil : Native
  math_floor : Native
  math_fmod : Native
  math_max : Native
  math_min : Native
  math_pow : Native
  love_thread_get_channel : Native
  love_thread_new_channel : Native
  love_thread_new_thread : Native
  love_data_new_byte_data : Native
  love_data_new_data_view : Native
  love_filesystem_new_file_data : Native
  love_filesystem_read : Native
  love_event_clear : Native
  love_event_poll : Native
  love_event_pump : Native
  love_event_push : Native
  love_event_quit : Native
  channel_clear : Native
  channel_demand : Native
  channel_get_count : Native
  channel_has_read : Native
  channel_peek : Native
  channel_perform_atomic : Native
  channel_pop : Native
  channel_push : Native
  channel_supply : Native
  thread_get_error : Native
  thread_is_running : Native
  thread_start : Native
  thread_wait : Native
  data_get_filename : Native
  data_get_size : Native
  data_get_string : Native
  object_type : Native
  object_type_of : Native
  ipairs_walk : Native
  poll_walk : Native

-- where a function stands
abbrev pub shelf : Native → Shelf
shelf assert = globals
shelf collectgarbage = globals
shelf error = globals
shelf getmetatable = globals
shelf ipairs = globals
shelf next = globals
shelf pairs = globals
shelf pcall = globals
shelf print = globals
shelf rawequal = globals
shelf rawget = globals
shelf rawset = globals
shelf require = globals
shelf select = globals
shelf setmetatable = globals
shelf tonumber = globals
shelf tostring = globals
shelf type = globals
shelf unpack = globals
shelf string_byte = string_table
shelf string_char = string_table
shelf string_find = string_table
shelf string_format = string_table
shelf string_len = string_table
shelf string_lower = string_table
shelf string_rep = string_table
shelf string_reverse = string_table
shelf string_sub = string_table
shelf string_upper = string_table
shelf table_concat = table_table
shelf table_insert = table_table
shelf table_maxn = table_table
shelf table_remove = table_table
shelf table_sort = table_table
shelf math_abs = math_table
shelf math_ceil = math_table
shelf math_floor = math_table
shelf math_fmod = math_table
shelf math_max = math_table
shelf math_min = math_table
shelf math_pow = math_table
shelf love_thread_get_channel = love_thread
shelf love_thread_new_channel = love_thread
shelf love_thread_new_thread = love_thread
shelf love_data_new_byte_data = love_data
shelf love_data_new_data_view = love_data
shelf love_filesystem_new_file_data = love_filesystem
shelf love_filesystem_read = love_filesystem
shelf love_event_clear = love_event
shelf love_event_poll = love_event
shelf love_event_pump = love_event
shelf love_event_push = love_event
shelf love_event_quit = love_event
shelf channel_clear = channel_methods
shelf channel_demand = channel_methods
shelf channel_get_count = channel_methods
shelf channel_has_read = channel_methods
shelf channel_peek = channel_methods
shelf channel_perform_atomic = channel_methods
shelf channel_pop = channel_methods
shelf channel_push = channel_methods
shelf channel_supply = channel_methods
shelf thread_get_error = thread_methods
shelf thread_is_running = thread_methods
shelf thread_start = thread_methods
shelf thread_wait = thread_methods
shelf data_get_filename = data_methods
shelf data_get_size = data_methods
shelf data_get_string = data_methods
shelf object_type = object_methods
shelf object_type_of = object_methods
shelf ipairs_walk = walks
shelf poll_walk = walks

-- the name by which it stands there, which errors name too
abbrev pub name : Native → List ℕ
name assert = codes "assert"
name collectgarbage = codes "collectgarbage"
name error = codes "error"
name getmetatable = codes "getmetatable"
name ipairs = codes "ipairs"
name next = codes "next"
name pairs = codes "pairs"
name pcall = codes "pcall"
name print = codes "print"
name rawequal = codes "rawequal"
name rawget = codes "rawget"
name rawset = codes "rawset"
name require = codes "require"
name select = codes "select"
name setmetatable = codes "setmetatable"
name tonumber = codes "tonumber"
name tostring = codes "tostring"
name type = codes "type"
name unpack = codes "unpack"
name string_byte = codes "byte"
name string_char = codes "char"
name string_find = codes "find"
name string_format = codes "format"
name string_len = codes "len"
name string_lower = codes "lower"
name string_rep = codes "rep"
name string_reverse = codes "reverse"
name string_sub = codes "sub"
name string_upper = codes "upper"
name table_concat = codes "concat"
name table_insert = codes "insert"
name table_maxn = codes "maxn"
name table_remove = codes "remove"
name table_sort = codes "sort"
name math_abs = codes "abs"
name math_ceil = codes "ceil"
name math_floor = codes "floor"
name math_fmod = codes "fmod"
name math_max = codes "max"
name math_min = codes "min"
name math_pow = codes "pow"
name love_thread_get_channel = codes "getChannel"
name love_thread_new_channel = codes "newChannel"
name love_thread_new_thread = codes "newThread"
name love_data_new_byte_data = codes "newByteData"
name love_data_new_data_view = codes "newDataView"
name love_filesystem_new_file_data = codes "newFileData"
name love_filesystem_read = codes "read"
name love_event_clear = codes "clear"
name love_event_poll = codes "poll"
name love_event_pump = codes "pump"
name love_event_push = codes "push"
name love_event_quit = codes "quit"
name channel_clear = codes "clear"
name channel_demand = codes "demand"
name channel_get_count = codes "getCount"
name channel_has_read = codes "hasRead"
name channel_peek = codes "peek"
name channel_perform_atomic = codes "performAtomic"
name channel_pop = codes "pop"
name channel_push = codes "push"
name channel_supply = codes "supply"
name thread_get_error = codes "getError"
name thread_is_running = codes "isRunning"
name thread_start = codes "start"
name thread_wait = codes "wait"
name data_get_filename = codes "getFilename"
name data_get_size = codes "getSize"
name data_get_string = codes "getString"
name object_type = codes "type"
name object_type_of = codes "typeOf"
name ipairs_walk = codes "ipairs"
name poll_walk = codes "poll"

-- all of them, shelf by shelf
abbrev pub all : List Native
all =
    assert ∷ collectgarbage ∷ error ∷ getmetatable ∷ ipairs ∷ next ∷ pairs ∷ pcall ∷ print ∷
    rawequal ∷ rawget ∷ rawset ∷ require ∷ select ∷ setmetatable ∷ tonumber ∷ tostring ∷ type ∷
    unpack ∷
    string_byte ∷ string_char ∷ string_find ∷ string_format ∷ string_len ∷ string_lower ∷
    string_rep ∷ string_reverse ∷ string_sub ∷ string_upper ∷
    table_concat ∷ table_insert ∷ table_maxn ∷ table_remove ∷ table_sort ∷
    math_abs ∷ math_ceil ∷ math_floor ∷ math_fmod ∷ math_max ∷ math_min ∷ math_pow ∷
    love_thread_get_channel ∷ love_thread_new_channel ∷ love_thread_new_thread ∷
    love_data_new_byte_data ∷ love_data_new_data_view ∷
    love_filesystem_new_file_data ∷ love_filesystem_read ∷
    love_event_clear ∷ love_event_poll ∷ love_event_pump ∷ love_event_push ∷ love_event_quit ∷
    channel_clear ∷ channel_demand ∷ channel_get_count ∷ channel_has_read ∷ channel_peek ∷
    channel_perform_atomic ∷ channel_pop ∷ channel_push ∷ channel_supply ∷
    thread_get_error ∷ thread_is_running ∷ thread_start ∷ thread_wait ∷
    data_get_filename ∷ data_get_size ∷ data_get_string ∷
    object_type ∷ object_type_of ∷
    ipairs_walk ∷ poll_walk ∷ []

-- the number of a shelf
abbrev pub shelf_number : Shelf → ℕ
shelf_number globals = 0
shelf_number string_table = 1
shelf_number table_table = 2
shelf_number math_table = 3
shelf_number love_thread = 4
shelf_number love_data = 5
shelf_number love_filesystem = 6
shelf_number love_event = 7
shelf_number channel_methods = 8
shelf_number thread_methods = 9
shelf_number data_methods = 10
shelf_number object_methods = 11
shelf_number walks = 12

abbrev pub same_shelf : Shelf → Shelf → Bool
same_shelf a b = nat_eq (shelf_number a) (shelf_number b)

-- two functions are the same one where shelf and name are
abbrev pub same_native : Native → Native → Bool
same_native f g = same_shelf (shelf f) (shelf g) && bytes_eq (name f) (name g)

-- the functions of a shelf
abbrev pub on_shelf : Shelf → List Native
on_shelf s = filter (λ f. same_shelf (shelf f) s) all

-- the first of some functions that has a name
abbrev pub named : List ℕ → List Native → Option Native
named key [] = None
named key (f ∷ fs) = if bytes_eq (name f) key then Some f else named key fs

-- whether the functions of a shelf are methods
abbrev pub is_method_shelf : Shelf → Bool
is_method_shelf channel_methods = true
is_method_shelf thread_methods = true
is_method_shelf data_methods = true
is_method_shelf object_methods = true
is_method_shelf s = false

-- the methods, whose object counts as argument number 0
abbrev pub is_method : Native → Bool
is_method f = is_method_shelf (shelf f)
