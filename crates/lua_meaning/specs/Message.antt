-- What states send one another, what a program asks of the world that the states share, and the replies, as definitions
-- speak of them: the types of crate `variant`, without where they lie in memory (`MessageView` says which is which).
use Rattle.std.specs.Prelude.{ℕ, ℤ, Bool, List, Option}
use Rattle.love_base.specs.Data.{Contents}
use Rattle.variant.specs.declared.reply.Refusal.{Refusal}
use Rattle.lua_tree.specs.Tree.{Bytes}

mutual
  -- a message: a value that refers to nothing in a state (LÖVE wiki, `Channel:push`)
  pub data Message : Type 0 where
    nil : Message
    flag : Bool → Message
    num : ℤ → Message
    str : Bytes → Message
    datum : Contents → Message
    channel : (number : ℕ) → Message
    table : Pairs → Message

  -- the pairs of a table
  pub data Pairs : Type 0 where
    no_pairs : Pairs
    pair_and : (key value : Message) → Pairs → Pairs

-- what a Thread runs (LÖVE wiki, `love.thread.newThread`): a file of the game's folder, a FileData, or code
pub data Source : Type 0 where
  file : (path : Bytes) → Source
  file_data : Contents → Source
  code : (text : Bytes) → Source

-- an event (LÖVE wiki, `love.event`): one that a state pushed, or that a Thread failed
pub data Event : Type 0 where
  user : (event_name : Bytes) (args : List Message) → Event
  thread_error : (thread : ℕ) (text : Bytes) → Event

-- what is asked. A limit of a wait is in whole seconds
pub data Ask : Type 0 where
  push : (channel : ℕ) → Message → Ask
  supply : (channel : ℕ) → Message → Ask
  pop : (channel : ℕ) → Ask
  peek : (channel : ℕ) → Ask
  count : (channel : ℕ) → Ask
  has_read : (channel : ℕ) (id : ℤ) → Ask
  clear : (channel : ℕ) → Ask
  demand : (channel : ℕ) (limit : Option ℕ) → Ask
  await : (channel id : ℕ) (limit : Option ℕ) → Ask
  enter : (channel : ℕ) → Ask
  leave : (channel : ℕ) → Ask
  name : (text : Bytes) → Ask
  new_channel : Ask
  new_thread : Source → Ask
  start : (thread : ℕ) (args : List Message) → Ask
  is_running : (thread : ℕ) → Ask
  error_of : (thread : ℕ) → Ask
  wait_for : (thread : ℕ) → Ask
  event_push : (event_name : Bytes) (args : List Message) → Ask
  event_poll : Ask

-- what is replied. An event comes with the state that sent it and the number of its action
pub data Reply : Type 0 where
  done : Reply
  nothing : Reply
  flag : Bool → Reply
  id : ℕ → Reply
  number : ℕ → Reply
  value : Message → Reply
  channel : ℕ → Reply
  thread : ℕ → Reply
  words : Bytes → Reply
  event : (from action : ℕ) → Event → Reply
  refused : Refusal → Reply
