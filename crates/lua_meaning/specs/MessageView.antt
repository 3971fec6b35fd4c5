-- What the messages, asks and replies of crate `variant` are to these definitions.
use Rattle.std.specs.Prelude.{List, [], ◌∷◌, map}
use Rattle.variant.specs.declared.message.Variant.{Variant, fold-Variant}
use Rattle.variant.specs.declared.message.Variant.TheOpen.{Variant-F}
use Rattle.variant.specs.declared.source.Source as code
use Rattle.variant.specs.declared.source.Source.TheVariants as sources
use Rattle.variant.specs.declared.event.Event as happening
use Rattle.variant.specs.declared.event.Event.TheVariants as events
use Rattle.variant.specs.declared.ask.Ask as question
use Rattle.variant.specs.declared.ask.Ask.TheVariants as asks
use Rattle.variant.specs.declared.reply.Reply as answer
use Rattle.variant.specs.declared.reply.Reply.TheVariants as replies
use Rattle.lua_meaning.specs.Message.{Message, Pairs, no_pairs, pair_and, Source, Event, Ask, Reply}

abbrev pub pairs_of : List (Message × Message) → Pairs
pairs_of [] = no_pairs
pairs_of (pair ∷ pairs) = pair_and pair.0 pair.1 (pairs_of pairs)

-- a message's outermost layer, whose parts are seen already
abbrev pub layer_view : Variant-F Message → Message
layer_view Variant-F.Nil = Message.nil
layer_view (Variant-F.Bool b) = Message.flag b
layer_view (Variant-F.Num n) = Message.num n
layer_view (Variant-F.Bytes text) = Message.str text
layer_view (Variant-F.Data contents) = Message.datum contents
layer_view (Variant-F.Channel c) = Message.channel c
layer_view (Variant-F.Table pairs) = Message.table (pairs_of pairs)

-- a message
abbrev pub message_view : Variant → Message
message_view m = fold-Variant Message layer_view m

-- what a Thread runs
abbrev pub source_view : code.Source → Source
source_view (sources.File path) = Source.file path
source_view (sources.FileData contents) = Source.file_data contents
source_view (sources.Code text) = Source.code text

-- an event
abbrev pub event_view : happening.Event → Event
event_view (events.User name args) = Event.user name (map message_view args)
event_view (events.ThreadError t text) = Event.thread_error t text

-- an ask
abbrev pub ask_view : question.Ask → Ask
ask_view (asks.Push c m) = Ask.push c (message_view m)
ask_view (asks.Supply c m) = Ask.supply c (message_view m)
ask_view (asks.Pop c) = Ask.pop c
ask_view (asks.Peek c) = Ask.peek c
ask_view (asks.Count c) = Ask.count c
ask_view (asks.HasRead c n) = Ask.has_read c n
ask_view (asks.Clear c) = Ask.clear c
ask_view (asks.Demand c limit) = Ask.demand c limit
ask_view (asks.Await c n limit) = Ask.await c n limit
ask_view (asks.Enter c) = Ask.enter c
ask_view (asks.Leave c) = Ask.leave c
ask_view (asks.Name text) = Ask.name text
ask_view asks.NewChannel = Ask.new_channel
ask_view (asks.NewThread source) = Ask.new_thread (source_view source)
ask_view (asks.Start t args) = Ask.start t (map message_view args)
ask_view (asks.IsRunning t) = Ask.is_running t
ask_view (asks.ErrorOf t) = Ask.error_of t
ask_view (asks.WaitFor t) = Ask.wait_for t
ask_view (asks.EventPush name args) = Ask.event_push name (map message_view args)
ask_view asks.EventPoll = Ask.event_poll

-- a reply
abbrev pub reply_view : answer.Reply → Reply
reply_view replies.Done = Reply.done
reply_view replies.Nothing = Reply.nothing
reply_view (replies.Flag b) = Reply.flag b
reply_view (replies.Id n) = Reply.id n
reply_view (replies.Number n) = Reply.number n
reply_view (replies.Value m) = Reply.value (message_view m)
reply_view (replies.Channel c) = Reply.channel c
reply_view (replies.Thread t) = Reply.thread t
reply_view (replies.Words text) = Reply.words text
reply_view (replies.Event sent) = Reply.event sent.from sent.number (event_view sent.event)
reply_view (replies.Refused cause) = Reply.refused cause
