-- The values that a reply gives; a refusal is an error that has a text alone.
use Rattle.std.specs.Prelude.{pos, List, [], ◌∷◌, codes}
use Rattle.lua_meaning.specs.Value.{Value, nil, flag, num, str, channel, thread}
use Rattle.lua_meaning.specs.Store.{Store}
use Rattle.lua_meaning.specs.Message.{Event, Reply}
use Rattle.lua_meaning.specs.Packing.{unpack, unpack_all}
use Rattle.lua_meaning.specs.Fault.{refusal_text}
use Rattle.lua_meaning.specs.Arguments.{Lib, answers}
use Rattle.love_functions.specs.Asking.{Called, gives, refuses, giving}

abbrev pub event_part : Event → Lib Called
event_part (Event.user name args) s =
    let unpacked : List Value × Store = unpack_all args s in
    answers (gives (str name ∷ unpacked.0)) unpacked.1
event_part (Event.thread_error t text) s =
    answers (gives (str (codes "threaderror") ∷ thread t ∷ str text ∷ [])) s

abbrev pub reply_part : Reply → Lib Called
reply_part Reply.done s = giving [] s
reply_part Reply.nothing s = giving (nil ∷ []) s
reply_part (Reply.flag b) s = giving (flag b ∷ []) s
reply_part (Reply.id n) s = giving (num (pos n) ∷ []) s
reply_part (Reply.number n) s = giving (num (pos n) ∷ []) s
reply_part (Reply.value m) s =
    let unpacked : Value × Store = unpack m s in answers (gives (unpacked.0 ∷ [])) unpacked.1
reply_part (Reply.channel c) s = giving (channel c ∷ []) s
reply_part (Reply.thread t) s = giving (thread t ∷ []) s
reply_part (Reply.words text) s = giving (str text ∷ []) s
reply_part (Reply.event from action event) s = event_part event s
reply_part (Reply.refused cause) s = answers (refuses (refusal_text cause)) s
