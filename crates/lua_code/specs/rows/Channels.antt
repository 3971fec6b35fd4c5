-- Rows of the machine: asks of Channels and their replies (LÖVE wiki, `Channel`). Written by checks/machine-rows/write.py.
use Rattle.std.specs.Prelude.{ℕ, pos, negsuc, true, false, List, [], ◌∷◌, Some, None, codes}
use Rattle.variant.specs.declared.reply.Refusal.TheVariants.{Full, WouldWaitInside}
use Rattle.lua_meaning.specs.Message.{Message, Ask, Reply}
use Rattle.lua_meaning.specs.Control.{ready}
use Rattle.lua_meaning.specs.Run.{End, done, failed, waits}
use Rattle.lua_meaning.specs.rows.Comes.{pair_message, hello_message}
use Rattle.lua_meaning.specs.rows.Channels.{counts_program, first_ask_program, after_reply_program, clears_program, odd_ids_program, nil_message_program, copied_program, not_sent_program, sections_program, waits_inside_program, section_results_program, refused_push_program, demanding_program, timeouts_program, supplied_program, data_values_program, names_program, deep_tables_program, bad_objects_program}
use Rattle.lua_code.specs.rows.Comes.{Comes}

abbrev pub Counts : Type 0
Counts = Comes {A = List ℕ × End × List Ask} (λ r. (r.output, r.end, r.asks)) (record {
  game =
      record { files = ([]); state = 0 };
  file = codes "a.lua";
  code = ready counts_program;
  args =
      ([]);
  ticks = 1000;
  replies = (Reply.channel 1 ∷ Reply.id 1 ∷ Reply.number 1 ∷ Reply.flag false
      ∷ Reply.value (Message.num (pos 7)) ∷ Reply.flag true ∷ Reply.nothing ∷ []);
}) (
  (codes "1\n1\tfalse\t7\ttrue\tnil\n"),
  done None,
  (Ask.new_channel ∷ Ask.push 1 (Message.num
      (pos 7)) ∷ Ask.count 1 ∷ Ask.has_read 1 (pos 1) ∷ Ask.pop 1 ∷ Ask.has_read 1
      (pos 1) ∷ Ask.pop 1 ∷ []),
)

abbrev pub FirstAsk : Type 0
FirstAsk = Comes {A =
    List ℕ × End × List Ask} (λ r. (r.output, r.end, r.asks)) (record {
      game = record {
        files =
            ([]);
        state = 0;
      };
      file = codes "a.lua";
      code = ready first_ask_program;
      args =
          ([]);
      ticks = 1000;
      replies = ([]);
    }) ([], waits Ask.new_channel, ([]))

abbrev pub AfterReply : Type 0
AfterReply = Comes {A =
    List ℕ × End × List Ask} (λ r. (r.output, r.end, r.asks)) (record {
      game = record {
        files =
            ([]);
        state = 0;
      };
      file = codes "a.lua";
      code = ready after_reply_program;
      args =
          ([]);
      ticks = 1000;
      replies = (Reply.channel 1 ∷ []);
    }) ([], done None, (Ask.new_channel ∷ []))

abbrev pub Clears : Type 0
Clears = Comes {A = List ℕ × End} (λ r. (r.output, r.end)) (record {
  game =
      record { files = ([]); state = 0 };
  file = codes "a.lua";
  code = ready clears_program;
  args =
      ([]);
  ticks = 1000;
  replies = (Reply.channel 1 ∷ Reply.id 1 ∷ Reply.id 2 ∷ Reply.id 3 ∷
      Reply.done ∷ Reply.flag true ∷ Reply.number 0 ∷ Reply.id 4 ∷ []);
})
    ((codes "true\t0\t4\n"), done None)

abbrev pub OddIds : Type 0
OddIds = Comes {A = List ℕ × End × List Ask} (λ r. (r.output, r.end, r.asks)) (record {
  game =
      record { files = ([]); state = 0 };
  file = codes "a.lua";
  code = ready odd_ids_program;
  args =
      ([]);
  ticks = 1000;
  replies = (Reply.channel 1 ∷ Reply.id 1 ∷ Reply.value (Message.num
      (pos 7)) ∷ Reply.flag false ∷ Reply.flag false ∷ Reply.flag false ∷ []);
}) (
  (codes "false\tfalse\tfalse\n"),
  done None,
  (Ask.new_channel ∷ Ask.push 1 (Message.num
      (pos 7)) ∷ Ask.pop 1 ∷ Ask.has_read 1 (pos 0) ∷ Ask.has_read 1 (negsuc 0) ∷ Ask.has_read 1
      (pos 9) ∷ []),
)

abbrev pub NilMessage : Type 0
NilMessage = Comes {A =
    List ℕ × End × List Ask} (λ r. (r.output, r.end, r.asks)) (record {
      game = record {
        files =
            ([]);
        state = 0;
      };
      file = codes "a.lua";
      code = ready nil_message_program;
      args =
          ([]);
      ticks = 1000;
      replies = (Reply.channel 1 ∷ Reply.id 1 ∷ Reply.number 1 ∷ Reply.value
          Message.nil ∷ Reply.number 0 ∷ []);
    }) (
      (codes "1\tnil\t0\n"),
      done None,
      (Ask.new_channel ∷ Ask.push 1 Message.nil ∷ Ask.count 1 ∷ Ask.pop 1 ∷ Ask.count 1 ∷ []),
    )

abbrev pub Copied : Type 0
Copied = Comes {A = List ℕ × End × List Ask} (λ r. (r.output, r.end, r.asks)) (record {
  game =
      record { files = ([]); state = 0 };
  file = codes "a.lua";
  code = ready copied_program;
  args =
      ([]);
  ticks = 1000;
  replies = (Reply.channel 1 ∷ Reply.id 1 ∷ Reply.value pair_message ∷ []);
}) (
  (codes "1\t1\tfalse\tnil\tnil\n"),
  done None,
  (Ask.new_channel ∷ Ask.push 1 pair_message ∷
      Ask.pop 1 ∷ []),
)

abbrev pub NotSent : Type 0
NotSent = Comes {A = List ℕ × End × List Ask} (λ r. (r.output, r.end, r.asks)) (record {
  game =
      record { files = ([]); state = 0 };
  file = codes "a.lua";
  code = ready not_sent_program;
  args =
      ([]);
  ticks = 1000;
  replies = (Reply.channel 1 ∷ Reply.number 0 ∷ []);
})
    ((codes "false\tcannot send a table that holds itself\nfalse\tcannot send a function value\nfalse\tcannot send a table with a table key\n0\n"), done None, (Ask.new_channel ∷ Ask.count 1 ∷ []))

abbrev pub Sections : Type 0
Sections = Comes {A =
    List ℕ × End × List Ask} (λ r. (r.output, r.end, r.asks)) (record {
      game = record {
        files =
            ([]);
        state = 0;
      };
      file = codes "a.lua";
      code = ready sections_program;
      args =
          ([]);
      ticks = 1000;
      replies = (Reply.channel 1 ∷ Reply.done ∷ Reply.done ∷ Reply.id 1 ∷
          Reply.done ∷ Reply.done ∷ Reply.id 2 ∷ Reply.number 2 ∷ []);
    }) (
      (codes "false\ta.lua:4: boom\n2\t2\n"),
      done None,
      (Ask.new_channel ∷ Ask.enter 1 ∷ Ask.enter 1 ∷ Ask.push 1 (Message.num
          (pos 1)) ∷ Ask.leave 1 ∷ Ask.leave 1 ∷ Ask.push 1 (Message.num (pos 2)) ∷ Ask.count 1 ∷ []),
    )

abbrev pub WaitsInside : Type 0
WaitsInside = Comes {A =
    List ℕ × End × List Ask} (λ r. (r.output, r.end, r.asks)) (record {
      game = record {
        files =
            ([]);
        state = 0;
      };
      file = codes "a.lua";
      code = ready waits_inside_program;
      args =
          ([]);
      ticks = 1000;
      replies = (Reply.channel 1 ∷ Reply.done ∷ Reply.refused WouldWaitInside ∷
          Reply.id 1 ∷ Reply.done ∷ Reply.value (Message.num (pos 5)) ∷ []);
    }) (
      (codes "false\twould wait inside its own performAtomic\n1\n5\n"),
      done None,
      (Ask.new_channel ∷ Ask.enter 1 ∷ Ask.demand 1 None ∷ Ask.push 1 (Message.num
          (pos 5)) ∷ Ask.leave 1 ∷ Ask.pop 1 ∷ []),
    )

abbrev pub SectionResults : Type 0
SectionResults = Comes {A =
    List ℕ × End × List Ask} (λ r. (r.output, r.end, r.asks)) (record {
      game = record {
        files =
            ([]);
        state = 0;
      };
      file = codes "a.lua";
      code = ready section_results_program;
      args =
          ([]);
      ticks = 1000;
      replies = (Reply.channel 1 ∷ Reply.done ∷ Reply.done ∷ []);
    })
    ((codes "true\t3\nfalse\tbad argument #1 to 'performAtomic' (function expected, got number)\n"), done None, (Ask.new_channel ∷ Ask.enter 1 ∷ Ask.leave 1 ∷ []))

abbrev pub RefusedPush : Type 0
RefusedPush = Comes {A =
    List ℕ × End} (λ r. (r.output, r.end)) (record {
      game = record {
        files =
            ([]);
        state = 0;
      };
      file = codes "a.lua";
      code = ready refused_push_program;
      args =
          ([]);
      ticks = 1000;
      replies = (Reply.channel 1 ∷ Reply.refused Full ∷ []);
    }) (
      [],
      failed
          (codes "a.lua:2: channel is full"),
    )

abbrev pub Demanding : Type 0
Demanding = Comes {A =
    List ℕ × End × List Ask} (λ r. (r.output, r.end, r.asks)) (record {
      game = record {
        files =
            ([]);
        state = 0;
      };
      file = codes "a.lua";
      code = ready demanding_program;
      args =
          ([]);
      ticks = 1000;
      replies = (Reply.channel 1 ∷ []);
    }) (
      (codes "1\n"),
      waits
          (Ask.demand 1 None),
      (Ask.new_channel ∷ []),
    )

abbrev pub Timeouts : Type 0
Timeouts = Comes {A =
    List ℕ × End × List Ask} (λ r. (r.output, r.end, r.asks)) (record {
      game = record {
        files =
            ([]);
        state = 0;
      };
      file = codes "a.lua";
      code = ready timeouts_program;
      args =
          ([]);
      ticks = 1000;
      replies = (Reply.channel 1 ∷ Reply.nothing ∷ Reply.id 1 ∷ Reply.flag false
          ∷ Reply.number 1 ∷ Reply.value (Message.num (pos 5)) ∷ []);
    }) (
      (codes "nil\nfalse\t1\t5\nfalse\tbad argument #1 to 'demand' (0 to 1000000 expected)\n"),
      done
          None,
      (Ask.new_channel ∷ Ask.demand 1 (Some 2) ∷ Ask.supply 1 (Message.num
          (pos 5)) ∷ Ask.await 1 1 (Some 1) ∷ Ask.count 1 ∷ Ask.pop 1 ∷ []),
    )

abbrev pub Supplied : Type 0
Supplied = Comes {A =
    List ℕ × End × List Ask} (λ r. (r.output, r.end, r.asks)) (record {
      game = record {
        files =
            ([]);
        state = 0;
      };
      file = codes "a.lua";
      code = ready supplied_program;
      args =
          ([]);
      ticks = 1000;
      replies = (Reply.channel 1 ∷ Reply.id 4 ∷ Reply.flag true ∷ []);
    }) (
      (codes "true\n"),
      done None,
      (Ask.new_channel ∷ Ask.supply 1 (Message.str
          (codes "x")) ∷ Ask.await 1 4 None ∷ []),
    )

abbrev pub DataValues : Type 0
DataValues = Comes {A =
    List ℕ × End × List Ask} (λ r. (r.output, r.end, r.asks)) (record {
      game = record {
        files =
            ([]);
        state = 0;
      };
      file = codes "a.lua";
      code = ready data_values_program;
      args =
          ([]);
      ticks = 1000;
      replies = (Reply.channel 1 ∷ Reply.id 1 ∷ Reply.value hello_message ∷ []);
    }) ((codes "hello\t5\tell\nByteData\ttrue\tnil\tfalse\tbad argument #2 to 'newDataView' (out of bounds)\n"), done None, (Ask.new_channel ∷ Ask.push 1 hello_message ∷ Ask.pop 1 ∷ []))

abbrev pub Names : Type 0
Names = Comes {A = List ℕ × End × List Ask} (λ r. (r.output, r.end, r.asks)) (record {
  game =
      record { files = ([]); state = 0 };
  file = codes "a.lua";
  code = ready names_program;
  args =
      ([]);
  ticks = 1000;
  replies = (Reply.channel 1 ∷ Reply.channel 1 ∷ []);
}) (
  (codes "true\tChannel\ttrue\tnil\n"),
  done None,
  (Ask.name (codes "x") ∷ Ask.name
      (codes "x") ∷ []),
)

abbrev pub DeepTables : Type 0
DeepTables = Comes {A =
    List ℕ × End} (λ r. (r.output, r.end)) (record {
      game = record {
        files =
            ([]);
        state = 0;
      };
      file = codes "a.lua";
      code = ready deep_tables_program;
      args =
          ([]);
      ticks = 1000;
      replies = (Reply.channel 1 ∷ Reply.id 1 ∷ []);
    })
    ((codes "true\t1\nfalse\tcannot send tables nested over 128 deep\n"), done None)

abbrev pub BadObjects : Type 0
BadObjects = Comes {A =
    List ℕ × End} (λ r. (r.output, r.end)) (record {
      game = record {
        files =
            ([]);
        state = 0;
      };
      file = codes "a.lua";
      code = ready bad_objects_program;
      args =
          ([]);
      ticks = 1000;
      replies = (Reply.channel 1 ∷ []);
    })
    ((codes "false\tbad argument #0 to 'push' (Channel expected, got nil)\nfalse\tbad argument #1 to 'hasRead' (number expected, got string)\n"), done None)

-- all of them
pub record Rows : Type 0 where
  pub counts : Counts
  pub first_ask : FirstAsk
  pub after_reply : AfterReply
  pub clears : Clears
  pub odd_ids : OddIds
  pub nil_message : NilMessage
  pub copied : Copied
  pub not_sent : NotSent
  pub sections : Sections
  pub waits_inside : WaitsInside
  pub section_results : SectionResults
  pub refused_push : RefusedPush
  pub demanding : Demanding
  pub timeouts : Timeouts
  pub supplied : Supplied
  pub data_values : DataValues
  pub names : Names
  pub deep_tables : DeepTables
  pub bad_objects : BadObjects
