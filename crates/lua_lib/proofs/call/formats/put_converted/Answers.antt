use Rattle.std.proofs.Common.{ℕ, sym, subst}
use Rattle.lua_meaning.specs.Format.{converted}
use Rattle.lua_lib.specs.Causes.{values_of}
use Rattle.lua_lib.specs.Pieces.{Puts}
use Rattle.lua_lib.proofs.call.formats.put_converted.Goals as goal

pub returns-then-letter-eq100 : goal.returns-then-letter-eq100
returns-then-letter-eq100 c =
    let h = c.args.heap.now in
    let P : ℕ → Type 0 = λ l. Puts h.texts c.args.made.now.items c.put_decimal.new.made.items (converted c.args.item l c.args.argument (values_of h c.args.args.now)) c.put_decimal.result in
    subst P (sym c.if-letter-eq100.true) c.put_decimal.ensures

pub returns-then-letter-eq115 : goal.returns-then-letter-eq115
returns-then-letter-eq115 c =
    let h = c.args.heap.now in
    let P : ℕ → Type 0 = λ l. Puts h.texts c.args.made.now.items c.put_text.new.made.items (converted c.args.item l c.args.argument (values_of h c.args.args.now)) c.put_text.result in
    subst P (sym c.if-letter-eq115.true) c.put_text.ensures

pub returns-then-letter-eq120 : goal.returns-then-letter-eq120
returns-then-letter-eq120 c =
    let h = c.args.heap.now in
    let P : ℕ → Type 0 = λ l. Puts h.texts c.args.made.now.items c.put_base_16.new.made.items (converted c.args.item l c.args.argument (values_of h c.args.args.now)) c.put_base_16.result in
    subst P (sym c.if-letter-eq120.true) c.put_base_16.ensures

pub returns-then-letter-eq88 : goal.returns-then-letter-eq88
returns-then-letter-eq88 c =
    let h = c.args.heap.now in
    let P : ℕ → Type 0 = λ l. Puts h.texts c.args.made.now.items c.put_base_16-then-letter-eq88.new.made.items (converted c.args.item l c.args.argument (values_of h c.args.args.now)) c.put_base_16-then-letter-eq88.result in
    subst P (sym c.if-letter-eq88.true) c.put_base_16-then-letter-eq88.ensures

pub returns-then-letter-eq99 : goal.returns-then-letter-eq99
returns-then-letter-eq99 c =
    let h = c.args.heap.now in
    let P : ℕ → Type 0 = λ l. Puts h.texts c.args.made.now.items c.put_byte.new.made.items (converted c.args.item l c.args.argument (values_of h c.args.args.now)) c.put_byte.result in
    subst P (sym c.if-letter-eq99.true) c.put_byte.ensures
