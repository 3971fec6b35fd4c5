use Rattle.std.proofs.Common.{ℕ, ◌≡◌, ◌<◌, ◌≤◌, [], map, length, vec_len, sym, ap, ◌∙◌, arith}
use Rattle.std.proofs.lemmas.List.{length-map}
use Rattle.std.specs.Slots.{slots_counts}
use Rattle.turn_desk.proofs.Settled.{filled, fixed, known, rests, looks, entries, carried, actions, followed, once, no_other, fronts, row_count, row_lengths, within}
use Rattle.turn_desk.proofs.desk.Desk.close.Goals as goal

pub join_all-seat-requires-clause-some : goal.join_all-seat-requires-clause-some
join_all-seat-requires-clause-some g c = let seats = ap (λ d. d.seats) c.self.view_is in let some_seat = c.self.invariant.3 in let h = c.requires.all 1 (omega arith) (omega arith) in let lt = h.1 in let long = length-map c.args.passes.items (λ p. p.view.number) in
    let count : vec_len c.args.passes ≡ length c.args.passes.items = c.args.passes.ok.0 in omega arith

pub join_all-seat-requires-clause-words : goal.join_all-seat-requires-clause-words
join_all-seat-requires-clause-words g c = let words = c.self.invariant.0 in let some_object = c.self.invariant.4 in omega arith

pub take_all-objects-requires-clause-home : goal.take_all-objects-requires-clause-home
take_all-objects-requires-clause-home g c = let l = g.O.Logged in let inside = c.self.inside in let before = inside.rows.items in let seat = c.join_all-seat.result in let rows = c.join_all-seat.new.rows.items in
    let seats : length before ≡ c.args.self.seats = ap (λ d. d.seats) c.self.view_is in let many : vec_len inside.rows ≡ length before = inside.rows.ok.0 in let some_seat : 0 < vec_len inside.rows = (let p = c.self.invariant.3 in omega arith) in
    let deep = sym (slots_counts c.close_with.result.slots).0 ∙ c.close_with.ensures.counts.1 in
    let all = λ (n : ℕ) (low : 0 < n) (high : n ≤ vec_len inside.rows). c.requires.all n low (omega arith) in
    let long = length-map before (λ r. r.items) ∙ sym many in
    filled l.history l.fixed_number l.summed l.between (vec_len inside.rows) inside.table.shared.table_id.slots seat.id c.args.passes.items (map (λ r. r.items) before) (map (λ r. r.items) rows) seat.me _ _ [] c.close_with.ensures.values.2 c.join_all-seat.ensures.gathered some_seat all long deep

pub returns-clause-replay : goal.returns-clause-replay
returns-clause-replay g c = let l = g.O.Logged in let inside = c.self.inside in let before = inside.rows.items in let seat = c.join_all-seat.result in let rows = c.join_all-seat.new.rows.items in
    let seats : length before ≡ c.args.self.seats = ap (λ d. d.seats) c.self.view_is in let many : vec_len inside.rows ≡ length before = inside.rows.ok.0 in let some_seat : 0 < vec_len inside.rows = (let p = c.self.invariant.3 in omega arith) in
    let deep = sym (slots_counts c.close_with.result.slots).0 ∙ c.close_with.ensures.counts.1 in
    let all = λ (n : ℕ) (low : 0 < n) (high : n ≤ vec_len inside.rows). c.requires.all n low (omega arith) in
    let long = length-map before (λ r. r.items) ∙ sym many in
    let kinds = fixed l.history l.fixed_number l.summed l.between (vec_len inside.rows) inside.table.shared.table_id.slots seat.id c.args.passes.items (map (λ r. r.items) before) (map (λ r. r.items) rows) seat.me _ _ c.take_all-objects.result.items c.close_with.ensures.values.2 c.join_all-seat.ensures.gathered some_seat all long deep c.take_all-objects.ensures in
    λ o x e k d lt. sym (g.met.O.Logged.replays x) ∙ ap (λ n. l.replay n (l.history x)) (kinds o x e k d lt)

pub returns-clause-fixed : goal.returns-clause-fixed
returns-clause-fixed g c = let l = g.O.Logged in let inside = c.self.inside in let before = inside.rows.items in let seat = c.join_all-seat.result in let rows = c.join_all-seat.new.rows.items in
    let seats : length before ≡ c.args.self.seats = ap (λ d. d.seats) c.self.view_is in let many : vec_len inside.rows ≡ length before = inside.rows.ok.0 in let some_seat : 0 < vec_len inside.rows = (let p = c.self.invariant.3 in omega arith) in
    let deep = sym (slots_counts c.close_with.result.slots).0 ∙ c.close_with.ensures.counts.1 in
    let all = λ (n : ℕ) (low : 0 < n) (high : n ≤ vec_len inside.rows). c.requires.all n low (omega arith) in
    let long = length-map before (λ r. r.items) ∙ sym many in
    fixed l.history l.fixed_number l.summed l.between (vec_len inside.rows) inside.table.shared.table_id.slots seat.id c.args.passes.items (map (λ r. r.items) before) (map (λ r. r.items) rows) seat.me _ _ c.take_all-objects.result.items c.close_with.ensures.values.2 c.join_all-seat.ensures.gathered some_seat all long deep c.take_all-objects.ensures

pub returns-clause-seen : goal.returns-clause-seen
returns-clause-seen g c = let l = g.O.Logged in let inside = c.self.inside in let before = inside.rows.items in let seat = c.join_all-seat.result in let rows = c.join_all-seat.new.rows.items in
    let seats : length before ≡ c.args.self.seats = ap (λ d. d.seats) c.self.view_is in let many : vec_len inside.rows ≡ length before = inside.rows.ok.0 in let some_seat : 0 < vec_len inside.rows = (let p = c.self.invariant.3 in omega arith) in
    let deep = sym (slots_counts c.close_with.result.slots).0 ∙ c.close_with.ensures.counts.1 in
    let all = λ (n : ℕ) (low : 0 < n) (high : n ≤ vec_len inside.rows). c.requires.all n low (omega arith) in
    let long = length-map before (λ r. r.items) ∙ sym many in
    known l.history l.fixed_number l.summed l.between (vec_len inside.rows) inside.table.shared.table_id.slots seat.id c.args.passes.items (map (λ r. r.items) before) (map (λ r. r.items) rows) seat.me _ _ c.take_all-objects.result.items c.close_with.ensures.values.2 c.join_all-seat.ensures.gathered some_seat all long deep c.take_all-objects.ensures

pub returns-clause-once : goal.returns-clause-once
returns-clause-once g c = let l = g.O.Logged in let inside = c.self.inside in let before = inside.rows.items in let seat = c.join_all-seat.result in let rows = c.join_all-seat.new.rows.items in
    let seats : length before ≡ c.args.self.seats = ap (λ d. d.seats) c.self.view_is in let many : vec_len inside.rows ≡ length before = inside.rows.ok.0 in let some_seat : 0 < vec_len inside.rows = (let p = c.self.invariant.3 in omega arith) in
    let deep = sym (slots_counts c.close_with.result.slots).0 ∙ c.close_with.ensures.counts.1 in
    let all = λ (n : ℕ) (low : 0 < n) (high : n ≤ vec_len inside.rows). c.requires.all n low (omega arith) in
    let long = length-map before (λ r. r.items) ∙ sym many in
    once l.history l.fixed_number l.summed l.between (vec_len inside.rows) inside.table.shared.table_id.slots seat.id c.args.passes.items (map (λ r. r.items) before) (map (λ r. r.items) rows) seat.me _ _ c.take_all-objects.result.items c.close_with.ensures.values.2 c.join_all-seat.ensures.gathered some_seat all long deep c.take_all-objects.ensures

pub returns-clause-no_other : goal.returns-clause-no_other
returns-clause-no_other g c = let l = g.O.Logged in let inside = c.self.inside in let before = inside.rows.items in let seat = c.join_all-seat.result in let rows = c.join_all-seat.new.rows.items in
    let seats : length before ≡ c.args.self.seats = ap (λ d. d.seats) c.self.view_is in let many : vec_len inside.rows ≡ length before = inside.rows.ok.0 in let some_seat : 0 < vec_len inside.rows = (let p = c.self.invariant.3 in omega arith) in
    let deep = sym (slots_counts c.close_with.result.slots).0 ∙ c.close_with.ensures.counts.1 in
    let all = λ (n : ℕ) (low : 0 < n) (high : n ≤ vec_len inside.rows). c.requires.all n low (omega arith) in
    let long = length-map before (λ r. r.items) ∙ sym many in
    no_other l.history l.fixed_number l.summed l.between (vec_len inside.rows) inside.table.shared.table_id.slots seat.id c.args.passes.items (map (λ r. r.items) before) (map (λ r. r.items) rows) seat.me _ _ c.take_all-objects.result.items c.close_with.ensures.values.2 c.join_all-seat.ensures.gathered some_seat all long deep c.take_all-objects.ensures

pub returns-clause-rows : goal.returns-clause-rows
returns-clause-rows g c = let l = g.O.Logged in let inside = c.self.inside in let before = inside.rows.items in let seat = c.join_all-seat.result in let rows = c.join_all-seat.new.rows.items in
    let seats : length before ≡ c.args.self.seats = ap (λ d. d.seats) c.self.view_is in let many : vec_len inside.rows ≡ length before = inside.rows.ok.0 in let some_seat : 0 < vec_len inside.rows = (let p = c.self.invariant.3 in omega arith) in
    let deep = sym (slots_counts c.close_with.result.slots).0 ∙ c.close_with.ensures.counts.1 in
    let all = λ (n : ℕ) (low : 0 < n) (high : n ≤ vec_len inside.rows). c.requires.all n low (omega arith) in
    let long = length-map before (λ r. r.items) ∙ sym many in
    let slots = ap (λ d. d.table.slots) c.self.view_is in let count = row_count l.history l.fixed_number l.summed l.between (vec_len inside.rows) inside.table.shared.table_id.slots seat.id c.args.passes.items (map (λ r. r.items) before) (map (λ r. r.items) rows) seat.me _ _ c.take_all-objects.result.items c.close_with.ensures.values.2 c.join_all-seat.ensures.gathered some_seat all long deep in let lengths = row_lengths l.history l.fixed_number l.summed l.between (vec_len inside.rows) inside.table.shared.table_id.slots seat.id c.args.passes.items (map (λ r. r.items) before) (map (λ r. r.items) rows) seat.me _ _ c.take_all-objects.result.items c.close_with.ensures.values.2 c.join_all-seat.ensures.gathered some_seat all long deep in
    (count ∙ (many ∙ seats), λ k d lt. lengths k d lt ∙ slots)

pub returns-clause-fronts : goal.returns-clause-fronts
returns-clause-fronts g c = let l = g.O.Logged in let inside = c.self.inside in let before = inside.rows.items in let seat = c.join_all-seat.result in let rows = c.join_all-seat.new.rows.items in
    let seats : length before ≡ c.args.self.seats = ap (λ d. d.seats) c.self.view_is in let many : vec_len inside.rows ≡ length before = inside.rows.ok.0 in let some_seat : 0 < vec_len inside.rows = (let p = c.self.invariant.3 in omega arith) in
    let deep = sym (slots_counts c.close_with.result.slots).0 ∙ c.close_with.ensures.counts.1 in
    let all = λ (n : ℕ) (low : 0 < n) (high : n ≤ vec_len inside.rows). c.requires.all n low (omega arith) in
    let long = length-map before (λ r. r.items) ∙ sym many in
    fronts l.history l.fixed_number l.summed l.between (vec_len inside.rows) inside.table.shared.table_id.slots seat.id c.args.passes.items (map (λ r. r.items) before) (map (λ r. r.items) rows) seat.me _ _ c.take_all-objects.result.items c.close_with.ensures.values.2 c.join_all-seat.ensures.gathered some_seat all long deep

pub returns-clause-within : goal.returns-clause-within
returns-clause-within g c = let l = g.O.Logged in let inside = c.self.inside in let before = inside.rows.items in let seat = c.join_all-seat.result in let rows = c.join_all-seat.new.rows.items in
    let seats : length before ≡ c.args.self.seats = ap (λ d. d.seats) c.self.view_is in let many : vec_len inside.rows ≡ length before = inside.rows.ok.0 in let some_seat : 0 < vec_len inside.rows = (let p = c.self.invariant.3 in omega arith) in
    let deep = sym (slots_counts c.close_with.result.slots).0 ∙ c.close_with.ensures.counts.1 in
    let all = λ (n : ℕ) (low : 0 < n) (high : n ≤ vec_len inside.rows). c.requires.all n low (omega arith) in
    let long = length-map before (λ r. r.items) ∙ sym many in
    within l.history l.fixed_number l.summed l.between (vec_len inside.rows) inside.table.shared.table_id.slots seat.id c.args.passes.items (map (λ r. r.items) before) (map (λ r. r.items) rows) seat.me _ _ c.take_all-objects.result.items c.close_with.ensures.values.2 c.join_all-seat.ensures.gathered some_seat all long deep c.take_all-objects.ensures

pub returns-clause-between : goal.returns-clause-between
returns-clause-between g c = let l = g.O.Logged in let inside = c.self.inside in let before = inside.rows.items in let seat = c.join_all-seat.result in let rows = c.join_all-seat.new.rows.items in
    let seats : length before ≡ c.args.self.seats = ap (λ d. d.seats) c.self.view_is in let many : vec_len inside.rows ≡ length before = inside.rows.ok.0 in let some_seat : 0 < vec_len inside.rows = (let p = c.self.invariant.3 in omega arith) in
    let deep = sym (slots_counts c.close_with.result.slots).0 ∙ c.close_with.ensures.counts.1 in
    let all = λ (n : ℕ) (low : 0 < n) (high : n ≤ vec_len inside.rows). c.requires.all n low (omega arith) in
    let long = length-map before (λ r. r.items) ∙ sym many in
    rests l.history l.fixed_number l.summed l.between (vec_len inside.rows) inside.table.shared.table_id.slots seat.id c.args.passes.items (map (λ r. r.items) before) (map (λ r. r.items) rows) seat.me _ _ c.take_all-objects.result.items c.close_with.ensures.values.2 c.join_all-seat.ensures.gathered some_seat all long deep c.take_all-objects.ensures

pub returns-clause-looks : goal.returns-clause-looks
returns-clause-looks g c = let l = g.O.Logged in let inside = c.self.inside in let before = inside.rows.items in let seat = c.join_all-seat.result in let rows = c.join_all-seat.new.rows.items in
    let seats : length before ≡ c.args.self.seats = ap (λ d. d.seats) c.self.view_is in let many : vec_len inside.rows ≡ length before = inside.rows.ok.0 in let some_seat : 0 < vec_len inside.rows = (let p = c.self.invariant.3 in omega arith) in
    let deep = sym (slots_counts c.close_with.result.slots).0 ∙ c.close_with.ensures.counts.1 in
    let all = λ (n : ℕ) (low : 0 < n) (high : n ≤ vec_len inside.rows). c.requires.all n low (omega arith) in
    let long = length-map before (λ r. r.items) ∙ sym many in
    looks l.history l.fixed_number l.summed l.between (vec_len inside.rows) inside.table.shared.table_id.slots seat.id c.args.passes.items (map (λ r. r.items) before) (map (λ r. r.items) rows) seat.me _ _ c.take_all-objects.result.items c.close_with.ensures.values.2 c.join_all-seat.ensures.gathered some_seat all long deep c.take_all-objects.ensures

pub returns-clause-entries : goal.returns-clause-entries
returns-clause-entries g c = let l = g.O.Logged in let inside = c.self.inside in let before = inside.rows.items in let seat = c.join_all-seat.result in let rows = c.join_all-seat.new.rows.items in
    let seats : length before ≡ c.args.self.seats = ap (λ d. d.seats) c.self.view_is in let many : vec_len inside.rows ≡ length before = inside.rows.ok.0 in let some_seat : 0 < vec_len inside.rows = (let p = c.self.invariant.3 in omega arith) in
    let deep = sym (slots_counts c.close_with.result.slots).0 ∙ c.close_with.ensures.counts.1 in
    let all = λ (n : ℕ) (low : 0 < n) (high : n ≤ vec_len inside.rows). c.requires.all n low (omega arith) in
    let long = length-map before (λ r. r.items) ∙ sym many in
    entries l.history l.fixed_number l.summed l.between (vec_len inside.rows) inside.table.shared.table_id.slots seat.id c.args.passes.items (map (λ r. r.items) before) (map (λ r. r.items) rows) seat.me _ _ c.take_all-objects.result.items c.close_with.ensures.values.2 c.join_all-seat.ensures.gathered some_seat all long deep c.take_all-objects.ensures

pub returns-clause-carried : goal.returns-clause-carried
returns-clause-carried g c = let l = g.O.Logged in let inside = c.self.inside in let before = inside.rows.items in let seat = c.join_all-seat.result in let rows = c.join_all-seat.new.rows.items in
    let seats : length before ≡ c.args.self.seats = ap (λ d. d.seats) c.self.view_is in let many : vec_len inside.rows ≡ length before = inside.rows.ok.0 in let some_seat : 0 < vec_len inside.rows = (let p = c.self.invariant.3 in omega arith) in
    let deep = sym (slots_counts c.close_with.result.slots).0 ∙ c.close_with.ensures.counts.1 in
    let all = λ (n : ℕ) (low : 0 < n) (high : n ≤ vec_len inside.rows). c.requires.all n low (omega arith) in
    let long = length-map before (λ r. r.items) ∙ sym many in
    carried l.history l.fixed_number l.summed l.between (vec_len inside.rows) inside.table.shared.table_id.slots seat.id c.args.passes.items (map (λ r. r.items) before) (map (λ r. r.items) rows) seat.me _ _ c.take_all-objects.result.items c.close_with.ensures.values.2 c.join_all-seat.ensures.gathered some_seat all long deep c.take_all-objects.ensures

pub returns-clause-actions : goal.returns-clause-actions
returns-clause-actions g c = let l = g.O.Logged in let inside = c.self.inside in let before = inside.rows.items in let seat = c.join_all-seat.result in let rows = c.join_all-seat.new.rows.items in
    let seats : length before ≡ c.args.self.seats = ap (λ d. d.seats) c.self.view_is in let many : vec_len inside.rows ≡ length before = inside.rows.ok.0 in let some_seat : 0 < vec_len inside.rows = (let p = c.self.invariant.3 in omega arith) in
    let deep = sym (slots_counts c.close_with.result.slots).0 ∙ c.close_with.ensures.counts.1 in
    let all = λ (n : ℕ) (low : 0 < n) (high : n ≤ vec_len inside.rows). c.requires.all n low (omega arith) in
    let long = length-map before (λ r. r.items) ∙ sym many in
    actions l.history l.fixed_number l.summed l.between (vec_len inside.rows) inside.table.shared.table_id.slots seat.id c.args.passes.items (map (λ r. r.items) before) (map (λ r. r.items) rows) seat.me _ _ c.take_all-objects.result.items c.close_with.ensures.values.2 c.join_all-seat.ensures.gathered some_seat all long deep

pub returns-clause-followed : goal.returns-clause-followed
returns-clause-followed g c = let l = g.O.Logged in let inside = c.self.inside in let before = inside.rows.items in let seat = c.join_all-seat.result in let rows = c.join_all-seat.new.rows.items in
    let seats : length before ≡ c.args.self.seats = ap (λ d. d.seats) c.self.view_is in let many : vec_len inside.rows ≡ length before = inside.rows.ok.0 in let some_seat : 0 < vec_len inside.rows = (let p = c.self.invariant.3 in omega arith) in
    let deep = sym (slots_counts c.close_with.result.slots).0 ∙ c.close_with.ensures.counts.1 in
    let all = λ (n : ℕ) (low : 0 < n) (high : n ≤ vec_len inside.rows). c.requires.all n low (omega arith) in
    let long = length-map before (λ r. r.items) ∙ sym many in
    followed l.history l.fixed_number l.summed l.between (vec_len inside.rows) inside.table.shared.table_id.slots seat.id c.args.passes.items (map (λ r. r.items) before) (map (λ r. r.items) rows) seat.me _ _ c.take_all-objects.result.items c.close_with.ensures.values.2 c.join_all-seat.ensures.gathered some_seat all long deep
