use Rattle.std.proofs.Common.{◌≡◌, ◌≤◌, ◌-◌, ◌++◌, length, take, suc, vec_len, append-nil, sym, ap, ◌∙◌, arith}
use Rattle.std.proofs.lemmas.List.{length-take-le}
use Rattle.std.proofs.Math.ListN.{drop_of_length-le}
use Rattle.turn_desk.proofs.kept.forget.Goals as goal

pub returns-then-place-len-clause-items : goal.returns-then-place-len-clause-items
returns-then-place-len-clause-items c = let items = c.args.kept.now.items in let place = c.args.place in let test = c.if-place-len.true in let len = c.len.ensures in let count = c.args.kept.now.ok.0 in
    let last : vec_len c.args.kept.now - 1 ≡ place = omega arith in let past : length items ≤ suc place = omega arith in
    c.pop-last.ensures.rest ∙ (ap (λ n. take n items) last ∙ (sym (append-nil (take place items)) ∙ ap (λ l. take place items ++ l) (sym (drop_of_length-le items past))))

pub returns-then-place-len-clause-len : goal.returns-then-place-len-clause-len
returns-then-place-len-clause-len c = let test = c.if-place-len.true in let len = c.len.ensures in let count = c.args.kept.now.ok.0 in let after = c.pop-last.new.self.ok.0 in
    let rest = ap length c.pop-last.ensures.rest in let most = length-take-le (vec_len c.args.kept.now - 1) c.args.kept.now.items (omega arith) in omega arith
