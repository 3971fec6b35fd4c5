use Rattle.std.proofs.Common.{◌<◌, ◌-◌, ℕ, length, get_or, take, drop, suc, ap, sym, subst, ◌∙◌, arith}
use Rattle.std.proofs.lemmas.Bool.Decides.{nat_tests}
use Rattle.thread_board.specs.declared.entry.BoardEntry.{BoardEntry}
use Rattle.thread_board.specs.Lawful.{IsLater}
use Rattle.channel_desk.proofs.Later.{around, later_by_last}
use Rattle.channel_desk.proofs.stamps.is_later_on_board.Goals as goal

pub returns-then-last-by-clause-later : goal.returns-then-last-by-clause-later
returns-then-last-by-clause-later c =
    let h = c.args.history.now in let e = c.index-history-at.result in let at : ℕ = c.loop-at.at - 1 in
    let low = c.loop-at.invariant.0 in let some = c.loop-at-test.true in
    let inside : at < length h = omega arith in
    let found : IsLater (take at h) (get_or h at e).by = (c.requires.1 (take at h) (get_or h at e) (drop (suc at) h) (around (λ (x : BoardEntry). x.by.state) (λ (x : BoardEntry). x.by.number) h at e inside)).number in
    let before : IsLater (take at h) e.by = subst (λ (x : BoardEntry). IsLater (take at h) x.by) (sym c.index-history-at.is) found in λ yes.
    later_by_last (λ (x : BoardEntry). x.by.state) (λ (x : BoardEntry). x.by.number) h at c.args.by.state c.args.by.number e inside c.index-history-at.is (ap (λ (x : BoardEntry). x.by.state) c.index-history-at.is ∙ c.if-last-by.true) before
    (λ k d above within. c.loop-at.invariant.1 k d (omega arith) within)
    (let below : e.by.number < c.args.by.number = grind (arith, nat_tests) in below)
