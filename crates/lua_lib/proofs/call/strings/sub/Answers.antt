use Rattle.std.proofs.Common.{List, ℕ, ℤ, negsuc, length, [], ◌∷◌, ap, sym, ◌∙◌}
use Rattle.std.proofs.lemmas.Result.{err_from_is_err_and}
use Rattle.lua_lib.proofs.Reading.{number_or-default, number_or-default-raises}
use Rattle.lua_lib.proofs.Binding.{gives-then, raises-first, raises-then}
use Rattle.lua_meaning.specs.Value.{Value, str}
use Rattle.lua_meaning.specs.Strings.{part, place_in}
use Rattle.lua_meaning.specs.Arguments.{Lib, answers, answer_one, number_or}
use Rattle.lua_lib.specs.Causes.{values_of}
use Rattle.lua_lib.proofs.call.strings.sub.Goals as goal

-- what follows when the last place is read
abbrev behind_j : List ℕ → ℤ → ℤ → Lib (List Value)
behind_j text i j = answer_one (str (part text (place_in (length text) i) (place_in (length text) j)))

pub returns-in_err-text : goal.returns-in_err-text
returns-in_err-text c =
    let p = err_from_is_err_and c.from_residual.result c.from_residual.ensures.1 in
    rw (p.1, p.2) (raises-first _ _ _ c.in_err-text.ensures)

pub returns-in_err-i : goal.returns-in_err-i
returns-in_err-i c =
    let p = err_from_is_err_and c.from_residual-in_err-i.result c.from_residual-in_err-i.ensures.1 in
    rw (p.1, p.2) (raises-then _ _ _ _ c.in_ok-text.ensures (raises-first _ _ _ c.in_err-i.ensures))

pub returns-in_err-j : goal.returns-in_err-j
returns-in_err-j c =
    let p = err_from_is_err_and c.from_residual-in_err-j.result c.from_residual-in_err-j.ensures.1 in
    rw (p.1, p.2) (raises-then _ _ _ _ c.in_ok-text.ensures (raises-then _ _ _ _ c.in_ok-i.ensures (raises-first (number_or 2 (values_of c.args.heap.now c.args.args.now) (negsuc 0)) (behind_j c.in_ok-text.text.now c.in_ok-i.i) _ (number_or-default-raises 2 (values_of c.args.heap.now c.args.args.now) c.minus_one.result (negsuc 0) _ c.minus_one.ensures c.in_err-j.ensures))))

pub returns-in_err-made : goal.returns-in_err-made
returns-in_err-made c =
    let p = err_from_is_err_and c.from_residual-in_err-made.result c.from_residual-in_err-made.ensures.1 in
    rw (p.1, p.2) tt

pub returns : goal.returns
returns c =
    gives-then _ _ _ _ c.in_ok-text.ensures (gives-then _ _ _ _ c.in_ok-i.ensures (gives-then (number_or 2 (values_of c.args.heap.now c.args.args.now) (negsuc 0)) (behind_j c.in_ok-text.text.now c.in_ok-i.i) _ _ (number_or-default 2 (values_of c.args.heap.now c.args.args.now) c.minus_one.result (negsuc 0) _ c.minus_one.ensures c.in_ok-j.ensures)
    (λ s. c.sub.ensures s ∙ ap (λ (b : List ℕ). answers (str b ∷ []) s) (sym c.in_ok-made.ensures))))
