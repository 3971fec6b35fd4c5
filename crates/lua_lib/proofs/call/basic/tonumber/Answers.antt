use Rattle.std.proofs.Common.{◌≡◌, false, pos, [], ◌∷◌, ap, sym, ◌∙◌}
use Rattle.std.proofs.lemmas.Result.{err_from_is_err_and}
use Rattle.lua_meaning.specs.Value.{str, num, same}
use Rattle.lua_meaning.specs.Text.{as_number}
use Rattle.lua_meaning.specs.Arguments.{answers, text_argument, ◌>>=◌}
use Rattle.lua_meaning.specs.Basic.{tonumber, number_value}
use Rattle.lua_lib.specs.Causes.{values_of}
use Rattle.lua_lib.proofs.Bases.{by_base, in_base, base-ten, base-other, tonumber-other}
use Rattle.lua_lib.proofs.Binding.{gives-then, raises-first, raises-then, raises-same}
use Rattle.lua_lib.proofs.Running.{then-at}
use Rattle.lua_lib.proofs.call.basic.tonumber.Goals as goal

pub returns-in_err-base : goal.returns-in_err-base
returns-in_err-base c =
    let p = err_from_is_err_and c.from_residual.result c.from_residual.ensures.1 in
    rw (p.1, p.2) (raises-first _ _ _ c.in_err-base.ensures)

pub as_number-requires : goal.as_number-requires
as_number-requires c = c.argument-value.ensures.made c.args.heap.now c.requires

pub returns-then-is_ten : goal.returns-then-is_ten
returns-then-is_ten c =
    let h = c.args.heap.now in
    let vs = values_of h c.args.args.now in
    gives-then _ _ _ _ c.in_ok-base.ensures (λ s. base-ten vs c.in_ok-base.base s (sym c.is_ten.ensures ∙ c.if-is_ten.true)
    ∙ ap (λ n. answers (number_value n ∷ []) s) (ap as_number (sym (c.argument-value.ensures.value h.texts)) ∙ sym c.as_number.ensures))

pub returns-in_err-text : goal.returns-in_err-text
returns-in_err-text c =
    let vs = values_of c.args.heap.now c.args.args.now in
    let base = c.in_ok-base.base in
    let other : same (num base) (num (pos 10)) ≡ false = sym c.is_ten.ensures ∙ c.if-is_ten.false in
    let p = err_from_is_err_and c.from_residual-in_err-text.result c.from_residual-in_err-text.ensures.1 in
    rw (p.1, p.2) (raises-then _ _ _ _ c.in_ok-base.ensures (raises-same (in_base vs base) (text_argument 0 vs >>= by_base base) _ (λ s. base-other vs base s other)
    (raises-first _ _ _ c.in_err-text.ensures)))

pub returns-in_err-number : goal.returns-in_err-number
returns-in_err-number c =
    let vs = values_of c.args.heap.now c.args.args.now in
    let base = c.in_ok-base.base in
    let text = c.in_ok-text.text.now in
    let other : same (num base) (num (pos 10)) ≡ false = sym c.is_ten.ensures ∙ c.if-is_ten.false in
    let p = err_from_is_err_and c.from_residual-in_err-number.result c.from_residual-in_err-number.ensures.1 in
    rw (p.1, p.2) (raises-then _ _ _ _ c.in_ok-base.ensures (raises-same (in_base vs base) (text_argument 0 vs >>= by_base base) _ (λ s. base-other vs base s other)
    (raises-then _ _ _ _ c.in_ok-text.ensures (raises-same (by_base base text) (tonumber (str text ∷ num base ∷ [])) _ (λ s. sym (tonumber-other text base s other))
    c.in_err-number.ensures.fault))))

pub returns : goal.returns
returns c =
    let vs = values_of c.args.heap.now c.args.args.now in
    let base = c.in_ok-base.base in
    let text = c.in_ok-text.text.now in
    let other : same (num base) (num (pos 10)) ≡ false = sym c.is_ten.ensures ∙ c.if-is_ten.false in
    gives-then _ _ _ _ c.in_ok-base.ensures (λ s. base-other vs base s other
    ∙ then-at (text_argument 0 vs s) (by_base base) s text _ (c.in_ok-text.ensures s) (sym (tonumber-other text base s other) ∙ c.in_ok-number.ensures.ok s))
