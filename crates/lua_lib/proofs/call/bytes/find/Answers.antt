use Rattle.std.proofs.Common.{◌≡◌, ℤ, Bool, List, length, drop, ap, sym, subst, ◌∙◌}
use Rattle.std.specs.Prelude.{codes, not, ◌&&◌, if◌then◌else◌}
use Rattle.std.proofs.lemmas.Result.{err_from_is_err_and}
use Rattle.lua_tree.specs.Tree.{Bytes}
use Rattle.lua_meaning.specs.Value.{Value, is_true}
use Rattle.lua_meaning.specs.Fault.{says}
use Rattle.lua_meaning.specs.Arguments.{Lib, answers, answer, fault, argument}
use Rattle.lua_meaning.specs.Strings.{is_pattern, found_places, first_place, passed_over}
use Rattle.lua_lib.specs.Causes.{values_of, error_of}
use Rattle.lua_lib.specs.Faults.{RaisesBy}
use Rattle.lua_lib.proofs.Binding.{gives-then, raises-first, raises-then}
use Rattle.lua_lib.proofs.call.bytes.find.Goals as goal

-- what follows when all arguments are read
abbrev searched : Bytes → Bytes → ℤ → Bool → Lib (List Value)
searched s p init plain =
    if is_pattern p && not plain then fault (says (codes "patterns are not available"))
    else answer (found_places (length p) (first_place p (drop (passed_over (length s) init) s) (passed_over (length s) init)))

pub returns-in_err-text : goal.returns-in_err-text
returns-in_err-text c =
    let p = err_from_is_err_and c.from_residual.result c.from_residual.ensures.1 in
    rw (p.1, p.2) (raises-first _ _ _ c.in_err-text.ensures)

pub returns-in_err-wanted : goal.returns-in_err-wanted
returns-in_err-wanted c =
    let p = err_from_is_err_and c.from_residual-in_err-wanted.result c.from_residual-in_err-wanted.ensures.1 in
    rw (p.1, p.2) (raises-then _ _ _ _ c.in_ok-text.ensures (raises-first _ _ _ c.in_err-wanted.ensures))

pub returns-in_err-init : goal.returns-in_err-init
returns-in_err-init c =
    let p = err_from_is_err_and c.from_residual-in_err-init.result c.from_residual-in_err-init.ensures.1 in
    rw (p.1, p.2) (raises-then _ _ _ _ c.in_ok-text.ensures (raises-then _ _ _ _ c.in_ok-wanted.ensures (raises-first _ _ _ c.in_err-init.ensures)))

pub returns-in_err-place : goal.returns-in_err-place
returns-in_err-place c =
    let h = c.args.heap.now in
    let text = c.in_ok-text.text.now in
    let wanted = c.in_ok-wanted.wanted.now in
    let init = c.in_ok-init.init in
    let p = err_from_is_err_and c.from_residual-in_err-place.result c.from_residual-in_err-place.ensures.1 in
    let plain : c.is_true-plain.result ≡ is_true (argument 3 (values_of h c.args.args.now)) = c.is_true-plain.ensures h.texts ∙ ap is_true (c.argument.ensures.value h.texts) in
    let P : Bool → Type 0 = λ b. RaisesBy (searched text wanted init b) (error_of h.texts p.0) in
    let fails : P c.is_true-plain.result = rw p.2 c.in_err-place.ensures.fault in
    rw p.1 (raises-then _ _ _ _ c.in_ok-text.ensures (raises-then _ _ _ _ c.in_ok-wanted.ensures (raises-then _ _ _ _ c.in_ok-init.ensures
    (subst P plain fails))))

pub returns : goal.returns
returns c =
    let h = c.args.heap.now in
    let text = c.in_ok-text.text.now in
    let wanted = c.in_ok-wanted.wanted.now in
    let init = c.in_ok-init.init in
    let plain : c.is_true-plain.result ≡ is_true (argument 3 (values_of h c.args.args.now)) = c.is_true-plain.ensures h.texts ∙ ap is_true (c.argument.ensures.value h.texts) in
    gives-then _ _ _ _ c.in_ok-text.ensures (gives-then _ _ _ _ c.in_ok-wanted.ensures (gives-then _ _ _ _ c.in_ok-init.ensures
    (λ s. ap (λ (b : Bool). searched text wanted init b s) (sym plain) ∙ (c.in_ok-place.ensures.ok s ∙ ap (λ (vs : List Value). answers vs s) (sym c.in_ok-places.ensures.ok)))))
