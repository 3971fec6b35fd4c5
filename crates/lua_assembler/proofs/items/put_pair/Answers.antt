use Rattle.std.proofs.Common.{◌≡◌, ◌+◌, ◌∙◌, ap, arith}
use Rattle.std.proofs.lemmas.Result.{on_ok_weaker}
use Rattle.lua_tree.specs.View.{expr_view}
use Rattle.lua_code.specs.Code.{site, ready, place}
use Rattle.lua_assembler.proofs.Adding.{pair_put}
use Rattle.lua_assembler.proofs.items.put_pair.Goals as goal

pub returns : goal.returns
returns c =
    let above : c.in_ok-next.field-0 ≡ c.args.table + 3 = omega (arith, c.in_ok-next.ensures, c.in_ok-third.ensures) in
    on_ok_weaker c.set_new.result (λ a. pair_put c.args.w.now c.right_place.new.w c.right_place-2.new.w c.set_new.new.w _ _ _ _ _ _ _
    c.in_ok-key.ensures.same c.in_ok-key.ensures.known
    (c.in_ok-key.ensures.place ∙ ap (λ n. place (ready (expr_view c.args.key.now) c.args.scope.now) n) c.in_ok-next-2.ensures)
    c.in_ok-value.ensures.same c.in_ok-value.ensures.grows
    (c.in_ok-value.ensures.place ∙ ap (λ n. place (ready (expr_view c.args.value.now) c.args.scope.now) n) c.in_ok-third.ensures)
    (c.site_of-site.ensures ∙ ap (λ n. site c.args.line n c.args.scope.now) above)
    a) c.set_new.ensures
