use Rattle.std.proofs.Common.{◌≡◌, ℕ, List, [], drop, true, Ok, Err, sym, ap, subst, inr, arith}
use Rattle.std.specs.Prelude.{◌==◌}
use Rattle.std.proofs.lemmas.List.{drop-drop, append-nil}
use Rattle.lua_pattern.specs.Element.{element_at, set_end, SetRead, Members, with_members}
use Rattle.lua_pattern.specs.declared.class.Member.{Member}
use Rattle.lua_pattern.specs.declared.element.Element.{Element}
use Rattle.lua_pattern.specs.declared.element.Element.TheVariants.{Is, Closing, Unclosed, LonePercent}
use Rattle.lua_pattern.proofs.SetLemmas.{rest_is, with_members-none, one_more, ended}
use Rattle.lua_pattern.proofs.set.members.Goals as goal

pub loop-member-init : goal.loop-member-init
loop-member-init c = record {
  within = omega arith;
  so_far = λ read h. subst (λ (ms : List Member). Members true c.args.text.now (with_members ms read)) (sym c.new-members.ensures) (subst (λ (r : SetRead). Members true c.args.text.now r) (sym (with_members-none read)) h);
}

pub loop-member-preserved : goal.loop-member-preserved
loop-member-preserved c =
    let text = c.args.text.now in
    let at = c.loop-member.at in
    let stands = subst (λ (rest : List ℕ). element_at (at == 0) rest ≡ Is c.in-Is.member c.in-Is.length) (rest_is at text) (sym c.in-Is.ensures.value) in
    let more = one_more text at c.in-Is.length c.loop-member.members c.in-Is.member (c.in-Is.ensures.fits.0) stands c.loop-member.invariant.so_far in
    record {
      within = omega (arith, c.in-Is.ensures.fits);
      so_far = λ read h. subst (λ (ms : List Member). Members true text (with_members ms read)) (sym c.in_ok-push-in-Is.ensures.ok) (more read h);
    }

pub returns-in-Closing-clause-ok : goal.returns-in-Closing-clause-ok
returns-in-Closing-clause-ok c =
    let text = c.args.text.now in
    let at = c.loop-member.at in
    let ms = c.loop-member.members in
    let stands = subst (λ (rest : List ℕ). element_at (at == 0) rest ≡ Closing) (rest_is at text) (sym c.in-Closing.ensures.value) in
    let read = ended text at ms (Ok ([], drop 1 (drop at text))) (ap (λ (e : Element). set_end e (drop at text)) stands) c.loop-member.invariant.so_far in
    let behind = drop-drop 1 at text in
    (subst (λ (rest : List ℕ). Members true text (Ok (ms, rest))) behind (subst (λ (all : List Member). Members true text (Ok (all, drop 1 (drop at text)))) (append-nil ms) read), omega (arith, c.in-Closing.ensures.fits))

pub returns-in-Unclosed-clause-fault : goal.returns-in-Unclosed-clause-fault
returns-in-Unclosed-clause-fault c =
    let text = c.args.text.now in
    let at = c.loop-member.at in
    let stands = subst (λ (rest : List ℕ). element_at (at == 0) rest ≡ Unclosed) (rest_is at text) (sym c.in-Unclosed.ensures.value) in
    inr (ended text at c.loop-member.members (Err _) (ap (λ (e : Element). set_end e (drop at text)) stands) c.loop-member.invariant.so_far)

pub returns-in-LonePercent-clause-fault : goal.returns-in-LonePercent-clause-fault
returns-in-LonePercent-clause-fault c =
    let text = c.args.text.now in
    let at = c.loop-member.at in
    let stands = subst (λ (rest : List ℕ). element_at (at == 0) rest ≡ LonePercent) (rest_is at text) (sym c.in-LonePercent.ensures.value) in
    inr (ended text at c.loop-member.members (Err _) (ap (λ (e : Element). set_end e (drop at text)) stands) c.loop-member.invariant.so_far)
