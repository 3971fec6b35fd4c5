use Rattle.std.proofs.Common.{sym, subst, ◌∙◌, Ok}
use Rattle.std.specs.Prelude.{IfOk}
use Rattle.lua_token.specs.Value.{StringBytes}
use Rattle.lua_token.specs.declared.kind.Kind.TheVariants.{Str}
use Rattle.lua_token.specs.declared.start.Start.{Start}
use Rattle.lua_token.specs.declared.step.Step.TheVariants.{Found}
use Rattle.lua_token.proofs.Values.{quote_begins, quote_closes, something_stands}
use Rattle.lua_token.proofs.value.value_at.Goals as goal

pub quoted_bytes-requires : goal.quoted_bytes-requires
quoted_bytes-requires c = record {
  some = something_stands c.args.text.now (Ok (Found Str c.args.size)) c.requires.stands;
  closed = quote_closes c.args.text.now c.args.size c.requires.stands (λ n e. c.in_default.not-Long n (c.start_of.ensures.value ∙ e));
}

pub returns-in_default : goal.returns-in_default
returns-in_default c =
    let quote = quote_begins c.args.text.now c.args.size c.requires.stands (λ n e. c.in_default.not-Long n (c.start_of.ensures.value ∙ e)) in
    subst (λ (x : Start). IfOk c.quoted_bytes.result (λ bytes. StringBytes x c.args.text.now bytes.items)) (sym quote) c.quoted_bytes.ensures
