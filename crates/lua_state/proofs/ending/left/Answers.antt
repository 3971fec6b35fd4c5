use Rattle.std.proofs.Common.{◌≡◌, ℕ, List, refl, sym, ap, subst}
use Rattle.variant.specs.declared.source.Source.TheVariants as source
use Rattle.channel_core.specs.declared.entry.Entry.{Entry}
use Rattle.lua_state.specs.Runs.{AreChannels, AreFree}
use Rattle.lua_state.proofs.Closing.{free_all}
use Rattle.lua_state.proofs.ending.left.Goals as goal

pub returns-clause-left : goal.returns-clause-left
returns-clause-left c =
    let kept = c.requires.kept in
    record {
      main = record { state = refl; thread = refl; source = ap source.File c.requires.source; args = c.requires.args; stop = refl; told = refl };
      actions = kept.done;
      cuts = c.requires.cuts;
      ended = c.requires.holds;
      board = kept.stand.board;
      channels = subst (λ (l : List (List Entry)). AreChannels c.args.objects.trace.actions l) (sym c.from_vec.ensures) (record { made = kept.stand.made; each = λ number least most. kept.stand.histories number (least, most) });
      free = subst AreFree (sym c.from_vec.ensures) (free_all c.args.objects kept c.requires.none);
    }
