-- How messages are seen.
use Rattle.std.proofs.Common.{sym, ap, ◌∙◌}
use Rattle.variant.specs.declared.message.Variant.TheFolds.{fold-roll-Variant}
use Rattle.variant.specs.declared.message.Variant.TheOpen.{Variant-F}
use Rattle.variant.specs.declared.message.Variant.TheVariants.{rolls-Nil, rolls-Bool, rolls-Num, rolls-Bytes, rolls-Data, rolls-Channel, rolls-Table}
use Rattle.lua_meaning.specs.Laws.{MessagesSeen}
use Rattle.lua_meaning.specs.Message.{Message}
use Rattle.lua_meaning.specs.MessageView.{message_view, layer_view}

pub messages_seen : MessagesSeen
messages_seen = record {
  nil_seen = ap message_view (sym rolls-Nil) ∙ fold-roll-Variant Message layer_view Variant-F.Nil;
  flag_seen = λ b. ap message_view (sym (rolls-Bool b)) ∙ fold-roll-Variant Message layer_view (Variant-F.Bool b);
  num_seen = λ n. ap message_view (sym (rolls-Num n)) ∙ fold-roll-Variant Message layer_view (Variant-F.Num n);
  text_seen = λ t. ap message_view (sym (rolls-Bytes t)) ∙ fold-roll-Variant Message layer_view (Variant-F.Bytes t);
  data_seen = λ d. ap message_view (sym (rolls-Data d)) ∙ fold-roll-Variant Message layer_view (Variant-F.Data d);
  channel_seen = λ c. ap message_view (sym (rolls-Channel c)) ∙ fold-roll-Variant Message layer_view (Variant-F.Channel c);
  table_seen = λ p. ap message_view (sym (rolls-Table p)) ∙ fold-roll-Variant Message layer_view (Variant-F.Table p);
}
