-- How each kind of message is seen.
use Rattle.std.proofs.Common.{◌≡◌, ℕ, ℤ, Bool, List, sym, ap, ◌∙◌}
use Rattle.love_base.specs.Data.{Contents}
use Rattle.variant.specs.declared.message.Variant.{Variant}
use Rattle.variant.specs.declared.message.Variant.TheFolds.{fold-roll-Variant}
use Rattle.variant.specs.declared.message.Variant.TheOpen.{Variant-F}
use Rattle.variant.specs.declared.message.Variant.TheVariants as variant
use Rattle.variant.specs.declared.message.Variant.TheVariants.{rolls-Nil, rolls-Bool, rolls-Num, rolls-Bytes, rolls-Data, rolls-Channel, rolls-Table}
use Rattle.lua_meaning.specs.Message.{Message}
use Rattle.lua_meaning.specs.MessageView.{message_view, layer_view}
use Rattle.crossing.specs.Pairs.{pairs_view}

pub seen-Nil : message_view variant.Nil ≡ Message.nil
seen-Nil = ap message_view (sym rolls-Nil) ∙ fold-roll-Variant Message layer_view Variant-F.Nil

pub seen-Bool : (b : Bool) → message_view (variant.Bool b) ≡ Message.flag b
seen-Bool b = ap message_view (sym (rolls-Bool b)) ∙ fold-roll-Variant Message layer_view (Variant-F.Bool b)

pub seen-Num : (n : ℤ) → message_view (variant.Num n) ≡ Message.num n
seen-Num n = ap message_view (sym (rolls-Num n)) ∙ fold-roll-Variant Message layer_view (Variant-F.Num n)

pub seen-Bytes : (text : List ℕ) → message_view (variant.Bytes text) ≡ Message.str text
seen-Bytes text = ap message_view (sym (rolls-Bytes text)) ∙ fold-roll-Variant Message layer_view (Variant-F.Bytes text)

pub seen-Data : (contents : Contents) → message_view (variant.Data contents) ≡ Message.datum contents
seen-Data contents = ap message_view (sym (rolls-Data contents)) ∙ fold-roll-Variant Message layer_view (Variant-F.Data contents)

pub seen-Channel : (number : ℕ) → message_view (variant.Channel number) ≡ Message.channel number
seen-Channel number = ap message_view (sym (rolls-Channel number)) ∙ fold-roll-Variant Message layer_view (Variant-F.Channel number)

pub seen-Table : (pairs : List (Variant × Variant)) → message_view (variant.Table pairs) ≡ Message.table (pairs_view pairs)
seen-Table pairs = ap message_view (sym (rolls-Table pairs)) ∙ fold-roll-Variant Message layer_view (Variant-F.Table pairs)
