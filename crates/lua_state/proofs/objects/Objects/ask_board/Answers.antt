use Rattle.std.proofs.Common.{◌∙◌, ℕ, refl, ap, cond, List, [], ◌∷◌, ◌++◌, length}
use Rattle.channel_core.specs.declared.entry.Entry.{Entry}
use Rattle.lua_state.proofs.Boarding.{acted_board}
use Rattle.lua_state.proofs.objects.Objects.ask_board.Goals as goal

pub returns-clause-acts : goal.returns-clause-acts
returns-clause-acts c =
    acted_board c.args.self.now _ c.requires.kept c.args.ask.now _ c.requires.ask c.at_board.new.board c.stamp-by.result c.in_ok-answer.field-0 c.stamp-by.ensures refl c.at_board.ensures.workers
    c.in_ok-answer.ensures.answers c.in-Some.is refl (ap length c.history.ensures.entries) c.makes_channel-made.result c.makes_channel-made.ensures (c.add_made.ensures.channels ∙ ap (λ (l : List (List Entry)). cond c.makes_channel-made.result (l ++ [] ∷ []) l) c.in_ok-reserve.ensures.items) (c.add_made.ensures.depths ∙ ap (λ (l : List ℕ). cond c.makes_channel-made.result (l ++ 0 ∷ []) l) c.in_ok-reserve-2.ensures.items) refl refl
