-- The characters of a quoted string, and the lines of a long one.
use Rattle.std.proofs.Common.{◌≡◌, ℕ, ◌+◌, ◌<◌, Bool, true, false, cond, List, [], ◌∷◌, ◌++◌, length, drop, get_or, sym, ap, ◌∙◌, append_assoc}
use Rattle.std.proofs.lemmas.List.{at_drop_more}
use Rattle.lua_token.specs.Quoted.{character_at, Characters, nothing, then_more}
use Rattle.lua_token.specs.Value.{is_return_newline, plain_lines}
use Rattle.lua_token.specs.declared.quoted.Character.TheVariants.{Byte}

-- one more character behind those before
pub one_more : {q b n : ℕ} {text bytes rest : List ℕ} → Characters q text bytes rest → character_at q rest ≡ Byte b n → Characters q text (bytes ++ b ∷ []) (drop n rest)
one_more nothing e = then_more e nothing
one_more (then_more first others) e = then_more first (one_more others e)

-- the line ends of what is left, one byte on
next_line : (text : List ℕ) (at : ℕ) → at < length text
    → plain_lines (drop at text) ≡ cond (is_return_newline (drop at text)) (plain_lines (drop (at + 1) text)) (get_or text at 0 ∷ plain_lines (drop (at + 1) text))
next_line text at lt =
    at_drop_more plain_lines text at 0 lt
    ∙ ap (λ (b : Bool). cond b (plain_lines (drop (at + 1) text)) (get_or text at 0 ∷ plain_lines (drop (at + 1) text))) (sym (at_drop_more is_return_newline text at 0 lt))

pub skips_return : (text bytes all : List ℕ) (at : ℕ) → at < length text → is_return_newline (drop at text) ≡ true → bytes ++ plain_lines (drop at text) ≡ all → bytes ++ plain_lines (drop (at + 1) text) ≡ all
skips_return text bytes all at lt e h =
    ap (λ (t : List ℕ). bytes ++ t) (sym (next_line text at lt ∙ ap (λ (b : Bool). cond b (plain_lines (drop (at + 1) text)) (get_or text at 0 ∷ plain_lines (drop (at + 1) text))) e)) ∙ h

pub keeps_byte : (text bytes all : List ℕ) (at : ℕ) → at < length text → is_return_newline (drop at text) ≡ false → bytes ++ plain_lines (drop at text) ≡ all → (bytes ++ get_or text at 0 ∷ []) ++ plain_lines (drop (at + 1) text) ≡ all
keeps_byte text bytes all at lt e h =
    append_assoc bytes (get_or text at 0 ∷ []) (plain_lines (drop (at + 1) text))
    ∙ ap (λ (t : List ℕ). bytes ++ t) (sym (next_line text at lt ∙ ap (λ (b : Bool). cond b (plain_lines (drop (at + 1) text)) (get_or text at 0 ∷ plain_lines (drop (at + 1) text))) e)) ∙ h
