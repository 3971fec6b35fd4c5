-- What a format writes, piece by piece.
use Rattle.std.proofs.Common.{◌≡◌, ◌≢◌, ℕ, suc, ◌+◌, Bool, List, [], ◌∷◌, ◌++◌, Option, None, Some, MatchOption, arith, ap, refl, sym, subst, ◌∙◌, append-nil}
use Rattle.std.specs.Prelude.{if◌then◌else◌}
use Rattle.std.proofs.lemmas.Bool.{ne_eqb, cond-false}
use Rattle.lua_tree.specs.Tree.{Bytes}
use Rattle.lua_meaning.specs.Value.{Value}
use Rattle.lua_meaning.specs.Store.{Store}
use Rattle.lua_meaning.specs.Fault.{Fault as Error}
use Rattle.lua_meaning.specs.Arguments.{Lib, Answer, answers, answer, ◌>>=◌, ◌>>>◌}
use Rattle.lua_meaning.specs.Format.{Item, plain_item, text_from, item_from, converted, invalid_format}
use Rattle.lua_lib.specs.declared.format.reading.Directive.{Directive}
use Rattle.lua_lib.specs.declared.format.reading.Directive.TheVariants.{Percent, Converts}
use Rattle.lua_lib.specs.Outcome.{Gives}
use Rattle.lua_lib.specs.Faults.{RaisesBy}
use Rattle.lua_lib.specs.Items.{written_by, IsDirective}
use Rattle.lua_lib.specs.Pieces.{put_before}
use Rattle.lua_lib.proofs.Binding.{raises-same}
use Rattle.lua_lib.proofs.Pieces.{one-more}

-- nothing is there
pub none-of : {X : Type 0} (r : Option X) (P : Type 0) (Q : X → Type 0) → MatchOption r P Q → ((x : X) → r ≢ Some x) → P
none-of None P Q is other = is
none-of (Some x) P Q is other = absurd (other x refl)

-- a letter that no item has
pub converted-other : (item : Item) (letter n : ℕ) (vs : List Value) → letter ≢ 100 → letter ≢ 115 → letter ≢ 120 → letter ≢ 88 → letter ≢ 99
    → converted item letter n vs ≡ invalid_format
converted-other item letter n vs d s x upper c =
    cond-false _ _ _ (ne_eqb letter 100 d)
    ∙ (cond-false _ _ _ (ne_eqb letter 115 s)
    ∙ (cond-false _ _ _ (ne_eqb letter 120 x)
    ∙ (cond-false _ _ _ (ne_eqb letter 88 upper)
    ∙ cond-false _ _ _ (ne_eqb letter 99 c))))

module _ (n : ℕ) (vs : List Value) where
  -- ---- what stands behind a `%`

  pub put-percent : (d : Directive) (old new rest : Bytes) (s : Store) → d ≡ Percent → new ≡ old ++ 37 ∷ []
      → put_before old (written_by d rest n vs) s ≡ put_before new (text_from rest n vs) s
  put-percent d old new rest s same is =
      ap (λ (x : Directive). put_before old (written_by x rest n vs) s) same ∙ one-more old (37 ∷ []) new (text_from rest n vs s) is

  pub put-converted : (d : Directive) (item : Item) (letter : ℕ) (old new piece rest : Bytes) (s : Store) → d ≡ Converts item letter → new ≡ old ++ piece
      → Gives (converted item letter n vs) piece → put_before old (written_by d rest n vs) s ≡ put_before new (text_from rest (n + 1) vs) s
  put-converted d item letter old new piece rest s same is gives =
      let next : suc n ≡ n + 1 = omega arith in
      ap (λ (x : Directive). put_before old (written_by x rest n vs) s) same
      ∙ (ap (λ (r : Answer Bytes). (r >>> λ made. text_from rest (suc n) vs >>= λ t. answer (made ++ t)) >>> λ t. answer (old ++ t)) (gives s)
      ∙ (one-more old piece new (text_from rest (suc n) vs s) is
      ∙ ap (λ (m : ℕ). put_before new (text_from rest m vs) s) next))

  pub converted-raises : (d : Directive) (item : Item) (letter : ℕ) (rest : Bytes) (e : Option Error) → d ≡ Converts item letter
      → RaisesBy (converted item letter n vs) e → RaisesBy (written_by d rest n vs) e
  converted-raises d item letter rest None same raises = tt
  converted-raises d item letter rest (Some e) same raises = λ s.
      ap (λ (x : Directive). written_by x rest n vs s) same
      ∙ ap (λ (r : Answer Bytes). r >>> λ made. text_from rest (suc n) vs >>= λ t. answer (made ++ t)) (raises s)

  -- ---- a byte of a format

  module _ (byte : ℕ) (behind : Bytes) where
    abbrev by_percent : Bool → Lib Bytes
    by_percent b = if b then item_from behind plain_item n vs else (text_from behind n vs >>= λ rest. answer (byte ∷ rest))

    pub put-byte : (old new : Bytes) (s : Store) → byte ≢ 37 → new ≡ old ++ byte ∷ []
        → put_before old (text_from (byte ∷ behind) n vs) s ≡ put_before new (text_from behind n vs) s
    put-byte old new s other is =
        ap (λ (b : Bool). put_before old (by_percent b) s) (ne_eqb byte 37 other) ∙ one-more old (byte ∷ []) new (text_from behind n vs s) is

    pub put-item : (directive : Directive) (left old : Bytes) (s : Store) → byte ≡ 37 → IsDirective behind directive left
        → put_before old (text_from (byte ∷ behind) n vs) s ≡ put_before old (written_by directive left n vs) s
    put-item directive left old s is read =
        ap (λ (b : ℕ). put_before old (text_from (b ∷ behind) n vs) s) is
        ∙ ap (λ (r : Answer Bytes). r >>> λ t. answer (old ++ t)) (read n vs s)

    pub item-raises : (e : Option Error) → byte ≡ 37 → RaisesBy (item_from behind plain_item n vs) e → RaisesBy (text_from (byte ∷ behind) n vs) e
    item-raises e is raises = let P : ℕ → Type 0 = λ b. RaisesBy (text_from (b ∷ behind) n vs) e in subst P (sym is) raises

    pub directive-raises : (directive : Directive) (left : Bytes) (e : Option Error) → byte ≡ 37 → IsDirective behind directive left
        → RaisesBy (written_by directive left n vs) e → RaisesBy (text_from (byte ∷ behind) n vs) e
    directive-raises directive left e is read raises =
        item-raises e is (raises-same (item_from behind plain_item n vs) (written_by directive left n vs) e (read n vs) raises)

  -- no byte is left
  pub written-end : (made rest : Bytes) (s : Store) → rest ≡ [] → put_before made (text_from rest n vs) s ≡ answers made s
  written-end made rest s none =
      ap (λ (t : List ℕ). put_before made (text_from t n vs) s) none ∙ ap (λ (t : List ℕ). answers t s) (append-nil made)

  -- a byte is, and what it begins raises an error
  pub written-raises : (whole : Lib Bytes) (made text : Bytes) (e : Option Error) → ((s : Store) → whole s ≡ put_before made (text_from text n vs) s)
      → RaisesBy (text_from text n vs) e → RaisesBy whole e
  written-raises whole made text None same raises = tt
  written-raises whole made text (Some e) same raises = λ s. same s ∙ ap (λ (r : Answer Bytes). r >>> λ t. answer (made ++ t)) (raises s)
