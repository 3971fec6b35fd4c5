-- Which word stands where a token of a kind does, and what a rule does there by the kind.
use Rattle.std.proofs.Common.{◌≡◌, ℕ, List, [], ◌∷◌, Option, Some, None, Bool, true, false, drop, refl, sym, ap, ◌∙◌, subst}
use Rattle.std.specs.Prelude.{slice_get}
use Rattle.std.proofs.lemmas.Bool.{false≢true}
use Rattle.lua_token.specs.declared.kind.Kind.{Kind}
use Rattle.lua_token.specs.declared.kind.Kind.TheVariants as kinds
use Rattle.lua_token.specs.declared.token.Token.{Token}
use Rattle.lua_tree.specs.Tree.{Bytes, no_exprs, no_stats, return_stat}
use Rattle.lua_tree.specs.Words as w
use Rattle.lua_tree.specs.Words.{Word, Spot, Tok, tok, word_of}
use Rattle.lua_tree.specs.Attributes.{Counts}
use Rattle.lua_tree.specs.Reading.{Prog, give, then, exprs, a_block, a_stat, block_of, with_last, with_stat, return_rest_of}
use Rattle.lua_tree.specs.Spelled.{Spelled, IsWord, kind_at, kind_of, word_of_kind}
use Rattle.lua_tree.specs.Begins.{begins_last, begins_stat, ends_return_at}
use Rattle.lua_tree.proofs.Places.{here, past}

-- a word is one of this kind, or the end where there is none
abbrev pub WordFor : Option Kind → Word → Type 0
WordFor None v = v ≡ w.the_end
WordFor (Some kinds.Name) v = (x : Bytes) × (v ≡ w.name x)
WordFor (Some (kinds.Number z)) v = v ≡ w.number z
WordFor (Some kinds.Str) v = (x : Bytes) × (v ≡ w.str x)
WordFor (Some k) v = v ≡ word_of_kind k

word_by : (source : List ℕ) (u : Token) (k : Kind) (v : Word) → IsWord source u k v → WordFor (Some k) v
word_by source u kinds.Name v h = (_, h)
word_by source u (kinds.Number z) v h = h
word_by source u kinds.Str v h = (h.0, h.2)
word_by source u k v h = h

pub word_for : {source : List ℕ} {first : ℕ} {ts : List Token} {words : List Tok} → Spelled source first ts words → (at : ℕ) → WordFor (kind_at ts at) (word_of (drop at words))
word_for {source = source} {ts = ts} {words = words} spelled at =
    elim (slice_get ts at) as (λ o. slice_get ts at ≡ o → WordFor (kind_of o) (word_of (drop at words))) [
      | None ↦ λ e. ap word_of (past spelled at e)
      | Some u ↦ λ e.
          let h = here spelled at u e in
          subst (λ (v : Word). WordFor (Some u.kind) v) (sym (ap word_of h.stands)) (word_by source u u.kind h.word h.is_word)
    ] refl

-- what is done at the word that stands there
by_word : {A : Type 0} (f : Word → A) (v u : Word) (a : A) → v ≡ u → f u ≡ a → f v ≡ a
by_word f v u a e h = ap f e ∙ h

-- a statement begins there
pub block_begins : (c : Counts) (s : Spot) (o : Option Kind) (v : Word) → WordFor o v → begins_stat o ≡ true → block_of c v s ≡ with_stat c
block_begins c s None v e h = absurd (false≢true h)
block_begins c s (Some kinds.Do) v e h = by_word (λ (v : Word). block_of c v s) v _ _ e refl
block_begins c s (Some kinds.While) v e h = by_word (λ (v : Word). block_of c v s) v _ _ e refl
block_begins c s (Some kinds.Repeat) v e h = by_word (λ (v : Word). block_of c v s) v _ _ e refl
block_begins c s (Some kinds.If) v e h = by_word (λ (v : Word). block_of c v s) v _ _ e refl
block_begins c s (Some kinds.For) v e h = by_word (λ (v : Word). block_of c v s) v _ _ e refl
block_begins c s (Some kinds.Function) v e h = by_word (λ (v : Word). block_of c v s) v _ _ e refl
block_begins c s (Some kinds.Local) v e h = by_word (λ (v : Word). block_of c v s) v _ _ e refl
block_begins c s (Some kinds.Name) v e h = by_word (λ (v : Word). block_of c v s) v _ _ e.1 refl
block_begins c s (Some kinds.OpenParen) v e h = by_word (λ (v : Word). block_of c v s) v _ _ e refl
block_begins c s (Some k) v e h = absurd (false≢true h)

-- a last statement does
pub block_lasts : (c : Counts) (s : Spot) (o : Option Kind) (v : Word) → WordFor o v → begins_last o ≡ true → block_of c v s ≡ with_last c
block_lasts c s None v e h = absurd (false≢true h)
block_lasts c s (Some kinds.Return) v e h = by_word (λ (v : Word). block_of c v s) v _ _ e refl
block_lasts c s (Some kinds.Break) v e h = by_word (λ (v : Word). block_of c v s) v _ _ e refl
block_lasts c s (Some k) v e h = absurd (false≢true h)

-- none does
pub block_ends : (c : Counts) (s : Spot) (o : Option Kind) (v : Word) → WordFor o v → begins_stat o ≡ false → begins_last o ≡ false → block_of c v s ≡ give no_stats
block_ends c s None v e h i = by_word (λ (v : Word). block_of c v s) v _ _ e refl
block_ends c s (Some kinds.Do) v e h i = absurd (false≢true (sym h))
block_ends c s (Some kinds.While) v e h i = absurd (false≢true (sym h))
block_ends c s (Some kinds.Repeat) v e h i = absurd (false≢true (sym h))
block_ends c s (Some kinds.If) v e h i = absurd (false≢true (sym h))
block_ends c s (Some kinds.For) v e h i = absurd (false≢true (sym h))
block_ends c s (Some kinds.Function) v e h i = absurd (false≢true (sym h))
block_ends c s (Some kinds.Local) v e h i = absurd (false≢true (sym h))
block_ends c s (Some kinds.Name) v e h i = absurd (false≢true (sym h))
block_ends c s (Some kinds.OpenParen) v e h i = absurd (false≢true (sym h))
block_ends c s (Some kinds.Return) v e h i = absurd (false≢true (sym i))
block_ends c s (Some kinds.Break) v e h i = absurd (false≢true (sym i))
block_ends c s (Some (kinds.Number z)) v e h i = by_word (λ (v : Word). block_of c v s) v _ _ e refl
block_ends c s (Some kinds.Str) v e h i = by_word (λ (v : Word). block_of c v s) v _ _ e.1 refl
block_ends c s (Some k) v e h i = by_word (λ (v : Word). block_of c v s) v _ _ e refl

-- a `return` has no expressions there
pub return_ends : (l : ℕ) (c : Counts) (s : Spot) (o : Option Kind) (v : Word) → WordFor o v → ends_return_at o ≡ true → return_rest_of l c v s ≡ give (return_stat l no_exprs)
return_ends l c s None v e h = by_word (λ (v : Word). return_rest_of l c v s) v _ _ e refl
return_ends l c s (Some kinds.End) v e h = by_word (λ (v : Word). return_rest_of l c v s) v _ _ e refl
return_ends l c s (Some kinds.Else) v e h = by_word (λ (v : Word). return_rest_of l c v s) v _ _ e refl
return_ends l c s (Some kinds.ElseIf) v e h = by_word (λ (v : Word). return_rest_of l c v s) v _ _ e refl
return_ends l c s (Some kinds.Until) v e h = by_word (λ (v : Word). return_rest_of l c v s) v _ _ e refl
return_ends l c s (Some kinds.Semicolon) v e h = by_word (λ (v : Word). return_rest_of l c v s) v _ _ e refl
return_ends l c s (Some k) v e h = absurd (false≢true h)

-- it has some
pub return_goes : (l : ℕ) (c : Counts) (s : Spot) (o : Option Kind) (v : Word) → WordFor o v → ends_return_at o ≡ false
    → return_rest_of l c v s ≡ then (exprs c) (λ es. give (return_stat l es))
return_goes l c s None v e h = absurd (false≢true (sym h))
return_goes l c s (Some kinds.End) v e h = absurd (false≢true (sym h))
return_goes l c s (Some kinds.Else) v e h = absurd (false≢true (sym h))
return_goes l c s (Some kinds.ElseIf) v e h = absurd (false≢true (sym h))
return_goes l c s (Some kinds.Until) v e h = absurd (false≢true (sym h))
return_goes l c s (Some kinds.Semicolon) v e h = absurd (false≢true (sym h))
return_goes l c s (Some kinds.Name) v e h = by_word (λ (v : Word). return_rest_of l c v s) v _ _ e.1 refl
return_goes l c s (Some (kinds.Number z)) v e h = by_word (λ (v : Word). return_rest_of l c v s) v _ _ e refl
return_goes l c s (Some kinds.Str) v e h = by_word (λ (v : Word). return_rest_of l c v s) v _ _ e.1 refl
return_goes l c s (Some k) v e h = by_word (λ (v : Word). return_rest_of l c v s) v _ _ e refl

-- a last statement that is no `return` is a `break`
pub is_break : (o : Option Kind) → begins_last o ≡ true → (o ≡ Some kinds.Return → ⊥) → o ≡ Some kinds.Break
is_break None h n = absurd (false≢true h)
is_break (Some kinds.Return) h n = absurd (n refl)
is_break (Some kinds.Break) h n = refl
is_break (Some k) h n = absurd (false≢true h)
