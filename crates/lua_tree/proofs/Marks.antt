-- Keywords and symbols are words, each its own.
use Rattle.std.proofs.Common.{◌≡◌, ℕ, suc, Bool, true, false, List, [], ◌∷◌, Option, Some, None, take, drop, refl, sym, ap, ◌∙◌, subst}
use Rattle.std.proofs.lemmas.Bool.{false≢true}
use Rattle.std.specs.Prelude.{slice_get}
use Rattle.std.proofs.lemmas.Option.{none-some, same_Some}
use Rattle.lua_token.specs.Value.{HasValue}
use Rattle.lua_token.specs.declared.kind.Kind.{Kind}
use Rattle.lua_token.specs.declared.kind.Kind.TheVariants as kinds
use Rattle.lua_token.specs.declared.token.Token.{Token}
use Rattle.lua_tree.specs.Tree as t
use Rattle.lua_tree.specs.Words as w
use Rattle.lua_tree.specs.Words.{Word, Spot, Tok, tok, word_of}
use Rattle.lua_tree.specs.Spelled.{Spelled, IsWord, kind_at, kind_of, word_of_kind, spot_behind}
use Rattle.lua_tree.specs.Answer.{line_of}
use Rattle.lua_tree.proofs.Places.{here, past, before_at}

-- a keyword or a symbol
abbrev pub IsKey : Kind → Type 0
IsKey kinds.Name = ⊥
IsKey (kinds.Number z) = ⊥
IsKey kinds.Str = ⊥
IsKey kind = Unit {0}

-- the kind of a keyword's or a symbol's word
abbrev pub kind_of_word : Word → Option Kind
kind_of_word (w.op t.and_) = Some kinds.And
kind_of_word (w.key w.break_) = Some kinds.Break
kind_of_word (w.key w.do_) = Some kinds.Do
kind_of_word (w.key w.else_) = Some kinds.Else
kind_of_word (w.key w.elseif) = Some kinds.ElseIf
kind_of_word (w.key w.end_) = Some kinds.End
kind_of_word (w.key w.false_) = Some kinds.False
kind_of_word (w.key w.for_) = Some kinds.For
kind_of_word (w.key w.function_) = Some kinds.Function
kind_of_word (w.key w.if_) = Some kinds.If
kind_of_word (w.key w.in_) = Some kinds.In
kind_of_word (w.key w.local_) = Some kinds.Local
kind_of_word (w.key w.nil_) = Some kinds.Nil
kind_of_word (w.key w.not_) = Some kinds.Not
kind_of_word (w.op t.or_) = Some kinds.Or
kind_of_word (w.key w.repeat_) = Some kinds.Repeat
kind_of_word (w.key w.return_) = Some kinds.Return
kind_of_word (w.key w.then_) = Some kinds.Then
kind_of_word (w.key w.true_) = Some kinds.True
kind_of_word (w.key w.until) = Some kinds.Until
kind_of_word (w.key w.while_) = Some kinds.While
kind_of_word (w.op t.add) = Some kinds.Plus
kind_of_word (w.op t.sub) = Some kinds.Minus
kind_of_word (w.op t.mul) = Some kinds.Star
kind_of_word (w.op t.div) = Some kinds.Slash
kind_of_word (w.op t.mod_) = Some kinds.Percent
kind_of_word (w.op t.pow) = Some kinds.Caret
kind_of_word (w.key w.hash) = Some kinds.Hash
kind_of_word (w.op t.equal) = Some kinds.Equal
kind_of_word (w.op t.not_equal) = Some kinds.NotEqual
kind_of_word (w.op t.less_equal) = Some kinds.LessEqual
kind_of_word (w.op t.greater_equal) = Some kinds.GreaterEqual
kind_of_word (w.op t.less) = Some kinds.Less
kind_of_word (w.op t.greater) = Some kinds.Greater
kind_of_word (w.key w.assign) = Some kinds.Assign
kind_of_word (w.key w.open_paren) = Some kinds.OpenParen
kind_of_word (w.key w.close_paren) = Some kinds.CloseParen
kind_of_word (w.key w.open_brace) = Some kinds.OpenBrace
kind_of_word (w.key w.close_brace) = Some kinds.CloseBrace
kind_of_word (w.key w.open_bracket) = Some kinds.OpenBracket
kind_of_word (w.key w.close_bracket) = Some kinds.CloseBracket
kind_of_word (w.key w.semicolon) = Some kinds.Semicolon
kind_of_word (w.key w.colon) = Some kinds.Colon
kind_of_word (w.key w.comma) = Some kinds.Comma
kind_of_word (w.key w.dot) = Some kinds.Dot
kind_of_word (w.op t.concat) = Some kinds.Concat
kind_of_word (w.key w.dots) = Some kinds.Dots
kind_of_word v = None

word_kind : (k : Kind) → IsKey k → kind_of_word (word_of_kind k) ≡ Some k
word_kind kinds.Name h = absurd h
word_kind (kinds.Number z) h = absurd h
word_kind kinds.Str h = absurd h
word_kind kinds.And h = refl
word_kind kinds.Break h = refl
word_kind kinds.Do h = refl
word_kind kinds.Else h = refl
word_kind kinds.ElseIf h = refl
word_kind kinds.End h = refl
word_kind kinds.False h = refl
word_kind kinds.For h = refl
word_kind kinds.Function h = refl
word_kind kinds.If h = refl
word_kind kinds.In h = refl
word_kind kinds.Local h = refl
word_kind kinds.Nil h = refl
word_kind kinds.Not h = refl
word_kind kinds.Or h = refl
word_kind kinds.Repeat h = refl
word_kind kinds.Return h = refl
word_kind kinds.Then h = refl
word_kind kinds.True h = refl
word_kind kinds.Until h = refl
word_kind kinds.While h = refl
word_kind kinds.Plus h = refl
word_kind kinds.Minus h = refl
word_kind kinds.Star h = refl
word_kind kinds.Slash h = refl
word_kind kinds.Percent h = refl
word_kind kinds.Caret h = refl
word_kind kinds.Hash h = refl
word_kind kinds.Equal h = refl
word_kind kinds.NotEqual h = refl
word_kind kinds.LessEqual h = refl
word_kind kinds.GreaterEqual h = refl
word_kind kinds.Less h = refl
word_kind kinds.Greater h = refl
word_kind kinds.Assign h = refl
word_kind kinds.OpenParen h = refl
word_kind kinds.CloseParen h = refl
word_kind kinds.OpenBrace h = refl
word_kind kinds.CloseBrace h = refl
word_kind kinds.OpenBracket h = refl
word_kind kinds.CloseBracket h = refl
word_kind kinds.Semicolon h = refl
word_kind kinds.Colon h = refl
word_kind kinds.Comma h = refl
word_kind kinds.Dot h = refl
word_kind kinds.Concat h = refl
word_kind kinds.Dots h = refl

-- the word of a keyword's or a symbol's token
key_word : (source : List ℕ) (u : Token) (k : Kind) (v : Word) → IsKey k → IsWord source u k v → v ≡ word_of_kind k
key_word source u kinds.Name v h e = absurd h
key_word source u (kinds.Number z) v h e = absurd h
key_word source u kinds.Str v h e = absurd h
key_word source u k v h e = e

-- the token of a kind
pub kind_token : (ts : List Token) (at : ℕ) (k : Kind) → kind_at ts at ≡ Some k → (u : Token) × (slice_get ts at ≡ Some u) × (u.kind ≡ k)
kind_token ts at k e = elim (slice_get ts at) as (λ o. kind_of o ≡ Some k → (u : Token) × (o ≡ Some u) × (u.kind ≡ k)) [
  | None ↦ λ none. absurd (none-some k none)
  | Some u ↦ λ some. (u, refl, same_Some u.kind k some)
] e

-- a keyword or a symbol stands at a place, on this line
pub record Stands (ts : List Token) (words : List Tok) (at : ℕ) (v : Word) : Type 0 where
  pub spot : Spot
  pub is : drop at words ≡ tok v spot ∷ drop (suc at) words
  pub line : spot.line ≡ line_of (slice_get ts at)

pub key_stands : {source : List ℕ} {first : ℕ} {ts : List Token} {words : List Tok} → Spelled source first ts words → (at : ℕ) (k : Kind) → IsKey k → kind_at ts at ≡ Some k
    → Stands ts words at (word_of_kind k)
key_stands {source = source} {first = first} {ts = ts} {words = words} spelled at k is_key e =
    let u = kind_token ts at k e in
    let h = here spelled at u.0 u.1 in
    let spot = spot_behind (before_at ts at first) u.0 in
    let is = key_word source u.0 k h.word is_key (subst (λ (j : Kind). IsWord source u.0 j h.word) u.2 h.is_word) in
    record { spot = spot; is = subst (λ (v : Word). drop at words ≡ tok v spot ∷ drop (suc at) words) is h.stands; line = ap line_of (sym u.1) }

-- a word of a kind other than this one isn't its word
kind_read : (source : List ℕ) (u : Token) (j k : Kind) (v : Word) → IsWord source u j v → kind_of_word v ≡ Some k → j ≡ k
kind_read source u kinds.Name k v is e = absurd (none-some k (sym (ap kind_of_word is) ∙ e))
kind_read source u (kinds.Number z) k v is e = absurd (none-some k (sym (ap kind_of_word is) ∙ e))
kind_read source u kinds.Str k v is e = absurd (none-some k (sym (ap kind_of_word is.2) ∙ e))
kind_read source u j k v is e = same_Some j k (sym (word_kind j tt) ∙ sym (ap kind_of_word is) ∙ e)

-- where a keyword or a symbol doesn't stand, its word doesn't
pub no_key : {source : List ℕ} {first : ℕ} {ts : List Token} {words : List Tok} → Spelled source first ts words → (at : ℕ) (k : Kind) (v : Word) → kind_of_word v ≡ Some k
    → (kind_at ts at ≡ Some k → ⊥) → word_of (drop at words) ≡ v → ⊥
no_key {source = source} {ts = ts} {words = words} spelled at k v is none e = elim (slice_get ts at) as (λ o. slice_get ts at ≡ o → ⊥) [
  | None ↦ λ end. none-some k (ap kind_of_word (sym (ap word_of (past spelled at end)) ∙ e) ∙ is)
  | Some u ↦ λ there.
      let h = here spelled at u there in
      let found = kind_read source u u.kind k h.word h.is_word (ap kind_of_word (sym (ap word_of h.stands) ∙ e) ∙ is) in
      none (ap kind_of there ∙ ap Some found)
] refl

-- whether a word is a name, a string, a number
abbrev pub is_name : Word → Bool
is_name (w.name x) = true
is_name v = false

abbrev pub is_string : Word → Bool
is_string (w.str x) = true
is_string v = false

name_read : (source : List ℕ) (u : Token) (j : Kind) (v : Word) → IsWord source u j v → is_name v ≡ true → j ≡ kinds.Name
name_read source u kinds.Name v is e = refl
name_read source u (kinds.Number z) v is e = absurd (false≢true (sym (ap is_name is) ∙ e))
name_read source u kinds.Str v is e = absurd (false≢true (sym (ap is_name is.2) ∙ e))
name_read source u j v is e = absurd (false≢true (sym (ap is_name is) ∙ e))

-- where no name stands, no word is one
pub no_name_there : {source : List ℕ} {first : ℕ} {ts : List Token} {words : List Tok} → Spelled source first ts words → (at : ℕ)
    → (kind_at ts at ≡ Some kinds.Name → ⊥) → (x : List ℕ) → word_of (drop at words) ≡ w.name x → ⊥
no_name_there {source = source} {ts = ts} spelled at none x e = elim (slice_get ts at) as (λ o. slice_get ts at ≡ o → ⊥) [
  | None ↦ λ end. false≢true (ap is_name (sym (ap word_of (past spelled at end)) ∙ e))
  | Some u ↦ λ there.
      let h = here spelled at u there in
      none (ap kind_of there ∙ ap Some (name_read source u u.kind h.word h.is_word (ap is_name (sym (ap word_of h.stands) ∙ e))))
] refl

-- where a name stands, it is the word
pub name_stands : {bytes : List ℕ} {first : ℕ} {ts : List Token} {words : List Tok} → Spelled bytes first ts words → (at : ℕ) (u : Token) (x : List ℕ) → slice_get ts at ≡ Some u → u.kind ≡ kinds.Name
    → x ≡ take u.length (drop u.start bytes) → Stands ts words at (w.name x)
name_stands {bytes = bytes} {first = first} {ts = ts} {words = words} spelled at u x e is y =
    let h = here spelled at u e in
    let word = subst (λ (j : Kind). IsWord bytes u j h.word) is h.is_word in
    record { spot = spot_behind (before_at ts at first) u; is = subst (λ (v : Word). drop at words ≡ tok v (spot_behind (before_at ts at first) u) ∷ drop (suc at) words) (word ∙ ap w.name (sym y)) h.stands; line = ap line_of (sym e) }

-- where a string stands, the word is what it is for
pub str_stands : {bytes : List ℕ} {first : ℕ} {ts : List Token} {words : List Tok} → Spelled bytes first ts words → (at : ℕ) → kind_at ts at ≡ Some kinds.Str
    → (u : Token) × (y : List ℕ) × (slice_get ts at ≡ Some u) × HasValue bytes u y × Stands ts words at (w.str y)
str_stands {bytes = bytes} {first = first} {ts = ts} {words = words} spelled at e =
    let u = kind_token ts at kinds.Str e in
    let h = here spelled at u.0 u.1 in
    let is = subst (λ (j : Kind). IsWord bytes u.0 j h.word) u.2 h.is_word in
    (u.0, is.0, u.1, is.1, record { spot = spot_behind (before_at ts at first) u.0; is = subst (λ (v : Word). drop at words ≡ tok v (spot_behind (before_at ts at first) u.0) ∷ drop (suc at) words) is.2 h.stands; line = ap line_of (sym u.1) })
