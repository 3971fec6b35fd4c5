-- What is known of each keyword and each symbol, and the shapes of spellings.
use Rattle.std.proofs.Common.{◌≡◌, ℕ, ◌≤◌, true, false, List, [], ◌∷◌, ◌++◌, length, Some, refl, sym, subst, inl, inr, ◌⊎◌, arith}
use Rattle.std.specs.Prelude.{◌==◌, ◌||◌}
use Rattle.std.specs.List.{AllByRecursion}
use Rattle.lua_value.specs.Numeral.{IsNumeral}
use Rattle.lua_token.specs.Bytes.{is_letter, first_is}
use Rattle.lua_token.specs.Spelling.{spelling, keywords, symbols}
use Rattle.lua_token.specs.Run.{starts_number}
use Rattle.lua_token.specs.Long.{level}
use Rattle.lua_token.specs.Longest.{IsWord, IsQuoted, IsLongString, Spells}
use Rattle.lua_token.specs.declared.kind.Kind.{Kind}
use Rattle.lua_token.specs.declared.kind.Kind.TheVariants.{And, Break, Do, Else, ElseIf, End, False, For, Function, If, In, Local, Nil, Not, Or, Repeat, Return, Then, True, Until, While, Dots, Equal, NotEqual, LessEqual, GreaterEqual, Concat, Plus, Minus, Star, Slash, Percent, Caret, Hash, Less, Greater, Assign, OpenParen, CloseParen, OpenBrace, CloseBrace, OpenBracket, CloseBracket, Semicolon, Colon, Comma, Dot, Name, Number, Str}

-- one of these kinds
abbrev pub Member : Kind → List Kind → Type 0
Member k [] = ⊥
Member k (j ∷ ks) = (j ≡ k) ⊎ Member k ks

pub of_member : (P : Kind → Type 0) (ks : List Kind) → AllByRecursion P ks → (k : Kind) → Member k ks → P k
of_member P [] all k h = absurd h
of_member P (j ∷ ks) all k (inl e) = subst P e all.0
of_member P (j ∷ ks) all k (inr h) = of_member P ks all.1 k h

-- the shape of a spelling
pub data Shape (text after : List ℕ) : Type 0 where
  word : IsWord text → Shape text after
  symbol : (k : Kind) → Member k symbols → text ≡ spelling k → Shape text after
  number : IsNumeral text → Shape text after
  quoted : IsQuoted text after → Shape text after
  long : IsLongString text after → Shape text after

pub shape_of : (k : Kind) (text after : List ℕ) → Spells k text after → Shape text after
unfolding spelling
shape_of And text after e = word (subst IsWord (sym e) (refl, (refl, (refl, (refl, tt)))))
shape_of Break text after e = word (subst IsWord (sym e) (refl, (refl, (refl, (refl, (refl, (refl, tt)))))))
shape_of Do text after e = word (subst IsWord (sym e) (refl, (refl, (refl, tt))))
shape_of Else text after e = word (subst IsWord (sym e) (refl, (refl, (refl, (refl, (refl, tt))))))
shape_of ElseIf text after e = word (subst IsWord (sym e) (refl, (refl, (refl, (refl, (refl, (refl, (refl, tt))))))))
shape_of End text after e = word (subst IsWord (sym e) (refl, (refl, (refl, (refl, tt)))))
shape_of False text after e = word (subst IsWord (sym e) (refl, (refl, (refl, (refl, (refl, (refl, tt)))))))
shape_of For text after e = word (subst IsWord (sym e) (refl, (refl, (refl, (refl, tt)))))
shape_of Function text after e = word (subst IsWord (sym e) (refl, (refl, (refl, (refl, (refl, (refl, (refl, (refl, (refl, tt))))))))))
shape_of If text after e = word (subst IsWord (sym e) (refl, (refl, (refl, tt))))
shape_of In text after e = word (subst IsWord (sym e) (refl, (refl, (refl, tt))))
shape_of Local text after e = word (subst IsWord (sym e) (refl, (refl, (refl, (refl, (refl, (refl, tt)))))))
shape_of Nil text after e = word (subst IsWord (sym e) (refl, (refl, (refl, (refl, tt)))))
shape_of Not text after e = word (subst IsWord (sym e) (refl, (refl, (refl, (refl, tt)))))
shape_of Or text after e = word (subst IsWord (sym e) (refl, (refl, (refl, tt))))
shape_of Repeat text after e = word (subst IsWord (sym e) (refl, (refl, (refl, (refl, (refl, (refl, (refl, tt))))))))
shape_of Return text after e = word (subst IsWord (sym e) (refl, (refl, (refl, (refl, (refl, (refl, (refl, tt))))))))
shape_of Then text after e = word (subst IsWord (sym e) (refl, (refl, (refl, (refl, (refl, tt))))))
shape_of True text after e = word (subst IsWord (sym e) (refl, (refl, (refl, (refl, (refl, tt))))))
shape_of Until text after e = word (subst IsWord (sym e) (refl, (refl, (refl, (refl, (refl, (refl, tt)))))))
shape_of While text after e = word (subst IsWord (sym e) (refl, (refl, (refl, (refl, (refl, (refl, tt)))))))
shape_of Dots text after e = symbol Dots (inl refl) e
shape_of Equal text after e = symbol Equal (inr (inl refl)) e
shape_of NotEqual text after e = symbol NotEqual (inr (inr (inl refl))) e
shape_of LessEqual text after e = symbol LessEqual (inr (inr (inr (inl refl)))) e
shape_of GreaterEqual text after e = symbol GreaterEqual (inr (inr (inr (inr (inl refl))))) e
shape_of Concat text after e = symbol Concat (inr (inr (inr (inr (inr (inl refl)))))) e
shape_of Plus text after e = symbol Plus (inr (inr (inr (inr (inr (inr (inl refl))))))) e
shape_of Minus text after e = symbol Minus (inr (inr (inr (inr (inr (inr (inr (inl refl)))))))) e
shape_of Star text after e = symbol Star (inr (inr (inr (inr (inr (inr (inr (inr (inl refl))))))))) e
shape_of Slash text after e = symbol Slash (inr (inr (inr (inr (inr (inr (inr (inr (inr (inl refl)))))))))) e
shape_of Percent text after e = symbol Percent (inr (inr (inr (inr (inr (inr (inr (inr (inr (inr (inl refl))))))))))) e
shape_of Caret text after e = symbol Caret (inr (inr (inr (inr (inr (inr (inr (inr (inr (inr (inr (inl refl)))))))))))) e
shape_of Hash text after e = symbol Hash (inr (inr (inr (inr (inr (inr (inr (inr (inr (inr (inr (inr (inl refl))))))))))))) e
shape_of Less text after e = symbol Less (inr (inr (inr (inr (inr (inr (inr (inr (inr (inr (inr (inr (inr (inl refl)))))))))))))) e
shape_of Greater text after e = symbol Greater (inr (inr (inr (inr (inr (inr (inr (inr (inr (inr (inr (inr (inr (inr (inl refl))))))))))))))) e
shape_of Assign text after e = symbol Assign (inr (inr (inr (inr (inr (inr (inr (inr (inr (inr (inr (inr (inr (inr (inr (inl refl)))))))))))))))) e
shape_of OpenParen text after e = symbol OpenParen (inr (inr (inr (inr (inr (inr (inr (inr (inr (inr (inr (inr (inr (inr (inr (inr (inl refl))))))))))))))))) e
shape_of CloseParen text after e = symbol CloseParen (inr (inr (inr (inr (inr (inr (inr (inr (inr (inr (inr (inr (inr (inr (inr (inr (inr (inl refl)))))))))))))))))) e
shape_of OpenBrace text after e = symbol OpenBrace (inr (inr (inr (inr (inr (inr (inr (inr (inr (inr (inr (inr (inr (inr (inr (inr (inr (inr (inl refl))))))))))))))))))) e
shape_of CloseBrace text after e = symbol CloseBrace (inr (inr (inr (inr (inr (inr (inr (inr (inr (inr (inr (inr (inr (inr (inr (inr (inr (inr (inr (inl refl)))))))))))))))))))) e
shape_of OpenBracket text after e = symbol OpenBracket (inr (inr (inr (inr (inr (inr (inr (inr (inr (inr (inr (inr (inr (inr (inr (inr (inr (inr (inr (inr (inl refl))))))))))))))))))))) e
shape_of CloseBracket text after e = symbol CloseBracket (inr (inr (inr (inr (inr (inr (inr (inr (inr (inr (inr (inr (inr (inr (inr (inr (inr (inr (inr (inr (inr (inl refl)))))))))))))))))))))) e
shape_of Semicolon text after e = symbol Semicolon (inr (inr (inr (inr (inr (inr (inr (inr (inr (inr (inr (inr (inr (inr (inr (inr (inr (inr (inr (inr (inr (inr (inl refl))))))))))))))))))))))) e
shape_of Colon text after e = symbol Colon (inr (inr (inr (inr (inr (inr (inr (inr (inr (inr (inr (inr (inr (inr (inr (inr (inr (inr (inr (inr (inr (inr (inr (inl refl)))))))))))))))))))))))) e
shape_of Comma text after e = symbol Comma (inr (inr (inr (inr (inr (inr (inr (inr (inr (inr (inr (inr (inr (inr (inr (inr (inr (inr (inr (inr (inr (inr (inr (inr (inl refl))))))))))))))))))))))))) e
shape_of Dot text after e = symbol Dot (inr (inr (inr (inr (inr (inr (inr (inr (inr (inr (inr (inr (inr (inr (inr (inr (inr (inr (inr (inr (inr (inr (inr (inr (inr (inl refl)))))))))))))))))))))))))) e
shape_of Name text after h = word h.0
shape_of (Number z) text after ((t, formed, spelled, value), num) = number (t, formed, spelled)
shape_of Str text after (inl h) = quoted h
shape_of Str text after (inr h) = long h

-- what is spelled as a keyword or a symbol is a spelling of its kind
abbrev IsSpelling : Kind → Type 0
IsSpelling k = (text after : List ℕ) → text ≡ spelling k → Spells k text after

pub keywords_spell : AllByRecursion IsSpelling keywords
keywords_spell = (λ text after e. e, (λ text after e. e, (λ text after e. e, (λ text after e. e, (λ text after e. e, (λ text after e. e, (λ text after e. e, (λ text after e. e, (λ text after e. e, (λ text after e. e, (λ text after e. e, (λ text after e. e, (λ text after e. e, (λ text after e. e, (λ text after e. e, (λ text after e. e, (λ text after e. e, (λ text after e. e, (λ text after e. e, (λ text after e. e, (λ text after e. e, tt)))))))))))))))))))))

pub symbols_spell : AllByRecursion IsSpelling symbols
symbols_spell = (λ text after e. e, (λ text after e. e, (λ text after e. e, (λ text after e. e, (λ text after e. e, (λ text after e. e, (λ text after e. e, (λ text after e. e, (λ text after e. e, (λ text after e. e, (λ text after e. e, (λ text after e. e, (λ text after e. e, (λ text after e. e, (λ text after e. e, (λ text after e. e, (λ text after e. e, (λ text after e. e, (λ text after e. e, (λ text after e. e, (λ text after e. e, (λ text after e. e, (λ text after e. e, (λ text after e. e, (λ text after e. e, (λ text after e. e, tt))))))))))))))))))))))))))

-- no symbol begins as a word or in quotes
pub symbols_no_word : AllByRecursion (λ k. first_is is_letter (spelling k) ≡ false) symbols
unfolding spelling
symbols_no_word = (refl, (refl, (refl, (refl, (refl, (refl, (refl, (refl, (refl, (refl, (refl, (refl, (refl, (refl, (refl, (refl, (refl, (refl, (refl, (refl, (refl, (refl, (refl, (refl, (refl, (refl, tt))))))))))))))))))))))))))

pub symbols_no_quote : AllByRecursion (λ k. first_is (λ b. b == 34 || b == 39) (spelling k) ≡ false) symbols
unfolding spelling
symbols_no_quote = (refl, (refl, (refl, (refl, (refl, (refl, (refl, (refl, (refl, (refl, (refl, (refl, (refl, (refl, (refl, (refl, (refl, (refl, (refl, (refl, (refl, (refl, (refl, (refl, (refl, (refl, tt))))))))))))))))))))))))))

-- a symbol with which a number, or a long bracket, begins has one byte
pub symbols_no_number : AllByRecursion (λ k. (after : List ℕ) → starts_number (spelling k ++ after) ≡ true → length (spelling k) ≤ 1) symbols
unfolding spelling
symbols_no_number = (λ after e. absurd cc, (λ after e. absurd cc, (λ after e. absurd cc, (λ after e. absurd cc, (λ after e. absurd cc, (λ after e. absurd cc, (λ after e. omega arith, (λ after e. omega arith, (λ after e. omega arith, (λ after e. omega arith, (λ after e. omega arith, (λ after e. omega arith, (λ after e. omega arith, (λ after e. omega arith, (λ after e. omega arith, (λ after e. omega arith, (λ after e. omega arith, (λ after e. omega arith, (λ after e. omega arith, (λ after e. omega arith, (λ after e. omega arith, (λ after e. omega arith, (λ after e. omega arith, (λ after e. omega arith, (λ after e. omega arith, (λ after e. omega arith, tt))))))))))))))))))))))))))

pub symbols_no_long : AllByRecursion (λ k. (after : List ℕ) (n : ℕ) → level 91 (spelling k ++ after) ≡ Some n → length (spelling k) ≤ 1) symbols
unfolding spelling level
symbols_no_long = (λ after n e. absurd cc, (λ after n e. absurd cc, (λ after n e. absurd cc, (λ after n e. absurd cc, (λ after n e. absurd cc, (λ after n e. absurd cc, (λ after n e. omega arith, (λ after n e. omega arith, (λ after n e. omega arith, (λ after n e. omega arith, (λ after n e. omega arith, (λ after n e. omega arith, (λ after n e. omega arith, (λ after n e. omega arith, (λ after n e. omega arith, (λ after n e. omega arith, (λ after n e. omega arith, (λ after n e. omega arith, (λ after n e. omega arith, (λ after n e. omega arith, (λ after n e. omega arith, (λ after n e. omega arith, (λ after n e. omega arith, (λ after n e. omega arith, (λ after n e. omega arith, (λ after n e. omega arith, tt))))))))))))))))))))))))))

-- longer symbols come first
abbrev pub Descends : ℕ → List Kind → Type 0
Descends n [] = Unit {0}
Descends n (k ∷ ks) = (length (spelling k) ≤ n) × Descends (length (spelling k)) ks

pub symbols_descend : Descends 3 symbols
unfolding spelling
symbols_descend = omega arith
