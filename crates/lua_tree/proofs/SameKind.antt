-- Kinds that are equal by `==` are the same, but for numbers.
use Rattle.std.proofs.Common.{◌≡◌, true, false, refl, Bool}
use Rattle.std.proofs.lemmas.Bool.{false≢true}
use Rattle.lua_token.specs.contracts.kind.KindPartialEq.TheImpl.{eq-value}
use Rattle.lua_token.specs.declared.kind.Kind.{Kind}
use Rattle.lua_token.specs.declared.kind.Kind.TheVariants as kinds
use Rattle.lua_tree.specs.Spelled.{IsMark}

pub same_kind : (a b : Kind) → IsMark b → eq-value.it a b ≡ true → a ≡ b
same_kind kinds.And kinds.And m e = refl
same_kind kinds.Break kinds.Break m e = refl
same_kind kinds.Do kinds.Do m e = refl
same_kind kinds.Else kinds.Else m e = refl
same_kind kinds.ElseIf kinds.ElseIf m e = refl
same_kind kinds.End kinds.End m e = refl
same_kind kinds.False kinds.False m e = refl
same_kind kinds.For kinds.For m e = refl
same_kind kinds.Function kinds.Function m e = refl
same_kind kinds.If kinds.If m e = refl
same_kind kinds.In kinds.In m e = refl
same_kind kinds.Local kinds.Local m e = refl
same_kind kinds.Nil kinds.Nil m e = refl
same_kind kinds.Not kinds.Not m e = refl
same_kind kinds.Or kinds.Or m e = refl
same_kind kinds.Repeat kinds.Repeat m e = refl
same_kind kinds.Return kinds.Return m e = refl
same_kind kinds.Then kinds.Then m e = refl
same_kind kinds.True kinds.True m e = refl
same_kind kinds.Until kinds.Until m e = refl
same_kind kinds.While kinds.While m e = refl
same_kind kinds.Plus kinds.Plus m e = refl
same_kind kinds.Minus kinds.Minus m e = refl
same_kind kinds.Star kinds.Star m e = refl
same_kind kinds.Slash kinds.Slash m e = refl
same_kind kinds.Percent kinds.Percent m e = refl
same_kind kinds.Caret kinds.Caret m e = refl
same_kind kinds.Hash kinds.Hash m e = refl
same_kind kinds.Equal kinds.Equal m e = refl
same_kind kinds.NotEqual kinds.NotEqual m e = refl
same_kind kinds.LessEqual kinds.LessEqual m e = refl
same_kind kinds.GreaterEqual kinds.GreaterEqual m e = refl
same_kind kinds.Less kinds.Less m e = refl
same_kind kinds.Greater kinds.Greater m e = refl
same_kind kinds.Assign kinds.Assign m e = refl
same_kind kinds.OpenParen kinds.OpenParen m e = refl
same_kind kinds.CloseParen kinds.CloseParen m e = refl
same_kind kinds.OpenBrace kinds.OpenBrace m e = refl
same_kind kinds.CloseBrace kinds.CloseBrace m e = refl
same_kind kinds.OpenBracket kinds.OpenBracket m e = refl
same_kind kinds.CloseBracket kinds.CloseBracket m e = refl
same_kind kinds.Semicolon kinds.Semicolon m e = refl
same_kind kinds.Colon kinds.Colon m e = refl
same_kind kinds.Comma kinds.Comma m e = refl
same_kind kinds.Dot kinds.Dot m e = refl
same_kind kinds.Concat kinds.Concat m e = refl
same_kind kinds.Dots kinds.Dots m e = refl
same_kind kinds.Name kinds.Name m e = refl
same_kind kinds.Str kinds.Str m e = refl
same_kind a (kinds.Number z) m e = absurd m
same_kind a b m e = absurd (false≢true e)

pub kind_same : (b : Kind) → IsMark b → eq-value.it b b ≡ true
kind_same kinds.And m = refl
kind_same kinds.Break m = refl
kind_same kinds.Do m = refl
kind_same kinds.Else m = refl
kind_same kinds.ElseIf m = refl
kind_same kinds.End m = refl
kind_same kinds.False m = refl
kind_same kinds.For m = refl
kind_same kinds.Function m = refl
kind_same kinds.If m = refl
kind_same kinds.In m = refl
kind_same kinds.Local m = refl
kind_same kinds.Nil m = refl
kind_same kinds.Not m = refl
kind_same kinds.Or m = refl
kind_same kinds.Repeat m = refl
kind_same kinds.Return m = refl
kind_same kinds.Then m = refl
kind_same kinds.True m = refl
kind_same kinds.Until m = refl
kind_same kinds.While m = refl
kind_same kinds.Plus m = refl
kind_same kinds.Minus m = refl
kind_same kinds.Star m = refl
kind_same kinds.Slash m = refl
kind_same kinds.Percent m = refl
kind_same kinds.Caret m = refl
kind_same kinds.Hash m = refl
kind_same kinds.Equal m = refl
kind_same kinds.NotEqual m = refl
kind_same kinds.LessEqual m = refl
kind_same kinds.GreaterEqual m = refl
kind_same kinds.Less m = refl
kind_same kinds.Greater m = refl
kind_same kinds.Assign m = refl
kind_same kinds.OpenParen m = refl
kind_same kinds.CloseParen m = refl
kind_same kinds.OpenBrace m = refl
kind_same kinds.CloseBrace m = refl
kind_same kinds.OpenBracket m = refl
kind_same kinds.CloseBracket m = refl
kind_same kinds.Semicolon m = refl
kind_same kinds.Colon m = refl
kind_same kinds.Comma m = refl
kind_same kinds.Dot m = refl
kind_same kinds.Concat m = refl
kind_same kinds.Dots m = refl
kind_same kinds.Name m = refl
kind_same kinds.Str m = refl
kind_same (kinds.Number z) m = absurd m
