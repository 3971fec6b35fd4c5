-- What stands at a place where a part of a rule begins.
use Rattle.std.specs.Prelude.{ℕ, suc, ◌≡◌, ◌+◌, ◌<◌, ◌≤◌, Bool, true, false, List, [], ◌∷◌, Option, Some, None, Result, Ok, Err, drop, if◌then◌else◌}
use Rattle.lua_token.specs.declared.kind.Kind.{Kind}
use Rattle.lua_token.specs.declared.kind.Kind.TheVariants as kinds
use Rattle.lua_tree.specs.declared.source.Source.{Source}
use Rattle.lua_tree.specs.declared.tree.BinOp.{BinOp}
use Rattle.lua_tree.specs.declared.tree.UnOp.{UnOp}
use Rattle.lua_tree.specs.declared.tree.UnOp.TheVariants as unary
use Rattle.lua_tree.specs.declared.tree.Expr.{Expr}
use Rattle.lua_tree.specs.declared.tree.ExprKind.{ExprKind}
use Rattle.lua_tree.specs.declared.tree.ExprKind.TheVariants as kinds_of
use Rattle.lua_tree.specs.declared.stop.Stop.{Stop}
use Rattle.lua_tree.specs.declared.stop.Stop.TheVariants as stops
use Rattle.lua_tree.specs.Tree as t
use Rattle.lua_tree.specs.Tree.{Fields}
use Rattle.lua_tree.specs.Words.{Tok}
use Rattle.lua_tree.specs.Attributes.{Counts}
use Rattle.lua_tree.specs.Reading.{Answer, stuck, Reads, program, some_fields, fields, more_fields}
use Rattle.lua_tree.specs.Answer.{limits, fault_of}
use Rattle.lua_tree.specs.Tree.{Bytes}
use Rattle.lua_tree.specs.Words as w
use Rattle.lua_tree.specs.Grammar.{level, self}
use Rattle.lua_tree.specs.declared.assignments.Shape.{Shape}
use Rattle.lua_tree.specs.declared.assignments.Shape.TheVariants as shapes
use Rattle.lua_tree.specs.Reading as r
use Rattle.lua_tree.specs.Reading.{a_var, a_call, a_paren, shape}
use Rattle.lua_tree.specs.Spelled.{kind_at, word_of_kind}
use Rattle.lua_tree.specs.View.{binary_view, expr_view}

-- the level of an operator
abbrev pub level_of : BinOp → ℕ
level_of op = level (binary_view op)

-- this binary operator stands there
abbrev pub OperatorAt : Source → ℕ → BinOp → Type 0
OperatorAt source at op = (k : Kind) × (kind_at source.tokens.now at ≡ Some k) × (word_of_kind k ≡ w.op (binary_view op))

-- no operator of this level or a tighter one stands there
abbrev pub NoOperatorAt : Source → ℕ → ℕ → Type 0
NoOperatorAt source at p = (k : Kind) (o : t.BinOp) → kind_at source.tokens.now at ≡ Some k → word_of_kind k ≡ w.op o → level o < p

-- the token of a unary operator
abbrev pub unary_kind : UnOp → Kind
unary_kind unary.Not = kinds.Not
unary_kind unary.Length = kinds.Hash
unary_kind unary.Minus = kinds.Minus

abbrev pub UnaryAt : Source → ℕ → UnOp → Type 0
UnaryAt source at op = kind_at source.tokens.now at ≡ Some (unary_kind op)

-- the words that begin something: the arguments of a call, a suffix, a statement, the last statement of a block
abbrev pub opens_arguments : Option Kind → Bool
opens_arguments (Some kinds.OpenParen) = true
opens_arguments (Some kinds.OpenBrace) = true
opens_arguments (Some kinds.Str) = true
opens_arguments o = false

abbrev pub begins_suffix : Option Kind → Bool
begins_suffix (Some kinds.OpenBracket) = true
begins_suffix (Some kinds.Dot) = true
begins_suffix (Some kinds.Colon) = true
begins_suffix o = opens_arguments o

abbrev pub begins_prefix : Option Kind → Bool
begins_prefix (Some kinds.Name) = true
begins_prefix (Some kinds.OpenParen) = true
begins_prefix o = false

abbrev pub begins_stat : Option Kind → Bool
begins_stat (Some kinds.Do) = true
begins_stat (Some kinds.While) = true
begins_stat (Some kinds.Repeat) = true
begins_stat (Some kinds.If) = true
begins_stat (Some kinds.For) = true
begins_stat (Some kinds.Function) = true
begins_stat (Some kinds.Local) = true
begins_stat o = begins_prefix o

abbrev pub begins_last : Option Kind → Bool
begins_last (Some kinds.Return) = true
begins_last (Some kinds.Break) = true
begins_last o = false

-- what can be assigned to
abbrev pub IsVariable : Expr → Type 0
IsVariable e = shape (expr_view e) ≡ a_var

-- the parameters that a method has by itself
abbrev pub hidden_of : Bool → List Bytes
hidden_of method = if method then self ∷ [] else []

-- where a `return` has no expressions
abbrev pub ends_return_at : Option Kind → Bool
ends_return_at None = true
ends_return_at (Some kinds.End) = true
ends_return_at (Some kinds.Else) = true
ends_return_at (Some kinds.ElseIf) = true
ends_return_at (Some kinds.Until) = true
ends_return_at (Some kinds.Semicolon) = true
ends_return_at o = false

-- the shape of a prefix expression, to the grammar
abbrev pub shape_view : Shape → r.Shape
shape_view shapes.Variable = a_var
shape_view shapes.Call = a_call
shape_view shapes.Other = a_paren

-- the constant whose token stands there
abbrev pub ConstantAt : Source → ℕ → ExprKind → Type 0
ConstantAt source at kinds_of.Nil = kind_at source.tokens.now at ≡ Some kinds.Nil
ConstantAt source at kinds_of.True = kind_at source.tokens.now at ≡ Some kinds.True
ConstantAt source at kinds_of.False = kind_at source.tokens.now at ≡ Some kinds.False
ConstantAt source at kind = ⊥

-- whether it is a number
abbrev pub is_number : Option Kind → Bool
is_number (Some (kinds.Number z)) = true
is_number o = false

-- the place behind a field: behind a separator, or where the table ends
abbrev pub FieldEnd : Source → Counts → ℕ → Result ℕ Stop → List Tok → Type 0
FieldEnd source c at (Ok next) words =
    (r : Answer Fields) → Reads limits some_fields (program (fields c)) (drop next words) r →
    Reads limits some_fields (program (more_fields c)) (drop at words) r
FieldEnd source c at (Err (stops.At fault place)) words =
    Reads limits some_fields (program (more_fields c)) (drop at words) (stuck (fault_of fault) (drop place words))
FieldEnd source c at (Err stops.Memory) words = Unit {0}
