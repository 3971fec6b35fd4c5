-- What the functions that read answer: what their rule reads from the words of the tokens.
use Rattle.std.specs.Prelude.{ℕ, ◌≡◌, ◌+◌, ◌<◌, ◌≤◌, List, drop, take, length, Option, Some, None, Result, Ok, Err, All, slice_get, option_map, if◌then◌else◌}
use Rattle.lua_token.specs.Cuts.{StandsIn}
use Rattle.lua_token.specs.Value.{HasValue}
use Rattle.lua_token.specs.declared.kind.Kind.TheVariants as kinds
use Rattle.lua_token.specs.declared.token.Token.{Token}
use Rattle.lua_tree.specs.declared.source.Source.{Source}
use Rattle.lua_tree.specs.declared.source.Read.{Read}
use Rattle.lua_tree.specs.declared.scope.Scope.{Scope}
use Rattle.lua_tree.specs.declared.stop.Stop.{Stop}
use Rattle.lua_tree.specs.declared.stop.Stop.TheVariants as stops
use Rattle.lua_tree.specs.declared.stop.Fault.TheVariants as faults
use Rattle.lua_tree.specs.declared.stop.Fault as declared
use Rattle.lua_tree.specs.declared.suffixes.Position.{Position}
use Rattle.lua_tree.specs.declared.suffixes.Position.TheVariants as positions
use Rattle.lua_tree.specs.Words.{Tok}
use Rattle.lua_tree.specs.declared.tree.Expr.{Expr}
use Rattle.lua_tree.specs.declared.tree.Stat.{Stat}
use Rattle.lua_tree.specs.declared.tree.Field.{Field}
use Rattle.lua_tree.specs.declared.tree.Func.{Func}
use Rattle.lua_tree.specs.declared.tree.Arm.{Arm}
use Rattle.lua_tree.specs.declared.tree.Block.{Block}
use Rattle.lua_tree.specs.Tree as t
use Rattle.lua_tree.specs.View.{expr_view, exprs_view, field_view, fields_view, func_view, arm_view, block_view, else_of, stat_view}
use Rattle.lua_tree.specs.Attributes as a
use Rattle.lua_tree.specs.Reading as r
use Rattle.lua_tree.specs.Reading.{Sort, Value, Prog, Rule, Answer, got, stuck, Reads, program}
use Rattle.lua_tree.specs.Spelled.{Spelled, kind_at}

-- what is allowed of what is limited
abbrev pub limits : r.Limits
limits a.nodes = 200
limits a.locals = 200
limits x = 0

-- what is counted at a place of this scope
abbrev pub counts : Scope → a.Counts
counts scope a.breaks = if scope.in_loop then 0 else 1
counts scope a.varargs = if scope.dots then 0 else 1
counts scope a.nodes = scope.depth
counts scope a.locals = scope.locals
counts scope a.calls = 0

-- a scope keeps the limits
pub record Fits (scope : Scope) : Type 0 where
  pub depth : scope.depth ≤ 200
  pub locals : scope.locals ≤ 200

-- the same where a node has to come around what stands there
pub record IsHeld (scope : Scope) : Type 0 where
  pub depth : scope.depth ≤ 201
  pub locals : scope.locals ≤ 200

-- where a prefix expression stands, to the grammar
abbrev pub place_of : Position → r.Place
place_of positions.Operand = r.in_expr
place_of positions.Leading = r.leading
place_of positions.Target = r.targeted

-- a fault of the code
abbrev pub fault_of : declared.Fault → r.Fault
fault_of faults.Unexpected = r.unexpected
fault_of faults.BreakOutside = r.over a.breaks
fault_of faults.VarargOutside = r.over a.varargs
fault_of faults.TooDeep = r.over a.nodes
fault_of faults.TooManyLocals = r.over a.locals
fault_of faults.AmbiguousCall = r.over a.calls

-- the tokens stand in the source where they say
abbrev pub IsCut : Source → Type 0
IsCut source = All (StandsIn source.bytes.now) source.tokens.now

-- what holds for the words of a source
abbrev pub OfWords : Source → (List Tok → Type 0) → Type 0
OfWords source P = (words : List Tok) → Spelled source.bytes.now 1 source.tokens.now words → P words

-- a value and the words behind it, or the fault at the words where it stands
abbrev pub answer_of : {T : Type 0} {A : Type 0} → (T → A) → List Tok → Read T → Answer A
answer_of view words read = got (view read.node) (drop read.at words)

-- What a program reads from the words at a place is this; of want of memory nothing is said.
abbrev pub Answers : {T : Type 0} {s : Sort} → (T → Value s) → Prog s → ℕ → Result (Read T) Stop → List Tok → Type 0
Answers {s = s} view p at (Ok read) words = Reads limits s p (drop at words) (answer_of view words read)
Answers {s = s} view p at (Err (stops.At fault place)) words = Reads limits s p (drop at words) (stuck (fault_of fault) (drop place words))
Answers view p at (Err stops.Memory) words = Unit {0}

-- what a rule reads whose part is read with what follows it
abbrev pub as_part : {A B : Type 0} → (A → B) → Answer A → Answer B
as_part put (got a us) = got (put a) us
as_part put (stuck x us) = stuck x us

-- What a part of a rule's program comes to: behind it another program reads what follows, to which the part is put.
abbrev pub Parts : {T : Type 0} {s q : Sort} → (T → Prog q) → (T → Value q → Value s) → Prog s → ℕ → Result (Read T) Stop → List Tok → Type 0
Parts {s = s} {q = q} after put p at (Ok read) words =
    (r : Answer (Value q)) → Reads limits q (after read.node) (drop read.at words) r →
    Reads limits s p (drop at words) (as_part (put read.node) r)
Parts {s = s} after put p at (Err (stops.At fault place)) words =
    Reads limits s p (drop at words) (stuck (fault_of fault) (drop place words))
Parts after put p at (Err stops.Memory) words = Unit {0}

-- how high what was read is: how many nodes there are, at most, on a way down it
abbrev pub expr_tall : Expr → ℕ
expr_tall e = a.height (expr_view e)

abbrev pub exprs_tall : List Expr → ℕ
exprs_tall es = a.most_exprs a.nodes 0 (exprs_view es)

abbrev pub field_tall : Field → ℕ
field_tall f = a.most_fields a.nodes 0 (field_view f t.no_fields)

abbrev pub fields_tall : List Field → ℕ
fields_tall fs = a.most_fields a.nodes 0 (fields_view fs)

abbrev pub func_tall : Func → ℕ
func_tall f = a.most_func a.nodes 0 (func_view f)

abbrev pub block_tall : Block → ℕ
block_tall b = a.most_block a.nodes 0 (block_view b)

abbrev pub stat_tall : Stat → ℕ
stat_tall st = a.most_stat a.nodes 0 (stat_view st)

abbrev pub arm_tall : Arm → ℕ
arm_tall arm = a.most_arms a.nodes 0 (arm_view arm t.no_else)

abbrev pub else_tall : Option Block → ℕ
else_tall o = a.most_arms a.nodes 0 (else_of (option_map block_view o))

abbrev pub step_tall : Option Expr → ℕ
step_tall None = 0
step_tall (Some e) = expr_tall e

-- What was read is behind the place and within the tokens; its height is that of its tree, and with what is around it
-- within the limit.
pub record Moves {T : Type 0} (ts : List Token) (at depth : ℕ) (tall : T → ℕ) (read : Read T) : Type 0 where
  pub forth : at < read.at
  pub within : read.at ≤ length ts
  pub high : read.height ≡ tall read.node
  pub low : depth + read.height ≤ 200

-- the same of what may be nothing
pub record Passes {T : Type 0} (ts : List Token) (at depth : ℕ) (tall : T → ℕ) (read : Read T) : Type 0 where
  pub forth : at ≤ read.at
  pub within : read.at ≤ length ts
  pub high : read.height ≡ tall read.node
  pub low : depth + read.height ≤ 200

-- what an operator or a suffix may stand behind
pub record Behind (ts : List Token) (depth : ℕ) (read : Read Expr) : Type 0 where
  pub some : 0 < read.at
  pub within : read.at ≤ length ts
  pub high : read.height ≡ expr_tall read.node
  pub low : depth + read.height ≤ 200

-- what a call may stand behind, however deep
pub record IsBase (ts : List Token) (read : Read Expr) : Type 0 where
  pub some : 0 < read.at
  pub high : read.height ≡ expr_tall read.node
  pub low : read.height ≤ 200
  pub within : read.at ≤ length ts

-- how many locals a statement declares behind itself
abbrev pub declares : Stat → ℕ
declares stat = a.declared (stat_view stat)

-- the line of a token, and 0 where there is none
abbrev pub line_of : Option Token → ℕ
line_of None = 0
line_of (Some t) = t.line

-- this is the name that stands at a place
abbrev pub NamedAt : Source → ℕ → List ℕ → Type 0
NamedAt source at x = (t : Token) × (slice_get source.tokens.now at ≡ Some t) × (t.kind ≡ kinds.Name)
    × (x ≡ take t.length (drop t.start source.bytes.now))

-- this is what the string at a place is for
abbrev pub StringAt : Source → ℕ → List ℕ → Type 0
StringAt source at x = (t : Token) × (slice_get source.tokens.now at ≡ Some t) × (t.kind ≡ kinds.Str)
    × HasValue source.bytes.now t x

-- why a reading stopped: for want of memory, or for this fault at this place, of which this holds
abbrev pub StoppedAt : declared.Fault → ℕ → Type 0 → Stop → Type 0
StoppedAt fault at P (stops.At found place) = (found ≡ fault) × (place ≡ at) × P
StoppedAt fault at P stops.Memory = Unit {0}

-- why there is no name of one more local at a place, where so many are in scope before
abbrev pub NoLocalAt : Source → ℕ → ℕ → Stop → Type 0
NoLocalAt source at m (stops.At faults.Unexpected place) = (place ≡ at) × (kind_at source.tokens.now at ≡ Some kinds.Name → ⊥)
NoLocalAt source at m (stops.At faults.TooManyLocals place) = (place ≡ at) × ((x : List ℕ) × NamedAt source at x) × (200 ≤ m)
NoLocalAt source at m (stops.At fault place) = ⊥
NoLocalAt source at m stops.Memory = Unit {0}

-- this is the expression of the name at a place
abbrev pub NameAt : Source → ℕ → Expr → Type 0
NameAt source at e = (u : Token) × (slice_get source.tokens.now at ≡ Some u) × (u.kind ≡ kinds.Name)
    × (expr_view e ≡ t.name u.line (take u.length (drop u.start source.bytes.now)))

-- why there is no such expression at this depth: no name stands there, or it is too deep
abbrev pub NoNameAt : Source → ℕ → ℕ → Stop → Type 0
NoNameAt source at depth (stops.At faults.Unexpected place) = (place ≡ at) × (kind_at source.tokens.now at ≡ Some kinds.Name → ⊥)
NoNameAt source at depth (stops.At faults.TooDeep place) = (place ≡ at) × (kind_at source.tokens.now at ≡ Some kinds.Name) × (200 ≤ depth)
NoNameAt source at depth (stops.At fault place) = ⊥
NoNameAt source at depth stops.Memory = Unit {0}

-- this is the index by the name at the place behind a '.' or a ':'
abbrev pub MemberAt : Source → Read Expr → Expr → Type 0
MemberAt source base e = (u : Token) × (slice_get source.tokens.now (base.at + 1) ≡ Some u) × (u.kind ≡ kinds.Name)
    × (expr_view e ≡ t.index (line_of (slice_get source.tokens.now base.at)) (expr_view base.node) (t.str u.line (take u.length (drop u.start source.bytes.now))))

-- why there is no such index: it is too deep, or no name stands there
abbrev pub NoMemberAt : Source → Read Expr → ℕ → Stop → Type 0
NoMemberAt source base depth (stops.At faults.TooDeep place) = (place ≡ base.at) × (200 < depth + 1 + base.height)
NoMemberAt source base depth (stops.At faults.Unexpected place) = (place ≡ base.at + 1) × (kind_at source.tokens.now (base.at + 1) ≡ Some kinds.Name → ⊥) × (depth + 1 + base.height ≤ 200)
NoMemberAt source base depth (stops.At fault place) = ⊥
NoMemberAt source base depth stops.Memory = Unit {0}

-- arguments whose opening token is there, with their line
abbrev pub args_view : Source → ℕ → List Expr → Value r.an_args
args_view source at es = (line_of (slice_get source.tokens.now at), exprs_view es)
