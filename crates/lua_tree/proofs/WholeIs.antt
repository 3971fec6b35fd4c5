-- What is to be shown of spelled tokens: that the rules read them.
use Rattle.std.proofs.Common.{ℕ, ◌≤◌, List, []}
use Rattle.lua_tree.specs.Tree.{Expr, Exprs, Block, Stat}
use Rattle.lua_tree.specs.Words.{Tok, word_of}
use Rattle.lua_tree.specs.Grammar.{Exp, Prefix, ExpList, Stats, StatOf, Spells}
use Rattle.lua_tree.specs.Attributes.{Counts}
use Rattle.lua_tree.specs.Reading.{Place, an_expr, some_exprs, a_block, a_stat, expr, more, prefix, suffixes, exprs, block, stat, chunk, program}
use Rattle.lua_tree.proofs.Comes.{Does, Leads}
use Rattle.lua_tree.proofs.Follow.{Stops, NotComma, Tail, EndsBlock, FollowsStat}

-- an expression of a tight enough level goes through, up to what follows an operand of the level asked for
abbrev pub ExpLeads : Type 0
ExpLeads = (q : ℕ) (e : Expr) (ts us : List Tok) (p : ℕ) (c : Counts) → Exp q e ts us → p ≤ q → Tail e (word_of us) → Leads an_expr (program (expr p c)) ts (program (more p c e)) us

abbrev pub PrefixLeads : Type 0
PrefixLeads = (e : Expr) (ts us : List Tok) (k : Place) (c : Counts) → Prefix e ts us → Leads an_expr (program (prefix k c)) ts (program (suffixes k c e)) us

abbrev pub ExpDoes : Type 0
ExpDoes = (e : Expr) (ts us : List Tok) (c : Counts) → Exp 0 e ts us → Stops (word_of us) → Does an_expr (program (expr 0 c)) ts e us

abbrev pub ExpListDoes : Type 0
ExpListDoes = (es : Exprs) (ts us : List Tok) (c : Counts) → ExpList es ts us → Stops (word_of us) → NotComma (word_of us) → Does some_exprs (program (exprs c)) ts es us

abbrev pub StatsDoes : Type 0
StatsDoes = (b : Block) (ts us : List Tok) (c : Counts) → Stats b ts us → EndsBlock (word_of us) → Does a_block (program (block c)) ts b us

abbrev pub StatDoes : Type 0
StatDoes = (st : Stat) (ts us : List Tok) (c : Counts) → StatOf st ts us → FollowsStat (word_of us) → Does a_stat (program (stat c)) ts st us

-- the goal of proofs/Whole.antt: a spelled chunk is read
abbrev pub ChunkDoes : Type 0
ChunkDoes = (b : Block) (ts : List Tok) → Spells b ts → Does a_block (program chunk) ts b []
