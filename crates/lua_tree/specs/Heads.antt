-- What is read of the head of a function: its name and its parameters.
use Rattle.std.specs.Prelude.{ℕ, ◌≡◌, Bool, List, ◌++◌, Result, Ok, Err, drop, length}
use Rattle.lua_tree.specs.declared.functions.FunctionName.{FunctionName}
use Rattle.lua_tree.specs.declared.functions.Parameters.{Parameters}
use Rattle.lua_tree.specs.declared.stop.Stop.{Stop}
use Rattle.lua_tree.specs.declared.stop.Stop.TheVariants as stops
use Rattle.lua_tree.specs.Tree as t
use Rattle.lua_tree.specs.Tree.{Bytes}
use Rattle.lua_tree.specs.Words.{Tok}
use Rattle.lua_tree.specs.Attributes.{Counts}
use Rattle.lua_tree.specs.Reading.{Sort, Value, Prog, Answer, got, stuck, Reads, expect_name, then, free, func_name, params, program, a_target, some_params}
use Rattle.lua_tree.specs.View.{expr_view}
use Rattle.lua_tree.specs.Answer.{fault_of, limits}
use Rattle.lua_tree.specs.Begins.{hidden_of}

-- the name of a function, and what follows it
abbrev pub named_then : (s : Sort) → Counts → (Value a_target → Prog s) → Prog s
named_then s c f = expect_name free (λ x spot. then (func_name c (t.name spot.line x)) f)

-- what is read of a function's name, whatever follows it
abbrev pub FunctionNameAt : Counts → ℕ → Result FunctionName Stop → List Tok → Type 0
FunctionNameAt c at (Ok name) words =
    (s : Sort) (f : Value a_target → Prog s) (r : Answer (Value s)) → Reads limits s (f (expr_view name.target.node, hidden_of name.method)) (drop name.target.at words) r →
    Reads limits s (named_then s c f) (drop at words) r
FunctionNameAt c at (Err (stops.At fault place)) words =
    (s : Sort) (f : Value a_target → Prog s) → Reads limits s (named_then s c f) (drop at words) (stuck (fault_of fault) (drop place words))
FunctionNameAt c at (Err stops.Memory) words = Unit {0}

-- what is read of a function's parameters, behind those that it has by itself
abbrev pub ParametersAt : Bool → ℕ → Result Parameters Stop → List Tok → Type 0
ParametersAt method at (Ok read) words =
    (names : List Bytes) × (read.names.items ≡ hidden_of method ++ names)
    × Reads limits some_params (program (params (length (hidden_of method)))) (drop at words) (got (names, read.dots) (drop read.at words))
ParametersAt method at (Err (stops.At fault place)) words =
    Reads limits some_params (program (params (length (hidden_of method)))) (drop at words) (stuck (fault_of fault) (drop place words))
ParametersAt method at (Err stops.Memory) words = Unit {0}
