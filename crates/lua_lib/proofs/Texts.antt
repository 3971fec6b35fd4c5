-- Texts of errors, put piece by piece.
use Rattle.std.proofs.Common.{◌≡◌, ℕ, List, [], ◌++◌, Some, ap, refl, sym, ◌∙◌, append_assoc}
use Rattle.std.specs.Prelude.{codes, decimal}
use Rattle.std.specs.Fmt.{signed_decimal}
use Rattle.std.proofs.lemmas.Option.{same_Some, none-some}
use Rattle.lua_tree.specs.Tree.{Bytes}
use Rattle.lua_meaning.specs.Native.{Native, name}
use Rattle.lua_meaning.specs.Value.{str}
use Rattle.lua_meaning.specs.Text.{type_name}
use Rattle.lua_meaning.specs.Fault.{Fault as Error, Place, bad_argument, shown, placed, fault_value}
use Rattle.lua_heap.specs.declared.value.Value.{Value}
use Rattle.lua_heap.specs.declared.value.Value.TheVariants.{Nil, Bool as Flag, Num, Str, Table as TableValue, Func, Native as NativeValue, Channel, Thread, Data}
use Rattle.lua_heap.specs.Value.{value_view}
use Rattle.lua_lib.specs.declared.fault.Fault.{Fault}
use Rattle.lua_lib.specs.declared.fault.Fault.TheVariants.{IndexOutOfRange, BaseOutOfRange, NoByte, Negative, NotWhole, OutOfRange, StringTooLong, TooManyValues, PatternsNotAvailable, InvalidFormat, NoSuchKey, KeyIsNil, AssertionFailed, NoMetatable, Protected, PositionOutOfBounds, NoOrder, TakesNoFunction, OutOfBounds, NotSeconds, NoStatus, Memory}
use Rattle.lua_lib.specs.declared.call.cause.Cause.{Cause}
use Rattle.lua_lib.specs.declared.call.cause.Cause.TheVariants.{Wants, By, NoText, Raises}
use Rattle.lua_lib.specs.Faults.{fault_error}
use Rattle.lua_lib.specs.Causes.{expected_text, error_of}
use Rattle.lua_lib.specs.Texts.{cause_value}

-- which argument is wrong, and of which function
abbrev pub bad : ℕ → Bytes → Bytes
bad argument function = codes "bad argument #" ++ (decimal argument ++ (codes " to '" ++ (function ++ codes "' (")))

-- the same, what is wrong with it, and an end
bad_with : ℕ → Bytes → Bytes → Bytes
bad_with argument function text = codes "bad argument #" ++ (decimal argument ++ (codes " to '" ++ (function ++ (codes "' (" ++ (text ++ codes ")")))))

joined : (old text function : Bytes) (argument : ℕ) → ((old ++ bad argument function) ++ text) ++ codes ")" ≡ old ++ bad_with argument function text
unfolding bad_with
joined old text function argument = simp append_assoc

pub bad-put : (old first second new text function : Bytes) (argument n : ℕ) (f : Native) → n ≡ shown f argument → function ≡ name f
    → first ≡ old ++ bad n function → second ≡ first ++ text → new ≡ second ++ codes ")" → new ≡ old ++ bad_argument f argument text
unfolding bad_with
bad-put old first second new text function argument n f number named p q r =
    r ∙ (ap (λ (b : List ℕ). b ++ codes ")") (q ∙ ap (λ (b : List ℕ). b ++ text) p)
    ∙ (joined old text function n
    ∙ (ap (λ (k : ℕ). old ++ bad_with k function text) number ∙ ap (λ (b : List ℕ). old ++ bad_with (shown f argument) b text) named)))

-- a place, and a text behind it
pub placed-put : (old file text : Bytes) (line : ℕ) → (old ++ (file ++ (codes ":" ++ (decimal line ++ codes ": ")))) ++ text ≡ old ++ placed (Some (record { file = file; line = line })) text
placed-put old file text line = simp append_assoc

-- five pieces put one after the other
pub five-put : (start first second third fourth fifth a b c d e : Bytes) → first ≡ start ++ a → second ≡ first ++ b → third ≡ second ++ c → fourth ≡ third ++ d → fifth ≡ fourth ++ e
    → fifth ≡ start ++ (a ++ (b ++ (c ++ (d ++ e))))
five-put start first second third fourth fifth a b c d e p q r t u =
    u
    ∙ (ap (λ (x : List ℕ). x ++ e) (t ∙ ap (λ (x : List ℕ). x ++ d) (r ∙ ap (λ (x : List ℕ). x ++ c) (q ∙ ap (λ (x : List ℕ). x ++ b) p)))
    ∙ simp append_assoc)

-- three pieces put one after the other
pub three-put : (start first second third a b c : Bytes) → first ≡ start ++ a → second ≡ first ++ b → third ≡ second ++ c → third ≡ start ++ (a ++ (b ++ c))
three-put start first second third a b c p q r =
    r ∙ (ap (λ (t : List ℕ). t ++ c) (q ∙ ap (λ (t : List ℕ). t ++ b) p) ∙ simp append_assoc)

-- the name of a type is that of the value, whatever its text is
type_name-same : (texts : List Bytes) (v : Value) → type_name (value_view texts v) ≡ type_name (value_view [] v)
type_name-same texts Nil = refl
type_name-same texts (Flag b) = refl
type_name-same texts (Num z) = refl
type_name-same texts (Str id) = refl
type_name-same texts (TableValue id) = refl
type_name-same texts (Func id) = refl
type_name-same texts (NativeValue f) = refl
type_name-same texts (Channel n) = refl
type_name-same texts (Thread n) = refl
type_name-same texts (Data id) = refl

fault-value : (f : Native) (at : Place) (texts : List Bytes) (fault : Fault) (e : Error) → fault_error fault ≡ Some e → fault_value f (Some at) e ≡ cause_value f at texts (By fault)
fault-value f at texts IndexOutOfRange e is = ap (fault_value f (Some at)) (sym (same_Some _ e is))
fault-value f at texts BaseOutOfRange e is = ap (fault_value f (Some at)) (sym (same_Some _ e is))
fault-value f at texts (NoByte n) e is = ap (fault_value f (Some at)) (sym (same_Some _ e is))
fault-value f at texts (Negative n) e is = ap (fault_value f (Some at)) (sym (same_Some _ e is))
fault-value f at texts NotWhole e is = ap (fault_value f (Some at)) (sym (same_Some _ e is))
fault-value f at texts OutOfRange e is = ap (fault_value f (Some at)) (sym (same_Some _ e is))
fault-value f at texts StringTooLong e is = ap (fault_value f (Some at)) (sym (same_Some _ e is))
fault-value f at texts TooManyValues e is = ap (fault_value f (Some at)) (sym (same_Some _ e is))
fault-value f at texts PatternsNotAvailable e is = ap (fault_value f (Some at)) (sym (same_Some _ e is))
fault-value f at texts InvalidFormat e is = ap (fault_value f (Some at)) (sym (same_Some _ e is))
fault-value f at texts NoSuchKey e is = ap (fault_value f (Some at)) (sym (same_Some _ e is))
fault-value f at texts KeyIsNil e is = ap (fault_value f (Some at)) (sym (same_Some _ e is))
fault-value f at texts AssertionFailed e is = ap (fault_value f (Some at)) (sym (same_Some _ e is))
fault-value f at texts NoMetatable e is = ap (fault_value f (Some at)) (sym (same_Some _ e is))
fault-value f at texts Protected e is = ap (fault_value f (Some at)) (sym (same_Some _ e is))
fault-value f at texts PositionOutOfBounds e is = ap (fault_value f (Some at)) (sym (same_Some _ e is))
fault-value f at texts NoOrder e is = ap (fault_value f (Some at)) (sym (same_Some _ e is))
fault-value f at texts TakesNoFunction e is = ap (fault_value f (Some at)) (sym (same_Some _ e is))
fault-value f at texts (OutOfBounds n) e is = ap (fault_value f (Some at)) (sym (same_Some _ e is))
fault-value f at texts (NotSeconds n) e is = ap (fault_value f (Some at)) (sym (same_Some _ e is))
fault-value f at texts (NoStatus n) e is = ap (fault_value f (Some at)) (sym (same_Some _ e is))
fault-value f at texts Memory e is = absurd (none-some e is)

-- the value of an error is that of its cause
pub error-value : (f : Native) (at : Place) (texts : List Bytes) (cause : Cause) (e : Error) → error_of texts cause ≡ Some e → fault_value f (Some at) e ≡ cause_value f at texts cause
error-value f at texts (Wants argument expected got) e is =
    ap (fault_value f (Some at)) (sym (same_Some _ e is))
    ∙ ap (λ (t : List ℕ). str (placed (Some at) (bad_argument f argument (expected_text expected ++ (codes " expected, got " ++ t))))) (type_name-same texts got)
error-value f at texts (By fault) e is = fault-value f at texts fault e is
error-value f at texts (NoText number value) e is =
    ap (fault_value f (Some at)) (sym (same_Some _ e is))
    ∙ ap (λ (t : List ℕ). str (placed (Some at) (codes "invalid value (" ++ (t ++ (codes ") at index " ++ (signed_decimal number ++ codes " in table for 'concat'")))))) (type_name-same texts value)
error-value f at texts (Raises v) e is = ap (fault_value f (Some at)) (sym (same_Some _ e is))
