-- What stands at the places of a set. 37 is the percent sign, 45 the dash, 93 the closing bracket and 94 the caret.
use Rattle.std.specs.Prelude.{◌≡◌, ℕ, ◌+◌, ◌<◌, ◌≤◌, Bool, false, List, [], ◌∷◌, ◌++◌, drop, Option, Some, None, Result, Ok, Err, ◌==◌, ◌&&◌, not, if◌then◌else◌}
use Rattle.std.specs.Char.{is_ascii_uppercase}
use Rattle.lua_pattern.specs.declared.class.Named.{Named}
use Rattle.lua_pattern.specs.declared.class.Named.TheVariants.{Letter, Control, Digit, Lower, Punctuation, Space, Upper, Alphanumeric, Hexadecimal, Zero}
use Rattle.lua_pattern.specs.declared.class.Member.{Member}
use Rattle.lua_pattern.specs.declared.class.Member.TheVariants as members
use Rattle.lua_pattern.specs.declared.element.Element.{Element}
use Rattle.lua_pattern.specs.declared.element.Element.TheVariants.{Is, Closing, Unclosed, LonePercent}
use Rattle.lua_pattern.specs.declared.fault.PatternFault.{PatternFault}
use Rattle.lua_pattern.specs.declared.fault.PatternFault.TheVariants.{EndsWithPercent, MissingBracket}

-- the class that has this letter
abbrev pub named : ℕ → Option Named
named b =
    if b == 97 then Some Letter
    else (if b == 99 then Some Control
    else (if b == 100 then Some Digit
    else (if b == 108 then Some Lower
    else (if b == 112 then Some Punctuation
    else (if b == 115 then Some Space
    else (if b == 117 then Some Upper
    else (if b == 119 then Some Alphanumeric
    else (if b == 120 then Some Hexadecimal
    else (if b == 122 then Some Zero
    else None)))))))))

-- a class that has this letter, its complement, or the byte where there is none
abbrev pub named_or : ℕ → Option Named → Member
named_or b (Some class) = members.Named class
named_or b None = members.Byte b

abbrev pub not_named_or : ℕ → Option Named → Member
not_named_or b (Some class) = members.NotNamed class
not_named_or b None = members.Byte b

-- what a byte behind a percent sign stands for: the class of a letter, its complement for the letter in upper case, and
-- else itself
unfoldable pub escaped : ℕ → Member
escaped b = if is_ascii_uppercase b then not_named_or b (named (b + 32)) else named_or b (named b)

-- behind a percent sign
abbrev pub escape_at : List ℕ → Element
escape_at [] = LonePercent
escape_at (b ∷ text) = Is (escaped b) 2

-- a plain byte, or a range where a dash and another plain byte follow
abbrev pub plain_at : ℕ → List ℕ → Element
plain_at b [] = Is (members.Byte b) 1
plain_at b (dash ∷ []) = Is (members.Byte b) 1
plain_at b (dash ∷ high ∷ text) =
    if dash == 45 && not (high == 93) && not (high == 37) then Is (members.Range b high) 3 else Is (members.Byte b) 1

-- what stands at the front of a set's text; a closing bracket right at the set's beginning stands for itself
abbrev pub element_at : Bool → List ℕ → Element
element_at first [] = Unclosed
element_at first (b ∷ text) =
    if b == 93 && not first then Closing else (if b == 37 then escape_at text else plain_at b text)

-- a member's bytes are among so many; so is a bracket
abbrev pub ElementFits : Element → ℕ → Type 0
ElementFits (Is m n) limit = (0 < n) × (n ≤ limit)
ElementFits Closing limit = 0 < limit
ElementFits Unclosed limit = Unit {0}
ElementFits LonePercent limit = Unit {0}

-- the members of a set and what follows its bracket, or its fault
abbrev pub SetRead : Type 0
SetRead = Result (List Member × List ℕ) PatternFault

-- what ends a set's text, where no member stands
abbrev pub set_end : Element → List ℕ → Option SetRead
set_end (Is m n) text = None
set_end Closing text = Some (Ok ([], drop 1 text))
set_end Unclosed text = Some (Err MissingBracket)
set_end LonePercent text = Some (Err EndsWithPercent)

-- these members, and then what was read
abbrev pub with_members : List Member → SetRead → SetRead
with_members ms (Ok (others, rest)) = Ok (ms ++ others, rest)
with_members ms (Err fault) = Err fault

-- A set's text, from its first byte or a later one on, is read so: it ends here, or a member stands here and the text
-- behind it is read so.
pub data Members : Bool → List ℕ → SetRead → Type 0 where
  ends : {first : Bool} {text : List ℕ} {read : SetRead} → set_end (element_at first text) text ≡ Some read
      → Members first text read
  then_more : {first : Bool} {text : List ℕ} {read : SetRead} {m : Member} {n : ℕ} → element_at first text ≡ Is m n
      → Members false (drop n text) read → Members first text (with_members (m ∷ []) read)
