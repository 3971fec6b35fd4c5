-- Classes of bytes (Lua 5.1 manual §5.4.1), all in ASCII.
use Rattle.std.specs.Prelude.{ℕ, Bool, true, ◌==◌, ◌&&◌, ◌||◌, not, nat_le}
use Rattle.std.specs.List.{list_any}
use Rattle.std.specs.Char.{is_ascii_alphabetic, is_ascii_control, is_ascii_digit, is_ascii_lowercase, is_ascii_punctuation, is_ascii_uppercase, is_ascii_alphanumeric, is_ascii_hexdigit}
use Rattle.lua_pattern.specs.declared.class.Named.{Named}
use Rattle.lua_pattern.specs.declared.class.Named.TheVariants as names
use Rattle.lua_pattern.specs.declared.class.Member.{Member}
use Rattle.lua_pattern.specs.declared.class.Member.TheVariants as members
use Rattle.lua_pattern.specs.declared.class.Class.{Class}
use Rattle.lua_pattern.specs.declared.class.Class.TheVariants.{Any, One, Set, NotSet}

-- whether a byte is of a class that has a letter
abbrev pub named_takes : Named → ℕ → Bool
named_takes names.Letter b = is_ascii_alphabetic b
named_takes names.Control b = is_ascii_control b
named_takes names.Digit b = is_ascii_digit b
named_takes names.Lower b = is_ascii_lowercase b
named_takes names.Punctuation b = is_ascii_punctuation b
named_takes names.Space b = b == 32 || (nat_le 9 b && nat_le b 13)
named_takes names.Upper b = is_ascii_uppercase b
named_takes names.Alphanumeric b = is_ascii_alphanumeric b
named_takes names.Hexadecimal b = is_ascii_hexdigit b
named_takes names.Zero b = b == 0

-- whether a member of a set takes a byte
abbrev pub member_takes : Member → ℕ → Bool
member_takes (members.Byte own) b = b == own
member_takes (members.Range low high) b = nat_le low b && nat_le b high
member_takes (members.Named name) b = named_takes name b
member_takes (members.NotNamed name) b = not (named_takes name b)

-- whether a class takes a byte
abbrev pub takes : Class → ℕ → Bool
takes Any b = true
takes (One member) b = member_takes member b
takes (Set set) b = list_any (λ m. member_takes m b) set
takes (NotSet set) b = not (list_any (λ m. member_takes m b) set)
