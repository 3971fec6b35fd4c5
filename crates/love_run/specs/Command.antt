-- What the words of the command line say: a folder, and the numbers of options.
use Rattle.std.specs.Prelude.{ℕ, Bool, ◌&&◌, ◌==◌, List, [], ◌∷◌, length, take, drop, nat_le, nat_lt, if◌then◌else◌, codes, Option, Some, None, option_and_then, option_map, unwrap_or}
use Rattle.std.specs.Str.{all_ascii_digits, bytes_eq, is_utf8}
use Rattle.std.specs.Str.Parse.{digits_value}
use Rattle.love_run.specs.declared.command_option.CommandOption.{CommandOption}
use Rattle.love_run.specs.declared.command_option.CommandOption.TheVariants.{Frames, Steps, Workers}
use Rattle.love_run.specs.declared.command_option.Numbers.{Numbers}
use Rattle.std.specs.Option.{option_copied}
use Rattle.love_run.specs.declared.command.Command.{Command}
use Rattle.love_run.specs.declared.said.Said.{Said}
use Rattle.love_run.specs.declared.said.Next.{Next}
use Rattle.love_run.specs.declared.said.Next.TheVariants as next

-- the bytes of a word
abbrev pub Word : Type 0
Word = List ℕ

-- ---- options and their numbers

-- how an option is written
abbrev pub spelling : CommandOption → Word
spelling Frames = codes "--frames"
spelling Steps = codes "--steps"
spelling Workers = codes "--workers"

-- the least number that an option takes
abbrev pub least : CommandOption → ℕ
least Frames = 0
least Steps = 1
least Workers = 1

-- the greatest one
abbrev pub most : CommandOption → ℕ
most Frames = 1000000
most Steps = 1000000000
most Workers = 16

-- the text is one to ten decimal digits
abbrev pub is_number : Word → Bool
is_number text = all_ascii_digits text && (nat_lt 0 (length text) && nat_le (length text) 10)

-- the number that such a text writes
abbrev pub number_in : Word → Option ℕ
number_in text = if is_number text then Some (digits_value 10 text) else None

-- the number, where it is one that the option takes
abbrev pub taken : CommandOption → ℕ → Option ℕ
taken option n = if nat_le (least option) n && nat_le n (most option) then Some n else None

-- the number that a text gives an option
abbrev pub number_of : CommandOption → Word → Option ℕ
number_of option text = option_and_then (taken option) (number_in text)

-- what a word has behind the spelling of an option, where it begins with that
abbrev pub behind : CommandOption → Word → Option Word
behind option word =
    if bytes_eq (take (length (spelling option)) word) (spelling option)
    then Some (drop (length (spelling option)) word) else None

-- the number that was given to an option
abbrev pub given : CommandOption → Numbers → Option ℕ
given Frames numbers = numbers.frames
given Steps numbers = numbers.steps
given Workers numbers = numbers.workers

abbrev pub with_given : CommandOption → ℕ → Numbers → Numbers
with_given Frames n numbers = record numbers { frames = Some n }
with_given Steps n numbers = record numbers { steps = Some n }
with_given Workers n numbers = record numbers { workers = Some n }

-- one more number is given, where the option has none yet
abbrev pub one_more : Option ℕ → CommandOption → ℕ → Numbers → Option Numbers
one_more None option n numbers = Some (with_given option n numbers)
one_more (Some earlier) option n numbers = None

abbrev pub giving : CommandOption → Word → Numbers → Option Numbers
giving option text numbers =
    option_and_then (λ n. one_more (given option numbers) option n numbers) (number_of option text)

-- ---- word by word

-- what the words said so far, and what the next one is to be
pub record SaidView : Type 0 where
  pub folder : Option Word
  pub numbers : Numbers
  pub next : Next

-- the first folder, which isn't an empty word
abbrev pub first_folder : Option Word → Word → SaidView → Option SaidView
first_folder None (first ∷ rest) said = Some (record said { folder = Some (first ∷ rest) })
first_folder folder word said = None

abbrev pub names_folder : Word → SaidView → Option SaidView
names_folder word said = first_folder said.folder word said

-- the option has this number
abbrev pub gives : CommandOption → Word → SaidView → Option SaidView
gives option text said =
    option_map (λ numbers. record said { numbers = numbers; next = next.Any })
    (giving option text said.numbers)

-- behind an option stands nothing, and its number is the next word; or `=` and its number
abbrev pub names_option : CommandOption → Word → SaidView → Option SaidView
names_option option [] said = Some (record said { next = next.Number option })
names_option option (first ∷ text) said = if first == 61 then gives option text said else None

-- the option, where the word begins with it, or else what the others say
abbrev pub or_else : Option Word → CommandOption → Option (CommandOption × Word)
    → Option (CommandOption × Word)
or_else (Some rest) option others = Some (option, rest)
or_else None option others = others

-- the option with which a word begins, and what stands behind it
abbrev pub option_in : Word → Option (CommandOption × Word)
option_in word =
    or_else (behind Frames word) Frames
    (or_else (behind Steps word) Steps (or_else (behind Workers word) Workers None))

-- a word with a dash in front, and more behind it
abbrev pub is_option : Word → Bool
is_option word = bytes_eq (take 1 word) (codes "-") && nat_lt 1 (length word)

-- a word where an option or a folder may stand; `--` ends the options
abbrev pub says : Word → SaidView → Option SaidView
says word said =
    if bytes_eq word (codes "--") then Some (record said { next = next.Folder })
    else if is_option word
    then option_and_then (λ named. names_option named.0 named.1 said) (option_in word)
    else names_folder word said

abbrev pub hears_as : Next → Word → SaidView → Option SaidView
hears_as next.Any word said = says word said
hears_as (next.Number option) word said = gives option word said
hears_as next.Folder word said = names_folder word said

-- one word more, which is UTF-8
abbrev pub hears : Word → SaidView → Option SaidView
hears word said = if is_utf8 word then hears_as said.next word said else None

abbrev pub hears_all : List Word → SaidView → Option SaidView
hears_all [] said = Some said
hears_all (word ∷ words) said = option_and_then (hears_all words) (hears word said)

-- ---- the whole line

-- what a line of the command says
pub record Line : Type 0 where
  pub folder : Word
  pub frames : ℕ
  pub steps : ℕ
  pub workers : ℕ

abbrev pub line_in : Word → Numbers → Line
line_in folder numbers = record {
  folder = folder;
  frames = unwrap_or numbers.frames 60;
  steps = unwrap_or numbers.steps 10000000;
  workers = unwrap_or numbers.workers 8;
}

-- at the end there is a folder, and no option waits for its number
abbrev pub ends_as : Next → SaidView → Option Line
ends_as (next.Number option) said = None
ends_as other said = option_map (λ folder. line_in folder said.numbers) said.folder

abbrev pub ended : SaidView → Option Line
ended said = ends_as said.next said

abbrev pub nothing_said : SaidView
nothing_said = record {
  folder = None;
  numbers = record { frames = None; steps = None; workers = None };
  next = next.Any;
}

-- what the words say, where they are a line of the command
abbrev pub settings : List Word → Option Line
settings words = option_and_then ended (hears_all words nothing_said)

-- ---- what the program keeps of it

abbrev pub said_of : Said → SaidView
said_of said = record { folder = option_copied said.folder; numbers = said.numbers; next = said.next }

abbrev pub line_of : Command → Line
line_of command = record {
  folder = command.folder.now;
  frames = command.frames;
  steps = command.steps;
  workers = command.workers;
}
