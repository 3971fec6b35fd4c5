-- The ticks that words give are within the range of the option.
use Rattle.std.proofs.Common.{◌≡◌, ℕ, ◌≤◌, ◌&&◌, Bool, true, false, List, [], ◌∷◌, Option, Some, None, IfSome, if◌then◌else◌, nat_le, leb-true, refl, sym, subst, arith}
use Rattle.std.specs.Str.{bytes_eq}
use Rattle.std.specs.Prelude.{codes, option_and_then, option_map, unwrap_or}
use Rattle.love_run.specs.Command.{Line, SaidView, Word, ended, ends_as, first_folder, given, gives, giving, hears, hears_all, hears_as, is_option, least, line_of, most, names_folder, names_option, nothing_said, number_in, number_of, one_more, option_in, says, settings, taken, with_given}
use Rattle.love_run.specs.declared.command.Command.{Command}
use Rattle.love_run.specs.declared.command_option.CommandOption.{CommandOption}
use Rattle.love_run.specs.declared.command_option.CommandOption.TheVariants.{Frames, Steps, Workers}
use Rattle.love_run.specs.declared.command_option.Numbers.{Numbers}
use Rattle.love_run.specs.declared.said.Next.{Next}
use Rattle.love_run.specs.declared.said.Next.TheVariants as next

abbrev most_steps : ℕ
most_steps = 1000000000

abbrev Fit : Numbers → Type 0
Fit numbers = IfSome numbers.steps (λ n. n ≤ most_steps)

abbrev SaysFit : SaidView → Type 0
SaysFit said = Fit said.numbers

and_then : {X Y : Type 0} (P : X → Type 0) (Q : Y → Type 0) (f : X → Option Y) (o : Option X) → IfSome o P → ((x : X) → P x → IfSome (f x) Q) → IfSome (option_and_then f o) Q
and_then P Q f None holds follows = tt
and_then P Q f (Some x) holds follows = follows x holds

mapped : {X Y : Type 0} (P : X → Type 0) (Q : Y → Type 0) (f : X → Y) (o : Option X) → IfSome o P → ((x : X) → P x → Q (f x)) → IfSome (option_map f o) Q
mapped P Q f None holds follows = tt
mapped P Q f (Some x) holds follows = follows x holds

any : {X : Type 0} (P : X → Type 0) (o : Option X) → ((x : X) → P x) → IfSome o P
any P None holds = tt
any P (Some x) holds = holds x

choice : {X : Type 0} (P : X → Type 0) (b : Bool) (o p : Option X) → IfSome o P → IfSome p P → IfSome (if b then o else p) P
choice P true o p one other = one
choice P false o p one other = other

-- the number that an option takes is within its range
taken_fits : (option : CommandOption) (n : ℕ) → IfSome (taken option n) (λ m. m ≤ most option)
taken_fits option n = go (nat_le (least option) n) (nat_le n (most option)) refl
  where
    go : (low high : Bool) → nat_le n (most option) ≡ high → IfSome (if low && high then Some n else None) (λ m. m ≤ most option)
    go true true is = leb-true n (most option) is
    go true false is = tt
    go false high is = tt

number_fits : (option : CommandOption) (text : Word) → IfSome (number_of option text) (λ m. m ≤ most option)
number_fits option text = and_then (λ n. n ≡ n) (λ m. m ≤ most option) (taken option) (number_in text) (any (λ n. n ≡ n) (number_in text) (λ n. refl)) (λ n is. taken_fits option n)

more_fits : (option : CommandOption) (numbers : Numbers) (n : ℕ) → Fit numbers → n ≤ most option → Fit (with_given option n numbers)
more_fits Frames numbers n fit few = fit
more_fits Steps numbers n fit few = few
more_fits Workers numbers n fit few = fit

giving_fits : (option : CommandOption) (text : Word) (numbers : Numbers) → Fit numbers → IfSome (giving option text numbers) Fit
giving_fits option text numbers fit =
    and_then (λ n. n ≤ most option) Fit _ (number_of option text) (number_fits option text) (λ n few. go (given option numbers) n few)
  where
    go : (earlier : Option ℕ) (n : ℕ) → n ≤ most option → IfSome (one_more earlier option n numbers) Fit
    go None n few = more_fits option numbers n fit few
    go (Some m) n few = tt

gives_fits : (option : CommandOption) (text : Word) (said : SaidView) → SaysFit said → IfSome (gives option text said) SaysFit
gives_fits option text said fit = mapped Fit SaysFit _ (giving option text said.numbers) (giving_fits option text said.numbers fit) (λ numbers fits. fits)

folder_fits : (folder : Option Word) (word : Word) (said : SaidView) → SaysFit said → IfSome (first_folder folder word said) SaysFit
folder_fits None [] said fit = tt
folder_fits None (first ∷ rest) said fit = fit
folder_fits (Some other) word said fit = tt

option_fits : (option : CommandOption) (rest : Word) (said : SaidView) → SaysFit said → IfSome (names_option option rest said) SaysFit
option_fits option [] said fit = fit
option_fits option (first ∷ text) said fit = choice SaysFit _ (gives option text said) None (gives_fits option text said fit) tt

says_fits : (word : Word) (said : SaidView) → SaysFit said → IfSome (says word said) SaysFit
says_fits word said fit =
    choice SaysFit (bytes_eq word (codes "--")) (Some (record said { next = next.Folder })) _ fit
    (choice SaysFit (is_option word) _ (names_folder word said)
    (and_then (λ named. named ≡ named) SaysFit _ (option_in word) (any (λ named. named ≡ named) (option_in word) (λ named. refl)) (λ named is. option_fits named.0 named.1 said fit))
    (folder_fits said.folder word said fit))

heard_fits : (awaited : Next) (word : Word) (said : SaidView) → SaysFit said → IfSome (hears_as awaited word said) SaysFit
heard_fits next.Any word said fit = says_fits word said fit
heard_fits (next.Number option) word said fit = gives_fits option word said fit
heard_fits next.Folder word said fit = folder_fits said.folder word said fit

hears_fits : (word : Word) (said : SaidView) → SaysFit said → IfSome (hears word said) SaysFit
hears_fits word said fit = choice SaysFit _ (hears_as said.next word said) None (heard_fits said.next word said fit) tt

all_fit : (words : List Word) (said : SaidView) → SaysFit said → IfSome (hears_all words said) SaysFit
all_fit [] said fit = fit
all_fit (word ∷ words) said fit = and_then SaysFit SaysFit (hears_all words) (hears word said) (hears_fits word said fit) (λ heard fits. all_fit words heard fits)

or_default : (steps : Option ℕ) → IfSome steps (λ n. n ≤ most_steps) → unwrap_or steps 10000000 ≤ most_steps
or_default None fit = omega arith
or_default (Some n) fit = fit

abbrev LineFits : Line → Type 0
LineFits line = line.steps ≤ most_steps

end_fits : (awaited : Next) (said : SaidView) → SaysFit said → IfSome (ends_as awaited said) LineFits
end_fits (next.Number option) said fit = tt
end_fits next.Any said fit = mapped (λ folder. folder ≡ folder) LineFits _ said.folder (any (λ folder. folder ≡ folder) said.folder (λ folder. refl)) (λ folder is. or_default said.numbers.steps fit)
end_fits next.Folder said fit = mapped (λ folder. folder ≡ folder) LineFits _ said.folder (any (λ folder. folder ≡ folder) said.folder (λ folder. refl)) (λ folder is. or_default said.numbers.steps fit)

settings_fit : (words : List Word) → IfSome (settings words) LineFits
settings_fit words = and_then SaysFit LineFits ended (hears_all words nothing_said) (all_fit words nothing_said tt) (λ said fit. end_fits said.next said fit)

-- so are those of the command that was read
pub few_steps : (words : List Word) (read : Option Command) → option_map line_of read ≡ settings words → IfSome read (λ command. command.steps ≤ 1000000000)
few_steps words None is = tt
few_steps words (Some command) is = subst (λ line. IfSome line LineFits) (sym is) (settings_fit words)
