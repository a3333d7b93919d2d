-- What the parser's answer on the whole command line says.
use Rattle.std.proofs.Common.{◌≡◌, ◌≢◌, ◌∙◌, ⊎_elim, ap, ap₂, refl, subst, sym, true, List, [], Option, Some, None}
use Rattle.std.proofs.lemmas.Option.{none-some, same_Some}
use Rattle.std.specs.Option.{option_map}
use Rattle.clap.specs.Kinds.{HasKind, Kinds}
use Rattle.clap.specs.Values.{kind_of}
use Rattle.clap.specs.Words.{App, HasMatchesOf, Row, Text, fault_of, is_simple, is_simple_and_free, subcommand_of, subcommand_rows_of}
use Rattle.clap.specs.declared.error.Error.{Error}
use Rattle.clap.specs.declared.error.kind.ErrorKind.TheVariants as kind
use Rattle.clap.specs.declared.parser.matches.ArgMatches.{ArgMatches}
use Rattle.clap.proofs.OnLiterals.{clap_on_literals}
use Rattle.finder_words.specs.CommandLine.{command_line, read_of, read_rows}

-- the parser says all of it: it is simple, and names no further call
line-free : is_simple_and_free command_line ≡ true
unfolding clap_on_literals
line-free = refl

line-simple : is_simple command_line ≡ true
unfolding clap_on_literals
line-simple = refl

-- where it takes the words no fault comes, and what it found is what the command line finds
pub parsed-found : (app : App) (words : List Text) (m : ArgMatches) → app ≡ command_line
    → (is_simple_and_free app ≡ true → fault_of app words ≡ []) → HasMatchesOf app words m
    → (fault_of command_line words ≡ []) × (subcommand_rows_of m ≡ subcommand_of command_line words)
parsed-found app words m is faultless found = (
  subst (λ (a : App). fault_of a words ≡ []) is (faultless (ap is_simple_and_free is ∙ line-free)),
  subst (λ (a : App). subcommand_rows_of m ≡ subcommand_of a words) is (found (ap is_simple is ∙ line-simple)).1,
)

-- where it refuses them for another cause than running out of memory, one comes
pub refused-faulty : (app : App) (words : List Text) (e : Error) → app ≡ command_line
    → (is_simple_and_free app ≡ true → HasKind (fault_of app words) e) → kind_of e ≢ kind.OutOfMemory
    → fault_of command_line words ≢ []
refused-faulty app words e is kinds other none =
    let at_line : HasKind (fault_of command_line words) e =
    subst (λ (a : App). HasKind (fault_of a words) e) is (kinds (ap is_simple_and_free is ∙ line-free)) in
    let at_none : HasKind [] e = subst (λ (ks : Kinds). HasKind ks e) none at_line in
    ⊎_elim (λ (memory : kind_of e ≡ kind.OutOfMemory). other memory) (λ (nothing : ⊥). nothing) at_none

-- a subcommand that is there: its name, and the words that were found
pub rows-found : {A : Type 0} (name_of : A → Text) (rows_of : A → List Row) (met : Option A) (name : Text) (rows : List Row)
    → Some name ≡ option_map name_of met
    → Some rows ≡ option_map (λ (p : Text × List Row). p.1) (option_map (λ a. (name_of a, rows_of a)) met)
    → read_of name rows ≡ read_rows (option_map (λ a. (name_of a, rows_of a)) met)
rows-found name_of rows_of None name rows named found = absurd (none-some name (sym named))
rows-found name_of rows_of (Some a) name rows named found =
    ap₂ read_of (same_Some name (name_of a) named) (same_Some rows (rows_of a) found)
