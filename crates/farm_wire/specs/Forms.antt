-- The forms that the values of a command's members have in JSON, with what each value is read as.
use Rattle.std.specs.Prelude.{ℕ, ◌^◌, nat_le, nat_lt, Bool, if◌then◌else◌, List, [], ◌∷◌, is_none, Option, Some, None}
use Rattle.std.specs.Prelude.{option_and_then, option_map, codes}
use Rattle.std.specs.Int.{from_be_bytes, w128}
use Rattle.std.specs.Str.{bytes_eq}
use Rattle.serde_json.specs.Data.{Data, Items, no_items, item}
use Rattle.serde_json.specs.Find.{as_array, as_number, as_str, as_u64}
use Rattle.uuid.specs.Text.{parsed}
use Rattle.farm_types.specs.Name.{name_fault}
use Rattle.farm_types.specs.declared.commit_id.CommitId.{CommitId}
use Rattle.farm_types.specs.declared.key.Key.{Key}
use Rattle.farm_types.specs.declared.moment.Moment.{Moment}
use Rattle.suspect_range.specs.declared.suspect.Suspect.{Suspect}
use Rattle.weight_exact.specs.declared.run.Verdict.TheVariants.{Fail, Pass}
use Rattle.farm_entry.specs.declared.command.Command.{Command}
use Rattle.farm_entry.specs.declared.command.Command.TheVariants.{Report, Skip}
use Rattle.farm_wire.specs.Made.{id_named, moment_at}
use Rattle.farm_wire.specs.declared.verb.Verb.{Verb}
use Rattle.farm_wire.specs.declared.verb.Verb.TheVariants as asks

-- a value where it passes a test
abbrev pub where_passed : {X : Type 0} → (X → Bool) → X → Option X
where_passed test x = if test x then Some x else None

-- Numbers.

-- a whole number as serde_json tells it: below 2 ^ 64, and written without a point or an exponent
unfoldable pub whole : Data → Option ℕ
whole d = option_and_then as_u64 (as_number d)

-- a whole number below 2 ^ 32
unfoldable pub small : Data → Option ℕ
small d = option_and_then (where_passed (λ n. nat_lt n (2 ^ 32))) (whole d)

-- a whole number below 2 ^ 32 that numbers a run or a search, from 1
unfoldable pub ordinal : Data → Option ℕ
ordinal d = option_and_then (where_passed (λ n. nat_le 1 n)) (small d)

-- a moment, in milliseconds since 1970-01-01 in UTC
unfoldable pub moment : Data → Option Moment
moment d = option_and_then moment_at (whole d)

-- Texts.

-- the key that a text spells, in one of the forms of a UUID (RFC 9562)
abbrev pub key_named : List ℕ → Option Key
key_named text = option_map (λ bytes. record { 0 = from_be_bytes w128 bytes }) (parsed text)

unfoldable pub key : Data → Option Key
key d = option_and_then key_named (as_str d)

unfoldable pub name : Data → Option (List ℕ)
name d = option_and_then (where_passed (λ text. is_none (name_fault text))) (as_str d)

unfoldable pub commit : Data → Option CommitId
commit d = option_and_then id_named (as_str d)

-- what stands for a verdict where a tree can't be tested
abbrev pub skip_word : List ℕ
skip_word = codes "skip"

-- what a report of a run asks for, by the word of its verdict
abbrev pub report_named : (run : ℕ) → List ℕ → Option Command
report_named run text =
    if bytes_eq text (codes "pass") then Some (Report run Pass)
    else if bytes_eq text (codes "fail") then Some (Report run Fail)
    else if bytes_eq text skip_word then Some (Skip run)
    else None

unfoldable pub report : (run : ℕ) → Data → Option Command
report run d = option_and_then (report_named run) (as_str d)

-- what a text asks for
abbrev pub verb_named : List ℕ → Option Verb
verb_named text =
    if bytes_eq text (codes "open") then Some asks.Open
    else if bytes_eq text (codes "lease") then Some asks.Lease
    else if bytes_eq text (codes "report") then Some asks.Report
    else if bytes_eq text (codes "cancel") then Some asks.Cancel
    else if bytes_eq text (codes "revert") then Some asks.Revert
    else if bytes_eq text (codes "search") then Some asks.Search
    else if bytes_eq text (codes "farm") then Some asks.Farm
    else if bytes_eq text (codes "orders") then Some asks.Orders
    else if bytes_eq text (codes "runs") then Some asks.Runs
    else if bytes_eq text (codes "list") then Some asks.List
    else None

unfoldable pub verb : Data → Option Verb
verb d = option_and_then verb_named (as_str d)

-- Arrays.

-- two items
abbrev pub two_of : Items → Option (Data × Data)
two_of no_items = None
two_of (item a no_items) = None
two_of (item a (item b no_items)) = Some (a, b)
two_of (item a (item b (item c more))) = None

-- the items of an array of two
unfoldable pub two_in : Data → Option (Data × Data)
two_in d = option_and_then two_of (as_array d)

-- an array of two values, each in its form
abbrev pub pair : {X Y : Type 0} → (Data → Option X) → (Data → Option Y) → Data → Option (X × Y)
pair f g d = option_and_then (λ p. option_and_then (λ a. option_map (λ b. (a, b)) (g p.1)) (f p.0)) (two_in d)

-- a fraction, as its numerator and its denominator
unfoldable pub fraction : Data → Option (ℕ × ℕ)
fraction d = pair small small d

-- a suspect, as its commit and its weight
unfoldable pub suspect : Data → Option Suspect
suspect d = option_map (λ p. record { commit = p.0; weight = p.1 }) (pair commit small d)

-- the items, where each is a suspect
abbrev pub suspects_of : Items → Option (List Suspect)
suspects_of no_items = Some []
suspects_of (item d more) = option_and_then (λ s. option_map (λ rest. s ∷ rest) (suspects_of more)) (suspect d)

-- an array of suspects
unfoldable pub suspects : Data → Option (List Suspect)
suspects d = option_and_then suspects_of (as_array d)
