-- Words that the laws of legal histories are said in.
use Rattle.std.specs.Prelude.{ℕ, ◌≤◌, List, Option, Some, None}
use Rattle.std.specs.List.{All, filter_map}
use Rattle.farm_types.specs.Moment.{moment_ms}
use Rattle.farm_types.specs.declared.key.Key.{Key}
use Rattle.farm_entry.specs.History.{key_in}
use Rattle.farm_entry.specs.declared.entry.Entry.{Entry}
use Rattle.farm_entry.specs.declared.standing.Standing.{Standing}
use Rattle.farm_entry.specs.declared.standing.Standing.TheVariants.{Searching, Verifying, Confirmed, Vindicated, NoCulprit, Inconclusive, Cancelled}

-- the keys of a history, in the order of the entries
abbrev pub keys : List Entry → List Key
keys H = filter_map (λ e. key_in e.what) H

-- a moment, in milliseconds, is not before any entry of a history
abbrev pub IsNotBefore : List Entry → (moment : ℕ) → Type 0
IsNotBefore H moment = All (λ e. moment_ms e.at ≤ moment) H

-- the suspect that a standing names, if it names one
abbrev pub culprit_of : Standing → Option ℕ
culprit_of Searching = None
culprit_of (Verifying culprit) = Some culprit
culprit_of (Confirmed culprit) = Some culprit
culprit_of (Vindicated culprit) = Some culprit
culprit_of NoCulprit = None
culprit_of Inconclusive = None
culprit_of Cancelled = None
