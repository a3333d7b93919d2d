-- What appending an entry changes.
use Rattle.std.specs.Prelude.{◌≡◌, ℕ, ◌==◌, List, [], filter, Some}
use Rattle.std.specs.List.{cons_option}
use Rattle.farm_entry.specs.History.{lease_in, lease_of}
use Rattle.farm_entry.specs.declared.entry.Entry.{Entry}
use Rattle.farm_entry.specs.declared.entry.What.{What}
use Rattle.farm_entry.specs.declared.entry.What.TheVariants.{Reported, Skipped, Cancelled}
use Rattle.farm_entry.specs.declared.lease.LeasedRun.{LeasedRun}

-- an entry may change where a search stands: it reports a run of the search, with a verdict or not, or cancels it
abbrev pub IsAbout : List Entry → What → (search : ℕ) → Type 0
IsAbout H (Reported run verdict _) search = (l : LeasedRun) × (lease_of H run ≡ Some l) × (l.search ≡ search)
IsAbout H (Skipped run _) search = (l : LeasedRun) × (lease_of H run ≡ Some l) × (l.search ≡ search)
IsAbout H (Cancelled key cancelled) search = cancelled ≡ search
IsAbout H what search = ⊥

-- the lease of a search that an entry hands out, if it hands out one
abbrev pub handed_out : What → (search : ℕ) → List LeasedRun
handed_out what search = filter (λ l. l.search == search) (cons_option (lease_in what) [])
