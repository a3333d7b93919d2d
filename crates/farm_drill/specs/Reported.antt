-- Runs that are still to be reported.
use Rattle.std.specs.Prelude.{◌≡◌, ℕ, Bool, not, true, false, List, All, filter, get_or}
use Rattle.farm_entry.specs.History.{all_leases, is_reported}
use Rattle.farm_entry.specs.declared.entry.Entry.{Entry}
use Rattle.farm_entry.specs.declared.lease.LeasedRun.{LeasedRun}

-- whether a run is marked, by its number
abbrev pub is_marked : (marks : List Bool) → (run : ℕ) → Bool
is_marked marks run = get_or marks run false

-- a run that is marked is reported
abbrev pub AreRunsMarked : List Entry → (marks : List Bool) → Type 0
AreRunsMarked H marks = (run : ℕ) → is_marked marks run ≡ true → is_reported H run ≡ true

-- those of a list of leases whose runs aren't marked, in their order
abbrev pub unmarked : (marks : List Bool) → List LeasedRun → List LeasedRun
unmarked marks ls = filter (λ l. not (is_marked marks l.run)) ls

-- a run that was handed out and isn't marked as out is reported
abbrev pub AreOut : List Entry → (out : List Bool) → Type 0
AreOut H out = All (λ l. is_marked out l.run ≡ false → is_reported H l.run ≡ true) (all_leases H)
