-- Which search's turn it is to have a run handed out.
use Rattle.std.specs.Prelude.{◌≡◌, ℕ, ◌<◌, ◌≤◌, ◌⊎◌, List, Contains, Some}
use Rattle.farm_entry.specs.Due.{due}
use Rattle.farm_entry.specs.History.{last_lease, openings}
use Rattle.farm_entry.specs.declared.entry.Entry.{Entry}
use Rattle.farm_entry.specs.declared.lease.DueRun.{DueRun}
use Rattle.farm_entry.specs.declared.lease.LeasedRun.{LeasedRun}
use Rattle.farm_entry.specs.declared.opening.Opening.{Opening}

-- a search comes before another: its last lease stands earlier, or both stand alike and its number is not greater. A
-- search that was never leased stands at 0, where no lease can
abbrev pub ComesBefore : List Entry → (search other : ℕ) → Type 0
ComesBefore H search other =
    (last_lease H search < last_lease H other) ⊎ ((last_lease H search ≡ last_lease H other) × (search ≤ other))

-- a run is the due one of its search, which comes before every other search that has a due run
pub record HasTheTurn (H : List Entry) (moment : ℕ) (l : LeasedRun) : Type 0 where
  pub opening : Opening
  pub there : Contains (openings H) opening
  pub of_search : l.search ≡ opening.search
  pub is_due : due H opening moment ≡ Some (record { search = l.search; stage = l.stage; position = l.position })
  pub first : (other : Opening) (d : DueRun) → Contains (openings H) other → due H other moment ≡ Some d →
      ComesBefore H l.search other.search
