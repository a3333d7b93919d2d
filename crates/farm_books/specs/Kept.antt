-- What is kept of a history beside its entries: where keys and reports stand, and the leases with their marks.
use Rattle.std.specs.Prelude.{◌≡◌, ℕ, ◌-◌, Bool, false, List, [], ◌∷◌, ◌++◌, length, map, Option, Some, None, take}
use Rattle.std.specs.FinMap.{FinMap, get, insert, remove}
use Rattle.std.specs.Ordering.{nat_cmp}
use Rattle.farm_types.specs.declared.key.Key.{Key}
use Rattle.search_books.specs.Leases.{Held, marked}
use Rattle.search_books.specs.declared.lease.Lease.{Lease}
use Rattle.farm_entry.specs.History.{all_leases, is_reported, place_of_key, place_of_report}
use Rattle.farm_entry.specs.declared.entry.Entry.{Entry}
use Rattle.farm_entry.specs.declared.lease.LeasedRun.{LeasedRun}

-- a map of places, as lookups see it
abbrev pub Places : Type 0
Places = FinMap nat_cmp ℕ

-- keys stand at the places that a history gives
abbrev pub AreKeys : List Entry → Places → Type 0
AreKeys H keys = (key : Key) → get keys key.0 ≡ place_of_key H key

-- and so do the reports of runs, with a verdict or not
abbrev pub AreReports : List Entry → Places → Type 0
AreReports H runs = (run : ℕ) → get runs run ≡ place_of_report H run

-- a lease of the book as the history has it
abbrev pub leased : Lease → LeasedRun
leased l = record { run = l.run; search = l.search; stage = l.stage; position = l.position; deadline = l.deadline }

-- the leases of the book are those of a history, each with the mark whether its run has a report
pub record AreLeases (H : List Entry) (helds : List Held) : Type 0 where
  pub leases_are : map (λ held. leased held.lease) helds ≡ all_leases H
  pub marks_are : map (λ held. held.is_answered) helds ≡ map (λ l. is_reported H l.run) (all_leases H)

-- What appending an entry makes of them, and what is left where it is taken away.

abbrev pub with_key : Places → Option Key → (place : ℕ) → Places
with_key keys None place = keys
with_key keys (Some key) place = insert keys key.0 place

abbrev pub without_key : Places → Option Key → Places
without_key keys None = keys
without_key keys (Some key) = remove keys key.0

abbrev pub with_report : Places → Option ℕ → (place : ℕ) → Places
with_report runs None place = runs
with_report runs (Some run) place = insert runs run place

abbrev pub without_report : Places → Option ℕ → Places
without_report runs None = runs
without_report runs (Some run) = remove runs run

-- the lease that is booked for a run that is handed out
abbrev pub booked : LeasedRun → Held
booked l = record {
  lease = record {
    run = l.run;
    search = l.search;
    stage = l.stage;
    position = l.position;
    deadline = l.deadline;
  };
  is_answered = false;
}

abbrev pub with_lease : List Held → Option LeasedRun → List Held
with_lease helds None = helds
with_lease helds (Some l) = helds ++ booked l ∷ []

abbrev pub without_lease : List Held → Option LeasedRun → List Held
without_lease helds None = helds
without_lease helds (Some l) = take (length helds - 1) helds

-- the leases where the one of a run that is reported is marked so
abbrev pub with_mark : (is_answered : Bool) → List Held → Option ℕ → List Held
with_mark is_answered helds None = helds
with_mark is_answered helds (Some run) = marked is_answered (run - 1) helds
