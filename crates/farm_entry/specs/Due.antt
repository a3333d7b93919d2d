-- Which runs are out at a moment, and which run is due.
use Rattle.std.specs.Prelude.{ℕ, ◌-◌, nat_le, nat_lt, Bool, not, ◌&&◌, List, [], ◌∷◌, filter, map, if◌then◌else◌, Option, Some, None}
use Rattle.std.specs.List.{filter_map}
use Rattle.std.specs.Option.{option_map}
use Rattle.farm_types.specs.declared.stage.Stage.{Stage}
use Rattle.farm_types.specs.declared.stage.Stage.TheVariants.{Search, Verify}
use Rattle.threshold_pick.specs.Open.{open_plan}
use Rattle.farm_rules.specs.Due.{due_search, due_verify}
use Rattle.farm_rules.specs.Reruns.{reruns_at}
use Rattle.farm_entry.specs.History.{is_reported, last_lease, leases, openings, reruns, runs, same_stage, skipped}
use Rattle.farm_entry.specs.Setup.{setup_of}
use Rattle.farm_entry.specs.Standing.{standing}
use Rattle.farm_entry.specs.declared.entry.Entry.{Entry}
use Rattle.farm_entry.specs.declared.lease.DueRun.{DueRun}
use Rattle.farm_entry.specs.declared.lease.LeasedRun.{LeasedRun}
use Rattle.farm_entry.specs.declared.opening.Opening.{Opening}
use Rattle.farm_entry.specs.declared.standing.Standing.{Standing}
use Rattle.farm_entry.specs.declared.standing.Standing.TheVariants.{Searching, Verifying}

-- whether a lease is open at a moment: its run has no report, and its deadline lies later
abbrev pub is_open : List Entry → (moment : ℕ) → LeasedRun → Bool
is_open H moment l = not (is_reported H l.run) && nat_lt moment l.deadline

-- the open leases of a search at a stage
abbrev pub open_leases : List Entry → (search : ℕ) → Stage → (moment : ℕ) → List LeasedRun
open_leases H search stage moment = filter (λ l. same_stage l.stage stage && is_open H moment l) (leases H search)

-- their positions, by the numbers of the runs
abbrev pub outstanding_positions : List Entry → (search : ℕ) → Stage → (moment : ℕ) → List ℕ
outstanding_positions H search stage moment = map (λ l. l.position) (open_leases H search stage moment)

-- The leases of a search that are outstanding at a moment: those that are open, of the stage at which the search
-- stands. The rules below take their positions
abbrev pub outstanding_at : Standing → List Entry → (search : ℕ) → (moment : ℕ) → List LeasedRun
outstanding_at Searching H search moment = open_leases H search Search moment
outstanding_at (Verifying culprit) H search moment = open_leases H search Verify moment
outstanding_at _ H search moment = []

abbrev pub outstanding : List Entry → Opening → (moment : ℕ) → List LeasedRun
outstanding H o moment = outstanding_at (standing H o) H o.search moment

-- where a search that is searching is to run next
abbrev pub due_searching : List Entry → Opening → (moment : ℕ) → Option ℕ
due_searching H o moment =
    due_search (open_plan (setup_of o) (runs H o.search) (skipped H o.search) o.width)
    (outstanding_positions H o.search Search moment)

-- where a search that verifies a culprit is to run next
abbrev pub due_verifying : List Entry → Opening → (culprit moment : ℕ) → Option ℕ
due_verifying H o culprit moment =
    due_verify culprit (reruns_at culprit (reruns H o.search)) (reruns_at (culprit - 1) (reruns H o.search))
    (outstanding_positions H o.search Verify moment) o.reruns

abbrev pub due_at : Standing → List Entry → Opening → (moment : ℕ) → Option DueRun
due_at Searching H o moment =
    option_map (λ k. record { search = o.search; stage = Search; position = k }) (due_searching H o moment)
due_at (Verifying culprit) H o moment =
    option_map (λ k. record { search = o.search; stage = Verify; position = k }) (due_verifying H o culprit moment)
due_at _ H o moment = None

-- the run of a search that is due at a moment, if one is
abbrev pub due : List Entry → Opening → (moment : ℕ) → Option DueRun
due H o moment = due_at (standing H o) H o moment

-- the due runs of all searches, by the numbers of the searches
abbrev pub due_runs : List Entry → (moment : ℕ) → List DueRun
due_runs H moment = filter_map (λ o. due H o moment) (openings H)

-- of two due runs that of the search whose last lease stands earlier, and on a tie the first
abbrev pub sooner : List Entry → DueRun → Option DueRun → DueRun
sooner H d None = d
sooner H d (Some other) = if nat_le (last_lease H d.search) (last_lease H other.search) then d else other

-- the due run of the search whose last lease stands earliest, the first of them on a tie
abbrev pub soonest : List Entry → List DueRun → Option DueRun
soonest H [] = None
soonest H (d ∷ rest) = Some (sooner H d (soonest H rest))

-- The run that is handed out next, over all searches. A search that was never leased comes before all others, and of
-- two such searches the smaller number
abbrev pub next_run : List Entry → (moment : ℕ) → Option DueRun
next_run H moment = soonest H (due_runs H moment)
