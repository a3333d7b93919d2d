-- Which runs of a search are out at a moment.
use Rattle.std.specs.Prelude.{ℕ, nat_lt, ◌==◌, Bool, true, false, not, ◌&&◌, List, filter, map}
use Rattle.farm_types.specs.declared.stage.Stage.{Stage}
use Rattle.farm_types.specs.declared.stage.Stage.TheVariants.{Search, Verify}
use Rattle.search_books.specs.Leases.{Held}
use Rattle.search_books.specs.declared.lease.Lease.{Lease}

-- whether two stages are the same
abbrev pub same_stage : Stage → Stage → Bool
same_stage Search Search = true
same_stage Verify Verify = true
same_stage _ _ = false

-- whether a lease is of a stage, and its deadline lies later than a moment
abbrev pub is_awaited : Stage → (moment : ℕ) → Lease → Bool
is_awaited stage moment lease = same_stage lease.stage stage && nat_lt moment lease.deadline

-- whether it waits for an answer too
abbrev pub is_waiting : Stage → (moment : ℕ) → Held → Bool
is_waiting stage moment held = not held.is_answered && is_awaited stage moment held.lease

-- whether a lease that waits is of a search
abbrev pub is_out : (search : ℕ) → Stage → (moment : ℕ) → Held → Bool
is_out search stage moment held = held.lease.search == search && is_waiting stage moment held

-- the positions of the leases that are out, by the numbers of the runs
abbrev pub positions_out : (search : ℕ) → Stage → (moment : ℕ) → List Held → List ℕ
positions_out search stage moment leases =
    map (λ held. held.lease.position) (filter (is_out search stage moment) leases)
