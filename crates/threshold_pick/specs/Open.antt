-- Positions whose tree can't be tested are skipped: the plan is made of the others.
use Rattle.std.specs.Prelude.{ℕ, zero, suc, ◌+◌, ◌-◌, ◌==◌, Bool, not, List, nat_lt, if◌then◌else◌, Option, Some, None}
use Rattle.std.specs.List.{filter_map, list_any, range_with_len}
use Rattle.weight_exact.specs.Load.{floor}
use Rattle.weight_exact.specs.Plan.{distance}
use Rattle.weight_exact.specs.Weights.{Setup, cumulative, total, suspects}
use Rattle.weight_exact.specs.declared.run.Run.{Run}

-- whether a position stands among those that were skipped
abbrev pub is_skipped : (skipped : List ℕ) → ℕ → Bool
is_skipped skipped position = list_any (λ p. p == position) skipped

-- whether a position, of those above the floor, is open
abbrev pub is_open : (skipped : List ℕ) → ℕ → Bool
is_open skipped position = not (is_skipped skipped position)

-- of the nearest position so far and a further one the nearer, and on a tie the one so far
abbrev pub nearer : (ℕ → ℕ) → Option ℕ → ℕ → ℕ
nearer away None i = i
nearer away (Some best) i = if nat_lt (away i) (away best) then i else best

-- the position with the least distance of those that pass a test, the smaller one on a tie, among the first `more`
-- above the floor
abbrev pub nearest_open : (test : ℕ → Bool) → (away : ℕ → ℕ) → (low more : ℕ) → Option ℕ
nearest_open test away low zero = None
nearest_open test away low (suc more) =
    let best = nearest_open test away low more in
    if test (low + suc more) then Some (nearer away best (low + suc more)) else best

-- the j-th of k positions to run next, where an open one is left
abbrev pub open_pick : Setup → List Run → (skipped : List ℕ) → (k j : ℕ) → Option ℕ
open_pick s runs skipped k j =
    let low = floor s.factors runs in
    nearest_open (is_open skipped) (λ i. distance (total s runs) j k (cumulative s runs i)) low (suspects s - low)

-- the plan of width k over the open positions: where to run next. It is empty where none is open, and that of all
-- positions where none was skipped
abbrev pub open_plan : Setup → List Run → (skipped : List ℕ) → (k : ℕ) → List ℕ
open_plan s runs skipped k = filter_map (open_pick s runs skipped k) (range_with_len 1 k)
