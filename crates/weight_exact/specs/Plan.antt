-- Where to run next: at the positions nearest to evenly spaced thresholds of the cumulative weight.
use Rattle.std.specs.Prelude.{ℕ, zero, suc, ◌+◌, ◌*◌, ◌-◌, ◌<◌, ◌≤◌, List, [], ◌∷◌, ◌++◌, nat_lt, if◌then◌else◌}
use Rattle.std.specs.Int.{abs_diff}
use Rattle.weight_exact.specs.Weights.{Setup, cumulative, total, suspects}
use Rattle.weight_exact.specs.Load.{floor}
use Rattle.weight_exact.specs.declared.run.Run.{Run}

-- how far a cumulative weight is from the threshold j/(k + 1) of the whole, times k + 1
abbrev pub distance : (whole j k : ℕ) → ℕ → ℕ
distance whole j k sum = abs_diff (sum * (k + 1)) (j * whole)

-- i is the position above the floor and up to n with the least distance, the smaller one on a tie
pub record IsNearest (away : ℕ → ℕ) (low n i : ℕ) : Type 0 where
  pub above : low < i
  pub within : i ≤ n
  pub least : (q : ℕ) → low < q → q ≤ n → away i ≤ away q
  pub smaller : (q : ℕ) → low < q → q < i → away i < away q

-- that position, among the first `more` + 1 above the floor
abbrev pub nearest : (ℕ → ℕ) → ℕ → ℕ → ℕ
nearest away low zero = low + 1
nearest away low (suc more) =
    let best = nearest away low more in
    let next = low + 1 + suc more in
    if nat_lt (away next) (away best) then next else best

-- the j-th of k positions to run next
abbrev pub pick : Setup → List Run → ℕ → ℕ → ℕ
pick s runs k j =
    let low = floor s.factors runs in
    nearest (λ i. distance (total s runs) j k (cumulative s runs i)) low (suspects s - low - 1)

-- the first j of the k positions
abbrev pub picks : Setup → List Run → ℕ → ℕ → List ℕ
picks s runs k zero = []
picks s runs k (suc j) = picks s runs k j ++ pick s runs k (suc j) ∷ []

-- the plan of width k: where to run next
abbrev pub plan : Setup → List Run → ℕ → List ℕ
plan s runs k = picks s runs k k
