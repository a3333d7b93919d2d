-- When a belief has room for each of its runs as it is told them.
use Rattle.std.specs.Prelude.{ℕ, ◌≤◌, List, length, take}
use Rattle.weight_exact.specs.Budget.{run_budget}
use Rattle.weight_exact.specs.Load.{load}
use Rattle.weight_exact.specs.Weights.{Setup}
use Rattle.weight_exact.specs.declared.run.Run.{Run}

-- each beginning of a list of runs is within the budget
abbrev pub LoadsFit : Setup → List Run → Type 0
LoadsFit s runs = (k : ℕ) → k ≤ length runs → load s.factors (take k runs) ≤ run_budget s
