use Rattle.std.proofs.Common.{◌≡◌, ◌++◌, drop}
use Rattle.search_evidence.specs.Kept.{kept_runs}
use Rattle.search_evidence.proofs.runs.evidence_runs.Given as goal

abbrev pub invariant-loop-entry : goal.invariant-loop-entry
invariant-loop-entry l =
    l.runs.items ++ kept_runs l.history l.opening.search l.late (drop l.entry-index l.history)
    ≡ kept_runs l.history l.opening.search l.late l.history
