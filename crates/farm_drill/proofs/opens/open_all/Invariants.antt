use Rattle.std.proofs.Common.{◌≡◌, []}
use Rattle.drill_plan.specs.Start.{IsStart}
use Rattle.farm_drill.proofs.opens.open_all.Given as goal

abbrev pub invariant-loop-before : goal.invariant-loop-before
invariant-loop-before l = record {
  start : IsStart l.before l.store.history;
  decided : l.store.pending ≡ [];
}
