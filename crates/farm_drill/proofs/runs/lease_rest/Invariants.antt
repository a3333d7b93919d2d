use Rattle.std.proofs.Common.{◌≡◌, ◌∷◌, ◌-◌, [], length}
use Rattle.common_types.specs.Prefix.{IsPrefix}
use Rattle.farm_entry.specs.Legal.{IsLegal}
use Rattle.farm_entry.specs.declared.limits.TheConstants.{MAX_ENTRIES}
use Rattle.drill_plan.specs.Start.{drill_founding}
use Rattle.shared_farm.specs.Rests.{IsByCommands}
use Rattle.farm_drill.specs.Ends.{AllReported}
use Rattle.farm_drill.specs.Free.{AreFree}
use Rattle.farm_drill.specs.Planned.{GoesByPlan}
use Rattle.farm_drill.proofs.runs.lease_rest.Given as goal

abbrev pub invariant-loop-key : goal.invariant-loop-key
invariant-loop-key l = record {
  decided : l.store.pending ≡ [];
  founded : IsPrefix (drill_founding ∷ []) l.store.history;
  legal : IsLegal l.store.history;
  by_commands : IsByCommands l.store.history;
  planned : GoesByPlan l.store.history;
  reported : AllReported l.store.history;
  longer : IsPrefix l.fn.store.history l.store.history;
  free : AreFree l.store.history l.keys;
}

abbrev pub decreases-loop-key : goal.decreases-loop-key
decreases-loop-key l = MAX_ENTRIES - length l.store.history
