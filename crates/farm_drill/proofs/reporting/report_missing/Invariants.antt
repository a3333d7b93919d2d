use Rattle.std.proofs.Common.{◌≡◌, [], true, take, All, None}
use Rattle.common_types.specs.Prefix.{IsPrefix}
use Rattle.farm_types.specs.declared.key.Key.{Key}
use Rattle.farm_entry.specs.History.{all_leases, is_reported, place_of_key}
use Rattle.farm_entry.specs.Legal.{IsLegal}
use Rattle.farm_entry.specs.declared.lease.LeasedRun.{LeasedRun}
use Rattle.shared_farm.specs.Rests.{IsByCommands}
use Rattle.farm_drill.specs.Planned.{GoesByPlan}
use Rattle.farm_drill.proofs.reporting.report_missing.Given as goal

abbrev pub invariant-loop-lease : goal.invariant-loop-lease
invariant-loop-lease l = record {
  decided : l.store.pending ≡ [];
  legal : IsLegal l.store.history;
  by_commands : IsByCommands l.store.history;
  planned : GoesByPlan l.store.history;
  longer : IsPrefix l.fn.store.history l.store.history;
  leases : all_leases l.store.history ≡ all_leases l.fn.store.history;
  keys : (key : Key) → place_of_key l.fn.store.history key ≡ None → place_of_key l.store.history key ≡ None;
  reported : All (λ (r : LeasedRun). is_reported l.store.history r.run ≡ true) (take l.lease-index l.lease-items);
}
