use Rattle.std.proofs.Common.{◌≡◌, take}
use Rattle.std.specs.List.{filter_map}
use Rattle.farm_types.specs.Moment.{moment_ms}
use Rattle.farm_entry.specs.Due.{due}
use Rattle.farm_entry.specs.History.{openings}
use Rattle.plain_farm.proofs.due_run.due_runs_by.Given as goal

abbrev pub invariant-loop-entry : goal.invariant-loop-entry
invariant-loop-entry l = l.found.items ≡ filter_map (λ o. due l.history o (moment_ms l.moment)) (openings (take l.entry-index l.history))
