use Rattle.std.proofs.Common.{◌≡◌, drop}
use Rattle.std.specs.List.{list_any}
use Rattle.farm_entry.specs.Closing.{has_active}
use Rattle.farm_entry.specs.History.{openings}
use Rattle.farm_entry.specs.Standing.{is_active, standing}
use Rattle.plain_farm.proofs.closing.has_active_by.Given as goal

abbrev pub invariant-loop-entry : goal.invariant-loop-entry
invariant-loop-entry l =
    list_any (λ o. is_active (standing l.history o)) (openings (drop l.entry-index l.history)) ≡ has_active l.history
