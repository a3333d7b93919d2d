use Rattle.std.proofs.Common.{◌≡◌, take}
use Rattle.std.specs.List.{filter_map}
use Rattle.farm_entry.specs.History.{openings}
use Rattle.farm_entry.specs.Orders.{confirmed_at}
use Rattle.farm_entry.specs.Standing.{standing}
use Rattle.plain_farm.proofs.orders.confirmed_by.Given as goal

abbrev pub invariant-loop-entry : goal.invariant-loop-entry
invariant-loop-entry l =
    l.found.items ≡ filter_map (λ o. confirmed_at (standing l.history o) o) (openings (take l.entry-index l.history))
