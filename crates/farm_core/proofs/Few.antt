-- A legal history has few runs, so that their numbers fit.
use Rattle.std.proofs.Common.{◌≤◌, List, length, refl}
use Rattle.farm_entry.specs.History.{all_leases, lease_in}
use Rattle.farm_entry.specs.Legal.{IsLegal}
use Rattle.farm_entry.specs.declared.entry.Entry.{Entry}
use Rattle.farm_entry.specs.declared.limits.TheConstants.{MAX_ENTRIES}
use Rattle.farm_laws.proofs.Bounds.{parts-bounded}

pub few_leases : (H : List Entry) → IsLegal H → length (all_leases H) ≤ MAX_ENTRIES
few_leases H legal = parts-bounded lease_in H refl legal
