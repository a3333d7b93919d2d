use Rattle.farm_laws.proofs.OutBounds.{outstanding-few, search_leases-few, verify_leases-few}
use Rattle.farm_laws.proofs.searches.few_runs_are_out.Goals as goal

pub returns : goal.returns
returns c = record { searching = search_leases-few; verifying = verify_leases-few; outstanding = outstanding-few }
