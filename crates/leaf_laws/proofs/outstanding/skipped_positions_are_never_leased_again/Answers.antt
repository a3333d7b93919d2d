use Rattle.leaf_laws.proofs.NeverAgain.{due-unskipped, never-again}
use Rattle.leaf_laws.proofs.outstanding.skipped_positions_are_never_leased_again.Goals as goal

pub returns : goal.returns
returns c = record { due = due-unskipped; leases = never-again }
