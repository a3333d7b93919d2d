use Rattle.std.proofs.Common.{◌≡◌, map}
use Rattle.std.specs.List.{range_with_len}
use Rattle.weight_exact.specs.Share.{basis_points}
use Rattle.farm_entry.specs.Setup.{setup_of}
use Rattle.search_state.proofs.state.SearchState.shares.Given as goal

abbrev pub invariant-loop-before : goal.invariant-loop-before
invariant-loop-before l =
    l.shares.items ≡ map (basis_points (setup_of l.self.opening) l.self.runs) (range_with_len 1 l.before)
