use Rattle.std.proofs.Common.{◌≡◌, map}
use Rattle.std.specs.List.{range_with_len}
use Rattle.weight_exact.specs.Share.{basis_points}
use Rattle.farm_entry.specs.History.{runs}
use Rattle.farm_entry.specs.Setup.{setup_of}
use Rattle.plain_farm.proofs.pages.shares_of.Given as goal

abbrev pub invariant-loop-before : goal.invariant-loop-before
invariant-loop-before l =
    l.shares.items ≡ map (basis_points (setup_of l.opening) (runs l.history l.opening.search)) (range_with_len 1 l.before)
