use Rattle.std.proofs.Common.{◌≡◌}
use Rattle.std.specs.List.{filter_map, range_with_len}
use Rattle.threshold_pick.specs.Open.{open_pick}
use Rattle.farm_entry.specs.History.{runs}
use Rattle.farm_entry.specs.Setup.{setup_of}
use Rattle.plain_farm.proofs.due_run.plan_of.Given as goal

abbrev pub invariant-loop-before : goal.invariant-loop-before
invariant-loop-before l =
    l.positions.items
    ≡ filter_map (open_pick (setup_of l.opening) (runs l.history l.opening.search) l.skips l.opening.width)
    (range_with_len 1 l.before)
