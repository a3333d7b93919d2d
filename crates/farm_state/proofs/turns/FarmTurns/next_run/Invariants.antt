use Rattle.std.proofs.Common.{◌++◌, length}
use Rattle.farm_types.specs.Moment.{moment_ms}
use Rattle.farm_state.specs.TurnOrder.{from_on}
use Rattle.farm_state.specs.Walking.{IsAt}
use Rattle.farm_state.proofs.turns.FarmTurns.next_run.Given as goal

abbrev pub invariant-loop-search : goal.invariant-loop-search
invariant-loop-search l =
    IsAt l.self-inside.state (moment_ms l.moment) (l.self-inside.active.never ++ l.self-inside.active.leased) l.search

abbrev pub decreases-loop-search : goal.decreases-loop-search
decreases-loop-search l = length (from_on l.search (l.self-inside.active.never ++ l.self-inside.active.leased))
