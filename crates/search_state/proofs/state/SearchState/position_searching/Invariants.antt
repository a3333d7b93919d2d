use Rattle.std.proofs.Common.{◌≡◌, [], take}
use Rattle.farm_rules.specs.Due.{struck}
use Rattle.farm_entry.specs.Setup.{setup_of}
use Rattle.search_state.proofs.Picks.{open_plan_to}
use Rattle.search_state.proofs.state.SearchState.position_searching.Given as goal

-- The picks before this index are written, and none of them is left
abbrev pub invariant-loop-index : goal.invariant-loop-index
invariant-loop-index l = record {
  written :
      take l.index l.plan
      ≡ open_plan_to (setup_of l.self.opening) l.self.runs l.self.skipped l.self.opening.width l.index;
  none : struck (take l.index l.plan) l.outstanding ≡ [];
}
