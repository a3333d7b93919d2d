-- What the history of a whole drill is.
use Rattle.std.specs.Prelude.{ℕ, List}
use Rattle.common_types.specs.Prefix.{IsPrefix}
use Rattle.farm_entry.specs.Legal.{IsLegal}
use Rattle.farm_entry.specs.declared.entry.Entry.{Entry}
use Rattle.drill_plan.specs.Start.{IsStart}
use Rattle.farm_drill.specs.Ends.{RevertsEnded, RunsEnded}
use Rattle.farm_drill.specs.Planned.{GoesByPlan}

-- A history is that of a drill of so many searches: legal, it begins with the founding and the opens of the plan, each
-- report says of its run what the plan does, and it is played until no run and no revert is left.
pub record IsDrilled (searches : ℕ) (H : List Entry) : Type 0 where
  pub legal : IsLegal H
  pub start : List Entry
  pub opened : IsStart searches start
  pub begins : IsPrefix start H
  pub planned : GoesByPlan H
  pub runs : RunsEnded H
  pub reverts : RevertsEnded H
