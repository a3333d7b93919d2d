-- What a drill comes to, from its parts.
use Rattle.std.proofs.Common.{◌≡◌, ◌⊎◌, ◌++◌, ℕ, List}
use Rattle.common_types.specs.Prefix.{IsPrefix}
use Rattle.farm_entry.specs.Legal.{IsLegal}
use Rattle.farm_entry.specs.declared.entry.Entry.{Entry}
use Rattle.drill_plan.specs.Start.{IsStart}
use Rattle.farm_drill.specs.Drilled.{IsDrilled}
use Rattle.farm_drill.specs.Ends.{AreOrders, AreRun, IsFull, RevertsEnded}
use Rattle.farm_drill.specs.Planned.{GoesByPlan}
use Rattle.farm_drill.proofs.Growing.{prefix-trans}
use Rattle.farm_drill.proofs.Planned.{orders-go}

pub drilled : (n : ℕ) (start left ended new : List Entry) → IsStart n start → IsPrefix start left → IsPrefix left ended
    → IsFull ended ⊎ AreRun ended → ((orders : List Entry) × AreOrders orders × (new ≡ ended ++ orders))
    → RevertsEnded new
    → IsLegal new → GoesByPlan ended → IsDrilled n new
drilled n start left ended new opened first second runs orders reverts legal goes = record {
  legal = legal;
  start = start;
  opened = opened;
  begins = prefix-trans start ended new (prefix-trans start left ended first second) (orders.0, orders.2);
  planned = orders-go ended orders.0 new orders.2 orders.1 goes;
  runs = record { runs = ended; orders = orders.0; is = orders.2; only = orders.1; ended = runs };
  reverts = reverts;
}
