-- What callers post who let another one ask their batches.
use Rattle.std.specs.Prelude.{◌≤◌, List, length}
use Rattle.std.specs.List.{flat_map}
use Rattle.atomic_table.specs.Seated.{TableId}
use Rattle.farm_store.specs.declared.asking.Ask.{Ask}
use Rattle.farm_store.specs.declared.asking.TheConstants.{MAX_BATCH}
use Rattle.turn_lock.specs.Known.{IsReady}
use Rattle.shared_farm.specs.declared.errand.Errand.{Errand}

-- a batch that may be asked for the one whose pass it has
pub record IsErrand (lock : TableId) (errand : Errand) : Type 0 where
  pub ready : IsReady lock errand.pass
  pub some : 1 ≤ length errand.asks.items
  pub few : length errand.asks.items ≤ MAX_BATCH

-- what all errands ask, one after the other
abbrev pub errands_asks : List Errand → List Ask
errands_asks errands = flat_map (λ errand. errand.asks.items) errands
