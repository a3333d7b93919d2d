-- What a batch came to that shares its record, and so an errand.
use Rattle.std.specs.Prelude.{◌≡◌, ℕ, List, Result}
use Rattle.atomic_table.specs.Seated.{TableId}
use Rattle.farm_entry.specs.declared.answer.Answer.{Answer}
use Rattle.farm_store.specs.declared.asking.Ask.{Ask}
use Rattle.farm_store.specs.declared.asking.CallFault.{CallFault}
use Rattle.turn_lock.specs.Known.{Known}
use Rattle.shared_farm.specs.Logs.{IsOver}
use Rattle.shared_farm.specs.Turns.{AreOwn, IsTurn, KeepsPass}
use Rattle.shared_farm.specs.declared.errand.Errand.{Errand}
use Rattle.shared_farm.specs.declared.errand.ErrandOutcome.{ErrandOutcome}

-- all that a caller knows of a batch that was asked for it at one turn
pub record HadTurn {D : Type 0} (count : D → ℕ) (lock : TableId) (asks : List Ask)
    (result : Result (List Answer) CallFault) (old new : Known) : Type 0 where
  pub turn : IsTurn count asks result old new
  pub own : AreOwn old new
  pub keeps : KeepsPass lock old new

-- the batch was asked at a turn of its caller's pass, and the moment is one by which all that the pass has seen stood
pub record IsDone {D O : Type 0} (count : D → ℕ) (at : O → ℕ) (lock : TableId) (errand : Errand)
    (outcome : ErrandOutcome O) :
    Type 0 where
  pub asks : outcome.asks.items ≡ errand.asks.items
  pub had : HadTurn count lock errand.asks.items outcome.result errand.pass outcome.pass
  pub over : IsOver (at outcome.over) outcome.pass
