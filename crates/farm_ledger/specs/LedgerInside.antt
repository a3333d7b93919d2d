-- How a ledger is kept.
use Rattle.farm_entry.specs.Legal.{IsLegal}
use Rattle.farm_ledger.specs.Waiting.{AreLowest}
use Rattle.farm_ledger.specs.declared.ledger.Ledger.TheInside.{Inside}

-- the history is legal, and beside each entry it is kept how many searches stood before the first that waited for an
-- order
pub record IsLedger (s : Inside) : Type 0 where
  pub legal : IsLegal s.register
  pub lows : AreLowest s.register s.lows.items
