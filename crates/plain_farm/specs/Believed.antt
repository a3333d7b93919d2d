-- What a belief says, where it is that of a search of a legal history.
use Rattle.std.specs.Prelude.{◌≡◌, List, Contains}
use Rattle.posterior.specs.Kept.{Kept}
use Rattle.posterior.specs.StandsFor.{StandsFor}
use Rattle.farm_entry.specs.History.{openings, runs}
use Rattle.farm_entry.specs.Legal.{IsLegal}
use Rattle.farm_entry.specs.Setup.{setup_of}
use Rattle.farm_entry.specs.declared.entry.Entry.{Entry}
use Rattle.farm_entry.specs.declared.opening.Opening.{Opening}

-- a belief stands for the runs of a search that a legal history opened
pub record IsBelieved (H : List Entry) (o : Opening) (k : Kept) : Type 0 where
  pub legal : IsLegal H
  pub opened : Contains (openings H) o
  pub setup : k.setup ≡ setup_of o
  pub runs : StandsFor k (runs H o.search)
