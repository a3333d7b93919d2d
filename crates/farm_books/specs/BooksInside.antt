-- How a legal history is kept.
use Rattle.farm_entry.specs.Legal.{IsLegal}
use Rattle.farm_books.specs.Kept.{AreKeys, AreLeases, AreReports}
use Rattle.farm_books.specs.declared.books.Books.TheInside.{Inside}

-- the entries are a legal history, and what is kept beside them is theirs
pub record AreBooks (s : Inside) : Type 0 where
  pub legal : IsLegal s.entries.items
  pub keys : AreKeys s.entries.items s.inbox.keys
  pub reports : AreReports s.entries.items s.inbox.runs
  pub leases : AreLeases s.entries.items s.leases.leases
