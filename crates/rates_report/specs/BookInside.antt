-- How the book keeps a history.
use Rattle.std.specs.Prelude.{◌≡◌, ℕ, ◌⊎◌, List, [], reverse}
use Rattle.std.specs.BTreeSet.{keys}
use Rattle.std.specs.List.{list_any}
use Rattle.farm_entry.specs.History.{all_leases}
use Rattle.farm_entry.specs.Legal.{IsLegal}
use Rattle.farm_entry.specs.declared.entry.Entry.{Entry}
use Rattle.farm_entry.specs.declared.lease.LeasedRun.{LeasedRun}
use Rattle.rates_report.specs.Listed.{is_among, tells_of}
use Rattle.rates_report.specs.Noted.{Noted, all_noted}
use Rattle.rates_report.specs.declared.book.FlakeBook.TheInside.{Inside}

-- a history is empty or legal, leases and searches are what it holds, and a test is among some where a search tells of
-- it
pub record AreKept (H : List Entry) (leases : List LeasedRun) (searches : List Noted) (tests : List (List ℕ)) : Type 0 where
  pub legal : (H ≡ []) ⊎ IsLegal H
  pub leases_are : leases ≡ all_leases H
  pub searches_are : searches ≡ all_noted H
  pub tests_are : (test : List ℕ) → is_among test tests ≡ list_any (tells_of test) searches

abbrev pub IsFlakeBook : Inside → Type 0
IsFlakeBook b = AreKept (reverse b.noted) b.leases.items b.searches.items (keys b.tests)
