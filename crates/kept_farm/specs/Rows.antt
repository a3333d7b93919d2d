-- What is kept beside an entry: what is counted up to it, and where its search stood then.
use Rattle.std.specs.Prelude.{ℕ, ◌≤◌, List}
use Rattle.farm_entry.specs.Pages.{totals}
use Rattle.farm_entry.specs.declared.entry.Entry.{Entry}
use Rattle.farm_entry.specs.declared.limits.TheConstants.{MAX_ENTRIES, MAX_SEARCHES}
use Rattle.farm_entry.specs.declared.reply.Totals.{Totals}
use Rattle.farm_entry.specs.declared.standing.Standing.{Standing}
use Rattle.kept_farm.specs.Changes.{last_standing}
use Rattle.kept_farm.specs.declared.row.Row.{Row}

-- the row of what is counted, and of where a search stands
abbrev pub row_with : Totals → Standing → Row
row_with t s = record {
  counted = t.counted;
  orders = t.orders;
  searches = t.searches;
  searching = t.searching;
  verifying = t.verifying;
  confirmed = t.confirmed;
  ended = t.ended;
  standing = s;
}

-- the row of the last entry
abbrev pub row_of : List Entry → Row
row_of H = row_with (totals H) (last_standing H)

-- what is counted of so many entries, by the row of the last one
abbrev pub totals_in : (entries : ℕ) → Row → Totals
totals_in entries r = record {
  entries = entries;
  searches = r.searches;
  searching = r.searching;
  verifying = r.verifying;
  confirmed = r.confirmed;
  ended = r.ended;
  counted = r.counted;
  orders = r.orders;
}

-- what is counted is within the limits of a farm
pub record AreSmall (t : Totals) : Type 0 where
  pub searches : t.searches ≤ MAX_SEARCHES
  pub searching : t.searching ≤ MAX_SEARCHES
  pub verifying : t.verifying ≤ MAX_SEARCHES
  pub confirmed : t.confirmed ≤ MAX_SEARCHES
  pub ended : t.ended ≤ MAX_SEARCHES
  pub counted : t.counted ≤ MAX_ENTRIES
  pub orders : t.orders ≤ MAX_ENTRIES
