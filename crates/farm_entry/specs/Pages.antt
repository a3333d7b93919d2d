-- What is shown of a farm.
use Rattle.std.specs.Prelude.{ℕ, Bool, not, ◌&&◌, List, length, map, filter, count_by}
use Rattle.std.specs.List.{range_with_len}
use Rattle.threshold_pick.specs.Open.{is_skipped}
use Rattle.weight_exact.specs.Share.{basis_points}
use Rattle.weight_exact.specs.Weights.{hypotheses}
use Rattle.farm_entry.specs.History.{is_counted, leases, openings, order_lines, reports, reruns, runs, skipped}
use Rattle.farm_entry.specs.Setup.{budget_of_search, setup_of}
use Rattle.farm_entry.specs.Standing.{is_active, is_confirmed, is_searching, is_verifying, named_commit, standing}
use Rattle.farm_entry.specs.declared.entry.Entry.{Entry}
use Rattle.farm_entry.specs.declared.opening.Opening.{Opening}
use Rattle.farm_entry.specs.declared.reply.SearchPage.{SearchPage}
use Rattle.farm_entry.specs.declared.reply.Totals.{Totals}
use Rattle.farm_entry.specs.declared.standing.Standing.{Standing}

-- the shares of all hypotheses of a search in basis points, that of "no culprit" last
abbrev pub shares_of : List Entry → Opening → List ℕ
shares_of H o =
    map (basis_points (setup_of o) (runs H o.search)) (range_with_len 1 (hypotheses (setup_of o)))

-- the positions of a search that were skipped, rising, each once. Position 0 is the base
abbrev pub untestable_of : List Entry → Opening → List ℕ
untestable_of H o = filter (is_skipped (skipped H o.search)) (range_with_len 0 (hypotheses (setup_of o)))

-- what is shown of a search
abbrev pub page_of : List Entry → Opening → SearchPage
page_of H o = record {
  search = o.search;
  test = o.test;
  budget = budget_of_search o;
  leases = length (leases H o.search);
  counted = length (runs H o.search);
  verified = length (reruns H o.search);
  standing = standing H o;
  commit = named_commit o (standing H o);
  shares = shares_of H o;
  untestable = untestable_of H o;
}

-- how many searches stand so
abbrev pub searches_that : (Standing → Bool) → List Entry → ℕ
searches_that test H = count_by (λ o. test (standing H o)) (openings H)

-- whether a search has ended in another way than with a confirmed culprit
abbrev pub is_ended_otherwise : Standing → Bool
is_ended_otherwise s = not (is_active s) && not (is_confirmed s)

-- what is counted of a farm
abbrev pub totals : List Entry → Totals
totals H = record {
  entries = length H;
  searches = length (openings H);
  searching = searches_that is_searching H;
  verifying = searches_that is_verifying H;
  confirmed = searches_that is_confirmed H;
  ended = searches_that is_ended_otherwise H;
  counted = count_by (λ r. is_counted r.fate) (reports H);
  orders = length (order_lines H);
}
