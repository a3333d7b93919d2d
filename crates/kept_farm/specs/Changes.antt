-- What an entry changes: where one search stands, and by it what is counted of a farm.
use Rattle.std.specs.Prelude.{◌≡◌, ℕ, ◌+◌, ◌-◌, ◌≤◌, Bool, false, cond, is_some, List, length, slice_get, Option, Some, None}
use Rattle.std.specs.Option.{option_and_then, option_map, unwrap_or}
use Rattle.farm_entry.specs.History.{is_counted, lease_of, opening_in, opening_numbered, order_in}
use Rattle.farm_entry.specs.Pages.{is_ended_otherwise}
use Rattle.farm_entry.specs.Standing.{is_confirmed, is_searching, is_verifying, standing}
use Rattle.farm_entry.specs.declared.entry.Entry.{Entry}
use Rattle.farm_entry.specs.declared.entry.What.{What}
use Rattle.farm_entry.specs.declared.entry.What.TheVariants.{Opened, Reported, Skipped, Cancelled}
use Rattle.farm_entry.specs.declared.limits.TheConstants.{MAX_ENTRIES}
use Rattle.farm_entry.specs.declared.reply.Totals.{Totals}
use Rattle.farm_entry.specs.declared.standing.Standing.{Standing}
use Rattle.farm_entry.specs.declared.standing.Standing.TheVariants.{Searching}

-- One search.

-- the number of the search that an entry opens, reports a run of or cancels
abbrev pub search_in : List Entry → What → Option ℕ
search_in H (Opened o) = Some o.search
search_in H (Reported run verdict _) = option_map (λ l. l.search) (lease_of H run)
search_in H (Skipped run _) = option_map (λ l. l.search) (lease_of H run)
search_in H (Cancelled key search) = Some search
search_in H what = None

-- where a search stands, if there is one and it was opened
abbrev pub standing_of : List Entry → Option ℕ → Option Standing
standing_of H search = option_and_then (λ n. option_map (standing H) (opening_numbered H n)) search

-- where the search stands that an entry is about, if it is about one
abbrev pub standing_in : List Entry → What → Option Standing
standing_in H what = standing_of H (search_in H what)

-- where the search stands that the last entry is about, and else "searching", which nobody reads
abbrev pub last_standing : List Entry → Standing
last_standing H =
    unwrap_or (option_and_then (λ e. standing_in H e.what) (slice_get H (length H - 1))) Searching

-- What is counted.

abbrev pub one_if : Bool → ℕ
one_if b = cond b 1 0

-- one for a search that stands so, if there is one
abbrev pub one_that : (Standing → Bool) → Option Standing → ℕ
one_that test None = 0
one_that test (Some s) = one_if (test s)

-- whether an entry is a report that counts
abbrev pub counts_in : What → Bool
counts_in (Reported run verdict fate) = is_counted fate
counts_in what = false

-- what is counted with an entry appended, where each search is still counted as it stood before
abbrev pub with_entry : Totals → What → Totals
with_entry t what = record {
  entries = t.entries + 1;
  searches = t.searches + one_if (is_some (opening_in what));
  searching = t.searching;
  verifying = t.verifying;
  confirmed = t.confirmed;
  ended = t.ended;
  counted = t.counted + one_if (counts_in what);
  orders = t.orders + one_if (is_some (order_in what));
}

-- what an entry adds to has room for one more
pub record AreFew (t : Totals) : Type 0 where
  pub entries : t.entries ≤ MAX_ENTRIES
  pub searches : t.searches ≤ MAX_ENTRIES
  pub counted : t.counted ≤ MAX_ENTRIES
  pub orders : t.orders ≤ MAX_ENTRIES

-- a count of the searches that stand so has room for one more, and a search that stood so before is counted, unless it
-- stands so now as well
pub record MayMove (test : Standing → Bool) (count : ℕ) (before after : Option Standing) : Type 0 where
  pub few : count ≤ MAX_ENTRIES
  pub counted : one_that test before ≤ count + one_that test after

pub record CanMove (t : Totals) (before after : Option Standing) : Type 0 where
  pub searching : MayMove is_searching t.searching before after
  pub verifying : MayMove is_verifying t.verifying before after
  pub confirmed : MayMove is_confirmed t.confirmed before after
  pub ended : MayMove is_ended_otherwise t.ended before after

-- a count of the searches that stand so, where one stood so before, if it did, and stands so now, if it does
abbrev pub IsMoved : (test : Standing → Bool) → (count next : ℕ) → (before after : Option Standing) → Type 0
IsMoved test count next before after = next + one_that test before ≡ count + one_that test after

-- what is counted once a search moved, if one did
pub record HasMoved (t next : Totals) (before after : Option Standing) : Type 0 where
  pub entries : next.entries ≡ t.entries
  pub searches : next.searches ≡ t.searches
  pub searching : IsMoved is_searching t.searching next.searching before after
  pub verifying : IsMoved is_verifying t.verifying next.verifying before after
  pub confirmed : IsMoved is_confirmed t.confirmed next.confirmed before after
  pub ended : IsMoved is_ended_otherwise t.ended next.ended before after
  pub counted : next.counted ≡ t.counted
  pub orders : next.orders ≡ t.orders
