-- Which tests are listed.
use Rattle.std.specs.Prelude.{◌≡◌, ℕ, Bool, ◌&&◌, ◌||◌, List}
use Rattle.std.specs.BTreeMap.{is_at}
use Rattle.std.specs.Cmp.Lexicographic.{slice_cmp}
use Rattle.std.specs.List.{list_any}
use Rattle.std.specs.Ordering.{nat_cmp}
use Rattle.farm_entry.specs.declared.standing.Standing.{Standing}
use Rattle.rates_report.specs.Noted.{Noted}
use Rattle.rates_report.specs.Tally.{tells}

-- whether a test is among these
abbrev pub is_among : (test : List ℕ) → List (List ℕ) → Bool
is_among test tests = list_any (is_at (slice_cmp nat_cmp test)) tests

-- whether a search of a test, which stands so, tells of another test
abbrev pub tells_at : (own test : List ℕ) → Standing → Bool
tells_at own test s = tells s && is_at (slice_cmp nat_cmp own) test

abbrev pub tells_of : (test : List ℕ) → Noted → Bool
tells_of test n = tells_at n.test test n.standing

-- the tests are those before and the one of a search that stands so, if it tells of it
abbrev pub IsListed : (before after : List (List ℕ)) → (own : List ℕ) → Standing → Type 0
IsListed before after own s = (test : List ℕ) → is_among test after ≡ (tells_at own test s || is_among test before)
