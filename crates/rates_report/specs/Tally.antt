-- What a history tells of how often its tests fail where they should pass.
use Rattle.std.specs.Prelude.{◌≡◌, ℕ, ◌+◌, ◌*◌, ◌/◌, nat_le, nat_lt, Bool, true, false, ◌&&◌, List, [], ◌∷◌, ◌++◌, filter, length, map, max, count_by, if◌then◌else◌, Option, Some, None}
use Rattle.std.specs.Cmp.Lexicographic.{slice_cmp}
use Rattle.std.specs.FinMap.{from_entries, keys}
use Rattle.std.specs.List.{sum_by}
use Rattle.std.specs.Option.{option_map}
use Rattle.std.specs.Ordering.{nat_cmp}
use Rattle.std.specs.Str.{bytes_eq}
use Rattle.flake_rate.specs.Divisor.{gcd}
use Rattle.flake_rate.specs.declared.rate.TheConstants.Rate as Rate
use Rattle.weight_exact.specs.Load.{is_fail}
use Rattle.weight_exact.specs.declared.run.Run.{Run}
use Rattle.farm_entry.specs.History.{lease_of, opening_numbered, openings, reruns, runs}
use Rattle.farm_entry.specs.Standing.{standing}
use Rattle.farm_entry.specs.declared.entry.Entry.{Entry}
use Rattle.farm_entry.specs.declared.entry.What.{What}
use Rattle.farm_entry.specs.declared.entry.What.TheVariants.{Opened, Reported, Skipped, Cancelled}
use Rattle.farm_entry.specs.declared.opening.Opening.{Opening}
use Rattle.farm_entry.specs.declared.standing.Standing.{Standing}
use Rattle.farm_entry.specs.declared.standing.Standing.TheVariants.{Confirmed, NoCulprit}

-- whether a search that stands so says which of its runs were made at sound trees
abbrev pub tells : Standing → Bool
tells NoCulprit = true
tells (Confirmed culprit) = true
tells _ = false

-- whether a run was made below a position, so without the suspect there
abbrev pub is_below : (position : ℕ) → Run → Bool
is_below position r = nat_lt r.position position

abbrev pub failed : Run → Bool
failed r = is_fail r.verdict

abbrev pub failed_below : (position : ℕ) → Run → Bool
failed_below position r = is_below position r && failed r

-- the runs that were made at sound trees: all of them where there is no culprit; those below the culprit, reruns among
-- them, where one is confirmed; else it isn't known of any
abbrev pub sound_runs : Standing → (rs again : List Run) → List Run
sound_runs NoCulprit rs again = rs
sound_runs (Confirmed culprit) rs again = filter (is_below culprit) rs ++ filter (is_below culprit) again
sound_runs _ rs again = []

-- those of a search in a history
abbrev pub sound_runs_of : List Entry → Opening → List Run
sound_runs_of H o = sound_runs (standing H o) (runs H o.search) (reruns H o.search)

-- the searches of a test
abbrev pub searches_of : List Entry → (test : List ℕ) → List Opening
searches_of H test = filter (λ o. bytes_eq o.test test) (openings H)

-- how often a test failed at sound trees, and in how many runs, over all its searches
abbrev pub tally : List Entry → (test : List ℕ) → ℕ × ℕ
tally H test = (
  sum_by (λ o. count_by failed (sound_runs_of H o)) (searches_of H test),
  sum_by (λ o. length (sound_runs_of H o)) (searches_of H test),
)

-- the rate that is offered for a tally: one fail and one pass more, as Laplace's rule of succession supposes; in
-- thousandths, rounded down but to no less than one, where the number of runs is too great for a rate
abbrev pub offered : (fails runs : ℕ) → ℕ × ℕ
offered fails runs =
    if nat_le (runs + 2) Rate.MAX_DENOMINATOR then (fails + 1, runs + 2)
    else (max ((fails + 1) * Rate.MAX_DENOMINATOR / (runs + 2)) 1, Rate.MAX_DENOMINATOR)

-- it, as a fraction in lowest terms
abbrev pub lowest : ℕ × ℕ → ℕ × ℕ
lowest offer = (offer.0 / gcd offer.0 offer.1, offer.1 / gcd offer.0 offer.1)

-- the rate that is offered for a test of a history
abbrev pub rate_offered : List Entry → (test : List ℕ) → ℕ × ℕ
rate_offered H test = lowest (offered (tally H test).0 (tally H test).1)

-- the tests of the searches that tell, in the order of the openings
abbrev pub told_tests : List Entry → List (List ℕ)
told_tests H = map (λ o. o.test) (filter (λ o. tells (standing H o)) (openings H))

-- each of them once, in the order of their bytes
abbrev pub tests_of : List Entry → List (List ℕ)
tests_of H = keys (from_entries {R = slice_cmp nat_cmp} (map (λ t. (t, tt {0})) (told_tests H)))

-- the number of the search that an entry opens, reports a run of, with a verdict or not, or cancels
abbrev pub search_in : List Entry → What → Option ℕ
search_in H (Opened o) = Some o.search
search_in H (Reported run verdict _) = option_map (λ l. l.search) (lease_of H run)
search_in H (Skipped run _) = option_map (λ l. l.search) (lease_of H run)
search_in H (Cancelled key search) = Some search
search_in H what = None

-- that search, if there is one, stands so after the entry
abbrev pub StandsAfter : List Entry → Entry → Standing → Type 0
StandsAfter H e s =
    (search : ℕ) (o : Opening) → search_in H e.what ≡ Some search → opening_numbered (H ++ e ∷ []) search ≡ Some o
    → standing (H ++ e ∷ []) o ≡ s
