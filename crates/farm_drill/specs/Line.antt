-- The line that a drill writes: the numbers of its farm's history.
use Rattle.std.specs.Prelude.{ℕ, ◌+◌, ◌<◌, Bool, true, false, not, ◌&&◌, List, ◌++◌, codes, count_by, decimal}
use Rattle.farm_entry.specs.Pages.{searches_that, totals}
use Rattle.farm_entry.specs.Standing.{is_confirmed, standing}
use Rattle.farm_entry.specs.declared.entry.Entry.{Entry}
use Rattle.farm_entry.specs.declared.opening.Opening.{Opening}
use Rattle.farm_entry.specs.declared.standing.Standing.{Standing}
use Rattle.farm_entry.specs.declared.standing.Standing.TheVariants.{Confirmed, NoCulprit}
use Rattle.farm_drill.specs.declared.line.Tally.{Tally}

-- whether a search has ended with no culprit
abbrev pub is_no_culprit : Standing → Bool
is_no_culprit NoCulprit = true
is_no_culprit _ = false

-- whether it stands otherwise than with a confirmed culprit or none
abbrev pub is_other : Standing → Bool
is_other s = not (is_confirmed s) && not (is_no_culprit s)

-- the searches of a list, by where they stand
abbrev pub tally_of : List Entry → List Opening → Tally
tally_of H os = record {
  confirmed = count_by (λ o. is_confirmed (standing H o)) os;
  no_culprit = count_by (λ o. is_no_culprit (standing H o)) os;
  other = count_by (λ o. is_other (standing H o)) os;
}

-- one search more that stands so
abbrev pub tally_with : Tally → Standing → Tally
tally_with t (Confirmed culprit) = record { confirmed = t.confirmed + 1; no_culprit = t.no_culprit; other = t.other }
tally_with t NoCulprit = record { confirmed = t.confirmed; no_culprit = t.no_culprit + 1; other = t.other }
tally_with t _ = record { confirmed = t.confirmed; no_culprit = t.no_culprit; other = t.other + 1 }

-- fewer searches than a limit are counted
pub record IsBelow (limit : ℕ) (t : Tally) : Type 0 where
  pub confirmed : t.confirmed < limit
  pub no_culprit : t.no_culprit < limit
  pub other : t.other < limit

-- the line of these numbers, without its line feed: searches, those of each standing, and orders
abbrev pub numbers_line : (searches confirmed no_culprit other orders : ℕ) → List ℕ
numbers_line searches confirmed no_culprit other orders =
    codes "searches " ++ (decimal searches ++ (codes " confirmed " ++ (decimal confirmed
    ++ (codes " no-culprit " ++ (decimal no_culprit ++ (codes " other " ++ (decimal other
    ++ (codes " orders " ++ decimal orders))))))))

-- the line of a history
abbrev pub drill_line : List Entry → List ℕ
drill_line H =
    numbers_line (totals H).searches (searches_that is_confirmed H) (searches_that is_no_culprit H)
    (searches_that is_other H) (totals H).orders ++ codes "\n"
