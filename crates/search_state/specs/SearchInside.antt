-- What is kept of a search.
use Rattle.std.specs.Prelude.{◌≡◌, ℕ, ◌+◌, Bool, List, [], length, reverse, None}
use Rattle.flake_rate.specs.declared.bar.Bar.{Bar}
use Rattle.weight_exact.specs.Load.{may_miss}
use Rattle.weight_exact.specs.Weights.{hypotheses}
use Rattle.weight_exact.specs.declared.run.Run.{Run}
use Rattle.posterior.specs.StandsFor.{StandsFor}
use Rattle.threshold_pick.specs.Picks.{open_pick_in}
use Rattle.farm_rules.specs.StandsFor.{StandsFor as StandsForReruns}
use Rattle.farm_rules.specs.Verification.{Verification}
use Rattle.farm_entry.specs.Setup.{setup_of}
use Rattle.farm_entry.specs.declared.opening.Opening.{Opening}
use Rattle.farm_entry.specs.declared.standing.Standing.TheVariants.{Searching, Verifying}
use Rattle.farm_laws.specs.Openings.{OpenWithin}
use Rattle.search_state.specs.SearchView.{SearchView, bar_of, standing_in}
use Rattle.search_state.specs.declared.state.SearchState.TheInside.{Inside}

-- the search that its fields stand for
abbrev pub search_view : Inside → SearchView
search_view s = record {
  opening = s.opening.value;
  runs = reverse s.runs;
  reruns = reverse s.reruns;
  skipped = s.skips;
  is_over = s.is_over;
  is_cancelled = s.is_cancelled;
}

-- a verification is that of a suspect, with so many reruns asked for, and stands for the reruns
pub record IsVerificationOf (v : Verification) (culprit asked : ℕ) (reruns : List Run) : Type 0 where
  pub culprit_is : v.culprit ≡ culprit
  pub asked_is : v.asked ≡ asked
  pub stands : StandsForReruns v reruns

-- the numbers of a search are those of its opening, which is within the limits
pub record IsSetUp (o : Opening) (search width asked suspects : ℕ) (bar : Bar) (misses : Bool) : Type 0 where
  pub within : OpenWithin o
  pub search_is : search ≡ o.search
  pub width_is : width ≡ o.width
  pub asked_is : asked ≡ o.reruns
  pub bar_is : bar ≡ o.bar
  pub suspects_are : suspects + 1 ≡ hypotheses (setup_of o)
  pub misses_is : misses ≡ may_miss (setup_of o).factors

-- the fields are those of the search, and what is kept of its runs and of its reruns stands for them
pub record IsSearch (s : Inside) : Type 0 where
  pub set_up : IsSetUp s.opening.value s.search s.width s.asked s.suspects s.bar s.may_miss
  pub setup : s.belief.setup ≡ setup_of s.opening.value
  pub believed : StandsFor s.belief (reverse s.runs)
  pub counted_is : s.counted ≡ length s.runs
  pub verified_is : s.verified ≡ length s.reruns
  pub standing_is : s.standing ≡ standing_in (search_view s)
  pub none_yet : bar_of (search_view s) ≡ None → s.reruns ≡ []
  pub planned : s.standing ≡ Searching
      → s.first ≡ open_pick_in s.belief.sums s.belief.floor s.skips 1 s.opening.value.width
  pub verified : (culprit : ℕ) → s.standing ≡ Verifying culprit
      → IsVerificationOf s.verification culprit s.asked (reverse s.reruns)
