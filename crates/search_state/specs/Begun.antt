-- What follows of the belief of a search that has no reruns, and of the positions that were skipped.
use Rattle.std.specs.Prelude.{◌≡◌, ℕ, ◌+◌, ◌-◌, nat_lt, Bool, ◌&&◌, ◌||◌, List, [], Option}
use Rattle.flake_rate.specs.declared.bar.Bar.{Bar}
use Rattle.threshold_pick.specs.Open.{is_skipped}
use Rattle.weight_exact.specs.Share.{reached}
use Rattle.weight_exact.specs.Weights.{hypotheses}
use Rattle.weight_exact.specs.declared.run.Run.{Run}
use Rattle.posterior.specs.Kept.{Kept}
use Rattle.posterior.specs.StandsFor.{StandsFor}
use Rattle.threshold_pick.specs.Picks.{open_pick_in}
use Rattle.farm_rules.specs.Verification.{Verification}
use Rattle.farm_entry.specs.Setup.{setup_of}
use Rattle.farm_entry.specs.Standing.{standing_of_reached}
use Rattle.farm_entry.specs.declared.opening.Opening.{Opening}
use Rattle.farm_entry.specs.declared.standing.Standing.{Standing}
use Rattle.farm_entry.specs.declared.standing.Standing.TheVariants.{Searching, Verifying}
use Rattle.farm_laws.specs.Openings.{OpenWithin}
use Rattle.search_state.specs.SearchInside.{IsVerificationOf}

-- a belief is that of a search after these runs, and the bar and the number of suspects are those of the search
pub record IsBelieved (o : Opening) (told : List Run) (k : Kept) (bar : Bar) (suspects : ℕ) : Type 0 where
  pub within : OpenWithin o
  pub setup : k.setup ≡ setup_of o
  pub stands : StandsFor k told
  pub bar_is : bar ≡ o.bar
  pub suspects_are : suspects + 1 ≡ hypotheses (setup_of o)

-- where a search stands after these runs, before any rerun
abbrev pub begun_standing : Opening → List Run → (skipped : List ℕ) → Standing
begun_standing o told skipped = standing_of_reached o told skipped [] (reached (setup_of o) told)

-- what is kept of a search follows of its belief: where it stands, the first position of its plan while it is
-- searching, and the verification of the suspect while it verifies one
pub record IsBegunBy (o : Opening) (told : List Run) (skipped : List ℕ) (k : Kept) (standing : Standing)
    (first : Option ℕ) (verification : Verification) : Type 0 where
  pub stands : standing ≡ begun_standing o told skipped
  pub planned : standing ≡ Searching → first ≡ open_pick_in k.sums k.floor skipped 1 o.width
  pub verified : (culprit : ℕ) → standing ≡ Verifying culprit → IsVerificationOf verification culprit o.reruns []

-- whether a side of a verification lacks reruns that can't be made any more, by how many each side has
abbrev pub lacks_by : (culprit asked : ℕ) → (skipped : List ℕ) → (at_culprit at_parent : ℕ) → Bool
lacks_by culprit asked skipped at_culprit at_parent =
    (is_skipped skipped culprit && nat_lt at_culprit asked)
    || (is_skipped skipped (culprit - 1) && nat_lt at_parent asked)
