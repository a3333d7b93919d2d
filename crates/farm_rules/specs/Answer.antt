-- What a rerun is answered, after a list of reruns that counted.
use Rattle.std.specs.Prelude.{ℕ, List, [], ◌∷◌, ◌++◌, if◌then◌else◌}
use Rattle.farm_rules.specs.Reruns.{Outcome as Ruling, verifying, confirmed, vindicating, outcome, counts, after_rerun}
use Rattle.weight_exact.specs.declared.run.Run.{Run}
use Rattle.farm_rules.specs.declared.outcome.Outcome.{Outcome}
use Rattle.farm_rules.specs.declared.outcome.Outcome.TheVariants.{Open, Confirmed, Vindicated, Late}

-- what the reruns come to, as an answer
abbrev pub said : Ruling → Outcome
said verifying = Open
said confirmed = Confirmed
said vindicating = Vindicated

-- late where it doesn't count, else what the reruns come to with it
abbrev pub answer : (culprit asked : ℕ) → List Run → Run → Outcome
answer culprit asked reruns r =
    if counts culprit asked reruns r then said (outcome culprit asked (reruns ++ r ∷ [])) else Late

-- what a list of reruns is answered, one by one
abbrev pub answers : (culprit asked : ℕ) → List Run → List Run → List Outcome
answers culprit asked reruns [] = []
answers culprit asked reruns (r ∷ rs) =
    answer culprit asked reruns r ∷ answers culprit asked (after_rerun culprit asked reruns r) rs

-- the reruns that aren't answered to be late
abbrev pub in_time : List Run → List Outcome → List Run
in_time [] given = []
in_time (r ∷ rs) [] = []
in_time (r ∷ rs) (Late ∷ given) = in_time rs given
in_time (r ∷ rs) (a ∷ given) = r ∷ in_time rs given
