-- What all hypotheses above the floor have in common, and so cancels from each share.
use Rattle.std.specs.Prelude.{ℕ, ◌*◌, List, [], ◌∷◌, false, not, if◌then◌else◌, filter}
use Rattle.weight_exact.specs.Factors.{verdict_factor}
use Rattle.weight_exact.specs.Load.{last_pass, may_miss, is_fail_above}
use Rattle.weight_exact.specs.declared.factors.Factors.{Factors}
use Rattle.weight_exact.specs.declared.run.Run.{Run}

-- the runs that tell no two hypotheses above the floor apart: those that are not live
abbrev pub settled : Factors → List Run → List Run
settled f runs = if may_miss f then [] else filter (λ r. not (is_fail_above (last_pass runs) r)) runs

-- the likelihood of a list of runs where each tree is without the culprit
abbrev pub likelihood_out : Factors → List Run → ℕ
likelihood_out f [] = 1
likelihood_out f (r ∷ rs) = verdict_factor f r.verdict false * likelihood_out f rs

-- the factor that the settled runs multiply each hypothesis above the floor by
abbrev pub common : Factors → List Run → ℕ
common f runs = likelihood_out f (settled f runs)
