use Rattle.std.proofs.Common.{◌≡◌, ◌<◌, ◌≤◌, ⊎_elim, arith}
use Rattle.std.proofs.lemmas.Bool.{cases_lt}
use Rattle.farm_rules.specs.Reruns.{confirmed, vindicating}
use Rattle.farm_rules.proofs.Noted.{answered_as_ruled, in_time-none_asked, never_vindicated}
use Rattle.farm_rules.proofs.verifications.ends_as_ruled.Goals as goal

pub returns-clause-confirmed : goal.returns-clause-confirmed
returns-clause-confirmed c = λ culprit asked noted some. answered_as_ruled culprit asked noted confirmed (λ e. cc) some

pub returns-clause-vindicated : goal.returns-clause-vindicated
returns-clause-vindicated c =
    λ culprit asked noted.
    ⊎_elim
    (λ (some : 0 < asked). answered_as_ruled culprit asked noted vindicating (λ e. cc) some)
    (λ (none : asked ≤ 0). let zero_asked : asked ≡ 0 = omega (arith, none) in rw zero_asked (never_vindicated culprit noted))
    (cases_lt 0 asked)

pub returns-clause-none_asked : goal.returns-clause-none_asked
returns-clause-none_asked c = in_time-none_asked
