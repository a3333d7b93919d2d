-- A belief that is told one run more of a list that it has room for.
use Rattle.std.proofs.Common.{◌≡◌, ◌↔◌, ℕ, ◌+◌, ◌<◌, ◌≤◌, List, [], ◌∷◌, ◌++◌, length, get_or, take, refl, sym, subst, arith}
use Rattle.std.proofs.lemmas.List.{take_more}
use Rattle.weight_exact.specs.Budget.{run_budget}
use Rattle.weight_exact.specs.Load.{load}
use Rattle.weight_exact.specs.declared.run.Run.{Run}
use Rattle.posterior.specs.Kept.{Kept}
use Rattle.posterior.specs.StandsFor.{StandsFor}
use Rattle.posterior.specs.declared.belief.Noted.{Noted}
use Rattle.posterior.specs.declared.belief.Noted.TheVariants.{Counted, Over}
use Rattle.farm_laws.specs.Loads.{LoadsFit}

counted-unless_over : (noted : Noted) → (noted ≡ Over → ⊥) → noted ≡ Counted
counted-unless_over Counted other = refl
counted-unless_over Over other = absurd (other refl)

pub told-more : (before after : Kept) (noted : Noted) (told : List Run) (i : ℕ) (d : Run) → i < length told → LoadsFit before.setup told →
    ((noted ≡ Over) ↔ (run_budget before.setup < load before.setup.factors (take i told ++ get_or told i d ∷ []))) →
    (noted ≡ Counted → StandsFor after (take i told ++ get_or told i d ∷ [])) → StandsFor after (take (i + 1) told)
told-more before after noted told i d below fit over counted =
    let more : take (i + 1) told ≡ take i told ++ get_or told i d ∷ [] = take_more told i d below in
    let fits = subst (λ (rs : List Run). load before.setup.factors rs ≤ run_budget before.setup) more (fit (i + 1) (omega arith)) in
    let not_over : noted ≡ Over → ⊥ = λ is. let past = over.0 is in omega (arith, fits, past) in
    subst (λ (rs : List Run). StandsFor after rs) (sym more) (counted (counted-unless_over noted not_over))
