-- Each beginning of the runs of a search is within its budget, since a run counts only where it keeps the load within
-- it.
use Rattle.std.proofs.Common.{◌≡◌, zero, suc, ◌+◌, ◌≤◌, ◌<◌, List, [], ◌∷◌, ◌++◌, length, Contains, sym, subst, arith, length-append, ⊎_elim}
use Rattle.std.proofs.lemmas.Bool.{cases_lt}
use Rattle.std.proofs.lemmas.List.{take-append-le, take_all}
use Rattle.farm_types.specs.declared.stage.Stage.TheVariants.{Search}
use Rattle.weight_exact.specs.Budget.{run_budget}
use Rattle.weight_exact.specs.Load.{load}
use Rattle.weight_exact.specs.Weights.{Setup}
use Rattle.weight_exact.specs.declared.run.Run.{Run}
use Rattle.farm_entry.specs.Decision.{run_with}
use Rattle.farm_entry.specs.History.{openings, runs}
use Rattle.farm_entry.specs.Legal.{IsLegal}
use Rattle.farm_entry.specs.Setup.{setup_of}
use Rattle.farm_entry.specs.declared.entry.Entry.{Entry}
use Rattle.farm_entry.specs.declared.opening.Opening.{Opening}
use Rattle.farm_laws.specs.Loads.{LoadsFit}
use Rattle.farm_laws.proofs.Ends.{none-fits}
use Rattle.farm_laws.proofs.Opened.{each_opened, fresh-counted}
use Rattle.farm_laws.proofs.RunSteps.{GrownRuns, runs-step}

fits-none : (s : Setup) → load s.factors [] ≤ run_budget s → LoadsFit s []
fits-none s room zero within = room
fits-none s room (suc k) within = room

fits-more : (s : Setup) (told : List Run) (r : Run) → LoadsFit s told → load s.factors (told ++ r ∷ []) ≤ run_budget s →
    LoadsFit s (told ++ r ∷ [])
fits-more s told r fits room k within =
    ⊎_elim
    (λ (h : k < length told + 1).
    let early : k ≤ length told = omega arith in
    subst (λ (xs : List Run). load s.factors xs ≤ run_budget s) (sym (take-append-le k told (r ∷ []) early))
    (fits k early))
    (λ (h : length told + 1 ≤ k).
    let all : length (told ++ r ∷ []) ≤ k = omega (arith, length-append told (r ∷ [])) in
    subst (λ (xs : List Run). load s.factors xs ≤ run_budget s) (sym (take_all k (told ++ r ∷ []) all)) room)
    (cases_lt k (length told + 1))

pub loads_fit : (H : List Entry) (o : Opening) → IsLegal H → Contains (openings H) o →
    LoadsFit (setup_of o) (runs H o.search)
loads_fit H o legal opened =
    each_opened (λ (G : List Entry) (x : Opening). LoadsFit (setup_of x) (runs G x.search))
    (λ G e x first s is.
    subst (λ (rs : List Run). LoadsFit (setup_of x) rs) (sym (fresh-counted G e x Search first s is))
    (fits-none (setup_of x) (none-fits x)))
    (λ G e x first there s fits.
    ⊎_elim
    (λ (same : runs (G ++ e ∷ []) x.search ≡ runs G x.search). subst (λ (rs : List Run). LoadsFit (setup_of x) rs)
    (sym same) fits)
    (λ (new : GrownRuns G e x).
    subst (λ (rs : List Run). LoadsFit (setup_of x) rs) (sym new.grown)
    (fits-more (setup_of x) (runs G x.search) (run_with new.lease new.verdict) fits
    (subst (λ (rs : List Run). load (setup_of x).factors rs ≤ run_budget (setup_of x)) new.grown new.within)))
    (runs-step G e x first there s))
    H legal o opened
