-- The answers to items, and items at the front.
use Rattle.std.proofs.Common.{ℕ, ◌≡◌, List, [], ◌∷◌, ◌++◌, refl, sym, ap, ◌∙◌, subst, append_assoc, append-nil}
use Rattle.connection_laws.specs.Moments.{Given}
use Rattle.http_requests.specs.Fronts.{Fronts}
use Rattle.http_requests.specs.Items.{Item, Items, End}
use Rattle.http_requests.proofs.FrontLaws.{items-fronts}
use Rattle.connection_laws.specs.Answers.{item_bytes, transcript}
use Rattle.connection_laws.specs.Progress.{Progress, progress_past}
use Rattle.connection_laws.specs.Outcomes.{Step}
use Rattle.connection_laws.specs.Steps.{AreSteps}

-- all items stand at the front
pub all-fronts : (bytes : List ℕ) (items : List Item) (end : End) → Items bytes items end → Fronts bytes items
all-fronts bytes items end x =
    items-fronts bytes items [] end (subst (λ (l : List Item). Items bytes l end) (sym (append-nil items)) x)

-- the answers with more at their end
pub transcript-append : (gives : Given → Type 0) (c : Progress) (items more : List Item) (steps rest : List Step)
    → AreSteps gives c items steps
    → transcript (items ++ more) (steps ++ rest) ≡ transcript items steps ++ transcript more rest
transcript-append gives c [] more [] rest g = refl
transcript-append gives c [] more (s ∷ steps) rest g = absurd g
transcript-append gives c (i ∷ items) more [] rest g = absurd g
transcript-append gives c (i ∷ items) more (s ∷ steps) rest g =
    ap (λ (l : List ℕ). item_bytes i s ++ l) (transcript-append gives (progress_past c s.outcome) items more steps rest
    g.1) ∙ sym (append_assoc (item_bytes i s) (transcript items steps) (transcript more rest))
