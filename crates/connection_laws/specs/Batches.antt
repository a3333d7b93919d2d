-- What the items of a batch come to, by what one call of the farm with all their commands answered.
use Rattle.std.specs.Prelude.{ℕ, ◌≡◌, true, false, List, [], ◌∷◌, map, ⊤}
use Rattle.farm_entry.specs.Playing.{after}
use Rattle.farm_entry.specs.declared.entry.Entry.{Entry}
use Rattle.farm_entry.specs.declared.answer.Answer.{Answer}
use Rattle.farm_store.specs.declared.asking.Ask.{Ask}
use Rattle.connection_laws.specs.Moments.{Given}
use Rattle.http_requests.specs.Items.{Item}
use Rattle.connection_laws.specs.Progress.{decision_on}
use Rattle.connection_laws.specs.Outcomes.{answered, failed, failed_too, uncalled, Step}
use Rattle.connection_laws.specs.Steps.{IsAsked}

-- the items' commands are asked, one for each
abbrev pub AreAsked : (Given → Type 0) → List Item → List Ask → Type 0
AreAsked gives [] [] = ⊤
AreAsked gives (item ∷ items) (ask ∷ asks) = IsAsked gives item ask × AreAsked gives items asks
AreAsked gives _ _ = ⊥

-- the items have no interim answer
abbrev pub AreAtOnce : List Item → Type 0
AreAtOnce [] = ⊤
AreAtOnce (item ∷ items) = (item.interim ≡ false) × AreAtOnce items

-- the farm answered all of them, and there was memory for the texts of some
abbrev pub AreAnsweredBy : List Entry → List Ask → List Answer → List Step → Type 0
AreAnsweredBy H [] [] [] = ⊤
AreAnsweredBy H (ask ∷ asks) (a ∷ answers) (step ∷ steps) =
    (step.outcome ≡ answered H ask a) × AreAnsweredBy (after H (decision_on H ask)) asks answers steps
AreAnsweredBy H _ _ _ = ⊥

-- the disk failed in their call, from one count to another
abbrev pub failed_steps : List Entry → List Ask → (before count : ℕ) → List Step
failed_steps H [] before count = []
failed_steps H (ask ∷ asks) before count =
    record { outcome = failed H ask before count; written = true }
    ∷ map (λ (more : Ask). record { outcome = failed_too more; written = true }) asks

-- memory ran out in their call
abbrev pub uncalled_steps : List Entry → List Ask → List Step
uncalled_steps H asks = map (λ (ask : Ask). record { outcome = uncalled H ask; written = true }) asks
