-- What decisions add to a history.
use Rattle.std.proofs.Common.{◌≡◌, List, [], ◌∷◌, ◌++◌, ◌∙◌, sym}
use Rattle.std.proofs.lemmas.List.{append-nil}
use Rattle.std.specs.Prelude.{Result, Ok, Err, IfOk, OnOk, OnErr}
use Rattle.farm_entry.specs.Answer.{IsAnswer}
use Rattle.farm_entry.specs.Decision.{decide}
use Rattle.farm_entry.specs.Playing.{after}
use Rattle.farm_entry.specs.declared.answer.Answer.{Answer}
use Rattle.farm_entry.specs.declared.decision.Decision.{Decision}
use Rattle.farm_entry.specs.declared.entry.Entry.{Entry}
use Rattle.farm_store.specs.Answering.{AreAnswers}
use Rattle.farm_store.specs.declared.asking.Ask.{Ask}
use Rattle.farm_store.proofs.Calls.{after-grows}

-- a decision adds an entry or none, and nothing where it isn't made
pub decided-adds : {T E : Type 0} (r : Result T E) (H K : List Entry) (d : Decision) → OnOk r (K ≡ after H d)
    → OnErr r (K ≡ H) → (more : List Entry) × (K ≡ H ++ more)
decided-adds (Ok given) H K d is kept = let grows = after-grows H d in (grows.more, is ∙ grows.longer)
decided-adds (Err f) H K d is kept = ([], kept ∙ sym (append-nil H))

-- one answer is a list of one
pub one-answered : {E : Type 0} (r : Result Answer E) (H : List Entry) (ask : Ask)
    → IfOk r (IsAnswer H (decide H ask.command ask.at))
    → IfOk r (λ (given : Answer). AreAnswers H (ask ∷ []) (given ∷ []))
one-answered (Ok given) H ask is = (is, tt)
one-answered (Err f) H ask is = tt
