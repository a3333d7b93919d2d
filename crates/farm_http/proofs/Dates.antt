-- The days that the answers of a batch show have dates.
use Rattle.std.proofs.Common.{ℕ, suc, Result, Ok, Err, ◌≡◌, ◌≢◌, ◌+◌, List, [], ◌∷◌, length, refl, ap, ◌∙◌, subst, arith, length-append}
use Rattle.std.proofs.lemmas.List.Elements.{All-nil, All-cons}
use Rattle.std.specs.List.{All}
use Rattle.connection_laws.specs.Progress.{decision_on}
use Rattle.connection_laws.proofs.Batches.{history_after-longer}
use Rattle.connection_laws.proofs.Progress.{after-longer}
use Rattle.farm_wire.specs.Answers.{AnswerHasDates}
use Rattle.farm_wire.proofs.Answers.{answer-dates}
use Rattle.farm_entry.specs.Legal.{IsLegal}
use Rattle.farm_entry.specs.Playing.{after}
use Rattle.farm_entry.specs.declared.entry.Entry.{Entry}
use Rattle.farm_laws.proofs.Induct.{IsLegal-first}
use Rattle.farm_store.specs.Answering.{AreAnswers, history_after}
use Rattle.farm_entry.specs.declared.answer.Answer.{Answer}
use Rattle.farm_store.specs.declared.asking.Ask.{Ask}
use Rattle.farm_store.specs.declared.asking.CallFault.{CallFault}
use Rattle.farm_store.specs.declared.asking.CallFault.TheVariants as fault
use Rattle.common_types.specs.Prefix.{IsPrefix}
use Rattle.shared_farm.specs.Turns.{IsTurn}
use Rattle.turn_lock.specs.Known.{Known}
use Rattle.farm_http.specs.Turns.{HasAnswers}
use Rattle.farm_http.proofs.Turns.{repaired-longer}

-- what begins with a history that isn't empty isn't either
longer-busy : (H L : List Entry) → IsPrefix H L → H ≢ [] → L ≢ []
longer-busy [] L p busy none = busy refl
longer-busy (e ∷ H) L p busy none =
    let same : length L ≡ length (e ∷ H) + length p.0 = ap (λ (l : List Entry). length l) p.1
    ∙ length-append (e ∷ H) p.0 in
    let empty : length L ≡ 0 = ap (λ (l : List Entry). length l) none in
    absurd (omega arith)

-- what a legal history begins with is legal, unless it is empty
first-legal : (H L : List Entry) → IsPrefix H L → H ≢ [] → IsLegal L → IsLegal H
first-legal H L p busy legal = IsLegal-first H p.0 busy (subst (λ (l : List Entry). IsLegal l) p.1 legal)

pub answers-dates : (H : List Entry) (asks : List Ask) (answers : List Answer) → H ≢ [] → AreAnswers H asks answers
    → IsLegal (history_after H asks) → All AnswerHasDates answers
answers-dates H [] [] busy x legal = All-nil AnswerHasDates
answers-dates H [] (a ∷ answers) busy x legal = absurd x
answers-dates H (ask ∷ asks) [] busy x legal = absurd x
answers-dates H (ask ∷ asks) (a ∷ answers) busy x legal =
    let d = decision_on H ask in
    let left = after H d in
    let there = longer-busy H left (after-longer H d) busy in
    All-cons AnswerHasDates a answers
    (answer-dates H ask.command ask.at d a
    (first-legal left (history_after left asks) (history_after-longer left asks) there legal) refl x.0)
    (answers-dates left asks answers there x.1 legal)

-- there is an answer to each ask
answers-length : (H : List Entry) (asks : List Ask) (answers : List Answer) → AreAnswers H asks answers
    → length answers ≡ length asks
answers-length H [] [] x = refl
answers-length H [] (a ∷ answers) x = absurd x
answers-length H (ask ∷ asks) [] x = absurd x
answers-length H (ask ∷ asks) (a ∷ answers) x =
    ap (λ (n : ℕ). suc n) (answers-length (after H (decision_on H ask)) asks answers x.1)

-- a legal history isn't empty
legal-busy : (H : List Entry) → IsLegal H → H ≢ []
legal-busy [] legal none = legal
legal-busy (e ∷ H) legal none = let empty : length (e ∷ H) ≡ 0 = ap (λ (l : List Entry). length l) none in absurd
    (omega arith)

module _ {D : Type 0} (count : D → ℕ) (asks : List Ask) (answers : List Answer) (old new : Known) where
  -- a turn answers each of its asks
  turn-length : IsTurn count asks (Ok answers) old new → length answers ≡ length asks
  turn-length t = let says = t.says in answers-length says.repaired asks answers says.answers

  -- and the days that it shows have dates
  turn-dates : IsTurn count asks (Ok answers) old new → IsLegal new.seen → All AnswerHasDates answers
  turn-dates t legal =
      let says = t.says in
      answers-dates says.repaired asks answers
      (longer-busy t.found.history says.repaired (repaired-longer t.found says.repaired says.found)
      (legal-busy t.found.history t.legal)) says.answers
      (subst (λ (H : List Entry). IsLegal H) (t.seen ∙ says.history) legal)

-- so what a batch's turn came to can be put
pub turn-answers : {D : Type 0} (count : D → ℕ) (asks : List Ask) (turn : Result (List Answer) CallFault)
    (old new : Known) → IsTurn count asks turn old new → IsLegal new.seen → HasAnswers turn asks
turn-answers count asks (Ok answers) old new t legal =
    (turn-length count asks answers old new t, turn-dates count asks answers old new t legal)
turn-answers count asks (Err (fault.Refused cause)) old new t legal = t.says
turn-answers count asks (Err (fault.StoreFault first last)) old new t legal = tt
turn-answers count asks (Err fault.Memory) old new t legal = tt
