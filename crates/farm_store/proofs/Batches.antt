-- A list of asks that is answered one after the other.
use Rattle.std.proofs.Common.{◌≡◌, ℕ, ◌+◌, ◌<◌, List, [], ◌∷◌, ◌++◌, length, take, get_or, refl, sym, ◌∙◌, ap, subst}
use Rattle.std.proofs.lemmas.List.{take_more}
use Rattle.farm_entry.specs.Decision.{decide}
use Rattle.farm_entry.specs.Playing.{after}
use Rattle.farm_entry.specs.declared.entry.Entry.{Entry}
use Rattle.farm_entry.specs.Answer.{IsAnswer}
use Rattle.farm_store.specs.Answering.{AreAnswers, history_after}
use Rattle.farm_entry.specs.declared.answer.Answer.{Answer}
use Rattle.farm_store.specs.declared.asking.Ask.{Ask}
use Rattle.farm_store.proofs.Calls.{history_after-grows}

-- the first asks were answered
pub record AreFirst (H : List Entry) (asks : List Ask) (n : ℕ) (answers : List Answer) (now : List Entry) : Type 0 where
  pub answered : AreAnswers H (take n asks) answers
  pub history : now ≡ history_after H (take n asks)

history_after-push : (H : List Entry) (asks : List Ask) (ask : Ask) → history_after H (asks ++ ask ∷ [])
    ≡ after (history_after H asks) (decide (history_after H asks) ask.command ask.at)
history_after-push H [] ask = refl
history_after-push H (first ∷ asks) ask = history_after-push (after H (decide H first.command first.at)) asks ask

answers-push : (H : List Entry) (asks : List Ask) (answers : List Answer) (ask : Ask) (a : Answer)
    → AreAnswers H asks answers
    → IsAnswer (history_after H asks) (decide (history_after H asks) ask.command ask.at) a
    → AreAnswers H (asks ++ ask ∷ []) (answers ++ a ∷ [])
answers-push H [] [] ask a before now = (now, tt)
answers-push H [] (b ∷ answers) ask a before now = absurd before
answers-push H (first ∷ asks) [] ask a before now = absurd before
answers-push H (first ∷ asks) (b ∷ answers) ask a before now = (
  before.0,
  answers-push (after H (decide H first.command first.at)) asks answers ask a before.1 now,
)

pub first-more : (H : List Entry) (asks : List Ask) (n : ℕ) (answers : List Answer) (now next : List Entry) (ask : Ask)
    (a : Answer) → AreFirst H asks n answers now → n < length asks → ask ≡ get_or asks n ask
    → IsAnswer now (decide now ask.command ask.at) a → next ≡ after now (decide now ask.command ask.at)
    → AreFirst H asks (n + 1) (answers ++ a ∷ []) next
first-more H asks n answers now next ask a before within is answer then =
    let one : take (n + 1) asks ≡ take n asks ++ ask ∷ [] =
    take_more asks n ask within ∙ ap (λ (x : Ask). take n asks ++ x ∷ []) (sym is) in
    let answered : AreAnswers H (take n asks ++ ask ∷ []) (answers ++ a ∷ []) =
    answers-push H (take n asks) answers ask a before.answered
    (subst (λ (l : List Entry). IsAnswer l (decide l ask.command ask.at) a) before.history answer) in
    let history : next ≡ history_after H (take n asks ++ ask ∷ []) =
    then
    ∙ ap (λ (l : List Entry). after l (decide l ask.command ask.at)) before.history
    ∙ sym (history_after-push H (take n asks) ask) in
    record {
      answered = subst (λ (l : List Ask). AreAnswers H l (answers ++ a ∷ [])) (sym one) answered;
      history = history ∙ ap (λ (l : List Ask). history_after H l) (sym one);
    }

pub first-adds : (H : List Entry) (asks : List Ask) (n : ℕ) (answers : List Answer) (now : List Entry)
    → AreFirst H asks n answers now → (more : List Entry) × (now ≡ H ++ more)
first-adds H asks n answers now first =
    let grows = history_after-grows H (take n asks) in
    (grows.more, first.history ∙ grows.longer)
