-- What a call on a store comes to, where nothing was pending.
use Rattle.std.proofs.Common.{◌≡◌, ◌++◌, [], List, Err, sym, ap, subst, ◌∙◌, ⊎_elim, append-nil}
use Rattle.farm_types.specs.declared.moment.Moment.{Moment}
use Rattle.farm_entry.specs.Decision.{decide}
use Rattle.farm_entry.specs.Playing.{after}
use Rattle.farm_entry.specs.declared.command.Command.{Command}
use Rattle.farm_entry.specs.declared.decision.Decision.{Decision}
use Rattle.farm_entry.specs.declared.decision.Decision.TheVariants.{New, Refuse, Repeat, Show}
use Rattle.farm_entry.specs.declared.entry.Entry.{Entry}
use Rattle.farm_entry.specs.declared.refusal.Refusal.{Refusal}
use Rattle.farm_entry.specs.Answer.{IsAnswer}
use Rattle.farm_store.specs.Answering.{CallSays}
use Rattle.farm_store.specs.State.{IsRepaired, StoreState}
use Rattle.farm_entry.specs.declared.answer.Answer.TheVariants as answer
use Rattle.farm_store.specs.declared.asking.CallFault.TheVariants as call
use Rattle.farm_drill.specs.Asked.{AskSays, IsRefused}

-- a repair finds the history as it was
unchanged : {D : Type 0} (old : StoreState D) (repaired : List Entry) → IsRepaired old repaired → old.pending ≡ []
    → repaired ≡ old.history
unchanged old repaired found none =
    ⊎_elim (λ (same : repaired ≡ old.history). same)
    (λ (more : repaired ≡ old.history ++ old.pending).
    more ∙ ap (λ (es : List Entry). old.history ++ es) none ∙ append-nil old.history)
    found

-- a refusal is that of the decision
refused-by : (H : List Entry) (d : Decision) (cause : Refusal) → IsAnswer H d (answer.Refused cause) → d ≡ Refuse cause
refused-by H (Refuse x) cause same = ap Refuse (sym same)
refused-by H (Repeat place) cause same = absurd same
refused-by H (Show page) cause same = absurd same
refused-by H (New e) cause same = absurd same

pub refused-says : {D : Type 0} (old new : StoreState D) (command : Command) (at : Moment) (cause : Refusal)
    → CallSays command at (Err (call.Refused cause)) old new → old.pending ≡ []
    → AskSays old.history command at (Err cause) new.history
refused-says old new command at cause says none =
    let same : says.repaired ≡ old.history = unchanged old says.repaired says.found none in
    let by : decide says.repaired command at ≡ Refuse cause =
    refused-by says.repaired (decide says.repaired command at) cause says.answers.0 in
    subst (λ (H : List Entry). IsRefused H command at cause new.history) same
    (record { decided = by; history = says.history ∙ ap (after says.repaired) by })
