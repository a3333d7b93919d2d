-- What is given of a command's answer where only the run is asked for that its reply hands out.
use Rattle.std.proofs.Common.{◌≡◌, ℕ, List, [], ◌∷◌, Option, refl, sym, ap, subst}
use Rattle.std.specs.Prelude.{Result, Ok, Err}
use Rattle.farm_types.specs.declared.moment.Moment.{Moment}
use Rattle.farm_core.specs.Outcome.{IsHandedOut, handed_out}
use Rattle.farm_entry.specs.Answer.{IsAnswer}
use Rattle.farm_entry.specs.Decision.{decide}
use Rattle.farm_entry.specs.Playing.{after}
use Rattle.farm_entry.specs.declared.answer.Answer.{Answer}
use Rattle.farm_entry.specs.declared.answer.Answer.TheVariants as answer
use Rattle.farm_entry.specs.declared.command.Command.{Command}
use Rattle.farm_entry.specs.declared.decision.Decision.{Decision}
use Rattle.farm_entry.specs.declared.decision.Decision.TheVariants as decision
use Rattle.farm_entry.specs.declared.entry.Entry.{Entry}
use Rattle.farm_entry.specs.declared.lease.LeasedRun.{LeasedRun}
use Rattle.farm_entry.specs.declared.refusal.Refusal.{Refusal}
use Rattle.farm_entry.specs.declared.reply.Reply.{Reply}
use Rattle.farm_journal.specs.declared.fault.JournalFault.{JournalFault}
use Rattle.farm_journal.specs.declared.fault.JournalFault.TheVariants as journal
use Rattle.farm_store.specs.Answering.{AreAnswers, IsSettled, Settles, as_call}
use Rattle.farm_store.specs.Entering.{Enters, IsEntered, run_given, run_or_refusal}
use Rattle.farm_store.specs.Faults.{HasCallCause}
use Rattle.farm_store.specs.State.{StoreState}
use Rattle.farm_store.specs.declared.asking.Ask.{Ask}
use Rattle.farm_store.specs.declared.asking.CallFault.{CallFault}
use Rattle.farm_store.specs.declared.asking.CallFault.TheVariants as fault

-- the reply whose run was given
run-answered : (H : List Entry) (d : Decision) (run : Option LeasedRun) → IsHandedOut H d run
    → (r : Reply) × IsAnswer H d (answer.Done r) × (run ≡ handed_out r)
run-answered H (decision.Repeat place) run is = is
run-answered H (decision.Show page) run is = (page, refl, is)
run-answered H (decision.New e) run is = is
run-answered H (decision.Refuse cause) run is = absurd is

-- the run of a decision
pub entered-run : (H : List Entry) (ask : Ask) (run : Option LeasedRun)
    → IsHandedOut H (decide H ask.command ask.at) run → IsEntered H ask (Ok run)
entered-run H ask run is =
    let found = run-answered H (decide H ask.command ask.at) run is in
    record {
      answer = answer.Done found.0;
      is = (found.1, tt);
      gives = ap (λ (given : Option LeasedRun). Ok given) found.2;
    }

-- a refusal is an answer
pub entered-refused : (H : List Entry) (ask : Ask) (x : Refusal) → decide H ask.command ask.at ≡ decision.Refuse x
    → IsEntered H ask (Err x)
entered-refused H ask x is = record {
  answer = answer.Refused x;
  is = (subst (λ (d : Decision). IsAnswer H d (answer.Refused x)) (sym is) refl, tt);
  gives = refl;
}

-- and adds nothing
pub refused-after : (H : List Entry) (d : Decision) (x : Refusal) → d ≡ decision.Refuse x → H ≡ after H d
refused-after H d x is = sym (ap (after H) is)

module _ {D : Type 0} (q : Command) (m : Moment) (old new : StoreState D) where
  -- what a command came to of whose answer this was given
  abbrev Given : Result (Option LeasedRun) Refusal → Type 0
  Given given = IsSettled (record { command = q; at = m } ∷ [])
      (λ H. IsEntered H (record { command = q; at = m }) given) old new

  -- the run was given
  pub enters-run : (run : Option LeasedRun) → Given (Ok run) → Enters q m (Ok run) old new
  enters-run run says = by says.answers.answer says.answers.is says.answers.gives
    where
      by : (a : Answer) → AreAnswers says.repaired (record { command = q; at = m } ∷ []) (a ∷ [])
          → Ok run ≡ run_or_refusal a → Enters q m (Ok run) old new
      by (answer.Done r) is gives =
          let same : run ≡ handed_out r = cc in
          record {
            answer = Ok r;
            gives = ap (λ (given : Option LeasedRun). Ok given) same;
            says = record {
              repaired = says.repaired;
              found = says.found;
              answers = is;
              history = says.history;
              recorded = says.recorded;
              decided = says.decided;
            };
          }
      by (answer.Refused x) is gives = let never : ⊥ = cc in absurd never

  -- it was refused
  pub enters-refused : (x : Refusal) → Given (Err x) → Enters q m (Err (fault.Refused x)) old new
  enters-refused x says = by says.answers.answer says.answers.is says.answers.gives
    where
      by : (a : Answer) → AreAnswers says.repaired (record { command = q; at = m } ∷ []) (a ∷ [])
          → Err x ≡ run_or_refusal a → Enters q m (Err (fault.Refused x)) old new
      by (answer.Done r) is gives = let never : ⊥ = cc in absurd never
      by (answer.Refused y) is gives =
          let same : x ≡ y = cc in
          record {
            answer = Err (fault.Refused y);
            gives = ap (λ (cause : Refusal). Err (fault.Refused cause)) same;
            says = record {
              repaired = says.repaired;
              found = says.found;
              answers = is;
              history = says.history;
              recorded = says.recorded;
              decided = says.decided;
            };
          }

-- the store failed
pub enters-missed : {D T : Type 0} (q : Command) (m : Moment) (old new : StoreState D)
    (Given : T → List Entry → Type 0) (f : JournalFault)
    → Settles (record { command = q; at = m } ∷ []) Given (Err f) old new → Enters q m (Err (as_call f)) old new
enters-missed q m old new Given (journal.StoreFault before after) says =
    record { answer = Err (fault.StoreFault before after); gives = refl; says = says }
enters-missed q m old new Given journal.Memory says = record { answer = Err fault.Memory; gives = refl; says = says }
