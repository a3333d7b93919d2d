-- Whose the new entries of a turn are, by what the call of its store came to.
use Rattle.std.proofs.Common.{◌≡◌, ◌∷◌, [], List, ℕ, Bool, true, ◌-◌, ◌⊎◌, inl, inr, ⊎_elim, length, arith, sym, refl, subst}
use Rattle.std.specs.Prelude.{Option, Result, Ok, Err}
use Rattle.farm_types.specs.declared.moment.Moment.{Moment}
use Rattle.farm_entry.specs.declared.answer.Answer.{Answer}
use Rattle.farm_entry.specs.declared.command.Command.{Command}
use Rattle.farm_entry.specs.declared.entry.Entry.{Entry}
use Rattle.farm_entry.specs.declared.lease.LeasedRun.{LeasedRun}
use Rattle.farm_entry.specs.declared.reply.Reply.{Reply}
use Rattle.farm_store.specs.Answering.{BatchSays, CallSays, IsAnswered, as_batch}
use Rattle.farm_store.specs.Entering.{Enters, run_given}
use Rattle.farm_store.specs.State.{StoreState}
use Rattle.farm_store.specs.declared.asking.Ask.{Ask}
use Rattle.farm_store.specs.declared.asking.CallFault.{CallFault}
use Rattle.farm_store.specs.declared.asking.CallFault.TheVariants.{Refused, StoreFault, Memory}
use Rattle.common_types.proofs.Prefixes.{IsPrefix-refl}
use Rattle.turn_lock.specs.Known.{AccountsFor}
use Rattle.turn_lock.specs.Places.{IsOneOf}
use Rattle.turn_lock.specs.declared.view.Taken.{Taken}
use Rattle.turn_lock.proofs.PlaceLists.{IsOneOf-range_with_len}
use Rattle.shared_farm.specs.Answered.{IsGrown, own_places}
use Rattle.shared_farm.specs.Turns.{failed_by}
use Rattle.shared_farm.proofs.Recorded.{own-places}

-- nothing is pending after a call, or it failed
abbrev pub IsTold : {D : Type 0} → StoreState D → (failed : Bool) → Type 0
IsTold store failed = (store.pending ≡ []) ⊎ (failed ≡ true)

-- a fault is one of the disk whatever would have been answered without it
pub failed-fault : (f : CallFault) → failed_by {T = Unit {0}} (Err f) ≡ failed_by {T = List Answer} (Err f)
failed-fault (Refused cause) = refl
failed-fault (StoreFault before after) = refl
failed-fault Memory = refl

failed-as_batch : (result : Result Reply CallFault) → failed_by (as_batch result) ≡ failed_by result
failed-as_batch (Ok reply) = refl
failed-as_batch (Err (Refused cause)) = refl
failed-as_batch (Err (StoreFault before after)) = refl
failed-as_batch (Err Memory) = refl

failed-run_given : (answer : Result Reply CallFault) → failed_by (run_given answer) ≡ failed_by answer
failed-run_given (Ok reply) = refl
failed-run_given (Err (Refused cause)) = refl
failed-run_given (Err (StoreFault before after)) = refl
failed-run_given (Err Memory) = refl

module _ {D : Type 0} where
  pub batch-told : (asks : List Ask) (result : Result (List Answer) CallFault) (old new : StoreState D)
      → BatchSays asks result old new → IsTold new (failed_by result)
  batch-told asks (Ok answers) old new says = let is : IsAnswered asks answers old new = says in inl is.decided
  batch-told asks (Err (Refused cause)) old new says = absurd says
  batch-told asks (Err (StoreFault before after)) old new says = inr refl
  batch-told asks (Err Memory) old new says = inl says.decided

  pub call-told : (command : Command) (at : Moment) (result : Result Reply CallFault) (old new : StoreState D)
      → CallSays command at result old new → IsTold new (failed_by result)
  call-told command at result old new says =
      subst (λ (b : Bool). IsTold new b) (failed-as_batch result)
      (batch-told (record { command = command; at = at } ∷ []) (as_batch result) old new says)

  pub enter-told : (command : Command) (at : Moment) (result : Result (Option LeasedRun) CallFault)
      (old new : StoreState D) → Enters command at result old new → IsTold new (failed_by result)
  enter-told command at result old new says =
      subst (λ (r : Result (Option LeasedRun) CallFault). IsTold new (failed_by r)) (sym says.gives)
      (subst (λ (b : Bool). IsTold new b) (sym (failed-run_given says.answer))
      (call-told command at says.answer old new says.says))

  -- all that is new behind the repair was recorded by the call
  pub grown-accounts : (count : D → ℕ) (old new : StoreState D) (failed : Bool) → IsGrown old new
      → IsTold new failed → AccountsFor (record {
        entries = old.history;
        count = count old.disk;
        pending = old.pending;
      }) new.history new.pending (own_places new) failed
  grown-accounts count old new failed grown told = record {
    repaired = grown.repaired;
    found = grown.found;
    begins = grown.begins;
    recorded = λ place low high.
        let n = grown.recorded in
        subst (λ (ps : List ℕ). IsOneOf ps place) (sym (own-places old new grown))
        (IsOneOf-range_with_len (length grown.repaired) (length new.history - length grown.repaired) place low
        (omega (arith, n, high)));
    undecided = ⊎_elim (λ none. inl none) (λ fails. inr (inr fails)) told;
  }

-- a turn that only looked has nothing to account for
pub looked-accounts : (t : Taken) (entries pending : List Entry) (own : List ℕ) (failed : Bool) → entries ≡ t.entries
    → pending ≡ t.pending → AccountsFor t entries pending own failed
looked-accounts t entries pending own failed same waits = record {
  repaired = entries;
  found = inl same;
  begins = IsPrefix-refl entries;
  recorded = λ place low high. absurd (omega (arith, low, high));
  undecided = inr (inl (same, waits));
}
