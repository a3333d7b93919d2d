-- What a call of a store recorded stands at the end of its history, past what stood there before.
use Rattle.std.proofs.Common.{◌≡◌, ◌++◌, ◌∷◌, [], List, ℕ, ◌+◌, ◌-◌, ◌<◌, ◌≤◌, length, arith, ap, sym, subst, ◌∙◌, inl, inr, map, ◌⊎◌, ⊎_elim, Ok, Err, Option, Result}
use Rattle.std.proofs.lemmas.List.Sums.{sum_by-append}
use Rattle.farm_types.specs.declared.moment.Moment.{Moment}
use Rattle.farm_entry.specs.Decision.{decide}
use Rattle.farm_entry.specs.Legal.{IsLegal}
use Rattle.farm_entry.specs.Playing.{after, played}
use Rattle.farm_entry.specs.declared.command.Command.{Command}
use Rattle.farm_entry.specs.declared.decision.Decision.{Decision}
use Rattle.farm_entry.specs.declared.decision.Decision.TheVariants.{New, Refuse, Repeat, Show}
use Rattle.farm_entry.specs.declared.entry.Entry.{Entry}
use Rattle.farm_entry.specs.declared.lease.LeasedRun.{LeasedRun}
use Rattle.farm_entry.specs.declared.reply.Reply.{Reply}
use Rattle.farm_store.specs.Answering.{as_batch, asked, BatchSays, history_after, IsAnswered, IsUndecided, IsUnrepaired}
use Rattle.farm_store.specs.Entering.{run_given}
use Rattle.farm_store.specs.Faults.{HasCallCause}
use Rattle.farm_store.specs.Sizes.{asks_size, entries_size, what_size}
use Rattle.farm_store.specs.State.{StoreState, IsRepaired}
use Rattle.farm_store.specs.Together.{IsGiven, TogetherSays, all_asks}
use Rattle.farm_entry.specs.declared.answer.Answer.{Answer}
use Rattle.farm_store.specs.declared.asking.Ask.{Ask}
use Rattle.farm_store.specs.declared.asking.CallFault.{CallFault}
use Rattle.farm_store.specs.declared.asking.CallFault.TheVariants.{Refused, StoreFault, Memory}
use Rattle.farm_store.specs.declared.asking.Part.{Part}
use Rattle.farm_store.specs.declared.asking.TheConstants.{MAX_RECORD_BYTES}
use Rattle.farm_store.proofs.Sizes.{asks-fit}
use Rattle.common_types.specs.Prefix.{IsPrefix}
use Rattle.common_types.proofs.Prefixes.{IsPrefix-append, IsPrefix-length, IsPrefix-refl, IsPrefix-trans}
use Rattle.common_types.specs.Counts.{Rose, last_count}
use Rattle.turn_lock.specs.Known.{MayRise}
use Rattle.turn_lock.specs.Places.{ArePlaces}
use Rattle.turn_lock.proofs.PlaceLists.{ArePlaces-range_with_len}
use Rattle.std.specs.List.{range_with_len}
use Rattle.shared_farm.specs.Answered.{FitRecord, GoesOn, IsGrown, own_places}

-- a history after a decision begins with it, and so does one after commands
after-begins : (H : List Entry) (d : Decision) → IsPrefix H (after H d)
after-begins H (Refuse cause) = IsPrefix-refl H
after-begins H (Repeat place) = IsPrefix-refl H
after-begins H (Show page) = IsPrefix-refl H
after-begins H (New e) = IsPrefix-append H (e ∷ [])

played-begins : (H : List Entry) (more : List (Command × Moment)) → IsPrefix H (played H more)
played-begins H [] = IsPrefix-refl H
played-begins H (q ∷ more) =
    let next : List Entry = after H (decide H q.0 q.1) in
    IsPrefix-trans H next (played next more) (after-begins H (decide H q.0 q.1)) (played-begins next more)

pub history_after-begins : (H : List Entry) (asks : List Ask) → IsPrefix H (history_after H asks)
history_after-begins H asks = played-begins H (map asked asks)

-- a fault has the same cause, whatever would have been answered without it
pub cause_of-fault : (f : CallFault) (first last : ℕ) → HasCallCause {T = Unit {0}} (Err f) first last
    → HasCallCause {T = List Answer} (Err f) first last
cause_of-fault (Refused refusal) first last cause = tt
cause_of-fault (StoreFault before after) first last cause = cause
cause_of-fault Memory first last cause = tt

-- the cause of a call with one command is that of the batch of it
pub cause-as_batch : (result : Result Reply CallFault) (before after : ℕ) → HasCallCause result before after
    → HasCallCause (as_batch result) before after
cause-as_batch (Ok reply) before after cause = cause
cause-as_batch (Err (Refused refusal)) before after cause = cause
cause-as_batch (Err (StoreFault first last)) before after cause = cause
cause-as_batch (Err Memory) before after cause = cause

entered-cause : (answer : Result Reply CallFault) (first last : ℕ) → HasCallCause (run_given answer) first last
    → HasCallCause (as_batch answer) first last
entered-cause (Ok reply) first last cause = tt
entered-cause (Err (Refused refusal)) first last cause = tt
entered-cause (Err (StoreFault before after)) first last cause = cause
entered-cause (Err Memory) first last cause = tt

-- and that of a command that was entered
pub cause-entered : (answer : Result Reply CallFault) (result : Result (Option LeasedRun) CallFault) (first last : ℕ)
    → result ≡ run_given answer → HasCallCause result first last → HasCallCause (as_batch answer) first last
cause-entered answer result first last gives cause =
    entered-cause answer first last
    (subst (λ (r : Result (Option LeasedRun) CallFault). HasCallCause r first last) gives cause)

-- nothing is pending where the disk didn't fail
settled : (first last : ℕ) (pending : List Entry) → (pending ≡ []) ⊎ Rose first last → first ≡ last → MayRise last
    → pending ≡ []
settled first last pending (inl none) same rises = none
settled first last pending (inr rose) same rises =
    ⊎_elim
    (λ (up : first < last). absurd (omega (arith, up, same)))
    (λ (end : (first ≡ last_count) × (last ≡ last_count)). absurd (omega (arith, end.1, rises)))
    rose

-- what fits one record
pub FitRecord-nothing : (pending : List Entry) → pending ≡ [] → FitRecord pending
FitRecord-nothing pending none = subst FitRecord (sym none) (omega arith)

FitRecord-behind : (H pending : List Entry) → entries_size (H ++ pending) ≤ entries_size H + MAX_RECORD_BYTES
    → FitRecord pending
FitRecord-behind H pending within =
    let both = sum_by-append (λ (x : Entry). what_size x.what) H pending in omega (arith, within, both)

module _ {D : Type 0} where
  -- what a repair leaves begins with what there was
  pub repaired-begins : (old : StoreState D) (H : List Entry) → IsRepaired old H → IsPrefix old.history H
  repaired-begins old H found = ⊎_elim
      (λ (e : H ≡ old.history). subst (λ (l : List Entry). IsPrefix old.history l) (sym e) (IsPrefix-refl old.history))
      (λ (e : H ≡ old.history ++ old.pending).
      subst (λ (l : List Entry). IsPrefix old.history l) (sym e) (IsPrefix-append old.history old.pending))
      found

  grown_by : (asks : List Ask) (old new : StoreState D) (H : List Entry) → IsRepaired old H
      → new.history ≡ history_after H asks → length new.history ≡ length H + new.recorded → IsGrown old new
  grown_by asks old new H found is recorded = record {
    repaired = H;
    found = found;
    begins = subst (λ (l : List Entry). IsPrefix H l) (sym is) (history_after-begins H asks);
    recorded = recorded;
  }

  grown_none : (old new : StoreState D) → IsRepaired old new.history → new.recorded ≡ 0 → IsGrown old new
  grown_none old new found none = record {
    repaired = new.history;
    found = found;
    begins = IsPrefix-refl new.history;
    recorded = omega (arith, none);
  }

  -- what is new was recorded, past what the repair found
  pub says-grown : (asks : List Ask) (result : Result (List Answer) CallFault) (old new : StoreState D)
      → BatchSays asks result old new → IsGrown old new
  says-grown asks (Ok answers) old new says =
      let is : IsAnswered asks answers old new = says in
      grown_by asks old new is.repaired is.found is.history is.recorded
  says-grown asks (Err (Refused cause)) old new says = absurd says
  says-grown asks (Err (StoreFault before after)) old new says = ⊎_elim
      (λ (u : IsUnrepaired old new). grown_none old new (inl u.history) u.none)
      (λ (u : IsUndecided asks old new). grown_none old new u.found u.none)
      says
  says-grown asks (Err Memory) old new says = grown_none old new says.found says.none

  pub together-grown : (parts given : List Part) (result : Result (Unit {0}) CallFault) (old new : StoreState D)
      → TogetherSays parts given result old new → IsGrown old new
  together-grown parts given (Ok done) old new says =
      let is : IsGiven parts given old new = says in
      grown_by (all_asks parts) old new is.repaired is.found is.history is.recorded
  together-grown parts given (Err f) old new says = says-grown (all_asks parts) (Err f) old new says

  -- nothing is pending after a call, or the disk failed in it
  pub says-decided : (asks : List Ask) (result : Result (List Answer) CallFault) (old new : StoreState D)
      (first last : ℕ) → BatchSays asks result old new → HasCallCause result first last
      → (new.pending ≡ []) ⊎ Rose first last
  says-decided asks (Ok answers) old new first last says cause =
      let is : IsAnswered asks answers old new = says in inl is.decided
  says-decided asks (Err (Refused refusal)) old new first last says cause = absurd says
  says-decided asks (Err (StoreFault before after)) old new first last says cause = inr cause.2
  says-decided asks (Err Memory) old new first last says cause = inl says.decided

  pub together-decided : (parts given : List Part) (result : Result (Unit {0}) CallFault) (old new : StoreState D)
      (first last : ℕ) → TogetherSays parts given result old new → HasCallCause result first last
      → (new.pending ≡ []) ⊎ Rose first last
  together-decided parts given (Ok done) old new first last says cause =
      let is : IsGiven parts given old new = says in inl is.decided
  together-decided parts given (Err f) old new first last says cause =
      says-decided (all_asks parts) (Err f) old new first last says (cause_of-fault f first last cause)

  -- and no more is pending than fits one record, where the asks do
  pub says-fit : (asks : List Ask) (result : Result (List Answer) CallFault) (old new : StoreState D)
      → BatchSays asks result old new → asks_size asks ≤ MAX_RECORD_BYTES → FitRecord old.pending
      → FitRecord new.pending
  says-fit asks (Ok answers) old new says fits had =
      let is : IsAnswered asks answers old new = says in FitRecord-nothing new.pending is.decided
  says-fit asks (Err (Refused refusal)) old new says fits had = absurd says
  says-fit asks (Err (StoreFault before after)) old new says fits had = ⊎_elim
      (λ (u : IsUnrepaired old new). subst FitRecord (sym u.pending) had)
      (λ (u : IsUndecided asks old new).
      FitRecord-behind new.history new.pending
      (asks-fit new.history (new.history ++ new.pending) asks u.all fits))
      says
  says-fit asks (Err Memory) old new says fits had = FitRecord-nothing new.pending says.decided

  pub together-fit : (parts given : List Part) (result : Result (Unit {0}) CallFault) (old new : StoreState D)
      → TogetherSays parts given result old new → asks_size (all_asks parts) ≤ MAX_RECORD_BYTES
      → FitRecord old.pending → FitRecord new.pending
  together-fit parts given (Ok done) old new says fits had =
      let is : IsGiven parts given old new = says in FitRecord-nothing new.pending is.decided
  together-fit parts given (Err f) old new says fits had = says-fit (all_asks parts) (Err f) old new says fits had

  -- how a store goes on at a call
  pub goes-on_by : (count : D → ℕ) (old new : StoreState D) → IsLegal old.history → IsLegal new.history
      → IsPrefix old.history new.history → IsGrown old new
      → (new.pending ≡ []) ⊎ Rose (count old.disk) (count new.disk) → count old.disk ≤ count new.disk
      → FitRecord new.pending → GoesOn count old new
  goes-on_by count old new found legal longer grown decided never fit =
      let begins = IsPrefix-length old.history grown.repaired (repaired-begins old grown.repaired grown.found) in
      let recorded = grown.recorded in
      record {
        found = found;
        legal = legal;
        longer = longer;
        grown = grown;
        room = omega (arith, begins, recorded);
        settled = settled (count old.disk) (count new.disk) new.pending decided;
        never_falls = never;
        fit = fit;
      }

  -- the places of what was recorded are those of what is new, past what the repair found
  pub own-places : (old new : StoreState D) (grown : IsGrown old new)
      → own_places new ≡ range_with_len (length grown.repaired) (length new.history - length grown.repaired)
  own-places old new grown =
      let is = grown.recorded in
      let start = length grown.repaired in
      let first : length new.history - new.recorded ≡ start = omega (arith, is) in
      let count : new.recorded ≡ length new.history - start = omega (arith, is) in
      ap (λ (n : ℕ). range_with_len n new.recorded) first ∙ ap (λ (n : ℕ). range_with_len start n) count

  -- and they lie in what is new
  pub ArePlaces-own_places : (old new : StoreState D) → length old.history + new.recorded ≤ length new.history
      → ArePlaces (length old.history) (length new.history) (own_places new)
  ArePlaces-own_places old new room =
      ArePlaces-range_with_len (length new.history - new.recorded) new.recorded (length old.history)
      (length new.history)
      (omega (arith, room)) (omega (arith, room))
