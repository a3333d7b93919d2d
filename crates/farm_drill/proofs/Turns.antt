-- What a turn of a worker leaves, whose command goes by the plan.
use Rattle.std.proofs.Common.{◌≡◌, ◌<◌, ◌-◌, ◌⊎◌, inl, inr, ◌∷◌, [], ℕ, Bool, false, List, length, Option, Some, Result, Ok, Err, refl, sym, ap, subst, ◌∙◌, ⊎_elim, arith}
use Rattle.std.specs.List.{range_with_len}
use Rattle.atomic_table.specs.Seated.{TableId}
use Rattle.common_types.specs.Counts.{Rose}
use Rattle.farm_types.specs.declared.moment.Moment.{Moment}
use Rattle.common_types.specs.Prefix.{IsPrefix}
use Rattle.farm_entry.specs.Decision.{decide}
use Rattle.farm_entry.specs.History.{lease_of}
use Rattle.farm_entry.specs.Legal.{IsLegal}
use Rattle.farm_entry.specs.Playing.{after}
use Rattle.farm_entry.specs.declared.answer.Answer.{Answer}
use Rattle.farm_entry.specs.declared.answer.Answer.TheVariants as answer
use Rattle.farm_entry.specs.declared.command.Command.{Command}
use Rattle.farm_entry.specs.declared.entry.Entry.{Entry}
use Rattle.farm_entry.specs.declared.lease.LeasedRun.{LeasedRun}
use Rattle.farm_entry.specs.declared.reply.Reply.{Reply}
use Rattle.farm_core.specs.Outcome.{handed_out}
use Rattle.farm_store.specs.Answering.{CallSays, IsAnswered, IsUndecided, IsUnrepaired}
use Rattle.farm_store.specs.Entering.{run_given}
use Rattle.farm_store.specs.Faults.{HasCallCause}
use Rattle.farm_store.specs.State.{StoreState}
use Rattle.farm_store.specs.declared.asking.CallFault.{CallFault}
use Rattle.farm_store.specs.declared.asking.CallFault.TheVariants.{Refused, StoreFault, Memory}
use Rattle.turn_lock.specs.Known.{Known, MayRise, stake_after}
use Rattle.turn_lock.specs.Places.{IsOneOf}
use Rattle.turn_lock.specs.declared.view.Stake.{Stake}
use Rattle.turn_lock.proofs.PlaceLists.{ArePlaces-bounds, ArePlaces-range_with_len, IsOneOf-append}
use Rattle.shared_farm.specs.Answered.{own_places}
use Rattle.shared_farm.specs.Turns.{EntersInTurn, KeepsPass, failed_by}
use Rattle.shared_farm.proofs.Recorded.{repaired-begins}
use Rattle.farm_drill.specs.Passes.{IsByPlan, KeepsPlan}
use Rattle.farm_drill.specs.Planned.{AsksByPlan, IsPlannedAt}
use Rattle.farm_drill.proofs.Deciding.{after-decides, new-planned}
use Rattle.farm_drill.proofs.Handed.{decided-leased}
use Rattle.farm_drill.proofs.Planned.{asks-on, place-on}

-- a count that is 0 didn't rise
never-rose : (first last : ℕ) → last ≡ 0 → Rose first last → ⊥
never-rose first last none (inl less) = omega arith
never-rose first last none (inr (end, still)) = omega arith

-- over a disk that never fails no call fails by it
unfailed : {T : Type 0} (result : Result T CallFault) (first last : ℕ) → last ≡ 0 → HasCallCause result first last
    → failed_by result ≡ false
unfailed (Ok given) first last none cause = refl
unfailed (Err (Refused refusal)) first last none cause = refl
unfailed (Err (StoreFault before after)) first last none cause = absurd (never-rose first last none cause.2)
unfailed (Err Memory) first last none cause = refl

module _ {D : Type 0} where
  -- nothing was recorded
  none-own : (left : StoreState D) (place : ℕ) → left.recorded ≡ 0 → IsOneOf (own_places left) place → ⊥
  none-own left place none one =
      subst (λ (n : ℕ). IsOneOf (range_with_len (length left.history - n) n) place) none one

  -- what was recorded for an ask that goes by the plan
  answered-own : (q : Command) (m : Moment) (given : List Answer) (found left : StoreState D) (place : ℕ)
      → IsAnswered (record { command = q; at = m } ∷ []) given found left → AsksByPlan found.history q
      → IsOneOf (own_places left) place → IsPlannedAt left.history place
  answered-own q m given found left place is asks one =
      let R : List Entry = is.repaired in
      let begins : IsPrefix found.history R = repaired-begins found R is.found in
      let now : left.history ≡ after R (decide R q m) = is.history in
      let bounds =
      ArePlaces-bounds (length R) (length left.history) (own_places left) place
      (ArePlaces-range_with_len (length left.history - left.recorded) left.recorded (length R) (length left.history)
      (omega (arith, is.recorded)) (omega (arith, is.recorded))) one in
      subst (λ (G : List Entry). IsPlannedAt G place) (sym now)
      (new-planned R (decide R q m) place bounds.0
      (subst (λ (G : List Entry). place < length G) now bounds.1)
      (after-decides R q m (asks-on found.history R q begins asks)))

  called-own : (q : Command) (m : Moment) (answer : Result Reply CallFault) (found left : StoreState D) (place : ℕ)
      → CallSays q m answer found left → AsksByPlan found.history q → IsOneOf (own_places left) place
      → IsPlannedAt left.history place
  called-own q m (Ok reply) found left place says asks one =
      answered-own q m (answer.Done reply ∷ []) found left place says asks one
  called-own q m (Err (Refused refusal)) found left place says asks one =
      answered-own q m (answer.Refused refusal ∷ []) found left place says asks one
  called-own q m (Err (StoreFault before after)) found left place says asks one =
      ⊎_elim
      (λ (u : IsUnrepaired found left). absurd (none-own left place u.none one))
      (λ (u : IsUndecided (record { command = q; at = m } ∷ []) found left). absurd (none-own left place u.none one))
      says
  called-own q m (Err Memory) found left place says asks one = absurd (none-own left place says.none one)

  -- what a worker keeps of its pass where it enters a command that goes by the plan
  pub turn-keeps : (count : D → ℕ) → ((d : D) → count d ≡ 0) → (lock : TableId) (q : Command) (m : Moment)
      (result : Result (Option LeasedRun) CallFault) (old new : Known) → EntersInTurn count q m result old new
      → KeepsPass lock old new → IsByPlan old → AsksByPlan old.seen q → KeepsPlan old new
  turn-keeps count calm lock q m result old new turn keeps by asks =
      let faults : new.faults ≡ 0 = turn.faults_seen ∙ calm turn.left.disk in
      let unspent : failed_by result ≡ false =
      unfailed result (count turn.found.disk) (count turn.left.disk) (calm turn.left.disk) turn.cause in
      let rises : MayRise new.faults = subst MayRise (sym faults) (omega arith) in
      record {
        longer = keeps.longer;
        planned = λ place one. ⊎_elim
            (λ (before : IsOneOf old.mine place).
            place-on old.seen new.seen place keeps.longer (by.planned place before))
            (λ (own : IsOneOf (own_places turn.left) place).
            subst (λ (G : List Entry). IsPlannedAt G place) (sym turn.seen)
            (called-own q m turn.says.answer turn.found turn.left place turn.says.says
            (asks-on old.seen turn.found.history q turn.begins asks) own))
            (IsOneOf-append old.mine (own_places turn.left) place
            (subst (λ (ps : List ℕ). IsOneOf ps place) turn.mine one));
        pending = (keeps.settled by.pending (by.faults ∙ sym faults) rises).1;
        faults = faults;
        parts = keeps.parts;
        undecided = ap (λ (s : Stake). s.undecided) turn.stake
            ∙ ap (λ (b : Bool). (stake_after old.stake b turn.left.history turn.left.pending).undecided) unspent;
      }

  answered-leased : (q : Command) (m : Moment) (reply : Reply) (l : LeasedRun) (found left : StoreState D)
      → CallSays q m (Ok reply) found left → AsksByPlan found.history q → IsLegal left.history
      → handed_out reply ≡ Some l → lease_of left.history l.run ≡ Some l
  answered-leased q m reply l found left says asks legal hands =
      let is : IsAnswered (record { command = q; at = m } ∷ []) (answer.Done reply ∷ []) found left = says in
      let R : List Entry = is.repaired in
      let begins : IsPrefix found.history R = repaired-begins found R is.found in
      let now : left.history ≡ after R (decide R q m) = is.history in
      subst (λ (G : List Entry). lease_of G l.run ≡ Some l) (sym now)
      (decided-leased R (decide R q m) reply l (after-decides R q m (asks-on found.history R q begins asks))
      (subst IsLegal now legal) is.answers.0 hands)

  given-leased : (q : Command) (m : Moment) (answer : Result Reply CallFault) (l : LeasedRun)
      (found left : StoreState D) → Ok (Some l) ≡ run_given answer → CallSays q m answer found left
      → AsksByPlan found.history q
      → IsLegal left.history → lease_of left.history l.run ≡ Some l
  given-leased q m (Ok reply) l found left gives says asks legal =
      let same : ◌≡◌ {A = Result (Option LeasedRun) CallFault} (Ok (Some l)) (Ok (handed_out reply)) = gives in
      let hands : handed_out reply ≡ Some l = cc in answered-leased q m reply l found left says asks legal hands
  given-leased q m (Err f) l found left gives says asks legal = cc gives

  -- the run that is given of a command at a turn
  pub turn-leased : (count : D → ℕ) (lock : TableId) (q : Command) (m : Moment)
      (result : Result (Option LeasedRun) CallFault) (old new : Known) (l : LeasedRun)
      → EntersInTurn count q m result old new → KeepsPass lock old new → AsksByPlan old.seen q → result ≡ Ok (Some l)
      → lease_of new.seen l.run ≡ Some l
  turn-leased count lock q m result old new l turn keeps asks is =
      ap (λ (G : List Entry). lease_of G l.run) turn.seen
      ∙ given-leased q m turn.says.answer l turn.found turn.left (sym is ∙ turn.says.gives) turn.says.says
      (asks-on old.seen turn.found.history q turn.begins asks) (subst IsLegal turn.seen keeps.legal)
