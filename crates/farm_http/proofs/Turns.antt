-- What one turn at the shared farm gives the items of a batch.
use Rattle.std.proofs.Common.{Bool, true, false, ℕ, ◌≡◌, ◌≤◌, ◌+◌, ◌-◌, inl, inr, List, ◌++◌, length, Result, Ok, Err, sym, ap, ◌∙◌, subst, arith, append-nil}
use Rattle.farm_entry.specs.declared.entry.Entry.{Entry}
use Rattle.farm_store.specs.Answering.{AreAnswers, history_after}
use Rattle.farm_store.specs.State.{StoreState, IsRepaired}
use Rattle.farm_entry.specs.declared.answer.Answer.{Answer}
use Rattle.farm_store.specs.declared.asking.Ask.{Ask}
use Rattle.farm_store.specs.declared.asking.CallFault.{CallFault}
use Rattle.farm_store.specs.declared.asking.CallFault.TheVariants as fault
use Rattle.common_types.specs.Prefix.{IsPrefix}
use Rattle.common_types.proofs.Prefixes.{IsPrefix-refl, IsPrefix-trans, IsPrefix-append}
use Rattle.shared_farm.specs.Answered.{FitRecord}
use Rattle.shared_farm.specs.Turns.{IsTurn, failed_by}
use Rattle.std.specs.List.{range_with_len}
use Rattle.common_types.specs.Counts.{Rose}
use Rattle.turn_lock.specs.Known.{Known, stake_after}
use Rattle.connection_laws.specs.Batches.{AreAnsweredBy}
use Rattle.connection_laws.specs.Progress.{Progress, IsWithin, recorded_places}
use Rattle.connection_laws.specs.Outcomes.{Step}
use Rattle.connection_laws.proofs.Batches.{answered-places}
use Rattle.farm_http.specs.Callers.{mark_of}

-- A turn answered: at a history that begins with what was carried, which the pass had seen. The pass has then seen the
-- history after the batch, and keeps the places of what it recorded.
pub record IsAnsweredTurn (c : Progress) (asks : List Ask) (answers : List Answer) (old new : Known) : Type 0 where
  pub at : List Entry
  pub begins : IsPrefix c.seen at
  pub answered : AreAnswers at asks answers
  pub seen : new.seen ≡ history_after at asks
  pub places : (steps : List Step) → AreAnsweredBy at asks answers steps → new.mine ≡ old.mine ++ recorded_places steps
  pub stake : new.stake ≡ old.stake

-- a turn ended without an answer: the pass keeps no place of it, and holds what it left undecided, where it failed
pub record IsUnansweredTurn (c : Progress) (failed : Bool) (old new : Known) : Type 0 where
  pub begins : IsPrefix c.seen new.seen
  pub mine : new.mine ≡ old.mine
  pub pending : List Entry
  pub stake : new.stake ≡ stake_after old.stake failed new.seen pending
  pub fit : FitRecord pending

-- a turn ended by a fault of the disk, from one count to another
pub record IsFailedTurn (c : Progress) (before count : ℕ) (old new : Known) : Type 0 where
  pub unanswered : IsUnansweredTurn c true old new
  pub first : c.faults ≤ before
  pub rose : Rose before count
  pub last : new.faults ≡ count

none_kept : (history : List Entry) (recorded : ℕ) (mine : List ℕ) → recorded ≡ 0
    → mine ++ range_with_len (length history - recorded) recorded ≡ mine
none_kept history recorded mine none =
    ap (λ (n : ℕ). mine ++ range_with_len (length history - n) n) none ∙ append-nil mine

places_from : (H L : List Entry) (recorded : ℕ) (mine : List ℕ) (asks : List Ask) (answers : List Answer)
    (steps : List Step)
    → L ≡ history_after H asks → length L ≡ length H + recorded → AreAnsweredBy H asks answers steps
    → mine ++ range_with_len (length L - recorded) recorded ≡ mine ++ recorded_places steps
places_from H L recorded mine asks answers steps left len s =
    let all : length (history_after H asks) ≡ length H + recorded = ap (λ (l : List Entry). length l) (sym left)
    ∙ len in
    let start : length L - recorded ≡ length H = omega arith in
    ap (λ (k : ℕ). mine ++ range_with_len k recorded) start
    ∙ ap (λ (l : List ℕ). mine ++ l) (sym (answered-places H asks answers steps recorded s all))

module _ {D : Type 0} where
  pub repaired-longer : (old : StoreState D) (H : List Entry) → IsRepaired old H → IsPrefix old.history H
  repaired-longer old H (inl same) = subst (λ (l : List Entry). IsPrefix old.history l) (sym same)
      (IsPrefix-refl old.history)
  repaired-longer old H (inr same) =
      subst (λ (l : List Entry). IsPrefix old.history l) (sym same) (IsPrefix-append old.history old.pending)

  pub turn-answered : (count : D → ℕ) (c : Progress) (asks : List Ask) (answers : List Answer) (old new : Known)
      → IsWithin c (mark_of old c.totals) → IsTurn count asks (Ok answers) old new → IsAnsweredTurn c asks answers old
      new
  turn-answered count c asks answers old new w t =
      let says = t.says in
      record {
        at = says.repaired;
        begins =
            IsPrefix-trans c.seen old.seen says.repaired w.seen
            (IsPrefix-trans old.seen t.found.history says.repaired t.begins
            (repaired-longer t.found says.repaired says.found));
        answered = says.answers;
        seen = t.seen ∙ says.history;
        places = λ steps s.
            t.mine ∙ places_from says.repaired t.left.history t.left.recorded old.mine asks answers steps says.history
            says.recorded s;
        stake = t.stake;
      }

  unanswered : (count : D → ℕ) (c : Progress) (asks : List Ask) (result : Result (List Answer) CallFault)
      (old new : Known)
      → IsWithin c (mark_of old c.totals) → (t : IsTurn count asks result old new) → IsPrefix t.found.history
      t.left.history
      → t.left.recorded ≡ 0 → IsUnansweredTurn c (failed_by result) old new
  unanswered count c asks result old new w t longer none = record {
    begins =
        IsPrefix-trans c.seen old.seen new.seen w.seen
        (subst (λ (l : List Entry). IsPrefix old.seen l) (sym t.seen)
        (IsPrefix-trans old.seen t.found.history t.left.history t.begins longer));
    mine = t.mine ∙ none_kept t.left.history t.left.recorded old.mine none;
    pending = t.left.pending;
    stake = t.stake
        ∙ ap (λ (H : List Entry). stake_after old.stake (failed_by result) H t.left.pending) (sym t.seen);
    fit = t.fit;
  }

  pub turn-failed : (count : D → ℕ) (c : Progress) (asks : List Ask) (before after : ℕ) (old new : Known)
      → IsWithin c (mark_of old c.totals) → IsTurn count asks (Err (fault.StoreFault before after)) old new
      → IsFailedTurn c before after old new
  turn-failed count c asks before after old new w t =
      let cause = t.cause in let low = w.faults in let met = t.faults in
      let begun = cause.0 in
      let both : IsPrefix t.found.history t.left.history × (t.left.recorded ≡ 0) =
      elim t.says as (λ _. IsPrefix t.found.history t.left.history × (t.left.recorded ≡ 0)) [
        | inl u ↦ (
          subst (λ (l : List Entry). IsPrefix t.found.history l) (sym u.history)
              (IsPrefix-refl t.found.history),
          u.none,
        )
        | inr u ↦ (repaired-longer t.found t.left.history u.undecided.found, u.undecided.none)
      ] in
      record {
        unanswered = unanswered count c asks (Err (fault.StoreFault before after)) old new w t both.0 both.1;
        first = omega arith;
        rose = subst (λ (a : ℕ). Rose a after) (sym cause.0)
            (subst (λ (b : ℕ). Rose (count t.found.disk) b) (sym cause.1) cause.2);
        last = t.faults_seen ∙ sym cause.1;
      }

  pub turn-uncalled : (count : D → ℕ) (c : Progress) (asks : List Ask) (old new : Known)
      → IsWithin c (mark_of old c.totals) → IsTurn count asks (Err fault.Memory) old new
      → IsUnansweredTurn c false old new
  turn-uncalled count c asks old new w t =
      unanswered count c asks (Err fault.Memory) old new w t (repaired-longer t.found t.left.history t.says.found)
      t.says.none
