-- What a store answers to one command while nothing is pending, and how its history grows.
use Rattle.std.proofs.Common.{◌≡◌, ◌≢◌, ◌++◌, ◌∷◌, ℕ, true, List, [], Result, Ok, Err, IfOk, OnOk, sym, ap, ◌∙◌}
use Rattle.std.proofs.Common.{⊎_elim, subst, append_assoc, inl, inr}
use Rattle.std.proofs.lemmas.List.{append-nil}
use Rattle.farm_types.specs.declared.moment.Moment.{Moment}
use Rattle.farm_disk.specs.declared.disk.Disk as disk
use Rattle.farm_disk.proofs.Moments.{leaves_only-weaker}
use Rattle.common_types.specs.Counts.{Rose}
use Rattle.farm_journal.specs.Faults.{HasCause, OnMemory, OnStoreFault}
use Rattle.farm_journal.specs.declared.fault.JournalFault.{JournalFault}
use Rattle.farm_journal.specs.declared.fault.JournalFault.TheVariants.{StoreFault, Memory}
use Rattle.farm_entry.specs.Answer.{IsAnswer}
use Rattle.farm_entry.specs.Decision.{decide}
use Rattle.farm_entry.specs.Legal.{IsLegal}
use Rattle.farm_entry.specs.Playing.{after}
use Rattle.farm_entry.specs.declared.answer.Answer.{Answer}
use Rattle.farm_entry.specs.declared.command.Command.{Command}
use Rattle.farm_entry.specs.declared.entry.Entry.{Entry}
use Rattle.farm_store.specs.Answering.{AnswerSays, IsAnswered, IsUndecided, IsUnrepaired}
use Rattle.farm_store.specs.Bytes.{StandsFor}
use Rattle.farm_store.specs.Keeping.{KeepsStore}
use Rattle.farm_store.specs.State.{IsLeft, IsRepaired, IsWithOrWithout, StoreState}
use Rattle.farm_script.specs.Images.{Grows, StandsBetween}
use Rattle.farm_script.proofs.Growing.{between-first, between-last}

-- where nothing was pending a repair leaves the history as it was
repaired-same : {D : Type 0} (old : StoreState D) (H : List Entry) → old.pending ≡ [] → IsRepaired old H
    → H ≡ old.history
repaired-same old H none (inl same) = same
repaired-same old H none (inr kept) =
    kept ∙ ap (λ (p : List Entry). old.history ++ p) none ∙ append-nil old.history

-- a command was decided at the history, and what it adds is in the history, or pending
pub record OneAnswered {D : Type 0} (q : Command) (m : Moment) (result : Result Answer JournalFault)
    (old new : StoreState D) : Type 0 where
  pub answer : IfOk result (IsAnswer old.history (decide old.history q m))
  pub history : OnOk result (new.history ≡ after old.history (decide old.history q m))
  pub legal : OnOk result (IsLegal new.history)
  pub decided : OnOk result (new.pending ≡ [])
  pub store_fault : OnStoreFault result ((new.history ≡ old.history) × (new.pending ≢ [])
      × (old.history ++ new.pending ≡ after old.history (decide old.history q m)))
  pub memory : OnMemory result ((new.pending ≡ []) × (new.history ≡ old.history))

-- the disk failed as the new entry was stored
one-undecided : {D : Type 0} (q : Command) (m : Moment) (old new : StoreState D) → old.pending ≡ []
    → IsUndecided (record { command = q; at = m } ∷ []) old new
    → (new.history ≡ old.history) × (new.pending ≢ [])
    × (old.history ++ new.pending ≡ after old.history (decide old.history q m))
one-undecided q m old new none said =
    let same : new.history ≡ old.history = repaired-same old new.history none said.found in (
      same,
      said.some,
      ap (λ (H : List Entry). H ++ new.pending) (sym same) ∙ said.all
          ∙ ap (λ (H : List Entry). after H (decide H q m)) same,
    )

-- what a store answered to one command, where nothing was pending
pub one-answered : {D : Type 0} (q : Command) (m : Moment) (result : Result Answer JournalFault)
    (old new : StoreState D) → old.pending ≡ [] → IsLegal (new.history ++ new.pending)
    → AnswerSays q m result old new → OneAnswered q m result old new
one-answered q m (Ok a) old new none legal said =
    let same : said.repaired ≡ old.history = repaired-same old said.repaired none said.found in
    let all : new.history ++ new.pending ≡ new.history =
    ap (λ (p : List Entry). new.history ++ p) said.decided ∙ append-nil new.history in
    record {
      answer = subst (λ (H : List Entry). IsAnswer H (decide H q m) a) same said.answers.0;
      history = said.history ∙ ap (λ (H : List Entry). after H (decide H q m)) same;
      legal = subst (λ (H : List Entry). IsLegal H) all legal;
      decided = said.decided;
      store_fault = tt;
      memory = tt;
    }
one-answered q m (Err (StoreFault first last)) old new none legal said = record {
  answer = tt;
  history = tt;
  legal = tt;
  decided = tt;
  store_fault = ⊎_elim
      (λ (torn : IsUnrepaired old new). absurd (torn.some none))
      (λ (torn : IsUndecided (record { command = q; at = m } ∷ []) old new). one-undecided q m old new none torn)
      said;
  memory = tt;
}
one-answered q m (Err Memory) old new none legal said = record {
  answer = tt;
  history = tt;
  legal = tt;
  decided = tt;
  store_fault = tt;
  memory = (said.decided, repaired-same old new.history none said.found);
}

-- a fault of the disk that a call answered rose in it
pub cause-rises : {T : Type 0} (result : Result T JournalFault) (first last : ℕ) → HasCause result first last
    → OnStoreFault result (Rose first last)
cause-rises (Ok done) first last cause = tt
cause-rises (Err (StoreFault before after)) first last cause = cause.2
cause-rises (Err Memory) first last cause = tt

-- what a call leaves is a history between the two
left-between : {D : Type 0} (old new : StoreState D) (more : List Entry) → old.pending ≡ []
    → new.history ≡ old.history ++ more → (c : List ℕ) → IsLeft old new c
    → StandsBetween StandsFor old.history (new.history ++ new.pending) c
left-between old new more none longer c left =
    let on : new.history ++ new.pending ≡ old.history ++ (more ++ new.pending) =
    ap (λ (l : List Entry). l ++ new.pending) longer ∙ append_assoc old.history more new.pending in
    let first : StandsFor old.history c → StandsBetween StandsFor old.history (new.history ++ new.pending) c =
    λ stood. subst (λ (l : List Entry). StandsBetween StandsFor old.history l c) (sym on)
    (between-first StandsFor old.history (more ++ new.pending) c stood) in
    let nothing : old.history ++ old.pending ≡ old.history =
    ap (λ (p : List Entry). old.history ++ p) none ∙ append-nil old.history in
    ⊎_elim
    (λ (before : IsWithOrWithout old.history old.pending c). ⊎_elim
    (λ (without : StandsFor old.history c). first without)
    (λ (with_all : StandsFor (old.history ++ old.pending) c).
    first (subst (λ (l : List Entry). StandsFor l c) nothing with_all))
    before)
    (λ (now : StandsFor (new.history ++ new.pending) c).
    subst (λ (l : List Entry). StandsBetween StandsFor old.history l c) (sym on)
    (between-last StandsFor old.history (more ++ new.pending) c
    (subst (λ (l : List Entry). StandsFor l c) on now)))
    left

-- so the history of a store grew, on a disk of which this is meant
pub store-grows : {D : Type 0} (meant : disk.Ghosts D) (Answered : Type 0 → Type 0) (old new : StoreState D)
    → old.pending ≡ [] → KeepsStore meant Answered old new
    → Grows (λ (s : StoreState D). meant.tells s.disk) (λ (s : StoreState D). meant.told s.disk) StandsFor
    (λ (s : StoreState D). s.history) (λ (s : StoreState D). s.pending) old new
store-grows meant Answered old new none keeps = record {
  same = keeps.same;
  more = keeps.longer.0;
  longer = keeps.longer.1;
  rests = λ tell rested. record { reads = (keeps.stored tell).reads; images = (keeps.stored tell).images };
  each = λ tell rested. leaves_only-weaker (meant.told old.disk) (meant.told new.disk) (IsLeft old new)
      (StandsBetween StandsFor old.history (new.history ++ new.pending))
      (left-between old new keeps.longer.0 none keeps.longer.1) (keeps.any_moment tell);
}
