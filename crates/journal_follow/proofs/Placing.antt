-- What holds of each place where a follower keeps its history, and what its disk shows.
use Rattle.std.proofs.Common.{◌≡◌, ◌≢◌, ◌⊎◌, inl, inr, ⊎_elim, ℕ, zero, suc, ◌+◌, ◌≤◌, Bool, true, false, List, [], ◌∷◌, ◌++◌}
use Rattle.std.proofs.Common.{length, drop, take, Option, Some, None, refl, sym, ◌∙◌, ap, subst, arith}
use Rattle.std.specs.Prelude.{Result, Ok, Err, ◌==◌, if◌then◌else◌}
use Rattle.std.proofs.lemmas.List.{append-nil}
use Rattle.farm_disk.specs.Answers.{rested}
use Rattle.farm_disk.specs.Images.{DiskState, EachImage, LeavesOnly}
use Rattle.farm_disk.specs.Model.{IsSound}
use Rattle.farm_disk.specs.declared.disk.Disk as disk
use Rattle.farm_disk.proofs.Moments.{leaves_only-now, leaves_only-start, leaves_only-weaker}
use Rattle.farm_entry.specs.Legal.{IsLegal}
use Rattle.farm_entry.specs.declared.entry.Entry.{Entry}
use Rattle.farm_journal.specs.Created.{IsUnborn}
use Rattle.farm_journal.specs.Layout.{Opening, damaged, header_fault, holds, is_unborn, is_whole, opens, opens_born}
use Rattle.farm_journal.specs.Layout.{records, told_length, unborn, with_payload}
use Rattle.farm_journal.specs.ReadsOnly.{ReadsOnly}
use Rattle.farm_journal.specs.declared.layout.TheConstants.{FIRST_GATE}
use Rattle.farm_journal.proofs.OpeningSteps.{reads-leaves}
use Rattle.farm_store.specs.Admitted.{IsAdmitted, IsAdmitting, IsStuckAt}
use Rattle.farm_store.specs.Answering.{IsUnanswered, IsUnrepaired}
use Rattle.farm_store.specs.Bytes.{StandsFor}
use Rattle.farm_store.specs.Damage.{IsDamagedAt}
use Rattle.farm_store.specs.Founded.{IsUnbornOr}
use Rattle.farm_store.specs.Keeping.{KeepsStore}
use Rattle.farm_store.specs.State.{IsAsBefore, StoreState}
use Rattle.farm_store.specs.State as store
use Rattle.farm_store.proofs.Admissions.{legal-not_nil}
use Rattle.farm_store.proofs.Calls.{repaired-idle}
use Rattle.farm_store.proofs.Excluded.{damaged-born, stands-born, stands-not_damaged}
use Rattle.farm_store.proofs.Standing.{stands-unique}
use Rattle.common_types.specs.Counts.{Rose}
use Rattle.journal_follow.specs.Page.{MayBeHeld}
use Rattle.journal_follow.specs.Taking.{Held}
use Rattle.journal_follow.specs.Inside.{HasCountFrom, IsBegunDisk, IsOfRepair, IsOpen, IsUnbornDisk, Mends, Puts, Stores}
use Rattle.journal_follow.specs.Inside.{on_disk}
use Rattle.journal_follow.specs.Shown.{ShowsLeft}
use Rattle.journal_follow.specs.Taken.{IsSoundly}
use Rattle.journal_follow.specs.declared.fault.FollowFault.{FollowFault}
use Rattle.journal_follow.specs.declared.fault.FollowFault.TheVariants as fault
use Rattle.journal_follow.proofs.Holding.{on_memory}
use Rattle.journal_follow.proofs.Legals.{legal-may}
use Rattle.journal_follow.proofs.Showing.{begun-shows, decided-left, just, now-left, stands-shows, store-left, with_pending}

-- What opens to nothing.

holds-not-unborn : (ps : List (List ℕ)) → holds ps ≡ unborn → ⊥
holds-not-unborn ps same = cc

damaged-not-unborn : (o : ℕ) → damaged o ≡ unborn → ⊥
damaged-not-unborn o same = cc

with-born : (p : List ℕ) (more : Opening) → (more ≡ unborn → ⊥) → with_payload p more ≡ unborn → ⊥
with-born p unborn born same = born refl
with-born p (damaged o) born same = damaged-not-unborn o same
with-born p (holds ps) born same = holds-not-unborn (p ∷ ps) same

chosen-born : (a b : Bool) (o : ℕ) (p : List ℕ) (more : Opening) → (more ≡ unborn → ⊥)
    → (if a then holds [] else if b then with_payload p more else damaged o) ≡ unborn → ⊥
chosen-born true b o p more born same = holds-not-unborn [] same
chosen-born false true o p more born same = with-born p more born same
chosen-born false false o p more born same = damaged-not-unborn o same

records-born : (n o : ℕ) (bytes : List ℕ) → records n o bytes ≡ unborn → ⊥
records-born zero o bytes same = damaged-not-unborn o same
records-born (suc n) o [] same = damaged-not-unborn o same
records-born (suc n) o (gate ∷ rest) same =
    chosen-born (gate == 0) (is_whole rest) o (take (told_length rest) (drop 4 rest))
    (records n (o + 5 + told_length rest) (drop (4 + told_length rest) rest))
    (records-born n (o + 5 + told_length rest) (drop (4 + told_length rest) rest)) same

born-by : (b : Bool) (found : Option ℕ) (bytes : List ℕ) → (if b then unborn else opens_born found bytes) ≡ unborn
    → b ≡ true
born-by true found bytes same = refl
born-by false (Some o) bytes same = absurd (damaged-not-unborn o same)
born-by false None bytes same = absurd (records-born (length bytes) FIRST_GATE (drop FIRST_GATE bytes) same)

-- what opens to nothing is unborn
pub unborn-test : (bytes : List ℕ) → opens bytes ≡ unborn → is_unborn bytes ≡ true
unborn-test bytes none = born-by (is_unborn bytes) (header_fault bytes) bytes none

-- where nothing is left of a creation
pub unborn-moment : (disk : DiskState) (new : Held) → IsUnbornDisk disk
    → LeavesOnly disk disk (ShowsLeft (just []) new)
unborn-moment disk new none = leaves_only-start disk (ShowsLeft (just []) new)
    (λ c image. decided-left (just []) new c ([], inl refl, none.images c image))

-- Reopening.

module _ (H : List Entry) (old new : DiskState) (begun : IsBegunDisk H old) (only : ReadsOnly old new) where
  -- the same may still be there
  pub begun-again : IsBegunDisk H new
  begun-again = record {
    reads = subst (IsUnbornOr H) (sym only.bytes) begun.reads;
    images = leaves_only-now old new (IsUnbornOr H)
        (reads-leaves old new only (IsUnbornOr H) begun.images begun.reads);
  }

  -- each image shows what was held, with or without what is pending
  pub begun-moment : (held : Held) → LeavesOnly old new (ShowsLeft (with_pending [] H) held)
  begun-moment held = reads-leaves old new only (ShowsLeft (with_pending [] H) held)
      (λ c image. decided-left (with_pending [] H) held c (begun-shows H c (begun.images c image)))
      (decided-left (with_pending [] H) held old.bytes (begun-shows H old.bytes begun.reads))

  -- the history is there, where one is
  pub begun-just : (K : List Entry) → StandsFor K old.bytes → K ≡ H
  begun-just K stands = ⊎_elim
      (λ (none : IsUnborn old.bytes). absurd (stands-born K old.bytes stands none))
      (λ (one : StandsFor H old.bytes). stands-unique K H old.bytes stands one)
      begun.reads

  pub begun-not_damaged : (o : ℕ) → IsDamagedAt old.bytes o → ⊥
  begun-not_damaged o damaged_at = ⊎_elim
      (λ (none : IsUnborn old.bytes). damaged-born old.bytes o damaged_at none)
      (λ (one : StandsFor H old.bytes). stands-not_damaged H old.bytes o one damaged_at)
      begun.reads

-- what is held, from its parts
pub held-is : (H P K Q : List Entry) → H ≡ K → P ≡ Q → with_pending H P ≡ with_pending K Q
held-is H P K Q one two = ap (λ (l : List Entry). with_pending l P) one ∙ ap (λ (l : List Entry). with_pending K l) two

module _ {D : Type 0} (meant : disk.Ghosts D) (before : ℕ) where
  -- nothing was created yet
  pub unborn-mends : (a : D) → (meant.tells a ≡ true → IsUnbornDisk (meant.told a))
      → Mends before (Ok tt) (on_disk meant.tells meant.told meant.count a [] [])
      (on_disk meant.tells meant.told meant.count a [] [])
  unborn-mends a unborn_now = record {
    same = refl;
    repairs = (inl refl, refl);
    idle = λ none. record { disk = refl; count = refl };
    any_moment = λ t. unborn-moment (meant.told a) (just []) (unborn_now t);
    soundly = λ t. tt;
    memory = tt;
    cause = tt;
    never_falls = omega arith;
  }

  pub unborn-puts : (a : D) (entries : List Entry) (r : Result (Unit {0}) FollowFault)
      → (meant.tells a ≡ true → IsUnbornDisk (meant.told a)) → Stores (meant.tells a) 0 entries [] r (just [])
      → HasCountFrom before r (meant.count a) (meant.count a)
      → Puts before 0 entries r (on_disk meant.tells meant.told meant.count a [] [])
      (on_disk meant.tells meant.told meant.count a [] [])
  unborn-puts a entries r unborn_now stores cause = record {
    same = refl;
    stores = stores;
    any_moment = λ t. unborn-moment (meant.told a) (just []) (unborn_now t);
    cause = cause;
    never_falls = omega arith;
  }

  -- a store that was begun and is still undecided
  pub begun-mends : (H : List Entry) (a b : D) (f : FollowFault) → IsLegal H → meant.tells b ≡ meant.tells a
      → (meant.tells a ≡ true → IsBegunDisk H (meant.told a))
      → (meant.tells a ≡ true → ReadsOnly (meant.told a) (meant.told b)) → IsOfRepair f
      → (meant.tells a ≡ true → IsSoundly {T = Unit {0}} (Err f))
      → HasCountFrom {T = Unit {0}} before (Err f) (meant.count a) (meant.count b) → meant.count a ≤ meant.count b
      → Mends before (Err f) (on_disk meant.tells meant.told meant.count a [] H)
      (on_disk meant.tells meant.told meant.count b [] H)
  begun-mends H a b f legal same begun only repair sound cause falls = record {
    same = same;
    repairs = (repair, legal-not_nil H legal, refl);
    idle = λ none. absurd (legal-not_nil H legal none);
    any_moment = λ t. begun-moment H (meant.told a) (meant.told b) (begun t) (only t) (with_pending [] H);
    soundly = sound;
    memory = on_memory {T = Unit {0}} (Err f) ([] ≡ []) refl;
    cause = cause;
    never_falls = falls;
  }

  -- it turned out what is there
  pub begun-decided : (H : List Entry) (a b : D) (new : Held) → IsLegal H → meant.tells b ≡ meant.tells a
      → (meant.tells a ≡ true → IsBegunDisk H (meant.told a))
      → (meant.tells a ≡ true → ReadsOnly (meant.told a) (meant.told b)) → meant.count a ≤ meant.count b
      → (new.history ≡ []) ⊎ (new.history ≡ [] ++ H) → new.pending ≡ []
      → Mends before (Ok tt) (on_disk meant.tells meant.told meant.count a [] H)
      (on_disk meant.tells meant.told meant.count b new.history new.pending)
  begun-decided H a b new legal same begun only falls found none = record {
    same = same;
    repairs = (found, none);
    idle = λ empty. absurd (legal-not_nil H legal empty);
    any_moment = λ t. begun-moment H (meant.told a) (meant.told b) (begun t) (only t)
        (with_pending new.history new.pending);
    soundly = λ t. tt;
    memory = tt;
    cause = tt;
    never_falls = falls;
  }

  -- a call on a store
  module _ {Answered : Type 0 → Type 0} (old new : StoreState D) (keeps : KeepsStore meant Answered old new) where
    pub store-open : IsOpen meant.tells meant.told meant.count new
    store-open = record { legal = keeps.legal; stored = λ t. keeps.stored (sym keeps.same ∙ t) }

    store-moment : meant.tells old.disk ≡ true → LeavesOnly (meant.told old.disk) (meant.told new.disk)
        (ShowsLeft (with_pending old.history old.pending) (with_pending new.history new.pending))
    store-moment t = leaves_only-weaker (meant.told old.disk) (meant.told new.disk) (store.IsLeft old new)
        (ShowsLeft (with_pending old.history old.pending) (with_pending new.history new.pending))
        (λ c left. store-left old new c left) (keeps.any_moment t)

    -- it is decided what was pending
    pub store-mends : IsUnanswered old new
        → (old.pending ≡ [] → new.history ≡ old.history → new.disk ≡ old.disk)
        → Mends before (Ok tt) (on_disk meant.tells meant.told meant.count old.disk old.history old.pending)
        (on_disk meant.tells meant.told meant.count new.disk new.history new.pending)
    store-mends says untouched = record {
      same = keeps.same;
      repairs = (says.found, says.decided);
      idle = λ none.
          let is = untouched none (repaired-idle old new.history none says.found) in
          record { disk = ap meant.told is; count = ap meant.count is };
      any_moment = store-moment;
      soundly = λ t. tt;
      memory = tt;
      cause = tt;
      never_falls = keeps.never_falls;
    }

    -- all as before
    pub store-unmended : (first after : ℕ) → IsUnrepaired old new
        → HasCountFrom {T = Unit {0}} before (Err (fault.StoreFault first after)) (meant.count old.disk)
        (meant.count new.disk)
        → Mends before (Err (fault.StoreFault first after))
        (on_disk meant.tells meant.told meant.count old.disk old.history old.pending)
        (on_disk meant.tells meant.told meant.count new.disk new.history new.pending)
    store-unmended first after says cause = record {
      same = keeps.same;
      repairs = (tt, says.some, held-is new.history new.pending old.history old.pending says.history says.pending);
      idle = λ none. absurd (says.some none);
      any_moment = store-moment;
      soundly = λ t. tt;
      memory = tt;
      cause = cause;
      never_falls = keeps.never_falls;
    }

    -- entries were to be stored
    pub store-puts : (place : ℕ) (entries : List Entry) (r : Result (Unit {0}) FollowFault)
        → Stores (meant.tells old.disk) place entries old.history r (with_pending new.history new.pending)
        → HasCountFrom before r (meant.count old.disk) (meant.count new.disk)
        → Puts before place entries r (on_disk meant.tells meant.told meant.count old.disk old.history old.pending)
        (on_disk meant.tells meant.told meant.count new.disk new.history new.pending)
    store-puts place entries r stores cause = record {
      same = keeps.same;
      stores = stores;
      any_moment = store-moment;
      cause = cause;
      never_falls = keeps.never_falls;
    }

    legal-all : (H P entries : List Entry) → new.history ≡ H → new.pending ≡ P → H ++ P ≡ old.history ++ entries
        → MayBeHeld (old.history ++ entries)
    legal-all H P entries one two whole =
        legal-may (old.history ++ entries)
        (subst IsLegal (ap (λ (l : List Entry). l ++ new.pending) one ∙ ap (λ (l : List Entry). H ++ l) two ∙ whole)
        keeps.legal)

    -- all of them were
    pub stores-all : (tells : Bool) (place : ℕ) (entries : List Entry) → IsAdmitted entries old new
        → Stores tells place entries old.history (Ok tt) (with_pending new.history new.pending)
    stores-all tells place entries says = (
      legal-all (old.history ++ entries) [] entries says.history says.decided (append-nil (old.history ++ entries)),
      held-is new.history new.pending (old.history ++ entries) [] says.history says.decided,
    )

    -- it is undecided whether they were
    pub stores-torn : (tells : Bool) (place first after : ℕ) (entries : List Entry) → IsAdmitting entries old new
        → Stores tells place entries old.history (Err (fault.StoreFault first after))
        (with_pending new.history new.pending)
    stores-torn tells place first after entries says = (
      legal-all old.history entries entries says.history says.pending refl,
      held-is new.history new.pending old.history entries says.history says.pending,
    )

    -- none of them was
    pub stores-none : IsAsBefore old new → with_pending new.history new.pending ≡ just old.history
    stores-none says = held-is new.history new.pending old.history [] says.history says.decided

-- Creating.

pub rested-unborn : (disk now : DiskState) → now ≡ rested disk → IsSound disk → EachImage disk.steps IsUnborn
    → IsUnbornDisk now
rested-unborn disk now is sound each = subst IsUnbornDisk (sym is) (record {
  reads = each disk.bytes sound.image;
  images = λ c image. each c image;
})

pub rested-begun : (H : List Entry) (disk now : DiskState) → now ≡ rested disk → IsSound disk
    → EachImage disk.steps (IsUnbornOr H) → IsBegunDisk H now
rested-begun H disk now is sound each = subst (IsBegunDisk H) (sym is) (record {
  reads = each disk.bytes sound.image;
  images = λ c image. each c image;
})

-- each moment of a creation shows nothing, or the history
pub created-moment : (H : List Entry) (a b : DiskState) (new : Held) → new.history ++ new.pending ≡ H
    → LeavesOnly a b (IsUnbornOr H) → LeavesOnly a b (ShowsLeft (just []) new)
created-moment H a b new whole leaves =
    leaves_only-weaker a b (IsUnbornOr H) (ShowsLeft (just []) new)
    (λ c one. ⊎_elim
    (λ (none : IsUnborn c). decided-left (just []) new c ([], inl refl, none))
    (λ (stands : StandsFor H c). now-left (just []) new c
    (stands-shows (new.history ++ new.pending) c (subst (λ (l : List Entry). StandsFor l c) (sym whole) stands)))
    one) leaves

-- each moment of a creation that found no memory shows nothing
pub unborn-left : (a b : DiskState) → LeavesOnly a b IsUnborn → LeavesOnly a b (ShowsLeft (just []) (just []))
unborn-left a b leaves =
    leaves_only-weaker a b IsUnborn (ShowsLeft (just []) (just []))
    (λ c none. decided-left (just []) (just []) c ([], inl refl, none)) leaves
