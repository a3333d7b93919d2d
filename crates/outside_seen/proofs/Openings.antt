-- What a crash leaves as a disk is opened and then goes on.
use Rattle.std.proofs.Common.{◌≡◌, ◌++◌, ◌+◌, ◌<◌, ◌≤◌, ℕ, true, List, [], ◌∷◌, length, sym, subst, ⊎_elim, length-append, arith}
use Rattle.std.proofs.lemmas.Bool.{cases_lt}
use Rattle.farm_disk.proofs.Moments.{leaves-append, leaves-later, leaves-weaker, leaves_only-trans}
use Rattle.farm_disk.specs.Images.{DiskState, IsSettled, IsSyncedAt, LeavesOnly, LeavesSince, LeavesSinceSync, Step, cut, moment, still, sync, write}
use Rattle.farm_disk.specs.declared.disk.Disk as disk
use Rattle.farm_entry.specs.Legal.{IsLegal}
use Rattle.farm_journal.proofs.OpeningSteps.{reads-leaves}
use Rattle.farm_journal.specs.ReadsOnly.{ReadsOnly}
use Rattle.farm_store.specs.Bytes.{StandsFor}
use Rattle.farm_store.specs.State.{IsStored, StoreState}

-- a sync at a moment that has passed is among the steps up to then
synced-before : (more steps : List Step) (t : ℕ) → t ≤ length steps → IsSyncedAt (more ++ steps) t → IsSyncedAt steps t
synced-before [] steps t low at = at
synced-before (still ∷ more) steps t low at = synced-before more steps t low at
synced-before (write from n ∷ more) steps t low at = synced-before more steps t low at
synced-before (cut n ∷ more) steps t low at = synced-before more steps t low at
synced-before (sync bytes ∷ more) steps t low at = ⊎_elim
    (λ (here : t ≡ length (more ++ steps) + 1). absurd (omega (arith, length-append more steps, low, here)))
    (λ (before : IsSyncedAt (more ++ steps) t). synced-before more steps t low before)
    at

-- what was left as a disk was only read and then of what came after, since the first sync of the reading
pub since_sync-opened : (old mid new : DiskState) (P : List ℕ → Type 0) → P old.bytes → ReadsOnly old mid
    → LeavesOnly mid new P → LeavesSinceSync old new P
since_sync-opened old mid new P holds only leaves t later at =
    let same : (c : List ℕ) → c ≡ old.bytes → P c = λ c is. subst P (sym is) holds in
    ⊎_elim
    (λ (past : moment mid < t). leaves-later (moment mid) t new.steps P (omega (arith, past)) leaves.each)
    (λ (low : t ≤ moment mid).
    let at_mid : IsSyncedAt mid.steps t =
    synced-before leaves.since mid.steps t low (subst (λ (l : List Step). IsSyncedAt l t) leaves.extends at) in
    let first : LeavesSince t mid.steps P =
    leaves-weaker t mid.steps (λ (c : List ℕ). c ≡ old.bytes) P same (only.since_sync t later at_mid) in
    let last : LeavesSince (moment mid) (leaves.since ++ mid.steps) P =
    subst (λ (l : List Step). LeavesSince (moment mid) l P) leaves.extends leaves.each in
    subst (λ (l : List Step). LeavesSince t l P) (sym leaves.extends)
    (leaves-append t leaves.since mid.steps P first last))
    (cases_lt (moment mid) t)

-- the same since the start, where the one image was what a read gave
pub any_moment-opened : (old mid new : DiskState) (P : List ℕ → Type 0) → P old.bytes → ReadsOnly old mid
    → LeavesOnly mid new P → IsSettled old → LeavesOnly old new P
any_moment-opened old mid new P holds only leaves settled =
    leaves_only-trans old mid new P
    (reads-leaves old mid only P (λ c image. subst P (sym (settled c image)) holds) holds)
    leaves

-- what is known of a store that was opened on a disk
pub record WasOpened {D : Type 0} (meant : disk.Ghosts D) (store : StoreState D) (old : D) : Type 0 where
  pub none : store.pending ≡ []
  pub same : meant.tells store.disk ≡ meant.tells old
  pub held : meant.tells old ≡ true → StandsFor store.history (meant.told old).bytes
  pub legal : IsLegal store.history
  pub stored : meant.tells old ≡ true → IsStored store.history [] (meant.told store.disk)
  pub only : meant.tells old ≡ true → ReadsOnly (meant.told old) (meant.told store.disk)
  pub never_falls : meant.count old ≤ meant.count store.disk
