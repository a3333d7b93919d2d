-- What each step of opening leaves.
use Rattle.std.proofs.Common.{◌≡◌, ◌⊎◌, inl, inr, ⊎_elim, ℕ, List, ◌∷◌, Result, Ok, Err, refl, sym, ◌∙◌, ap, subst, arith}
use Rattle.farm_disk.specs.Images.{DiskState, EachImage, IsImage, IsSettled, LeavesOnly, LeavesSinceSync, sync}
use Rattle.farm_disk.specs.Answers.{rested}
use Rattle.farm_disk.proofs.Moments.{leaves-now, leaves_only-start, leaves_only-step, leaves_only-rested, leaves_only-weaker, since_sync-rested, since_sync-run, settled-sync, synced-le}
use Rattle.farm_journal.specs.ReadsOnly.{ReadsOnly}
use Rattle.farm_journal.specs.Outcome.{SyncEnds}
use Rattle.farm_journal.specs.declared.disk_calls.DiskFault.{DiskFault}

-- a call that changed nothing, later
since_sync-still : (old mid new : DiskState) (P : List ℕ → Type 0) → LeavesSinceSync old mid P → new ≡ rested mid
    → LeavesSinceSync old new P
since_sync-still old mid new P leaves is = subst (λ (d : DiskState). LeavesSinceSync old d P) (sym is) more
  where
    more : LeavesSinceSync old (rested mid) P
    more t later held =
        let before = leaves t later held in (λ c image. leaves-now t mid.steps P before c image, λ le. before)

-- an image that a crash might have left at the start, or what a read gives
abbrev IsOldOrRead : DiskState → List ℕ → Type 0
IsOldOrRead old c = IsImage old.steps c ⊎ (c ≡ old.bytes)

old-start : (disk : DiskState) → LeavesOnly disk disk (IsOldOrRead disk)
old-start disk = leaves_only-start disk (IsOldOrRead disk) (λ c image. inl image)

-- what each image was at the start, and what a read gives, each image is. For the crates above too.
pub reads-leaves : (old new : DiskState) → ReadsOnly old new → (P : List ℕ → Type 0) → EachImage old.steps P
    → P old.bytes → LeavesOnly old new P
reads-leaves old new reads P each at = leaves_only-weaker old new (IsOldOrRead old) P
    (λ c one. ⊎_elim
    (λ (before : IsImage old.steps c). each c before)
    (λ (read : c ≡ old.bytes). subst P (sym read) at)
    one) reads.any_moment

-- no call was made. For the crate above too.
pub reads-none : (disk : DiskState) → ReadsOnly disk disk
reads-none disk = record {
  bytes = refl;
  since_sync = λ t later held. absurd (omega (arith, later, synced-le disk.steps t held));
  any_moment = old-start disk;
}

pub reads-rested : (old mid new : DiskState) → ReadsOnly old mid → new ≡ rested mid → ReadsOnly old new
reads-rested old mid new reads is = record {
  bytes = ap (λ (d : DiskState). d.bytes) is ∙ reads.bytes;
  since_sync = since_sync-still old mid new (λ c. c ≡ old.bytes) reads.since_sync is;
  any_moment = leaves_only-rested old mid new (IsOldOrRead old) reads.any_moment is;
}

pub reads-sync : (old new : DiskState) (r : Result (Unit {0}) DiskFault) → SyncEnds r old new → ReadsOnly old new
reads-sync old new (Ok u) is =
    let steps : new.steps ≡ sync old.bytes ∷ old.steps = ap (λ (d : DiskState). d.steps) is in
    let settled : IsSettled new = settled-sync old new is in
    let same : new.bytes ≡ old.bytes = ap (λ (d : DiskState). d.bytes) is in
    record {
      bytes = same;
      since_sync = since_sync-run old new new (λ c. c ≡ old.bytes) steps
          (leaves_only-start new (λ c. c ≡ old.bytes) (λ c image. settled c image ∙ same));
      any_moment = leaves_only-step old old new (IsOldOrRead old) (sync old.bytes) (old-start old) steps
          (λ c image. inr image);
    }
reads-sync old new (Err e) is = record {
  bytes = ap (λ (d : DiskState). d.bytes) is;
  since_sync = since_sync-rested old new (λ c. c ≡ old.bytes) is;
  any_moment = leaves_only-rested old old new (IsOldOrRead old) (old-start old) is;
}
