-- What each step of an append, a repair and an upgrade leaves.
use Rattle.std.proofs.Common.{◌≡◌, ◌≢◌, ◌⊎◌, inl, inr, ⊎_elim, get_or, take, drop, ℕ, ◌+◌, List, [], ◌∷◌, ◌++◌, length, Result, Ok, Err, OnOk, refl, sym, ◌∙◌, ap, subst}
use Rattle.farm_disk.specs.Images.{DiskState, write, sync, LeavesOnly, IsSettled, overwritten}
use Rattle.farm_disk.specs.Answers.{rested, after_write, after_sync}
use Rattle.farm_disk.proofs.Moments.{leaves_only-start, leaves_only-step, leaves_only-now, leaves_only-rested, torn-settled, settled-sync, settled-rested}
use Rattle.farm_journal.specs.Layout.{framed, IsPayload}
use Rattle.farm_journal.specs.Gates.{Holds, Stands, IsEither, Waits, Rests}
use Rattle.farm_journal.specs.Outcome.{WriteEnds, SyncEnds}
use Rattle.farm_journal.specs.declared.disk_calls.DiskFault.{DiskFault}
use Rattle.farm_journal.specs.declared.disk_calls.DiskFault.TheVariants as fault
use Rattle.farm_journal.proofs.Once.{gate-shut, gate-open}
use Rattle.farm_journal.proofs.Bytes.{Staged, staged, holds_torn, holds-staged, torn_gate, opened_gate}

-- what holds of an `Ok`
pub on_ok : (r : Result (Unit {0}) DiskFault) (P : Type 0) → ((u : Unit {0}) → r ≡ Ok u → P) → OnOk r P
on_ok (Ok u) P holds = holds u refl
on_ok (Err e) P holds = tt

-- a sync leaves the size
pub length-synced : (mid now : DiskState) (r : Result (Unit {0}) DiskFault) → SyncEnds r mid now
    → length now.bytes ≡ length mid.bytes
length-synced mid now (Ok u) is = ap (λ (d : DiskState). length d.bytes) is
length-synced mid now (Err e) is = ap (λ (d : DiskState). length d.bytes) is

-- each image since the first state, and what a read gives, holds the payloads before or these and the new one
pub record Went (known : ℕ) (ps : List (List ℕ)) (g : ℕ) (p : List ℕ) (first now : DiskState) : Type 0 where
  pub images : LeavesOnly first now (IsEither known ps g p)
  pub reads : IsEither known ps g p now.bytes

-- a file at rest still is after a call that changed nothing
pub rests-rested : (known : ℕ) (ps : List (List ℕ)) (g : ℕ) (old new : DiskState) → Rests known ps g old
    → new ≡ rested old → Rests known ps g new
rests-rested known ps g old new rests is = record {
  stands = subst (Stands known ps g) (sym (ap (λ (d : DiskState). d.bytes) is)) rests.stands;
  settled = settled-rested old new rests.settled is;
}

module _ (known : ℕ) (ps : List (List ℕ)) (g : ℕ) (p : List ℕ) (first : DiskState) where
  pub waits : (now : DiskState) → Went known ps g p first now → Waits known ps g p now
  waits now went = record { images = leaves_only-now first now (IsEither known ps g p) went.images; reads = went.reads }

  pub started : Rests known ps g first → Went known ps g p first first
  started rests = record {
    images = leaves_only-start first (IsEither known ps g p)
        (λ c image. inl (subst (Stands known ps g) (sym (rests.settled c image)) rests.stands));
    reads = inl rests.stands;
  }

  pub went-rested : (mid now : DiskState) → Went known ps g p first mid → now ≡ rested mid → Went known ps g p first now
  went-rested mid now went is = record {
    images = leaves_only-rested first mid now (IsEither known ps g p) went.images is;
    reads = subst (IsEither known ps g p) (sym (ap (λ (d : DiskState). d.bytes) is)) went.reads;
  }

  pub went-sync : (mid now : DiskState) (r : Result (Unit {0}) DiskFault) → Went known ps g p first mid
      → SyncEnds r mid now → Went known ps g p first now
  went-sync mid now (Ok u) went is = record {
    images = leaves_only-step first mid now (IsEither known ps g p) (sync mid.bytes) went.images
        (ap (λ (d : DiskState). d.steps) is) (λ c image. subst (IsEither known ps g p) (sym image) went.reads);
    reads = subst (IsEither known ps g p) (sym (ap (λ (d : DiskState). d.bytes) is)) went.reads;
  }
  went-sync mid now (Err e) went is = went-rested mid now went is

  -- an append that failed, before the repair
  pub started-waiting : Waits known ps g p first → Went known ps g p first first
  started-waiting waiting = record {
    images = leaves_only-start first (IsEither known ps g p) waiting.images;
    reads = waiting.reads;
  }

  -- a gate that reads 0
  pub went-shut : (now : DiskState) → Went known ps g p first now → get_or (take 1 (drop g now.bytes)) 0 0 ≡ 0
      → Stands known ps g now.bytes
  went-shut now went reads =
      ⊎_elim (λ (shut : Stands known ps g now.bytes). shut)
      (λ (opened : Stands 2 (ps ++ p ∷ []) (g + 5 + length p) now.bytes).
      let byte = gate-open opened.version ps g p now.bytes opened.held in
      absurd (byte.1 (sym (ap (λ (l : List ℕ). get_or l 0 0) byte.2) ∙ reads))) went.reads

  -- a gate that doesn't
  pub went-open : (now : DiskState) → Went known ps g p first now → get_or (take 1 (drop g now.bytes)) 0 0 ≢ 0
      → Stands 2 (ps ++ p ∷ []) (g + 5 + length p) now.bytes
  went-open now went reads = ⊎_elim (λ (shut : Stands known ps g now.bytes).
      absurd (reads (ap (λ (l : List ℕ). get_or l 0 0) (gate-shut shut.version ps g now.bytes shut.held))))
      (λ (opened : Stands 2 (ps ++ p ∷ []) (g + 5 + length p) now.bytes). opened) went.reads

-- an append on a file at rest of version 2
module _ (ps : List (List ℕ)) (g : ℕ) (p : List ℕ) (first : DiskState) (rests : Rests 2 ps g first)
    (fits : IsPayload p) where
  before : (c : List ℕ) → Holds rests.stands.version ps g c → IsEither 2 ps g p c
  before c held = inl (record { version = rests.stands.version; is_new = rests.stands.is_new; held = held })

  either : (c : List ℕ)
      → Holds rests.stands.version ps g c ⊎ Holds rests.stands.version (ps ++ p ∷ []) (g + 5 + length p) c
      → IsEither 2 ps g p c
  either c one =
      ⊎_elim (before c) (λ (after : Holds rests.stands.version (ps ++ p ∷ []) (g + 5 + length p) c). inr (record {
        version = rests.stands.version;
        is_new = rests.stands.is_new;
        held = after;
      })) one

  -- the write of the record
  pub went-record : (bytes : List ℕ) (now : DiskState) (r : Result (Unit {0}) DiskFault) → bytes ≡ framed p ++ 0 ∷ []
      → WriteEnds (g + 1) bytes r first now → Went 2 ps g p first now
  went-record bytes now (Ok u) is_bytes is =
      let whole : Staged rests.stands.version ps g p (overwritten (g + 1) bytes first.bytes) =
      subst (λ (b : List ℕ). Staged rests.stands.version ps g p (overwritten (g + 1) b first.bytes)) (sym is_bytes)
      (staged rests.stands.version ps g p first.bytes rests.stands.held fits) in
      record {
        images = leaves_only-step first first now (IsEither 2 ps g p) (write (g + 1) (length bytes))
            (started 2 ps g p first rests).images (ap (λ (d : DiskState). d.steps) is)
            (λ c image. before c
            (holds_torn rests.stands.version ps g (length bytes) first.bytes c rests.stands.held
            (torn-settled first (g + 1) (length bytes) rests.settled c image)));
        reads = before now.bytes
            (subst (Holds rests.stands.version ps g) (sym (ap (λ (d : DiskState). d.bytes) is))
            (holds-staged rests.stands.version ps g p (overwritten (g + 1) bytes first.bytes) whole));
      }
  went-record bytes now (Err fault.Failed) is_bytes is = record {
    images = leaves_only-step first first now (IsEither 2 ps g p) (write (g + 1) (length bytes))
        (started 2 ps g p first rests).images is.steps
        (λ c image. before c
        (holds_torn rests.stands.version ps g (length bytes) first.bytes c rests.stands.held
        (torn-settled first (g + 1) (length bytes) rests.settled c image)));
    reads = before now.bytes
        (holds_torn rests.stands.version ps g (length bytes) first.bytes now.bytes rests.stands.held is.bytes);
  }
  went-record bytes now (Err fault.Memory) is_bytes is =
      went-rested 2 ps g p first first now (started 2 ps g p first rests) is

  -- the write of the gate, once the record is on the disk
  pub went-gate : (mid now : DiskState) (r : Result (Unit {0}) DiskFault) → Went 2 ps g p first mid
      → Staged rests.stands.version ps g p mid.bytes → IsSettled mid → WriteEnds g (1 ∷ []) r mid now
      → Went 2 ps g p first now
  went-gate mid now (Ok u) went whole on_disk is = record {
    images = leaves_only-step first mid now (IsEither 2 ps g p) (write g 1) went.images
        (ap (λ (d : DiskState). d.steps) is)
        (λ c image. either c
        (torn_gate rests.stands.version ps g p mid.bytes c whole (torn-settled mid g 1 on_disk c image)));
    reads = either now.bytes
        (inr (subst (Holds rests.stands.version (ps ++ p ∷ []) (g + 5 + length p))
        (sym (ap (λ (d : DiskState). d.bytes) is)) (opened_gate rests.stands.version ps g p mid.bytes whole)));
  }
  went-gate mid now (Err fault.Failed) went whole on_disk is = record {
    images = leaves_only-step first mid now (IsEither 2 ps g p) (write g 1) went.images is.steps
        (λ c image. either c
        (torn_gate rests.stands.version ps g p mid.bytes c whole (torn-settled mid g 1 on_disk c image)));
    reads = either now.bytes (torn_gate rests.stands.version ps g p mid.bytes now.bytes whole is.bytes);
  }
  went-gate mid now (Err fault.Memory) went whole on_disk is = went-rested 2 ps g p first mid now went is

  -- the record is on the disk behind its closed gate
  pub staged-sync : (bytes : List ℕ) (mid now : DiskState) → bytes ≡ framed p ++ 0 ∷ []
      → mid ≡ after_write (g + 1) bytes first → now ≡ after_sync mid → Staged rests.stands.version ps g p now.bytes
  staged-sync bytes mid now is_bytes wrote synced =
      let whole : Staged rests.stands.version ps g p (overwritten (g + 1) bytes first.bytes) =
      subst (λ (b : List ℕ). Staged rests.stands.version ps g p (overwritten (g + 1) b first.bytes)) (sym is_bytes)
      (staged rests.stands.version ps g p first.bytes rests.stands.held fits) in
      subst (Staged rests.stands.version ps g p)
      (sym (ap (λ (d : DiskState). d.bytes) synced ∙ ap (λ (d : DiskState). d.bytes) wrote)) whole

  -- after the last sync
  pub acknowledged : (mid wrote now : DiskState) → Staged rests.stands.version ps g p mid.bytes
      → wrote ≡ after_write g (1 ∷ []) mid → now ≡ after_sync wrote → Rests 2 (ps ++ p ∷ []) (g + 5 + length p) now
  acknowledged mid wrote now whole opened synced = record {
    stands = record {
      version = rests.stands.version;
      is_new = rests.stands.is_new;
      held = subst (Holds rests.stands.version (ps ++ p ∷ []) (g + 5 + length p))
          (sym (ap (λ (d : DiskState). d.bytes) synced ∙ ap (λ (d : DiskState). d.bytes) opened))
          (opened_gate rests.stands.version ps g p mid.bytes whole);
    };
    settled = settled-sync wrote now synced;
  }
